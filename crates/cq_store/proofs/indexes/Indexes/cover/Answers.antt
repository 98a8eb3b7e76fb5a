use Rattle.cq_store.proofs.indexes.Indexes.cover.Goals as goal

pub cover-requires : goal.cover-requires
cover-requires c = (c.bring.ensures _ c.requires).first

pub returns-clause-hold : goal.returns-clause-hold
returns-clause-hold c = record { first = c.cover.ensures.holds; second = (c.bring.ensures _ c.requires).second; third = (c.bring.ensures _ c.requires).third }
