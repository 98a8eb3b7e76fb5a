use Rattle.cq_store.proofs.indexes.Indexes.new.Goals as goal

pub returns : goal.returns
returns c pairs = record { first = c.new.ensures pairs; second = c.new-2.ensures pairs; third = c.new-3.ensures pairs }
