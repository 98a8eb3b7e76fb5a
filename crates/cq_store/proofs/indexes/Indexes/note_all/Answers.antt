use Rattle.cq_store.proofs.indexes.Indexes.note_all.Goals as goal

pub returns : goal.returns
returns c t h = record { first = c.note_all.ensures t h.first; second = c.note_all-2.ensures t h.second; third = c.note_all-3.ensures t h.third }
