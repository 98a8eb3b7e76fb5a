use Rattle.cq_store.proofs.index.Index.note.Goals as goal

pub returns-then-not-stays : goal.returns-then-not-stays
returns-then-not-stays c t h = c.new.ensures _
