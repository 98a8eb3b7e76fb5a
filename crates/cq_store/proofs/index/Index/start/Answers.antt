use Rattle.cq_store.proofs.index.Index.start.Goals as goal

pub returns-in-Ok : goal.returns-in-Ok
returns-in-Ok c pairs h = c.in-Ok.ensures.holds pairs
