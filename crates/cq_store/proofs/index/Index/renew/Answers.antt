use Rattle.cq_store.proofs.index.Index.renew.Goals as goal

pub returns-clause-holds : goal.returns-clause-holds
returns-clause-holds c pairs h = c.in_ok-self.ensures.holds pairs
