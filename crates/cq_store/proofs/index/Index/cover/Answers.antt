use Rattle.cq_store.proofs.index.Index.cover.Goals as goal

pub returns-then-not-is_of-clause-holds : goal.returns-then-not-is_of-clause-holds
returns-then-not-is_of-clause-holds c = c.start.ensures _ c.requires

pub returns-then-is_err-clause-holds : goal.returns-then-is_err-clause-holds
returns-then-is_err-clause-holds c = c.renew.ensures.holds _ c.requires

pub keep_up-requires-clause-holds : goal.keep_up-requires-clause-holds
keep_up-requires-clause-holds c = c.renew.ensures.holds _ c.requires
