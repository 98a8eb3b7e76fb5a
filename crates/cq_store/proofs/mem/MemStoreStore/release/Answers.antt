use Rattle.std.proofs.Common.{rules}
use Rattle.cq_store.proofs.mem.MemStoreStore.release.Goals as goal

pub invariant_of-self : goal.invariant_of-self
invariant_of-self c = (search rules, c.new-3.ensures _)
