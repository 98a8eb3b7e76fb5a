use Rattle.std.proofs.Common.{rules}
use Rattle.cq_store.proofs.mem.MemStore.new.Goals as goal

pub invariant_of-result : goal.invariant_of-result
invariant_of-result c = (search rules, c.new-2.ensures _)
