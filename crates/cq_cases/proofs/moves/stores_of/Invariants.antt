use Rattle.std.proofs.Common.{All}
use Rattle.cq_store.specs.Faults.{held}
use Rattle.cq_cluster.specs.Cluster.{IsWaiting}
use Rattle.cq_cases.proofs.moves.stores_of.Given as goal

abbrev pub invariant-loop-place : goal.invariant-loop-place
invariant-loop-place l = All (λ s. IsWaiting l.fn.node (held s)) l.stores.items
