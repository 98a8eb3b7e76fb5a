use Rattle.std.proofs.Common.{◌≡◌, ◌≤◌, length}
use Rattle.cq_store.specs.Faults.{held}
use Rattle.cq_cluster.specs.Cluster.{AreIdle}
use Rattle.cq_cases.proofs.moves.workers_of.Given as goal

abbrev pub invariant-loop-node : goal.invariant-loop-node
invariant-loop-node l = record {
  idle : AreIdle held l.workers.items;
  count : length l.workers.items ≡ l.node;
  most : l.node ≤ 2;
}
