use Rattle.std.proofs.Common.{◌≡◌, ◌+◌, ◌≤◌, ◌++◌, ◌∷◌, [], All, length, sym, arith}
use Rattle.cq_store.specs.Faults.{held}
use Rattle.cq_cluster.specs.Cluster.{AreIdle, IsWaiting, IsIdle}
use Rattle.cq_top.proofs.MakingLaws.{idle_more, count_more}
use Rattle.cq_cases.proofs.moves.workers_of.Goals as goal

pub loop-node-preserved : goal.loop-node-preserved
loop-node-preserved c =
    let of_next : c.new.result.node ≡ c.loop-node.node + 1 = search in
    let waiting : All (λ x. IsWaiting (c.loop-node.node + 1) (held x)) c.new.result.stores.items = rw c.new.ensures.stores c.in_ok-stores.ensures in
    let one : IsIdle held c.loop-node.node c.new.result = record {
      node = of_next;
      stores = waiting;
    } in
    let idle : AreIdle held (c.loop-node.workers.items ++ c.new.result ∷ []) =
    idle_more held c.loop-node.workers.items c.loop-node.node c.new.result c.loop-node.invariant.idle (sym c.loop-node.invariant.count) one in
    let grown : c.push.new.self.items ≡ c.loop-node.workers.items ++ c.new.result ∷ [] = c.in_ok-push.ensures.items in
    let more : AreIdle held c.push.new.self.items = rw grown idle in
    let as_many : length c.push.new.self.items ≡ c.loop-node.node + 1 =
    rw grown (count_more c.loop-node.workers.items c.loop-node.node c.new.result c.loop-node.invariant.count) in
    let within : c.loop-node.node + 1 ≤ 2 = omega (arith, c.loop-node-test.true) in
    record { idle = more; count = as_many; most = within }
