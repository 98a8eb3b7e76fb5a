use Rattle.std.proofs.Common.{◌≡◌}
use Rattle.cq_move.specs.Taking.{is_broken}
use Rattle.cq_move.proofs.TakeLaws.{NoneBefore}
use Rattle.cq_move.proofs.taking.take_broken.Given as goal

abbrev pub invariant-loop-place : goal.invariant-loop-place
invariant-loop-place g l = record {
  same : l.stores ≡ l.fn.stores;
  before : NoneBefore (λ x. is_broken l.shard l.after (g.S.Store.state x)) l.stores.items l.place;
}
