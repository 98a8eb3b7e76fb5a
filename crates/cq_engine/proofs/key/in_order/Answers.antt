use Rattle.std.proofs.Common.{rules}
use Rattle.std.specs.Ordering.{is_lt}
use Rattle.std.proofs.lemmas.Fn.{always_returns_same}
use Rattle.cq_engine.specs.Keys.{Numbered, number_order}
use Rattle.cq_engine.proofs.KeyOrder.{number_order_weak}
use Rattle.cq_engine.proofs.key.in_order.Goals as goal

pub returns-clause-ordered : goal.returns-clause-ordered
returns-clause-ordered c =
    rw c.from_vec.ensures
    (c.sort_unstable_by.ensures.sorted (λ (x y : Numbered). is_lt (number_order c.args.key.now x y)) (number_order_weak c.args.key.now)
    (always_returns_same _ _ _ (λ a r f k. search rules)))
