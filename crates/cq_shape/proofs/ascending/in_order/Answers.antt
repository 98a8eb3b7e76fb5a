use Rattle.std.proofs.Common.{rules, Bool}
use Rattle.std.specs.Ordering.{is_lt}
use Rattle.std.proofs.lemmas.Fn.{always_returns_same}
use Rattle.std.proofs.lemmas.List.Sorted.{ranks_by}
use Rattle.cq_value.specs.declared.value.Value.{Value}
use Rattle.cq_value.specs.Order.{value_cmp}
use Rattle.cq_value.proofs.OrderLaws.{value_cmp_total}
use Rattle.cq_meaning.proofs.StableSort.{sort_is}
use Rattle.cq_shape.proofs.ascending.in_order.Goals as goal

pub returns-in-Ok : goal.returns-in-Ok
returns-in-Ok c =
    let lt : Value → Value → Bool = λ x y. is_lt (value_cmp x y) in
    rw (c.from_vec.ensures, ← c.into_vec-all.ensures) (sort_is lt (ranks_by value_cmp_total (λ v. v)) c.into_vec-all.result.items c.sort_by.new.self.items
    (c.in-Ok.ensures.sorted lt (ranks_by value_cmp_total (λ v. v)) (always_returns_same _ _ _ (λ a r f k. search rules)))
    (c.in-Ok.ensures.stable lt (ranks_by value_cmp_total (λ v. v)) (always_returns_same _ _ _ (λ a r f k. search rules))))
