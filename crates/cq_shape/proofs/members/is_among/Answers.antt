use Rattle.std.proofs.Common.{rules}
use Rattle.std.proofs.lemmas.Fn.{always_returns_same}
use Rattle.cq_value.specs.Order.{value_cmp}
use Rattle.cq_shape.proofs.MemberLaws.{found_among, none_among}
use Rattle.cq_shape.proofs.members.is_among.Goals as goal

pub returns-in-Ok : goal.returns-in-Ok
returns-in-Ok c = found_among c.args.values.now c.args.value.now _ c.in-Ok.ensures.bound (c.in-Ok.ensures.position (λ y. value_cmp y c.args.value.now) (always_returns_same _ _ _ (λ a r f k. search rules)))

pub returns-in-Err : goal.returns-in-Err
returns-in-Err c = none_among c.args.values.now c.args.value.now _ c.requires (c.in-Err.ensures.position (λ y. value_cmp y c.args.value.now) (always_returns_same _ _ _ (λ a r f k. search rules)))
