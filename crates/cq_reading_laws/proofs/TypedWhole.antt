-- What an expression is read as is of its type, and so is a SELECT.
use Rattle.std.proofs.Common.{List, false, length, refl, subst, sym, ◌∙◌}
use Rattle.cq_reading.specs.declared.bound.Bound.{Bound}
use Rattle.cq_reading.specs.declared.bound.Bound.TheVariants.{Value, Truth}
use Rattle.cq_reading.specs.Widths.{ValueType}
use Rattle.cq_reading_laws.specs.Typing.{input_types}
use Rattle.cq_reading_laws.specs.Reach.{IsOfType}
use Rattle.cq_reading_laws.specs.TypingLaws.{ExpressionsTyped, GroupedTyped, SelectsTyped}
use Rattle.cq_reading_laws.proofs.Standing.{no_truth}
use Rattle.cq_reading_laws.proofs.TypedNodes.{Sound}
use Rattle.cq_reading_laws.proofs.TypedKeeping.{Setting, Later, RunIf, Fine, now}
use Rattle.cq_reading_laws.proofs.TypedFurtherParts.{BlockIf}
use Rattle.cq_reading_laws.proofs.TypedTree.{expression_typed, select_typed}

of_sound : (G : Type 0) (ts : List ValueType) (rs : List (List ValueType)) (b : Bound) → Sound G ts rs b → G → IsOfType ts rs b
of_sound G ts rs (Value e t w) h g = (h.of, h.expression g)
of_sound G ts rs (Truth c) h g = h.condition g

pub grouped_typed : GroupedTyped
grouped_typed cs base ts cx x found new b written world have may good is =
    let z : Setting = record { types = cs; base = base; columns = ts; reach = length cx.world.commons; asked = false } in
    let r = subst (RunIf z cx (Later (Fine z cx)) found) is (expression_typed x written z cx (record { world = world; reach = refl; columns = have }) may found (record { typed = good; steady = λ e. absurd (no_truth e) })) in
    (r.0.typed, λ later l given. of_sound _ _ _ b (r.2 later l) given)

pub expressions_typed : ExpressionsTyped
expressions_typed cs base ts cx x found new b written world have plain refused good is =
    let r = grouped_typed cs base ts cx x found new b written world have (λ a m. absurd (no_truth (sym refused ∙ m))) good is in
    (r.0, λ given. subst (λ g. IsOfType (input_types ts g cx.keys new.aggs) cs.results b) plain (r.1 new (now new) given))

pub selects_typed : SelectsTyped
selects_typed cs w x found new block written fit is = (subst (BlockIf cs (length w.commons) found) is (select_typed x written cs w fit found)).0
