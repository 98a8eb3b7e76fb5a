use Rattle.std.proofs.Common.{◌≡◌, Some, fold, ap, arith, rules, sym, ◌∙◌}
use mir.Val.{SFits}
use mir.Syntax.{w128}
use Rattle.std.proofs.lemmas.Int.{to_z-of_z}
use Rattle.cq_value.specs.declared.value.Value.TheVariants.{Int}
use Rattle.cq_copy.specs.Values.{with_digit, unsigned, is_negative, with_sign}
use Rattle.cq_copy.proofs.ValueLaws.{plain_within}
use Rattle.cq_copy.proofs.values.plain_within.Goals as goal

pub returns-in-Some : goal.returns-in-Some
returns-in-Some c =
    let p = rw c.unsigned.ensures at c.in-Some.ensures in
    let same : c.in-Some.n ≡ fold with_digit 0 (unsigned c.args.text.now) = omega (arith, p.2, c.requires, c.if-n-limit.true) in
    let is : c.with_sign.result ≡ with_sign (is_negative c.args.text.now) c.in-Some.n = rw c.is_negative.ensures at c.with_sign.ensures in
    let fits : SFits w128 c.with_sign.result = search rules in
    plain_within c.args.limit c.args.text.now c.in-Some.n p.0 p.1 same c.if-n-limit.true ∙ ap (λ x. Some (Int x)) (sym is ∙ sym (to_z-of_z w128 c.with_sign.result fits))
