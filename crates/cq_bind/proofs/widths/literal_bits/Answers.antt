use Rattle.std.proofs.Common.{rules, ◌≡◌, ◌≤◌, ◌^◌, ap, sym, subst, ◌∙◌}
use Rattle.std.specs.Prelude.{unsigned_abs}
use Rattle.cq_meaning.specs.Widths.{digits_in, bits_of_value, IsBelow}
use Rattle.cq_bind.proofs.StepLaws.{digits_below}
use Rattle.cq_bind.proofs.widths.literal_bits.Goals as goal

pub returns-in-Int-clause-is : goal.returns-in-Int-clause-is
returns-in-Int-clause-is c =
    let same : c.unsigned_abs.result ≡ unsigned_abs c.in-Int.x = search rules in
    c.digits_in.ensures.is ∙ (ap (λ n. digits_in 128 n) same ∙ ap bits_of_value (sym c.in-Int.is))

pub returns-in-Int-clause-below : goal.returns-in-Int-clause-below
returns-in-Int-clause-below c =
    let same : c.unsigned_abs.result ≡ unsigned_abs c.in-Int.x = search rules in
    subst (λ v. IsBelow (bits_of_value v) v) (sym c.in-Int.is) (subst (λ n. n ≤ 2 ^ digits_in 128 n) same (digits_below c.unsigned_abs.result c.unsigned_abs.type_inv))
