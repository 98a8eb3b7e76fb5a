use Rattle.std.proofs.Common.{◌≡◌, ◌++◌, ◌∙◌, ap, rules}
use Rattle.std.specs.Int.{w128, to_le_bytes, cast_unsigned}
use Rattle.std.specs.Int.RustNames.{FitsSigned}
use Rattle.std.proofs.lemmas.Int.{to_z-of_z}
use Rattle.std.proofs.lemmas.Result.{on_ok_weaker}
use Rattle.cq_columnar.proofs.writing.push_value.Goals as goal

pub returns-in-Int-clause-bytes : goal.returns-in-Int-clause-bytes
returns-in-Int-clause-bytes c =
    let number = c.in-Int.number in
    let fits : FitsSigned w128 number = search rules in
    let e : c.to_le_bytes.result ≡ to_le_bytes w128 (cast_unsigned w128 number) = c.to_le_bytes.ensures ∙ ap (λ z. to_le_bytes w128 (cast_unsigned w128 z)) (to_z-of_z w128 number fits) in
    rw c.in-Int.is (on_ok_weaker c.push_bytes.result (λ h. h ∙ ap (λ bs. c.args.out.now.items ++ bs) e) c.push_bytes.ensures)
