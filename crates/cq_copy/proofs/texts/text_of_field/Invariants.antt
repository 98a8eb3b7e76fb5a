use Rattle.std.proofs.Common.{◌≡◌, ◌++◌, length}
use Rattle.std.specs.Prelude.{option_map}
use Rattle.cq_copy.specs.Texts.{text_of}
use Rattle.cq_copy.proofs.texts.text_of_field.Given as goal

abbrev pub invariant-bytes : goal.invariant-bytes
invariant-bytes l = text_of l.fn.field ≡ option_map (λ t. l.text.items ++ t) (text_of l.left)

abbrev pub decreases-bytes : goal.decreases-bytes
decreases-bytes l = length l.left
