-- The arms of a CASE and the operands of a COALESCE as lists, as code sees them.
use Rattle.std.specs.Prelude.{ℕ, max, List, [], ◌∷◌}
use Rattle.cq_tree.specs.declared.expression.Expr.{Expr}
use Rattle.cq_tree.specs.declared.expression.Arm.{Arm}
use Rattle.cq_meaning.specs.Widths.{bits, IsBound, IsBoundCondition}

abbrev pub bits_of_arms_in : List ℕ → List Arm → ℕ
bits_of_arms_in ks [] = 0
bits_of_arms_in ks (arm ∷ arms) = max (bits ks arm.then) (bits_of_arms_in ks arms)

abbrev pub bits_of_all_in : List ℕ → List Expr → ℕ
bits_of_all_in ks [] = 0
bits_of_all_in ks (e ∷ es) = max (bits ks e) (bits_of_all_in ks es)

abbrev pub IsBoundArm : List ℕ → ℕ → Arm → Type 0
IsBoundArm ks n arm = IsBoundCondition ks n arm.when × IsBound ks n arm.then
