-- What a call gives of operands: their trees and widths, their conditions, or a refusal.
use Rattle.std.specs.Prelude.{◌≡◌, ℕ, true, false, ◌&&◌, Result, Ok, Err}
use Rattle.cq_tree.specs.declared.expression.Cond.{Cond}
use Rattle.cq_tree.specs.declared.expression.Expr.{Expr}
use Rattle.cq_reading.specs.declared.bound.Bound.{Bound}
use Rattle.cq_reading.specs.declared.error.BindError.{BindError}
use Rattle.cq_reading.specs.declared.error.BindError.TheVariants as error
use Rattle.cq_reading.specs.Widths.{expr_of, width_of, cond_of, is_number, is_truth}

-- the first error of two
abbrev pub FirstError : {A B : Type 0} → Result A BindError → Result B BindError → BindError → Type 0
FirstError (Err e) b f = f ≡ e
FirstError (Ok a) (Err e) f = f ≡ e
FirstError (Ok a) (Ok b) f = ⊥

abbrev pub BothOr : {A B : Type 0} → Result A BindError → Result B BindError → Result (A × B) BindError → Type 0
BothOr a b (Ok p) = (a ≡ Ok p.0) × (b ≡ Ok p.1)
BothOr a b (Err e) = FirstError a b e

-- the tree and the width of a number
abbrev pub NumberOr : Bound → ℕ → Result (Expr × ℕ) BindError → Type 0
NumberOr b at (Ok r) = (is_number b ≡ true) × (expr_of b ≡ r.0) × (width_of b ≡ r.1)
NumberOr b at (Err e) = (is_number b ≡ false) × (e ≡ error.Type at)

-- of two
abbrev pub BothNumbersOr : Bound → Bound → ℕ → Result ((Expr × ℕ) × (Expr × ℕ)) BindError → Type 0
BothNumbersOr a b at (Ok r) = ((is_number a && is_number b) ≡ true) × (expr_of a ≡ r.0.0) × (width_of a ≡ r.0.1) × (expr_of b ≡ r.1.0) × (width_of b ≡ r.1.1)
BothNumbersOr a b at (Err e) = ((is_number a && is_number b) ≡ false) × (e ≡ error.Type at)

abbrev pub TruthOr : Bound → ℕ → Result Cond BindError → Type 0
TruthOr b at (Ok c) = (is_truth b ≡ true) × (cond_of b ≡ c)
TruthOr b at (Err e) = (is_truth b ≡ false) × (e ≡ error.Type at)

-- of two
abbrev pub BothTruthsOr : Bound → Bound → ℕ → Result (Cond × Cond) BindError → Type 0
BothTruthsOr a b at (Ok r) = ((is_truth a && is_truth b) ≡ true) × (cond_of a ≡ r.0) × (cond_of b ≡ r.1)
BothTruthsOr a b at (Err e) = ((is_truth a && is_truth b) ≡ false) × (e ≡ error.Type at)
