-- Two operands that are to be conditions, or numbers.
use Rattle.std.proofs.Common.{◌≡◌, ℕ, Bool, ◌&&◌, Result, Ok, Err, ap, ap₂, ◌∙◌}
use Rattle.cq_tree.specs.declared.expression.Cond.{Cond}
use Rattle.cq_tree.specs.declared.expression.Expr.{Expr}
use Rattle.cq_reading.specs.declared.bound.Bound.{Bound}
use Rattle.cq_reading.specs.declared.error.BindError.{BindError}
use Rattle.cq_reading.specs.Widths.{is_truth, is_number}
use Rattle.cq_bind_operands.specs.Operands.{TruthOr, NumberOr, BothOr, BothTruthsOr, BothNumbersOr}

pub both_truths_is : (a b : Bound) (at : ℕ) (r s : Result Cond BindError) (t : Result (Cond × Cond) BindError) → TruthOr a at r → TruthOr b at s → BothOr r s t → BothTruthsOr a b at t
both_truths_is a b at (Ok x) (Ok y) (Ok p) h g j =
    let e : x ≡ p.0 = cc j.0 in
    let f : y ≡ p.1 = cc j.1 in
    (ap₂ (λ (t u : Bool). t && u) h.0 g.0, h.1 ∙ e, g.1 ∙ f)
both_truths_is a b at (Ok x) (Ok y) (Err f) h g j = absurd j
both_truths_is a b at (Ok x) (Err e) (Ok p) h g j = absurd (cc j.1)
both_truths_is a b at (Ok x) (Err e) (Err f) h g j = (ap₂ (λ (t u : Bool). t && u) h.0 g.0, j ∙ g.1)
both_truths_is a b at (Err e) s (Ok p) h g j = absurd (cc j.0)
both_truths_is a b at (Err e) s (Err f) h g j = (ap (λ (t : Bool). t && is_truth b) h.0, j ∙ h.1)

pub both_numbers_is : (a b : Bound) (at : ℕ) (r s : Result (Expr × ℕ) BindError) (t : Result ((Expr × ℕ) × (Expr × ℕ)) BindError) → NumberOr a at r → NumberOr b at s → BothOr r s t → BothNumbersOr a b at t
both_numbers_is a b at (Ok x) (Ok y) (Ok p) h g j =
    let e : x ≡ p.0 = cc j.0 in
    let f : y ≡ p.1 = cc j.1 in
    (ap₂ (λ (t u : Bool). t && u) h.0 g.0, h.1 ∙ ap (λ (q : Expr × ℕ). q.0) e, h.2 ∙ ap (λ (q : Expr × ℕ). q.1) e, g.1 ∙ ap (λ (q : Expr × ℕ). q.0) f, g.2 ∙ ap (λ (q : Expr × ℕ). q.1) f)
both_numbers_is a b at (Ok x) (Ok y) (Err f) h g j = absurd j
both_numbers_is a b at (Ok x) (Err e) (Ok p) h g j = absurd (cc j.1)
both_numbers_is a b at (Ok x) (Err e) (Err f) h g j = (ap₂ (λ (t u : Bool). t && u) h.0 g.0, j ∙ g.1)
both_numbers_is a b at (Err e) s (Ok p) h g j = absurd (cc j.0)
both_numbers_is a b at (Err e) s (Err f) h g j = (ap (λ (t : Bool). t && is_number b) h.0, j ∙ h.1)
