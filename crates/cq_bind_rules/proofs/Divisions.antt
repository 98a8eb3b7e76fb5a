-- Divisions, whose operands were looked at first.
use Rattle.std.proofs.Common.{◌≡◌, ℕ, ℤ, ◌+◌, Bool, ◌&&◌, Option, Result, subst}
use Rattle.cq_tree.specs.declared.expression.Expr.{Div, Rem}
use Rattle.cq_grammar.specs.declared.expr.MultiplyOperator.TheVariants as multiply
use Rattle.cq_reading.specs.declared.bound.Bound.{Bound}
use Rattle.cq_reading.specs.declared.error.BindError.{BindError}
use Rattle.cq_reading.specs.declared.error.BindError.TheVariants as error
use Rattle.cq_reading.specs.Steps.{provided}
use Rattle.cq_reading.specs.Outcomes.{Judges}
use Rattle.cq_reading.specs.Widths.{is_number, width_of}
use Rattle.cq_reading.specs.Rules.{multiplied, divided_by}

pub divided_is : (fit : Bool) (a b : Bound) (c : Option ℤ) (at : ℕ) (result : Result Bound BindError) → fit ≡ (is_number a && is_number b)
    → Judges (provided fit (error.Type at) (divided_by Div (width_of a + 1) a at c)) result → Judges (multiplied multiply.Divide a b c at) result
divided_is fit a b c at result e j = subst (λ f. Judges (provided f (error.Type at) (divided_by Div (width_of a + 1) a at c)) result) e j

pub left_over_is : (fit : Bool) (a b : Bound) (c : Option ℤ) (at : ℕ) (result : Result Bound BindError) → fit ≡ (is_number a && is_number b)
    → Judges (provided fit (error.Type at) (divided_by Rem (width_of a) a at c)) result → Judges (multiplied multiply.Remainder a b c at) result
left_over_is fit a b c at result e j = subst (λ f. Judges (provided f (error.Type at) (divided_by Rem (width_of a) a at c)) result) e j
