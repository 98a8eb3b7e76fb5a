-- Two halves of a chain, and the chain of equalities that IN is.
use Rattle.std.specs.Prelude.{◌≡◌, ℕ, Bool, Result, Ok, Err}
use Rattle.cq_tree.specs.declared.expression.Op.TheVariants as op
use Rattle.cq_tree.specs.declared.expression.Expr.{Expr}
use Rattle.cq_tree.specs.declared.expression.Cond.{Cond, Compare}
use Rattle.cq_reading.specs.declared.bound.Bound.{Bound}
use Rattle.cq_reading.specs.declared.bound.Bound.TheVariants.{Truth}
use Rattle.cq_reading.specs.declared.error.BindError.{BindError}
use Rattle.cq_reading.specs.Outcomes.{Judges}
use Rattle.cq_reading.specs.Widths.{expr_of}
use Rattle.cq_reading.specs.Rules.{ChainPart, joined}

-- what two halves give together
abbrev pub JoinedOr : Bool → ℕ → Result Bound BindError → Result Bound BindError → Result Bound BindError → Type 0
JoinedOr any at (Err e) right result = result ≡ Err e
JoinedOr any at (Ok a) (Err e) result = result ≡ Err e
JoinedOr any at (Ok a) (Ok b) result = Judges (joined any a b at) result

abbrev pub equality : Expr → Bound → Cond
equality x i = Compare op.Eq x (expr_of i)

abbrev pub part_of : Cond → ChainPart
part_of c = (Truth c, 0)
