-- The column of a key that an expression is.
use Rattle.std.specs.Prelude.{◌≡◌, List, Option, None, Result, Ok, Err, MatchResult}
use Rattle.cq_tree.specs.declared.expression.Expr.{Expr}
use Rattle.cq_reading.specs.declared.bound.Found.{Found}
use Rattle.cq_reading.specs.declared.bound.Bound.{Bound}
use Rattle.cq_reading.specs.declared.error.BindError.{BindError}
use Rattle.cq_reading.specs.declared.error.BindError.TheVariants.{Memory}
use Rattle.cq_reading.specs.Rules.{key_column}
use Rattle.cq_reading.specs.Outcomes.{Binds}

-- of what an expression is read as by itself; where it is refused it is no key
abbrev pub key_of : List Expr → Result (Bound × Found) BindError → Option Bound
key_of keys (Ok p) = key_column keys p.0
key_of keys (Err e) = None

-- the same where the expression has been read, unless memory fails
abbrev pub IsKeyOf : List Expr → Result Bound BindError → Result (Option Bound) BindError → Type 0
IsKeyOf keys attempt result = (o : Result (Bound × Found) BindError) (new : Found) → Binds o attempt new → MatchResult result (λ k. k ≡ key_of keys o) (λ e. e ≡ Memory)
