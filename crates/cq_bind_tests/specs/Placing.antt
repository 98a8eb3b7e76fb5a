-- Whether an IN subquery may stand somewhere.
use Rattle.std.specs.Prelude.{◌≡◌, ℕ, Bool, true, Result, Ok, Err}
use Rattle.cq_reading.specs.declared.bound.Found.{Found}
use Rattle.cq_reading.specs.declared.error.BindError.{BindError}
use Rattle.cq_reading.specs.declared.bound.Bound.{Bound}
use Rattle.cq_reading.specs.declared.bound.Block.{Block}
use Rattle.cq_reading.specs.Scopes.{Context}
use Rattle.cq_reading.specs.Widths.{are_alike}
use Rattle.cq_reading.specs.Expressions.{is_one, output_bound, among}

abbrev pub AmongOr : Context → Bound → ℕ → Block → Result (Unit {0}) BindError → Type 0
AmongOr cx x at block (Ok u) = (cx.may_select ≡ true) × (is_one block.outputs ≡ true) × (are_alike x (output_bound block.outputs) ≡ true)
AmongOr cx x at block (Err e) = (negate : Bool) (k : ℕ) (found : Found) → among cx x negate at k block found ≡ Err e
