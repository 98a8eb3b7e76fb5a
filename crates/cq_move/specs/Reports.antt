-- The numbers of a move's report, in a row.
use Rattle.std.specs.Prelude.{ℕ, ◌+◌, List, pos, slice_set}
use Rattle.cq_value.specs.declared.value.Value.{Value}
use Rattle.cq_value.specs.declared.value.Value.TheVariants as values
use Rattle.cq_move.specs.declared.outcome.MoveReport.{MoveReport}

-- a row with the three numbers from this column on
abbrev pub with_report : List Value → ℕ → MoveReport → List Value
with_report row first r =
    slice_set (slice_set (slice_set row first (values.Int (pos r.copied))) (first + 1) (values.Int (pos r.caught))) (first + 2) (values.Int (pos r.last))
