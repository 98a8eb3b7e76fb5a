use Rattle.std.proofs.Common.{◌≡◌, ◌≤◌, take}
use Rattle.std.specs.List.{count_by}
use Rattle.cq_script.specs.Runs.{is_line_end}
use Rattle.cq_script.proofs.cutter.line_ends.Given as goal

abbrev pub invariant-loop-b : goal.invariant-loop-b
invariant-loop-b l = (l.ends ≡ count_by is_line_end (take l.b-index l.bytes)) × (l.ends ≤ l.b-index)
