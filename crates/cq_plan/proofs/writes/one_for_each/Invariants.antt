use Rattle.std.proofs.Common.{◌≡◌, map, take}
use Rattle.cq_plan.proofs.writes.one_for_each.Given as goal

abbrev pub invariant-loop-row : goal.invariant-loop-row
invariant-loop-row l = l.groups ≡ map (λ row. l.group) (take l._row-index l.rows)
