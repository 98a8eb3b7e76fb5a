use Rattle.std.proofs.Common.{◌≡◌, ◌≤◌, false, map, take, drop, length}
use Rattle.std.specs.List.{list_any}
use Rattle.cq_meaning.specs.Limits.{is_large}
use Rattle.cq_meaning.specs.Sorting.{keys_cmp, sorted}
use Rattle.cq_meaning.specs.Queries.{meaning}
use Rattle.cq_task_laws.specs.Merging.{joined}
use Rattle.cq_tasks.specs.Execution.{parts_at, reads_by}
use Rattle.cq_tasks.proofs.execution.top_of_tasks.Given as goal

abbrev pub invariant-task : goal.invariant-task
invariant-task l = record {
  within : l.at ≤ length l.places;
  beside : l.beside ≡ l.fn.beside;
  own : l.own.items ≡ l.fn.parts;
  behind : l.behind ≡ take l.most (sorted (keys_cmp l.keys) (joined (map (λ db. meaning l.task db l.results) (reads_by l.fn.beside (drop l.at (parts_at l.fn.parts l.places))))));
  small : list_any (λ db. is_large l.task db l.results) (reads_by l.fn.beside (drop l.at (parts_at l.fn.parts l.places))) ≡ false;
}

abbrev pub decreases-task : goal.decreases-task
decreases-task l = l.at
