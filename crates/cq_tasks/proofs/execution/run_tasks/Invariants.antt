use Rattle.std.proofs.Common.{◌≡◌, false, map, take}
use Rattle.std.specs.List.{list_any}
use Rattle.cq_meaning.specs.Limits.{is_large}
use Rattle.cq_meaning.specs.Queries.{meaning}
use Rattle.cq_tasks.specs.Execution.{parts_at, reads_by}
use Rattle.cq_tasks.proofs.execution.run_tasks.Given as goal

abbrev pub invariant-loop-place : goal.invariant-loop-place
invariant-loop-place l = record {
  beside : l.beside ≡ l.fn.beside;
  own : l.own.items ≡ l.fn.parts;
  rows : l.all ≡ map (λ db. meaning l.task db l.results) (reads_by l.fn.beside (take l.place-index (parts_at l.fn.parts l.places)));
  small : list_any (λ db. is_large l.task db l.results) (reads_by l.fn.beside (take l.place-index (parts_at l.fn.parts l.places))) ≡ false;
}
