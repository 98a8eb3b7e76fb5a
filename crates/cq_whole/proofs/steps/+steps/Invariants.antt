use Rattle.std.proofs.Common.{◌≡◌, ◌+◌, ◌++◌, drop}
use Rattle.cq_whole.specs.StepLists.{ins_in_list, steps_in_list}
use Rattle.cq_whole.proofs.steps.+steps.Given as goal

abbrev pub invariant-put_subqueries-loop-query : goal.invariant-put_subqueries-loop-query
invariant-put_subqueries-loop-query l = record {
  made : l.steps ++ steps_in_list l.numbers (drop l.query-index l.queries) ≡ l.fn.steps ++ steps_in_list l.fn.numbers l.queries;
  numbered : l.numbers + ins_in_list (drop l.query-index l.queries) ≡ l.fn.numbers + ins_in_list l.queries;
}
