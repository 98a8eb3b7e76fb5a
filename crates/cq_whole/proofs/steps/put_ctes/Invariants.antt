use Rattle.std.proofs.Common.{◌≡◌, ◌+◌, ◌++◌, drop}
use Rattle.cq_whole.specs.StepLists.{ins_in_cte_list, steps_in_cte_list}
use Rattle.cq_whole.proofs.steps.put_ctes.Given as goal

abbrev pub invariant-loop-i : goal.invariant-loop-i
invariant-loop-i l = record {
  made : l.steps ++ steps_in_cte_list l.i l.numbers (drop l.i l.ctes) ≡ l.fn.steps ++ steps_in_cte_list 0 l.fn.numbers l.ctes;
  numbered : l.numbers + ins_in_cte_list (drop l.i l.ctes) ≡ l.fn.numbers + ins_in_cte_list l.ctes;
}
