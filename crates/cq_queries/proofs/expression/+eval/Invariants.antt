use Rattle.std.proofs.Common.{◌≡◌, drop}
use Rattle.cq_queries.specs.Cells.{row_in}
use Rattle.cq_queries.specs.TreeLists.{arm_value_in, first_known_in}
use Rattle.cq_queries.proofs.expression.+eval.Given as goal

abbrev pub invariant-look_arms-loop-arm : goal.invariant-look_arms-loop-arm
invariant-look_arms-loop-arm l = arm_value_in (drop l.arm-index l.arms) (row_in l.row) l.results ≡ arm_value_in l.arms (row_in l.row) l.results

abbrev pub invariant-look_first-loop-e : goal.invariant-look_first-loop-e
invariant-look_first-loop-e l = first_known_in (drop l.e-index l.es) (row_in l.row) l.results ≡ first_known_in l.es (row_in l.row) l.results
