use Rattle.std.proofs.Common.{◌≡◌, ◌+◌, drop}
use Rattle.cq_planner.specs.Counting.{ins_each, leaves_each}
use Rattle.cq_planner.proofs.counting.+counting.Given as goal

abbrev pub invariant-count_each-loop-q : goal.invariant-count_each-loop-q
invariant-count_each-loop-q l = record {
  ins : l.all.ins + ins_each (drop l.q-index l.queries) ≡ ins_each l.queries;
  relations : l.all.relations + leaves_each (drop l.q-index l.queries) ≡ leaves_each l.queries;
}
