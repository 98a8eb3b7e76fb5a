use Rattle.std.proofs.Common.{◌≡◌, ◌≤◌, ◌++◌}
use Rattle.std.specs.List.{sum_by}
use Rattle.cq_balance.specs.declared.load.Load.{Load}
use Rattle.cq_balance.specs.Greedy.{squares, greedy}
use Rattle.cq_balance.specs.Laws.{AreDistinct}
use Rattle.cq_balance.proofs.planning.plan.Given as goal

abbrev pub invariant-loop-next : goal.invariant-loop-next
invariant-loop-next l = record {
  planned : l.moves ++ greedy l.now.items l.nodes ≡ greedy l.initial.now.items l.nodes;
  groups : AreDistinct l.now.items;
  sizes : sum_by (λ (x : Load). x.size) l.now.items ≤ 1267650600228229401496703205376;
}

abbrev pub decreases-loop-next : goal.decreases-loop-next
decreases-loop-next l = squares l.now.items l.nodes
