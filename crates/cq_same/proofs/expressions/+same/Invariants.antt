use Rattle.std.proofs.Common.{◌≡◌, map, drop}
use Rattle.cq_tree.specs.Equal.{equal_each, equal_exprs, equal_arms}
use Rattle.cq_same.proofs.expressions.+same.Given as goal

abbrev pub invariant-same_exprs-loop-i : goal.invariant-same_exprs-loop-i
invariant-same_exprs-loop-i l = equal_each (map equal_exprs l.a) l.b ≡ equal_each (map equal_exprs (drop l.i l.a)) (drop l.i l.b)

abbrev pub invariant-same_arms-loop-i : goal.invariant-same_arms-loop-i
invariant-same_arms-loop-i l = equal_each (map equal_arms l.a) l.b ≡ equal_each (map equal_arms (drop l.i l.a)) (drop l.i l.b)
