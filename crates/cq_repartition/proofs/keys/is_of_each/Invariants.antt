use Rattle.std.proofs.Common.{◌≡◌, drop}
use Rattle.cq_shape.specs.Labels.{label}
use Rattle.cq_repartition_laws.specs.Keys.{is_of_each}
use Rattle.cq_repartition.proofs.keys.is_of_each.Given as goal

abbrev pub invariant-loop-leaf : goal.invariant-loop-leaf
invariant-loop-leaf l = is_of_each (label l.labels) l.class (drop l.leaf-index l.leaves) l.key ≡ is_of_each (label l.labels) l.class l.leaves l.key
