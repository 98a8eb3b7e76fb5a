use Rattle.std.proofs.Common.{◌≡◌, ◌++◌, drop, filter, filter_map}
use Rattle.cq_shape.specs.Labels.{label}
use Rattle.cq_repartition_laws.specs.Keys.{key_at, is_of_each, keys_among}
use Rattle.cq_repartition.proofs.keys.keys_among.Given as goal

abbrev pub invariant-loop-leaf : goal.invariant-loop-leaf
invariant-loop-leaf l =
    l.keys ++ filter (is_of_each (label l.labels) l.class l.leaves) (filter_map (key_at (label l.labels) l.class) (drop l.leaf-index l.leaves)) ≡ keys_among (label l.labels) l.class l.leaves
