-- Two lists of relations before their trees are one.
use Rattle.std.specs.Prelude.{true, ◌++◌}
use Rattle.cq_tree.specs.declared.query.FromTree.{FromTree}
use Rattle.cq_reading.specs.declared.bound.Relations.{Relations}
use Rattle.cq_bind_names.specs.declared.relations.Pair.{Pair}

abbrev pub pair_of : Relations → Relations → Pair
pair_of a b = record { left = a.tree; right = b.tree; columns = a.columns ++ b.columns; names = a.names ++ b.names }

abbrev pub joined_pair : (FromTree → FromTree → FromTree) → Pair → Relations
joined_pair make p = record { tree = make p.left p.right; columns = p.columns; names = p.names; joined = true }
