-- The parts of a write: what each shard group that it touches does of it.
use Rattle.std.specs.Prelude.{ℕ, List, map, filter, nat_eq}
use Rattle.cq_tree.specs.declared.write.ShardOp.{ShardOp}
use Rattle.cq_tree.specs.declared.write.ShardOp.TheVariants.{Insert, Update, Remove}
use Rattle.cq_tree.specs.declared.statement.Statement.TheVariants as statement
use Rattle.cq_meaning.specs.Values.{Row, column}
use Rattle.cq_catalog.specs.Contents.{Contents}
use Rattle.cq_catalog.specs.Placement.{place_at, group_of}
use Rattle.cq_catalog.specs.declared.info.Place.{Place}
use Rattle.cq_catalog.specs.declared.info.Place.TheVariants.{Distributed}
use Rattle.cq_planning.specs.Touched.{touched}

-- those of an INSERT's rows that go to a group, in their order: all of them where the table isn't distributed
abbrev pub rows_in : Contents → ℕ → Place → ℕ → List Row → List Row
rows_in c table (Distributed at colocation first_shard) g rows = filter (λ (row : Row). nat_eq (group_of c table (column row at)) g) rows
rows_in c table _ g rows = rows

-- the part of a write in a group: an INSERT has the rows that go there, UPDATE and DELETE are as they are
abbrev pub part : Contents → ShardOp → ℕ → ShardOp
part c (Insert table rows) g = Insert table (rows_in c table (place_at c table) g rows)
part c (Update table filter_ sets) g = Update table filter_ sets
part c (Remove table filter_) g = Remove table filter_

-- each group that a write touches, in ascending order, with the part of the write there
abbrev pub parts : Contents → ShardOp → List (ℕ × ShardOp)
parts c op = map (λ g. (g, part c op g)) (touched c (statement.Write op))
