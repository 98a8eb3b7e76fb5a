-- The rows of an INSERT, pile by pile: one for each shard group.
use Rattle.std.specs.Prelude.{ℕ, List, [], ◌∷◌, ◌++◌, map, filter, nat_eq, slice_set, slice_index_or}
use Rattle.std.specs.List.{flat_map}
use Rattle.cq_tree.specs.declared.write.ShardOp.{ShardOp}
use Rattle.cq_tree.specs.declared.write.ShardOp.TheVariants.{Insert}
use Rattle.cq_meaning.specs.Values.{Row, column}
use Rattle.cq_catalog.specs.Contents.{Contents}
use Rattle.cq_catalog.specs.Placement.{group_of}
use Rattle.cq_planning.specs.Touched.{numbers}
use Rattle.cq_router.specs.declared.insertion.Part.{Part}
use Rattle.cq_router.specs.declared.insertion.Pile.{Pile}

-- the group of a row of a distributed table
abbrev pub home : Contents → ℕ → ℕ → Row → ℕ
home c table at row = group_of c table (column row at)

abbrev pub pile_of : ℕ → List Row → Pile
pile_of g rows = record { group = g; rows = rows }

-- one for each of so many groups, each with the rows whose home it is
abbrev pub piles : (Row → ℕ) → ℕ → List Row → List Pile
piles f n rows = map (λ g. pile_of g (filter (λ (row : Row). nat_eq (f row) g) rows)) (numbers 0 n)

-- a pile with one more row
abbrev pub higher : Pile → Row → Pile
higher p row = record { group = p.group; rows = p.rows ++ row ∷ [] }

-- a row put into the pile of this number
abbrev pub added : List Pile → ℕ → Row → List Pile
added ps g row = slice_set ps g (higher (slice_index_or ps g (pile_of 0 [])) row)

-- a group and a write as a part
abbrev pub as_part : ℕ × ShardOp → Part
as_part p = record { group = p.0; op = p.1 }

-- the part of an INSERT that a pile makes, where it has rows
abbrev pub part_by : ℕ → ℕ → List Row → List Part
part_by table g [] = []
part_by table g (row ∷ rows) = as_part (g, Insert table (row ∷ rows)) ∷ []

abbrev pub part_of : ℕ → Pile → List Part
part_of table p = part_by table p.group p.rows

abbrev pub parts_of : ℕ → List Pile → List Part
parts_of table ps = flat_map (part_of table) ps
