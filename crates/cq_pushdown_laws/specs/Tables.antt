-- The tables that the task in a shard group reads, and how the relations of a FROM are spread over the groups.
use Rattle.std.specs.Prelude.{◌≡◌, ℕ, ◌+◌, List, [], ◌∷◌, true, false, ◌⊎◌, Option, Some, None, slice_get}
use Rattle.cq_value.specs.declared.value.Value.{Value}
use Rattle.cq_value.specs.Placement.{token_of}
use Rattle.cq_tree.specs.declared.query.FromTree.{FromTree}
use Rattle.cq_meaning.specs.Values.{Row, Tables, column}
use Rattle.cq_task_laws.specs.Tasks.{Side}
use Rattle.cq_catalog.specs.Contents.{Contents, first_group_in, ends_in}
use Rattle.cq_catalog.specs.Ranges.{index_in}
use Rattle.cq_catalog.specs.Placement.{place_at, colocation_at, IsDistributed, HasShard}
use Rattle.cq_catalog.specs.declared.info.Place.{Place}
use Rattle.cq_catalog.specs.declared.info.Place.TheVariants.{Local, Distributed, Reference}
use Rattle.cq_catalog.specs.declared.info.TableInfo.{TableInfo}
use Rattle.cq_planning.specs.Database.{Held}
use Rattle.cq_planning.specs.Narrowing.{distribution_in}
use Rattle.cq_planning.specs.Relations.{Distribution}
use Rattle.cq_planning.specs.Touched.{among}

-- of a distributed table the task in a group reads the rows of its group, of a reference table all rows
abbrev pub task_at : Contents → Held → ℕ → ℕ → Place → List Row
task_at c held group table Local = []
task_at c held group table (Distributed column colocation first_shard) = held group table
task_at c held group table (Reference own shard) = held own table

-- what it reads of these tables, of which the first has the number `table`
abbrev pub task_from : Contents → Held → ℕ → ℕ → List TableInfo → Tables
task_from c held group table [] = []
task_from c held group table (t ∷ ts) = (table, task_at c held group table t.place) ∷ task_from c held group (table + 1) ts

-- what it reads of each table, by its number
abbrev pub task_tables : Contents → Held → ℕ → Tables
task_tables c held group = task_from c held group 0 c.tables

-- no other group holds rows of a distributed table, and none of these does that isn't one of the table's groups
abbrev pub HoldsOnly : Contents → Held → List ℕ → Type 0
HoldsOnly c held groups = (g table : ℕ) → IsDistributed (place_at c table) →
    (among g groups ≡ false) ⊎ (HasShard (colocation_at c table) (place_at c table) g → ⊥) → held g table ≡ []

-- ---- how relations are spread

abbrev pub uncut : Side
uncut = record { cut = false; home = λ row. 0 }

-- the group of a value in a co-location group
abbrev pub home_in : Contents → ℕ → Value → ℕ
home_in c colocation v = let g = slice_get c.colocations colocation in first_group_in g + index_in (ends_in g) (token_of v)

-- a relation with a distribution column is cut by the groups of this column's values, and another is whole
abbrev pub side_by : Contents → Option Distribution → Side
side_by c None = uncut
side_by c (Some d) = record { cut = true; home = λ row. home_in c d.colocation (column row d.column) }

-- how a relation of a FROM is spread over the groups
abbrev pub side_of : Contents → FromTree → Side
side_of c f = side_by c (distribution_in c f 0)
