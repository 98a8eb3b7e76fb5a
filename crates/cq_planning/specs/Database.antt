-- The undistributed database that the rows of shard groups form, and what a group can hold.
use Rattle.std.specs.Prelude.{◌≡◌, ℕ, zero, suc, ◌+◌, ⊤, true, List, [], ◌∷◌, ◌++◌, if◌then◌else◌, slice_get}
use Rattle.std.specs.List.{AllByRecursion}
use Rattle.cq_value.specs.declared.schema.Shape.{Shape}
use Rattle.cq_tree.specs.declared.query.Query.{Query}
use Rattle.cq_meaning.specs.Values.{Row, Tables, column}
use Rattle.cq_meaning.specs.Results.{results_of}
use Rattle.cq_meaning.specs.Limits.{is_large}
use Rattle.cq_catalog.specs.Contents.{Contents, shape_of, first_group_in, count_in}
use Rattle.cq_catalog.specs.Placement.{place_at, colocation_at, HasShard, group_of}
use Rattle.cq_catalog.specs.declared.info.Place.{Place}
use Rattle.cq_catalog.specs.declared.info.Place.TheVariants.{Local, Distributed, Reference}
use Rattle.cq_catalog.specs.declared.info.TableInfo.{TableInfo}
use Rattle.cq_journal.specs.Fitting.{Fits}
use Rattle.cq_planning.specs.Touched.{among}

-- the columns' types and the key of a table
abbrev pub shape_in : Contents → ℕ → Shape
shape_in c table = shape_of (slice_get c.tables table)

-- the rows that each group holds of each table
abbrev pub Held : Type 0
Held = ℕ → ℕ → List Row

-- those of so many groups from this one on, in ascending order of group
abbrev pub joined : Held → ℕ → ℕ → ℕ → List Row
joined held table g zero = []
joined held table g (suc more) = held g table ++ joined held table (g + 1) more

-- the rows of an undistributed table. A local table has none
abbrev pub whole_at : Contents → Held → ℕ → Place → List Row
whole_at c held table Local = []
whole_at c held table (Distributed column colocation first_shard) =
    let g = slice_get c.colocations colocation in joined held table (first_group_in g) (count_in g)
whole_at c held table (Reference group shard) = held group table

-- the rows of these tables, of which the first has the number `table`
abbrev pub whole_from : Contents → Held → ℕ → List TableInfo → Tables
whole_from c held table [] = []
whole_from c held table (t ∷ ts) = (table, whole_at c held table t.place) ∷ whole_from c held (table + 1) ts

-- the rows of each table, by its number
abbrev pub whole : Contents → Held → Tables
whole c held = whole_from c held 0 c.tables

-- ---- what a group can hold

-- the group is that of the row's distribution value
abbrev pub IsOfGroup : Contents → ℕ → ℕ → Place → Row → Type 0
IsOfGroup c group table (Distributed at colocation first_shard) row = group_of c table (column row at) ≡ group
IsOfGroup c group table _ row = ⊤

-- a row that can stand in the group: it fits its table, too
abbrev pub IsRowOf : Contents → ℕ → ℕ → Row → Type 0
IsRowOf c group table row = IsOfGroup c group table (place_at c table) row × Fits (shape_in c table) row

-- such are all rows of the tables that have a shard in the group
abbrev pub CanHold : Contents → ℕ → (ℕ → List Row) → Type 0
CanHold c group rows = (table : ℕ) → HasShard (colocation_at c table) (place_at c table) group → AllByRecursion (IsRowOf c group table) (rows table)

-- ---- groups that don't matter

-- where the groups that aren't touched hold nothing
abbrev pub narrowed : List ℕ → Held → Held
narrowed touched held g table = if among g touched then held g table else []

-- what holds of the database without the untouched groups holds of the whole, whatever they hold
abbrev pub Narrows : Contents → List ℕ → (Tables → Type 0) → Type 0
Narrows c touched P = (held : Held) → ((g : ℕ) → CanHold c g (held g)) → P (whole c (narrowed touched held)) → P (whole c held)

-- the query has a group of more rows than the limit
abbrev pub IsLarge : Query → Tables → Type 0
IsLarge q db = is_large q db (results_of q db) ≡ true
