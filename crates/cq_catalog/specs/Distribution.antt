-- How a local table becomes a distributed table or a reference table.
use Rattle.std.specs.Prelude.{ℕ, ◌+◌, pos, Bool, true, false, not, ◌&&◌, ◌||◌, List, [], ◌∷◌, ◌++◌, length, Option, Some, None, bytes_eq, position, nat_eq, nat_lt, slice_get, option_and_then, unwrap_or, is_some, is_none}
use Rattle.std.specs.List.{list_any}
use Rattle.std.specs.Option.{option_map_or}
use Rattle.cq_value.specs.declared.schema.Column.{Column}
use Rattle.cq_value.specs.declared.schema.Kind.{Kind}
use Rattle.cq_value.specs.declared.schema.Kind.TheVariants.{Bigint}
use Rattle.cq_value.specs.declared.schema.With.{With}
use Rattle.cq_value.specs.declared.schema.With.TheVariants.{Default, Alone, Table}
use Rattle.cq_catalog.specs.Contents.{Contents, same_kind, number_of, table_named, place_in, columns_in, key_in, is_local, colocation_of, first_group_in, count_in, with_place}
use Rattle.cq_catalog.specs.Creation.{refusal_if}
use Rattle.cq_catalog.specs.Ranges.{ends}
use Rattle.cq_catalog.specs.Refusals.{first_of}
use Rattle.cq_catalog.specs.declared.info.TableInfo.{TableInfo}
use Rattle.cq_catalog.specs.declared.info.Colocation.{Colocation}
use Rattle.cq_catalog.specs.declared.info.Opened.{Opened}
use Rattle.cq_catalog.specs.declared.info.Place.{Place}
use Rattle.cq_catalog.specs.declared.info.Place.TheVariants.{Distributed, Reference}
use Rattle.cq_catalog.specs.declared.decision.Target.{Target}
use Rattle.cq_catalog.specs.declared.decision.Target.TheVariants.{Joins, Opens}
use Rattle.cq_catalog.specs.declared.decision.Decision.{Decision}
use Rattle.cq_catalog.specs.declared.error.Limited.TheVariants.{Groups}
use Rattle.cq_catalog.specs.declared.error.CatalogError.{CatalogError}
use Rattle.cq_catalog.specs.declared.error.CatalogError.TheVariants.{UnknownTable, UnknownColumn, AlreadyDistributed, KeyLacksColumn, OutOfRange, ColocationDiffers, Limit}

-- the place of the column of this name
abbrev pub column_named : List Column → List ℕ → Option ℕ
column_named columns name = position (λ (c : Column). bytes_eq name c.name) columns

abbrev pub kind_in : Option Column → Kind
kind_in None = Bigint
kind_in (Some c) = c.kind

abbrev pub kind_named : List Column → List ℕ → Kind
kind_named columns name = kind_in (option_and_then (slice_get columns) (column_named columns name))

abbrev pub column_refusal : List Column → List ℕ → Option CatalogError
column_refusal columns name = refusal_if (is_none (column_named columns name)) (UnknownColumn name)

-- a primary key that there is, without this column
abbrev pub lacks : List ℕ → ℕ → Bool
lacks [] column = false
lacks key column = not (list_any (nat_eq column) key)

-- a co-location group that a new table of this kind and shard count joins by default
abbrev pub is_default : Kind → ℕ → Colocation → Bool
is_default kind count g = g.joinable && same_kind kind g.kind && nat_eq g.count count

-- a distributed table whose distribution column is of this kind
abbrev pub has_kind : List Colocation → Kind → Place → Bool
has_kind cs kind (Distributed column colocation first_shard) = option_map_or (λ (g : Colocation). same_kind kind g.kind) (slice_get cs colocation) false
has_kind cs kind _ = false

-- the named table with which a table can't be co-located: there is none of that name, or the shard count is given too, or it isn't distributed, or by a column of another kind
abbrev pub beside_refusal : Contents → Kind → Option ℕ → With → Option CatalogError
beside_refusal c kind count (Table name) = first_of
    (refusal_if (is_none (table_named c.tables name)) (UnknownTable name)
    ∷ refusal_if (is_some count || not (has_kind c.colocations kind (place_in (table_named c.tables name)))) ColocationDiffers
    ∷ [])
beside_refusal c kind count _ = None

-- a table has from 1 to 128 shards
abbrev pub range_refusal : ℕ → Option CatalogError
range_refusal count = refusal_if (nat_lt count 1 || nat_lt 128 count) (OutOfRange (pos count) (pos 1) (pos 128))

-- the count of a table that isn't put beside a named one
abbrev pub count_refusal : Option ℕ → With → ℕ → Option CatalogError
count_refusal count (Table name) default = None
count_refusal count _ default = range_refusal (unwrap_or count default)

abbrev pub target_refusal : Contents → Kind → Option ℕ → With → ℕ → Option CatalogError
target_refusal c kind count beside default = first_of (beside_refusal c kind count beside ∷ count_refusal count beside default ∷ [])

-- where a new table's shards go: without options beside the first group that takes it; beside the named table; and else into groups of their own
abbrev pub target_of : Contents → Kind → Option ℕ → With → ℕ → Target
target_of c kind None Default default = option_map_or Joins (position (is_default kind default) c.colocations) (Opens default true)
target_of c kind (Some n) Default default = Opens n false
target_of c kind count Alone default = Opens (unwrap_or count default) false
target_of c kind count (Table name) default = Joins (colocation_of (place_in (table_named c.tables name)))

-- there are at most 512 shard groups
abbrev pub room_refusal : ℕ → Target → Option CatalogError
room_refusal groups (Joins colocation) = None
room_refusal groups (Opens count joinable) = refusal_if (nat_lt 512 (groups + count)) (Limit Groups 512)

-- the table must be there, and not be distributed yet
abbrev pub local_refusal : List TableInfo → List ℕ → Option CatalogError
local_refusal tables name = first_of
    (refusal_if (is_none (table_named tables name)) (UnknownTable name)
    ∷ refusal_if (not (is_local (place_in (table_named tables name)))) (AlreadyDistributed name)
    ∷ [])

module _ (c : Contents) (table column : List ℕ) (count : Option ℕ) (beside : With) (default : ℕ) where
  -- what `create_distributed_table` of a table decides, where it isn't refused
  abbrev pub decision_of : Decision
  decision_of =
      let columns = columns_in (table_named c.tables table) in
      let kind = kind_named columns column in
      record { table = unwrap_or (number_of c.tables table) 0; column = unwrap_or (column_named columns column) 0; kind = kind; target = target_of c kind count beside default }

  -- why it is refused: the first of these, in this order
  abbrev pub distribution_refusal : Option CatalogError
  distribution_refusal =
      let info = table_named c.tables table in
      first_of
      (local_refusal c.tables table
      ∷ column_refusal (columns_in info) column
      ∷ refusal_if (lacks (key_in info) decision_of.column) (KeyLacksColumn table)
      ∷ target_refusal c decision_of.kind count beside default
      ∷ room_refusal c.groups decision_of.target
      ∷ [])

-- the groups and shards of the table: those of a group that there is, or new ones
abbrev pub opened_at : Contents → ℕ → Target → Opened
opened_at c table (Joins colocation) =
    let g = slice_get c.colocations colocation in
    record { table = table; first_group = first_group_in g; count = count_in g; first_shard = c.next_shard; fresh = false }
opened_at c table (Opens count joinable) = record { table = table; first_group = c.groups; count = count; first_shard = c.next_shard; fresh = true }

abbrev pub opened_by : Contents → Decision → Opened
opened_by c d = opened_at c d.table d.target

-- a table's rows stand in another place, for which the next shard ids, so many, are given out
abbrev pub spread : Contents → ℕ → Place → ℕ → Contents
spread c table place shards = record c { tables = with_place c.tables table place; next_shard = c.next_shard + shards }

-- one more co-location group, in new shard groups
abbrev pub with_colocation : Contents → Kind → ℕ → Bool → Contents
with_colocation c kind count joinable = record c {
  colocations = c.colocations ++ record { kind = kind; count = count; first_group = c.groups; joinable = joinable; ends = ends count } ∷ [];
  groups = c.groups + count;
}

-- the catalogue after a table is distributed
abbrev pub distributed_at : Contents → ℕ → ℕ → Kind → Target → Contents
distributed_at c table column kind (Joins colocation) = spread c table (Distributed column colocation c.next_shard) (count_in (slice_get c.colocations colocation))
distributed_at c table column kind (Opens count joinable) = spread (with_colocation c kind count joinable) table (Distributed column (length c.colocations) c.next_shard) count

abbrev pub distributed_by : Contents → Decision → Contents
distributed_by c d = distributed_at c d.table d.column d.kind d.target

-- why `create_reference_table` of a table is refused
abbrev pub reference_refusal : Contents → List ℕ → Option CatalogError
reference_refusal c table = first_of (local_refusal c.tables table ∷ room_refusal c.groups (Opens 1 false) ∷ [])

-- a reference table has one shard group of its own, and one shard
abbrev pub reference_opened : Contents → List ℕ → Opened
reference_opened c table = record { table = unwrap_or (number_of c.tables table) 0; first_group = c.groups; count = 1; first_shard = c.next_shard; fresh = true }

-- one more shard group
abbrev pub with_group : Contents → Contents
with_group c = record c { groups = c.groups + 1 }

abbrev pub with_reference : Contents → List ℕ → Contents
with_reference c table = spread (with_group c) (unwrap_or (number_of c.tables table) 0) (Reference c.groups c.next_shard) 1
