-- Where a table's rows stand: the shard group of a value, and the shards' ids.
use Rattle.std.specs.Prelude.{◌≡◌, ℕ, ◌+◌, ◌-◌, ◌<◌, ◌≤◌, ⊤, ◌&&◌, List, map, Option, Some, None, slice_get, nat_lt, nat_le, if◌then◌else◌}
use Rattle.cq_value.specs.declared.value.Value.{Value}
use Rattle.cq_value.specs.Placement.{token_of}
use Rattle.cq_catalog.specs.Contents.{Contents, place_in, colocation_of, first_group_in, count_in, ends_in}
use Rattle.cq_catalog.specs.Ranges.{index_in, Holds}
use Rattle.cq_catalog.specs.Refusals.{first_of}
use Rattle.cq_catalog.specs.declared.info.TableInfo.{TableInfo}
use Rattle.cq_catalog.specs.declared.info.Colocation.{Colocation}
use Rattle.cq_catalog.specs.declared.info.Place.{Place}
use Rattle.cq_catalog.specs.declared.info.Place.TheVariants.{Local, Distributed, Reference}

abbrev pub place_at : Contents → ℕ → Place
place_at c table = place_in (slice_get c.tables table)

-- the co-location group of the table
abbrev pub colocation_at : Contents → ℕ → Option Colocation
colocation_at c table = slice_get c.colocations (colocation_of (place_at c table))

abbrev pub IsDistributed : Place → Type 0
IsDistributed (Distributed column colocation first_shard) = ⊤
IsDistributed _ = ⊥

-- the shard group of a value of the distribution column: its place among the table's groups is the number of shards that end before the value's token
abbrev pub group_of : Contents → ℕ → Value → ℕ
group_of c table value = first_group_in (colocation_at c table) + index_in (ends_in (colocation_at c table)) (token_of value)

-- the group is one of the table's, and its range holds the value's token
abbrev pub HoldsValue : Contents → ℕ → Value → ℕ → Type 0
HoldsValue c table value group =
    let g = colocation_at c table in
    (first_group_in g ≤ group) × Holds (ends_in g) (group - first_group_in g) (token_of value)

-- a table at this place has a shard in the group
abbrev pub HasShard : Option Colocation → Place → ℕ → Type 0
HasShard g Local group = ⊥
HasShard g (Distributed column colocation first_shard) group = (first_group_in g ≤ group) × (group < first_group_in g + count_in g)
HasShard g (Reference own shard) group = group ≡ own

-- the id of that shard
abbrev pub shard_in : Option Colocation → Place → ℕ → ℕ
shard_in g Local group = 0
shard_in g (Distributed column colocation first_shard) group = first_shard + (group - first_group_in g)
shard_in g (Reference own shard) group = shard

-- the group of the shard of this id, where a distributed table at this place has it
abbrev pub group_in : List Colocation → ℕ → Place → Option ℕ
group_in cs shard (Distributed column colocation first_shard) =
    let g = slice_get cs colocation in
    if nat_le first_shard shard && nat_lt shard (first_shard + count_in g) then Some (first_group_in g + (shard - first_shard)) else None
group_in cs shard _ = None

-- the group of the shard of this id, if a distributed table has it
abbrev pub group_of_shard : Contents → ℕ → Option ℕ
group_of_shard c shard = first_of (map (λ (t : TableInfo). group_in c.colocations shard t.place) c.tables)
