-- What is true of every catalogue.
use Rattle.std.specs.Prelude.{◌≡◌, ℕ, ◌+◌, ◌*◌, ◌<◌, ◌≤◌, not, List, length, Some, slice_get, count_by}
use Rattle.cq_catalog.specs.Contents.{Contents, is_local, count_in}
use Rattle.cq_catalog.specs.Ranges.{ends}
use Rattle.cq_catalog.specs.declared.decision.Target.{Target}
use Rattle.cq_catalog.specs.declared.decision.Target.TheVariants.{Joins, Opens}
use Rattle.cq_catalog.specs.declared.info.Colocation.{Colocation}
use Rattle.cq_catalog.specs.declared.info.Place.{Place}
use Rattle.cq_catalog.specs.declared.info.Place.TheVariants.{Local, Distributed, Reference}
use Rattle.cq_catalog.specs.declared.info.TableInfo.{TableInfo}

-- a fact of each item
abbrev pub Each : {X : Type 0} → (X → Type 0) → List X → Type 0
Each {X} P xs = (i : ℕ) (x : X) → slice_get xs i ≡ Some x → P x

-- from 1 to 128 shards, whose ranges part all tokens, in shard groups that there are
pub record IsCut (groups : ℕ) (g : Colocation) : Type 0 where
  pub some : 0 < g.count
  pub few : g.count ≤ 128
  pub cut : g.ends ≡ ends g.count
  pub within : g.first_group + g.count ≤ groups

-- a table's co-location group or shard group is there, and its shard ids are given out
abbrev pub IsPlaced : Contents → Place → Type 0
IsPlaced c Local = Unit {0}
IsPlaced c (Distributed column colocation first_shard) = (colocation < length c.colocations) × (first_shard + count_in (slice_get c.colocations colocation) ≤ c.next_shard)
IsPlaced c (Reference group shard) = (group < c.groups) × (shard < c.next_shard)

pub record IsTable (c : Contents) (t : TableInfo) : Type 0 where
  pub few_columns : length t.columns ≤ 64
  pub placed : IsPlaced c t.place

-- a table at this place has the shard of this id
abbrev pub HasId : List Colocation → Place → ℕ → Type 0
HasId cs Local id = ⊥
HasId cs (Distributed column colocation first_shard) id = (first_shard ≤ id) × (id < first_shard + count_in (slice_get cs colocation))
HasId cs (Reference group shard) id = id ≡ shard

-- no two tables have a shard of one id
abbrev pub AreApart : List Colocation → List TableInfo → Type 0
AreApart cs tables = (i j : ℕ) (t u : TableInfo) (id : ℕ) → slice_get tables i ≡ Some t → slice_get tables j ≡ Some u → HasId cs t.place id → HasId cs u.place id → i ≡ j

-- how many tables are distributed tables or reference tables
abbrev pub spread_in : List TableInfo → ℕ
spread_in tables = count_by (λ (t : TableInfo). not (is_local t.place)) tables

pub record IsWhole (c : Contents) : Type 0 where
  pub few_tables : length c.tables ≤ 64
  pub few_groups : c.groups ≤ 512
  pub colocations : length c.colocations ≤ c.groups
  pub cut : Each (IsCut c.groups) c.colocations
  pub tables : Each (IsTable c) c.tables
  pub apart : AreApart c.colocations c.tables
  -- each table that isn't local took 128 shard ids at most
  pub ids : c.next_shard ≤ 102008 + 128 * spread_in c.tables

-- a co-location group that there is, or from 1 to 128 new shard groups
abbrev pub IsTarget : Contents → Target → Type 0
IsTarget c (Joins colocation) = colocation < length c.colocations
IsTarget c (Opens count joinable) = (0 < count) × (count ≤ 128)

-- such a target, with room for its shard groups
abbrev pub CanOpen : Contents → Target → Type 0
CanOpen c (Joins colocation) = colocation < length c.colocations
CanOpen c (Opens count joinable) = (0 < count) × (count ≤ 128) × (c.groups + count ≤ 512)

-- the table of this number is local
abbrev pub IsLocalAt : Contents → ℕ → Type 0
IsLocalAt c number = (t : TableInfo) × (slice_get c.tables number ≡ Some t) × (t.place ≡ Local)

-- a place for which the next shard ids, so many, are to be given out
abbrev pub TakesIds : Contents → Place → ℕ → Type 0
TakesIds c Local shards = ⊥
TakesIds c (Distributed column colocation first_shard) shards = (colocation < length c.colocations) × (first_shard ≡ c.next_shard) × (shards ≡ count_in (slice_get c.colocations colocation))
TakesIds c (Reference group shard) shards = (group < c.groups) × (shard ≡ c.next_shard) × (shards ≡ 1)

-- the contents, of their parts
abbrev pub contents : List TableInfo → List Colocation → ℕ → ℕ → Contents
contents tables colocations groups next_shard = record { tables = tables; colocations = colocations; groups = groups; next_shard = next_shard }
