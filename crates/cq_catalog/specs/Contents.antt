-- What a catalogue holds: its tables and co-location groups in order of creation, and how far shard groups and shard ids are given out.
use Rattle.std.specs.Prelude.{ℕ, zero, suc, ℤ, Bool, true, false, List, [], ◌∷◌, map, Option, Some, None, bytes_eq, position, slice_get, option_and_then}
use Rattle.cq_value.specs.declared.schema.Column.{Column}
use Rattle.cq_value.specs.declared.schema.Kind.{Kind}
use Rattle.cq_value.specs.declared.schema.Kind.TheVariants.{Bigint, Integer, Text}
use Rattle.cq_value.specs.declared.schema.Shape.{Shape}
use Rattle.cq_catalog.specs.declared.info.TableInfo.{TableInfo}
use Rattle.cq_catalog.specs.declared.info.Colocation.{Colocation}
use Rattle.cq_catalog.specs.declared.info.Place.{Place}
use Rattle.cq_catalog.specs.declared.info.Place.TheVariants.{Local, Distributed}

pub record Contents : Type 0 where
  pub tables : List TableInfo
  pub colocations : List Colocation
  -- how many shard groups there are; they are numbered from 0
  pub groups : ℕ
  -- the id of the next shard
  pub next_shard : ℕ

-- no table, and shard ids begin with 102008
abbrev pub nothing : Contents
nothing = record { tables = []; colocations = []; groups = 0; next_shard = 102008 }

abbrev pub same_kind : Kind → Kind → Bool
same_kind Bigint Bigint = true
same_kind Integer Integer = true
same_kind Text Text = true
same_kind _ _ = false

-- the number of the table of this name
abbrev pub number_of : List TableInfo → List ℕ → Option ℕ
number_of tables name = position (λ t. bytes_eq name t.name) tables

-- the table of this name
abbrev pub table_named : List TableInfo → List ℕ → Option TableInfo
table_named tables name = option_and_then (slice_get tables) (number_of tables name)

abbrev pub place_in : Option TableInfo → Place
place_in None = Local
place_in (Some t) = t.place

abbrev pub columns_in : Option TableInfo → List Column
columns_in None = []
columns_in (Some t) = t.columns

abbrev pub key_in : Option TableInfo → List ℕ
key_in None = []
key_in (Some t) = t.key

abbrev pub is_local : Place → Bool
is_local Local = true
is_local _ = false

-- the co-location group of a distributed table
abbrev pub colocation_of : Place → ℕ
colocation_of (Distributed column colocation first_shard) = colocation
colocation_of _ = 0

abbrev pub first_group_in : Option Colocation → ℕ
first_group_in None = 0
first_group_in (Some g) = g.first_group

abbrev pub count_in : Option Colocation → ℕ
count_in None = 0
count_in (Some g) = g.count

abbrev pub ends_in : Option Colocation → List ℤ
ends_in None = []
ends_in (Some g) = g.ends

-- the tables, one of which stands in another place
abbrev pub with_place : List TableInfo → ℕ → Place → List TableInfo
with_place [] number place = []
with_place (t ∷ ts) zero place = record t { place = place } ∷ ts
with_place (t ∷ ts) (suc number) place = t ∷ with_place ts number place

-- what a write to a table is judged by
abbrev pub shape_of : Option TableInfo → Shape
shape_of t = record { key = key_in t; kinds = map (λ (c : Column). c.kind) (columns_in t) }
