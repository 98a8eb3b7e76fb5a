-- The relations of a FROM as a flat list, from left to right.
use Rattle.std.specs.Prelude.{ℕ, ◌+◌, List, [], map, filter, filter_map, Bool, false, not, ◌&&◌, ◌||◌, if◌then◌else◌, nat_eq, nat_lt, nat_le, Option, None, Some, is_some}
use Rattle.std.specs.List.{list_any}
use Rattle.cq_catalog.specs.declared.info.Place.{Place}
use Rattle.cq_catalog.specs.declared.info.Place.TheVariants.{Distributed}

-- a distribution column, by its number in the FROM, and its co-location group
pub record Distribution : Type 0 where
  pub column : ℕ
  pub colocation : ℕ

-- the LEFT JOIN of which a relation is the right side: the first column of the left side, and the equalities of the ON
pub record OuterJoin : Type 0 where
  pub left : ℕ
  pub equalities : List (ℕ × ℕ)

-- a relation of a FROM: its first column, its distribution column where it is a distributed table or a pushable subquery, and its LEFT
-- JOIN where it is a right side
pub record Relation : Type 0 where
  pub start : ℕ
  pub distribution : Option Distribution
  pub outer : Option OuterJoin

-- of a table whose first column has the number `start`
abbrev pub distribution_at : ℕ → Place → Option Distribution
distribution_at start (Distributed at colocation first_shard) = Some (record { column = start + at; colocation = colocation })
distribution_at start _ = None

-- column 0 where there is none
abbrev pub or_column_0 : Option Distribution → Distribution
or_column_0 (Some d) = d
or_column_0 None = record { column = 0; colocation = 0 }

-- of a distributed relation
abbrev pub distribution_of : Relation → Distribution
distribution_of r = or_column_0 r.distribution

-- a distributed table, or a pushable subquery
abbrev pub is_distributed : Relation → Bool
is_distributed r = is_some r.distribution

-- a right side of a LEFT JOIN
abbrev pub is_right : Relation → Bool
is_right r = is_some r.outer

-- a distributed relation that isn't one
abbrev pub is_plain : Relation → Bool
is_plain r = is_distributed r && not (is_right r)

-- a column from `low` on and before `high`
abbrev pub is_between : ℕ → ℕ → ℕ → Bool
is_between low high x = nat_le low x && nat_lt x high

-- the left side of the LEFT JOIN, whose right side begins at `start`, has a distributed relation
abbrev pub has_distributed_left : List Relation → ℕ → Option OuterJoin → Bool
has_distributed_left rels start (Some o) = list_any (λ (l : Relation). is_distributed l && is_between o.left start l.start) rels
has_distributed_left rels start None = false

-- a distributed relation that stays in its block: a right side whose left side has no distributed relation is planned by itself
abbrev pub is_left_in_block : List Relation → Relation → Bool
is_left_in_block rels r = is_distributed r && (not (is_right r) || has_distributed_left rels r.start r.outer)

-- the distribution columns of those that pass a test
abbrev pub distributions : (Relation → Bool) → List Relation → List Distribution
distributions test rels = map distribution_of (filter test rels)

-- of an equality between y and a column of a left side, that column
abbrev pub partner_of : ℕ → ℕ → ℕ → ℕ × ℕ → Option ℕ
partner_of low high y e =
    if nat_eq e.1 y && is_between low high e.0 then Some e.0 else (if nat_eq e.0 y && is_between low high e.1 then Some e.1 else None)

-- the columns x of the left side for which the ON has `x = y`, where y is the relation's distribution column
abbrev pub partners : Relation → Option OuterJoin → List ℕ
partners r (Some o) = filter_map (partner_of o.left r.start (distribution_of r).column) o.equalities
partners r None = []
