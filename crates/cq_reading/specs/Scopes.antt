-- Names, and what is in reach of an expression.
use Rattle.std.specs.Prelude.{ℕ, ◌+◌, Bool, false, ◌&&◌, List, map, position, count_by, slice_get, bytes_eq, nat_le, if◌then◌else◌, Option, None, Some}
use Rattle.cq_tree.specs.declared.expression.Expr.{Expr, Column}
use Rattle.cq_catalog.specs.declared.info.TableInfo.{TableInfo}
use Rattle.cq_value.specs.declared.schema.Column as schema
use Rattle.cq_reading.specs.declared.bound.Source.{Source}
use Rattle.cq_reading.specs.declared.bound.Output.{Output}
use Rattle.cq_reading.specs.declared.bound.Common.{Common}
use Rattle.cq_reading.specs.declared.bound.Bound.{Bound}
use Rattle.cq_reading.specs.declared.bound.Bound.TheVariants.{Value}
use Rattle.cq_reading.specs.declared.bound.Type.TheVariants as type
use Rattle.cq_reading.specs.declared.error.BindError.TheVariants as error
use Rattle.cq_reading.specs.Steps.{Reading, give, refuse}
use Rattle.cq_reading.specs.Widths.{kind_type, kind_width, null_expr, null_width}

-- the tables that there are, and the CTEs in reach
pub record World : Type 0 where
  pub tables : List TableInfo
  pub commons : List Common

-- what an expression stands in: the world; the columns in reach, of which the first is the column `first` of the FROM; whether
-- its query groups, by which keys, and whether its FROM is joined; and whether an aggregate and an IN subquery may stand in it
pub record Context : Type 0 where
  pub world : World
  pub first : ℕ
  pub columns : List Source
  pub grouped : Bool
  pub keys : List Expr
  pub joined : Bool
  pub may_aggregate : Bool
  pub may_select : Bool

-- the same before any grouping
abbrev pub plain : Context → Context
plain cx = record cx { grouped = false; may_aggregate = false }

-- ---- names: nowhere, once, or more than once

pub data Place : Type 0 where
  Nowhere : Place
  Once : ℕ → Place
  Repeated : Place

abbrev pub place_by : Option ℕ → ℕ → Place
place_by None n = Nowhere
place_by (Some i) n = if nat_le n 1 then Once i else Repeated

-- where the items are that the test is true of
abbrev pub place_of : {A : Type 0} → (A → Bool) → List A → Place
place_of is xs = place_by (position is xs) (count_by is xs)

-- ---- columns in reach

abbrev pub has_name : List ℕ → Source → Bool
has_name name s = bytes_eq s.name name

abbrev pub is_of : List ℕ → Source → Bool
is_of relation s = bytes_eq s.relation relation

abbrev pub has_full_name : List ℕ → List ℕ → Source → Bool
has_full_name relation name s = is_of relation s && has_name name s

abbrev pub column_bound : ℕ → Option Source → Bound
column_bound i (Some s) = Value (Column i) s.kind s.width
column_bound i None = Value null_expr type.Null null_width

-- the column at this place of those in reach
abbrev pub column_at : Context → ℕ → Bound
column_at cx i = column_bound (cx.first + i) (slice_get cx.columns i)

abbrev pub found_column : Context → ℕ → Place → Reading Bound
found_column cx at Nowhere = refuse (error.Unknown at)
found_column cx at Repeated = refuse (error.Ambiguous at)
found_column cx at (Once i) = give (column_at cx i)

-- `name`
abbrev pub named : Context → List ℕ → ℕ → Reading Bound
named cx name at = found_column cx at (place_of (has_name name) cx.columns)

-- `relation.name`
abbrev pub named_of : Context → List ℕ → List ℕ → ℕ → Reading Bound
named_of cx relation name at = found_column cx at (place_of (has_full_name relation name) cx.columns)

-- ---- what relations bring in reach

abbrev pub column_source : List ℕ → schema.Column → Source
column_source relation c = record { relation = relation; name = c.name; kind = kind_type c.kind; width = kind_width c.kind }

-- the columns of a table under a relation's name
abbrev pub table_sources : List ℕ → TableInfo → List Source
table_sources relation t = map (column_source relation) t.columns

abbrev pub output_source : List ℕ → Output → Source
output_source relation o = record { relation = relation; name = o.name; kind = o.kind; width = o.width }

-- the outputs of a subquery or a CTE under a relation's name
abbrev pub output_sources : List ℕ → List Output → List Source
output_sources relation outputs = map (output_source relation) outputs
