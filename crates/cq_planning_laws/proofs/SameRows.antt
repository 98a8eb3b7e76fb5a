-- What two databases keep of a query's rows.
use Rattle.std.specs.Prelude.{◌≡◌, ◌<◌, Bool, ℕ, List, [], ◌∷◌, ◌&&◌, filter, Some}
use Rattle.std.specs.List.{list_all}
use Rattle.cq_value.specs.declared.value.Value.{Value}
use Rattle.cq_tree.specs.declared.query.Query.{Query, Query'}
use Rattle.cq_meaning.specs.Values.{Row, Tables, Results, column}
use Rattle.cq_meaning.specs.Expressions.{keeps}
use Rattle.cq_meaning.specs.Queries.{outputs_of, from_rows, meaning}
use Rattle.cq_catalog.specs.Contents.{Contents}
use Rattle.cq_planning.specs.Pushable.{Pushable, pushable}
use Rattle.cq_planning.specs.ValueSets.{has_value}

-- whether a row has values of the sets that are given from outside
abbrev pub is_given : List (ℕ × List Value) → Row → Bool
is_given outer row = list_all (λ (k : ℕ × List Value). has_value (Some k.1) (column row k.0)) outer

-- over both databases a query keeps the same of these rows
abbrev pub SameKept : Query → List (ℕ × List Value) → Tables → Tables → Results → Type 0
SameKept (Query' cs ctes ss subs from filter_ grouped keys aggs having items shown distinct order limit offset names) outer db dn results =
    filter (λ row. keeps filter_ results row && is_given outer row) (from_rows from 0 db results) ≡ filter (λ row. keeps filter_ results row && is_given outer row) (from_rows from 0 dn results)

-- the rows of a pushable subquery whose distribution column has one of these values are those of its kept rows that have it
abbrev pub PushesThrough : Contents → Type 0
PushesThrough c = (q : Query) (p : Pushable) → pushable c q ≡ Some p →
    (p.output < outputs_of q) × ((db dn : Tables) (results : Results) (vs : List Value) → SameKept q ((p.column, vs) ∷ []) db dn results →
    filter (λ row. has_value (Some vs) (column row p.output)) (meaning q db results) ≡ filter (λ row. has_value (Some vs) (column row p.output)) (meaning q dn results))
