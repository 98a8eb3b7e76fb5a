-- Groups, aggregates and DISTINCT (PostgreSQL, "The GROUP BY and HAVING Clauses", "Aggregate Functions").
use Rattle.std.specs.Prelude.{pos, ◌+ℤ◌, List, [], ◌∷◌, ◌++◌, map, filter, fold, length, Bool, true, false, not, if◌then◌else◌}
use Rattle.std.specs.Ordering.{is_lt}
use Rattle.cq_value.specs.Order.{value_cmp}
use Rattle.cq_value.specs.declared.value.Value.{Value}
use Rattle.cq_value.specs.declared.value.Value.TheVariants.{Null, Int, Text}
use Rattle.cq_tree.specs.declared.expression.Expr.{Expr}
use Rattle.cq_tree.specs.declared.query.Agg.{Agg}
use Rattle.cq_tree.specs.declared.query.Agg.TheVariants as agg
use Rattle.cq_meaning.specs.declared.Group.{Group}
use Rattle.cq_meaning.specs.Values.{Row, Results, same_row}
use Rattle.cq_meaning.specs.Expressions.{value_of, items_of}

abbrev pub differs : Row → Row → Bool
differs x y = not (same_row x y)

-- DISTINCT: of rows that are the same the first
abbrev pub distinct : List Row → List Row
distinct [] = []
distinct (row ∷ rows) = row ∷ filter (differs row) (distinct rows)

abbrev pub distinct_if : Bool → List Row → List Row
distinct_if false rows = rows
distinct_if true rows = distinct rows

-- the rows with these keys
abbrev pub group_with : (Row → Row) → List Row → Row → Group
group_with key rows k = record { keys = k; rows = filter (λ row. same_row k (key row)) rows }

-- a group for each of the keys that occur, in the order of their first rows
abbrev pub groups_by : (Row → Row) → List Row → List Group
groups_by key rows = map (group_with key rows) (distinct (map key rows))

-- without keys there is one group, which may be empty
abbrev pub groups_of : List Expr → Results → List Row → List Group
groups_of [] results rows = record { keys = []; rows = rows } ∷ []
groups_of (e ∷ es) results rows = groups_by (items_of (e ∷ es) results) rows

abbrev pub is_known : Value → Bool
is_known Null = false
is_known (Int x) = true
is_known (Text t) = true

-- the values of an expression over a group that aren't NULL
abbrev pub known_values : Expr → Results → List Row → List Value
known_values e results rows = filter is_known (map (λ row. value_of e row results) rows)

-- a sum and one more value, NULL being no number
abbrev pub added : Value → Value → Value
added sum Null = sum
added sum (Text t) = sum
added (Int x) (Int y) = Int (x +ℤ y)
added Null (Int y) = Int y
added (Text s) (Int y) = Int y

-- NULL over no values
abbrev pub sum_of : List Value → Value
sum_of vs = fold added Null vs

-- the lesser of two values, NULL being left out
abbrev pub lesser_of : Value → Value → Value
lesser_of best Null = best
lesser_of Null v = v
lesser_of best v = if is_lt (value_cmp v best) then v else best

abbrev pub greater_of : Value → Value → Value
greater_of best Null = best
greater_of Null v = v
greater_of best v = if is_lt (value_cmp best v) then v else best

-- NULL over no values
abbrev pub least : List Value → Value
least vs = fold lesser_of Null vs

abbrev pub greatest : List Value → Value
greatest vs = fold greater_of Null vs

-- `count(*)` counts rows; the others leave NULL out
abbrev pub aggregate : Results → List Row → Agg → Value
aggregate results rows agg.CountAll = Int (pos (length rows))
aggregate results rows (agg.Count e) = Int (pos (length (known_values e results rows)))
aggregate results rows (agg.Sum e) = sum_of (known_values e results rows)
aggregate results rows (agg.Min e) = least (known_values e results rows)
aggregate results rows (agg.Max e) = greatest (known_values e results rows)

-- a group's keys and then its aggregates
abbrev pub group_row : List Agg → Results → Group → Row
group_row aggs results g = g.keys ++ map (aggregate results g.rows) aggs
