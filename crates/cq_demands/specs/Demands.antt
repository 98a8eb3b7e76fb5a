-- What a WHERE demands of rows, so that other rows needn't be read.
use Rattle.std.specs.Prelude.{◌≡◌, ℕ, List, [], ◌∷◌, ◌++◌, filter, Bool, true}
use Rattle.std.specs.List.{list_all}
use Rattle.cq_value.specs.declared.value.Value.{Value}
use Rattle.cq_value.specs.Tables.{Pair}
use Rattle.cq_tree.specs.declared.expression.Expr.{Literal, Column}
use Rattle.cq_tree.specs.declared.expression.Cond.{Cond, Compare, And', end_of-Cond, more_of-Cond}
use Rattle.cq_tree.specs.declared.expression.Op.TheVariants.{Eq}
use Rattle.cq_meaning.specs.Values.{Row, column, same_value}
use Rattle.cq_meaning.specs.Expressions.{keeps}

-- the value that `column = literal` or `literal = column` demands of its column; other conditions demand none
abbrev pub demand_of : Cond → List (ℕ × Value)
demand_of (Compare Eq (Column i) (Literal v)) = (i, v) ∷ []
demand_of (Compare Eq (Literal v) (Column i)) = (i, v) ∷ []
demand_of c = []

-- the values that WHERE demands of columns: those of its parts that AND joins
abbrev pub demands : Cond → List (ℕ × Value)
demands (And' p (more_of-Cond a end_of-Cond) q (more_of-Cond b end_of-Cond)) = demands a ++ demands b
demands c = demand_of c

-- whether a row has each of these values in its column
abbrev pub has_all : List (ℕ × Value) → Row → Bool
has_all values row = list_all (λ (p : ℕ × Value). same_value (column row p.0) p.1) values

-- the rows that have them
abbrev pub rows_with : List (ℕ × Value) → List Row → List Row
rows_with values rows = filter (has_all values) rows

-- the same with their ids
abbrev pub pairs_with : List (ℕ × Value) → List Pair → List Pair
pairs_with values pairs = filter (λ (p : Pair). has_all values p.1) pairs

-- a row that WHERE keeps has all that WHERE demands, so no other row needs be read
abbrev pub KeptHasDemands : Type 0
KeptHasDemands = (filter_ : Cond) (row : Row) → keeps filter_ [] row ≡ true → has_all (demands filter_) row ≡ true
