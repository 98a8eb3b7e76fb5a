-- What a query of joins demands of the rows of its tables, so that other rows needn't be read.
use Rattle.std.specs.Prelude.{◌≡◌, ℕ, ◌+◌, ◌-◌, ⊤, List, [], ◌∷◌, ◌++◌, map, filter, fold, length, Bool, true, false, not, ◌&&◌, ◌||◌, nat_eq, nat_le, nat_lt, if◌then◌else◌, Option, Some, None}
use Rattle.std.specs.List.{list_any, list_all, AllByRecursion}
use Rattle.cq_value.specs.declared.value.Value.{Value}
use Rattle.cq_tree.specs.declared.expression.Expr.{Column}
use Rattle.cq_tree.specs.declared.expression.Cond.{Cond, Compare, And', end_of-Cond, more_of-Cond}
use Rattle.cq_tree.specs.declared.expression.Op.TheVariants.{Eq}
use Rattle.cq_tree.specs.declared.query.FromTree.{FromTree, Table, Sub', Result, Cross', Inner', Left', end_of-FromTree, more_of-FromTree}
use Rattle.cq_meaning.specs.Values.{Row, Tables, table_rows, same_value}
use Rattle.cq_meaning.specs.Expressions.{keeps}
use Rattle.cq_meaning.specs.Queries.{columns_in, from_rows}
use Rattle.cq_demands.specs.Demands.{demands, rows_with}
use Rattle.cq_demands.specs.declared.joins.Leaf.{Leaf}

-- tables that joins join
abbrev pub is_plain : FromTree → Bool
is_plain (Table t n) = true
is_plain (Sub' p q) = false
is_plain (Result i n) = false
is_plain (Cross' p (more_of-FromTree a end_of-FromTree) q (more_of-FromTree b end_of-FromTree)) = is_plain a && is_plain b
is_plain (Inner' p (more_of-FromTree a end_of-FromTree) q (more_of-FromTree b end_of-FromTree) on) = is_plain a && is_plain b
is_plain (Left' p (more_of-FromTree a end_of-FromTree) q (more_of-FromTree b end_of-FromTree) on) = is_plain a && is_plain b

-- the tables of such a FROM whose first column has the number `start`, on the right side of a LEFT JOIN or not
abbrev pub leaves_from : FromTree → ℕ → Bool → List Leaf
leaves_from (Table t n) start padded = record { table = t; start = start; columns = n; padded = padded } ∷ []
leaves_from (Sub' p q) start padded = []
leaves_from (Result i n) start padded = []
leaves_from (Cross' p (more_of-FromTree a end_of-FromTree) q (more_of-FromTree b end_of-FromTree)) start padded = leaves_from a start padded ++ leaves_from b (start + columns_in a) padded
leaves_from (Inner' p (more_of-FromTree a end_of-FromTree) q (more_of-FromTree b end_of-FromTree) on) start padded = leaves_from a start padded ++ leaves_from b (start + columns_in a) padded
leaves_from (Left' p (more_of-FromTree a end_of-FromTree) q (more_of-FromTree b end_of-FromTree) on) start padded = leaves_from a start padded ++ leaves_from b (start + columns_in a) true

-- ---- what is demanded of the columns

-- what the ONs of inner joins demand, but for those on the right side of a LEFT JOIN
abbrev pub on_demands : FromTree → List (ℕ × Value)
on_demands (Table t n) = []
on_demands (Sub' p q) = []
on_demands (Result i n) = []
on_demands (Cross' p (more_of-FromTree a end_of-FromTree) q (more_of-FromTree b end_of-FromTree)) = on_demands a ++ on_demands b
on_demands (Inner' p (more_of-FromTree a end_of-FromTree) q (more_of-FromTree b end_of-FromTree) on) = (on_demands a ++ on_demands b) ++ demands on
on_demands (Left' p (more_of-FromTree a end_of-FromTree) q b on) = on_demands a

-- the columns of `x = y`
abbrev pub tie_of : Cond → List (ℕ × ℕ)
tie_of (Compare Eq (Column i) (Column j)) = (i, j) ∷ []
tie_of c = []

-- those of the parts of a condition that AND joins
abbrev pub ties : Cond → List (ℕ × ℕ)
ties (And' p (more_of-Cond a end_of-Cond) q (more_of-Cond b end_of-Cond)) = ties a ++ ties b
ties c = tie_of c

-- those of these ONs
abbrev pub on_ties : FromTree → List (ℕ × ℕ)
on_ties (Table t n) = []
on_ties (Sub' p q) = []
on_ties (Result i n) = []
on_ties (Cross' p (more_of-FromTree a end_of-FromTree) q (more_of-FromTree b end_of-FromTree)) = on_ties a ++ on_ties b
on_ties (Inner' p (more_of-FromTree a end_of-FromTree) q (more_of-FromTree b end_of-FromTree) on) = (on_ties a ++ on_ties b) ++ ties on
on_ties (Left' p (more_of-FromTree a end_of-FromTree) q b on) = on_ties a

-- the value that is demanded of a column
abbrev pub demand_at : List (ℕ × Value) → ℕ → Option Value
demand_at [] x = None
demand_at (p ∷ ds) x = if nat_eq p.0 x then Some p.1 else demand_at ds x

abbrev pub carried_by : Option Value → Option Value → List (ℕ × Value) → ℕ × ℕ → List (ℕ × Value)
carried_by (Some v) None ds t = ds ++ (t.1, v) ∷ []
carried_by None (Some v) ds t = ds ++ (t.0, v) ∷ []
carried_by _ _ ds t = ds

-- of two equal columns one has the demand of the other, where it has none yet
abbrev pub carried : List (ℕ × Value) → ℕ × ℕ → List (ℕ × Value)
carried ds t = carried_by (demand_at ds t.0) (demand_at ds t.1) ds t

-- so along all equalities, again for each of the first list
abbrev pub spread : List (ℕ × ℕ) → List (ℕ × ℕ) → List (ℕ × Value) → List (ℕ × Value)
spread [] pairs ds = ds
spread (t ∷ more) pairs ds = spread more pairs (fold carried ds pairs)

abbrev pub all_ties : Cond → FromTree → List (ℕ × ℕ)
all_ties filter_ from = ties filter_ ++ on_ties from

-- what WHERE and the ONs demand of the columns of a FROM
abbrev pub demanded : Cond → FromTree → List (ℕ × Value)
demanded filter_ from = spread (all_ties filter_ from) (all_ties filter_ from) (demands filter_ ++ on_demands from)

-- ---- what is wanted of the tables

-- whether a column is one of so many from `start` on
abbrev pub is_in : ℕ → ℕ → ℕ → Bool
is_in start n x = nat_le start x && nat_lt (x - start) n

-- what is demanded of these columns, by their places among them
abbrev pub in_range : ℕ → ℕ → List (ℕ × Value) → List (ℕ × Value)
in_range start n ds = map (λ (p : ℕ × Value). (p.0 - start, p.1)) (filter (λ (p : ℕ × Value). is_in start n p.0) ds)

-- whether that is demanded of a place of a table. Of the right side of a LEFT JOIN nothing is, since it has padded rows too
abbrev pub is_demand : Leaf → ℕ × Value → ℕ × Value → Bool
is_demand l p q = not l.padded && (is_in l.start l.columns q.0 && (nat_eq (q.0 - l.start) p.0 && same_value q.1 p.1))

-- whether it is demanded wherever the table stands in the FROM
abbrev pub is_of_each : List Leaf → List (ℕ × Value) → ℕ → ℕ × Value → Bool
is_of_each leaves ds table p = list_all (λ (l : Leaf). not (nat_eq l.table table) || list_any (is_demand l p) ds) leaves

-- the values that are wanted of a table's rows
abbrev pub wanted_of : List Leaf → List (ℕ × Value) → Leaf → List (ℕ × Value)
wanted_of leaves ds l = filter (is_of_each leaves ds l.table) (in_range l.start l.columns ds)

-- the values that are wanted of each table's rows
abbrev pub Wants : Type 0
Wants = List (ℕ × List (ℕ × Value))

abbrev pub wants_of : List Leaf → List (ℕ × Value) → Wants
wants_of leaves ds = map (λ (l : Leaf). (l.table, wanted_of leaves ds l)) leaves

-- those of one table
abbrev pub wants_at : Wants → ℕ → List (ℕ × Value)
wants_at [] table = []
wants_at (w ∷ ws) table = if nat_eq w.0 table then w.1 else wants_at ws table

-- what a query wants by its WHERE and its FROM
abbrev pub wants_in : Cond → FromTree → Wants
wants_in filter_ from = wants_of (leaves_from from 0 false) (demanded filter_ from)

-- tables with the rows alone that have what is wanted
abbrev pub narrow : Wants → Tables → Tables
narrow wants tables = map (λ (p : ℕ × List Row). (p.0, rows_with (wants_at wants p.0) p.1)) tables

-- ---- the law

-- the rows of each table have as many columns as it has in the FROM
abbrev pub AreWide : FromTree → Tables → Type 0
AreWide (Table t n) db = AllByRecursion (λ (row : Row). length row ≡ n) (table_rows db t)
AreWide (Sub' p q) db = ⊤
AreWide (Result i n) db = ⊤
AreWide (Cross' p (more_of-FromTree a end_of-FromTree) q (more_of-FromTree b end_of-FromTree)) db = AreWide a db × AreWide b db
AreWide (Inner' p (more_of-FromTree a end_of-FromTree) q (more_of-FromTree b end_of-FromTree) on) db = AreWide a db × AreWide b db
AreWide (Left' p (more_of-FromTree a end_of-FromTree) q (more_of-FromTree b end_of-FromTree) on) db = AreWide a db × AreWide b db

-- of each table the second database has the rows alone that have what is wanted
abbrev pub IsNarrowed : Wants → Tables → Tables → Type 0
IsNarrowed wants db dc = (t : ℕ) → table_rows dc t ≡ rows_with (wants_at wants t) (table_rows db t)

-- over such rows WHERE keeps the same joined rows
abbrev pub JoinsKeepWanted : Type 0
JoinsKeepWanted = (filter_ : Cond) (from : FromTree) (db dc : Tables) → is_plain from ≡ true → AreWide from db → IsNarrowed (wants_in filter_ from) db dc →
    filter (keeps filter_ []) (from_rows from 0 dc []) ≡ filter (keeps filter_ []) (from_rows from 0 db [])
