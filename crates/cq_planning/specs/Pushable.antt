-- Which subqueries of a FROM can be pushed down, and by which of their outputs.
use Rattle.std.specs.Prelude.{ℕ, ◌+◌, List, [], ◌∷◌, ◌++◌, take, length, Bool, true, false, not, ◌&&◌, ◌||◌, if◌then◌else◌, nat_eq, nat_lt, Option, None, Some, is_none, slice_index_or, position}
use Rattle.std.specs.List.{list_any, list_all}
use Rattle.cq_tree.specs.declared.expression.Expr.{Expr, Column}
use Rattle.cq_tree.specs.declared.query.FromTree.{FromTree, Table, Sub', Result, Cross', Inner', Left', end_of-FromTree, more_of-FromTree, end_of-Query, more_of-Query}
use Rattle.cq_tree.specs.declared.query.Query.{Query, Query'}
use Rattle.cq_meaning.specs.Queries.{columns_in}
use Rattle.cq_catalog.specs.Contents.{Contents}
use Rattle.cq_catalog.specs.Placement.{place_at}
use Rattle.cq_planning.specs.Conjuncts.{conjuncts, conjuncts_of, column_of, equalities}
use Rattle.cq_planning.specs.Classes.{first_of_class}
use Rattle.cq_planning.specs.Relations.{Distribution, OuterJoin, Relation, distribution_at, distributions, is_left_in_block, is_plain}
use Rattle.cq_planning.specs.Components.{is_of_class, is_one_component, is_loose}

-- a pushable subquery: its distribution column among its outputs, the column of its own FROM that this is, and its co-location group
pub record Pushable : Type 0 where
  pub output : ℕ
  pub column : ℕ
  pub colocation : ℕ

-- the distribution column of a subquery whose first column has the number `start`
abbrev pub distribution_by : ℕ → Option Pushable → Option Distribution
distribution_by start (Some p) = Some (record { column = start + p.output; colocation = p.colocation })
distribution_by start None = None

-- the column of the FROM that stands behind a bare column: itself, or, where the query groups, the key of this number
abbrev pub column_behind : Bool → List Expr → Option ℕ → Option ℕ
column_behind false keys x = x
column_behind true keys (Some k) = if nat_lt k (length keys) then column_of (slice_index_or keys k (Column 0)) else None
column_behind true keys None = None

-- a number, or 0 where there is none
abbrev pub number_or_0 : Option ℕ → ℕ
number_or_0 (Some n) = n
number_or_0 None = 0

-- by the output of this number
abbrev pub pushable_by : Distribution → Bool → List Expr → List Expr → Option ℕ → Option Pushable
pushable_by d grouped keys outputs (Some n) =
    Some (record { output = n; column = number_or_0 (column_behind grouped keys (column_of (slice_index_or outputs n (Column 0)))); colocation = d.colocation })
pushable_by d grouped keys outputs None = None

-- a query with these relations, of which those that stay in its block have the distribution columns `r ∷ rs`, and those that aren't right
-- sides `p ∷ ps`. It is one component, its LEFT JOINs are co-located, it has no LIMIT and no OFFSET, where it groups a key is a bare column of
-- the class of r, and some output is one: the first such output is its distribution column
abbrev pub pushable_over : (ℕ → ℕ) → List Relation → List Distribution → List Distribution → Bool → List Expr → List Expr → Option ℕ → ℕ → Option Pushable
pushable_over first rels (r ∷ rs) (p ∷ ps) grouped keys outputs limit offset =
    if list_all (is_one_component first p) ps && (not (list_any (is_loose first rels) rels) && (is_none limit && (nat_eq offset 0
    && (not grouped || list_any (λ e. is_of_class first r.column (column_of e)) keys))))
    then pushable_by r grouped keys outputs (position (λ e. is_of_class first r.column (column_behind grouped keys (column_of e))) outputs) else None
pushable_over first rels _ _ grouped keys outputs limit offset = None

abbrev mutual
  -- the relations of a FROM whose first column has the number `start`, and of which `outer` is the LEFT JOIN where it is a right side
  pub relations : Contents → FromTree → ℕ → Option OuterJoin → List Relation
  relations c (Table t n) start outer = record { start = start; distribution = distribution_at start (place_at c t); outer = outer } ∷ []
  relations c (Sub' p (more_of-Query q end_of-Query)) start outer = record { start = start; distribution = distribution_by start (pushable c q); outer = outer } ∷ []
  relations c (Result i n) start outer = record { start = start; distribution = None; outer = outer } ∷ []
  relations c (Cross' p (more_of-FromTree a end_of-FromTree) q (more_of-FromTree b end_of-FromTree)) start outer = relations c a start None ++ relations c b (start + columns_in a) None
  relations c (Inner' p (more_of-FromTree a end_of-FromTree) q (more_of-FromTree b end_of-FromTree) on) start outer = relations c a start None ++ relations c b (start + columns_in a) None
  relations c (Left' p (more_of-FromTree a end_of-FromTree) q (more_of-FromTree b end_of-FromTree) on) start outer =
      relations c a start None ++ relations c b (start + columns_in a) (Some (record { left = start; equalities = equalities (conjuncts on) }))

  -- whether a query can be pushed down where it stands in a FROM, and how
  pub pushable : Contents → Query → Option Pushable
  pushable c (Query' cs ctes ss subs from filter_ grouped keys aggs having items shown distinct order limit offset names) =
      let rels = relations c from 0 None in
      pushable_over (first_of_class (equalities (conjuncts_of filter_ from))) rels (distributions (is_left_in_block rels) rels) (distributions is_plain rels) grouped keys (take shown items) limit offset
