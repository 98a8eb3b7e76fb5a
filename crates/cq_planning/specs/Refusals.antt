-- Which statements planning does not support: writes by what they say of the distribution column of their table, queries by their blocks.
use Rattle.std.specs.Prelude.{ℕ, ◌+◌, List, [], ◌∷◌, Bool, false, nat_eq, not, ◌&&◌, ◌||◌, if◌then◌else◌, Option, None, Some, is_some, option_map}
use Rattle.std.specs.List.{list_any, list_all}
use Rattle.cq_tree.specs.declared.query.Key.{Key}
use Rattle.cq_tree.specs.declared.query.Query.{Query, Query'}
use Rattle.cq_tree.specs.declared.write.Set.{Set}
use Rattle.cq_tree.specs.declared.write.ShardOp.{ShardOp}
use Rattle.cq_tree.specs.declared.write.ShardOp.TheVariants.{Insert, Update, Remove}
use Rattle.cq_tree.specs.declared.statement.Statement.{Statement}
use Rattle.cq_tree.specs.declared.statement.Statement.TheVariants as statement
use Rattle.cq_tree.specs.declared.unsupported.Unsupported.{Unsupported}
use Rattle.cq_tree.specs.declared.unsupported.Unsupported.TheVariants as unsupported
use Rattle.cq_meaning.specs.Values.{Row, column}
use Rattle.cq_meaning.specs.Groups.{is_known}
use Rattle.cq_catalog.specs.Contents.{Contents}
use Rattle.cq_catalog.specs.Placement.{place_at}
use Rattle.cq_catalog.specs.declared.info.Place.{Place}
use Rattle.cq_catalog.specs.declared.info.Place.TheVariants.{Distributed}
use Rattle.cq_planning.specs.Touched.{numbers}
use Rattle.cq_planning.specs.Blocks.{blocks_in, subqueries_in}
use Rattle.cq_planning.specs.Joins.{needs_repartition, lacks_equality, has_loose_join}

-- ---- writes

-- the first of the rows, counted from n, that has NULL or no value in the column
abbrev pub first_without : ℕ → ℕ → List Row → Option ℕ
first_without at n [] = None
first_without at n (row ∷ more) = if not (is_known (column row at)) then Some n else first_without at (n + 1) more

-- the first row of an INSERT, counted from 1, that has no value for the distribution column
abbrev pub row_without_value : Place → List Row → Option ℕ
row_without_value (Distributed at colocation first_shard) rows = first_without at 1 rows
row_without_value _ rows = None

-- whether an UPDATE sets the distribution column
abbrev pub changes_distribution : Place → List Set → Bool
changes_distribution (Distributed at colocation first_shard) sets = list_any (λ (s : Set). nat_eq s.column at) sets
changes_distribution _ sets = false

-- why a write isn't supported: a row of an INSERT has no value for the distribution column, or an UPDATE sets it
abbrev pub refusal_of_write : Contents → ShardOp → Option Unsupported
refusal_of_write c (Insert table rows) = option_map (λ row. unsupported.NoDistributionValue row) (row_without_value (place_at c table) rows)
refusal_of_write c (Update table filter_ sets) = if changes_distribution (place_at c table) sets then Some unsupported.DistributionColumn else None
refusal_of_write c (Remove table filter_) = None

-- ---- queries

-- an ORDER BY has each of so many outputs
abbrev pub orders_all : List Key → ℕ → Bool
orders_all order shown = list_all (λ at. list_any (λ (k : Key). nat_eq k.item at) order) (numbers 0 shown)

-- a query has LIMIT or OFFSET, and no ORDER BY over all its outputs (U4)
abbrev pub is_cut_loosely : Query → Bool
is_cut_loosely (Query' cs ctes ss subs from filter_ grouped keys aggs having items shown distinct order limit offset names) =
    (is_some limit || not (nat_eq offset 0)) && not (orders_all order shown)

-- why a query isn't supported: the lowest of U1 to U4 that holds. Its blocks are those of which there is no plan, and it may cut a subquery
abbrev pub refusal_of_query : Bool → Contents → Query → Option Unsupported
refusal_of_query repartition c q =
    if list_any (needs_repartition repartition c) (blocks_in c q) then Some unsupported.NeedsRepartition else
    (if list_any (lacks_equality c) (blocks_in c q) then Some unsupported.NoEquality else
    (if list_any (has_loose_join c) (blocks_in c q) then Some unsupported.OuterJoin else
    (if list_any is_cut_loosely (subqueries_in q) then Some unsupported.LimitWithoutOrder else None)))

-- ---- statements

-- why a statement isn't supported, where the first argument says whether `citus.enable_repartition_joins` is on. EXPLAIN is refused as its
-- query is
abbrev pub refusal_of : Bool → Contents → Statement → Option Unsupported
refusal_of repartition c (statement.Select q) = refusal_of_query repartition c q
refusal_of repartition c (statement.Explain q) = refusal_of_query repartition c q
refusal_of repartition c (statement.Write op) = refusal_of_write c op
refusal_of repartition c s = None
