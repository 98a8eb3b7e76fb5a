-- What a block gives depends on the results that its query names alone.
use Rattle.std.proofs.Common.{◌≡◌, ◌+◌, ℕ, zero, suc, Bool, true, false, cond, List, [], ◌∷◌, ◌++◌, length, subst}
use Rattle.std.specs.List.{AllByRecursion, flat_map}
use Rattle.std.specs.List.Sorted.{IsPermutation}
use Rattle.cq_tree.specs.declared.plan.Combine.{Combine}
use Rattle.cq_tree.specs.declared.plan.Combine.TheVariants.{Nothing, RowsOnly, Groups}
use Rattle.cq_tree.specs.declared.plan.Planner.{Planner}
use Rattle.cq_tree.specs.declared.plan.Planner.TheVariants.{FastPath, Router, Pushdown, Repartition, Coordinator}
use Rattle.cq_tree.specs.declared.plan.Task.{Task}
use Rattle.cq_tree.specs.declared.query.Agg.{Agg}
use Rattle.cq_tree.specs.declared.query.Agg.TheVariants as agg
use Rattle.cq_tree.specs.declared.query.FromTree.{FromTree, Table, Sub', Result, Cross', Inner', Left', end_of-FromTree, more_of-FromTree, end_of-Query, more_of-Query}
use Rattle.cq_tree.specs.declared.query.Query.{Query, Query', out-Query, roll-Query}
use Rattle.cq_meaning.specs.Values.{Row, Results, Tables, table_rows, result_at}
use Rattle.cq_task_laws.specs.Partial.{columns_from, partial}
use Rattle.cq_task_laws.specs.Merging.{all_combining, merging, joined, as_table, GathersTo}
use Rattle.cq_task_laws.specs.Tasks.{AnswerEach}
use Rattle.cq_catalog.specs.Contents.{Contents}
use Rattle.cq_catalog.specs.Placement.{place_at}
use Rattle.cq_planning.specs.Database.{Held}
use Rattle.cq_planning.specs.Routing.{is_distributed_place}
use Rattle.cq_pushdown_laws.specs.Tables.{task_tables}
use Rattle.cq_outline.specs.declared.joining.Joined.{Joined}
use Rattle.cq_outline.specs.Tasking.{Touch, groups_in}
use Rattle.cq_one_plan.specs.Yields.{relations_in, opened, opened_query, AreOpened, IsSpread, GivesFrom, GivesBy, buckets_by, reads_of}
use Rattle.cq_plan_laws.specs.Scoping.{Names, AggNames, FromNames, QueryNames}
use Rattle.cq_plan_laws.proofs.Scoping.{from_named, answers_named}

-- ---- the queries of tasks and of the coordinator name what the block names

module _ (P : ℕ → Type 0) where
  pub columns_name : (at n : ℕ) → AllByRecursion (Names P) (columns_from at n)
  columns_name at zero = tt
  columns_name at (suc n) = (tt, columns_name (suc at) n)

  counted_name : (aggs : List Agg) → AllByRecursion (AggNames P) aggs → AllByRecursion (AggNames P) (aggs ++ agg.CountAll ∷ [])
  counted_name [] h = (tt, tt)
  counted_name (a ∷ aggs) h = (h.0, counted_name aggs h.1)

  combining_name : (at : ℕ) (aggs : List Agg) → AllByRecursion (AggNames P) (all_combining at aggs)
  combining_name at [] = tt
  combining_name at (agg.CountAll ∷ aggs) = (tt, combining_name (suc at) aggs)
  combining_name at (agg.Count e ∷ aggs) = (tt, combining_name (suc at) aggs)
  combining_name at (agg.Sum e ∷ aggs) = (tt, combining_name (suc at) aggs)
  combining_name at (agg.Min e ∷ aggs) = (tt, combining_name (suc at) aggs)
  combining_name at (agg.Max e ∷ aggs) = (tt, combining_name (suc at) aggs)

  partial_names : (kind : Combine) (q : Query) → QueryNames P q → QueryNames P (partial kind q)
  unfolding out-Query roll-Query denote.Hole.Carrier.out denote.Hole.Carrier.roll
  partial_names Nothing q h = h
  partial_names RowsOnly (Query' cs ctes ss subs from filter_ grouped keys aggs having items shown distinct order limit offset names) h = h
  partial_names Groups (Query' cs ctes ss subs from filter_ true keys aggs having items shown distinct order limit offset names) h =
      (h.0, h.1, h.2, counted_name aggs h.3, tt, columns_name 0 (length keys + (length aggs + 1)))
  partial_names Groups (Query' cs ctes ss subs from filter_ false keys aggs having items shown distinct order limit offset names) h = h

  merging_names : (kind : Combine) (q : Query) → QueryNames P q → QueryNames P (merging kind q)
  unfolding out-Query roll-Query denote.Hole.Carrier.out denote.Hole.Carrier.roll
  merging_names Nothing q h = h
  merging_names RowsOnly (Query' cs ctes ss subs from filter_ grouped keys aggs having items shown distinct order limit offset names) h = (tt, tt, tt, tt, tt, columns_name 0 (length items))
  merging_names Groups (Query' cs ctes ss subs from filter_ true keys aggs having items shown distinct order limit offset names) h =
      (tt, tt, columns_name 0 (length keys), combining_name (length keys) aggs, h.4, h.5)
  merging_names Groups (Query' cs ctes ss subs from filter_ false keys aggs having items shown distinct order limit offset names) h = (tt, tt, tt, tt, tt, columns_name 0 (length items))

  opened_names : (c : Contents) (t : ℕ) (f : FromTree) → FromNames P f → FromNames P (opened c t f)
  opened_names c t (Table u n) h = by_place (is_distributed_place (place_at c u))
    where
      by_place : (b : Bool) → FromNames P (cond b (Table t n) (Table u n))
      by_place true = tt
      by_place false = tt
  opened_names c t (Sub' p (more_of-Query q end_of-Query)) h = tt
  opened_names c t (Result i n) h = h
  opened_names c t (Cross' p (more_of-FromTree a end_of-FromTree) q (more_of-FromTree b end_of-FromTree)) h = (opened_names c t a h.0, opened_names c (t + relations_in a) b h.1)
  opened_names c t (Inner' p (more_of-FromTree a end_of-FromTree) q (more_of-FromTree b end_of-FromTree) on) h = (opened_names c t a h.0, opened_names c (t + relations_in a) b h.1, h.2)
  opened_names c t (Left' p (more_of-FromTree a end_of-FromTree) q (more_of-FromTree b end_of-FromTree) on) h = (opened_names c t a h.0, opened_names c (t + relations_in a) b h.1, h.2)

  opened_query_names : (c : Contents) (q : Query) → QueryNames P q → QueryNames P (opened_query c q)
  opened_query_names c (Query' cs ctes ss subs from filter_ grouped keys aggs having items shown distinct order limit offset names) h = (opened_names c (length c.tables) from h.0, h.1, h.2, h.3, h.4, h.5)

-- ---- what a block gives

module _ (rs ss : Results) (P : ℕ → Type 0) (same : (i : ℕ) → P i → result_at rs i ≡ result_at ss i) where
  each_named : (q : Query) → QueryNames P q → (reads : List Tables) (answers : List (List Row)) → AnswerEach q rs reads answers → AnswerEach q ss reads answers
  each_named q names [] [] h = tt
  each_named q names [] (a ∷ answers) h = absurd h
  each_named q names (db ∷ reads) [] h = absurd h
  each_named q names (db ∷ reads) (a ∷ answers) h = (answers_named rs ss P same db q a names h.0, each_named q names reads answers h.1)

  gathers_named : (kind : Combine) (q : Query) → QueryNames P q → (parts : List (List Row)) (rows : List Row) → GathersTo kind q rs parts rows → GathersTo kind q ss parts rows
  gathers_named Nothing q names parts rows h = h
  gathers_named RowsOnly q names parts rows h = answers_named rs ss P same (as_table (joined parts)) (merging RowsOnly q) rows (merging_names P RowsOnly q names) h
  gathers_named Groups q names parts rows h = answers_named rs ss P same (as_table (joined parts)) (merging Groups q) rows (merging_names P Groups q names) h

  from_gives : (kind : Combine) (q : Query) → QueryNames P q → (reads : List Tables) (rows : List Row) → GivesFrom kind q rs reads rows → GivesFrom kind q ss reads rows
  from_gives kind q names reads rows h = (h.0, each_named (partial kind q) (partial_names P kind q names) reads h.0 h.1, gathers_named kind q names h.0 rows h.2)

  module _ (c : Contents) (held : Held) where
    opened_named : (groups : List ℕ) (db : Tables) (t : ℕ) (f : FromTree) → FromNames P f → AreOpened c held rs groups db t f → AreOpened c held ss groups db t f
    opened_named groups db t (Table u n) names h = h
    opened_named groups db t (Sub' p (more_of-Query q end_of-Query)) names h =
        subst (λ (f : ℕ → List Row). IsPermutation (flat_map f groups) (table_rows db t)) (λ i g. from_named rs ss P same (task_tables c held g) (Sub' p (more_of-Query q end_of-Query)) 0 names i) h
    opened_named groups db t (Result i n) names h = tt
    opened_named groups db t (Cross' p (more_of-FromTree a end_of-FromTree) q (more_of-FromTree b end_of-FromTree)) names h = (opened_named groups db t a names.0 h.0, opened_named groups db (t + relations_in a) b names.1 h.1)
    opened_named groups db t (Inner' p (more_of-FromTree a end_of-FromTree) q (more_of-FromTree b end_of-FromTree) on) names h = (opened_named groups db t a names.0 h.0, opened_named groups db (t + relations_in a) b names.1 h.1)
    opened_named groups db t (Left' p (more_of-FromTree a end_of-FromTree) q (more_of-FromTree b end_of-FromTree) on) names h = (opened_named groups db t a names.0 h.0, opened_named groups db (t + relations_in a) b names.1 h.1)

    spread_named : (groups : List ℕ) (q : Query) (db : Tables) → QueryNames P q → IsSpread c held rs groups q db → IsSpread c held ss groups q db
    spread_named groups (Query' cs ctes ss' subs from filter_ grouped keys aggs having items shown distinct order limit offset names) db named h =
        record { opened_tables = opened_named groups db (length c.tables) from named.0 h.opened_tables; other_tables = h.other_tables }

    pub gives_named : (planner : Planner) (parting : Joined) (kind : Combine) (tasks : List Task) (q : Query) (touches : List Touch) (rows : List Row) → QueryNames P q →
        GivesBy c held rs planner parting kind tasks q touches rows → GivesBy c held ss planner parting kind tasks q touches rows
    gives_named planner parting kind [] q touches rows names h = answers_named rs ss P same [] q rows names h
    gives_named Repartition parting kind (t ∷ tasks) q touches rows names (db, spread, given) =
        (db, spread_named (groups_in c touches) q db names spread, from_gives kind (opened_query c q) (opened_query_names P c q names) (buckets_by parting (opened_query c q) db) rows given)
    gives_named FastPath parting kind (t ∷ tasks) q touches rows names h = from_gives kind q names (reads_of c held (t ∷ tasks)) rows h
    gives_named Router parting kind (t ∷ tasks) q touches rows names h = from_gives kind q names (reads_of c held (t ∷ tasks)) rows h
    gives_named Pushdown parting kind (t ∷ tasks) q touches rows names h = from_gives kind q names (reads_of c held (t ∷ tasks)) rows h
    gives_named Coordinator parting kind (t ∷ tasks) q touches rows names h = from_gives kind q names (reads_of c held (t ∷ tasks)) rows h
