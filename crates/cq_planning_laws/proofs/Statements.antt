-- For a statement's query the groups that it doesn't touch don't matter.
use Rattle.std.proofs.Common.{suc, zero, ◌≡◌, ◌+◌, ◌<◌, ◌≤◌, inl, inr, ℕ, Bool, true, false, List, [], ◌∷◌, ◌++◌, length, filter, replicate, refl, sym, ◌∙◌, ap, subst, arith, slice_get, length-append}
use Rattle.std.specs.Prelude.{slice_set, nat_eq}
use Rattle.std.specs.List.{AllByRecursion, flat_map}
use Rattle.std.specs.List.Sorted.{IsPermutation}
use Rattle.std.proofs.lemmas.List.Elements.{filter-append}
use Rattle.cq_value.proofs.Lists.{all_weaker, all_append, filter_none}
use Rattle.cq_value.proofs.Truths.{two_ways}
use Rattle.cq_value.specs.declared.schema.Kind.{Kind}
use Rattle.cq_tree.specs.declared.query.Query.{Query, Query'}
use Rattle.cq_tree.specs.declared.statement.Statement.TheVariants as statement
use Rattle.cq_meaning.specs.Values.{Row, Tables, Results, column, table_rows, result_at}
use Rattle.cq_meaning.specs.Groups.{distinct_if}
use Rattle.cq_meaning.specs.Limits.{is_large}
use Rattle.cq_meaning.specs.Queries.{from_rows, meaning, AnswersWith}
use Rattle.cq_meaning.specs.Results.{results_of}
use Rattle.cq_meaning_laws.specs.WholeRules.{Step, steps_of, no_results, with_step, with_steps}
use Rattle.cq_meaning_laws.proofs.WholeLaws.{results_in_steps}
use Rattle.cq_catalog.specs.Contents.{Contents, colocation_of, first_group_in, count_in}
use Rattle.cq_catalog.specs.Placement.{place_at, HasShard, group_of}
use Rattle.cq_catalog.specs.Whole.{IsWhole}
use Rattle.cq_catalog.specs.declared.info.Place.{Place}
use Rattle.cq_catalog.specs.declared.info.Place.TheVariants.{Local, Distributed, Reference}
use Rattle.cq_catalog.specs.declared.info.TableInfo.{TableInfo}
use Rattle.cq_journal.specs.Fitting.{AreOfKinds}
use Rattle.cq_planning.specs.Occurrences.{Occurrence, occurrences_in, occurrences_of, blocks_of}
use Rattle.cq_planning.specs.Touched.{among, groups_of, touched_by_query, touched}
use Rattle.cq_planning.specs.Database.{shape_in, Held, joined, whole_at, whole_from, whole, IsOfGroup, IsRowOf, CanHold, narrowed}
use Rattle.cq_planning_laws.specs.Laid.{IsLaid, IsColumnOf, IsLaidStep, IsLaidStatement}
use Rattle.cq_planning_laws.specs.Laws.{QueriesNarrow, LargeNarrows, UntouchedAreFree}
use Rattle.cq_planning.specs.Simple.{GivesSimply}
use Rattle.cq_planning_laws.proofs.Listed.{listed, listed_at}
use Rattle.cq_planning_laws.proofs.SameRows.{SameKept, PushesThrough}
use Rattle.cq_planning_laws.proofs.Pushing.{pushes_through}
use Rattle.cq_planning_laws.proofs.GroupLists.{in_order_has, among_left, among_right}
use Rattle.cq_planning_laws.proofs.RowFacts.{IsWide, mean_wide}
use Rattle.cq_planning_laws.proofs.Narrowing.{Reach, AreTouched, Covers, covers_left, covers_right, items_same, kept_alone, mean_same, kept_same}
use Rattle.cq_planning_laws.proofs.Blocks.{in_statement}
use Rattle.cq_planning_laws.proofs.Large.{large_same}
use Rattle.cq_planning_laws.proofs.Fewer.{Fewer}

-- ---- a table of the undistributed database

whole_is : (c : Contents) (held : Held) (k : ℕ) (ts : List TableInfo) → whole_from c held k ts ≡ listed (whole_at c held) k ts
whole_is c held k [] = refl
whole_is c held k (t ∷ ts) = ap (λ more. (k, whole_at c held k t.place) ∷ more) (whole_is c held (k + 1) ts)

pub table_at : (c : Contents) (held : Held) (table : ℕ) → table_rows (whole c held) table ≡ whole_at c held table (place_at c table)
table_at c held table = ap (λ tables. table_rows tables table) (whole_is c held 0 c.tables) ∙ listed_at (whole_at c held) (λ t. refl) c.tables table

kept_joined : (a b : Held) (table : ℕ) (p : Row → Bool) (g n : ℕ) → ((h : ℕ) → g ≤ h → h < g + n → filter p (a h table) ≡ filter p (b h table)) → filter p (joined a table g n) ≡ filter p (joined b table g n)
kept_joined a b table p g zero e = refl
kept_joined a b table p g (suc n) e =
    filter-append p (a g table) (joined a table (g + 1) n)
    ∙ ap (λ v. v ++ filter p (joined a table (g + 1) n)) (e g (omega arith) (omega arith))
    ∙ ap (λ v. filter p (b g table) ++ v) (kept_joined a b table p (g + 1) n (λ h l m. e h (omega (arith, l)) (omega (arith, m))))
    ∙ sym (filter-append p (b g table) (joined b table (g + 1) n))

joined_all : (P : Row → Type 0) (held : Held) (table g n : ℕ) → ((h : ℕ) → g ≤ h → h < g + n → AllByRecursion P (held h table)) → AllByRecursion P (joined held table g n)
joined_all P held table g zero f = tt
joined_all P held table g (suc n) f = all_append P (held g table) (joined held table (g + 1) n) (f g (omega arith) (omega arith)) (joined_all P held table (g + 1) n (λ h l m. f h (omega (arith, l)) (omega (arith, m))))

kinds_long : (kinds : List Kind) (row : Row) → AreOfKinds kinds row → length row ≡ length kinds
kinds_long [] [] h = refl
kinds_long [] (v ∷ row) h = absurd h
kinds_long (k ∷ kinds) [] h = absurd h
kinds_long (k ∷ kinds) (v ∷ row) h = ap suc (kinds_long kinds row h.1)

module _ (c : Contents) (touched : List ℕ) (table : ℕ) (p : Row → Bool) (held : Held) where
  kept_at : (place : Place) → Reach c touched table place p → ((g : ℕ) → HasShard (slice_get c.colocations (colocation_of place)) place g → AllByRecursion (IsOfGroup c g table place) (held g table)) →
      filter p (whole_at c (narrowed touched held) table place) ≡ filter p (whole_at c held table place)
  kept_at Local reach can = refl
  kept_at (Reference group shard) reach can = rw reach refl
  kept_at (Distributed at colocation first_shard) reach can =
      kept_joined (narrowed touched held) held table p (first_group_in (slice_get c.colocations colocation)) (count_in (slice_get c.colocations colocation)) (λ g l m. elim (two_ways (among g touched)) [
        | inl y ↦ rw y refl
        | inr n ↦ rw n (sym (filter_none p (held g table) (all_weaker (λ (row : Row). group_of c table (column row at) ≡ g) (λ (row : Row). p row ≡ false) (unkept g n) (held g table) (can g (l, m)))))
      ])
    where
      unkept : (g : ℕ) → among g touched ≡ false → (row : Row) → group_of c table (column row at) ≡ g → p row ≡ false
      unkept g n row e = elim (two_ways (p row)) [
        | inl k ↦ (let bad : true ≡ false = sym (reach row k) ∙ ap (λ h. among h touched) e ∙ n in cc)
        | inr z ↦ z
      ]

  table_kept : Reach c touched table (place_at c table) p → ((g : ℕ) → CanHold c g (held g)) →
      filter p (table_rows (whole c held) table) ≡ filter p (table_rows (whole c (narrowed touched held)) table)
  table_kept reach can =
      ap (filter p) (table_at c held table)
      ∙ sym (kept_at (place_at c table) reach (λ g has. all_weaker (IsRowOf c g table) (IsOfGroup c g table (place_at c table)) (λ row h. h.0) (held g table) (can g table has)))
      ∙ sym (ap (filter p) (table_at c (narrowed touched held) table))

module _ (c : Contents) (held : Held) (can : (g : ℕ) → CanHold c g (held g)) (table : ℕ) where
  abbrev pub wide_row : Row → Type 0
  wide_row row = IsWide (length (shape_in c table).kinds) row

  wide_at : (place : Place) → ((g : ℕ) → HasShard (slice_get c.colocations (colocation_of place)) place g → AllByRecursion wide_row (held g table)) → AllByRecursion wide_row (whole_at c held table place)
  wide_at Local f = tt
  wide_at (Reference group shard) f = f group refl
  wide_at (Distributed at colocation first_shard) f = joined_all wide_row held table (first_group_in (slice_get c.colocations colocation)) (count_in (slice_get c.colocations colocation)) (λ g l m. f g (l, m))

  pub table_wide : (n : ℕ) → IsColumnOf n (place_at c table) → AllByRecursion wide_row (table_rows (whole c held) table)
  table_wide n h =
      subst (AllByRecursion wide_row) (sym (table_at c held table))
      (wide_at (place_at c table) (λ g has. all_weaker (IsRowOf c g table) wide_row (λ row r. kinds_long (shape_in c table).kinds row r.1) (held g table) (can g table has)))

-- ---- the narrowed tables have no more rows

module _ (c : Contents) (touched : List ℕ) (held : Held) where
  group_fewer : (g table : ℕ) → Fewer (narrowed touched held g table) (held g table)
  group_fewer g table p = elim (two_ways (among g touched)) [ inl y ↦ rw y (omega arith) | inr n ↦ rw n (omega arith) ]

  joined_fewer : (table g n : ℕ) → Fewer (joined (narrowed touched held) table g n) (joined held table g n)
  joined_fewer table g zero p = omega arith
  joined_fewer table g (suc n) p =
      let a : length (filter p (narrowed touched held g table ++ joined (narrowed touched held) table (g + 1) n)) ≡ length (filter p (narrowed touched held g table)) + length (filter p (joined (narrowed touched held) table (g + 1) n)) =
      ap length (filter-append p (narrowed touched held g table) (joined (narrowed touched held) table (g + 1) n)) ∙ length-append (filter p (narrowed touched held g table)) (filter p (joined (narrowed touched held) table (g + 1) n)) in
      let b : length (filter p (held g table ++ joined held table (g + 1) n)) ≡ length (filter p (held g table)) + length (filter p (joined held table (g + 1) n)) =
      ap length (filter-append p (held g table) (joined held table (g + 1) n)) ∙ length-append (filter p (held g table)) (filter p (joined held table (g + 1) n)) in
      let d = group_fewer g table p in
      let e = joined_fewer table (g + 1) n p in
      omega (arith, a, b, d, e)

  place_fewer : (table : ℕ) (place : Place) → Fewer (whole_at c (narrowed touched held) table place) (whole_at c held table place)
  place_fewer table Local p = omega arith
  place_fewer table (Distributed at colocation first_shard) p = joined_fewer table (first_group_in (slice_get c.colocations colocation)) (count_in (slice_get c.colocations colocation)) p
  place_fewer table (Reference group shard) p = group_fewer group table p

  listed_fewer : (ts : List TableInfo) (k table : ℕ) → Fewer (table_rows (whole_from c (narrowed touched held) k ts) table) (table_rows (whole_from c held k ts) table)
  listed_fewer [] k table p = omega arith
  listed_fewer (t ∷ ts) k table p = elim (two_ways (nat_eq k table)) [ inl y ↦ rw y (place_fewer k t.place p) | inr n ↦ rw n (listed_fewer ts (k + 1) table p) ]

  table_fewer : (table : ℕ) → Fewer (table_rows (whole c (narrowed touched held)) table) (table_rows (whole c held) table)
  table_fewer table = listed_fewer c.tables 0 table

-- the narrowed groups hold nothing else
can_narrowed : (c : Contents) (touched : List ℕ) (held : Held) → ((g : ℕ) → CanHold c g (held g)) → (g : ℕ) → CanHold c g (narrowed touched held g)
can_narrowed c touched held can g table has = elim (two_ways (among g touched)) [ inl y ↦ rw y (can g table has) | inr n ↦ rw n tt ]

-- ---- the results of CTEs and IN subqueries

set_at : (P : ℕ → Row → Type 0) (rs : Results) (k : ℕ) (u : List Row) → ((i : ℕ) → AllByRecursion (P i) (result_at rs i)) → AllByRecursion (P k) u → (i : ℕ) → AllByRecursion (P i) (result_at (slice_set rs k u) i)
set_at P [] k u h a i = h i
set_at P (x ∷ rs) zero u h a zero = a
set_at P (x ∷ rs) zero u h a (suc i) = h (suc i)
set_at P (x ∷ rs) (suc k) u h a zero = h 0
set_at P (x ∷ rs) (suc k) u h a (suc i) = set_at (λ j. P (suc j)) rs k u (λ j. h (suc j)) a i

none_at : (P : ℕ → Row → Type 0) (n i : ℕ) → AllByRecursion (P i) (result_at (replicate n []) i)
none_at P zero i = tt
none_at P (suc n) zero = tt
none_at P (suc n) (suc i) = none_at (λ j. P (suc j)) n i

answers_same : (q : Query) (db dn : Tables) (rs : Results) (rows : List Row) → SameKept q [] db dn rs → AnswersWith q dn rs rows → AnswersWith q db rs rows
answers_same (Query' cs ctes ss subs from filter_ grouped keys aggs having items shown distinct order limit offset names) db dn rs rows kept h = (
  h.0,
  subst (λ (v : List Row). IsPermutation (distinct_if distinct v) h.0)
      (sym (items_same filter_ grouped keys aggs having items rs (from_rows from 0 db rs) (from_rows from 0 dn rs) (kept_alone filter_ rs (from_rows from 0 db rs) (from_rows from 0 dn rs) kept))) h.1,
  h.2,
  h.3,
)

-- the same the other way round
kept_turned : (q : Query) (db dn : Tables) (rs : Results) → SameKept q [] db dn rs → SameKept q [] dn db rs
kept_turned (Query' cs ctes ss subs from filter_ grouped keys aggs having items shown distinct order limit offset names) db dn rs h = sym h

module _ (c : Contents) (w : IsWhole c) (touched : List ℕ) (widths : ℕ → ℕ) (through : PushesThrough c) (held : Held) (can : (g : ℕ) → CanHold c g (held g)) where
  abbrev db : Tables
  db = whole c held

  abbrev dn : Tables
  dn = whole c (narrowed touched held)

  abbrev Wide : Results → Type 0
  Wide rs = (i : ℕ) → AllByRecursion (IsWide (widths i)) (result_at rs i)

  tables_db : (t n : ℕ) → IsColumnOf n (place_at c t) → AllByRecursion (IsWide (length (shape_in c t).kinds)) (table_rows db t)
  tables_db t n h = table_wide c held can t n h

  tables_dn : (t n : ℕ) → IsColumnOf n (place_at c t) → AllByRecursion (IsWide (length (shape_in c t).kinds)) (table_rows dn t)
  tables_dn t n h = table_wide c (narrowed touched held) (can_narrowed c touched held can) t n h

  query_kept : (rs : Results) → Wide rs → (q : Query) → IsLaid c widths q → Covers c touched (occurrences_in c q []) → SameKept q [] db dn rs
  query_kept rs wide q h cov = kept_same c w touched widths through db dn rs tables_db tables_dn wide (λ t p r. table_kept c touched t p held r can) q [] h cov

  -- the occurrences of a query are covered
  abbrev IsCovered : Query → Type 0
  IsCovered q = Covers c touched (occurrences_in c q [])

  steps_same : (steps : List Step) (rs : Results) → Wide rs → AllByRecursion (IsLaidStep c widths) steps → AllByRecursion (λ (s : Step). IsCovered s.query) steps →
      (with_steps db rs steps ≡ with_steps dn rs steps) × Wide (with_steps dn rs steps)
  steps_same [] rs wide laid cov = (refl, wide)
  steps_same (s ∷ steps) rs wide laid cov =
      let one : meaning s.query db rs ≡ meaning s.query dn rs = mean_same s.query db dn rs (query_kept rs wide s.query laid.0.0 cov.0) in
      let wider : Wide (with_step dn rs s) = set_at (λ i. IsWide (widths i)) rs s.number (meaning s.query dn rs) wide
      (subst (λ n. AllByRecursion (IsWide n) (meaning s.query dn rs)) (sym laid.0.1) (mean_wide c widths dn rs s.query laid.0.0)) in
      let rest = steps_same steps (with_step dn rs s) wider laid.1 cov.1 in
      (ap (λ (r : List Row). with_steps db (slice_set rs s.number r) steps) one ∙ rest.0, rest.1)

  results_same : (q : Query) → IsLaidStatement c widths q → AllByRecursion IsCovered (blocks_of q) → (results_of q db ≡ results_of q dn) × Wide (results_of q dn)
  results_same q laid cov =
      let r = steps_same (steps_of q) (no_results q) (none_at (λ i. IsWide (widths i)) (length (steps_of q))) laid.1 (in_statement IsCovered q cov).1 in
      (results_in_steps db q ∙ r.0 ∙ sym (results_in_steps dn q), subst Wide (sym (results_in_steps dn q)) r.1)

  answers_narrow : (q : Query) → IsLaidStatement c widths q → AllByRecursion IsCovered (blocks_of q) → (rows : List Row) → AnswersWith q dn (results_of q dn) rows → AnswersWith q db (results_of q db) rows
  answers_narrow q laid cov rows h =
      let r = results_same q laid cov in
      subst (λ (rs : Results). AnswersWith q db rs rows) (sym r.0)
      (answers_same q db dn (results_of q dn) rows (query_kept (results_of q dn) r.1 q laid.0 (in_statement IsCovered q cov).0) h)

  answers_widen : (q : Query) → IsLaidStatement c widths q → AllByRecursion IsCovered (blocks_of q) → (rows : List Row) → AnswersWith q db (results_of q db) rows → AnswersWith q dn (results_of q dn) rows
  answers_widen q laid cov rows h =
      let r = results_same q laid cov in
      answers_same q dn db (results_of q dn) rows (kept_turned q db dn (results_of q dn) (query_kept (results_of q dn) r.1 q laid.0 (in_statement IsCovered q cov).0))
      (subst (λ (rs : Results). AnswersWith q db rs rows) r.0 h)

  large_narrows : (q : Query) → IsLaidStatement c widths q → GivesSimply c q → AllByRecursion IsCovered (blocks_of q) → is_large q dn (results_of q dn) ≡ true → is_large q db (results_of q db) ≡ true
  large_narrows q laid u cov h =
      let r = results_same q laid cov in
      ap (is_large q db) r.0
      ∙ large_same c w touched widths through db dn (results_of q dn) tables_db tables_dn r.1 (λ t p r. table_kept c touched t p held r can) (table_fewer c touched held) q laid.0 (in_statement IsCovered q cov).0 u h

-- ---- what is touched covers all blocks

covers_each : (c : Contents) (touched : List ℕ) (os : List Occurrence) → AreTouched c touched (flat_map (groups_of c) os) → Covers c touched os
covers_each c touched [] h = tt
covers_each c touched (o ∷ os) h = (
  λ g l a. h g l (among_left g (groups_of c o) (flat_map (groups_of c) os) a),
  covers_each c touched os (λ g l a. h g l (among_right g (groups_of c o) (flat_map (groups_of c) os) a)),
)

covers_blocks : (c : Contents) (touched : List ℕ) (blocks : List Query) → Covers c touched (flat_map (λ block. occurrences_in c block []) blocks) → AllByRecursion (λ block. Covers c touched (occurrences_in c block [])) blocks
covers_blocks c touched [] h = tt
covers_blocks c touched (q ∷ blocks) h = (
  covers_left c touched (occurrences_in c q []) (flat_map (λ block. occurrences_in c block []) blocks) h,
  covers_blocks c touched blocks (covers_right c touched (occurrences_in c q []) (flat_map (λ block. occurrences_in c block []) blocks) h),
)

all_covered : (c : Contents) (q : Query) → AllByRecursion (λ block. Covers c (touched c (statement.Select q)) (occurrences_in c block [])) (blocks_of q)
all_covered c q =
    covers_blocks c (touched c (statement.Select q)) (blocks_of q)
    (covers_each c (touched c (statement.Select q)) (occurrences_of c q) (λ g l a. in_order_has c (touched_by_query c q) g l a))

pub queries_narrow : QueriesNarrow
queries_narrow c widths q w laid rows held can h = answers_narrow c w (touched c (statement.Select q)) widths (pushes_through c) held can q laid (all_covered c q) rows h

pub large_narrow : LargeNarrows
large_narrow c widths q w laid u held can h = large_narrows c w (touched c (statement.Select q)) widths (pushes_through c) held can q laid u (all_covered c q) h

narrowed_alike : (touched : List ℕ) (held other : Held) → ((g table : ℕ) → among g touched ≡ true → held g table ≡ other g table) → narrowed touched held ≡ narrowed touched other
narrowed_alike touched held other same = λ i g table. each g table i
  where
    each : (g table : ℕ) → narrowed touched held g table ≡ narrowed touched other g table
    each g table = elim (two_ways (among g touched)) [ inl y ↦ rw y (same g table y) | inr n ↦ rw n refl ]

pub untouched_free : UntouchedAreFree
untouched_free c widths q w laid held other can can2 same rows h =
    let gs : List ℕ = touched c (statement.Select q) in
    let alone : AnswersWith q (whole c (narrowed gs held)) (results_of q (whole c (narrowed gs held))) rows = answers_widen c w gs widths (pushes_through c) held can q laid (all_covered c q) rows h in
    answers_narrow c w gs widths (pushes_through c) other can2 q laid (all_covered c q) rows
    (subst (λ (some : Held). AnswersWith q (whole c some) (results_of q (whole c some)) rows) (narrowed_alike gs held other same) alone)
