-- Over two databases that have the same of their touched groups a query keeps the same rows.
use Rattle.std.proofs.Common.{◌≡◌, ◌+◌, ◌<◌, inl, inr, ℕ, Bool, true, false, ◌&&◌, List, [], ◌∷◌, ◌++◌, length, filter, replicate, refl, sym, ◌∙◌, ap, subst, arith, Some, None, Option}
use Rattle.std.specs.Prelude.{⊤}
use Rattle.std.specs.List.{AllByRecursion}
use Rattle.cq_value.proofs.Lists.{all_append, all_weaker, all_left, all_right}
use Rattle.cq_value.proofs.Truths.{two_ways, and_both}
use Rattle.cq_value.specs.declared.value.Value.{Value}
use Rattle.cq_value.specs.declared.value.Value.TheVariants.{Null}
use Rattle.cq_tree.specs.declared.expression.Cond.{Cond}
use Rattle.cq_tree.specs.declared.expression.Expr.{Expr}
use Rattle.cq_tree.specs.declared.query.Agg.{Agg}
use Rattle.cq_tree.specs.declared.query.FromTree.{FromTree, Table, Sub', Result, Cross', Inner', Left', end_of-FromTree, more_of-FromTree, end_of-Query, more_of-Query}
use Rattle.cq_tree.specs.declared.query.Query.{Query, Query'}
use Rattle.cq_meaning.specs.Values.{Row, Tables, Results, column, table_rows, result_at}
use Rattle.cq_meaning.specs.Expressions.{keeps}
use Rattle.cq_meaning.specs.Groups.{is_known, distinct_if}
use Rattle.cq_meaning.specs.Joins.{product, left_join}
use Rattle.cq_meaning.specs.Sorting.{keys_cmp, sorted, cut}
use Rattle.cq_meaning.specs.Queries.{item_rows, outputs_of, columns_in, joins, from_rows, meaning}
use Rattle.cq_catalog.specs.Contents.{Contents}
use Rattle.cq_catalog.specs.Placement.{place_at, group_of}
use Rattle.cq_catalog.specs.Whole.{IsWhole, IsPlaced}
use Rattle.cq_catalog.specs.declared.info.Place.{Place}
use Rattle.cq_catalog.specs.declared.info.Place.TheVariants.{Local, Distributed, Reference}
use Rattle.cq_planning.specs.Conjuncts.{conjuncts, inner_conjuncts, conjuncts_of}
use Rattle.cq_planning.specs.Narrowing.{distribution_in, right_sets, sets_in, given, given_to}
use Rattle.cq_planning.specs.Occurrences.{Occurrence, key_values, occurrences_from, occurrences_in}
use Rattle.cq_planning.specs.Pushable.{Pushable, pushable}
use Rattle.cq_planning.specs.Touched.{among, groups_at, groups_of}
use Rattle.cq_planning.specs.ValueSets.{ValueSet, value_set, has_value}
use Rattle.cq_planning.specs.Database.{shape_in}
use Rattle.cq_planning_laws.specs.Laid.{IsLaidFrom, IsLaid, IsColumnOf}
use Rattle.cq_planning_laws.proofs.Lists.{among_here}
use Rattle.cq_planning_laws.proofs.SameRows.{is_given, SameKept, PushesThrough}
use Rattle.cq_planning_laws.proofs.GroupLists.{Cut, cut_there, placed}
use Rattle.cq_planning_laws.proofs.Rows.{Says, IsOneOf, kept_says, set_has, known_has, value_there}
use Rattle.cq_planning_laws.proofs.Writes.{groups_has, group_below}
use Rattle.cq_planning_laws.proofs.Columns.{pad, column_pad, column_nulls, in_left, in_right, fits, FitsEach, fits_each, each_fits, null_in, left_fits, right_fits, filter_twice, restricted}
use Rattle.cq_planning_laws.proofs.Joins.{joined_restricted, left_restricted}
use Rattle.cq_planning_laws.proofs.RowFacts.{IsWide, HasFacts, all_facts, right_has}

-- what a test that needs the touched groups alone says of a row
abbrev pub Reach : Contents → List ℕ → ℕ → Place → (Row → Bool) → Type 0
Reach c touched t Local p = ⊤
Reach c touched t (Distributed at colocation first_shard) p = (row : Row) → p row ≡ true → among (group_of c t (column row at)) touched ≡ true
Reach c touched t (Reference group shard) p = among group touched ≡ true

-- the groups are touched
abbrev pub AreTouched : Contents → List ℕ → List ℕ → Type 0
AreTouched c touched gs = (g : ℕ) → g < c.groups → among g gs ≡ true → among g touched ≡ true

-- so are those of each occurrence
abbrev pub Covers : Contents → List ℕ → List Occurrence → Type 0
Covers c touched os = AllByRecursion (λ (o : Occurrence). AreTouched c touched (groups_of c o)) os

pub covers_left : (c : Contents) (touched : List ℕ) (xs ys : List Occurrence) → Covers c touched (xs ++ ys) → Covers c touched xs
covers_left c touched xs ys h = all_left (λ (o : Occurrence). AreTouched c touched (groups_of c o)) xs ys h

pub covers_right : (c : Contents) (touched : List ℕ) (xs ys : List Occurrence) → Covers c touched (xs ++ ys) → Covers c touched ys
covers_right c touched xs ys h = all_right (λ (o : Occurrence). AreTouched c touched (groups_of c o)) xs ys h

filter_same : (p q : Row → Bool) (xs : List Row) → ((x : Row) → p x ≡ q x) → filter p xs ≡ filter q xs
filter_same p q [] h = refl
filter_same p q (x ∷ xs) h = elim (two_ways (q x)) [
  | inl y ↦ (let z : p x ≡ true = h x ∙ y in rw (y, z) (ap (λ u. x ∷ u) (filter_same p q xs h)))
  | inr n ↦ (let z : p x ≡ false = h x ∙ n in rw (y2 n, z) (filter_same p q xs h))
]
  where
    y2 : {b : Bool} → b ≡ false → b ≡ false
    y2 e = e

pub items_same : (f : Cond) (grouped : Bool) (keys : List Expr) (aggs : List Agg) (having : Cond) (items : List Expr) (rs : Results) (xs ys : List Row) → filter (keeps f rs) xs ≡ filter (keeps f rs) ys →
    item_rows f grouped keys aggs having items rs xs ≡ item_rows f grouped keys aggs having items rs ys
items_same f true keys aggs having items rs xs ys e = rw e refl
items_same f false keys aggs having items rs xs ys e = rw e refl

-- without sets from outside: the same kept rows
pub kept_alone : (f : Cond) (rs : Results) (xs ys : List Row) → filter (λ row. keeps f rs row && is_given [] row) xs ≡ filter (λ row. keeps f rs row && is_given [] row) ys → filter (keeps f rs) xs ≡ filter (keeps f rs) ys
kept_alone f rs xs ys h =
    filter_same (keeps f rs) (λ row. keeps f rs row && is_given [] row) xs (λ row. alone (keeps f rs row))
    ∙ h ∙ filter_same (λ row. keeps f rs row && is_given [] row) (keeps f rs) ys (λ row. sym (alone (keeps f rs row)))
  where
    alone : (b : Bool) → b ≡ (b && true)
    alone true = refl
    alone false = refl

pub mean_same : (q : Query) (db dn : Tables) (rs : Results) → SameKept q [] db dn rs → meaning q db rs ≡ meaning q dn rs
mean_same (Query' cs ctes ss subs from filter_ grouped keys aggs having items shown distinct order limit offset names) db dn rs h =
    ap (λ rows. cut shown limit offset (sorted (keys_cmp order) (distinct_if distinct rows)))
    (items_same filter_ grouped keys aggs having items rs (from_rows from 0 db rs) (from_rows from 0 dn rs) (kept_alone filter_ rs (from_rows from 0 db rs) (from_rows from 0 dn rs) h))

given_says : (row : Row) (outer : List (ℕ × List Value)) → is_given outer row ≡ true → AllByRecursion (IsOneOf row) outer
given_says row [] h = tt
given_says row (k ∷ outer) h =
    let t = and_both (has_value (Some k.1) (column row k.0)) (is_given outer row) h in
    ((value_there (column row k.0) k.1 t.0, (known_has (column row k.0) k.1 t.0).0), given_says row outer t.1)

module _ (c : Contents) (w : IsWhole c) (touched : List ℕ) (widths : ℕ → ℕ) (through : PushesThrough c) (db dn : Tables) (rs : Results)
    (tables_db : (t n : ℕ) → IsColumnOf n (place_at c t) → AllByRecursion (IsWide (length (shape_in c t).kinds)) (table_rows db t))
    (tables_dn : (t n : ℕ) → IsColumnOf n (place_at c t) → AllByRecursion (IsWide (length (shape_in c t).kinds)) (table_rows dn t))
    (results : (i : ℕ) → AllByRecursion (IsWide (widths i)) (result_at rs i))
    (same : (t : ℕ) (p : Row → Bool) → Reach c touched t (place_at c t) p → filter p (table_rows db t) ≡ filter p (table_rows dn t)) where
  table_reached : (t n start : ℕ) (sets : ℕ → ValueSet) (p : Place) → place_at c t ≡ p → IsColumnOf n p → AreTouched c touched (groups_at c t p (key_values sets start p)) → Reach c touched t p (fits sets start n)
  table_reached t n start sets Local e h cov = tt
  table_reached t n start sets (Distributed at colocation first_shard) e h cov = λ row k.
      let u : Cut c t = cut_there c t at colocation first_shard w e in
      let has : has_value (sets (start + at)) (column (pad start row) (start + at)) ≡ true = fits_each sets start n row k (start + at) (omega arith) (omega (arith, h)) in
      cov (group_of c t (column row at)) (group_below c t at colocation first_shard u (column row at))
      (groups_has c t at colocation first_shard u (sets (start + at)) (column row at) (subst (λ v. has_value (sets (start + at)) v ≡ true) (column_pad start row at) has))
  table_reached t n start sets (Reference group shard) e h cov =
      let p : IsPlaced c (Reference group shard) = subst (IsPlaced c) e (placed c t w) in cov group p.0 (among_here group [])

  -- a subquery that is given a set, and one that isn't
  sub_same : (q : Query) (sets : ℕ → ValueSet) (start : ℕ) (p : Option Pushable) → pushable c q ≡ p → ((outer : List (ℕ × List Value)) → outer ≡ given_to sets start p → SameKept q outer db dn rs) →
      filter (fits sets start (outputs_of q)) (meaning q db rs) ≡ filter (fits sets start (outputs_of q)) (meaning q dn rs)
  sub_same q sets start None e kept = ap (filter (fits sets start (outputs_of q))) (mean_same q db dn rs (kept [] refl))
  sub_same q sets start (Some p) e kept = of_set (sets (start + p.output)) refl
    where
      of_set : (s : ValueSet) → sets (start + p.output) ≡ s → filter (fits sets start (outputs_of q)) (meaning q db rs) ≡ filter (fits sets start (outputs_of q)) (meaning q dn rs)
      of_set None is = ap (filter (fits sets start (outputs_of q))) (mean_same q db dn rs (kept [] (sym (ap (given p.column) is))))
      of_set (Some vs) is =
          let inner : SameKept q ((p.column, vs) ∷ []) db dn rs = kept ((p.column, vs) ∷ []) (sym (ap (given p.column) is)) in
          let ok : Row → Bool = λ row. has_value (Some vs) (column row p.output) in
          let needs : (row : Row) → fits sets start (outputs_of q) row ≡ true → ok row ≡ true = λ row k.
          (let here = (through q p e).0 in
          let a : has_value (sets (start + p.output)) (column (pad start row) (start + p.output)) ≡ true = fits_each sets start (outputs_of q) row k (start + p.output) (omega arith) (omega (arith, here)) in
          let b : has_value (sets (start + p.output)) (column row p.output) ≡ true = subst (λ v. has_value (sets (start + p.output)) v ≡ true) (column_pad start row p.output) a in
          subst (λ s. has_value s (column row p.output) ≡ true) is b) in
          restricted (fits sets start (outputs_of q)) ok (meaning q db rs) (all_rows ok needs (meaning q db rs))
          ∙ ap (filter (fits sets start (outputs_of q))) ((through q p e).1 db dn rs vs inner)
          ∙ sym (restricted (fits sets start (outputs_of q)) ok (meaning q dn rs) (all_rows ok needs (meaning q dn rs)))
        where
          all_rows : (ok : Row → Bool) → ((row : Row) → fits sets start (outputs_of q) row ≡ true → ok row ≡ true) → (rows : List Row) → AllByRecursion (λ row. fits sets start (outputs_of q) row ≡ true → ok row ≡ true) rows
          all_rows ok f [] = tt
          all_rows ok f (row ∷ rows) = (f row, all_rows ok f rows)

  facts_db : (f : FromTree) (sets : ℕ → ValueSet) (start : ℕ) → IsLaidFrom c widths f → AllByRecursion (HasFacts c widths db rs sets f start) (from_rows f start db rs)
  facts_db = all_facts c widths db rs tables_db results

  facts_dn : (f : FromTree) (sets : ℕ → ValueSet) (start : ℕ) → IsLaidFrom c widths f → AllByRecursion (HasFacts c widths dn rs sets f start) (from_rows f start dn rs)
  facts_dn = all_facts c widths dn rs tables_dn results

  -- joins, by what holds of both sides
  product_same : (sets : ℕ → ValueSet) (start wa wb : ℕ) (on : Row → Bool) (us us2 bs bs2 : List Row) → AllByRecursion (IsWide wa) us → AllByRecursion (IsWide wa) us2 →
      filter (fits sets start wa) us ≡ filter (fits sets start wa) us2 → filter (fits sets (start + wa) wb) bs ≡ filter (fits sets (start + wa) wb) bs2 →
      filter (λ x. on x && fits sets start (wa + wb) x) (product us bs) ≡ filter (λ x. on x && fits sets start (wa + wb) x) (product us2 bs2)
  product_same sets start wa wb on us us2 bs bs2 wide wide2 ea eb =
      let p : Row → Bool = λ x. on x && fits sets start (wa + wb) x in
      let fa : Row → Bool = fits sets start wa in
      let fb : Row → Bool = fits sets (start + wa) wb in
      let needs : (l r : Row) → IsWide wa l → p (l ++ r) ≡ true → (fa l ≡ true) × (fb r ≡ true) = λ l r long k.
      (let each : FitsEach sets start (wa + wb) (l ++ r) = fits_each sets start (wa + wb) (l ++ r) (and_both (on (l ++ r)) (fits sets start (wa + wb) (l ++ r)) k).1 in
      (each_fits sets start wa l (left_fits sets start l r wa wb long each), each_fits sets (start + wa) wb r (right_fits sets start l r wa wb long each))) in
      joined_restricted (IsWide wa) p fa fb us bs wide needs
      ∙ (λ i. filter p (product (ea i) (eb i)))
      ∙ sym (joined_restricted (IsWide wa) p fa fb us2 bs2 wide2 needs)

  left_same : (sets left right : ℕ → ValueSet) (start wa wb : ℕ) (L : Row → Type 0) (on : Row → Bool) (us us2 bs bs2 : List Row) → AllByRecursion L us → AllByRecursion L us2 →
      ((l : Row) → L l → length l ≡ wa) →
      ((l r : Row) → L l → on (l ++ r) ≡ true → FitsEach sets start wa l → (y : ℕ) → has_value (sets y) (column (pad start (l ++ r)) y) ≡ true → has_value (right y) (column (pad start (l ++ r)) y) ≡ true) →
      filter (fits sets start wa) us ≡ filter (fits sets start wa) us2 → filter (fits right (start + wa) wb) bs ≡ filter (fits right (start + wa) wb) bs2 →
      filter (fits sets start (wa + wb)) (left_join on wb us bs) ≡ filter (fits sets start (wa + wb)) (left_join on wb us2 bs2)
  left_same sets left right start wa wb L on us us2 bs bs2 all all2 long narrow ea eb =
      let p : Row → Bool = fits sets start (wa + wb) in
      let fa : Row → Bool = fits sets start wa in
      let fb : Row → Bool = fits right (start + wa) wb in
      let matched : (l r : Row) → L l → on (l ++ r) ≡ true → p (l ++ r) ≡ true → (fa l ≡ true) × (fb r ≡ true) = λ l r h o k.
      (let each : FitsEach sets start (wa + wb) (l ++ r) = fits_each sets start (wa + wb) (l ++ r) k in
      let on_left : FitsEach sets start wa l = left_fits sets start l r wa wb (long l h) each in (
        each_fits sets start wa l on_left,
        each_fits right (start + wa) wb r (λ y lo hi. subst (λ v. has_value (right y) v ≡ true) (in_right start l r wa (long l h) y lo) (narrow l r h o on_left y (each y (omega (arith, lo)) (omega (arith, hi))))),
      )) in
      let padded : (l : Row) → L l → p (l ++ replicate wb Null) ≡ true → (fa l ≡ true) × ((r : Row) → on (l ++ r) ≡ true → fb r ≡ true) = λ l h k.
      (let each : FitsEach sets start (wa + wb) (l ++ replicate wb Null) = fits_each sets start (wa + wb) (l ++ replicate wb Null) k in
      let on_left : FitsEach sets start wa l = left_fits sets start l (replicate wb Null) wa wb (long l h) each in (
        each_fits sets start wa l on_left,
        λ r o. each_fits right (start + wa) wb r (λ y lo hi.
            (let nothing : column (pad start (l ++ replicate wb Null)) y ≡ Null = in_right start l (replicate wb Null) wa (long l h) y lo ∙ column_nulls (start + wa) wb y in
            let unset : has_value (sets y) Null ≡ true = subst (λ v. has_value (sets y) v ≡ true) nothing (each y (omega (arith, lo)) (omega (arith, hi))) in
            subst (λ v. has_value (right y) v ≡ true) (in_right start l r wa (long l h) y lo) (narrow l r h o on_left y (null_in (sets y) (column (pad start (l ++ r)) y) unset)))),
      )) in
      left_restricted L p on fa fb wb us bs all matched padded
      ∙ (λ i. filter p (left_join on wb (ea i) (eb i)))
      ∙ sym (left_restricted L p on fa fb wb us2 bs2 all2 matched padded)

  mutual
    pub from_same : (f : FromTree) (sets : ℕ → ValueSet) (start : ℕ) → IsLaidFrom c widths f → Covers c touched (occurrences_from c sets f start) →
        filter (fits sets start (columns_in f)) (from_rows f start db rs) ≡ filter (fits sets start (columns_in f)) (from_rows f start dn rs)
    from_same (Table t n) sets start h cov = same t (fits sets start n) (table_reached t n start sets (place_at c t) refl h.1 cov.0)
    from_same (Sub' p (more_of-Query q end_of-Query)) sets start h cov =
        sub_same q sets start (pushable c q) refl (λ outer e. kept_same q outer h (subst (λ o. Covers c touched (occurrences_in c q o)) (sym e) cov))
    from_same (Result i n) sets start h cov = refl
    from_same (Cross' p (more_of-FromTree a end_of-FromTree) q (more_of-FromTree b end_of-FromTree)) sets start h cov =
        let wa : ℕ = columns_in a in
        product_same sets start wa (columns_in b) (λ x. true) (from_rows a start db rs) (from_rows a start dn rs) (from_rows b (start + wa) db rs) (from_rows b (start + wa) dn rs)
        (all_weaker (HasFacts c widths db rs sets a start) (IsWide wa) (λ r g. g.0) (from_rows a start db rs) (facts_db a sets start h.0))
        (all_weaker (HasFacts c widths dn rs sets a start) (IsWide wa) (λ r g. g.0) (from_rows a start dn rs) (facts_dn a sets start h.0))
        (from_same a sets start h.0 (covers_left c touched (occurrences_from c sets a start) (occurrences_from c sets b (start + wa)) cov))
        (from_same b sets (start + wa) h.1 (covers_right c touched (occurrences_from c sets a start) (occurrences_from c sets b (start + wa)) cov))
    from_same (Inner' p (more_of-FromTree a end_of-FromTree) q (more_of-FromTree b end_of-FromTree) on) sets start h cov =
        let wa : ℕ = columns_in a in
        let f : Row → Bool = fits sets start (wa + columns_in b) in
        filter_twice f (joins on rs start) (product (from_rows a start db rs) (from_rows b (start + wa) db rs))
        ∙ product_same sets start wa (columns_in b) (joins on rs start) (from_rows a start db rs) (from_rows a start dn rs) (from_rows b (start + wa) db rs) (from_rows b (start + wa) dn rs)
        (all_weaker (HasFacts c widths db rs sets a start) (IsWide wa) (λ r g. g.0) (from_rows a start db rs) (facts_db a sets start h.0))
        (all_weaker (HasFacts c widths dn rs sets a start) (IsWide wa) (λ r g. g.0) (from_rows a start dn rs) (facts_dn a sets start h.0))
        (from_same a sets start h.0 (covers_left c touched (occurrences_from c sets a start) (occurrences_from c sets b (start + wa)) cov))
        (from_same b sets (start + wa) h.1 (covers_right c touched (occurrences_from c sets a start) (occurrences_from c sets b (start + wa)) cov))
        ∙ sym (filter_twice f (joins on rs start) (product (from_rows a start dn rs) (from_rows b (start + wa) dn rs)))
    from_same (Left' p (more_of-FromTree a end_of-FromTree) q (more_of-FromTree b end_of-FromTree) on) sets start h cov =
        let wa : ℕ = columns_in a in
        let sa : ℕ → ValueSet = sets_in c sets a start in
        let sb : ℕ → ValueSet = right_sets sets sa (distribution_in c b (start + wa)) start (start + wa) on in
        left_same sets sa sb start wa (columns_in b) (HasFacts c widths db rs sets a start) (joins on rs start) (from_rows a start db rs) (from_rows a start dn rs) (from_rows b (start + wa) db rs) (from_rows b (start + wa) dn rs)
        (facts_db a sets start h.0) (facts_dn a sets start h.0) (λ l g. g.0)
        (λ l r g o given y k. right_has sets sa (distribution_in c b (start + wa)) start (start + wa) on rs (pad start (l ++ r)) o
        (λ z zl zh zk. (let one : column (pad start (l ++ r)) z ≡ column (pad start l) z = in_left start l r wa g.0 z zh in
        subst (λ v. has_value (sa z) v ≡ true) (sym one) (g.2 given z zl zh (ap is_known (sym one) ∙ zk)))) y k)
        (from_same a sets start h.0 (covers_left c touched (occurrences_from c sets a start) (occurrences_from c sb b (start + wa)) cov))
        (from_same b sb (start + wa) h.1 (covers_right c touched (occurrences_from c sets a start) (occurrences_from c sb b (start + wa)) cov))

    pub kept_same : (q : Query) (outer : List (ℕ × List Value)) → IsLaid c widths q → Covers c touched (occurrences_in c q outer) → SameKept q outer db dn rs
    kept_same (Query' cs ctes ss subs from filter_ grouped keys aggs having items shown distinct order limit offset names) outer h cov =
        let all : List Cond = conjuncts_of filter_ from in
        let sets : ℕ → ValueSet = value_set outer all in
        let keep : Row → Bool = λ row. keeps filter_ rs row && is_given outer row in
        let fit : Row → Bool = fits sets 0 (columns_in from) in
        let needs : (row : Row) → AllByRecursion (Says (pad 0 row)) (inner_conjuncts from) → keep row ≡ true → fit row ≡ true = λ row says k.
        (let t = and_both (keeps filter_ rs row) (is_given outer row) k in
        each_fits sets 0 (columns_in from) row (λ x lo hi.
        set_has row outer all (given_says row outer t.1) (all_append (Says row) (conjuncts filter_) (inner_conjuncts from) (kept_says row rs filter_ t.0) says) x)) in
        restricted keep fit (from_rows from 0 db rs) (all_weaker (HasFacts c widths db rs sets from 0) (λ row. keep row ≡ true → fit row ≡ true) (λ row g. needs row g.1) (from_rows from 0 db rs) (facts_db from sets 0 h.0))
        ∙ ap (filter keep) (from_same from sets 0 h.0 cov)
        ∙ sym (restricted keep fit (from_rows from 0 dn rs) (all_weaker (HasFacts c widths dn rs sets from 0) (λ row. keep row ≡ true → fit row ≡ true) (λ row g. needs row g.1) (from_rows from 0 dn rs) (facts_dn from sets 0 h.0)))
