-- There are widths for the results of a statement's steps: each is computed from those of the CTEs before it.
use Rattle.std.proofs.Common.{◌≡◌, ◌⊎◌, inl, inr, ℕ, zero, suc, ◌+◌, ◌≤◌, ◌<◌, List, [], ◌∷◌, ◌++◌, map, length, refl, sym, ap, ◌∙◌, subst, arith, length-append}
use Rattle.std.specs.Prelude.{⊤, slice_index_or}
use Rattle.std.specs.List.{AllByRecursion}
use Rattle.cq_value.proofs.Lists.{all_append}
use Rattle.cq_tree.specs.declared.query.FromTree.{FromTree, Table, Sub', Result, Cross', Inner', Left', more_of-FromTree, end_of-FromTree}
use Rattle.cq_tree.specs.declared.query.FromTree.TheOpen.{Query-F}
use Rattle.cq_tree.specs.declared.query.Query.{Query, Query', Row_of-Query, end_of-Query, more_of-Query, roll-Query}
use Rattle.cq_meaning.specs.declared.Columns.{Columns}
use Rattle.cq_meaning.specs.Results.{ins_in, ins_in_from, ins_in_all}
use Rattle.cq_meaning.specs.Widths.{output_bits}
use Rattle.cq_meaning_laws.specs.WholeRules.{Step, steps_in, steps_in_from, steps_in_all, steps_of}
use Rattle.cq_reading_laws.proofs.StepRows.{ins_all, steps_all, ins_ctes, steps_ctes, steps_statement}
use Rattle.cq_reading_laws.proofs.StepSubs.{Agree, Depends}
use Rattle.cq_reading_laws.proofs.StepCtes.{DependEach}

-- ---- how many steps there are

both : (xs ys : List Step) (m n : ℕ) → length xs ≡ m → length ys ≡ n → length (xs ++ ys) ≡ m + n
both xs ys m n e f = omega (arith, length-append xs ys, e, f)

behind : (xs : List Step) (s : Step) (ys : List Step) (m n : ℕ) → length xs ≡ m → length ys ≡ n → length (xs ++ (s ∷ ys)) ≡ 1 + m + n
behind xs s ys m n e f = omega (arith, length-append xs (s ∷ ys), e, f)

mutual
  length_in : (q : Query) (k : ℕ) → length (steps_in k q) ≡ ins_in q
  length_in (Query' cs ctes ss subs from filter_ grouped keys aggs having items shown distinct order limit offset names) k =
      both (steps_in_from k from) (steps_in_all (k + ins_in_from from) subs) (ins_in_from from) (ins_in_all subs) (length_from from k) (length_rows subs (k + ins_in_from from))

  length_from : (f : FromTree) (k : ℕ) → length (steps_in_from k f) ≡ ins_in_from f
  length_from (Table t n) k = refl
  length_from (Sub' p (more_of-Query q end_of-Query)) k = length_in q k
  length_from (Result i n) k = refl
  length_from (Cross' p (more_of-FromTree a end_of-FromTree) q (more_of-FromTree b end_of-FromTree)) k =
      both (steps_in_from k a) (steps_in_from (k + ins_in_from a) b) (ins_in_from a) (ins_in_from b) (length_from a k) (length_from b (k + ins_in_from a))
  length_from (Inner' p (more_of-FromTree a end_of-FromTree) q (more_of-FromTree b end_of-FromTree) on) k =
      both (steps_in_from k a) (steps_in_from (k + ins_in_from a) b) (ins_in_from a) (ins_in_from b) (length_from a k) (length_from b (k + ins_in_from a))
  length_from (Left' p (more_of-FromTree a end_of-FromTree) q (more_of-FromTree b end_of-FromTree) on) k =
      both (steps_in_from k a) (steps_in_from (k + ins_in_from a) b) (ins_in_from a) (ins_in_from b) (length_from a k) (length_from b (k + ins_in_from a))

  length_rows : {n : _} (qs : Row_of-Query n) (k : ℕ) → length (steps_in_all k qs) ≡ ins_in_all qs
  length_rows end_of-Query k = refl
  length_rows (more_of-Query q more) k =
      behind (steps_in (k + 1) q) (record { number = k; query = q }) (steps_in_all (k + 1 + ins_in q) more) (ins_in q) (ins_in_all more) (length_in q (k + 1)) (length_rows more (k + 1 + ins_in q))

length_all : (qs : List Query) (k : ℕ) → length (steps_all k qs) ≡ ins_all qs
length_all [] k = refl
length_all (q ∷ more) k = behind (steps_in (k + 1) q) (record { number = k; query = q }) (steps_all (k + 1 + ins_in q) more) (ins_in q) (ins_all more) (length_in q (k + 1)) (length_all more (k + 1 + ins_in q))

length_ctes : (qs : List Query) (i k : ℕ) → length (steps_ctes i k qs) ≡ length qs + ins_ctes qs
length_ctes [] i k = refl
length_ctes (q ∷ more) i k =
    let e = behind (steps_in k q) (record { number = i; query = q }) (steps_ctes (i + 1) (k + ins_in q) more) (ins_in q) (length more + ins_ctes more) (length_in q k) (length_ctes more (i + 1) (k + ins_in q)) in
    omega (arith, e)

pub length_statement : (x : Query-F FromTree Query) → length (steps_of (roll-Query x)) ≡ length x.ctes + (ins_ctes x.ctes + (ins_in_from x.from + ins_all x.subs))
length_statement x =
    let n : ℕ = length x.ctes in
    let m : ℕ = n + ins_ctes x.ctes in
    let xs : List Step = steps_ctes 0 n x.ctes in
    let ys : List Step = steps_in_from m x.from in
    let zs : List Step = steps_all (m + ins_in_from x.from) x.subs in
    let e : length (steps_of (roll-Query x)) ≡ length (xs ++ (ys ++ zs)) = ap length (steps_statement x) in
    omega (arith, e, length-append xs (ys ++ zs), length-append ys zs, length_ctes x.ctes 0 n, length_from x.from m, length_all x.subs (m + ins_in_from x.from))

-- ---- widths in their places

abbrev at : List (List ℕ) → ℕ → List ℕ
at rs i = slice_index_or rs i []

-- these stand one behind the other from place k on
abbrev Placed : List (List ℕ) → ℕ → List (List ℕ) → Type 0
Placed rs k [] = ⊤
Placed rs k (w ∷ ws) = (at rs k ≡ w) × Placed rs (k + 1) ws

placed_first : (rs : List (List ℕ)) (k : ℕ) (us vs : List (List ℕ)) → Placed rs k (us ++ vs) → Placed rs k us
placed_first rs k [] vs h = tt
placed_first rs k (u ∷ us) vs h = (h.0, placed_first rs (k + 1) us vs h.1)

placed_second : (rs : List (List ℕ)) (k n : ℕ) (us vs : List (List ℕ)) → length us ≡ n → Placed rs k (us ++ vs) → Placed rs (k + n) vs
placed_second rs k n [] vs is h = let e : k ≡ k + n = omega (arith, is) in subst (λ i. Placed rs i vs) e h
placed_second rs k n (u ∷ us) vs is h =
    let e : k + 1 + length us ≡ k + n = omega (arith, is) in
    subst (λ i. Placed rs i vs) e (placed_second rs (k + 1) (length us) us vs refl h.1)

put_ahead : (w : List ℕ) (rs : List (List ℕ)) (k : ℕ) (ws : List (List ℕ)) → Placed rs k ws → Placed (w ∷ rs) (suc k) ws
put_ahead w rs k [] h = tt
put_ahead w rs k (v ∷ ws) h = let e : suc (k + 1) ≡ suc k + 1 = omega arith in (h.0, subst (λ i. Placed (w ∷ rs) i ws) e (put_ahead w rs (k + 1) ws h.1))

-- all of them
placed : (ws : List (List ℕ)) → Placed ws 0 ws
placed [] = tt
placed (w ∷ ws) = (refl, put_ahead w ws 0 ws (placed ws))

-- ---- the widths of IN subqueries, by their numbers

module _ (f : Query → List ℕ) where
  abbrev mutual
    widths_in : Query → List (List ℕ)
    widths_in (Query' cs ctes ss subs from filter_ grouped keys aggs having items shown distinct order limit offset names) = widths_in_from from ++ widths_in_rows subs

    widths_in_from : FromTree → List (List ℕ)
    widths_in_from (Table t n) = []
    widths_in_from (Sub' p (more_of-Query q end_of-Query)) = widths_in q
    widths_in_from (Result i n) = []
    widths_in_from (Cross' p (more_of-FromTree a end_of-FromTree) q (more_of-FromTree b end_of-FromTree)) = widths_in_from a ++ widths_in_from b
    widths_in_from (Inner' p (more_of-FromTree a end_of-FromTree) q (more_of-FromTree b end_of-FromTree) on) = widths_in_from a ++ widths_in_from b
    widths_in_from (Left' p (more_of-FromTree a end_of-FromTree) q (more_of-FromTree b end_of-FromTree) on) = widths_in_from a ++ widths_in_from b

    widths_in_rows : {n : _} → Row_of-Query n → List (List ℕ)
    widths_in_rows end_of-Query = []
    widths_in_rows (more_of-Query q more) = f q ∷ (widths_in q ++ widths_in_rows more)

  abbrev widths_all : List Query → List (List ℕ)
  widths_all [] = []
  widths_all (q ∷ more) = f q ∷ (widths_in q ++ widths_all more)

  abbrev widths_ctes : List Query → List (List ℕ)
  widths_ctes [] = []
  widths_ctes (q ∷ more) = widths_in q ++ widths_ctes more

  both_widths : (us vs : List (List ℕ)) (m n : ℕ) → length us ≡ m → length vs ≡ n → length (us ++ vs) ≡ m + n
  both_widths us vs m n d e = omega (arith, length-append us vs, d, e)

  mutual
    count_in : (q : Query) → length (widths_in q) ≡ ins_in q
    count_in (Query' cs ctes ss subs from filter_ grouped keys aggs having items shown distinct order limit offset names) =
        both_widths (widths_in_from from) (widths_in_rows subs) (ins_in_from from) (ins_in_all subs) (count_from from) (count_rows subs)

    count_from : (t : FromTree) → length (widths_in_from t) ≡ ins_in_from t
    count_from (Table t n) = refl
    count_from (Sub' p (more_of-Query q end_of-Query)) = count_in q
    count_from (Result i n) = refl
    count_from (Cross' p (more_of-FromTree a end_of-FromTree) q (more_of-FromTree b end_of-FromTree)) = both_widths (widths_in_from a) (widths_in_from b) (ins_in_from a) (ins_in_from b) (count_from a) (count_from b)
    count_from (Inner' p (more_of-FromTree a end_of-FromTree) q (more_of-FromTree b end_of-FromTree) on) = both_widths (widths_in_from a) (widths_in_from b) (ins_in_from a) (ins_in_from b) (count_from a) (count_from b)
    count_from (Left' p (more_of-FromTree a end_of-FromTree) q (more_of-FromTree b end_of-FromTree) on) = both_widths (widths_in_from a) (widths_in_from b) (ins_in_from a) (ins_in_from b) (count_from a) (count_from b)

    count_rows : {n : _} (qs : Row_of-Query n) → length (widths_in_rows qs) ≡ ins_in_all qs
    count_rows end_of-Query = refl
    count_rows (more_of-Query q more) = let e = both_widths (widths_in q) (widths_in_rows more) (ins_in q) (ins_in_all more) (count_in q) (count_rows more) in omega (arith, e)

  count_all : (qs : List Query) → length (widths_all qs) ≡ ins_all qs
  count_all [] = refl
  count_all (q ∷ more) = let e = both_widths (widths_in q) (widths_all more) (ins_in q) (ins_all more) (count_in q) (count_all more) in omega (arith, e)

  count_ctes : (qs : List Query) → length (widths_ctes qs) ≡ ins_ctes qs
  count_ctes [] = refl
  count_ctes (q ∷ more) = both_widths (widths_in q) (widths_ctes more) (ins_in q) (ins_ctes more) (count_in q) (count_ctes more)

  module _ (rs : List (List ℕ)) where
    -- the step's result has the step's width
    abbrev Has : Step → Type 0
    Has s = at rs s.number ≡ f s.query

    join : (xs ys : List Step) → AllByRecursion Has xs → AllByRecursion Has ys → AllByRecursion Has (xs ++ ys)
    join xs ys h k = all_append Has xs ys h k

    mutual
      have_in : (q : Query) (k : ℕ) → Placed rs k (widths_in q) → AllByRecursion Has (steps_in k q)
      have_in (Query' cs ctes ss subs from filter_ grouped keys aggs having items shown distinct order limit offset names) k h =
          join (steps_in_from k from) (steps_in_all (k + ins_in_from from) subs)
          (have_from from k (placed_first rs k (widths_in_from from) (widths_in_rows subs) h))
          (have_rows subs (k + ins_in_from from) (placed_second rs k (ins_in_from from) (widths_in_from from) (widths_in_rows subs) (count_from from) h))

      have_from : (t : FromTree) (k : ℕ) → Placed rs k (widths_in_from t) → AllByRecursion Has (steps_in_from k t)
      have_from (Table t n) k h = tt
      have_from (Sub' p (more_of-Query q end_of-Query)) k h = have_in q k h
      have_from (Result i n) k h = tt
      have_from (Cross' p (more_of-FromTree a end_of-FromTree) q (more_of-FromTree b end_of-FromTree)) k h =
          join (steps_in_from k a) (steps_in_from (k + ins_in_from a) b)
          (have_from a k (placed_first rs k (widths_in_from a) (widths_in_from b) h))
          (have_from b (k + ins_in_from a) (placed_second rs k (ins_in_from a) (widths_in_from a) (widths_in_from b) (count_from a) h))
      have_from (Inner' p (more_of-FromTree a end_of-FromTree) q (more_of-FromTree b end_of-FromTree) on) k h =
          join (steps_in_from k a) (steps_in_from (k + ins_in_from a) b)
          (have_from a k (placed_first rs k (widths_in_from a) (widths_in_from b) h))
          (have_from b (k + ins_in_from a) (placed_second rs k (ins_in_from a) (widths_in_from a) (widths_in_from b) (count_from a) h))
      have_from (Left' p (more_of-FromTree a end_of-FromTree) q (more_of-FromTree b end_of-FromTree) on) k h =
          join (steps_in_from k a) (steps_in_from (k + ins_in_from a) b)
          (have_from a k (placed_first rs k (widths_in_from a) (widths_in_from b) h))
          (have_from b (k + ins_in_from a) (placed_second rs k (ins_in_from a) (widths_in_from a) (widths_in_from b) (count_from a) h))

      have_rows : {n : _} (qs : Row_of-Query n) (k : ℕ) → Placed rs k (widths_in_rows qs) → AllByRecursion Has (steps_in_all k qs)
      have_rows end_of-Query k h = tt
      have_rows (more_of-Query q more) k h =
          join (steps_in (k + 1) q) (record { number = k; query = q } ∷ steps_in_all (k + 1 + ins_in q) more)
          (have_in q (k + 1) (placed_first rs (k + 1) (widths_in q) (widths_in_rows more) h.1))
          (h.0, have_rows more (k + 1 + ins_in q) (placed_second rs (k + 1) (ins_in q) (widths_in q) (widths_in_rows more) (count_in q) h.1))

    have_all : (qs : List Query) (k : ℕ) → Placed rs k (widths_all qs) → AllByRecursion Has (steps_all k qs)
    have_all [] k h = tt
    have_all (q ∷ more) k h =
        join (steps_in (k + 1) q) (record { number = k; query = q } ∷ steps_all (k + 1 + ins_in q) more)
        (have_in q (k + 1) (placed_first rs (k + 1) (widths_in q) (widths_all more) h.1))
        (h.0, have_all more (k + 1 + ins_in q) (placed_second rs (k + 1) (ins_in q) (widths_in q) (widths_all more) (count_in q) h.1))

    have_ctes : (qs : List Query) (i k : ℕ) → Placed rs i (map f qs) → Placed rs k (widths_ctes qs) → AllByRecursion Has (steps_ctes i k qs)
    have_ctes [] i k g h = tt
    have_ctes (q ∷ more) i k g h =
        join (steps_in k q) (record { number = i; query = q } ∷ steps_ctes (i + 1) (k + ins_in q) more)
        (have_in q k (placed_first rs k (widths_in q) (widths_ctes more) h))
        (g.0, have_ctes more (i + 1) (k + ins_in q) g.1 (placed_second rs k (ins_in q) (widths_in q) (widths_ctes more) (count_in q) h))

-- ---- the widths of CTEs

suc_either : (i n : ℕ) → (i < n) ⊎ (i ≡ n) → (suc i < suc n) ⊎ (suc i ≡ suc n)
suc_either i n (inl l) = inl (omega (arith, l))
suc_either i n (inr e) = inr (ap suc e)

below_or_at : (i n : ℕ) → i ≤ n → (i < n) ⊎ (i ≡ n)
below_or_at zero zero l = inr refl
below_or_at zero (suc n) l = inl (omega arith)
below_or_at (suc i) zero l = absurd (omega (arith, l))
below_or_at (suc i) (suc n) l = suc_either i n (below_or_at i n (omega (arith, l)))

module _ (columns : List (ℕ × List ℕ)) where
  abbrev pub over : List (List ℕ) → Columns
  over rs = record { tables = columns; results = rs }

  -- each over those before it
  abbrev widths_from : List (List ℕ) → List Query → List (List ℕ)
  widths_from before [] = []
  widths_from before (q ∷ more) = output_bits (over before) q ∷ widths_from (before ++ output_bits (over before) q ∷ []) more

  length_widths : (before : List (List ℕ)) (qs : List Query) → length (widths_from before qs) ≡ length qs
  length_widths before [] = refl
  length_widths before (q ∷ more) = ap suc (length_widths (before ++ output_bits (over before) q ∷ []) more)

  index_last : (us : List (List ℕ)) (w : List ℕ) → at (us ++ w ∷ []) (length us) ≡ w
  index_last [] w = refl
  index_last (u ∷ us) w = index_last us w

  index_before : (us vs : List (List ℕ)) (i : ℕ) → i < length us → at (us ++ vs) i ≡ at us i
  index_before [] vs i l = absurd (omega (arith, l))
  index_before (u ∷ us) vs zero l = refl
  index_before (u ∷ us) vs (suc i) l = index_before us vs i (omega (arith, l))

  -- the same below n, and so at n
  one_further : (rs before : List (List ℕ)) (w : List ℕ) → ((i : ℕ) → i < length before → at rs i ≡ at before i) → at rs (length before) ≡ w → (i : ℕ) → i < length (before ++ w ∷ []) → at rs i ≡ at (before ++ w ∷ []) i
  one_further rs before w h e i l = by_place (below_or_at i (length before) (omega (arith, l, length-append before (w ∷ []))))
    where
      by_place : (i < length before) ⊎ (i ≡ length before) → at rs i ≡ at (before ++ w ∷ []) i
      by_place (inl l) = h i l ∙ sym (index_before before (w ∷ []) i l)
      by_place (inr is) = ap (at rs) is ∙ (e ∙ (sym (index_last before w) ∙ ap (at (before ++ w ∷ [])) (sym is)))

  -- where the widths of CTEs are in their places, they are those over all results
  ctes_placed : (rs before : List (List ℕ)) (qs : List Query) → ((i : ℕ) → i < length before → at rs i ≡ at before i) → DependEach (length before) qs → Placed rs (length before) (widths_from before qs)
      → Placed rs (length before) (map (output_bits (over rs)) qs)
  ctes_placed rs before [] h d p = tt
  ctes_placed rs before (q ∷ more) h d p =
      let w : List ℕ = output_bits (over before) q in
      let e : length (before ++ w ∷ []) ≡ length before + 1 = length-append before (w ∷ []) in
      let mine : w ≡ output_bits (over rs) q = d.0 (over before) (over rs) (record { tables = refl; results = λ i l. sym (h i l) }) in (
        p.0 ∙ mine,
        subst (λ n. Placed rs n (map (output_bits (over rs)) more)) e (ctes_placed rs (before ++ w ∷ []) more (one_further rs before w h p.0)
            (subst (λ n. DependEach n more) (sym e) d.1) (subst (λ n. Placed rs n (widths_from (before ++ w ∷ []) more)) (sym e) p.1)),
      )

  -- ---- all of them

  module _ (x : Query-F FromTree Query) (each : DependEach 0 x.ctes) (all : AllByRecursion (λ (s : Step). Depends (length x.ctes) s.query) (steps_of (roll-Query x))) where
    abbrev ws : List (List ℕ)
    ws = widths_from [] x.ctes

    -- an IN subquery hangs on the CTEs alone
    abbrev f : Query → List ℕ
    f q = output_bits (over ws) q

    abbrev rest : List (List ℕ)
    rest = widths_ctes f x.ctes ++ (widths_in_from f x.from ++ widths_all f x.subs)

    abbrev pub rs : List (List ℕ)
    rs = ws ++ rest

    n_is : length ws ≡ length x.ctes
    n_is = length_widths [] x.ctes

    agree : Agree (length x.ctes) (over ws) (over rs)
    agree = record { tables = refl; results = λ i l. sym (index_before ws rest i (omega (arith, l, n_is))) }

    convert : (ss : List Step) → AllByRecursion (λ (s : Step). Depends (length x.ctes) s.query) ss → AllByRecursion (Has f rs) ss → AllByRecursion (λ (s : Step). at rs s.number ≡ output_bits (over rs) s.query) ss
    convert [] d h = tt
    convert (s ∷ ss) d h = (h.0 ∙ d.0 (over ws) (over rs) agree, convert ss d.1 h.1)

    before_all : Placed rs (length ws) rest
    before_all = let e : 0 + length ws ≡ length ws = omega arith in subst (λ i. Placed rs i rest) e (placed_second rs 0 (length ws) ws rest refl (placed rs))

    -- the CTEs' widths over themselves
    of_ctes : Placed ws 0 (map f x.ctes)
    of_ctes = ctes_placed ws [] x.ctes (λ i l. absurd (omega (arith, l))) each (placed ws)

    further : (k : ℕ) (vs : List (List ℕ)) → k + length vs ≤ length ws → Placed ws k vs → Placed rs k vs
    further k [] l h = tt
    further k (v ∷ vs) l h = (index_before ws rest k (omega (arith, l)) ∙ h.0, further (k + 1) vs (omega (arith, l)) h.1)

    map_length : (qs : List Query) → length (map f qs) ≡ length qs
    map_length [] = refl
    map_length (q ∷ qs) = ap suc (map_length qs)

    have : AllByRecursion (Has f rs) (steps_of (roll-Query x))
    have =
        let n : ℕ = length x.ctes in
        let m : ℕ = n + ins_ctes x.ctes in
        let a = widths_ctes f x.ctes in
        let b = widths_in_from f x.from in
        let c = widths_all f x.subs in
        let p : Placed rs n (a ++ (b ++ c)) = subst (λ i. Placed rs i rest) n_is before_all in
        let p2 : Placed rs m (b ++ c) = placed_second rs n (ins_ctes x.ctes) a (b ++ c) (count_ctes f x.ctes) p in
        subst (AllByRecursion (Has f rs)) (sym (steps_statement x))
        (all_append (Has f rs) (steps_ctes 0 n x.ctes) (steps_in_from m x.from ++ steps_all (m + ins_in_from x.from) x.subs)
        (have_ctes f rs x.ctes 0 n (further 0 (map f x.ctes) (omega (arith, map_length x.ctes, n_is)) of_ctes) (placed_first rs n a (b ++ c) p))
        (all_append (Has f rs) (steps_in_from m x.from) (steps_all (m + ins_in_from x.from) x.subs)
        (have_from f rs x.from m (placed_first rs m b c p2))
        (have_all f rs x.subs (m + ins_in_from x.from) (placed_second rs m (ins_in_from x.from) b c (count_from f x.from) p2))))

    pub each_has : AllByRecursion (λ (s : Step). at rs s.number ≡ output_bits (over rs) s.query) (steps_of (roll-Query x))
    each_has = convert (steps_of (roll-Query x)) all have

    pub as_many : length rs ≡ length (steps_of (roll-Query x))
    as_many =
        let a = widths_ctes f x.ctes in
        let b = widths_in_from f x.from in
        let c = widths_all f x.subs in
        omega (arith, length-append ws rest, length-append a (b ++ c), length-append b c, n_is, count_ctes f x.ctes, count_from f x.from, count_all f x.subs, length_statement x)
