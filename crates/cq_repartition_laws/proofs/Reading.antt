-- What the task of a bucket reads of a relation are the relation's rows that stand there.
use Rattle.std.proofs.Common.{◌≡◌, ℕ, ℤ, ◌+◌, ◌<◌, inl, inr, true, false, List, [], ◌∷◌, ◌++◌, filter, option_map, length, Option, None, Some, refl, sym, ◌∙◌, ap, subst, arith}
use Rattle.std.specs.Prelude.{not, ◌||◌, nat_eq, is_none, if◌then◌else◌}
use Rattle.std.specs.List.{cons_option, range_with_len, AllByRecursion}
use Rattle.std.specs.List.Sorted.{IsPermutation}
use Rattle.std.proofs.lemmas.List.Sorted.{IsPermutation-refl}
use Rattle.std.proofs.lemmas.Bool.Decides.{eqb_tells}
use Rattle.cq_value.proofs.Lists.{all_left, all_right, all_append, all_filtered}
use Rattle.cq_value.proofs.Truths.{two_ways, and_both}
use Rattle.cq_tree.specs.declared.query.FromTree.{FromTree, Table, Sub', Result, Cross', Inner', Left', end_of-FromTree, more_of-FromTree}
use Rattle.cq_meaning.specs.Lists.{Has}
use Rattle.cq_meaning.specs.Values.{Row, Tables, table_rows}
use Rattle.cq_meaning.specs.Joins.{product, left_join}
use Rattle.cq_meaning.specs.Queries.{columns_in, joins, from_rows}
use Rattle.cq_meaning.proofs.RowLaws.{filter_all, filter_same}
use Rattle.cq_task_laws.specs.Cutting.{Joins, Fits, AllFit}
use Rattle.cq_task_laws.specs.Tasks.{joins_of, relation_of}
use Rattle.cq_task_laws.proofs.CutLaws.{other}
use Rattle.cq_task_laws.proofs.SafeMerge.{at_has}
use Rattle.cq_demands.specs.declared.joins.Leaf.{Leaf}
use Rattle.cq_demands.specs.JoinDemands.{is_plain, leaves_from, AreWide}
use Rattle.cq_demands.proofs.Joined.{Facts, from_facts}
use Rattle.cq_repart.specs.Buckets.{bucket, key_token, is_in_range}
use Rattle.cq_repart.specs.Splits.{key_of, beside_in, own_in}
use Rattle.cq_repart.specs.declared.tables.Key.{Key}
use Rattle.cq_repartition_laws.specs.Tasks.{bucket_tables, place_by, side_by, side_of}
use Rattle.cq_repartition_laws.proofs.Lists.{range_within}
use Rattle.cq_repartition_laws.proofs.Choosing.{IsSplitAlike}

module _ (keys : List Key) (ends : List ℤ) where
  module _ (i : ℕ) where
    -- ---- a table that isn't split

    beside_first : (p : ℕ × List Row) (db own : Tables) (t : ℕ) → key_of keys t ≡ None → table_rows (beside_in keys db ++ own) t ≡ table_rows db t → table_rows (beside_in keys (p ∷ db) ++ own) t ≡ table_rows (p ∷ db) t
    beside_first p db own t e rest = elim (two_ways (is_none (key_of keys p.0))) [
      | inl y ↦ rw y (ap (λ (us : List Row). if nat_eq p.0 t then p.1 else us) rest)
      | inr f ↦ (
          let apart : nat_eq p.0 t ≡ false = other p.0 t (λ same. (let bad : true ≡ false = sym (ap (λ u. is_none (key_of keys u)) same ∙ ap is_none e) ∙ f in cc)) in
          rw (f, apart) rest
          )
    ]

    beside_whole : (db own : Tables) (t : ℕ) → key_of keys t ≡ None → table_rows own t ≡ [] → table_rows (beside_in keys db ++ own) t ≡ table_rows db t
    beside_whole [] own t e none = none
    beside_whole (p ∷ db) own t e none = beside_first p db own t e (beside_whole db own t e none)

    own_none : (db : Tables) (t : ℕ) → key_of keys t ≡ None → table_rows (own_in keys ends db i) t ≡ []
    own_none [] t e = refl
    own_none (p ∷ db) t e = of_key (key_of keys p.0) refl (own_none db t e)
      where
        of_key : (o : Option ℕ) → key_of keys p.0 ≡ o → table_rows (own_in keys ends db i) t ≡ [] →
            table_rows (cons_option (option_map (λ key. (p.0, bucket ends key p.1 i)) o) (own_in keys ends db i)) t ≡ []
        of_key None here rest = rest
        of_key (Some k) here rest = let apart : nat_eq p.0 t ≡ false = other p.0 t (λ same. (let bad : Some k ≡ None = sym here ∙ ap (key_of keys) same ∙ e in cc)) in rw apart rest

    -- ---- a table that is

    beside_none : (db own : Tables) (t k : ℕ) → key_of keys t ≡ Some k → table_rows (beside_in keys db ++ own) t ≡ table_rows own t
    beside_none [] own t k e = refl
    beside_none (p ∷ db) own t k e = elim (two_ways (is_none (key_of keys p.0))) [
      | inl y ↦ (
          let apart : nat_eq p.0 t ≡ false = other p.0 t (λ same. (let bad : true ≡ false = sym y ∙ ap (λ u. is_none (key_of keys u)) same ∙ ap is_none e in cc)) in
          rw (y, apart) (beside_none db own t k e)
          )
      | inr f ↦ rw f (beside_none db own t k e)
    ]

    own_bucket : (db : Tables) (t k : ℕ) → key_of keys t ≡ Some k → table_rows (own_in keys ends db i) t ≡ bucket ends k (table_rows db t) i
    own_bucket [] t k e = refl
    own_bucket (p ∷ db) t k e = of_key (key_of keys p.0) refl (own_bucket db t k e)
      where
        of_key : (o : Option ℕ) → key_of keys p.0 ≡ o → table_rows (own_in keys ends db i) t ≡ bucket ends k (table_rows db t) i →
            table_rows (cons_option (option_map (λ key. (p.0, bucket ends key p.1 i)) o) (own_in keys ends db i)) t ≡ bucket ends k (table_rows (p ∷ db) t) i
        of_key None here rest = let apart : nat_eq p.0 t ≡ false = other p.0 t (λ same. (let bad : None ≡ Some k = sym here ∙ ap (key_of keys) same ∙ e in cc)) in rw apart rest
        of_key (Some j) here rest = elim (eqb_tells p.0 t) [
          | inl y ↦ (
              let both : Some j ≡ Some k = sym here ∙ ap (key_of keys) y.1 ∙ e in
              let same : j ≡ k = cc in
              rw y.0 (ap (λ key. bucket ends key p.1 i) same)
              )
          | inr n ↦ rw n.0 rest
        ]

    -- ---- what is read of a table by its key

    abbrev rows_by : Option ℕ → List Row → List Row
    rows_by None rows = rows
    rows_by (Some k) rows = bucket ends k rows i

    read_by : (db : Tables) (t : ℕ) (o : Option ℕ) → key_of keys t ≡ o → table_rows (bucket_tables keys ends db i) t ≡ rows_by o (table_rows db t)
    read_by db t None e = beside_whole db (own_in keys ends db i) t e (own_none db t e)
    read_by db t (Some k) e = beside_none db (own_in keys ends db i) t k e ∙ own_bucket db t k e

    in_bucket : (token : Option ℤ) → i < length ends → is_in_range ends i token ≡ nat_eq (place_by ends token) i
    in_bucket (Some token) below = refl
    in_bucket None below = sym (other (length ends) i (λ e. absurd (omega (arith, e, below))))

    spread_by : (o : Option ℕ) (rows : List Row) → i < length ends → rows_by o rows ≡ filter (λ x. not (side_by ends o).cut || nat_eq ((side_by ends o).home x) i) rows
    spread_by None rows below = sym (filter_all (λ x. true) rows (λ x h. refl))
    spread_by (Some k) rows below =
        filter_same (λ row. is_in_range ends i (key_token k row)) (λ row. nat_eq (place_by ends (key_token k row)) i) rows (λ row h. in_bucket (key_token k row) below)

    -- what is true of a table's rows is true of those that are read of it
    pub bucket_rows : (P : Row → Type 0) (db : Tables) (t : ℕ) → AllByRecursion P (table_rows db t) → AllByRecursion P (table_rows (bucket_tables keys ends db i) t)
    bucket_rows P db t all = subst (AllByRecursion P) (sym (read_by db t (key_of keys t) refl)) (of_key (key_of keys t))
      where
        of_key : (o : Option ℕ) → AllByRecursion P (rows_by o (table_rows db t))
        of_key None = all
        of_key (Some k) = all_filtered P (λ row. is_in_range ends i (key_token k row)) (table_rows db t) all

    pub unsplit_read : (db : Tables) (t : ℕ) → key_of keys t ≡ None → table_rows (bucket_tables keys ends db i) t ≡ table_rows db t
    unsplit_read db t e = read_by db t None e

  -- ---- the relations of a FROM

  module _ (db : Tables) where
    abbrev pub parted : FromTree → ℕ → Joins
    parted f start = joins_of (side_of keys ends) db (bucket_tables keys ends db) [] start f

    abbrev pub buckets : List ℕ
    buckets = range_with_len 0 (length ends)

    below_count : (i : ℕ) → Has buckets i → i < length ends
    below_count i h = let u = range_within 0 (length ends) i h in let l = u.1 in omega (arith, l)

    table_fits : (t n start : ℕ) → AreWide (Table t n) db → Fits (relation_of (side_of keys ends) db (bucket_tables keys ends db) [] start (Table t n)) buckets
    table_fits t n start wide = (
      λ x h. at_has (λ (row : Row). length row ≡ n) (table_rows db t) wide x h,
      λ i h. subst (IsPermutation (table_rows (bucket_tables keys ends db i) t)) (read_by i db t (key_of keys t) refl ∙ spread_by i (key_of keys t) (table_rows db t) (below_count i h))
          (IsPermutation-refl (table_rows (bucket_tables keys ends db i) t)),
    )

    -- right sides of LEFT JOINs, of which no table is split
    abbrev pub AreUnsplit : List Leaf → Type 0
    AreUnsplit leaves = AllByRecursion (λ (l : Leaf). key_of keys l.table ≡ None) leaves

    right_read : (f : FromTree) (start i : ℕ) → is_plain f ≡ true → AreUnsplit (leaves_from f start true) → from_rows f start (bucket_tables keys ends db i) [] ≡ from_rows f start db []
    right_read (Table t n) start i plain none = unsplit_read i db t none.0
    right_read (Sub' p q) start i plain none = cc
    right_read (Result k n) start i plain none = cc
    right_read (Cross' p (more_of-FromTree a end_of-FromTree) q (more_of-FromTree b end_of-FromTree)) start i plain none =
        let both = and_both (is_plain a) (is_plain b) plain in
        let ls : List Leaf = leaves_from a start true in
        let rs : List Leaf = leaves_from b (start + columns_in a) true in
        let left_is = right_read a start i both.0 (all_left _ ls rs none) in
        let right_is = right_read b (start + columns_in a) i both.1 (all_right _ ls rs none) in
        λ j. product (left_is j) (right_is j)
    right_read (Inner' p (more_of-FromTree a end_of-FromTree) q (more_of-FromTree b end_of-FromTree) on) start i plain none =
        let both = and_both (is_plain a) (is_plain b) plain in
        let ls : List Leaf = leaves_from a start true in
        let rs : List Leaf = leaves_from b (start + columns_in a) true in
        let left_is = right_read a start i both.0 (all_left _ ls rs none) in
        let right_is = right_read b (start + columns_in a) i both.1 (all_right _ ls rs none) in
        λ j. filter (joins on [] start) (product (left_is j) (right_is j))
    right_read (Left' p (more_of-FromTree a end_of-FromTree) q (more_of-FromTree b end_of-FromTree) on) start i plain none =
        let both = and_both (is_plain a) (is_plain b) plain in
        let ls : List Leaf = leaves_from a start true in
        let rs : List Leaf = leaves_from b (start + columns_in a) true in
        let left_is = right_read a start i both.0 (all_left _ ls rs none) in
        let right_is = right_read b (start + columns_in a) i both.1 (all_right _ ls rs none) in
        λ j. left_join (joins on [] start) (columns_in b) (left_is j) (right_is j)

    pub right_uncut : (f : FromTree) (start : ℕ) → is_plain f ≡ true → AreUnsplit (leaves_from f start true) → (side_of keys ends f).cut ≡ false
    right_uncut (Table t n) start plain none = ap (λ (o : Option ℕ). (side_by ends o).cut) none.0
    right_uncut _ start plain none = refl

    right_fits : (f : FromTree) (start : ℕ) → is_plain f ≡ true → AreWide f db → AreUnsplit (leaves_from f start true) → Fits (relation_of (side_of keys ends) db (bucket_tables keys ends db) [] start f) buckets
    right_fits f start plain wide none = (
      λ x h. (at_has (Facts f start) (from_rows f start db []) (from_facts f start db plain wide) x h).0,
      λ i h. subst (IsPermutation (from_rows f start (bucket_tables keys ends db i) []))
          (right_read f start i plain none ∙ sym (filter_all (λ x. not (side_of keys ends f).cut || nat_eq ((side_of keys ends f).home x) i) (from_rows f start db [])
          (λ x k. ap (λ b. not b || nat_eq ((side_of keys ends f).home x) i) (right_uncut f start plain none))))
          (IsPermutation-refl (from_rows f start (bucket_tables keys ends db i) [])),
    )

    module _ (first : ℕ → ℕ) (class : ℕ) where
      abbrev pub AreAlike : List Leaf → Type 0
      AreAlike leaves = AllByRecursion (IsSplitAlike first class keys) leaves

      pub right_unsplit : (f : FromTree) (start : ℕ) → is_plain f ≡ true → AreAlike (leaves_from f start true) → AreUnsplit (leaves_from f start true)
      right_unsplit (Table t n) start plain alike = (no_key (key_of keys t) refl, tt)
        where
          no_key : (o : Option ℕ) → key_of keys t ≡ o → o ≡ None
          no_key None e = refl
          no_key (Some k) e = let bad : None ≡ Some k = alike.0 k e in cc
      right_unsplit (Sub' p q) start plain alike = tt
      right_unsplit (Result k n) start plain alike = tt
      right_unsplit (Cross' p (more_of-FromTree a end_of-FromTree) q (more_of-FromTree b end_of-FromTree)) start plain alike =
          let both = and_both (is_plain a) (is_plain b) plain in
          let ls : List Leaf = leaves_from a start true in
          let rs : List Leaf = leaves_from b (start + columns_in a) true in
          all_append _ ls rs (right_unsplit a start both.0 (all_left _ ls rs alike)) (right_unsplit b (start + columns_in a) both.1 (all_right _ ls rs alike))
      right_unsplit (Inner' p (more_of-FromTree a end_of-FromTree) q (more_of-FromTree b end_of-FromTree) on) start plain alike =
          let both = and_both (is_plain a) (is_plain b) plain in
          let ls : List Leaf = leaves_from a start true in
          let rs : List Leaf = leaves_from b (start + columns_in a) true in
          all_append _ ls rs (right_unsplit a start both.0 (all_left _ ls rs alike)) (right_unsplit b (start + columns_in a) both.1 (all_right _ ls rs alike))
      right_unsplit (Left' p (more_of-FromTree a end_of-FromTree) q (more_of-FromTree b end_of-FromTree) on) start plain alike =
          let both = and_both (is_plain a) (is_plain b) plain in
          let ls : List Leaf = leaves_from a start true in
          let rs : List Leaf = leaves_from b (start + columns_in a) true in
          all_append _ ls rs (right_unsplit a start both.0 (all_left _ ls rs alike)) (right_unsplit b (start + columns_in a) both.1 (all_right _ ls rs alike))

      pub all_fit : (f : FromTree) (start : ℕ) → is_plain f ≡ true → AreWide f db → AreAlike (leaves_from f start false) → AllFit (parted f start) buckets
      all_fit (Table t n) start plain wide alike = table_fits t n start wide
      all_fit (Sub' p q) start plain wide alike = cc
      all_fit (Result k n) start plain wide alike = cc
      all_fit (Cross' p (more_of-FromTree a end_of-FromTree) q (more_of-FromTree b end_of-FromTree)) start plain wide alike =
          let both = and_both (is_plain a) (is_plain b) plain in
          let ls : List Leaf = leaves_from a start false in
          let rs : List Leaf = leaves_from b (start + columns_in a) false in
          (all_fit a start both.0 wide.0 (all_left _ ls rs alike), all_fit b (start + columns_in a) both.1 wide.1 (all_right _ ls rs alike))
      all_fit (Inner' p (more_of-FromTree a end_of-FromTree) q (more_of-FromTree b end_of-FromTree) on) start plain wide alike =
          let both = and_both (is_plain a) (is_plain b) plain in
          let ls : List Leaf = leaves_from a start false in
          let rs : List Leaf = leaves_from b (start + columns_in a) false in
          (all_fit a start both.0 wide.0 (all_left _ ls rs alike), all_fit b (start + columns_in a) both.1 wide.1 (all_right _ ls rs alike))
      all_fit (Left' p (more_of-FromTree a end_of-FromTree) q (more_of-FromTree b end_of-FromTree) on) start plain wide alike =
          let both = and_both (is_plain a) (is_plain b) plain in
          let ls : List Leaf = leaves_from a start false in
          let rs : List Leaf = leaves_from b (start + columns_in a) true in
          (all_fit a start both.0 wide.0 (all_left _ ls rs alike), right_fits b (start + columns_in a) both.1 wide.1 (right_unsplit b (start + columns_in a) both.1 (all_right _ ls rs alike)))
