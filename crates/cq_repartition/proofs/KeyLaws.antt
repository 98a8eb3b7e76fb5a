-- The keys of a query's tables, by what code finds in the query.
use Rattle.std.proofs.Common.{◌≡◌, ℕ, ◌+◌, ◌<◌, ◌≤◌, Bool, true, false, cond, List, [], ◌∷◌, length, get_or, Option, None, Some, refl, sym, ◌∙◌, ap, subst, arith}
use Rattle.std.specs.Prelude.{◌&&◌, nat_eq, nat_lt, position}
use Rattle.std.specs.List.{list_any, position_or_len}
use Rattle.std.proofs.lemmas.Bool.{eqb-true}
use Rattle.std.proofs.lemmas.List.Sums.{position_or_len_is}
use Rattle.cq_tree.specs.declared.query.Query.{Query, Query', out-Query}
use Rattle.cq_demands.specs.declared.joins.Leaf.{Leaf}
use Rattle.cq_demands.specs.JoinDemands.{is_plain, leaves_from}
use Rattle.cq_planning.specs.Classes.{first_of_class}
use Rattle.cq_planning.specs.Components.{is_one_class}
use Rattle.cq_planning.specs.Conjuncts.{conjuncts_of, equalities}
use Rattle.cq_planning.specs.Joins.{equalities_of}
use Rattle.cq_planning.specs.Touched.{numbers}
use Rattle.cq_repart.specs.declared.tables.Key.{Key}
use Rattle.cq_repartition_laws.specs.Keys.{place_of, keys_among, keys_of, has_equality, has_some}
use Rattle.cq_repartition_laws.proofs.Lists.{length_numbers, number_at}
use Rattle.cq_repartition.specs.Parted.{keys_if_parted}

-- ---- the first that passes among numbers

module _ (p : ℕ → Bool) (start n i : ℕ) (before : (j : ℕ) → j < i → p (start + j) ≡ false) where
  first_at : i ≤ n → (i < n → p (start + i) ≡ true) → position p (numbers start n) ≡ cond (nat_lt i n) (Some i) None
  first_at few passes =
      let long : length (numbers start n) ≡ n = length_numbers start n in
      let found : position_or_len p (numbers start n) ≡ i =
      position_or_len_is p (numbers start n) i 0 (subst (λ m. i ≤ m) (sym long) few) (λ j l. ap p (number_at start n j (omega (arith, l, few))) ∙ before j l)
      (λ l. (let m : i < n = subst (λ k. i < k) long l in ap p (number_at start n i m) ∙ passes m)) in
      λ k. cond (nat_lt (found k) (long k)) (Some (found k)) None

module _ (first : ℕ → ℕ) (class : ℕ) (l : Leaf) where
  pub place_padded : l.padded ≡ true → None ≡ place_of first class l
  place_padded e = rw e refl

  pub place_found : (i : ℕ) → l.padded ≡ false → i < l.columns → ((j : ℕ) → j < i → is_one_class first class (l.start + j) ≡ false) → is_one_class first class (l.start + i) ≡ true → Some i ≡ place_of first class l
  place_found i e below before passes =
      let lt : nat_lt i l.columns ≡ true = grind (arith, below) in
      let at : position (is_one_class first class) (numbers l.start l.columns) ≡ Some i = first_at (is_one_class first class) l.start l.columns i before (omega (arith, below)) (λ h. passes) ∙ rw lt refl in
      rw e (sym at)

  pub place_none : l.padded ≡ false → ((j : ℕ) → j < l.columns → is_one_class first class (l.start + j) ≡ false) → None ≡ place_of first class l
  place_none e before =
      let lt : nat_lt l.columns l.columns ≡ false = grind arith in
      let at : position (is_one_class first class) (numbers l.start l.columns) ≡ None = first_at (is_one_class first class) l.start l.columns l.columns before (omega arith) (λ h. absurd (omega (arith, h))) ∙ rw lt refl in
      rw e (sym at)

-- ---- a query

pub equalities_is : (q : Query) → equalities_of q ≡ equalities (conjuncts_of (out-Query q).filter (out-Query q).from)
unfolding out-Query denote.Hole.Carrier.out
equalities_is (Query' cs ctes ss subs from filter_ grouped keys aggs having items shown distinct order limit offset names) = refl

-- the keys, by three tests
abbrev chosen : ℕ → Query → Bool → Bool → Bool → Option (List Key)
chosen class q plain equality some = cond (plain && (equality && some)) (Some (keys_of class q)) None

pub not_plain : (class : ℕ) (q : Query) (b : Bool) → b ≡ is_plain (out-Query q).from → b ≡ false → None ≡ keys_if_parted class q
not_plain class q b e f = ap (λ p. chosen class q p (has_equality class q) (has_some (keys_of class q))) (sym f ∙ e)

module _ (class : ℕ) (q : Query) (first : ℕ → ℕ) (pairs : List (ℕ × ℕ)) (found : pairs ≡ equalities (conjuncts_of (out-Query q).filter (out-Query q).from)) (labelled : first ≡ first_of_class pairs) where
  pairs_are : pairs ≡ equalities_of q
  pairs_are = found ∙ sym (equalities_is q)

  first_are : first ≡ first_of_class (equalities_of q)
  first_are = labelled ∙ ap first_of_class pairs_are

  equality_is : list_any (λ (e : ℕ × ℕ). is_one_class first class e.0) pairs ≡ has_equality class q
  equality_is = λ i. list_any (λ (e : ℕ × ℕ). is_one_class (first_are i) class e.0) (pairs_are i)

  pub keys_are : keys_among first class (leaves_from (out-Query q).from 0 false) ≡ keys_of class q
  keys_are = ap (λ f. keys_among f class (leaves_from (out-Query q).from 0 false)) first_are

none_has : (keys : List Key) → nat_eq (length keys) 0 ≡ true → has_some keys ≡ false
none_has [] e = refl
none_has (k ∷ keys) e = let bad : length (k ∷ keys) ≡ 0 = eqb-true (length (k ∷ keys)) 0 e in absurd (omega (arith, bad))

some_has : (keys : List Key) → nat_eq (length keys) 0 ≡ false → has_some keys ≡ true
some_has [] e = cc
some_has (k ∷ keys) e = refl

pub no_equality : (class : ℕ) (q : Query) (b has : Bool) (first : ℕ → ℕ) (pairs : List (ℕ × ℕ)) → b ≡ is_plain (out-Query q).from → b ≡ true → pairs ≡ equalities (conjuncts_of (out-Query q).filter (out-Query q).from) → first ≡ first_of_class pairs →
    has ≡ list_any (λ (e : ℕ × ℕ). is_one_class first class e.0) pairs → has ≡ false → None ≡ keys_if_parted class q
no_equality class q b has first pairs e t found labelled h f =
    λ i. chosen class q ((sym t ∙ e) i) ((sym f ∙ h ∙ equality_is class q first pairs found labelled) i) (has_some (keys_of class q))

module _ (class : ℕ) (q : Query) (b has : Bool) (first : ℕ → ℕ) (pairs : List (ℕ × ℕ)) (keys : List Key) (e : b ≡ is_plain (out-Query q).from) (t : b ≡ true) (found : pairs ≡ equalities (conjuncts_of (out-Query q).filter (out-Query q).from))
    (labelled : first ≡ first_of_class pairs) (h : has ≡ list_any (λ (e : ℕ × ℕ). is_one_class first class e.0) pairs) (y : has ≡ true) (are : keys ≡ keys_among first class (leaves_from (out-Query q).from 0 false)) where
  by_keys : (some : Bool) → has_some keys ≡ some → cond some (Some keys) None ≡ keys_if_parted class q
  by_keys some s =
      let own : keys ≡ keys_of class q = are ∙ keys_are class q first pairs found labelled in
      (λ i. cond some (Some (own i)) None)
      ∙ (λ i. chosen class q ((sym t ∙ e) i) ((sym y ∙ h ∙ equality_is class q first pairs found labelled) i) ((sym s ∙ ap has_some own) i))

  pub no_keys : nat_eq (length keys) 0 ≡ true → None ≡ keys_if_parted class q
  no_keys none = by_keys false (none_has keys none)

  pub all_keys : nat_eq (length keys) 0 ≡ false → Some keys ≡ keys_if_parted class q
  all_keys some = by_keys true (some_has keys some)
