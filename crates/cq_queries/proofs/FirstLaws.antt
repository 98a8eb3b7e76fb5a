-- The first rows of a stable sort need no more than the first rows of what is sorted so far.
use Rattle.std.proofs.Common.{◌≡◌, ℕ, zero, suc, ◌+◌, ◌≤◌, Bool, true, false, cond, List, [], ◌∷◌, ◌++◌, length, get_or, take, drop, refl, sym, ap, ◌∙◌, subst, arith, Equal}
use Rattle.std.specs.Prelude.{◌-◌, Option, Some, slice_get}
use Rattle.std.specs.Cmp.{IsStrictWeakOrder}
use Rattle.std.specs.List.{insert}
use Rattle.std.specs.List.Sorted.{IsSortedBy, IsPartitionedBy, IsPartitionPoint}
use Rattle.std.proofs.lemmas.List.{take-take, drop-take, length-take, get_or-take}
use Rattle.std.proofs.lemmas.List.Sorted.{sorted_far}
use Rattle.std.proofs.lemmas.Option.{get_or_from_slice_get}
use Rattle.cq_meaning.specs.Values.{Row}
use Rattle.cq_tree.specs.declared.query.Key.{Key}
use Rattle.cq_meaning.specs.Sorting.{placed, sorted, sorted_by, keys_cmp, limited}
use Rattle.cq_queries.specs.Wanted.{put_before}

module _ {X : Type 0} (lt : X → X → Bool) where
  take_behind : (n : ℕ) (y : X) (ys : List X) → take n (y ∷ take n ys) ≡ take n (y ∷ ys)
  take_behind zero y ys = refl
  take_behind (suc n) y ys = ap (λ us. y ∷ us) (take-take n (suc n) ys (omega arith))

  -- what is placed first stands among the first as well without what is behind them
  pub placed_first : (n : ℕ) (x : X) (ys : List X) → take n (placed lt x (take n ys)) ≡ take n (placed lt x ys)
  placed_first zero x ys = refl
  placed_first (suc n) x [] = refl
  placed_first (suc n) x (y ∷ ys) =
      elim (lt y x) as (λ b. take (suc n) (cond b (y ∷ placed lt x (take n ys)) (x ∷ (y ∷ take n ys))) ≡ take (suc n) (cond b (y ∷ placed lt x ys) (x ∷ (y ∷ ys)))) [
        | true ↦ ap (λ us. y ∷ us) (placed_first n x ys)
        | false ↦ ap (λ us. x ∷ us) (take_behind n y ys)
      ]

  -- an element is placed where those below it end
  pub placed_at : (x : X) (ys : List X) (i : ℕ) → IsPartitionPoint (λ y. lt y x ≡ true) (λ y. lt y x ≡ false) ys i → i ≤ length ys → placed lt x ys ≡ insert ys i x
  placed_at x [] zero p l = refl
  placed_at x [] (suc i) p l = refl
  placed_at x (y ∷ ys) zero p l = let e : lt y x ≡ false = p.1 0 y (omega arith) (omega arith) in rw e refl
  placed_at x (y ∷ ys) (suc i) p l =
      let e : lt y x ≡ true = p.0 0 y (omega arith) (omega arith) in
      let q : IsPartitionPoint (λ y. lt y x ≡ true) (λ y. lt y x ≡ false) ys i =
      ((λ k d low below. p.0 (suc k) d (omega arith) (omega arith)), (λ k d low below. p.1 (suc k) d (omega arith) (omega arith))) in
      rw e (ap (λ us. y ∷ us) (placed_at x ys i q (omega arith)))

  -- in a sorted list those below an element come first
  pub parted : (o : IsStrictWeakOrder lt) (x : X) (ys : List X) → IsSortedBy lt ys → IsPartitionedBy (λ y. lt y x) ys
  parted o x ys up i j d le below e =
      elim (lt (get_or ys i d) x) as (λ b. lt (get_or ys i d) x ≡ b → b ≡ true) [
        | true ↦ (λ f. refl)
        | false ↦ (λ f. let g : lt (get_or ys j d) x ≡ false = o.chain (get_or ys j d) (get_or ys i d) x (sorted_far lt o ys up i j d le below) f in sym g ∙ e)
      ] refl

  -- and where the last is below it all are
  pub all_below : (o : IsStrictWeakOrder lt) (x : X) (ys : List X) → IsSortedBy lt ys → (last : X) → slice_get ys (length ys - 1) ≡ Some last → lt last x ≡ true → IsPartitionPoint (λ y. lt y x ≡ true) (λ y. lt y x ≡ false) ys (length ys)
  all_below o x ys up last is e = (
    (λ k d low below. parted o x ys up k (length ys - 1) d (omega arith) (omega arith) (subst (λ y. lt y x ≡ true) (sym (get_or_from_slice_get ys (length ys - 1) last d is)) e)),
    (λ k d low below. absurd (omega arith)),
  )

  end_stays : (x : X) (ys : List X) → take (length ys) (insert ys (length ys) x) ≡ ys
  end_stays x [] = refl
  end_stays x (y ∷ ys) = ap (λ us. y ∷ us) (end_stays x ys)

  -- what all of enough elements are below isn't among the first
  pub goes_behind : (n : ℕ) (x : X) (ys : List X) → IsPartitionPoint (λ y. lt y x ≡ true) (λ y. lt y x ≡ false) ys (length ys) → n ≡ length ys → take n (placed lt x ys) ≡ ys
  goes_behind n x ys p e = rw (placed_at x ys (length ys) p (omega arith), e) (end_stays x ys)

  put_first : (n : ℕ) (xs ys : List X) → take n (put_before lt xs (take n ys)) ≡ take n (put_before lt xs ys)
  put_first n [] ys = take-take n n ys (omega arith)
  put_first n (x ∷ xs) ys =
      sym (placed_first n x (put_before lt xs (take n ys))) ∙ (ap (λ us. take n (placed lt x us)) (put_first n xs ys) ∙ placed_first n x (put_before lt xs ys))

  put_sorted : (xs zs : List X) → put_before lt xs (sorted_by lt zs) ≡ sorted_by lt (xs ++ zs)
  put_sorted [] zs = refl
  put_sorted (x ∷ xs) zs = ap (placed lt x) (put_sorted xs zs)

  -- the first of elements and of the first behind them are the first of all
  pub top_sorted : (n : ℕ) (xs zs : List X) → take n (put_before lt xs (take n (sorted_by lt zs))) ≡ take n (sorted_by lt (xs ++ zs))
  top_sorted n xs zs = put_first n xs (sorted_by lt zs) ∙ ap (take n) (put_sorted xs zs)

  pub first_up : (n : ℕ) (xs : List X) → IsSortedBy lt xs → IsSortedBy lt (take n xs)
  first_up n xs up k d low below =
      let few = length-take n xs in
      rw (get_or-take n xs (k + 1) d (omega (arith, few, below)), get_or-take n xs k d (omega (arith, few, below))) (up k d low (omega (arith, few, below)))

-- rows that are equal in order are sorted as they stand
pub unsorted : {X : Type 0} (xs : List X) → sorted (λ x y. Equal) xs ≡ xs
unsorted {X} [] = refl
unsorted {X} (x ∷ xs) = ap (λ us. placed (λ x y. false) x us) (unsorted xs) ∙ ahead xs
  where
    ahead : (ys : List X) → placed (λ x y. false) x ys ≡ x ∷ ys
    ahead [] = refl
    ahead (y ∷ ys) = refl

-- and so are rows where there are no keys
pub unkeyed : (keys : List Key) (rows : List Row) → length keys ≡ 0 → sorted (keys_cmp keys) rows ≡ rows
unkeyed [] rows none = unsorted rows
unkeyed (k ∷ ks) rows none = absurd (omega (arith, none))

-- OFFSET and LIMIT look at the first rows alone
pub enough : (limit : Option ℕ) (n offset most : ℕ) → limit ≡ Some n → most ≡ offset + n → (rows : List Row) → limited limit (drop offset (take most rows)) ≡ limited limit (drop offset rows)
enough limit n offset most is sum rows =
    subst (λ l. limited l (drop offset (take most rows)) ≡ limited l (drop offset rows)) (sym is)
    (ap (λ k. take n (drop offset (take k rows))) sum ∙ ap (λ us. take n us) (drop-take offset n rows) ∙ take-take n n (drop offset rows) (omega arith))

-- all elements were seen where none is left
pub all_seen : {X : Type 0} (rest seen all : List X) → length rest ≡ 0 → rest ++ seen ≡ all → seen ≡ all
all_seen [] seen all none e = e
all_seen (x ∷ rest) seen all none e = absurd (omega (arith, none))
