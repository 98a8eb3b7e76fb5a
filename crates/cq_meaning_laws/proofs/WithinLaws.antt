-- Rows within widths: what lists of rows are made of them.
use Rattle.std.proofs.Common.{ℕ, zero, suc, Bool, true, false, cond, List, [], ◌∷◌, ◌++◌, map, length, take, drop}
use Rattle.std.specs.Prelude.{filter, replicate, Option, None, Some}
use Rattle.std.specs.List.{AllByRecursion}
use Rattle.cq_value.proofs.Lists.{all_map}
use Rattle.cq_value.specs.declared.value.Value.TheVariants.{Null}
use Rattle.cq_meaning.specs.Values.{Row}
use Rattle.cq_meaning.specs.Joins.{product, or_else, left_join}
use Rattle.cq_meaning.specs.Groups.{differs, distinct, distinct_if}
use Rattle.cq_meaning.specs.Sorting.{placed, sorted_by, limited, cut}
use Rattle.cq_meaning.specs.Widths.{Within, AllWithin}

-- what all elements have, the elements of these lists have

module _ {X : Type 0} (P : X → Type 0) where
  pub all_filter : (p : X → Bool) (xs : List X) → AllByRecursion P xs → AllByRecursion P (filter p xs)
  all_filter p [] h = tt
  all_filter p (x ∷ xs) h = elim (p x) as (λ b. AllByRecursion P (cond b (x ∷ filter p xs) (filter p xs))) [ true ↦ (h.0, all_filter p xs h.1) | false ↦ all_filter p xs h.1 ]

  pub all_append : (xs ys : List X) → AllByRecursion P xs → AllByRecursion P ys → AllByRecursion P (xs ++ ys)
  all_append [] ys h k = k
  all_append (x ∷ xs) ys h k = (h.0, all_append xs ys h.1 k)

  pub all_take : (n : ℕ) (xs : List X) → AllByRecursion P xs → AllByRecursion P (take n xs)
  all_take zero xs h = tt
  all_take (suc n) [] h = tt
  all_take (suc n) (x ∷ xs) h = (h.0, all_take n xs h.1)

  pub all_drop : (n : ℕ) (xs : List X) → AllByRecursion P xs → AllByRecursion P (drop n xs)
  all_drop zero xs h = h
  all_drop (suc n) [] h = tt
  all_drop (suc n) (x ∷ xs) h = all_drop n xs h.1

  all_placed : (lt : X → X → Bool) (x : X) (ys : List X) → P x → AllByRecursion P ys → AllByRecursion P (placed lt x ys)
  all_placed lt x [] p h = (p, tt)
  all_placed lt x (y ∷ ys) p h = elim (lt y x) as (λ b. AllByRecursion P (cond b (y ∷ placed lt x ys) (x ∷ (y ∷ ys)))) [ true ↦ (h.0, all_placed lt x ys p h.1) | false ↦ (p, h) ]

  pub all_sorted : (lt : X → X → Bool) (xs : List X) → AllByRecursion P xs → AllByRecursion P (sorted_by lt xs)
  all_sorted lt [] h = tt
  all_sorted lt (x ∷ xs) h = all_placed lt x (sorted_by lt xs) h.0 (all_sorted lt xs h.1)

  pub all_of : ((x : X) → P x) → (xs : List X) → AllByRecursion P xs
  all_of f [] = tt
  all_of f (x ∷ xs) = (f x, all_of f xs)

pub all_distinct : (P : Row → Type 0) (rows : List Row) → AllByRecursion P rows → AllByRecursion P (distinct rows)
all_distinct P [] h = tt
all_distinct P (row ∷ rows) h = (h.0, all_filter P (differs row) (distinct rows) (all_distinct P rows h.1))

pub all_distinct_if : (P : Row → Type 0) (d : Bool) (rows : List Row) → AllByRecursion P rows → AllByRecursion P (distinct_if d rows)
all_distinct_if P false rows h = h
all_distinct_if P true rows h = all_distinct P rows h

all_limited : (P : Row → Type 0) (limit : Option ℕ) (rows : List Row) → AllByRecursion P rows → AllByRecursion P (limited limit rows)
all_limited P None rows h = h
all_limited P (Some n) rows h = all_take P n rows h

-- rows

pub within_append : (ks js : List ℕ) (xs ys : Row) → Within ks xs → Within js ys → Within (ks ++ js) (xs ++ ys)
within_append [] js [] ys h k = k
within_append [] js (x ∷ xs) ys h k = absurd h
within_append (i ∷ ks) js [] ys h k = absurd h
within_append (i ∷ ks) js (x ∷ xs) ys h k = (h.0, within_append ks js xs ys h.1 k)

pub within_take : (n : ℕ) (ks : List ℕ) (xs : Row) → Within ks xs → Within (take n ks) (take n xs)
within_take zero ks xs h = tt
within_take (suc n) [] [] h = tt
within_take (suc n) [] (x ∷ xs) h = absurd h
within_take (suc n) (k ∷ ks) [] h = absurd h
within_take (suc n) (k ∷ ks) (x ∷ xs) h = (h.0, within_take n ks xs h.1)

pub within_nulls : (ks : List ℕ) → Within ks (replicate (length ks) Null)
within_nulls [] = tt
within_nulls (k ∷ ks) = (tt, within_nulls ks)

module _ (ks js : List ℕ) where
  paired : (l : Row) (rs : List Row) → Within ks l → AllWithin js rs → AllWithin (ks ++ js) (map (λ r. l ++ r) rs)
  paired l rs h k = all_map (Within js) (Within (ks ++ js)) (λ r. l ++ r) (λ r w. within_append ks js l r h w) rs k

  pub within_product : (ls rs : List Row) → AllWithin ks ls → AllWithin js rs → AllWithin (ks ++ js) (product ls rs)
  within_product [] rs h k = tt
  within_product (l ∷ ls) rs h k = all_append (Within (ks ++ js)) (map (λ r. l ++ r) rs) (product ls rs) (paired l rs h.0 k) (within_product ls rs h.1 k)

  within_or : (row : Row) (rows : List Row) → Within (ks ++ js) row → AllWithin (ks ++ js) rows → AllWithin (ks ++ js) (or_else row rows)
  within_or row [] h k = (h, tt)
  within_or row (r ∷ rs) h k = k

  pub within_left : (on : Row → Bool) (ls rs : List Row) → AllWithin ks ls → AllWithin js rs → AllWithin (ks ++ js) (left_join on (length js) ls rs)
  within_left on [] rs h k = tt
  within_left on (l ∷ ls) rs h k =
      let nulls : Row = l ++ replicate (length js) Null in
      let matches : List Row = filter on (map (λ r. l ++ r) rs) in
      all_append (Within (ks ++ js)) (or_else nulls matches) (left_join on (length js) ls rs)
      (within_or nulls matches (within_append ks js l (replicate (length js) Null) h.0 (within_nulls js)) (all_filter (Within (ks ++ js)) on (map (λ r. l ++ r) rs) (paired l rs h.0 k)))
      (within_left on ls rs h.1 k)

pub within_cut : (ks : List ℕ) (shown : ℕ) (limit : Option ℕ) (offset : ℕ) (rows : List Row) → AllWithin ks rows → AllWithin (take shown ks) (cut shown limit offset rows)
within_cut ks shown limit offset rows h =
    all_map (Within ks) (Within (take shown ks)) (λ row. take shown row) (λ row w. within_take shown ks row w) (limited limit (drop offset rows))
    (all_limited (Within ks) limit (drop offset rows) (all_drop (Within ks) offset rows h))
