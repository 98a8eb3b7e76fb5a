-- A test passes through sorting, DISTINCT and groups.
use Rattle.std.proofs.Common.{◌≡◌, inl, inr, ℕ, Bool, true, false, cond, List, [], ◌∷◌, length, map, filter, refl, sym, ◌∙◌, ap}
use Rattle.std.specs.Cmp.{IsStrictWeakOrder}
use Rattle.std.specs.List.{AllByRecursion}
use Rattle.std.specs.List.Sorted.{ties}
use Rattle.cq_value.proofs.Truths.{two_ways}
use Rattle.cq_value.proofs.Lists.{filter_turned, filter_map, all_filtered, all_weaker}
use Rattle.cq_meaning.specs.declared.Group.{Group}
use Rattle.cq_meaning.specs.Values.{Row, same_row}
use Rattle.cq_meaning.specs.Groups.{differs, distinct, distinct_if, group_with, groups_by}
use Rattle.cq_meaning.specs.Sorting.{sorted_by}
use Rattle.cq_meaning.proofs.RowLaws.{same_is, differs_from}
use Rattle.cq_meaning.proofs.StableSort.{Rises, one_answer, sorted_rises, sorted_stable}
use Rattle.cq_meaning_laws.proofs.WithinLaws.{all_distinct}

-- ---- filters

pub sifted_same : {X : Type 0} (p q : X → Bool) (xs : List X) → AllByRecursion (λ x. p x ≡ q x) xs → filter p xs ≡ filter q xs
sifted_same p q [] h = refl
sifted_same p q (x ∷ xs) h = elim (two_ways (q x)) [
  | inl y ↦ (let z : p x ≡ true = h.0 ∙ y in rw (y, z) (ap (λ u. x ∷ u) (sifted_same p q xs h.1)))
  | inr n ↦ (let z : p x ≡ false = h.0 ∙ n in rw (n, z) (sifted_same p q xs h.1))
]

pub all_sure : {X : Type 0} (P : X → Type 0) → ((x : X) → P x) → (xs : List X) → AllByRecursion P xs
all_sure P f [] = tt
all_sure P f (x ∷ xs) = (f x, all_sure P f xs)

pub all_sifted : {X : Type 0} (P : X → Type 0) (p : X → Bool) (xs : List X) → AllByRecursion P xs → AllByRecursion (λ x. P x × (p x ≡ true)) (filter p xs)
all_sifted P p [] h = tt
all_sifted P p (x ∷ xs) h = elim (two_ways (p x)) [ inl y ↦ rw y ((h.0, y), all_sifted P p xs h.1) | inr n ↦ rw n (all_sifted P p xs h.1) ]

pub mapped_same : {X Y : Type 0} (f g : X → Y) (xs : List X) → AllByRecursion (λ x. f x ≡ g x) xs → map f xs ≡ map g xs
mapped_same f g [] h = refl
mapped_same f g (x ∷ xs) h = λ i. h.0 i ∷ mapped_same f g xs h.1 i

-- what passes the first passes the second
pub sifted_more : {X : Type 0} (p q : X → Bool) (xs : List X) → ((x : X) → p x ≡ true → q x ≡ true) → filter p xs ≡ filter p (filter q xs)
sifted_more p q [] h = refl
sifted_more p q (x ∷ xs) h = elim (two_ways (q x)) [
  | inl y ↦ rw y (elim (two_ways (p x)) [ inl z ↦ rw z (ap (λ u. x ∷ u) (sifted_more p q xs h)) | inr z ↦ rw z (sifted_more p q xs h) ])
  | inr n ↦ rw n (elim (two_ways (p x)) [ inl z ↦ (let bad : false ≡ true = sym n ∙ h x z in cc) | inr z ↦ rw z (sifted_more p q xs h) ])
]

-- ---- sorting

module _ {X : Type 0} (lt : X → X → Bool) (o : IsStrictWeakOrder lt) (p : X → Bool) where
  rises_sifted : (xs : List X) → Rises lt o xs → Rises lt o (filter p xs)
  rises_sifted [] h = tt
  rises_sifted (x ∷ xs) h = elim (two_ways (p x)) [
    | inl y ↦ rw y (all_filtered (λ z. lt z x ≡ false) p xs h.0, rises_sifted xs h.1)
    | inr n ↦ rw n (rises_sifted xs h.1)
  ]

  pub sort_sifted : (xs : List X) → filter p (sorted_by lt xs) ≡ sorted_by lt (filter p xs)
  sort_sifted xs = one_answer lt o (filter p (sorted_by lt xs)) (sorted_by lt (filter p xs)) (rises_sifted (sorted_by lt xs) (sorted_rises lt o xs)) (sorted_rises lt o (filter p xs)) (λ x.
      filter_turned (ties lt x) p (sorted_by lt xs) ∙ ap (filter p) (sorted_stable lt o x xs) ∙ filter_turned p (ties lt x) xs ∙ sym (sorted_stable lt o x (filter p xs)))

-- ---- DISTINCT

apart : (p : Row → Bool) (x : Row) (ys : List Row) → p x ≡ false → filter p (filter (differs x) ys) ≡ filter p ys
apart p x ys n = sym (sifted_more p (differs x) ys (λ y k. elim (two_ways (same_row x y)) [
  | inl s ↦ (let bad : true ≡ false = sym k ∙ ap p (sym (same_is x y s)) ∙ n in cc)
  | inr d ↦ differs_from x y d
]))

pub distinct_sifted : (p : Row → Bool) (xs : List Row) → filter p (distinct xs) ≡ distinct (filter p xs)
distinct_sifted p [] = refl
distinct_sifted p (x ∷ xs) = elim (two_ways (p x)) [
  | inl y ↦ rw y (ap (λ u. x ∷ u) (filter_turned p (differs x) (distinct xs) ∙ ap (filter (differs x)) (distinct_sifted p xs)))
  | inr n ↦ rw n (apart p x (distinct xs) n ∙ distinct_sifted p xs)
]

pub distinct_if_sifted : (p : Row → Bool) (d : Bool) (xs : List Row) → filter p (distinct_if d xs) ≡ distinct_if d (filter p xs)
distinct_if_sifted p false xs = refl
distinct_if_sifted p true xs = distinct_sifted p xs

-- ---- groups

-- where the rows whose keys pass are the same, so are the groups whose keys pass
module _ (key : Row → Row) (ok : Row → Bool) (n : ℕ) (long : (row : Row) → length (key row) ≡ n) (xs ys : List Row) (same : filter (λ row. ok (key row)) xs ≡ filter (λ row. ok (key row)) ys) where
  keys_same : filter ok (distinct (map key xs)) ≡ filter ok (distinct (map key ys))
  keys_same =
      distinct_sifted ok (map key xs) ∙ ap distinct (filter_map ok key xs)
      ∙ ap (λ us. distinct (map key us)) same
      ∙ sym (distinct_sifted ok (map key ys) ∙ ap distinct (filter_map ok key ys))

  group_same : (k : Row) → ok k ≡ true → group_with key xs k ≡ group_with key ys k
  group_same k t =
      let mine : Row → Bool = λ row. same_row k (key row) in
      let needs : (row : Row) → mine row ≡ true → ok (key row) ≡ true = λ row m. ap ok (sym (same_is k (key row) m)) ∙ t in
      let rows : filter mine xs ≡ filter mine ys = sifted_more mine (λ row. ok (key row)) xs needs ∙ ap (filter mine) same ∙ sym (sifted_more mine (λ row. ok (key row)) ys needs) in
      λ i. record { keys = k; rows = rows i }

  keys_long : (zs : List Row) → AllByRecursion (λ k. length k ≡ n) (distinct (map key zs))
  keys_long zs = all_distinct (λ k. length k ≡ n) (map key zs) (mapped zs)
    where
      mapped : (zs : List Row) → AllByRecursion (λ k. length k ≡ n) (map key zs)
      mapped [] = tt
      mapped (z ∷ zs) = (long z, mapped zs)

  pub groups_sifted : (test : Group → Bool) → ((zs : List Row) (k : Row) → length k ≡ n → test (group_with key zs k) ≡ ok k) → filter test (groups_by key xs) ≡ filter test (groups_by key ys)
  groups_sifted test is =
      through xs
      ∙ mapped_same (group_with key xs) (group_with key ys) (filter ok (distinct (map key xs)))
      (all_weaker (λ k. (length k ≡ n) × (ok k ≡ true)) (λ k. group_with key xs k ≡ group_with key ys k) (λ k h. group_same k h.1) (filter ok (distinct (map key xs))) (all_sifted (λ k. length k ≡ n) ok (distinct (map key xs)) (keys_long xs)))
      ∙ ap (map (group_with key ys)) keys_same
      ∙ sym (through ys)
    where
      through : (zs : List Row) → filter test (groups_by key zs) ≡ map (group_with key zs) (filter ok (distinct (map key zs)))
      through zs =
          groups_map zs (distinct (map key zs))
          ∙ ap (map (group_with key zs)) (sifted_same (λ k. test (group_with key zs k)) ok (distinct (map key zs)) (all_weaker (λ k. length k ≡ n) (λ k. test (group_with key zs k) ≡ ok k) (λ k h. is zs k h) (distinct (map key zs)) (keys_long zs)))
        where
          groups_map : (zs ks : List Row) → filter test (map (group_with key zs) ks) ≡ map (group_with key zs) (filter (λ k. test (group_with key zs k)) ks)
          groups_map zs ks = sift_map (group_with key zs) ks
            where
              sift_map : (f : Row → Group) (ks : List Row) → filter test (map f ks) ≡ map f (filter (λ k. test (f k)) ks)
              sift_map f ks = filter_map test f ks
