-- Sorts of reordered lists: place by place their elements tie.
use Rattle.std.proofs.Common.{◌≡◌, ℕ, suc, zero, ◌<◌, Bool, true, false, cond, List, [], ◌∷◌, map, length, take, refl, sym, subst, ◌∙◌, inl, inr, Ordering, Less, Equal, Greater, arith}
use Rattle.std.specs.Prelude.{⊤}
use Rattle.std.specs.Cmp.{IsStrictWeakOrder}
use Rattle.std.specs.Ordering.{ordering_then, on}
use Rattle.cq_tree.specs.declared.query.Key.{Key}
use Rattle.cq_value.specs.Order.{value_cmp}
use Rattle.cq_meaning.specs.Values.{Row, column}
use Rattle.cq_meaning.specs.Sorting.{placed, sorted_by, keys_cmp, key_cmp, directed}
use Rattle.cq_meaning.proofs.Reorder.{Reordered, none, kept, turned, then, same}
use Rattle.cq_meaning.proofs.RowLaws.{true_not_false, value_exact}
use Rattle.cq_meaning.specs.Lists.{Has}

pub back : {X : Type 0} {xs ys : List X} → Reordered xs ys → Reordered ys xs
back none = none
back (kept r) = kept (back r)
back turned = turned
back (then r s) = then (back s) (back r)

module _ {X : Type 0} (lt : X → X → Bool) where
  placed_moved : (x : X) (ys : List X) → Reordered (x ∷ ys) (placed lt x ys)
  placed_moved x [] = same (x ∷ [])
  placed_moved x (y ∷ ys) = elim (lt y x) as (λ b. Reordered (x ∷ (y ∷ ys)) (cond b (y ∷ placed lt x ys) (x ∷ (y ∷ ys)))) [
    | true ↦ then turned (kept (placed_moved x ys))
    | false ↦ same (x ∷ (y ∷ ys))
  ]

  pub sort_moved : (xs : List X) → Reordered xs (sorted_by lt xs)
  sort_moved [] = none
  sort_moved (x ∷ xs) = then (kept (sort_moved xs)) (placed_moved x (sorted_by lt xs))

  abbrev pub Ties : X → X → Type 0
  Ties x y = (lt x y ≡ false) × (lt y x ≡ false)

  -- element by element
  abbrev pub AllTie : List X → List X → Type 0
  AllTie [] [] = ⊤
  AllTie [] (y ∷ ys) = ⊥
  AllTie (x ∷ xs) [] = ⊥
  AllTie (x ∷ xs) (y ∷ ys) = Ties x y × AllTie xs ys

  module _ (o : IsStrictWeakOrder lt) where
    tie_itself : (x : X) → Ties x x
    tie_itself x = let e : lt x x ≡ false = elim (lt x x) as (λ b. lt x x ≡ b → lt x x ≡ false) [ true ↦ (λ e. o.one_way x x e) | false ↦ (λ e. e) ] refl in (e, e)

    all_tie : (xs : List X) → AllTie xs xs
    all_tie [] = tt
    all_tie (x ∷ xs) = (tie_itself x, all_tie xs)

    all_tie_from : (xs ys : List X) → xs ≡ ys → AllTie xs ys
    all_tie_from xs ys e = subst (λ us. AllTie xs us) e (all_tie xs)

    ties_on : (xs ys zs : List X) → AllTie xs ys → AllTie ys zs → AllTie xs zs
    ties_on [] [] [] h k = tt
    ties_on [] [] (z ∷ zs) h k = absurd k
    ties_on [] (y ∷ ys) zs h k = absurd h
    ties_on (x ∷ xs) [] zs h k = absurd h
    ties_on (x ∷ xs) (y ∷ ys) [] h k = absurd k
    ties_on (x ∷ xs) (y ∷ ys) (z ∷ zs) h k = ((o.chain x y z h.0.0 k.0.0, o.chain z y x k.0.1 h.0.1), ties_on xs ys zs h.1 k.1)

    alike : (u v x : X) → Ties u v → lt u x ≡ lt v x
    alike u v x t = go (lt u x) (lt v x) refl refl
      where
        go : (p q : Bool) → lt u x ≡ p → lt v x ≡ q → lt u x ≡ lt v x
        go true true d e = d ∙ sym e
        go true false d e = absurd (true_not_false (lt u x) d (o.chain u v x t.0 e))
        go false true d e = absurd (true_not_false (lt v x) e (o.chain v u x t.1 d))
        go false false d e = d ∙ sym e

    placed_alike : (x : X) (us vs : List X) → AllTie us vs → AllTie (placed lt x us) (placed lt x vs)
    placed_alike x [] [] h = (tie_itself x, tt)
    placed_alike x [] (v ∷ vs) h = absurd h
    placed_alike x (u ∷ us) [] h = absurd h
    placed_alike x (u ∷ us) (v ∷ vs) h = rw (alike u v x h.0)
        (elim (lt v x) as (λ b. AllTie (cond b (u ∷ placed lt x us) (x ∷ (u ∷ us))) (cond b (v ∷ placed lt x vs) (x ∷ (v ∷ vs)))) [
          | true ↦ (h.0, placed_alike x us vs h.1)
          | false ↦ (tie_itself x, h)
        ])

    two_placed : (x y : X) (us : List X) (p q : Bool) → lt x y ≡ p → lt y x ≡ q → AllTie (cond (lt y x) (y ∷ (x ∷ us)) (x ∷ (y ∷ us))) (cond (lt x y) (x ∷ (y ∷ us)) (y ∷ (x ∷ us)))
    two_placed x y us true true d e = absurd (true_not_false (lt y x) e (o.one_way x y d))
    two_placed x y us true false d e = simp (d, e) (all_tie (x ∷ (y ∷ us)))
    two_placed x y us false true d e = simp (d, e) (all_tie (y ∷ (x ∷ us)))
    two_placed x y us false false d e = simp (d, e) ((refl, refl), ((refl, refl), all_tie us))

    placed_turned : (x y : X) (us : List X) → AllTie (placed lt x (placed lt y us)) (placed lt y (placed lt x us))
    placed_turned x y [] = two_placed x y [] (lt x y) (lt y x) refl refl
    placed_turned x y (u ∷ us) = go (lt u x) (lt u y) refl refl (placed_turned x y us)
      where
        go : (p q : Bool) → lt u x ≡ p → lt u y ≡ q → AllTie (placed lt x (placed lt y us)) (placed lt y (placed lt x us)) →
            AllTie (placed lt x (cond (lt u y) (u ∷ placed lt y us) (y ∷ (u ∷ us)))) (placed lt y (cond (lt u x) (u ∷ placed lt x us) (x ∷ (u ∷ us))))
        go true true d e h = simp (d, e) (tie_itself u, h)
        go false true d e h =
            let f : lt x y ≡ true = elim (lt x y) as (λ b. lt x y ≡ b → lt x y ≡ true) [ true ↦ (λ g. g) | false ↦ (λ g. absurd (true_not_false (lt u y) e (o.chain u x y d g))) ] refl in
            simp (d, e, f) (all_tie (x ∷ (u ∷ placed lt y us)))
        go true false d e h =
            let f : lt y x ≡ true = elim (lt y x) as (λ b. lt y x ≡ b → lt y x ≡ true) [ true ↦ (λ g. g) | false ↦ (λ g. absurd (true_not_false (lt u x) d (o.chain u y x e g))) ] refl in
            simp (d, e, f) (all_tie (y ∷ (u ∷ placed lt x us)))
        go false false d e h = simp (d, e) (two_placed x y (u ∷ us) (lt x y) (lt y x) refl refl)

    pub sorts_tie : {xs ys : List X} → Reordered xs ys → AllTie (sorted_by lt xs) (sorted_by lt ys)
    sorts_tie none = tt
    sorts_tie (kept {x = x} {xs = xs} {ys = ys} r) = placed_alike x (sorted_by lt xs) (sorted_by lt ys) (sorts_tie r)
    sorts_tie (turned {x = x} {y = y} {xs = xs}) = placed_turned x y (sorted_by lt xs)
    sorts_tie (then {xs = xs} {ys = ys} {zs = zs} r s) = ties_on (sorted_by lt xs) (sorted_by lt ys) (sorted_by lt zs) (sorts_tie r) (sorts_tie s)

  pub same_images : {Y : Type 0} (f : X → Y) (xs ys : List X) → AllTie xs ys → ((x y : X) → Has xs x → Has ys y → Ties x y → f x ≡ f y) → map f xs ≡ map f ys
  same_images f [] [] h k = refl
  same_images f [] (y ∷ ys) h k = absurd h
  same_images f (x ∷ xs) [] h k = absurd h
  same_images f (x ∷ xs) (y ∷ ys) h k =
      let e : f x ≡ f y = k x y (inl refl) (inl refl) h.0 in
      let es : map f xs ≡ map f ys = same_images f xs ys h.1 (λ u v a b t. k u v (inr a) (inr b) t) in
      cc

-- rows that the keys tie have the same values in the keys' columns
directed_exact : (d : Bool) (j : ℕ) (x y : Row) → directed d (on (λ r. column r j) value_cmp) x y ≡ Equal → column x j ≡ column y j
directed_exact false j x y e = value_exact (column x j) (column y j) e
directed_exact true j x y e = sym (value_exact (column y j) (column x j) e)

first_equal : (o p : Ordering) → ordering_then o p ≡ Equal → (o ≡ Equal) × (p ≡ Equal)
first_equal o p e = elim o as (λ q. ordering_then q p ≡ Equal → (q ≡ Equal) × (p ≡ Equal)) [ Less ↦ (λ e. cc) | Equal ↦ (λ e. (refl, e)) | Greater ↦ (λ e. cc) ] e

pub keys_exact : (ks : List Key) (x y : Row) → keys_cmp ks x y ≡ Equal → (j : ℕ) → Has (map (λ k. k.item) ks) j → column x j ≡ column y j
keys_exact [] x y e j h = absurd h
keys_exact (k ∷ ks) x y e j (inl q) = subst (λ i. column x i ≡ column y i) q (directed_exact k.descending k.item x y (first_equal (key_cmp k x y) (keys_cmp ks x y) e).0)
keys_exact (k ∷ ks) x y e j (inr h) = keys_exact ks x y (first_equal (key_cmp k x y) (keys_cmp ks x y) e).1 j h

suc_inj : (a b : ℕ) → suc a ≡ suc b → a ≡ b
suc_inj a b e = omega arith

pub take_alike : (n : ℕ) (x y : Row) → length x ≡ length y → ((j : ℕ) → j < n → column x j ≡ column y j) → take n x ≡ take n y
take_alike zero x y e h = refl
take_alike (suc n) [] [] e h = refl
take_alike (suc n) [] (b ∷ y) e h = cc
take_alike (suc n) (a ∷ x) [] e h = cc
take_alike (suc n) (a ∷ x) (b ∷ y) e h =
    let p : a ≡ b = h 0 (omega arith) in
    let q : take n x ≡ take n y = take_alike n x y (suc_inj (length x) (length y) e) (λ j l. h (suc j) (omega arith)) in
    cc
