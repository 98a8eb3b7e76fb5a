-- Elements of lists.
use Rattle.std.proofs.Common.{◌≡◌, ℕ, ◌+◌, ◌<◌, suc, zero, get_or, ◌≤◌, inl, inr, Bool, true, List, [], ◌∷◌, filter_map, length, Option, None, Some, refl, sym, ◌∙◌, ap, subst, arith}
use Rattle.std.specs.Prelude.{position}
use Rattle.std.specs.List.{list_any, list_all, cons_option, range_with_len, AllByRecursion}
use Rattle.std.proofs.lemmas.Bool.Decides.{eqb_tells}
use Rattle.std.proofs.lemmas.List.Quantifiers.{position-Some}
use Rattle.cq_value.proofs.Truths.{two_ways, and_both}
use Rattle.cq_meaning.specs.Lists.{Has}
use Rattle.cq_planning.specs.Touched.{numbers}
use Rattle.cq_task_laws.specs.Cutting.{AreDistinct}

pub all_at : {X : Type 0} (p : X → Bool) (xs : List X) → list_all p xs ≡ true → (x : X) → Has xs x → p x ≡ true
all_at p [] all x h = absurd h
all_at p (y ∷ xs) all x (inl e) = subst (λ z. p z ≡ true) e (and_both (p y) (list_all p xs) all).0
all_at p (y ∷ xs) all x (inr h) = all_at p xs (and_both (p y) (list_all p xs) all).1 x h

pub any_at : {X : Type 0} (p : X → Bool) (xs : List X) → list_any p xs ≡ true → (x : X) × Has xs x × (p x ≡ true)
any_at p [] h = cc
any_at p (y ∷ xs) h = elim (two_ways (p y)) [
  | inl t ↦ (y, inl refl, t)
  | inr f ↦ (let more : list_any p xs ≡ true = rw f at h in let u : (x : _) × Has xs x × (p x ≡ true) = any_at p xs more in (u.0, inr u.1, u.2))
]

pub each_has : {X : Type 0} (P : X → Type 0) (xs : List X) → ((x : X) → Has xs x → P x) → AllByRecursion P xs
each_has P [] h = tt
each_has P (x ∷ xs) h = (h x (inl refl), each_has P xs (λ y k. h y (inr k)))

-- what a function gives of some element
pub given : {X Y : Type 0} (f : X → Option Y) (xs : List X) (y : Y) → Has (filter_map f xs) y → (x : X) × Has xs x × (f x ≡ Some y)
given f [] y h = absurd h
given f (x ∷ xs) y h = of_first (f x) refl (λ k. given f xs y k) h
  where
    of_first : (o : Option _) → f x ≡ o → (Has (filter_map f xs) y → (z : _) × Has xs z × (f z ≡ Some y)) → Has (cons_option o (filter_map f xs)) y → (z : _) × Has (x ∷ xs) z × (f z ≡ Some y)
    of_first None e more h = let u = more h in (u.0, inr u.1, u.2)
    of_first (Some z) e more (inl same) = (x, inl refl, e ∙ ap Some same)
    of_first (Some z) e more (inr h) = let u = more h in (u.0, inr u.1, u.2)

-- ---- numbers

pub length_numbers : (start n : ℕ) → length (numbers start n) ≡ n
length_numbers start zero = refl
length_numbers start (suc n) = ap suc (length_numbers (start + 1) n)

pub number_at : (start n i : ℕ) → i < n → get_or (numbers start n) i 0 ≡ start + i
number_at start zero i h = absurd (omega (arith, h))
number_at start (suc n) zero h = omega arith
number_at start (suc n) (suc i) h = number_at (start + 1) n i (omega (arith, h)) ∙ omega arith

-- the place of the first that passes is below, and passes
pub position_passes : (p : ℕ → Bool) (start n i : ℕ) → position p (numbers start n) ≡ Some i → (i < n) × (p (start + i) ≡ true)
position_passes p start n i e =
    let found = position-Some p (numbers start n) i 0 e in
    let below : i < n = subst (λ m. i < m) (length_numbers start n) found.0 in
    (below, ap p (sym (number_at start n i below)) ∙ found.1)

pub range_has : (start n i : ℕ) → start ≤ i → i < start + n → Has (range_with_len start n) i
range_has start zero i l m = absurd (omega (arith, l, m))
range_has start (suc n) i l m = elim (eqb_tells start i) [
  | inl y ↦ inl y.1
  | inr f ↦ (let d = f.1 in inr (range_has (start + 1) n i (omega (arith, l, d)) (omega (arith, m))))
]

pub range_within : (start n i : ℕ) → Has (range_with_len start n) i → (start ≤ i) × (i < start + n)
range_within start zero i h = absurd h
range_within start (suc n) i (inl e) = (omega (arith, e), omega (arith, e))
range_within start (suc n) i (inr h) = let u = range_within (start + 1) n i h in let l = u.0 in let m = u.1 in (omega (arith, l), omega (arith, m))

pub range_distinct : (start n : ℕ) → AreDistinct (range_with_len start n)
range_distinct start zero = tt
range_distinct start (suc n) = (λ h. (let u = range_within (start + 1) n start h in let l = u.0 in absurd (omega (arith, l))), range_distinct (start + 1) n)
