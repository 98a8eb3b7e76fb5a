-- Sums over two lists, and over numbers.
use Rattle.std.proofs.Common.{zero, suc, cond, ◌≡◌, ◌+◌, ◌<◌, ◌≤◌, inl, inr, ℕ, List, [], ◌∷◌, refl, sym, arith}
use Rattle.std.specs.Prelude.{nat_eq}
use Rattle.std.specs.List.{AllByRecursion, sum_by}
use Rattle.std.proofs.lemmas.Bool.Decides.{eqb_tells}
use Rattle.std.proofs.lemmas.List.Sums.{sum_by-cons}
use Rattle.cq_planning.specs.Touched.{numbers}

pub all_so : {X : Type 0} (P : X → Type 0) → ((x : X) → P x) → (xs : List X) → AllByRecursion P xs
all_so P p [] = tt
all_so P p (x ∷ xs) = (p x, all_so P p xs)

pub all_numbers : (P : ℕ → Type 0) (low more : ℕ) → ((n : ℕ) → low ≤ n → n < low + more → P n) → AllByRecursion P (numbers low more)
all_numbers P low zero p = tt
all_numbers P low (suc more) p = (p low (omega arith) (omega arith), all_numbers P (low + 1) more (λ n above below. p n (omega (arith, above)) (omega (arith, below))))

pub sum_alike : {X : Type 0} (f h : X → ℕ) (xs : List X) → AllByRecursion (λ x. f x ≡ h x) xs → sum_by f xs ≡ sum_by h xs
sum_alike f h [] all = refl
sum_alike f h (x ∷ xs) all =
    let a : sum_by f (x ∷ xs) ≡ f x + sum_by f xs = sum_by-cons f x xs in
    let b : sum_by h (x ∷ xs) ≡ h x + sum_by h xs = sum_by-cons h x xs in
    let here : f x ≡ h x = all.0 in
    let more : sum_by f xs ≡ sum_by h xs = sum_alike f h xs all.1 in
    omega (arith, a, b, here, more)

pub sum_nothing : {X : Type 0} (f : X → ℕ) (xs : List X) → AllByRecursion (λ x. f x ≡ 0) xs → sum_by f xs ≡ 0
sum_nothing f [] all = refl
sum_nothing f (x ∷ xs) all =
    let a : sum_by f (x ∷ xs) ≡ f x + sum_by f xs = sum_by-cons f x xs in
    let here : f x ≡ 0 = all.0 in
    let more : sum_by f xs ≡ 0 = sum_nothing f xs all.1 in
    omega (arith, a, here, more)

pub sum_both : {X : Type 0} (f h : X → ℕ) (xs : List X) → sum_by (λ x. f x + h x) xs ≡ sum_by f xs + sum_by h xs
sum_both f h [] = refl
sum_both f h (x ∷ xs) =
    let a : sum_by f (x ∷ xs) ≡ f x + sum_by f xs = sum_by-cons f x xs in
    let b : sum_by h (x ∷ xs) ≡ h x + sum_by h xs = sum_by-cons h x xs in
    let d : sum_by (λ y. f y + h y) (x ∷ xs) ≡ f x + h x + sum_by (λ y. f y + h y) xs = sum_by-cons (λ y. f y + h y) x xs in
    let more : sum_by (λ y. f y + h y) xs ≡ sum_by f xs + sum_by h xs = sum_both f h xs in
    omega (arith, a, b, d, more)

-- the order of summation doesn't matter
pub sum_turned : {X Y : Type 0} (f : X → Y → ℕ) (xs : List X) (ys : List Y) → sum_by (λ x. sum_by (f x) ys) xs ≡ sum_by (λ y. sum_by (λ x. f x y) xs) ys
sum_turned {X} {Y} f [] ys = sym (sum_nothing (λ (y : Y). 0) ys (all_so (λ (y : Y). 0 ≡ 0) (λ y. refl) ys))
sum_turned {X} {Y} f (x ∷ xs) ys =
    let a : sum_by (λ z. sum_by (f z) ys) (x ∷ xs) ≡ sum_by (f x) ys + sum_by (λ z. sum_by (f z) ys) xs = sum_by-cons (λ z. sum_by (f z) ys) x xs in
    let more : sum_by (λ z. sum_by (f z) ys) xs ≡ sum_by (λ y. sum_by (λ z. f z y) xs) ys = sum_turned f xs ys in
    let both : sum_by (λ y. f x y + sum_by (λ z. f z y) xs) ys ≡ sum_by (f x) ys + sum_by (λ y. sum_by (λ z. f z y) xs) ys = sum_both (f x) (λ y. sum_by (λ z. f z y) xs) ys in
    let each : sum_by (λ y. sum_by (λ z. f z y) (x ∷ xs)) ys ≡ sum_by (λ y. f x y + sum_by (λ z. f z y) xs) ys =
    sum_alike (λ y. sum_by (λ z. f z y) (x ∷ xs)) (λ y. f x y + sum_by (λ z. f z y) xs) ys
    (all_so (λ (y : Y). sum_by (λ z. f z y) (x ∷ xs) ≡ f x y + sum_by (λ z. f z y) xs) (λ y. sum_by-cons (λ z. f z y) x xs) ys) in
    omega (arith, a, more, both, each)

-- a term at one number alone
pub sum_at : (h v low more : ℕ) → low ≤ h → h < low + more → sum_by (λ n. cond (nat_eq n h) v 0) (numbers low more) ≡ v
sum_at h v low zero above below = absurd (omega (arith, above, below))
sum_at h v low (suc more) above below =
    let f : ℕ → ℕ = λ n. cond (nat_eq n h) v 0 in
    let all : sum_by f (numbers low (suc more)) ≡ f low + sum_by f (numbers (low + 1) more) = sum_by-cons f low (numbers (low + 1) more) in
    elim (eqb_tells low h) [
      | inl y ↦
          let here : f low ≡ v = rw y.0 refl in
          let rest : sum_by f (numbers (low + 1) more) ≡ 0 = sum_nothing f (numbers (low + 1) more) (all_numbers (λ n. f n ≡ 0) (low + 1) more (λ n over under. elim (eqb_tells n h) [
            | inl z ↦ absurd (omega (arith, z.1, y.1, over))
            | inr z ↦ rw z.0 refl
          ])) in
          omega (arith, all, here, rest)
      | inr n ↦
          let here : f low ≡ 0 = rw n.0 refl in
          let further : low + 1 ≤ h = (let far = n.1 in omega (arith, above, far)) in
          let rest : sum_by f (numbers (low + 1) more) ≡ v = sum_at h v (low + 1) more further (omega (arith, below)) in
          omega (arith, all, here, rest)
    ]
