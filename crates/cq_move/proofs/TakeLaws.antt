-- The first element that passes a test, and the list without it; the store that ended a move is found.
use Rattle.std.proofs.Common.{◌≡◌, ◌∙◌, ◌<◌, ◌≤◌, ℕ, zero, suc, Bool, true, false, cond, if◌then◌else◌, Some, None, List, [], ◌∷◌, ◌++◌, ◌&&◌, inl, inr, IsSome, eq-eqb, nat_le, nat_eq, length, get_or, ◌⊎◌, refl, sym, ap, subst, arith}
use Rattle.std.specs.List.{HoldsAt, find, remove}
use Rattle.std.proofs.lemmas.Bool.{le-leb}
use Rattle.cq_value.proofs.Truths.{both_true}
use Rattle.cq_tree.specs.declared.failure.StoreFailure.{StoreFailure}
use Rattle.cq_store.specs.Stores.{StoreState}
use Rattle.cq_group.specs.Calls.{Lifted, SomeZip}
use Rattle.cq_move.specs.Outcomes.{Broke}
use Rattle.cq_move.specs.Taking.{is_broken, without_first}

-- no element before this place passes
abbrev pub NoneBefore : {X : Type 0} → (X → Bool) → List X → ℕ → Type 0
NoneBefore test xs place = (k : ℕ) → k < place → HoldsAt (λ x. test x ≡ false) xs k

pub first_found : {X : Type 0} (test : X → Bool) (xs : List X) (place : ℕ) (x : X) → place < length xs → x ≡ get_or xs place x → HoldsAt (λ y. test y ≡ true) xs place → NoneBefore test xs place →
    (Some x ≡ find test xs) × (remove xs place ≡ without_first test xs)
first_found test [] place x low is t h = absurd (omega (arith, low))
first_found test (y ∷ ys) zero x low is t h =
    let passes : test y ≡ true = t y in
    (ap Some is ∙ sym (ap (λ b. cond b (Some y) (find test ys)) passes), sym (ap (λ b. if b then ys else (y ∷ without_first test ys)) passes))
first_found test (y ∷ ys) (suc n) x low is t h =
    let fails : test y ≡ false = h 0 (omega arith) y in
    let rest = first_found test ys n x (omega (arith, low)) is t (λ k less. h (suc k) (omega (arith, less))) in
    (rest.0 ∙ sym (ap (λ b. cond b (Some y) (find test ys)) fails), ap (λ zs. y ∷ zs) rest.1 ∙ sym (ap (λ b. if b then ys else (y ∷ without_first test ys)) fails))

pub none_found : {X : Type 0} (test : X → Bool) (xs : List X) (place : ℕ) → length xs ≤ place → NoneBefore test xs place → (None ≡ find test xs) × (xs ≡ without_first test xs)
none_found test [] place high h = (refl, refl)
none_found test (y ∷ ys) zero high h = absurd (omega (arith, high))
none_found test (y ∷ ys) (suc n) high h =
    let fails : test y ≡ false = h 0 (omega arith) y in
    let rest = none_found test ys n (omega (arith, high)) (λ k less. h (suc k) (omega (arith, less))) in
    (rest.0 ∙ sym (ap (λ b. cond b (Some y) (find test ys)) fails), ap (λ zs. y ∷ zs) rest.1 ∙ sym (ap (λ b. if b then ys else (y ∷ without_first test ys)) fails))

-- a list around an element that was taken out
pub record IsAround {X : Type 0} (x : X) (all left : List X) : Type 0 where
  pub front : List X
  pub back : List X
  pub whole : all ≡ front ++ x ∷ back
  pub rest : left ≡ front ++ back

-- an element that is found passes, and the others are left
pub found_around : {X : Type 0} (test : X → Bool) (xs : List X) (x : X) → find test xs ≡ Some x → (test x ≡ true) × IsAround x xs (without_first test xs)
found_around test [] x e = absurd (cc e)
found_around {X} test (y ∷ ys) x e = by (λ k. found_around test ys x k) (test y) refl e
  where
    by : (find test ys ≡ Some x → (test x ≡ true) × IsAround x ys (without_first test ys)) → (b : Bool) → test y ≡ b → cond b (Some y) (find test ys) ≡ Some x → (test x ≡ true) × IsAround x (y ∷ ys) (if b then ys else (y ∷ without_first test ys))
    by later true t k =
        let same : y ≡ x = cc k in
        (subst (λ z. test z ≡ true) same t, record { front = []; back = ys; whole = ap (λ z. z ∷ ys) same; rest = refl })
    by later false t k =
        let rest = later k in
        (rest.0, record { front = y ∷ rest.1.front; back = rest.1.back; whole = ap (λ zs. y ∷ zs) rest.1.whole; rest = ap (λ zs. y ∷ zs) rest.1.rest })

some_found : {X : Type 0} (test : X → Bool) (y : X) (ys : List X) (b : Bool) → (b ≡ true) ⊎ IsSome (find test ys) → IsSome (cond b (Some y) (find test ys))
some_found test y ys true h = refl
some_found test y ys false (inl h) = absurd (cc h)
some_found test y ys false (inr h) = h

-- where a store broke, one is found
pub broken_found : {X : Type 0} (state : X → StoreState) (failure : StoreFailure) (xs ys : List X) → SomeZip (Lifted state (Broke failure)) xs ys → IsSome (find (λ x. is_broken failure.shard failure.after (state x)) ys)
broken_found state failure [] ys h = absurd h
broken_found state failure (x ∷ xs) [] h = absurd h
broken_found state failure (x ∷ xs) (y ∷ ys) (inl h) =
    some_found (λ z. is_broken failure.shard failure.after (state z)) y ys (is_broken failure.shard failure.after (state y))
    (inl (both_true (nat_eq (state y).shard failure.shard) (nat_le failure.after (state y).faults) (eq-eqb (state y).shard failure.shard h.of_shard) (le-leb failure.after (state y).faults h.to)))
broken_found state failure (x ∷ xs) (y ∷ ys) (inr h) =
    some_found (λ z. is_broken failure.shard failure.after (state z)) y ys (is_broken failure.shard failure.after (state y)) (inr (broken_found state failure xs ys h))
