-- What code holds of a query's occurrences says what the definitions say of them.
use Rattle.std.proofs.Common.{◌≡◌, inl, inr, ℕ, zero, suc, ◌+◌, ◌<◌, ◌≤◌, Bool, true, false, cond, List, [], ◌∷◌, ◌++◌, map, filter, length, refl, sym, ap, ◌∙◌, arith, nat_eq, nat_lt, eq-eqb, ◌||◌, ◌&&◌}
use Rattle.std.specs.List.{flat_map, list_any, list_all}
use Rattle.cq_value.proofs.Truths.{or_apart, two_ways, same_number}
use Rattle.cq_catalog.specs.Contents.{Contents}
use Rattle.cq_catalog.specs.Placement.{place_at}
use Rattle.cq_planning.specs.Occurrences.{Occurrence}
use Rattle.cq_planning.specs.Touched.{numbers, among, in_order, groups_of}
use Rattle.cq_planning.specs.Routing.{is_distributed_place, is_reference_place, distributed_of, are_of_one_colocation, groups_of_all, are_routed, first_group_of, tasks_over, tasks_in}
use Rattle.cq_plan.specs.Touches.{touches}
use Rattle.cq_router.specs.Reads.{is_of_reference, distributed_among, groups_in_each, groups_among, colocation_number, agrees, are_of_one, first_group_among, tasks_among, are_routed_among}
use Rattle.cq_router.proofs.NumberLaws.{other_number, filter_same}

-- ---- groups of lists, each in ascending order

among_append : (g : ℕ) (xs ys : List ℕ) → among g (xs ++ ys) ≡ (among g xs || among g ys)
among_append g [] ys = refl
among_append g (x ∷ xs) ys = ap (λ b. nat_eq g x || b) (among_append g xs ys) ∙ sym (or_apart (nat_eq g x) (among g xs) (among g ys))

kept_or : (g x : ℕ) (b : Bool) (xs : List ℕ) → nat_eq g x ≡ false → among g (cond b (x ∷ xs) xs) ≡ among g xs
kept_or g x true xs n = rw n refl
kept_or g x false xs n = refl

among_above : (p : ℕ → Bool) (s n g : ℕ) → g < s → among g (filter p (numbers s n)) ≡ false
among_above p s zero g h = refl
among_above p s (suc n) g h = kept_or g s (p s) (filter p (numbers (s + 1) n)) (other_number g s (λ e. omega arith)) ∙ among_above p (s + 1) n g (omega arith)

among_kept : (p : ℕ → Bool) (s n g : ℕ) → s ≤ g → g < s + n → among g (filter p (numbers s n)) ≡ p g
among_kept p s zero g a b = absurd (omega arith)
among_kept p s (suc n) g a b = elim (two_ways (nat_eq g s)) [
  | inl y ↦ (let e : g ≡ s = same_number g s y in at_first (filter p (numbers (s + 1) n)) g s (p s) y (among_above p (s + 1) n g (omega arith)) ∙ ap p (sym e))
  | inr m ↦ (let d : g ≡ s → ⊥ = λ e. (let bad : true ≡ false = sym (eq-eqb g s e) ∙ m in cc) in kept_or g s (p s) (filter p (numbers (s + 1) n)) m ∙ among_kept p (s + 1) n g (omega arith) (omega arith))
]
  where
    at_first : (xs : List ℕ) (g s : ℕ) (b : Bool) → nat_eq g s ≡ true → among g xs ≡ false → among g (cond b (s ∷ xs) xs) ≡ b
    at_first xs g s true y m = rw y refl
    at_first xs g s false y m = m

among_ordered : (c : Contents) (gs : List ℕ) (g : ℕ) → g < c.groups → among g (in_order c gs) ≡ among g gs
among_ordered c gs g h = among_kept (λ g. among g gs) 0 c.groups g (omega arith) (omega arith)

among_each : (c : Contents) (os : List Occurrence) (g : ℕ) → g < c.groups → among g (groups_in_each (map (touches c) os)) ≡ among g (flat_map (groups_of c) os)
among_each c [] g h = refl
among_each c (o ∷ os) g h =
    among_append g (in_order c (groups_of c o)) (groups_in_each (map (touches c) os))
    ∙ ((λ i. among_ordered c (groups_of c o) g h i || among_each c os g h i)
    ∙ sym (among_append g (groups_of c o) (flat_map (groups_of c) os)))

pub groups_same : (c : Contents) (os : List Occurrence) → groups_among c (map (touches c) os) ≡ groups_of_all c os
groups_same c os = filter_same (λ g. among g (groups_in_each (map (touches c) os))) (λ g. among g (flat_map (groups_of c) os)) 0 c.groups (λ g a b. among_each c os g (omega arith))

-- ---- the other parts

kept_same : (b : Bool) (t : ℕ × List ℕ) (c : Contents) (o : Occurrence) (os : List Occurrence) (ts : List (ℕ × List ℕ)) → t ≡ touches c o → ts ≡ map (touches c) os → cond b (t ∷ ts) ts ≡ map (touches c) (cond b (o ∷ os) os)
kept_same true t c o os ts e f = λ i. e i ∷ f i
kept_same false t c o os ts e f = f

pub distributed_same : (c : Contents) (os : List Occurrence) → distributed_among c (map (touches c) os) ≡ map (touches c) (distributed_of c os)
distributed_same c [] = refl
distributed_same c (o ∷ os) = kept_same (is_distributed_place (place_at c o.table)) (touches c o) c o (distributed_of c os) (distributed_among c (map (touches c) os)) refl (distributed_same c os)

reference_same : (c : Contents) (os : List Occurrence) → list_any (is_of_reference c) (map (touches c) os) ≡ list_any (λ (o : Occurrence). is_reference_place (place_at c o.table)) os
reference_same c [] = refl
reference_same c (o ∷ os) = ap (λ b. is_reference_place (place_at c o.table) || b) (reference_same c os)

all_same : (c : Contents) (n : ℕ) (os : List Occurrence) → list_all (agrees c n) (map (touches c) os) ≡ list_all (λ (p : Occurrence). nat_eq (colocation_number c p.table) n) os
all_same c n [] = refl
all_same c n (o ∷ os) = ap (λ b. nat_eq (colocation_number c o.table) n && b) (all_same c n os)

one_same : (c : Contents) (os : List Occurrence) → are_of_one c (map (touches c) os) ≡ are_of_one_colocation c os
one_same c [] = refl
one_same c (o ∷ os) = rw (eq-eqb (colocation_number c o.table) (colocation_number c o.table) refl) (all_same c (colocation_number c o.table) os)

first_same : (c : Contents) (os : List Occurrence) → first_group_among c (map (touches c) os) ≡ first_group_of c os
first_same c [] = refl
first_same c (o ∷ os) = refl

distributed_groups : (c : Contents) (os : List Occurrence) → groups_among c (distributed_among c (map (touches c) os)) ≡ groups_of_all c (distributed_of c os)
distributed_groups c os = ap (groups_among c) (distributed_same c os) ∙ groups_same c (distributed_of c os)

pub tasks_same : (c : Contents) (os : List Occurrence) → tasks_among c (map (touches c) os) ≡ tasks_over c os
tasks_same c os = λ i. tasks_in ((ap (first_group_among c) (distributed_same c os) ∙ first_same c (distributed_of c os)) i) (reference_same c os i) (distributed_groups c os i)

pub routed_same : (c : Contents) (os : List Occurrence) → are_routed_among c (map (touches c) os) ≡ are_routed c os
routed_same c [] = refl
routed_same c (o ∷ os) = λ i. (ap (are_of_one c) (distributed_same c (o ∷ os)) ∙ one_same c (distributed_of c (o ∷ os))) i && nat_lt (length (distributed_groups c (o ∷ os) i)) 2
