-- The groups that a plan touches are those of its statement.
use Rattle.std.proofs.Common.{◌≡◌, ℕ, zero, suc, ◌+◌, ◌<◌, ◌≤◌, List, [], ◌∷◌, map, filter, Bool, true, false, ◌||◌, cond, nat_eq, refl, sym, ap, ◌∙◌, arith}
use Rattle.std.specs.List.{flat_map}
use Rattle.std.proofs.lemmas.List.Folds.{list_any-append}
use Rattle.cq_meaning.proofs.Reorder.{Reordered, then, turned, kept, none}
use Rattle.cq_catalog.specs.Contents.{Contents}
use Rattle.cq_planning.specs.Occurrences.{Occurrence, occurrences_of}
use Rattle.cq_planning.specs.Touched.{numbers, among, in_order, groups_of}
use Rattle.cq_planning_laws.proofs.GroupLists.{in_order_has, in_order_only}
use Rattle.cq_outline.specs.Tasking.{Touch, touch_of}
use Rattle.cq_one_plan.specs.Plans.{whole_plan}
use Rattle.cq_one_plan.specs.Reading.{touches_in}
use Rattle.cq_plan_laws.specs.Touching.{PlansReach}
use Rattle.cq_plan_laws.proofs.Touching.{touches_again}

or_swap : (a b d : Bool) → (a || (b || d)) ≡ (b || (a || d))
or_swap true true d = refl
or_swap true false d = refl
or_swap false b d = refl

alike : (a b : Bool) → (a ≡ true → b ≡ true) → (b ≡ true → a ≡ true) → a ≡ b
alike true true f g = refl
alike true false f g = sym (f refl)
alike false true f g = g refl
alike false false f g = refl

-- the groups of tables, each with those that it touches
abbrev spread : List Touch → List ℕ
spread ts = flat_map (λ (t : Touch). t.1) ts

spread_has : (g : ℕ) (t : Touch) (ts : List Touch) → among g (spread (t ∷ ts)) ≡ (among g t.1 || among g (spread ts))
spread_has g t ts = list_any-append (nat_eq g) t.1 (spread ts)

-- in any order they are the same
among_again : (g : ℕ) {xs ys : List Touch} → Reordered xs ys → among g (spread xs) ≡ among g (spread ys)
among_again g none = refl
among_again g (kept {x} {xs} {ys} r) = spread_has g x xs ∙ (ap (λ (b : Bool). among g x.1 || b) (among_again g r) ∙ sym (spread_has g x ys))
among_again g (turned {x} {y} {xs}) =
    spread_has g x (y ∷ xs) ∙ (ap (λ (b : Bool). among g x.1 || b) (spread_has g y xs) ∙ (or_swap (among g x.1) (among g y.1) (among g (spread xs))
    ∙ (ap (λ (b : Bool). among g y.1 || b) (sym (spread_has g x xs)) ∙ sym (spread_has g y (x ∷ xs)))))
among_again g (then r s) = among_again g r ∙ among_again g s

among_each : (c : Contents) (os : List Occurrence) (g : ℕ) → g < c.groups → among g (spread (map (touch_of c) os)) ≡ among g (flat_map (groups_of c) os)
among_each c [] g h = refl
among_each c (o ∷ os) g h =
    spread_has g (touch_of c o) (map (touch_of c) os)
    ∙ ((λ i. alike (among g (in_order c (groups_of c o))) (among g (groups_of c o)) (in_order_only c (groups_of c o) g) (in_order_has c (groups_of c o) g h) i || among_each c os g h i)
    ∙ sym (list_any-append (nat_eq g) (groups_of c o) (flat_map (groups_of c) os)))

filter_same : (p q : ℕ → Bool) (k n : ℕ) → ((g : ℕ) → k ≤ g → g < k + n → p g ≡ q g) → filter p (numbers k n) ≡ filter q (numbers k n)
filter_same p q k zero h = refl
filter_same p q k (suc n) h = (λ i. cond (h k (omega arith) (omega arith) i) (k ∷ filter_same p q (k + 1) n (λ g a b. h g (omega arith) (omega arith)) i) (filter_same p q (k + 1) n (λ g a b. h g (omega arith) (omega arith)) i))

pub plans_reach : PlansReach
plans_reach c q h =
    filter_same (λ g. among g (spread (touches_in (whole_plan c q)))) (λ g. among g (flat_map (groups_of c) (occurrences_of c q))) 0 c.groups
    (λ g a b. among_again g (touches_again c q h) ∙ among_each c (occurrences_of c q) g (omega arith))
