-- Groups that ascend are in order already.
use Rattle.std.proofs.Common.{◌≡◌, ℕ, zero, suc, ◌+◌, ◌<◌, ◌≤◌, Bool, true, false, List, [], ◌∷◌, filter, nat_eq, refl, sym, ap, subst, ◌∙◌, arith}
use Rattle.std.specs.Prelude.{◌&&◌, nat_le, nat_lt}
use Rattle.std.specs.List.{list_any}
use Rattle.std.proofs.lemmas.Bool.{ltb-true, leb-true, le-leb, lt-ltb}
use native.Mathlib.Decide.{dec_lt}
use Rattle.cq_value.proofs.Truths.{and_both, both_true}
use Rattle.cq_catalog.specs.Contents.{Contents}
use Rattle.cq_planning.specs.Touched.{numbers, among, in_order}
use Rattle.cq_plan.specs.Touches.{ascends}
use Rattle.cq_plan.proofs.OrderLaws.{alike}

-- what an ascending list says of its first number and of the rest
of_first : (bound low g : ℕ) (gs : List ℕ) → ascends bound (g ∷ gs) low ≡ true → (low ≤ g) × (g < bound) × (ascends bound gs (g + 1) ≡ true)
of_first bound low g gs a =
    let x = and_both (nat_le low g) (nat_lt g bound && ascends bound gs (g + 1)) a in
    let y = and_both (nat_lt g bound) (ascends bound gs (g + 1)) x.1 in
    (leb-true low g x.0, ltb-true g bound y.0, y.1)

-- what is below the first is none of them
below_all : (bound low : ℕ) (gs : List ℕ) (n : ℕ) → ascends bound gs low ≡ true → n < low → among n gs ≡ false
below_all bound low [] n a h = refl
below_all bound low (g ∷ gs) n a h =
    let f = of_first bound low g gs a in
    let l : low ≤ g = f.0 in
    let e : nat_eq n g ≡ false = grind arith in
    rw e (below_all bound (g + 1) gs n f.2 (omega arith))

-- they ascend from a lower number too
from_lower : (bound low g : ℕ) (gs : List ℕ) → ascends bound (g ∷ gs) low ≡ true → (lower : ℕ) → lower ≤ g → ascends bound (g ∷ gs) lower ≡ true
from_lower bound low g gs a lower l = both_true (nat_le lower g) (nat_lt g bound && ascends bound gs (g + 1)) (le-leb lower g l) (and_both (nat_le low g) (nat_lt g bound && ascends bound gs (g + 1)) a).1

ordered : (bound low k : ℕ) (gs : List ℕ) → low + k ≡ bound → ascends bound gs low ≡ true → filter (λ n. among n gs) (numbers low k) ≡ gs
ordered bound low zero [] e a = refl
ordered bound low zero (g ∷ gs) e a = let f = of_first bound low g gs a in let l : low ≤ g = f.0 in let h : g < bound = f.1 in absurd (omega arith)
ordered bound low (suc k) [] e a = ordered bound (low + 1) k [] (omega arith) refl
ordered bound low (suc k) (g ∷ gs) e a =
    look (λ m. ordered bound (low + 1) k (g ∷ gs) (omega arith) (from_lower bound low g gs a (low + 1) m)) (λ next. ordered bound (low + 1) k gs (omega arith) next) (dec_lt low g)
  where
    first : low ≤ g
    first = (of_first bound low g gs a).0

    look : (low + 1 ≤ g → filter (λ n. among n (g ∷ gs)) (numbers (low + 1) k) ≡ g ∷ gs) → (ascends bound gs (low + 1) ≡ true → filter (λ n. among n gs) (numbers (low + 1) k) ≡ gs) →
        Dec (low < g) → filter (λ n. among n (g ∷ gs)) (numbers low (suc k)) ≡ g ∷ gs
    look further behind (yes m) =
        let off : among low (g ∷ gs) ≡ false = below_all bound g (g ∷ gs) low (from_lower bound low g gs a g (omega arith)) m in
        rw off (further (omega arith))
    look further behind (no m) =
        let l : low ≤ g = first in
        let same : low ≡ g = omega arith in
        let on : nat_eq low g ≡ true = grind arith in
        let next : ascends bound gs (low + 1) ≡ true = subst (λ n. ascends bound gs (n + 1) ≡ true) (sym same) (of_first bound low g gs a).2 in
        let rest : filter (λ n. among n (g ∷ gs)) (numbers (low + 1) k) ≡ filter (λ n. among n gs) (numbers (low + 1) k) =
        alike (λ n. among n (g ∷ gs)) (λ n. among n gs) (low + 1) k (λ n l h. let off : nat_eq n g ≡ false = grind arith in rw off refl) in
        rw (on, rest) (ap (λ us. low ∷ us) (behind next) ∙ ap (λ n. n ∷ gs) same)

pub in_order_already : (c : Contents) (groups list : List ℕ) (bound : ℕ) (b : Bool) → bound ≡ c.groups → b ≡ ascends bound groups 0 → b ≡ true → list ≡ groups → list ≡ in_order c groups
in_order_already c groups list bound b e f y l =
    let a : ascends c.groups groups 0 ≡ true = ap (λ n. ascends n groups 0) (sym e) ∙ (sym f ∙ y) in
    l ∙ sym (ordered c.groups 0 c.groups groups (omega arith) a)
