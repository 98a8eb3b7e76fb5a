-- Groups put in order part by part, and then all together.
use Rattle.std.proofs.Common.{◌≡◌, ℕ, zero, suc, ◌+◌, ◌<◌, ◌≤◌, Bool, true, false, cond, List, [], ◌∷◌, ◌++◌, map, filter, nat_eq, refl, sym, ap, ◌∙◌, arith}
use Rattle.std.specs.Prelude.{◌||◌}
use Rattle.std.specs.List.{list_any, flat_map}
use native.Mathlib.Decide.{dec_lt}
use Rattle.cq_tree.specs.declared.query.Query.{Query}
use Rattle.cq_tree.specs.declared.statement.Statement.TheVariants as statement
use Rattle.cq_catalog.specs.Contents.{Contents}
use Rattle.cq_planning.specs.Occurrences.{Occurrence, occurrences_of}
use Rattle.cq_planning.specs.Touched.{numbers, among, in_order, groups_of, touched}
use Rattle.cq_plan.specs.Touches.{touches}

none_before : (p : ℕ → Bool) (g s k : ℕ) → g < s → list_any (nat_eq g) (filter p (numbers s k)) ≡ false
none_before p g s zero h = refl
none_before p g s (suc k) h = elim (p s) as (λ b. list_any (nat_eq g) (cond b (s ∷ filter p (numbers (s + 1) k)) (filter p (numbers (s + 1) k))) ≡ false) [
  | true ↦ (let e : nat_eq g s ≡ false = grind arith in rw e (none_before p g (s + 1) k (omega arith)))
  | false ↦ none_before p g (s + 1) k (omega arith)
]

-- a number of a range is among those that pass a test exactly where it passes
passes : (p : ℕ → Bool) (g s k : ℕ) → s ≤ g → g < s + k → list_any (nat_eq g) (filter p (numbers s k)) ≡ p g
passes p g s zero l h = absurd (omega arith)
passes p g s (suc k) l h = look (λ m. passes p g (s + 1) k m (omega arith)) (dec_lt s g)
  where
    look : (s + 1 ≤ g → list_any (nat_eq g) (filter p (numbers (s + 1) k)) ≡ p g) → Dec (s < g) → list_any (nat_eq g) (filter p (numbers s (suc k))) ≡ p g
    look further (yes m) = elim (p s) as (λ b. list_any (nat_eq g) (cond b (s ∷ filter p (numbers (s + 1) k)) (filter p (numbers (s + 1) k))) ≡ p g) [
      | true ↦ (let e : nat_eq g s ≡ false = grind arith in rw e (further (omega arith)))
      | false ↦ further (omega arith)
    ]
    look further (no m) = let same : g ≡ s = omega arith in
        elim (p s) as (λ b. p s ≡ b → list_any (nat_eq g) (cond b (s ∷ filter p (numbers (s + 1) k)) (filter p (numbers (s + 1) k))) ≡ p g) [
          | true ↦ (λ e. let t : nat_eq g s ≡ true = grind arith in rw t (sym (ap p same ∙ e)))
          | false ↦ (λ e. none_before p g (s + 1) k (omega arith) ∙ sym (ap p same ∙ e))
        ] refl

pub alike : (p q : ℕ → Bool) (s k : ℕ) → ((g : ℕ) → s ≤ g → g < s + k → p g ≡ q g) → filter p (numbers s k) ≡ filter q (numbers s k)
alike p q s zero h = refl
alike p q s (suc k) h = let e : p s ≡ q s = h s (omega arith) (omega arith) in
    let rest : filter p (numbers (s + 1) k) ≡ filter q (numbers (s + 1) k) = alike p q (s + 1) k (λ g l m. h g (omega arith) (omega arith)) in
    rw (e, rest) refl

among_append : (g : ℕ) (xs ys : List ℕ) → among g (xs ++ ys) ≡ (among g xs || among g ys)
among_append g [] ys = refl
among_append g (x ∷ xs) ys = elim (nat_eq g x) as (λ b. (b || among g (xs ++ ys)) ≡ ((b || among g xs) || among g ys)) [ true ↦ refl | false ↦ among_append g xs ys ]

module _ (c : Contents) where
  each_alike : (os : List Occurrence) (g : ℕ) → g < c.groups → among g (flat_map (λ (t : ℕ × List ℕ). t.1) (map (touches c) os)) ≡ among g (flat_map (groups_of c) os)
  each_alike [] g h = refl
  each_alike (o ∷ os) g h =
      among_append g (in_order c (groups_of c o)) (flat_map (λ (t : ℕ × List ℕ). t.1) (map (touches c) os))
      ∙ (ap (λ b. b || among g (flat_map (λ (t : ℕ × List ℕ). t.1) (map (touches c) os))) (passes (λ h. among h (groups_of c o)) g 0 c.groups (omega arith) (omega arith))
      ∙ (ap (λ b. among g (groups_of c o) || b) (each_alike os g h) ∙ sym (among_append g (groups_of c o) (flat_map (groups_of c) os))))

  pub touched_together : (q : Query) → in_order c (flat_map (λ (t : ℕ × List ℕ). t.1) (map (touches c) (occurrences_of c q))) ≡ touched c (statement.Select q)
  touched_together q = alike (λ g. among g (flat_map (λ (t : ℕ × List ℕ). t.1) (map (touches c) (occurrences_of c q)))) (λ g. among g (flat_map (groups_of c) (occurrences_of c q))) 0 c.groups (λ g l h. each_alike (occurrences_of c q) g (omega arith))
