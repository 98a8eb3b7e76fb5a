-- The greedy plan ends, and where each group counts 1 it leaves the nodes even.
use Rattle.std.proofs.Common.{◌≡◌, ◌∙◌, ℕ, zero, suc, ◌+◌, ◌-◌, ◌<◌, ◌≤◌, ◌⊎◌, inl, inr, Bool, true, false, ◌&&◌, if◌then◌else◌, nat_eq, nat_lt, Option, Some, None, List, [], ◌∷◌, refl, sym, ap, subst, eq-eqb, arith}
use Rattle.std.specs.List.{AllByRecursion}
use Rattle.std.proofs.lemmas.Bool.{ltb-true, ltb-false, lt-ltb}
use Rattle.std.proofs.lemmas.Bool.Decides.{eqb_tells}
use Rattle.std.proofs.lemmas.List.Sums.{sum_by-cons}
use Rattle.cq_balance.specs.declared.load.Load.{Load}
use Rattle.cq_balance.specs.declared.load.Move.{Move}
use Rattle.cq_balance.specs.Greedy.{load_of, fullest, emptiest, can_move, chosen, moving, next_move, moved, moved_all, squares, first_moves, greedy}
use Rattle.cq_balance.specs.Laws.{AreDistinct, MovesLowerSquares, GreedyEnds, CountsAreEven}
use Rattle.cq_balance.proofs.Sizes.{Has, size_stays, distinct_moved}
use Rattle.cq_balance.proofs.Steps.{fullest_most, emptiest_least, none_chosen, next_lowers}

goes_on : ℕ → List Load → ℕ → Option Move → List Move
goes_on n ls nodes o = elim o [ None ↦ [] | Some m ↦ m ∷ first_moves n (moved ls m) nodes ]

step_none : (n : ℕ) (ls : List Load) (nodes : ℕ) → next_move ls nodes ≡ None → first_moves (suc n) ls nodes ≡ []
unfolding goes_on
step_none n ls nodes e = ap (goes_on n ls nodes) e

step_some : (n : ℕ) (ls : List Load) (nodes : ℕ) (m : Move) → next_move ls nodes ≡ Some m → first_moves (suc n) ls nodes ≡ m ∷ first_moves n (moved ls m) nodes
unfolding goes_on
step_some n ls nodes m e = ap (goes_on n ls nodes) e

-- as many moves as the sum of the squares suffice
ends : (n : ℕ) (ls : List Load) (nodes : ℕ) → AreDistinct ls → squares ls nodes ≤ n → next_move (moved_all ls (first_moves n ls nodes)) nodes ≡ None
ends zero ls nodes d low = by (next_move ls nodes) refl
  where
    by : (o : Option Move) → next_move ls nodes ≡ o → next_move ls nodes ≡ None
    by None e = e
    by (Some m) e = absurd (let less = next_lowers ls nodes m d e in omega (arith, less, low))
ends (suc n) ls nodes d low = by (next_move ls nodes) refl (λ m. ends n (moved ls m) nodes)
  where
    by : (o : Option Move) → next_move ls nodes ≡ o → ((m : Move) → AreDistinct (moved ls m) → squares (moved ls m) nodes ≤ n → next_move (moved_all (moved ls m) (first_moves n (moved ls m) nodes)) nodes ≡ None) →
        next_move (moved_all ls (first_moves (suc n) ls nodes)) nodes ≡ None
    by None e f = subst (λ ms. next_move (moved_all ls ms) nodes ≡ None) (sym (step_none n ls nodes e)) e
    by (Some m) e f =
        let less = next_lowers ls nodes m d e in
        subst (λ ms. next_move (moved_all ls ms) nodes ≡ None) (sym (step_some n ls nodes m e)) (f m (distinct_moved ls m d) (omega (arith, less, low)))

enough : (a b : ℕ) (ls : List Load) (nodes : ℕ) → AreDistinct ls → squares ls nodes ≤ a → squares ls nodes ≤ b → first_moves a ls nodes ≡ first_moves b ls nodes
enough zero zero ls nodes d low high = refl
enough zero (suc b) ls nodes d low high = by (next_move ls nodes) refl
  where
    by : (o : Option Move) → next_move ls nodes ≡ o → first_moves zero ls nodes ≡ first_moves (suc b) ls nodes
    by None e = sym (step_none b ls nodes e)
    by (Some m) e = absurd (let less = next_lowers ls nodes m d e in omega (arith, less, low))
enough (suc a) zero ls nodes d low high = by (next_move ls nodes) refl
  where
    by : (o : Option Move) → next_move ls nodes ≡ o → first_moves (suc a) ls nodes ≡ first_moves zero ls nodes
    by None e = step_none a ls nodes e
    by (Some m) e = absurd (let less = next_lowers ls nodes m d e in omega (arith, less, high))
enough (suc a) (suc b) ls nodes d low high = by (next_move ls nodes) refl (λ m. enough a b (moved ls m) nodes)
  where
    by : (o : Option Move) → next_move ls nodes ≡ o → ((m : Move) → AreDistinct (moved ls m) → squares (moved ls m) nodes ≤ a → squares (moved ls m) nodes ≤ b → first_moves a (moved ls m) nodes ≡ first_moves b (moved ls m) nodes) →
        first_moves (suc a) ls nodes ≡ first_moves (suc b) ls nodes
    by None e f = step_none a ls nodes e ∙ sym (step_none b ls nodes e)
    by (Some m) e f =
        let less = next_lowers ls nodes m d e in
        step_some a ls nodes m e ∙ ap (λ ms. m ∷ ms) (f m (distinct_moved ls m d) (omega (arith, less, low)) (omega (arith, less, high))) ∙ sym (step_some b ls nodes m e)

-- the plan begins with the next move, and goes on after it
pub greedy_step : (ls : List Load) (nodes : ℕ) (m : Move) → AreDistinct ls → next_move ls nodes ≡ Some m → greedy ls nodes ≡ m ∷ greedy (moved ls m) nodes
greedy_step ls nodes m d e =
    let less = next_lowers ls nodes m d e in
    enough (squares ls nodes) (suc (squares ls nodes)) ls nodes d (omega arith) (omega arith)
    ∙ step_some (squares ls nodes) ls nodes m e
    ∙ ap (λ ms. m ∷ ms) (enough (squares ls nodes) (squares (moved ls m) nodes) (moved ls m) nodes (distinct_moved ls m d) (omega (arith, less)) (omega arith))

pub greedy_none : (ls : List Load) (nodes : ℕ) → AreDistinct ls → next_move ls nodes ≡ None → greedy ls nodes ≡ []
greedy_none ls nodes d e = enough (squares ls nodes) (suc (squares ls nodes)) ls nodes d (omega arith) (omega arith) ∙ step_none (squares ls nodes) ls nodes e

-- each group counts 1
abbrev pub AreOnes : List Load → Type 0
AreOnes ls = AllByRecursion (λ (l : Load). l.size ≡ 1) ls

ones_moved : (ls : List Load) (m : Move) → AreOnes ls → AreOnes (moved ls m)
ones_moved [] m h = tt
ones_moved (x ∷ ls) m h = (size_stays m x ∙ h.0, ones_moved ls m h.1)

ones_after : (ls : List Load) (ms : List Move) → AreOnes ls → AreOnes (moved_all ls ms)
ones_after ls [] h = h
ones_after ls (m ∷ ms) h = ones_after (moved ls m) ms (ones_moved ls m h)

-- a node with a load has a group
some_on : (ls : List Load) (n : ℕ) → AreOnes ls → 0 < load_of ls n → (l : Load) × Has ls l × (l.node ≡ n) × (l.size ≡ 1)
some_on [] n h low = absurd (omega (arith, low))
some_on (x ∷ ls) n h low = elim (eqb_tells x.node n) [
  | inl p ↦ (x, inl refl, p.1, h.0)
  | inr p ↦ (
      let all = sum_by-cons (λ (l : Load). if nat_eq l.node n then l.size else 0) x ls in
      let none : (if nat_eq x.node n then x.size else 0) ≡ 0 = ap (λ b. if b then x.size else 0) p.0 in
      let rest = some_on ls n h.1 (omega (arith, all, none, low)) in
      (rest.0, inr rest.1, rest.2, rest.3))
]

movable : (ls : List Load) (from to : ℕ) (l : Load) → l.node ≡ from → l.size ≡ 1 → load_of ls to + 1 < load_of ls from → can_move ls from to l ≡ true
movable ls from to l node one low =
    let a = eq-eqb l.node from node in
    let b = lt-ltb 0 l.size (omega (arith, one)) in
    let c = lt-ltb l.size (load_of ls from - load_of ls to) (omega (arith, one, low)) in
    λ i. a i && (b i && c i)

even : (ls : List Load) (nodes fuller emptier : ℕ) → AreOnes ls → next_move ls nodes ≡ None → 0 < fuller → fuller ≤ nodes → 0 < emptier → emptier ≤ nodes →
    load_of ls fuller ≤ load_of ls emptier + 1
even ls nodes fuller emptier ones e a b c d = elim (tells (load_of ls fuller) (load_of ls emptier + 1)) [
  | inl p ↦ p
  | inr p ↦ absurd (
      let high = fullest_most ls nodes fuller a b in
      let low = emptiest_least ls nodes emptier c d in
      let from = fullest ls nodes in
      let to = emptiest ls nodes in
      let wide : load_of ls to + 1 < load_of ls from = omega (arith, high, low, p) in
      let one = some_on ls from ones (omega (arith, wide)) in
      none_chosen ls from to one.0 one.1 (movable ls from to one.0 one.2 one.3 wide) (unmoving (chosen ls from to) from to e))
]
  where
    tells : (m n : ℕ) → (m ≤ n) ⊎ (n < m)
    tells m n = by (nat_lt n m) refl
      where
        by : (t : Bool) → nat_lt n m ≡ t → (m ≤ n) ⊎ (n < m)
        by true k = inr (ltb-true n m k)
        by false k = inl (ltb-false n m k)

    unmoving : (o : Option Load) (from to : ℕ) → moving from to o ≡ None → o ≡ None
    unmoving None from to k = refl
    unmoving (Some l) from to k = absurd (cc k)

pub moves_lower_squares : MovesLowerSquares
moves_lower_squares loads nodes m d e = next_lowers loads nodes m d e

pub greedy_ends : GreedyEnds
greedy_ends loads nodes d = ends (squares loads nodes) loads nodes d (omega arith)

pub counts_are_even : CountsAreEven
counts_are_even loads nodes fuller emptier d ones a b c k =
    even (moved_all loads (greedy loads nodes)) nodes fuller emptier (ones_after loads (greedy loads nodes) ones) (greedy_ends loads nodes d) a b c k
