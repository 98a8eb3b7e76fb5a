-- Marks on numbers.
use Rattle.std.proofs.Common.{◌≡◌, inl, inr, ◌<◌, ℕ, zero, suc, Bool, true, false, ◌||◌, List, [], ◌∷◌, ◌++◌, length, refl, sym, ap, ◌∙◌, arith, nat_eq, eq-eqb}
use Rattle.std.specs.Prelude.{slice_set}
use Rattle.cq_value.proofs.Truths.{two_ways, same_number}
use Rattle.cq_strategies.specs.Components.{mark_at, AreSame, IsMarked, AreOn}
use Rattle.cq_strategies.proofs.NumberLaws.{among_last}

-- a mark that isn't set says nothing
pub not_set : (marks : List Bool) (k : ℕ) → mark_at (marks ++ false ∷ []) k ≡ mark_at marks k
not_set [] zero = refl
not_set [] (suc k) = refl
not_set (m ∷ marks) zero = refl
not_set (m ∷ marks) (suc k) = not_set marks k

set_here : (marks : List Bool) (n : ℕ) → n < length marks → mark_at (slice_set marks n true) n ≡ true
set_here [] n h = absurd (omega arith)
set_here (m ∷ marks) zero h = refl
set_here (m ∷ marks) (suc n) h = set_here marks n (omega arith)

set_other : (marks : List Bool) (n k : ℕ) → ((k ≡ n) → ⊥) → mark_at (slice_set marks n true) k ≡ mark_at marks k
set_other [] n k e = refl
set_other (m ∷ marks) zero zero e = absurd (e refl)
set_other (m ∷ marks) zero (suc k) e = refl
set_other (m ∷ marks) (suc n) zero e = refl
set_other (m ∷ marks) (suc n) (suc k) e = set_other marks n k (λ s. e (ap suc s))

or_true : (a : Bool) → true ≡ (a || true)
or_true true = refl
or_true false = refl

or_false : (a : Bool) → a ≡ (a || false)
or_false true = refl
or_false false = refl

pub set_mark : (old marks : List Bool) (n : ℕ) → AreSame old marks → n < length marks → IsMarked old n (slice_set marks n true)
set_mark old marks n same h k = elim (two_ways (nat_eq k n)) [
  | inl y ↦ (let e : k ≡ n = same_number k n y in ap (λ (j : ℕ). mark_at (slice_set marks n true) j) e ∙ (set_here marks n h ∙ (or_true (mark_at old k) ∙ ap (λ (b : Bool). mark_at old k || b) (sym y))))
  | inr m ↦ (let d : (k ≡ n) → ⊥ = λ e. (let bad : true ≡ false = sym (eq-eqb k n e) ∙ m in cc) in
      set_other marks n k d ∙ (same k ∙ (or_false (mark_at old k) ∙ ap (λ (b : Bool). mark_at old k || b) (sym m))))
]

-- no mark
pub on_none : AreOn [] []
on_none zero = refl
on_none (suc k) = refl

-- marks on one number more
pub on_more : (classes : List ℕ) (x : ℕ) (old new : List Bool) → AreOn classes old → IsMarked old x new → AreOn (classes ++ x ∷ []) new
on_more classes x old new on marked k = marked k ∙ (ap (λ (b : Bool). b || nat_eq k x) (on k) ∙ sym (among_last k classes x))
