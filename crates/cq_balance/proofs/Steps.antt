-- What is known of the move that is made next.
use Rattle.std.proofs.Common.{◌≡◌, ◌≢◌, ◌∙◌, ℕ, zero, suc, ◌-◌, ◌<◌, ◌≤◌, ◌⊎◌, inl, inr, Bool, true, false, ◌&&◌, if◌then◌else◌, nat_eq, nat_lt, Option, Some, None, List, [], ◌∷◌, refl, sym, ap, subst, filter, arith}
use Rattle.std.specs.List.{fold}
use Rattle.std.proofs.lemmas.Bool.{ltb-true, ltb-false}
use Rattle.std.proofs.lemmas.Bool.Decides.{eqb_tells}
use Rattle.cq_value.proofs.Truths.{and_both, same_number}
use Rattle.cq_balance.specs.declared.load.Load.{Load}
use Rattle.cq_balance.specs.declared.load.Move.{Move}
use Rattle.cq_balance.specs.Greedy.{load_of, fullest, emptiest, can_move, goes_before, first_of, chosen, moving, next_move, moved, squares}
use Rattle.cq_balance.specs.Laws.{AreDistinct}
use Rattle.cq_balance.proofs.Sizes.{Has, squares_lower}

-- the fullest node has the greatest load, and is one of the nodes
pub fullest_most : (ls : List Load) (nodes n : ℕ) → 0 < n → n ≤ nodes → load_of ls n ≤ load_of ls (fullest ls nodes)
fullest_most ls zero n some low = absurd (omega arith)
fullest_most ls (suc k) n some low = by (nat_lt (load_of ls (fullest ls k)) (load_of ls (suc k))) refl (λ fits. fullest_most ls k n some fits)
  where
    by : (b : Bool) → nat_lt (load_of ls (fullest ls k)) (load_of ls (suc k)) ≡ b → ((n ≤ k) → load_of ls n ≤ load_of ls (fullest ls k)) → load_of ls n ≤ load_of ls (if b then suc k else fullest ls k)
    by true e f = elim (eqb_tells n (suc k)) [
      | inl p ↦ (let same : load_of ls n ≡ load_of ls (suc k) = ap (load_of ls) p.1 in omega (arith, same))
      | inr p ↦ (let less = ltb-true (load_of ls (fullest ls k)) (load_of ls (suc k)) e in let rest = f (omega (arith, low, p.1)) in omega (arith, less, rest))
    ]
    by false e f = elim (eqb_tells n (suc k)) [
      | inl p ↦ (let same : load_of ls n ≡ load_of ls (suc k) = ap (load_of ls) p.1 in let less = ltb-false (load_of ls (fullest ls k)) (load_of ls (suc k)) e in omega (arith, same, less))
      | inr p ↦ f (omega (arith, low, p.1))
    ]

pub fullest_within : (ls : List Load) (nodes : ℕ) → (0 < fullest ls nodes) × (0 < nodes → fullest ls nodes ≤ nodes)
fullest_within ls zero = (omega arith, λ low. absurd (omega (arith, low)))
fullest_within ls (suc k) = by (nat_lt (load_of ls (fullest ls k)) (load_of ls (suc k))) (fullest_within ls k)
  where
    below : (k : ℕ) → (0 < fullest ls k) × (0 < k → fullest ls k ≤ k) → fullest ls k ≤ suc k
    below zero h = omega arith
    below (suc k) h = let low = h.1 (omega arith) in omega (arith, low)

    by : (b : Bool) → (0 < fullest ls k) × (0 < k → fullest ls k ≤ k) → (0 < (if b then suc k else fullest ls k)) × (0 < suc k → (if b then suc k else fullest ls k) ≤ suc k)
    by true rest = (omega arith, λ low. omega arith)
    by false rest = (rest.0, λ low. below k rest)

-- the emptiest has the least load, and is one of the nodes
pub emptiest_least : (ls : List Load) (nodes n : ℕ) → 0 < n → n ≤ nodes → load_of ls (emptiest ls nodes) ≤ load_of ls n
emptiest_least ls zero n some low = absurd (omega arith)
emptiest_least ls (suc k) n some low = by (nat_lt (load_of ls (suc k)) (load_of ls (emptiest ls k))) refl (λ fits. emptiest_least ls k n some fits)
  where
    by : (b : Bool) → nat_lt (load_of ls (suc k)) (load_of ls (emptiest ls k)) ≡ b → ((n ≤ k) → load_of ls (emptiest ls k) ≤ load_of ls n) → load_of ls (if b then suc k else emptiest ls k) ≤ load_of ls n
    by true e f = elim (eqb_tells n (suc k)) [
      | inl p ↦ (let same : load_of ls n ≡ load_of ls (suc k) = ap (load_of ls) p.1 in omega (arith, same))
      | inr p ↦ (let less = ltb-true (load_of ls (suc k)) (load_of ls (emptiest ls k)) e in let rest = f (omega (arith, low, p.1)) in omega (arith, less, rest))
    ]
    by false e f = elim (eqb_tells n (suc k)) [
      | inl p ↦ (let same : load_of ls n ≡ load_of ls (suc k) = ap (load_of ls) p.1 in let less = ltb-false (load_of ls (suc k)) (load_of ls (emptiest ls k)) e in omega (arith, same, less))
      | inr p ↦ f (omega (arith, low, p.1))
    ]

pub emptiest_within : (ls : List Load) (nodes : ℕ) → (0 < emptiest ls nodes) × (0 < nodes → emptiest ls nodes ≤ nodes)
emptiest_within ls zero = (omega arith, λ low. absurd (omega (arith, low)))
emptiest_within ls (suc k) = by (nat_lt (load_of ls (suc k)) (load_of ls (emptiest ls k))) (emptiest_within ls k)
  where
    below : (k : ℕ) → (0 < emptiest ls k) × (0 < k → emptiest ls k ≤ k) → emptiest ls k ≤ suc k
    below zero h = omega arith
    below (suc k) h = let low = h.1 (omega arith) in omega (arith, low)

    by : (b : Bool) → (0 < emptiest ls k) × (0 < k → emptiest ls k ≤ k) → (0 < (if b then suc k else emptiest ls k)) × (0 < suc k → (if b then suc k else emptiest ls k) ≤ suc k)
    by true rest = (omega arith, λ low. omega arith)
    by false rest = (rest.0, λ low. below k rest)

-- a group that is chosen is among those that can go
first_of_either : (best : Option Load) (x l : Load) → first_of best x ≡ Some l → (best ≡ Some l) ⊎ (x ≡ l)
first_of_either None x l e = inr (let same : x ≡ l = cc e in same)
first_of_either (Some b) x l e = by (goes_before x b) e
  where
    by : (t : Bool) → (if t then Some x else Some b) ≡ Some l → (Some b ≡ Some l) ⊎ (x ≡ l)
    by true e = inr (let same : x ≡ l = cc e in same)
    by false e = inl e

chosen_has : (p : Load → Bool) (ls : List Load) (best : Option Load) (l : Load) → fold first_of best (filter p ls) ≡ Some l → (best ≡ Some l) ⊎ (Has ls l × (p l ≡ true))
chosen_has p [] best l e = inl e
chosen_has p (x ∷ ls) best l e = by (p x) refl e (λ b. chosen_has p ls b l)
  where
    here : p x ≡ true → (first_of best x ≡ Some l) ⊎ (Has ls l × (p l ≡ true)) → (best ≡ Some l) ⊎ (Has (x ∷ ls) l × (p l ≡ true))
    here t (inl k) = elim (first_of_either best x l k) [ inl same ↦ inl same | inr same ↦ inr (inl same, subst (λ z. p z ≡ true) same t) ]
    here t (inr k) = inr (inr k.0, k.1)

    there : (best ≡ Some l) ⊎ (Has ls l × (p l ≡ true)) → (best ≡ Some l) ⊎ (Has (x ∷ ls) l × (p l ≡ true))
    there (inl k) = inl k
    there (inr k) = inr (inr k.0, k.1)

    by : (b : Bool) → p x ≡ b → fold first_of best (if b then x ∷ filter p ls else filter p ls) ≡ Some l → ((b : Option Load) → fold first_of b (filter p ls) ≡ Some l → (b ≡ Some l) ⊎ (Has ls l × (p l ≡ true))) → (best ≡ Some l) ⊎ (Has (x ∷ ls) l × (p l ≡ true))
    by true t e f = here t (f (first_of best x) e)
    by false t e f = there (f best e)

-- where one can go, one is chosen
first_of_some : (best : Option Load) (x : Load) → (l : Load) × (first_of best x ≡ Some l)
first_of_some None x = (x, refl)
first_of_some (Some b) x = by (goes_before x b)
  where
    by : (t : Bool) → (l : Load) × ((if t then Some x else Some b) ≡ Some l)
    by true = (x, refl)
    by false = (b, refl)

stays_some : (ls : List Load) (b : Load) → fold first_of (Some b) ls ≡ None → ⊥
stays_some [] b e = cc e
stays_some (x ∷ ls) b e = let next = first_of_some (Some b) x in stays_some ls next.0 (subst (λ o. fold first_of o ls ≡ None) next.1 e)

some_chosen : (p : Load → Bool) (ls : List Load) (best : Option Load) (l : Load) → Has ls l → p l ≡ true → fold first_of best (filter p ls) ≡ None → ⊥
some_chosen p [] best l h t e = h
some_chosen p (x ∷ ls) best l (inl same) t e =
    let there : p x ≡ true = subst (λ z. p z ≡ true) (sym same) t in
    let next = first_of_some best x in
    stays_some (filter p ls) next.0 (subst (λ o. fold first_of o (filter p ls) ≡ None) next.1 (subst (λ b. fold first_of best (if b then x ∷ filter p ls else filter p ls) ≡ None) there e))
some_chosen p (x ∷ ls) best l (inr h) t e = by (p x) e (λ b. some_chosen p ls b l h t)
  where
    by : (b : Bool) → fold first_of best (if b then x ∷ filter p ls else filter p ls) ≡ None → ((b : Option Load) → fold first_of b (filter p ls) ≡ None → ⊥) → ⊥
    by true e f = f (first_of best x) e
    by false e f = f best e

pub none_chosen : (ls : List Load) (from to : ℕ) (l : Load) → Has ls l → can_move ls from to l ≡ true → chosen ls from to ≡ None → ⊥
none_chosen ls from to l h t e = some_chosen (can_move ls from to) ls None l h t e

-- a move takes a group that is there from the fullest node to the emptiest
pub record IsNext (ls : List Load) (nodes : ℕ) (m : Move) : Type 0 where
  pub load : Load
  pub there : Has ls load
  pub group : load.group ≡ m.group
  pub from : load.node ≡ fullest ls nodes
  pub to : m.to ≡ emptiest ls nodes
  pub some : 0 < load.size
  pub below : load.size < load_of ls (fullest ls nodes) - load_of ls (emptiest ls nodes)

pub next_is : (ls : List Load) (nodes : ℕ) (m : Move) → next_move ls nodes ≡ Some m → IsNext ls nodes m
next_is ls nodes m e = by (chosen ls (fullest ls nodes) (emptiest ls nodes)) refl e
  where
    by : (o : Option Load) → chosen ls (fullest ls nodes) (emptiest ls nodes) ≡ o → moving (fullest ls nodes) (emptiest ls nodes) o ≡ Some m → IsNext ls nodes m
    by None c e = absurd (cc e)
    by (Some l) c e =
        let f = fullest ls nodes in
        let t = emptiest ls nodes in
        let made : record { group = l.group; from = f; to = t; size = l.size } ≡ m = cc e in
        elim (chosen_has (can_move ls f t) ls None l c) [
          | inl k ↦ absurd (cc k)
          | inr k ↦ (
              let one = and_both (nat_eq l.node f) (nat_lt 0 l.size && nat_lt l.size (load_of ls f - load_of ls t)) k.1 in
              let two = and_both (nat_lt 0 l.size) (nat_lt l.size (load_of ls f - load_of ls t)) one.1 in
              record {
                load = l;
                there = k.0;
                group = ap (λ (n : Move). n.group) made;
                from = same_number l.node f one.0;
                to = sym (ap (λ (n : Move). n.to) made);
                some = ltb-true 0 l.size two.0;
                below = ltb-true l.size (load_of ls f - load_of ls t) two.1;
              })
        ]

-- each move lowers the sum of the squares
pub next_lowers : (ls : List Load) (nodes : ℕ) (m : Move) → AreDistinct ls → next_move ls nodes ≡ Some m → squares (moved ls m) nodes < squares ls nodes
next_lowers ls zero m d e =
    let n = next_is ls zero m e in
    absurd (let none = n.below in omega (arith, none))
next_lowers ls (suc k) m d e =
    let n = next_is ls (suc k) m e in
    let full = fullest_within ls (suc k) in
    let empty = emptiest_within ls (suc k) in
    let apart : n.load.node ≢ m.to = λ same. (
    let here : load_of ls (fullest ls (suc k)) ≡ load_of ls (emptiest ls (suc k)) = ap (load_of ls) (sym n.from ∙ same ∙ n.to) in
    let none = n.below in
    omega (arith, none, here)) in
    let high = full.1 (omega arith) in
    let low = empty.1 (omega arith) in
    let f : load_of ls n.load.node ≡ load_of ls (fullest ls (suc k)) = ap (load_of ls) n.from in
    let t : load_of ls m.to ≡ load_of ls (emptiest ls (suc k)) = ap (load_of ls) n.to in
    let below = n.below in
    let one = n.from in
    let two = n.to in
    squares_lower ls m n.load d n.there n.group apart (suc k) (omega (arith, one, full.0)) (omega (arith, one, high)) (omega (arith, two, empty.0)) (omega (arith, two, low)) n.some
    (omega (arith, f, t, below))
