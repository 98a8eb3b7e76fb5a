-- What counts as an IN of literals is what the binder makes of one.
use Rattle.std.proofs.Common.{◌≡◌, ◌+◌, ◌-◌, ◌/◌, ◌<◌, ◌≤◌, ℕ, zero, suc, true, List, [], ◌∷◌, ◌++◌, map, length, take, drop, ◌&&◌, ◌||◌, nat_eq, Option, None, Some, refl, sym, ap, subst, ◌∙◌, arith, length-append}
use Rattle.cq_value.proofs.Truths.{and_both, same_number}
use Rattle.cq_value.specs.declared.value.Value.{Value}
use Rattle.cq_tree.specs.declared.expression.Op.TheVariants.{Eq}
use Rattle.cq_tree.specs.declared.expression.Expr.{Expr, Literal, Column}
use Rattle.cq_tree.specs.declared.expression.Cond.{Cond, Compare, Or, Or', end_of-Cond, more_of-Cond, roll-Cond, out-Cond, roll-out-Cond}
use Rattle.cq_tree.specs.declared.expression.Cond.TheBlock.{shown-the_row-Cond-0}
use denote.Hole.Carrier.{roll, out, shown}
use Rattle.cq_meaning.specs.Chains.{halves}
use Rattle.cq_planning.specs.Conjuncts.{column_of, literal_of, both_of, one_value, both_halves, in_list}
use Rattle.cq_planning_laws.specs.Laws.{InsAreExact}
use Rattle.cq_planning_laws.proofs.Halves.{equal_to, in_is_found}
use Rattle.cq_planning_laws.proofs.Rows.{both_found, chosen}

-- equalities on one column, at least one, halved in so many steps at least as they need
abbrev IsHalved : Cond → ℕ × List Value → Type 0
IsHalved c p = (0 < length p.1) × ((most : ℕ) → length p.1 ≤ suc most → c ≡ halves most true (map (equal_to p.0) p.1))

-- ---- one equality

column_is : (e : Expr) (x : ℕ) → column_of e ≡ Some x → e ≡ Column x
column_is (Column y) x h = let f : y ≡ x = cc in ap Column f
column_is _ x h = cc

literal_is : (e : Expr) (v : Value) → literal_of e ≡ Some v → e ≡ Literal v
literal_is (Literal w) v h = let f : w ≡ v = cc in ap Literal f
literal_is _ v h = cc

one_halved : (a b : Expr) (o : Option (ℕ × Value)) (p : ℕ × List Value) → both_of (column_of a) (literal_of b) ≡ o → one_value o ≡ Some p → IsHalved (Compare Eq a b) p
one_halved a b None p is e = cc
one_halved a b (Some q) p is e =
    let f : (column_of a ≡ Some q.0) × (literal_of b ≡ Some q.1) = both_found (column_of a) (literal_of b) q is in
    let g : (q.0, q.1 ∷ []) ≡ p = cc in
    let made : Compare Eq a b ≡ equal_to q.0 q.1 = (λ i. Compare Eq (column_is a q.0 f.0 i) (literal_is b q.1 f.1 i)) in
    subst (IsHalved (Compare Eq a b)) g (omega arith, λ most few. made)

-- ---- two halves

taken : (f : Value → Cond) (us ws : List Value) → take (length us) (map f (us ++ ws)) ≡ map f us
taken f [] ws = refl
taken f (u ∷ us) ws = ap (λ cs. f u ∷ cs) (taken f us ws)

dropped : (f : Value → Cond) (us ws : List Value) → drop (length us) (map f (us ++ ws)) ≡ map f ws
dropped f [] ws = refl
dropped f (u ∷ us) ws = dropped f us ws

long : (f : Value → Cond) (vs : List Value) → length (map f vs) ≡ length vs
long f [] = refl
long f (v ∷ vs) = ap suc (long f vs)

abbrev half : List Cond → ℕ
half cs = length cs - length cs / 2

in_halves : (most : ℕ) (cs : List Cond) → 2 ≤ length cs → halves (suc most) true cs ≡ Or (halves most true (take (half cs) cs)) (halves most true (drop (half cs) cs))
in_halves most [] h = absurd (omega (arith, h))
in_halves most (c ∷ []) h = absurd (omega (arith, h))
in_halves most (c ∷ (d ∷ cs)) h = refl

even : (m n k : ℕ) → (nat_eq m n || nat_eq m (suc n)) ≡ true → k ≡ m + n → k - k / 2 ≡ m
even m n k t e = grind arith

or_halved : (a b : Cond) (x : ℕ) (us ws : List Value) → (nat_eq (length us) (length ws) || nat_eq (length us) (suc (length ws))) ≡ true → IsHalved a (x, us) → IsHalved b (x, ws) → IsHalved (Or a b) (x, us ++ ws)
or_halved a b x us ws even_parts l r = (omega (arith, both, left, right), by_steps)
  where
    both : length (us ++ ws) ≡ length us + length ws
    both = length-append us ws

    left : 0 < length us
    left = l.0

    right : 0 < length ws
    right = r.0

    by_steps : (most : ℕ) → length (us ++ ws) ≤ suc most → Or a b ≡ halves most true (map (equal_to x) (us ++ ws))
    by_steps zero few = absurd (omega (arith, both, left, right, few))
    by_steps (suc most) few =
        let cs : List Cond = map (equal_to x) (us ++ ws) in
        let count : length cs ≡ length us + length ws = long (equal_to x) (us ++ ws) ∙ both in
        let at : half cs ≡ length us = even (length us) (length ws) (length cs) even_parts count in
        let first : take (half cs) cs ≡ map (equal_to x) us = ap (λ k. take k cs) at ∙ taken (equal_to x) us ws in
        let second : drop (half cs) cs ≡ map (equal_to x) ws = ap (λ k. drop k cs) at ∙ dropped (equal_to x) us ws in
        let made_left : a ≡ halves most true (map (equal_to x) us) = l.1 most (omega (arith, both, right, few)) in
        let made_right : b ≡ halves most true (map (equal_to x) ws) = r.1 most (omega (arith, both, left, few)) in
        (λ i. Or (made_left i) (made_right i))
        ∙ (λ i. Or (halves most true (sym first i)) (halves most true (sym second i)))
        ∙ sym (in_halves most cs (omega (arith, count, left, right)))

halves_found : (a b : Cond) (m n : Option (ℕ × List Value)) (p : ℕ × List Value) → both_halves m n ≡ Some p →
    ((q : ℕ × List Value) → m ≡ Some q → IsHalved a q) → ((q : ℕ × List Value) → n ≡ Some q → IsHalved b q) → IsHalved (Or a b) p
halves_found a b (Some m) (Some n) p e left right =
    let f : ((nat_eq m.0 n.0 && (nat_eq (length m.1) (length n.1) || nat_eq (length m.1) (suc (length n.1)))) ≡ true) × ((m.0, m.1 ++ n.1) ≡ p) = chosen _ _ p e in
    let g : (nat_eq m.0 n.0 ≡ true) × ((nat_eq (length m.1) (length n.1) || nat_eq (length m.1) (suc (length n.1))) ≡ true) = and_both _ _ f.0 in
    let r : IsHalved b (m.0, n.1) = subst (λ x. IsHalved b (x, n.1)) (sym (same_number m.0 n.0 g.0)) (right n refl) in
    subst (IsHalved (Or a b)) f.1 (or_halved a b m.0 m.1 n.1 g.1 (left m refl) r)
halves_found a b (Some m) None p e left right = cc
halves_found a b None n p e left right = cc

in_halved : (c : Cond) (p : ℕ × List Value) → in_list c ≡ Some p → IsHalved c p
unfolding roll-Cond roll out-Cond out shown-the_row-Cond-0 shown
in_halved (Compare Eq a b) p e = one_halved a b (both_of (column_of a) (literal_of b)) p refl e
in_halved (Or' r (more_of-Cond a end_of-Cond) s (more_of-Cond b end_of-Cond)) p e =
    subst (λ c. IsHalved c p) (roll-out-Cond (Or' r (more_of-Cond a end_of-Cond) s (more_of-Cond b end_of-Cond)))
    (halves_found a b (in_list a) (in_list b) p e (λ q f. in_halved a q f) (λ q f. in_halved b q f))
in_halved _ p e = cc

pub ins_are_exact : InsAreExact
ins_are_exact c x [] = (λ e. (let some = (in_halved c (x, []) e).0 in omega (arith, some)), λ h. absurd h)
ins_are_exact c x (v ∷ vs) = (
  λ e. (in_halved c (x, v ∷ vs) e).1 (length (map (equal_to x) (v ∷ vs))) (let same = long (equal_to x) (v ∷ vs) in omega (arith, same)),
  λ e. ap in_list e ∙ in_is_found x v vs,
)
