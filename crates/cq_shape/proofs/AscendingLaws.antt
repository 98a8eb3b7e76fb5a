-- A sorted list in which equal values are put together is the ascending one.
use Rattle.std.proofs.Common.{◌≡◌, ℕ, zero, suc, ◌+◌, ◌≤◌, Bool, true, false, cond, List, [], ◌∷◌, ◌++◌, fold, length, get_or, refl, sym, ap, subst, ◌∙◌, arith, append_assoc, Ordering, Less, Equal, Greater}
use Rattle.std.specs.Ordering.{is_lt, is_eq, ordering_reverse}
use Rattle.std.proofs.lemmas.Cmp.{tied_itself}
use Rattle.cq_value.specs.declared.value.Value.{Value}
use Rattle.cq_value.specs.Order.{value_cmp}
use Rattle.cq_value.proofs.OrderLaws.{value_cmp_total, value_cmp_same}
use Rattle.cq_meaning.specs.Values.{same_value}
use Rattle.cq_meaning.specs.Sorting.{placed, sorted}
use Rattle.cq_planning.specs.ValueSets.{put_value, ascending}
use Rattle.cq_shape.specs.Ascending.{ends_with, with_next, each_once, in_front, once_from_behind}

-- ---- the order

itself_same : (v : Value) → same_value v v ≡ true
itself_same v = ap is_eq (tied_itself value_cmp_total v)

equal_order : (o : Ordering) → is_eq o ≡ true → o ≡ Equal
equal_order Less e = cc
equal_order Equal e = refl
equal_order Greater e = cc

same_is : (v w : Value) → same_value v w ≡ true → v ≡ w
same_is v w e = (value_cmp_same v w).0 (equal_order (value_cmp v w) e)

below_apart : (o : Ordering) → is_lt o ≡ true → (is_eq o ≡ false) × (is_eq (ordering_reverse o) ≡ false) × (is_lt (ordering_reverse o) ≡ false)
below_apart Less e = (refl, refl, refl)
below_apart Equal e = cc
below_apart Greater e = cc

above : (o : Ordering) → is_lt o ≡ false → is_eq (ordering_reverse o) ≡ false → is_lt (ordering_reverse o) ≡ true
above Less e f = cc
above Equal e f = cc
above Greater e f = refl

turned : (v w : Value) → value_cmp v w ≡ ordering_reverse (value_cmp w v)
turned v w = value_cmp_total.antisymm v w

-- ---- equal values put together from either end

front_itself : (v : Value) (ws : List Value) → in_front v (in_front v ws) ≡ in_front v ws
front_itself v [] = rw (itself_same v) refl
front_itself v (w ∷ ws) = elim (same_value v w) as (λ b. same_value v w ≡ b → in_front v (cond b (w ∷ ws) (v ∷ (w ∷ ws))) ≡ cond b (w ∷ ws) (v ∷ (w ∷ ws))) [
  | true ↦ (λ e. rw e refl)
  | false ↦ (λ e. rw (itself_same v) refl)
] refl

front_first : (v : Value) (ws : List Value) → (us : List Value) × (in_front v ws ≡ v ∷ us)
front_first v [] = ([], refl)
front_first v (w ∷ ws) = elim (same_value v w) as (λ b. same_value v w ≡ b → (us : List Value) × (cond b (w ∷ ws) (v ∷ (w ∷ ws)) ≡ v ∷ us)) [
  | true ↦ (λ e. (ws, ap (λ u. u ∷ ws) (sym (same_is v w e))))
  | false ↦ (λ e. (w ∷ ws, refl))
] refl

last_is : (acc : List Value) (v x : Value) → ends_with (acc ++ v ∷ []) x ≡ same_value v x
last_is [] v x = refl
last_is (a ∷ []) v x = refl
last_is (a ∷ (b ∷ bs)) v x = last_is (b ∷ bs) v x

go_on : (acc : List Value) (v : Value) (xs : List Value) → fold with_next (acc ++ v ∷ []) xs ≡ acc ++ once_from_behind (v ∷ xs)
go_on acc v [] = refl
go_on acc v (x ∷ xs) = rw (last_is acc v x) (elim (same_value v x) as (λ b. same_value v x ≡ b → fold with_next (cond b (acc ++ v ∷ []) ((acc ++ v ∷ []) ++ x ∷ [])) xs ≡ acc ++ in_front v (in_front x (once_from_behind xs))) [
  | true ↦ (λ e. go_on acc v xs ∙ ap (λ (us : List Value). acc ++ us) (sym (subst (λ y. in_front v (in_front y (once_from_behind xs)) ≡ in_front v (once_from_behind xs)) (same_is v x e) (front_itself v (once_from_behind xs)))))
  | false ↦ (λ e. go_on (acc ++ v ∷ []) x xs ∙ apart e (front_first x (once_from_behind xs)))
] refl)
  where
    apart : same_value v x ≡ false → ((us : List Value) × (in_front x (once_from_behind xs) ≡ x ∷ us)) → (acc ++ v ∷ []) ++ in_front x (once_from_behind xs) ≡ acc ++ in_front v (in_front x (once_from_behind xs))
    apart e p = rw (p.1, e, append_assoc) refl

pub from_behind : (xs : List Value) → each_once xs ≡ once_from_behind xs
from_behind [] = refl
from_behind (x ∷ xs) = go_on [] x xs

-- ---- a value put at its place

between : (y v w : Value) (ws : List Value) → same_value y w ≡ false → same_value y v ≡ false → in_front y (put_value v (w ∷ ws)) ≡ y ∷ put_value v (w ∷ ws)
between y v w ws p q = elim (same_value v w) as (λ b. in_front y (cond b (w ∷ ws) (cond (is_lt (value_cmp v w)) (v ∷ (w ∷ ws)) (w ∷ put_value v ws))) ≡ y ∷ cond b (w ∷ ws) (cond (is_lt (value_cmp v w)) (v ∷ (w ∷ ws)) (w ∷ put_value v ws))) [
  | true ↦ rw p refl
  | false ↦ elim (is_lt (value_cmp v w)) as (λ b. in_front y (cond b (v ∷ (w ∷ ws)) (w ∷ put_value v ws)) ≡ y ∷ cond b (v ∷ (w ∷ ws)) (w ∷ put_value v ws)) [ true ↦ rw q refl | false ↦ rw p refl ]
]

put_behind : (v y : Value) (ws : List Value) → same_value v y ≡ false → is_lt (value_cmp v y) ≡ false → put_value v (y ∷ ws) ≡ y ∷ put_value v ws
put_behind v y ws p q = rw (p, q) refl

front_then_put : (v y : Value) (ws : List Value) → same_value y v ≡ false → same_value v y ≡ false → is_lt (value_cmp v y) ≡ false → in_front y (put_value v ws) ≡ put_value v (in_front y ws)
front_then_put v y [] p q r = rw (p, q, r) refl
front_then_put v y (w ∷ ws) p q r = elim (same_value y w) as (λ b. same_value y w ≡ b → in_front y (put_value v (w ∷ ws)) ≡ put_value v (cond b (w ∷ ws) (y ∷ (w ∷ ws)))) [
  | true ↦ (λ e. subst (λ u. in_front y (put_value v (u ∷ ws)) ≡ put_value v (u ∷ ws)) (same_is y w e) (rw (put_behind v y ws q r, itself_same y) refl))
  | false ↦ (λ e. between y v w ws e p ∙ sym (put_behind v y (w ∷ ws) q r))
] refl

put_first : (v y : Value) (us : List Value) → (same_value v y ≡ false → is_lt (value_cmp v y) ≡ true) → in_front v (y ∷ us) ≡ put_value v (y ∷ us)
put_first v y us h = elim (same_value v y) as (λ b. same_value v y ≡ b → cond b (y ∷ us) (v ∷ (y ∷ us)) ≡ cond b (y ∷ us) (cond (is_lt (value_cmp v y)) (v ∷ (y ∷ us)) (y ∷ put_value v us))) [
  | true ↦ (λ e. refl)
  | false ↦ (λ e. rw (h e) refl)
] refl

lt : Value → Value → Bool
lt x y = is_lt (value_cmp x y)

placed_once : (v : Value) (ys : List Value) → once_from_behind (placed (λ x y. is_lt (value_cmp x y)) v ys) ≡ put_value v (once_from_behind ys)
placed_once v [] = refl
placed_once v (y ∷ ys) = elim (is_lt (value_cmp y v)) as (λ b. is_lt (value_cmp y v) ≡ b → once_from_behind (cond b (y ∷ placed (λ x y. is_lt (value_cmp x y)) v ys) (v ∷ (y ∷ ys))) ≡ put_value v (in_front y (once_from_behind ys))) [
  | true ↦ (λ e. ap (in_front y) (placed_once v ys) ∙ front_then_put v y (once_from_behind ys) (below_apart (value_cmp y v) e).0 (ap is_eq (turned v y) ∙ (below_apart (value_cmp y v) e).1) (ap is_lt (turned v y) ∙ (below_apart (value_cmp y v) e).2))
  | false ↦ (λ e. first e (front_first y (once_from_behind ys)))
] refl
  where
    first : is_lt (value_cmp y v) ≡ false → ((us : List Value) × (in_front y (once_from_behind ys) ≡ y ∷ us)) → in_front v (in_front y (once_from_behind ys)) ≡ put_value v (in_front y (once_from_behind ys))
    first e p = rw p.1 (put_first v y p.0 (λ f. ap is_lt (turned v y) ∙ above (value_cmp y v) e (sym (ap is_eq (turned v y)) ∙ f)))

sorted_once : (xs : List Value) → once_from_behind (sorted value_cmp xs) ≡ ascending xs
sorted_once [] = refl
sorted_once (x ∷ xs) = placed_once x (sorted value_cmp xs) ∙ ap (put_value x) (sorted_once xs)

pub once_is : (xs : List Value) → each_once (sorted value_cmp xs) ≡ ascending xs
once_is xs = from_behind (sorted value_cmp xs) ∙ sorted_once xs

-- one value is in order
pub few_are : (xs : List Value) → length xs ≤ 1 → xs ≡ ascending xs
few_are [] h = refl
few_are (x ∷ []) h = refl
few_are (x ∷ (y ∷ ys)) h = absurd (omega arith)

pub last_at : (xs : List Value) (v : Value) (k : ℕ) (d : Value) → k + 1 ≡ length xs → ends_with xs v ≡ same_value (get_or xs k d) v
last_at [] v k d h = absurd (omega arith)
last_at (x ∷ []) v k d h = let e : k ≡ 0 = omega arith in rw e refl
last_at (x ∷ (y ∷ ys)) v zero d h = absurd (omega arith)
last_at (x ∷ (y ∷ ys)) v (suc k) d h = last_at (y ∷ ys) v k d (omega arith)
