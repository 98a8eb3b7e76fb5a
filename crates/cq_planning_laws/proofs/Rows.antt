-- What a row that a condition keeps says of its columns.
use Rattle.std.proofs.Common.{◌≡◌, ℕ, suc, List, [], ◌∷◌, ◌++◌, filter, fold, length, Bool, true, false, cond, ◌&&◌, ◌||◌, if◌then◌else◌, nat_eq, min, max, Option, None, Some, refl, sym, ap, ◌∙◌, arith, ◌⊎◌, inl, inr, filter_map, option_map, subst}
use Rattle.std.specs.List.{list_any, cons_option, AllByRecursion}
use Rattle.std.specs.declared.cmp.Ordering.{Ordering}
use Rattle.std.specs.declared.cmp.Ordering.TheVariants.{Less, Equal, Greater}
use Rattle.std.proofs.lemmas.Bool.Decides.{eqb_tells}
use Rattle.cq_value.proofs.Lists.{all_append}
use Rattle.cq_value.proofs.Truths.{and_both, same_number, two_ways}
use Rattle.cq_value.specs.declared.value.Value.{Value}
use Rattle.cq_value.specs.declared.value.Value.TheVariants.{Null, Int, Text}
use Rattle.cq_value.specs.declared.value.Truth.{Truth}
use Rattle.cq_value.specs.declared.value.Truth.TheVariants.{Yes, No, Unknown}
use Rattle.cq_value.specs.Order.{compared, value_cmp}
use Rattle.cq_tree.specs.declared.expression.Op.TheVariants.{Eq, Ne, Lt, Le, Gt, Ge}
use Rattle.cq_tree.specs.declared.expression.Expr.{Expr, Literal, Column}
use Rattle.cq_tree.specs.declared.expression.Cond.{Cond, Compare, IsNull, InResult, And', Or', Not', Always, end_of-Cond, more_of-Cond}
use Rattle.cq_meaning.specs.Values.{Row, Results, column, same_value}
use Rattle.cq_meaning.specs.Logic.{and_of, or_of, is_yes, met, meets}
use Rattle.cq_meaning.specs.Expressions.{value_of, truth_of, keeps}
use Rattle.cq_meaning.specs.Groups.{is_known}
use Rattle.cq_meaning.specs.Lists.{Has}
use Rattle.cq_meaning.proofs.RowLaws.{value_exact}
use Rattle.cq_value.proofs.OrderLaws.{value_cmp_same}
use Rattle.cq_planning.proofs.Ascending.{one_of, has_ascending}
use Rattle.cq_planning.specs.Classes.{merged, itself, first_of_class}
use Rattle.cq_planning.specs.Conjuncts.{conjuncts, column_of, literal_of, both_of, equality, both_halves, one_value, in_list, turned_equality, equalities}
use Rattle.cq_planning.specs.ValueSets.{ascending, or_else, known_values, values_said, sets_said, ValueSet, meet, met_by, value_set, has_value}

-- ---- truth

both_yes : (a b : Truth) → and_of a b ≡ Yes → (a ≡ Yes) × (b ≡ Yes)
both_yes Yes b e = (refl, e)
both_yes No b e = cc
both_yes Unknown Yes e = cc
both_yes Unknown No e = cc
both_yes Unknown Unknown e = cc

either_yes : (a b : Truth) → or_of a b ≡ Yes → (a ≡ Yes) ⊎ (b ≡ Yes)
either_yes Yes b e = inl refl
either_yes No b e = inr e
either_yes Unknown Yes e = inr refl
either_yes Unknown No e = cc
either_yes Unknown Unknown e = cc

pub yes_of : (t : Truth) → is_yes t ≡ true → t ≡ Yes
yes_of Yes e = refl
yes_of No e = cc
yes_of Unknown e = cc

equal_only : (o : Ordering) → meets Eq o ≡ Yes → o ≡ Equal
equal_only Less e = cc
equal_only Equal e = refl
equal_only Greater e = cc

-- values that `=` finds equal are one value, and not NULL
pub one : (u v : Value) → met Eq (compared u v) ≡ Yes → (u ≡ v) × (is_known u ≡ true)
one (Int x) (Int y) e = (value_exact (Int x) (Int y) (equal_only (value_cmp (Int x) (Int y)) e), refl)
one (Int x) (Text t) e = cc
one (Int x) Null e = cc
one (Text s) (Text t) e = (value_exact (Text s) (Text t) (equal_only (value_cmp (Text s) (Text t)) e), refl)
one (Text s) (Int y) e = cc
one (Text s) Null e = cc
one Null v e = cc

pub chosen : {X : Type 0} (b : Bool) (r p : X) → (if b then Some r else None) ≡ Some p → (b ≡ true) × (r ≡ p)
chosen true r p e = (refl, cc)
chosen false r p e = cc

pub both_found : {X Y : Type 0} (m : Option X) (n : Option Y) (p : X × Y) → both_of m n ≡ Some p → (m ≡ Some p.0) × (n ≡ Some p.1)
both_found (Some x) (Some y) p e = let f : (x, y) ≡ p = cc in (ap (λ q. Some q.0) f, ap (λ q. Some q.1) f)
both_found (Some x) None p e = cc
both_found None n p e = cc

pub has_append_left : {X : Type 0} (x : X) (xs ys : List X) → Has xs x → Has (xs ++ ys) x
has_append_left x [] ys h = absurd h
has_append_left x (y ∷ xs) ys (inl e) = inl e
has_append_left x (y ∷ xs) ys (inr h) = inr (has_append_left x xs ys h)

pub has_append_right : {X : Type 0} (x : X) (xs ys : List X) → Has ys x → Has (xs ++ ys) x
has_append_right x [] ys h = h
has_append_right x (y ∷ xs) ys h = inr (has_append_right x xs ys h)

pub has_filter : {X : Type 0} (p : X → Bool) (x : X) (xs : List X) → Has xs x → p x ≡ true → Has (filter p xs) x
has_filter p x [] h t = absurd h
has_filter p x (y ∷ xs) (inl e) t = let k : p y ≡ true = subst (λ z. p z ≡ true) (sym e) t in rw k (inl e)
has_filter p x (y ∷ xs) (inr h) t = elim (two_ways (p y)) [ inl k ↦ rw k (inr (has_filter p x xs h t)) | inr k ↦ rw k (has_filter p x xs h t) ]

-- ---- what a true condition says of the row

module _ (row : Row) where
  -- the columns have one value, which isn't NULL
  abbrev pub Agrees : ℕ × ℕ → Type 0
  Agrees e = (column row e.0 ≡ column row e.1) × (is_known (column row e.0) ≡ true)

  -- the value of the column is one of these, and not NULL
  abbrev pub IsOneOf : ℕ × List Value → Type 0
  IsOneOf p = Has p.1 (column row p.0) × (is_known (column row p.0) ≡ true)

  -- what a conjunct says
  abbrev pub Says : Cond → Type 0
  Says c = ((p : ℕ × ℕ) → equality c ≡ Some p → Agrees p) × ((p : ℕ × List Value) → values_said c ≡ Some p → IsOneOf p)

module _ (row : Row) (rs : Results) where
  abbrev pub Holds : Cond → Type 0
  Holds c = truth_of c row rs ≡ Yes

  each_conjunct : (c : Cond) → Holds c → AllByRecursion Holds (conjuncts c)
  each_conjunct (Compare op a b) h = (h, tt)
  each_conjunct (IsNull e) h = (h, tt)
  each_conjunct (InResult e i) h = (h, tt)
  each_conjunct (And' p (more_of-Cond a end_of-Cond) q (more_of-Cond b end_of-Cond)) h =
      let both : Holds a × Holds b = both_yes (truth_of a row rs) (truth_of b row rs) h in
      all_append Holds (conjuncts a) (conjuncts b) (each_conjunct a both.0) (each_conjunct b both.1)
  each_conjunct (Or' p a q b) h = (h, tt)
  each_conjunct (Not' p a) h = (h, tt)
  each_conjunct Always h = tt

  column_value : (e : Expr) (x : ℕ) → column_of e ≡ Some x → value_of e row rs ≡ column row x
  column_value (Column at) x e = let f : at ≡ x = cc in ap (column row) f
  column_value _ x e = cc

  literal_value : (e : Expr) (v : Value) → literal_of e ≡ Some v → value_of e row rs ≡ v
  literal_value (Literal w) v e = cc
  literal_value _ v e = cc

  equality_says : (c : Cond) (p : ℕ × ℕ) → equality c ≡ Some p → Holds c → Agrees row p
  equality_says (Compare Eq a b) p e h =
      let f : (column_of a ≡ Some p.0) × (column_of b ≡ Some p.1) = both_found (column_of a) (column_of b) p e in
      let o = one (value_of a row rs) (value_of b row rs) h in
      (sym (column_value a p.0 f.0) ∙ (o.0 ∙ column_value b p.1 f.1), ap is_known (sym (column_value a p.0 f.0)) ∙ o.1)
  equality_says (Compare Ne a b) p e h = cc
  equality_says (Compare Lt a b) p e h = cc
  equality_says (Compare Le a b) p e h = cc
  equality_says (Compare Gt a b) p e h = cc
  equality_says (Compare Ge a b) p e h = cc
  equality_says (IsNull a) p e h = cc
  equality_says (InResult a i) p e h = cc
  equality_says (And' r a q b) p e h = cc
  equality_says (Or' r a q b) p e h = cc
  equality_says (Not' r a) p e h = cc
  equality_says Always p e h = cc

  halved_among : (m n : Option (ℕ × List Value)) (p : ℕ × List Value) → both_halves m n ≡ Some p → (a b : Truth) → or_of a b ≡ Yes →
      ((q : ℕ × List Value) → m ≡ Some q → a ≡ Yes → IsOneOf row q) → ((q : ℕ × List Value) → n ≡ Some q → b ≡ Yes → IsOneOf row q) → IsOneOf row p
  halved_among (Some m) (Some n) p e a b h left right =
      let f : ((nat_eq m.0 n.0 && (nat_eq (length m.1) (length n.1) || nat_eq (length m.1) (suc (length n.1)))) ≡ true) × ((m.0, m.1 ++ n.1) ≡ p) = chosen _ _ p e in
      let g : (nat_eq m.0 n.0 ≡ true) × ((nat_eq (length m.1) (length n.1) || nat_eq (length m.1) (suc (length n.1))) ≡ true) = and_both _ _ f.0 in
      let k : m.0 ≡ n.0 = same_number m.0 n.0 g.0 in
      subst (IsOneOf row) f.1 (of_side (either_yes a b h) k)
    where
      of_side : (a ≡ Yes) ⊎ (b ≡ Yes) → m.0 ≡ n.0 → IsOneOf row (m.0, m.1 ++ n.1)
      of_side (inl y) k = let i : IsOneOf row m = left m refl y in (has_append_left (column row m.0) m.1 n.1 i.0, i.1)
      of_side (inr y) k = let i : IsOneOf row n = right n refl y in let j : IsOneOf row (m.0, n.1) = subst (λ z. IsOneOf row (z, n.1)) (sym k) i in (has_append_right (column row m.0) m.1 n.1 j.0, j.1)
  halved_among (Some m) None p e a b h left right = cc
  halved_among None n p e a b h left right = cc

  one_among : (a b : Expr) (p : ℕ × List Value) → one_value (both_of (column_of a) (literal_of b)) ≡ Some p → value_of a row rs ≡ value_of b row rs → is_known (value_of a row rs) ≡ true → IsOneOf row p
  one_among a b p e h n = of_found (both_of (column_of a) (literal_of b)) refl e
    where
      of_found : (o : Option (ℕ × Value)) → both_of (column_of a) (literal_of b) ≡ o → one_value o ≡ Some p → IsOneOf row p
      of_found None is e = cc
      of_found (Some q) is e =
          let f : (column_of a ≡ Some q.0) × (literal_of b ≡ Some q.1) = both_found (column_of a) (literal_of b) q is in
          let v : column row q.0 ≡ q.1 = sym (column_value a q.0 f.0) ∙ (h ∙ literal_value b q.1 f.1) in
          let g : (q.0, q.1 ∷ []) ≡ p = cc in
          let i : IsOneOf row (q.0, q.1 ∷ []) = (inl (sym v), ap is_known (sym (column_value a q.0 f.0)) ∙ n) in
          subst (IsOneOf row) g i

  in_among : (c : Cond) (p : ℕ × List Value) → in_list c ≡ Some p → Holds c → IsOneOf row p
  in_among (Compare Eq a b) p e h = let o = one (value_of a row rs) (value_of b row rs) h in one_among a b p e o.0 o.1
  in_among (Or' r (more_of-Cond a end_of-Cond) s (more_of-Cond b end_of-Cond)) p e h =
      halved_among (in_list a) (in_list b) p e (truth_of a row rs) (truth_of b row rs) h (λ q f y. in_among a q f y) (λ q f y. in_among b q f y)
  in_among _ p e h = cc

  turned_among : (c : Cond) (p : ℕ × List Value) → turned_equality c ≡ Some p → Holds c → IsOneOf row p
  turned_among (Compare Eq a b) p e h =
      let o = one (value_of a row rs) (value_of b row rs) h in one_among b a p e (sym o.0) (ap is_known (sym o.0) ∙ o.1)
  turned_among _ p e h = cc

  or_found : (m n : Option (ℕ × List Value)) (p : ℕ × List Value) → option_map known_values (or_else m n) ≡ Some p →
      ((q : ℕ × List Value) → m ≡ Some q → IsOneOf row q) → ((q : ℕ × List Value) → n ≡ Some q → IsOneOf row q) → IsOneOf row p
  or_found (Some m) n p e left right =
      let i : IsOneOf row m = left m refl in let f : (m.0, ascending (filter is_known m.1)) ≡ p = cc in
      subst (IsOneOf row) f (has_ascending (column row m.0) (filter is_known m.1) (has_filter is_known (column row m.0) m.1 i.0 i.1), i.1)
  or_found None (Some n) p e left right =
      let i : IsOneOf row n = right n refl in let f : (n.0, ascending (filter is_known n.1)) ≡ p = cc in
      subst (IsOneOf row) f (has_ascending (column row n.0) (filter is_known n.1) (has_filter is_known (column row n.0) n.1 i.0 i.1), i.1)
  or_found None None p e left right = cc

  said : (c : Cond) → Holds c → Says row c
  said c h = (
    λ p e. equality_says c p e h,
    λ p e. or_found (in_list c) (turned_equality c) p e (λ q f. in_among c q f h) (λ q f. turned_among c q f h),
  )

  all_said : (cs : List Cond) → AllByRecursion Holds cs → AllByRecursion (Says row) cs
  all_said [] h = tt
  all_said (c ∷ cs) h = (said c h.0, all_said cs h.1)

  -- each conjunct of a condition that keeps the row
  pub kept_says : (c : Cond) → keeps c rs row ≡ true → AllByRecursion (Says row) (conjuncts c)
  kept_says c k = all_said (conjuncts c) (each_conjunct c (yes_of (truth_of c row rs) k))

-- ---- classes and sets

module _ (row : Row) where
  pub pairs_agree : (cs : List Cond) → AllByRecursion (Says row) cs → AllByRecursion (Agrees row) (equalities cs)
  pairs_agree [] h = tt
  pairs_agree (c ∷ cs) h = with_option (equality c) refl (pairs_agree cs h.1)
    where
      with_option : (o : Option (ℕ × ℕ)) → equality c ≡ o → AllByRecursion (Agrees row) (filter_map equality cs) → AllByRecursion (Agrees row) (cons_option o (filter_map equality cs))
      with_option None e rest = rest
      with_option (Some p) e rest = (h.0.0 p e, rest)

  pub sets_agree : (cs : List Cond) → AllByRecursion (Says row) cs → AllByRecursion (IsOneOf row) (sets_said cs)
  sets_agree [] h = tt
  sets_agree (c ∷ cs) h = with_option (values_said c) refl (sets_agree cs h.1)
    where
      with_option : (o : Option (ℕ × List Value)) → values_said c ≡ o → AllByRecursion (IsOneOf row) (filter_map values_said cs) → AllByRecursion (IsOneOf row) (cons_option o (filter_map values_said cs))
      with_option None e rest = rest
      with_option (Some p) e rest = (h.0.1 p e, rest)

  -- a column has the value of the first column of its class
  merged_agrees : (first : ℕ → ℕ) (e : ℕ × ℕ) → ((x : ℕ) → column row x ≡ column row (first x)) → column row e.0 ≡ column row e.1 → (x : ℕ) → column row x ≡ column row (merged first e x)
  merged_agrees first e h a x = pick (nat_eq (first x) (max (first e.0) (first e.1))) refl
    where
      u : ℕ
      u = first e.0

      v : ℕ
      v = first e.1

      same : column row u ≡ column row v
      same = sym (h e.0) ∙ a ∙ h e.1

      least : column row (max u v) ≡ column row (min u v)
      least = elim (lesser u v) [
        | inl l ↦ ap (column row) l.0 ∙ sym same ∙ ap (column row) (sym l.1)
        | inr l ↦ ap (column row) l.0 ∙ same ∙ ap (column row) (sym l.1)
      ]
        where
          lesser : (m n : ℕ) → ((max m n ≡ n) × (min m n ≡ m)) ⊎ ((max m n ≡ m) × (min m n ≡ n))
          lesser m n = grind arith

      pick : (b : Bool) → nat_eq (first x) (max (first e.0) (first e.1)) ≡ b → column row x ≡ column row (cond b (min (first e.0) (first e.1)) (first x))
      pick false is = h x
      pick true is = h x ∙ ap (column row) (same_number _ _ is) ∙ least

  first_agrees : (pairs : List (ℕ × ℕ)) (first : ℕ → ℕ) → AllByRecursion (Agrees row) pairs → ((x : ℕ) → column row x ≡ column row (first x)) → (x : ℕ) → column row x ≡ column row (fold merged first pairs x)
  first_agrees [] first all h = h
  first_agrees (e ∷ pairs) first all h = first_agrees pairs (merged first e) all.1 (merged_agrees first e h all.0.0)

  -- columns of one class have one value
  pub class_agrees : (pairs : List (ℕ × ℕ)) → AllByRecursion (Agrees row) pairs → (x y : ℕ) → first_of_class pairs x ≡ first_of_class pairs y → column row x ≡ column row y
  class_agrees pairs all x y e = first_agrees pairs itself all (λ z. refl) x ∙ ap (column row) e ∙ sym (first_agrees pairs itself all (λ z. refl) y)

pub any_same : (v : Value) (vs : List Value) → Has vs v → list_any (same_value v) vs ≡ true
any_same v [] h = absurd h
any_same v (w ∷ vs) (inl e) = let k : value_cmp v w ≡ Equal = (value_cmp_same v w).1 (sym e) in rw k refl
any_same v (w ∷ vs) (inr h) = elim (two_ways (same_value v w)) [ inl y ↦ rw y refl | inr n ↦ rw n (any_same v vs h) ]

pub has_known : (v : Value) (vs : List Value) → is_known v ≡ true → list_any (same_value v) vs ≡ true → has_value (Some vs) v ≡ true
has_known Null vs k h = cc
has_known (Int n) vs k h = h
has_known (Text t) vs k h = h

pub known_has : (v : Value) (vs : List Value) → has_value (Some vs) v ≡ true → (is_known v ≡ true) × (list_any (same_value v) vs ≡ true)
known_has Null vs h = cc
known_has (Int n) vs h = (refl, h)
known_has (Text t) vs h = (refl, h)

any_has_value : (v : Value) (vs : List Value) → list_any (same_value v) vs ≡ true → Has vs v
any_has_value v [] h = cc
any_has_value v (w ∷ vs) h = elim (two_ways (same_value v w)) [
  | inl y ↦ inl (sym (one_of v w y))
  | inr n ↦ (let k : list_any (same_value v) vs ≡ true = rw n at h in inr (any_has_value v vs k))
]

pub value_there : (v : Value) (vs : List Value) → has_value (Some vs) v ≡ true → Has vs v
value_there v vs h = any_has_value v vs (known_has v vs h).1

pub meet_has : (s t : ValueSet) (v : Value) → has_value s v ≡ true → has_value t v ≡ true → has_value (meet s t) v ≡ true
meet_has None t v p q = q
meet_has (Some vs) None v p q = p
meet_has (Some vs) (Some ws) v p q =
    let k = known_has v vs p in
    has_known v (filter (λ u. list_any (same_value u) ws) vs) k.0
    (any_same v (filter (λ u. list_any (same_value u) ws) vs) (has_filter (λ u. list_any (same_value u) ws) v vs (any_has_value v vs k.1) (known_has v ws q).1))

module _ (row : Row) (first : ℕ → ℕ) (x : ℕ) (one_value_each : (y : ℕ) → first y ≡ first x → column row y ≡ column row x) where
  sets_fold : (sets : List (ℕ × List Value)) (s : ValueSet) → AllByRecursion (IsOneOf row) sets → has_value s (column row x) ≡ true → has_value (fold (met_by first x) s sets) (column row x) ≡ true
  sets_fold [] s all h = h
  sets_fold (k ∷ sets) s all h = sets_fold sets (met_by first x s k) all.1 (step (nat_eq (first k.0) (first x)) refl)
    where
      step : (b : Bool) → nat_eq (first k.0) (first x) ≡ b → has_value (if b then meet s (Some k.1) else s) (column row x) ≡ true
      step false e = h
      step true e =
          let same : column row k.0 ≡ column row x = one_value_each k.0 (same_number _ _ e) in
          meet_has s (Some k.1) (column row x) h
          (has_known (column row x) k.1 (ap is_known (sym same) ∙ all.0.1) (any_same (column row x) k.1 (subst (Has k.1) same all.0.0)))

-- the value of each column is in the value set of its class
pub set_has : (row : Row) (outer : List (ℕ × List Value)) (cs : List Cond) → AllByRecursion (IsOneOf row) outer → AllByRecursion (Says row) cs → (x : ℕ) → has_value (value_set outer cs x) (column row x) ≡ true
set_has row outer cs given says x =
    sets_fold row (first_of_class (equalities cs)) x (λ y e. class_agrees row (equalities cs) (pairs_agree row cs says) y x e)
    (outer ++ sets_said cs) None (all_append (IsOneOf row) outer (sets_said cs) given (sets_agree row cs says)) refl
