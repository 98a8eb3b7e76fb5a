-- What is bound at the nodes of expressions and conditions is well typed where its parts are.
use Rattle.std.proofs.Common.{◌≡◌, ℕ, zero, suc, ℤ, ◌-◌, ◌/◌, Bool, true, false, ◌&&◌, List, [], ◌∷◌, ◌++◌, map, length, take, drop, refl, sym, subst, Some}
use Rattle.std.specs.List.{AllByRecursion, list_all}
use Rattle.cq_value.proofs.Truths.{and_left, and_right}
use denote.Hole.Carrier.{hidden}
use Rattle.cq_tree.specs.declared.expression.Arm.{Arm}
use Rattle.cq_tree.specs.declared.expression.Op.{Op}
use Rattle.cq_tree.specs.declared.expression.Expr.{Expr, Neg, Add, Sub, Mul, Div, Rem, Case, Coalesce}
use Rattle.cq_tree.specs.declared.expression.Expr.{Row_of-Expr, end_of-Expr, more_of-Expr, Row_of-Arm, end_of-Arm, more_of-Arm, items-the_row-Arm, items-the_row-Expr, items_hidden-the_row-Arm-2, items_hidden-the_row-Expr-3}
use Rattle.cq_tree.specs.declared.expression.Cond.{Cond, Compare, And, Or, Not}
use Rattle.cq_tree.specs.declared.expression.Cond.TheBlock.{hidden-the_row-Arm-2, hidden-the_row-Cond-0, hidden-the_row-Expr-1, hidden-the_row-Expr-3}
use Rattle.cq_tree.proofs.Opened.{case_is}
use Rattle.cq_reading.specs.declared.bound.Bound.{Bound}
use Rattle.cq_reading.specs.declared.bound.Bound.TheVariants.{Value, Truth}
use Rattle.cq_reading.specs.declared.bound.Type.TheVariants as type
use Rattle.cq_reading.specs.Widths.{ValueType, null_expr, expr_of, type_of, cond_of, is_number, common_of, agree, are_alike}
use Rattle.cq_reading.specs.Rules as rule
use Rattle.cq_meaning_laws.proofs.WithinLaws.{all_drop, all_take}
use Rattle.cq_reading_laws.proofs.Standing.{no_truth}
use Rattle.cq_reading_laws.specs.Typing.{IsNumber, Fits, either, type_over, type_of_arms, type_of_all, IsTyped, AreTyped, AreTypedArms, IsTypedCondition}
use Rattle.cq_reading_laws.proofs.TypedForms.{OfType, fits_then, fits_either, number_of, alike_of, alike_both, BoundsFit, whole_of, agree_fit}

-- what is bound is of the type that the reading says, and well typed where G holds
pub record Sound (G : Type 0) (ts : List ValueType) (rs : List (List ValueType)) (b : Bound) : Type 0 where
  pub of : OfType ts b
  pub expression : G → IsTyped ts rs (expr_of b)
  pub condition : G → IsTypedCondition ts rs (cond_of b)

module _ (G : Type 0) (ts : List ValueType) (rs : List (List ValueType)) where
  abbrev S : Bound → Type 0
  S b = Sound G ts rs b

  pub sound_truth : (c : Cond) → (G → IsTypedCondition ts rs c) → S (Truth c)
  sound_truth c h = record { of = refl; expression = λ g. tt; condition = h }

  pub sound_neg : (a : Bound) (w : ℕ) → S a → is_number a ≡ true → S (Value (Neg (expr_of a)) type.Number w)
  unfolding hidden-the_row-Expr-1 hidden
  sound_neg a w h t = record { of = refl; expression = λ g. (h.expression g, number_of ts a h.of t); condition = λ g. tt }

  pub sound_add : (a b : Bound) (w : ℕ) → S a → S b → (is_number a && is_number b) ≡ true → S (Value (Add (expr_of a) (expr_of b)) type.Number w)
  unfolding hidden-the_row-Expr-1 hidden
  sound_add a b w h k t = record { of = refl; expression = λ g. (h.expression g, k.expression g, number_of ts a h.of (and_left _ _ t), number_of ts b k.of (and_right _ _ t)); condition = λ g. tt }

  pub sound_sub : (a b : Bound) (w : ℕ) → S a → S b → (is_number a && is_number b) ≡ true → S (Value (Sub (expr_of a) (expr_of b)) type.Number w)
  unfolding hidden-the_row-Expr-1 hidden
  sound_sub a b w h k t = record { of = refl; expression = λ g. (h.expression g, k.expression g, number_of ts a h.of (and_left _ _ t), number_of ts b k.of (and_right _ _ t)); condition = λ g. tt }

  pub sound_mul : (a b : Bound) (w : ℕ) → S a → S b → (is_number a && is_number b) ≡ true → S (Value (Mul (expr_of a) (expr_of b)) type.Number w)
  unfolding hidden-the_row-Expr-1 hidden
  sound_mul a b w h k t = record { of = refl; expression = λ g. (h.expression g, k.expression g, number_of ts a h.of (and_left _ _ t), number_of ts b k.of (and_right _ _ t)); condition = λ g. tt }

  pub sound_div : (a : Bound) (c : ℤ) (w : ℕ) → S a → is_number a ≡ true → S (Value (Div (expr_of a) c) type.Number w)
  unfolding hidden-the_row-Expr-1 hidden
  sound_div a c w h t = record { of = refl; expression = λ g. (h.expression g, number_of ts a h.of t); condition = λ g. tt }

  pub sound_rem : (a : Bound) (c : ℤ) (w : ℕ) → S a → is_number a ≡ true → S (Value (Rem (expr_of a) c) type.Number w)
  unfolding hidden-the_row-Expr-1 hidden
  sound_rem a c w h t = record { of = refl; expression = λ g. (h.expression g, number_of ts a h.of t); condition = λ g. tt }

  -- a sign that is dropped
  pub sound_same : (a : Bound) (w : ℕ) → S a → is_number a ≡ true → S (Value (expr_of a) type.Number w)
  sound_same a w h t = record { of = fits_number (type_over ts (expr_of a)) (number_of ts a h.of t); expression = h.expression; condition = λ g. tt }
    where
      fits_number : (t : ValueType) → IsNumber t → Fits t type.Number
      fits_number type.Null h = refl
      fits_number type.Number h = refl
      fits_number type.Text h = absurd (no_truth h)

  pub sound_null : (w : ℕ) → S (Value null_expr type.Null w)
  sound_null w = record { of = refl; expression = λ g. tt; condition = λ g. tt }

  -- ---- conditions

  pub typed_and : (a b : Cond) → IsTypedCondition ts rs a → IsTypedCondition ts rs b → IsTypedCondition ts rs (And a b)
  unfolding hidden-the_row-Cond-0 hidden
  typed_and a b h g = (h, g)

  pub typed_or : (a b : Cond) → IsTypedCondition ts rs a → IsTypedCondition ts rs b → IsTypedCondition ts rs (Or a b)
  unfolding hidden-the_row-Cond-0 hidden
  typed_or a b h g = (h, g)

  pub typed_not : (a : Cond) → IsTypedCondition ts rs a → IsTypedCondition ts rs (Not a)
  unfolding hidden-the_row-Cond-0 hidden
  typed_not a h = h

  pub typed_negated : (t : Bool) (c : Cond) → IsTypedCondition ts rs c → IsTypedCondition ts rs (rule.negated_if t c)
  typed_negated true c h = typed_not c h
  typed_negated false c h = h

  pub typed_joined : (any : Bool) (c d : Cond) → IsTypedCondition ts rs c → IsTypedCondition ts rs d → IsTypedCondition ts rs (rule.joined_by any c d)
  typed_joined true c d h g = typed_or c d h g
  typed_joined false c d h g = typed_and c d h g

  pub typed_compare : (o : Op) (a b : Bound) → S a → S b → are_alike a b ≡ true → G → IsTypedCondition ts rs (Compare o (expr_of a) (expr_of b))
  typed_compare o a b h k t g = (h.expression g, k.expression g, alike_of ts a b h.of k.of t)

  -- of two that stand where one type is said
  pub typed_common : (o : Op) (a b : Bound) (t : ValueType) → S a → S b → Fits (type_of a) t → Fits (type_of b) t → G → IsTypedCondition ts rs (Compare o (expr_of a) (expr_of b))
  typed_common o a b t h k fa fb g = (
    h.expression g,
    k.expression g,
    alike_both (type_over ts (expr_of a)) (type_over ts (expr_of b)) t (fits_then (type_over ts (expr_of a)) (type_of a) t h.of fa) (fits_then (type_over ts (expr_of b)) (type_of b) t k.of fb),
  )

  typed_halves : (most : ℕ) (any : Bool) (cs : List Cond) → AllByRecursion (IsTypedCondition ts rs) cs → IsTypedCondition ts rs (rule.halves most any cs)
  typed_halves most any [] h = tt
  typed_halves most any (c ∷ []) h = h.0
  typed_halves zero any (c ∷ d ∷ more) h = tt
  typed_halves (suc most) any (c ∷ d ∷ more) h =
      let cs = c ∷ d ∷ more in let m = length cs - length cs / 2 in
      typed_joined any (rule.halves most any (take m cs)) (rule.halves most any (drop m cs))
      (typed_halves most any (take m cs) (all_take (IsTypedCondition ts rs) m cs h)) (typed_halves most any (drop m cs) (all_drop (IsTypedCondition ts rs) m cs h))

  equals : (o : Op) (x : Bound) (items : List Bound) (t : ValueType) → S x → AllByRecursion S items → Fits (type_of x) t → BoundsFit t items → G →
      AllByRecursion (IsTypedCondition ts rs) (map (λ i. Compare o (expr_of x) (expr_of i)) items)
  equals o x [] t h k fx fs g = tt
  equals o x (i ∷ items) t h k fx fs g = (typed_common o x i t h k.0 fx fs.0 g, equals o x items t h k.1 fx fs.1 g)

  pub typed_listed : (o : Op) (negate : Bool) (x : Bound) (items : List Bound) → S x → AllByRecursion S items → agree (x ∷ items) ≡ true → G
      → IsTypedCondition ts rs (rule.negated_if negate (rule.halved true (map (λ i. Compare o (expr_of x) (expr_of i)) items)))
  typed_listed o negate x items h k t g =
      let u = agree_fit (x ∷ items) t in
      let cs = map (λ i. Compare o (expr_of x) (expr_of i)) items in
      typed_negated negate (rule.halved true cs) (typed_halves (length cs) true cs (equals o x items u.0 h k u.1.0 u.1.1 g))

  -- ---- COALESCE

  -- typed, and stands where this type is said
  abbrev Meets : ValueType → Expr → Type 0
  Meets t e = IsTyped ts rs e × Fits (type_over ts e) t

  abbrev AllOf : ValueType → List Expr → Type 0
  AllOf t es = AllByRecursion (λ e. Fits (type_over ts e) t) es

  all_of : (t : ValueType) (bs : List Bound) → AllByRecursion S bs → BoundsFit t bs → AllOf t (map expr_of bs)
  all_of t [] h k = tt
  all_of t (b ∷ bs) h k = (fits_then (type_over ts (expr_of b)) (type_of b) t h.0.of k.0, all_of t bs h.1 k.1)

  all_meet : (t : ValueType) (bs : List Bound) → AllByRecursion S bs → BoundsFit t bs → G → AllByRecursion (Meets t) (map expr_of bs)
  all_meet t [] h k g = tt
  all_meet t (b ∷ bs) h k g = ((h.0.expression g, fits_then (type_over ts (expr_of b)) (type_of b) t h.0.of k.0), all_meet t bs h.1 k.1 g)

  row_fits : (t : ValueType) {m : _} (k : Row_of-Expr m) → AllOf t (items-the_row-Expr _ k) → Fits (type_of_all ts k) t
  row_fits t end_of-Expr h = refl
  row_fits t (more_of-Expr e more) h = fits_either (type_over ts e) (type_of_all ts more) t h.0 (row_fits t more h.1)

  row_typed : (t s : ValueType) {m : _} (k : Row_of-Expr m) → Fits s t → AllByRecursion (Meets t) (items-the_row-Expr _ k) → AreTyped ts rs s k
  row_typed t s end_of-Expr f h = tt
  row_typed t s (more_of-Expr e more) f h = (h.0.0, alike_both s (type_over ts e) t f h.0.1, row_typed t s more f h.1)

  coalesce_fits : (es : List Expr) (t : ValueType) → AllOf t es → Fits (type_over ts (Coalesce es)) t
  coalesce_fits es t h = row_fits t (hidden-the_row-Expr-3 es) (subst (AllOf t) (sym (items_hidden-the_row-Expr-3 es)) h)

  coalesce_typed : (es : List Expr) (t : ValueType) → AllOf t es → AllByRecursion (Meets t) es → IsTyped ts rs (Coalesce es)
  coalesce_typed es t f h =
      row_typed t (type_over ts (Coalesce es)) (hidden-the_row-Expr-3 es) (coalesce_fits es t f) (subst (λ xs. AllByRecursion (Meets t) xs) (sym (items_hidden-the_row-Expr-3 es)) h)

  pub sound_coalesce : (bs : List Bound) (t : ValueType) (w : ℕ) → AllByRecursion S bs → common_of bs ≡ Some t → S (Value (Coalesce (map expr_of bs)) t w)
  sound_coalesce bs t w h is =
      let f = all_of t bs h (whole_of bs t is) in
      record { of = coalesce_fits (map expr_of bs) t f; expression = λ g. coalesce_typed (map expr_of bs) t f (all_meet t bs h (whole_of bs t is) g); condition = λ g. tt }

  -- ---- CASE

  abbrev thens : List Arm → List Expr
  thens arms = map (λ a. a.then) arms

  arms_fit : (t : ValueType) {m : _} (k : Row_of-Arm m) → AllOf t (thens (items-the_row-Arm _ k)) → Fits (type_of_arms ts k) t
  arms_fit t end_of-Arm h = refl
  arms_fit t (more_of-Arm c e more) h = fits_either (type_over ts e) (type_of_arms ts more) t h.0 (arms_fit t more h.1)

  abbrev ArmMeets : ValueType → Arm → Type 0
  ArmMeets t a = IsTypedCondition ts rs a.when × Meets t a.then

  arms_typed : (t s : ValueType) {m : _} (k : Row_of-Arm m) → Fits s t → AllByRecursion (ArmMeets t) (items-the_row-Arm _ k) → AreTypedArms ts rs s k
  arms_typed t s end_of-Arm f h = tt
  arms_typed t s (more_of-Arm c e more) f h = (h.0.0, h.0.1.0, alike_both s (type_over ts e) t f h.0.1.1, arms_typed t s more f h.1)

  whole_fits : (arms : List Arm) (o : Expr) (t : ValueType) → AllOf t (thens arms) → Fits (type_over ts o) t → Fits (either (type_of_arms ts (hidden-the_row-Arm-2 arms)) (type_over ts o)) t
  whole_fits arms o t h k =
      fits_either (type_of_arms ts (hidden-the_row-Arm-2 arms)) (type_over ts o) t (arms_fit t (hidden-the_row-Arm-2 arms) (subst (λ xs. AllOf t (thens xs)) (sym (items_hidden-the_row-Arm-2 arms)) h)) k

  case_fits : (arms : List Arm) (o : Expr) (t : ValueType) → AllOf t (thens arms) → Fits (type_over ts o) t → Fits (type_over ts (Case arms o)) t
  case_fits arms o t h k = rw (case_is arms o) (whole_fits arms o t h k)

  case_typed : (arms : List Arm) (o : Expr) (t : ValueType) → AllOf t (thens arms) → AllByRecursion (ArmMeets t) arms → Meets t o → IsTyped ts rs (Case arms o)
  case_typed arms o t f h k =
      let row = hidden-the_row-Arm-2 arms in
      let s = either (type_of_arms ts row) (type_over ts o) in
      let w = whole_fits arms o t f k.1 in
      rw (case_is arms o) (arms_typed t s row w (subst (λ xs. AllByRecursion (ArmMeets t) xs) (sym (items_hidden-the_row-Arm-2 arms)) h), k.0, alike_both s (type_over ts o) t w k.1)

  abbrev pub PairSound : rule.Pair → Type 0
  PairSound p = S p.0 × S p.1

  abbrev results : List rule.Pair → Bound → List Bound
  results ps o = map (λ p. p.1) ps ++ o ∷ []

  pairs_of : (t : ValueType) (ps : List rule.Pair) (o : Bound) → AllByRecursion PairSound ps → S o → BoundsFit t (results ps o) → AllOf t (thens (map rule.arm_of ps)) × Fits (type_over ts (expr_of o)) t
  pairs_of t [] o h k a = (tt, fits_then (type_over ts (expr_of o)) (type_of o) t k.of a.0)
  pairs_of t (p ∷ ps) o h k a = let r = pairs_of t ps o h.1 k a.1 in ((fits_then (type_over ts (expr_of p.1)) (type_of p.1) t h.0.1.of a.0, r.0), r.1)

  pairs_meet : (t : ValueType) (ps : List rule.Pair) (o : Bound) → AllByRecursion PairSound ps → BoundsFit t (results ps o) → G → AllByRecursion (ArmMeets t) (map rule.arm_of ps)
  pairs_meet t [] o h a g = tt
  pairs_meet t (p ∷ ps) o h a g = ((h.0.0.condition g, (h.0.1.expression g, fits_then (type_over ts (expr_of p.1)) (type_of p.1) t h.0.1.of a.0)), pairs_meet t ps o h.1 a.1 g)

  pub sound_case : (ps : List rule.Pair) (o : Bound) (t : ValueType) (w : ℕ) → AllByRecursion PairSound ps → S o → common_of (results ps o) ≡ Some t → S (Value (Case (map rule.arm_of ps) (expr_of o)) t w)
  sound_case ps o t w h k is =
      let a = whole_of (results ps o) t is in
      let r = pairs_of t ps o h k a in
      record {
        of = case_fits (map rule.arm_of ps) (expr_of o) t r.0 r.1;
        expression = λ g. case_typed (map rule.arm_of ps) (expr_of o) t r.0 (pairs_meet t ps o h a g) (k.expression g, r.1);
        condition = λ g. tt;
      }
