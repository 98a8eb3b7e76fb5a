-- The rules keep what is bound within its width: arithmetic, conditions, CASE and COALESCE.
use Rattle.std.proofs.Common.{◌≡◌, ◌≢◌, ℕ, zero, suc, ℤ, pos, ◌+◌, ◌-◌, ◌/◌, ◌≤◌, max, Bool, true, false, ◌&&◌, List, [], ◌∷◌, ◌++◌, map, length, take, drop, refl, sym, ap, ◌∙◌, subst, arith}
use Rattle.std.specs.List.{AllByRecursion}
use denote.Hole.Carrier.{hidden}
use Rattle.cq_tree.specs.declared.expression.Arm.{Arm}
use Rattle.cq_tree.specs.declared.expression.Op.{Op}
use Rattle.cq_tree.specs.declared.expression.Expr.{Expr, Neg, Add, Sub, Mul, Div, Rem, Case, Coalesce, Row_of-Expr, end_of-Expr, more_of-Expr, Row_of-Arm, end_of-Arm, more_of-Arm, items-the_row-Arm, items-the_row-Expr, items_hidden-the_row-Arm-2, items_hidden-the_row-Expr-3}
use Rattle.cq_tree.specs.declared.expression.Cond.{Cond, Compare, And, Or, Not}
use Rattle.cq_tree.specs.declared.expression.Cond.TheBlock.{hidden-the_row-Arm-2, hidden-the_row-Cond-0, hidden-the_row-Expr-1, hidden-the_row-Expr-3}
use Rattle.cq_tree.proofs.Opened.{case_is}
use Rattle.cq_meaning.specs.Widths.{bits, bits_of_arms, bits_of_all, IsBound, AreBound, AreBoundArms, IsBoundCondition}
use Rattle.cq_meaning_laws.proofs.WithinLaws.{all_drop, all_take}
use Rattle.cq_reading.specs.declared.bound.Bound.{Bound}
use Rattle.cq_reading.specs.declared.bound.Bound.TheVariants.{Value, Truth}
use Rattle.cq_reading.specs.declared.bound.Type.TheVariants as type
use Rattle.cq_reading.specs.Widths.{ValueType, null_expr, expr_of, width_of, is_number, is_number_type, sum_width, product_width, greatest_width, null_width}
use Rattle.cq_reading.specs.Rules as rule
use Rattle.cq_reading_laws.specs.Bounds.{Stands}

pub no_truth : false ≡ true → ⊥
no_truth e = grind arith

abbrev bits_of_exprs : List ℕ → List Expr → ℕ
bits_of_exprs ks [] = 0
bits_of_exprs ks (e ∷ es) = max (bits ks e) (bits_of_exprs ks es)

module _ (ks : List ℕ) (n : ℕ) where
  abbrev S : Bound → Type 0
  S b = Stands ks n b

  pub stands_truth : (c : Cond) → IsBoundCondition ks n c → S (Truth c)
  stands_truth c h = record { expression = tt; condition = h; within = omega arith; fits = omega arith; some = λ e. absurd (no_truth e) }

  pub stands_neg : (a : Bound) → S a → is_number a ≡ true → width_of a + 1 ≤ 127 → S (Value (Neg (expr_of a)) type.Number (width_of a + 1))
  unfolding hidden-the_row-Expr-1 hidden
  stands_neg a h t f = let s = h.some t in
      record { expression = (h.expression, omega (arith, h.within, f, s)); condition = tt; within = omega (arith, h.within, s); fits = f; some = λ e. omega arith }

  pub stands_add : (a b : Bound) → S a → S b → is_number a ≡ true → is_number b ≡ true → sum_width (width_of a) (width_of b) ≤ 127 → S (Value (Add (expr_of a) (expr_of b)) type.Number (sum_width (width_of a) (width_of b)))
  unfolding hidden-the_row-Expr-1 hidden
  stands_add a b h k t u f = let s = h.some t in let r = k.some u in
      record { expression = (h.expression, k.expression, omega (arith, h.within, k.within, f, s, r)); condition = tt; within = omega (arith, h.within, k.within, s, r); fits = f; some = λ e. omega arith }

  pub stands_sub : (a b : Bound) → S a → S b → is_number a ≡ true → is_number b ≡ true → sum_width (width_of a) (width_of b) ≤ 127 → S (Value (Sub (expr_of a) (expr_of b)) type.Number (sum_width (width_of a) (width_of b)))
  unfolding hidden-the_row-Expr-1 hidden
  stands_sub a b h k t u f = let s = h.some t in let r = k.some u in
      record { expression = (h.expression, k.expression, omega (arith, h.within, k.within, f, s, r)); condition = tt; within = omega (arith, h.within, k.within, s, r); fits = f; some = λ e. omega arith }

  pub stands_mul : (a b : Bound) → S a → S b → is_number a ≡ true → is_number b ≡ true → product_width (width_of a) (width_of b) ≤ 127 → S (Value (Mul (expr_of a) (expr_of b)) type.Number (product_width (width_of a) (width_of b)))
  unfolding hidden-the_row-Expr-1 hidden
  stands_mul a b h k t u f = let s = h.some t in let r = k.some u in
      record { expression = (h.expression, k.expression, omega (arith, h.within, k.within, f, s, r)); condition = tt; within = omega (arith, h.within, k.within, s, r); fits = f; some = λ e. omega (arith, s, r) }

  pub stands_div : (a : Bound) (c : ℤ) → S a → is_number a ≡ true → width_of a + 1 ≤ 127 → c ≢ pos 0 → S (Value (Div (expr_of a) c) type.Number (width_of a + 1))
  unfolding hidden-the_row-Expr-1 hidden
  stands_div a c h t f z = let s = h.some t in
      record { expression = (h.expression, omega (arith, h.within, f, s), z); condition = tt; within = omega (arith, h.within, s); fits = f; some = λ e. omega arith }

  pub stands_rem : (a : Bound) (c : ℤ) → S a → is_number a ≡ true → width_of a ≤ 127 → c ≢ pos 0 → S (Value (Rem (expr_of a) c) type.Number (width_of a))
  unfolding hidden-the_row-Expr-1 hidden
  stands_rem a c h t f z = let s = h.some t in
      record { expression = (h.expression, omega (arith, h.within, f, s), z); condition = tt; within = omega (arith, h.within, s); fits = f; some = λ e. s }

  pub stands_same : (a : Bound) → S a → is_number a ≡ true → S (Value (expr_of a) type.Number (width_of a))
  stands_same a h t = record { expression = h.expression; condition = tt; within = h.within; fits = h.fits; some = λ e. h.some t }

  pub stands_null : (t : ValueType) → S (Value null_expr t null_width)
  stands_null t = record { expression = tt; condition = tt; within = omega arith; fits = omega arith; some = λ e. omega arith }

  -- ---- conditions

  pub bound_and : (a b : Cond) → IsBoundCondition ks n a → IsBoundCondition ks n b → IsBoundCondition ks n (And a b)
  unfolding hidden-the_row-Cond-0 hidden
  bound_and a b h g = (h, g)

  pub bound_or : (a b : Cond) → IsBoundCondition ks n a → IsBoundCondition ks n b → IsBoundCondition ks n (Or a b)
  unfolding hidden-the_row-Cond-0 hidden
  bound_or a b h g = (h, g)

  pub bound_not : (a : Cond) → IsBoundCondition ks n a → IsBoundCondition ks n (Not a)
  unfolding hidden-the_row-Cond-0 hidden
  bound_not a h = h

  pub bound_negated : (t : Bool) (c : Cond) → IsBoundCondition ks n c → IsBoundCondition ks n (rule.negated_if t c)
  bound_negated true c h = bound_not c h
  bound_negated false c h = h

  pub bound_joined : (any : Bool) (c d : Cond) → IsBoundCondition ks n c → IsBoundCondition ks n d → IsBoundCondition ks n (rule.joined_by any c d)
  bound_joined true c d h g = bound_or c d h g
  bound_joined false c d h g = bound_and c d h g

  pub bound_halves : (most : ℕ) (any : Bool) (cs : List Cond) → AllByRecursion (IsBoundCondition ks n) cs → IsBoundCondition ks n (rule.halves most any cs)
  bound_halves most any [] h = tt
  bound_halves most any (c ∷ []) h = h.0
  bound_halves zero any (c ∷ d ∷ more) h = tt
  bound_halves (suc most) any (c ∷ d ∷ more) h =
      let cs = c ∷ d ∷ more in let m = length cs - length cs / 2 in
      bound_joined any (rule.halves most any (take m cs)) (rule.halves most any (drop m cs))
      (bound_halves most any (take m cs) (all_take (IsBoundCondition ks n) m cs h)) (bound_halves most any (drop m cs) (all_drop (IsBoundCondition ks n) m cs h))

  equals : (o : Op) (x : Bound) (items : List Bound) → S x → AllByRecursion S items → AllByRecursion (IsBoundCondition ks n) (map (λ i. Compare o (expr_of x) (expr_of i)) items)
  equals o x [] h k = tt
  equals o x (i ∷ items) h k = ((h.expression, k.0.expression), equals o x items h k.1)

  pub stands_listed : (o : Op) (negate : Bool) (x : Bound) (items : List Bound) → S x → AllByRecursion S items → S (Truth (rule.negated_if negate (rule.halved true (map (λ i. Compare o (expr_of x) (expr_of i)) items))))
  stands_listed o negate x items h k =
      let cs = map (λ i. Compare o (expr_of x) (expr_of i)) items in
      stands_truth (rule.negated_if negate (rule.halved true cs)) (bound_negated negate (rule.halved true cs) (bound_halves (length cs) true cs (equals o x items h k)))

  -- ---- CASE and COALESCE

  least_fits : (bs : List Bound) → AllByRecursion S bs → greatest_width bs ≤ 127
  least_fits [] h = omega arith
  least_fits (b ∷ bs) h = omega (arith, h.0.fits, least_fits bs h.1)

  all_within : (bs : List Bound) → AllByRecursion S bs → bits_of_exprs ks (map expr_of bs) ≤ greatest_width bs - 1
  all_within [] h = omega arith
  all_within (b ∷ bs) h = omega (arith, h.0.within, all_within bs h.1)

  all_bound : (bs : List Bound) → AllByRecursion S bs → AllByRecursion (IsBound ks n) (map expr_of bs)
  all_bound [] h = tt
  all_bound (b ∷ bs) h = (h.0.expression, all_bound bs h.1)

  operands_are : {m : _} (k : Row_of-Expr m) → bits_of_all ks k ≡ bits_of_exprs ks (items-the_row-Expr _ k)
  operands_are end_of-Expr = refl
  operands_are (more_of-Expr e more) = ap (λ j. max (bits ks e) j) (operands_are more)

  bound_operands : {m : _} (k : Row_of-Expr m) → AllByRecursion (IsBound ks n) (items-the_row-Expr _ k) → AreBound ks n k
  bound_operands end_of-Expr h = tt
  bound_operands (more_of-Expr e more) h = (h.0, bound_operands more h.1)

  coalesce_bits : (es : List Expr) → bits ks (Coalesce es) ≡ bits_of_exprs ks es
  coalesce_bits es = operands_are (hidden-the_row-Expr-3 es) ∙ ap (λ xs. bits_of_exprs ks xs) (items_hidden-the_row-Expr-3 es)

  coalesce_bound : (es : List Expr) → AllByRecursion (IsBound ks n) es → IsBound ks n (Coalesce es)
  coalesce_bound es h = bound_operands (hidden-the_row-Expr-3 es) (subst (λ xs. AllByRecursion (IsBound ks n) xs) (sym (items_hidden-the_row-Expr-3 es)) h)

  pub stands_coalesce : (bs : List Bound) (t : ValueType) → AllByRecursion S bs → (is_number_type t ≡ true → 1 ≤ greatest_width bs) → S (Value (Coalesce (map expr_of bs)) t (greatest_width bs))
  stands_coalesce bs t h some = record {
    expression = coalesce_bound (map expr_of bs) (all_bound bs h);
    condition = tt;
    within = subst (λ k. k ≤ greatest_width bs - 1) (sym (coalesce_bits (map expr_of bs))) (all_within bs h);
    fits = least_fits bs h;
    some = some;
  }

  arms_are : {m : _} (k : Row_of-Arm m) → bits_of_arms ks k ≡ bits_of_exprs ks (map (λ a. a.then) (items-the_row-Arm _ k))
  arms_are end_of-Arm = refl
  arms_are (more_of-Arm c e more) = ap (λ j. max (bits ks e) j) (arms_are more)

  abbrev IsBoundArm : Arm → Type 0
  IsBoundArm a = IsBoundCondition ks n a.when × IsBound ks n a.then

  bound_arms : {m : _} (k : Row_of-Arm m) → AllByRecursion IsBoundArm (items-the_row-Arm _ k) → AreBoundArms ks n k
  bound_arms end_of-Arm h = tt
  bound_arms (more_of-Arm c e more) h = (h.0.0, h.0.1, bound_arms more h.1)

  case_bits : (arms : List Arm) (o : Expr) → bits ks (Case arms o) ≡ max (bits_of_exprs ks (map (λ a. a.then) arms)) (bits ks o)
  case_bits arms o = rw (case_is arms o) (ap (λ j. max j (bits ks o)) (arms_are (hidden-the_row-Arm-2 arms) ∙ ap (λ xs. bits_of_exprs ks (map (λ a. a.then) xs)) (items_hidden-the_row-Arm-2 arms)))

  case_bound : (arms : List Arm) (o : Expr) → AllByRecursion IsBoundArm arms → IsBound ks n o → IsBound ks n (Case arms o)
  case_bound arms o h g = rw (case_is arms o) (bound_arms (hidden-the_row-Arm-2 arms) (subst (λ xs. AllByRecursion IsBoundArm xs) (sym (items_hidden-the_row-Arm-2 arms)) h), g)

  abbrev pub PairStands : rule.Pair → Type 0
  PairStands p = S p.0 × S p.1

  pairs_bound : (ps : List rule.Pair) → AllByRecursion PairStands ps → AllByRecursion IsBoundArm (map rule.arm_of ps)
  pairs_bound [] h = tt
  pairs_bound (p ∷ ps) h = ((h.0.0.condition, h.0.1.expression), pairs_bound ps h.1)

  abbrev results : List rule.Pair → Bound → List Bound
  results ps o = map (λ p. p.1) ps ++ o ∷ []

  results_stand : (ps : List rule.Pair) (o : Bound) → AllByRecursion PairStands ps → S o → AllByRecursion S (results ps o)
  results_stand [] o h g = (g, tt)
  results_stand (p ∷ ps) o h g = (h.0.1, results_stand ps o h.1 g)

  case_within : (ps : List rule.Pair) (o : Bound) → AllByRecursion PairStands ps → S o → max (bits_of_exprs ks (map (λ a. a.then) (map rule.arm_of ps))) (bits ks (expr_of o)) ≤ greatest_width (results ps o) - 1
  case_within [] o h g = omega (arith, g.within)
  case_within (p ∷ ps) o h g = omega (arith, h.0.1.within, case_within ps o h.1 g)

  pub stands_case : (ps : List rule.Pair) (o : Bound) (t : ValueType) → AllByRecursion PairStands ps → S o → (is_number_type t ≡ true → 1 ≤ greatest_width (results ps o)) → S (Value (Case (map rule.arm_of ps) (expr_of o)) t (greatest_width (results ps o)))
  stands_case ps o t h g some = record {
    expression = case_bound (map rule.arm_of ps) (expr_of o) (pairs_bound ps h) g.expression;
    condition = tt;
    within = subst (λ k. k ≤ greatest_width (results ps o) - 1) (sym (case_bits (map rule.arm_of ps) (expr_of o))) (case_within ps o h g);
    fits = least_fits (results ps o) (results_stand ps o h g);
    some = some;
  }
