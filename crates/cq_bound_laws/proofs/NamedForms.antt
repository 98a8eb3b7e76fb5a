-- The results that bound expressions name, at the nodes as the rules make them.
use Rattle.std.proofs.Common.{ℕ, zero, suc, ℤ, ◌-◌, ◌/◌, Bool, true, false, List, [], ◌∷◌, map, length, take, drop, sym, subst}
use Rattle.std.specs.List.{AllByRecursion}
use denote.Hole.Carrier.{hidden}
use Rattle.cq_tree.specs.declared.expression.Arm.{Arm}
use Rattle.cq_tree.specs.declared.expression.Op.{Op}
use Rattle.cq_tree.specs.declared.expression.Expr.{Expr, Neg, Add, Sub, Mul, Div, Rem, Case, Coalesce, Row_of-Expr, end_of-Expr, more_of-Expr, Row_of-Arm, end_of-Arm, more_of-Arm, items-the_row-Arm, items-the_row-Expr, items_hidden-the_row-Arm-2, items_hidden-the_row-Expr-3}
use Rattle.cq_tree.specs.declared.expression.Cond.{Cond, Compare, And, Or, Not}
use Rattle.cq_tree.specs.declared.expression.Cond.TheBlock.{hidden-the_row-Arm-2, hidden-the_row-Cond-0, hidden-the_row-Expr-1, hidden-the_row-Expr-3}
use Rattle.cq_tree.proofs.Opened.{case_is}
use Rattle.cq_meaning_laws.proofs.WithinLaws.{all_drop, all_take}
use Rattle.cq_reading.specs.declared.bound.Bound.{Bound}
use Rattle.cq_reading.specs.Widths.{expr_of, cond_of}
use Rattle.cq_reading.specs.Rules as rule
use Rattle.cq_plan_laws.specs.Scoping.{Names, ArmsName, EachNames, CondNames}

-- what is bound names only such results
abbrev pub BoundNames : (ℕ → Type 0) → Bound → Type 0
BoundNames P b = Names P (expr_of b) × CondNames P (cond_of b)

module _ (P : ℕ → Type 0) where
  pub names_neg : (a : Expr) → Names P a → Names P (Neg a)
  unfolding hidden-the_row-Expr-1 hidden
  names_neg a h = h

  pub names_add : (a b : Expr) → Names P a → Names P b → Names P (Add a b)
  unfolding hidden-the_row-Expr-1 hidden
  names_add a b h k = (h, k)

  pub names_sub : (a b : Expr) → Names P a → Names P b → Names P (Sub a b)
  unfolding hidden-the_row-Expr-1 hidden
  names_sub a b h k = (h, k)

  pub names_mul : (a b : Expr) → Names P a → Names P b → Names P (Mul a b)
  unfolding hidden-the_row-Expr-1 hidden
  names_mul a b h k = (h, k)

  pub names_div : (a : Expr) (c : ℤ) → Names P a → Names P (Div a c)
  unfolding hidden-the_row-Expr-1 hidden
  names_div a c h = h

  pub names_rem : (a : Expr) (c : ℤ) → Names P a → Names P (Rem a c)
  unfolding hidden-the_row-Expr-1 hidden
  names_rem a c h = h

  -- ---- conditions

  pub names_and : (a b : Cond) → CondNames P a → CondNames P b → CondNames P (And a b)
  unfolding hidden-the_row-Cond-0 hidden
  names_and a b h k = (h, k)

  names_or : (a b : Cond) → CondNames P a → CondNames P b → CondNames P (Or a b)
  unfolding hidden-the_row-Cond-0 hidden
  names_or a b h k = (h, k)

  names_not : (a : Cond) → CondNames P a → CondNames P (Not a)
  unfolding hidden-the_row-Cond-0 hidden
  names_not a h = h

  pub names_negated : (t : Bool) (c : Cond) → CondNames P c → CondNames P (rule.negated_if t c)
  names_negated true c h = names_not c h
  names_negated false c h = h

  pub names_joined : (any : Bool) (c d : Cond) → CondNames P c → CondNames P d → CondNames P (rule.joined_by any c d)
  names_joined true c d h k = names_or c d h k
  names_joined false c d h k = names_and c d h k

  names_halves : (most : ℕ) (any : Bool) (cs : List Cond) → AllByRecursion (CondNames P) cs → CondNames P (rule.halves most any cs)
  names_halves most any [] h = tt
  names_halves most any (c ∷ []) h = h.0
  names_halves zero any (c ∷ d ∷ more) h = tt
  names_halves (suc most) any (c ∷ d ∷ more) h =
      let cs = c ∷ d ∷ more in let m = length cs - length cs / 2 in
      names_joined any (rule.halves most any (take m cs)) (rule.halves most any (drop m cs))
      (names_halves most any (take m cs) (all_take (CondNames P) m cs h)) (names_halves most any (drop m cs) (all_drop (CondNames P) m cs h))

  names_equals : (o : Op) (x : Bound) (items : List Bound) → Names P (expr_of x) → AllByRecursion (BoundNames P) items → AllByRecursion (CondNames P) (map (λ i. Compare o (expr_of x) (expr_of i)) items)
  names_equals o x [] h k = tt
  names_equals o x (i ∷ items) h k = ((h, k.0.0), names_equals o x items h k.1)

  pub names_listed : (o : Op) (negate : Bool) (x : Bound) (items : List Bound) → Names P (expr_of x) → AllByRecursion (BoundNames P) items
      → CondNames P (rule.negated_if negate (rule.halved true (map (λ i. Compare o (expr_of x) (expr_of i)) items)))
  names_listed o negate x items h k =
      let cs = map (λ i. Compare o (expr_of x) (expr_of i)) items in names_negated negate (rule.halved true cs) (names_halves (length cs) true cs (names_equals o x items h k))

  -- ---- CASE and COALESCE

  names_row : {m : _} (k : Row_of-Expr m) → AllByRecursion (Names P) (items-the_row-Expr _ k) → EachNames P k
  names_row end_of-Expr h = tt
  names_row (more_of-Expr e more) h = (h.0, names_row more h.1)

  names_exprs : (bs : List Bound) → AllByRecursion (BoundNames P) bs → AllByRecursion (Names P) (map expr_of bs)
  names_exprs [] h = tt
  names_exprs (b ∷ bs) h = (h.0.0, names_exprs bs h.1)

  pub names_coalesce : (bs : List Bound) → AllByRecursion (BoundNames P) bs → Names P (Coalesce (map expr_of bs))
  names_coalesce bs h =
      names_row (hidden-the_row-Expr-3 (map expr_of bs)) (subst (λ xs. AllByRecursion (Names P) xs) (sym (items_hidden-the_row-Expr-3 (map expr_of bs))) (names_exprs bs h))

  abbrev ArmNames : Arm → Type 0
  ArmNames a = CondNames P a.when × Names P a.then

  names_arms : {m : _} (k : Row_of-Arm m) → AllByRecursion ArmNames (items-the_row-Arm _ k) → ArmsName P k
  names_arms end_of-Arm h = tt
  names_arms (more_of-Arm c e more) h = (h.0.0, h.0.1, names_arms more h.1)

  abbrev pub PairNames : rule.Pair → Type 0
  PairNames p = BoundNames P p.0 × BoundNames P p.1

  names_pairs : (ps : List rule.Pair) → AllByRecursion PairNames ps → AllByRecursion ArmNames (map rule.arm_of ps)
  names_pairs [] h = tt
  names_pairs (p ∷ ps) h = ((h.0.0.1, h.0.1.0), names_pairs ps h.1)

  pub names_case : (ps : List rule.Pair) (other : Expr) → AllByRecursion PairNames ps → Names P other → Names P (Case (map rule.arm_of ps) other)
  names_case ps other h k =
      let arms = map rule.arm_of ps in
      rw (case_is arms other) (names_arms (hidden-the_row-Arm-2 arms) (subst (λ xs. AllByRecursion ArmNames xs) (sym (items_hidden-the_row-Arm-2 arms)) (names_pairs ps h)), k)
