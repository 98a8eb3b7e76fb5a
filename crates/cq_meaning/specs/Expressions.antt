-- What expressions and conditions mean over a row, over whole numbers without a bound.
use Rattle.std.specs.Prelude.{ℤ, ◌-ℤ◌, ◌+ℤ◌, ◌*ℤ◌, neg_ℤ, int_div, int_rem, List, map, Bool, Option, None, Some, unwrap_or}
use Rattle.cq_value.specs.Order.{compared}
use Rattle.cq_value.specs.declared.value.Value.{Value}
use Rattle.cq_value.specs.declared.value.Value.TheVariants.{Null, Int, Text}
use Rattle.cq_value.specs.declared.value.Truth.{Truth}
use Rattle.cq_value.specs.declared.value.Truth.TheVariants.{Yes, No, Unknown}
use Rattle.cq_tree.specs.declared.expression.Expr.{Expr, Literal, Column, Neg', Add', Sub', Mul', Div', Rem', Case', Coalesce', Row_of-Expr, end_of-Expr, more_of-Expr, Row_of-Arm, end_of-Arm, more_of-Arm}
use Rattle.cq_tree.specs.declared.expression.Cond.{Cond, Compare, IsNull, InResult, And', Or', Not', Always, end_of-Cond, more_of-Cond}
use Rattle.cq_meaning.specs.Values.{Row, Results, column, result_at}
use Rattle.cq_meaning.specs.Logic.{and_of, or_of, not_of, is_yes, met, null_test, among}

-- a function of a number, NULL of NULL
abbrev pub of_number : (ℤ → ℤ) → Value → Value
of_number f (Int x) = Int (f x)
of_number f Null = Null
of_number f (Text t) = Null

-- a function of two numbers, NULL where one is NULL
abbrev pub of_numbers : (ℤ → ℤ → ℤ) → Value → Value → Value
of_numbers f (Int x) (Int y) = Int (f x y)
of_numbers f _ _ = Null

-- the value, and the other in place of NULL
abbrev pub known_or : Value → Value → Value
known_or Null other = other
known_or (Int x) other = Int x
known_or (Text t) other = Text t

-- the value where the condition is true
abbrev pub if_yes : Truth → Value → Option Value → Option Value
if_yes Yes v other = Some v
if_yes No v other = other
if_yes Unknown v other = other

-- one case for each kind of expression and of condition. Division truncates towards zero
abbrev mutual
  pub value_of : Expr → Row → Results → Value
  value_of (Literal v) row results = v
  value_of (Column at) row results = column row at
  value_of (Neg' p (more_of-Expr e end_of-Expr)) row results = of_number neg_ℤ (value_of e row results)
  value_of (Add' p (more_of-Expr a end_of-Expr) q (more_of-Expr b end_of-Expr)) row results = of_numbers ◌+ℤ◌ (value_of a row results) (value_of b row results)
  value_of (Sub' p (more_of-Expr a end_of-Expr) q (more_of-Expr b end_of-Expr)) row results = of_numbers ◌-ℤ◌ (value_of a row results) (value_of b row results)
  value_of (Mul' p (more_of-Expr a end_of-Expr) q (more_of-Expr b end_of-Expr)) row results = of_numbers ◌*ℤ◌ (value_of a row results) (value_of b row results)
  value_of (Div' p (more_of-Expr e end_of-Expr) c) row results = of_number (λ x. int_div x c) (value_of e row results)
  value_of (Rem' p (more_of-Expr e end_of-Expr) c) row results = of_number (λ x. int_rem x c) (value_of e row results)
  value_of (Case' shape arms p (more_of-Expr other end_of-Expr)) row results = unwrap_or (arm_value arms row results) (value_of other row results)
  value_of (Coalesce' shape es) row results = first_known es row results

  -- the value of the first arm whose condition is true
  pub arm_value : {n : _} → Row_of-Arm n → Row → Results → Option Value
  arm_value end_of-Arm row results = None
  arm_value (more_of-Arm c e more) row results = if_yes (truth_of c row results) (value_of e row results) (arm_value more row results)

  -- the first value that isn't NULL, and NULL where there is none
  pub first_known : {n : _} → Row_of-Expr n → Row → Results → Value
  first_known end_of-Expr row results = Null
  first_known (more_of-Expr e more) row results = known_or (value_of e row results) (first_known more row results)

  pub truth_of : Cond → Row → Results → Truth
  truth_of (Compare op a b) row results = met op (compared (value_of a row results) (value_of b row results))
  truth_of (IsNull e) row results = null_test (value_of e row results)
  truth_of (InResult e i) row results = among (value_of e row results) (result_at results i)
  truth_of (And' p (more_of-Cond a end_of-Cond) q (more_of-Cond b end_of-Cond)) row results = and_of (truth_of a row results) (truth_of b row results)
  truth_of (Or' p (more_of-Cond a end_of-Cond) q (more_of-Cond b end_of-Cond)) row results = or_of (truth_of a row results) (truth_of b row results)
  truth_of (Not' p (more_of-Cond a end_of-Cond)) row results = not_of (truth_of a row results)
  truth_of Always row results = Yes

-- whether a condition is true of a row
abbrev pub keeps : Cond → Results → Row → Bool
keeps c results row = is_yes (truth_of c row results)

-- the values of expressions over a row
abbrev pub items_of : List Expr → Results → Row → Row
items_of es results row = map (λ e. value_of e row results) es
