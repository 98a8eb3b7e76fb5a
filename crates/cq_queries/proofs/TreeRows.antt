-- What the meaning says of the arms and operands that stand in a tree, as lists.
use Rattle.std.proofs.Common.{◌≡◌, List, refl, ap, ◌∙◌, subst}
use Rattle.std.specs.Prelude.{All, unwrap_or}
use Rattle.std.specs.List.{AllByRecursion}
use Rattle.std.proofs.lemmas.List.Elements.{All-from_recursion}
use Rattle.cq_tree.specs.declared.expression.Expr.{Expr, Case, Coalesce, Row_of-Expr, end_of-Expr, more_of-Expr, Row_of-Arm, end_of-Arm, more_of-Arm, items-the_row-Arm, items-the_row-Expr, items_hidden-the_row-Arm-2, items_hidden-the_row-Expr-3}
use Rattle.cq_tree.specs.declared.expression.Cond.TheBlock.{hidden-the_row-Arm-2, hidden-the_row-Expr-3}
use Rattle.cq_tree.specs.declared.expression.Arm.{Arm}
use Rattle.cq_tree.proofs.Opened.{case_is}
use Rattle.cq_meaning.specs.Values.{Row, Results}
use Rattle.cq_meaning.specs.Expressions.{value_of, truth_of, if_yes, known_or, arm_value, first_known}
use Rattle.cq_meaning.specs.Safety.{IsSafe, AreSafe, AreSafeArms, IsSafeArm}
use Rattle.cq_queries.specs.TreeLists.{arm_value_in, first_known_in}

module _ (row : Row) (rs : Results) where
  arms_are : {n : _} (k : Row_of-Arm n) → arm_value k row rs ≡ arm_value_in (items-the_row-Arm _ k) row rs
  arms_are end_of-Arm = refl
  arms_are (more_of-Arm c e more) = ap (λ o. if_yes (truth_of c row rs) (value_of e row rs) o) (arms_are more)

  operands_are : {n : _} (k : Row_of-Expr n) → first_known k row rs ≡ first_known_in (items-the_row-Expr _ k) row rs
  operands_are end_of-Expr = refl
  operands_are (more_of-Expr e more) = ap (λ o. known_or (value_of e row rs) o) (operands_are more)

  safe_arms : {n : _} (k : Row_of-Arm n) → AreSafeArms k row rs → AllByRecursion (IsSafeArm row rs) (items-the_row-Arm _ k)
  safe_arms end_of-Arm h = tt
  safe_arms (more_of-Arm c e more) h = ((h.0, h.1), safe_arms more h.2)

  safe_operands : {n : _} (k : Row_of-Expr n) → AreSafe k row rs → AllByRecursion (λ e. IsSafe e row rs) (items-the_row-Expr _ k)
  safe_operands end_of-Expr h = tt
  safe_operands (more_of-Expr e more) h = (h.0, safe_operands more h.1)

  pub value_of_case : (arms : List Arm) (o : Expr) → value_of (Case arms o) row rs ≡ unwrap_or (arm_value_in arms row rs) (value_of o row rs)
  value_of_case arms o = rw (case_is arms o) (ap (λ x. unwrap_or x (value_of o row rs)) (arms_are (hidden-the_row-Arm-2 arms) ∙ ap (λ xs. arm_value_in xs row rs) (items_hidden-the_row-Arm-2 arms)))

  pub value_of_coalesce : (es : List Expr) → value_of (Coalesce es) row rs ≡ first_known_in es row rs
  value_of_coalesce es = operands_are (hidden-the_row-Expr-3 es) ∙ ap (λ xs. first_known_in xs row rs) (items_hidden-the_row-Expr-3 es)

  pub case_arms : (arms : List Arm) (o : Expr) → IsSafe (Case arms o) row rs → All (IsSafeArm row rs) arms
  case_arms arms o h = All-from_recursion (IsSafeArm row rs) arms (subst (λ xs. AllByRecursion (IsSafeArm row rs) xs) (items_hidden-the_row-Arm-2 arms) (safe_arms (hidden-the_row-Arm-2 arms) (rw (case_is arms o) at h).0))

  pub case_other : (arms : List Arm) (o : Expr) → IsSafe (Case arms o) row rs → IsSafe o row rs
  case_other arms o h = (rw (case_is arms o) at h).1

  pub coalesce_all : (es : List Expr) → IsSafe (Coalesce es) row rs → All (λ e. IsSafe e row rs) es
  coalesce_all es h = All-from_recursion (λ e. IsSafe e row rs) es (subst (λ xs. AllByRecursion (λ e. IsSafe e row rs) xs) (items_hidden-the_row-Expr-3 es) (safe_operands (hidden-the_row-Expr-3 es) h))
