-- Whether two bound expressions, or two conditions, are one.
use Rattle.std.specs.Prelude.{Bool, true, false, ◌&&◌, nat_eq, bytes_eq, List, [], ◌∷◌}
use Rattle.std.specs.Ordering.{int_eq}
use Rattle.cq_value.specs.declared.value.Value.{Value}
use Rattle.cq_value.specs.declared.value.Value.TheVariants.{Null, Int, Text}
use Rattle.cq_tree.specs.declared.expression.Op.{Op}
use Rattle.cq_tree.specs.declared.expression.Op.TheVariants as op
use Rattle.cq_tree.specs.declared.expression.Expr.{Expr, out-Expr}
use Rattle.cq_tree.specs.declared.expression.Arm.{Arm, out-Arm}
use Rattle.cq_tree.specs.declared.expression.Cond.{Cond, out-Cond}
use Rattle.cq_tree.specs.declared.expression.Cond.TheOpen.{Expr-F, Cond-F, Arm-F}
use Rattle.cq_tree.specs.declared.expression.Cond.TheFolds.{fold-Cond, fold-Expr, fold-Arm}

abbrev pub equal_values : Value → Value → Bool
equal_values Null Null = true
equal_values (Int x) (Int y) = int_eq x y
equal_values (Text s) (Text t) = bytes_eq s t
equal_values _ _ = false

abbrev pub equal_ops : Op → Op → Bool
equal_ops op.Eq op.Eq = true
equal_ops op.Ne op.Ne = true
equal_ops op.Lt op.Lt = true
equal_ops op.Le op.Le = true
equal_ops op.Gt op.Gt = true
equal_ops op.Ge op.Ge = true
equal_ops _ _ = false

-- each test of the one in its place of the other
abbrev pub equal_each : {A : Type 0} → List (A → Bool) → List A → Bool
equal_each [] [] = true
equal_each (f ∷ fs) (a ∷ more) = f a && equal_each fs more
equal_each _ _ = false

abbrev pub expr_layer : Expr-F (Cond → Bool) (Expr → Bool) (Arm → Bool) → Expr-F Cond Expr Arm → Bool
expr_layer (Expr-F.Literal v) (Expr-F.Literal w) = equal_values v w
expr_layer (Expr-F.Column i) (Expr-F.Column j) = nat_eq i j
expr_layer (Expr-F.Neg f) (Expr-F.Neg a) = f a
expr_layer (Expr-F.Add f g) (Expr-F.Add a b) = f a && g b
expr_layer (Expr-F.Sub f g) (Expr-F.Sub a b) = f a && g b
expr_layer (Expr-F.Mul f g) (Expr-F.Mul a b) = f a && g b
expr_layer (Expr-F.Div f c) (Expr-F.Div a d) = f a && int_eq c d
expr_layer (Expr-F.Rem f c) (Expr-F.Rem a d) = f a && int_eq c d
expr_layer (Expr-F.Case fs f) (Expr-F.Case arms a) = equal_each fs arms && f a
expr_layer (Expr-F.Coalesce fs) (Expr-F.Coalesce es) = equal_each fs es
expr_layer _ _ = false

abbrev pub arm_layer : Arm-F (Cond → Bool) (Expr → Bool) (Arm → Bool) → Arm-F Cond Expr Arm → Bool
arm_layer a b = a.when b.when && a.then b.then

abbrev pub cond_layer : Cond-F (Cond → Bool) (Expr → Bool) (Arm → Bool) → Cond-F Cond Expr Arm → Bool
cond_layer (Cond-F.Compare o f g) (Cond-F.Compare p a b) = equal_ops o p && f a && g b
cond_layer (Cond-F.IsNull f) (Cond-F.IsNull a) = f a
cond_layer (Cond-F.InResult f i) (Cond-F.InResult a j) = f a && nat_eq i j
cond_layer (Cond-F.And f g) (Cond-F.And a b) = f a && g b
cond_layer (Cond-F.Or f g) (Cond-F.Or a b) = f a && g b
cond_layer (Cond-F.Not f) (Cond-F.Not a) = f a
cond_layer Cond-F.Always Cond-F.Always = true
cond_layer _ _ = false

abbrev pub equal_exprs : Expr → Expr → Bool
equal_exprs = fold-Expr (Cond → Bool) (Expr → Bool) (Arm → Bool) (λ l c. cond_layer l (out-Cond c)) (λ l e. expr_layer l (out-Expr e)) (λ l a. arm_layer l (out-Arm a))

abbrev pub equal_conds : Cond → Cond → Bool
equal_conds = fold-Cond (Cond → Bool) (Expr → Bool) (Arm → Bool) (λ l c. cond_layer l (out-Cond c)) (λ l e. expr_layer l (out-Expr e)) (λ l a. arm_layer l (out-Arm a))

abbrev pub equal_arms : Arm → Arm → Bool
equal_arms = fold-Arm (Cond → Bool) (Expr → Bool) (Arm → Bool) (λ l c. cond_layer l (out-Cond c)) (λ l e. expr_layer l (out-Expr e)) (λ l a. arm_layer l (out-Arm a))
