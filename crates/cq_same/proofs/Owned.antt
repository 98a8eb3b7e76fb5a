-- An expression is found to be equal to itself.
use Rattle.std.proofs.Common.{◌≡◌, Bool, true, List, [], ◌∷◌, map, refl, ◌∙◌, ap, subst, arith}
use Rattle.std.specs.Prelude.{ℕ, nat_eq}
use Rattle.std.proofs.lemmas.Bool.Decides.{Decides-int_eq}
use Rattle.std.proofs.lemmas.Slice.Eq.{bytes_eq-Decides}
use Rattle.cq_value.proofs.Truths.{both_true}
use Rattle.cq_value.specs.declared.value.Value.{Value}
use Rattle.cq_value.specs.declared.value.Value.TheVariants.{Null, Int, Text}
use Rattle.cq_tree.specs.declared.expression.Op.{Op}
use Rattle.cq_tree.specs.declared.expression.Op.TheVariants as op
use Rattle.cq_tree.specs.declared.expression.Expr.{Expr, out-Expr, roll-Expr, out-roll-Expr}
use Rattle.cq_tree.specs.declared.expression.Arm.{Arm, out-Arm, roll-Arm, out-roll-Arm}
use Rattle.cq_tree.specs.declared.expression.Cond.{Cond, out-Cond, roll-Cond, out-roll-Cond}
use Rattle.cq_tree.specs.declared.expression.Cond.TheOpen.{Expr-F, Cond-F, Arm-F}
use Rattle.cq_tree.specs.declared.expression.Cond.TheFolds.{map-Expr, map-Cond, map-Arm, fold-roll-Expr, fold-roll-Cond, fold-roll-Arm, ind-Cond, ind-Expr}
use Rattle.cq_tree.specs.Equal.{equal_values, equal_ops, equal_each, expr_layer, arm_layer, cond_layer, equal_exprs, equal_conds, equal_arms}

value_own : (v : Value) → equal_values v v ≡ true
value_own Null = refl
value_own (Int x) = (Decides-int_eq x x).1 refl
value_own (Text s) = (bytes_eq-Decides s s).1 refl

op_own : (o : Op) → equal_ops o o ≡ true
op_own op.Eq = refl
op_own op.Ne = refl
op_own op.Lt = refl
op_own op.Le = refl
op_own op.Gt = refl
op_own op.Ge = refl

abbrev Own : {A : Type 0} → (A → A → Bool) → A → Type 0
Own eq a = eq a a ≡ true

abbrev Owned : (Type 0 → Type 0 → Type 0 → Type 0) → Type 0
Owned F = F ((c : Cond) × Own equal_conds c) ((e : Expr) × Own equal_exprs e) ((a : Arm) × Own equal_arms a)

place_own : (i : ℕ) → nat_eq i i ≡ true
place_own i = grind arith

each_own : {A : Type 0} (eq : A → A → Bool) (xs : List ((a : A) × Own eq a)) → equal_each (map eq (map (λ e. e.0) xs)) (map (λ e. e.0) xs) ≡ true
each_own eq [] = refl
each_own eq (x ∷ xs) = both_true _ _ x.1 (each_own eq xs)

expr_own : (y : Owned Expr-F) → expr_layer (map-Expr _ _ _ _ _ _ equal_conds equal_exprs equal_arms (map-Expr _ _ _ _ _ _ (λ e. e.0) (λ e. e.0) (λ e. e.0) y)) (map-Expr _ _ _ _ _ _ (λ e. e.0) (λ e. e.0) (λ e. e.0) y) ≡ true
expr_own (Expr-F.Literal v) = value_own v
expr_own (Expr-F.Column i) = place_own i
expr_own (Expr-F.Neg a) = a.1
expr_own (Expr-F.Add a b) = both_true _ _ a.1 b.1
expr_own (Expr-F.Sub a b) = both_true _ _ a.1 b.1
expr_own (Expr-F.Mul a b) = both_true _ _ a.1 b.1
expr_own (Expr-F.Div a c) = both_true _ _ a.1 ((Decides-int_eq c c).1 refl)
expr_own (Expr-F.Rem a c) = both_true _ _ a.1 ((Decides-int_eq c c).1 refl)
expr_own (Expr-F.Case xs a) = both_true _ _ (each_own equal_arms xs) a.1
expr_own (Expr-F.Coalesce xs) = each_own equal_exprs xs

cond_own : (y : Owned Cond-F) → cond_layer (map-Cond _ _ _ _ _ _ equal_conds equal_exprs equal_arms (map-Cond _ _ _ _ _ _ (λ e. e.0) (λ e. e.0) (λ e. e.0) y)) (map-Cond _ _ _ _ _ _ (λ e. e.0) (λ e. e.0) (λ e. e.0) y) ≡ true
cond_own (Cond-F.Compare o a b) = both_true _ _ (both_true _ _ (op_own o) a.1) b.1
cond_own (Cond-F.IsNull a) = a.1
cond_own (Cond-F.InResult a i) = both_true _ _ a.1 (place_own i)
cond_own (Cond-F.And a b) = both_true _ _ a.1 b.1
cond_own (Cond-F.Or a b) = both_true _ _ a.1 b.1
cond_own (Cond-F.Not a) = a.1
cond_own Cond-F.Always = refl

arm_own : (y : Owned Arm-F) → arm_layer (map-Arm _ _ _ _ _ _ equal_conds equal_exprs equal_arms (map-Arm _ _ _ _ _ _ (λ e. e.0) (λ e. e.0) (λ e. e.0) y)) (map-Arm _ _ _ _ _ _ (λ e. e.0) (λ e. e.0) (λ e. e.0) y) ≡ true
arm_own y = both_true _ _ y.when.1 y.then.1

made_cond : (x : Cond-F Cond Expr Arm) (y : Owned Cond-F) → map-Cond _ _ _ _ _ _ (λ e. e.0) (λ e. e.0) (λ e. e.0) y ≡ x → Own equal_conds (roll-Cond x)
made_cond x y is =
    ap (λ f. f (roll-Cond x)) (fold-roll-Cond (Cond → Bool) (Expr → Bool) (Arm → Bool) (λ l c. cond_layer l (out-Cond c)) (λ l e. expr_layer l (out-Expr e)) (λ l a. arm_layer l (out-Arm a)) x)
    ∙ ap (λ z. cond_layer (map-Cond _ _ _ _ _ _ equal_conds equal_exprs equal_arms x) z) (out-roll-Cond x)
    ∙ subst (λ z. cond_layer (map-Cond _ _ _ _ _ _ equal_conds equal_exprs equal_arms z) z ≡ true) is (cond_own y)

made_expr : (x : Expr-F Cond Expr Arm) (y : Owned Expr-F) → map-Expr _ _ _ _ _ _ (λ e. e.0) (λ e. e.0) (λ e. e.0) y ≡ x → Own equal_exprs (roll-Expr x)
made_expr x y is =
    ap (λ f. f (roll-Expr x)) (fold-roll-Expr (Cond → Bool) (Expr → Bool) (Arm → Bool) (λ l c. cond_layer l (out-Cond c)) (λ l e. expr_layer l (out-Expr e)) (λ l a. arm_layer l (out-Arm a)) x)
    ∙ ap (λ z. expr_layer (map-Expr _ _ _ _ _ _ equal_conds equal_exprs equal_arms x) z) (out-roll-Expr x)
    ∙ subst (λ z. expr_layer (map-Expr _ _ _ _ _ _ equal_conds equal_exprs equal_arms z) z ≡ true) is (expr_own y)

made_arm : (x : Arm-F Cond Expr Arm) (y : Owned Arm-F) → map-Arm _ _ _ _ _ _ (λ e. e.0) (λ e. e.0) (λ e. e.0) y ≡ x → Own equal_arms (roll-Arm x)
made_arm x y is =
    ap (λ f. f (roll-Arm x)) (fold-roll-Arm (Cond → Bool) (Expr → Bool) (Arm → Bool) (λ l c. cond_layer l (out-Cond c)) (λ l e. expr_layer l (out-Expr e)) (λ l a. arm_layer l (out-Arm a)) x)
    ∙ ap (λ z. arm_layer (map-Arm _ _ _ _ _ _ equal_conds equal_exprs equal_arms x) z) (out-roll-Arm x)
    ∙ subst (λ z. arm_layer (map-Arm _ _ _ _ _ _ equal_conds equal_exprs equal_arms z) z ≡ true) is (arm_own y)

pub exprs_own : (a : Expr) → equal_exprs a a ≡ true
exprs_own = ind-Expr (Own equal_conds) (Own equal_exprs) (Own equal_arms) made_cond made_expr made_arm

pub conds_own : (a : Cond) → equal_conds a a ≡ true
conds_own = ind-Cond (Own equal_conds) (Own equal_exprs) (Own equal_arms) made_cond made_expr made_arm

pub values_own : (v : Value) → equal_values v v ≡ true
values_own = value_own
