-- Expressions that are found to be equal are one expression.
use Rattle.std.proofs.Common.{◌≡◌, Bool, true, List, [], ◌∷◌, map, refl, sym, ◌∙◌, ap, subst, arith}
use Rattle.std.proofs.lemmas.Bool.Decides.{Decides-int_eq}
use Rattle.std.proofs.lemmas.Slice.Eq.{bytes_eq-Decides}
use Rattle.cq_value.specs.declared.value.Value.{Value}
use Rattle.cq_value.specs.declared.value.Value.TheVariants.{Null, Int, Text}
use Rattle.cq_tree.specs.declared.expression.Op.{Op}
use Rattle.cq_tree.specs.declared.expression.Op.TheVariants as op
use Rattle.std.specs.Prelude.{ℕ, nat_eq}
use Rattle.cq_value.proofs.Truths.{and_left, and_right}
use Rattle.cq_tree.specs.declared.expression.Expr.{Expr, out-Expr, roll-Expr, roll-out-Expr}
use Rattle.cq_tree.specs.declared.expression.Arm.{Arm, out-Arm, roll-Arm, roll-out-Arm}
use Rattle.cq_tree.specs.declared.expression.Cond.{Cond, out-Cond, roll-Cond, roll-out-Cond}
use Rattle.cq_tree.specs.declared.expression.Cond.TheOpen.{Expr-F, Cond-F, Arm-F}
use Rattle.cq_tree.specs.declared.expression.Cond.TheFolds.{map-Expr, map-Cond, map-Arm, fold-roll-Expr, fold-roll-Cond, fold-roll-Arm, ind-Cond, ind-Expr}
use Rattle.cq_tree.specs.Equal.{equal_values, equal_ops, equal_each, expr_layer, arm_layer, cond_layer, equal_exprs, equal_conds, equal_arms}
use Rattle.cq_same.proofs.Truths.{no_truth}

pub values_same : (v w : Value) → equal_values v w ≡ true → v ≡ w
values_same Null Null h = refl
values_same (Int x) (Int y) h = ap Int ((Decides-int_eq x y).0 h)
values_same (Text s) (Text t) h = ap Text ((bytes_eq-Decides s t).0 h)
values_same Null (Int y) h = absurd (no_truth h)
values_same Null (Text t) h = absurd (no_truth h)
values_same (Int x) Null h = absurd (no_truth h)
values_same (Int x) (Text t) h = absurd (no_truth h)
values_same (Text s) Null h = absurd (no_truth h)
values_same (Text s) (Int y) h = absurd (no_truth h)

ops_same : (o p : Op) → equal_ops o p ≡ true → o ≡ p
ops_same op.Eq op.Eq h = refl
ops_same op.Eq op.Ne h = absurd (no_truth h)
ops_same op.Eq op.Lt h = absurd (no_truth h)
ops_same op.Eq op.Le h = absurd (no_truth h)
ops_same op.Eq op.Gt h = absurd (no_truth h)
ops_same op.Eq op.Ge h = absurd (no_truth h)
ops_same op.Ne op.Eq h = absurd (no_truth h)
ops_same op.Ne op.Ne h = refl
ops_same op.Ne op.Lt h = absurd (no_truth h)
ops_same op.Ne op.Le h = absurd (no_truth h)
ops_same op.Ne op.Gt h = absurd (no_truth h)
ops_same op.Ne op.Ge h = absurd (no_truth h)
ops_same op.Lt op.Eq h = absurd (no_truth h)
ops_same op.Lt op.Ne h = absurd (no_truth h)
ops_same op.Lt op.Lt h = refl
ops_same op.Lt op.Le h = absurd (no_truth h)
ops_same op.Lt op.Gt h = absurd (no_truth h)
ops_same op.Lt op.Ge h = absurd (no_truth h)
ops_same op.Le op.Eq h = absurd (no_truth h)
ops_same op.Le op.Ne h = absurd (no_truth h)
ops_same op.Le op.Lt h = absurd (no_truth h)
ops_same op.Le op.Le h = refl
ops_same op.Le op.Gt h = absurd (no_truth h)
ops_same op.Le op.Ge h = absurd (no_truth h)
ops_same op.Gt op.Eq h = absurd (no_truth h)
ops_same op.Gt op.Ne h = absurd (no_truth h)
ops_same op.Gt op.Lt h = absurd (no_truth h)
ops_same op.Gt op.Le h = absurd (no_truth h)
ops_same op.Gt op.Gt h = refl
ops_same op.Gt op.Ge h = absurd (no_truth h)
ops_same op.Ge op.Eq h = absurd (no_truth h)
ops_same op.Ge op.Ne h = absurd (no_truth h)
ops_same op.Ge op.Lt h = absurd (no_truth h)
ops_same op.Ge op.Le h = absurd (no_truth h)
ops_same op.Ge op.Gt h = absurd (no_truth h)
ops_same op.Ge op.Ge h = refl

-- what it finds equal is the same
abbrev Tells : {A : Type 0} → (A → A → Bool) → A → Type 0
Tells eq a = (b : _) → eq a b ≡ true → a ≡ b

abbrev Told : (Type 0 → Type 0 → Type 0 → Type 0) → Type 0
Told F = F ((c : Cond) × Tells equal_conds c) ((e : Expr) × Tells equal_exprs e) ((a : Arm) × Tells equal_arms a)

leb_eq : (i j : ℕ) → nat_eq i j ≡ true → i ≡ j
leb_eq i j h = grind (arith, h)

two : {A B C : Type 0} (f : A → B → C) {a a' : A} {b b' : B} → a ≡ a' → b ≡ b' → f a b ≡ f a' b'
two f p q = λ i. f (p i) (q i)

three : {A B C D : Type 0} (f : A → B → C → D) {a a' : A} {b b' : B} {c c' : C} → a ≡ a' → b ≡ b' → c ≡ c' → f a b c ≡ f a' b' c'
three f p q r = λ i. f (p i) (q i) (r i)

each_same : {A : Type 0} (eq : A → A → Bool) (xs : List ((a : A) × Tells eq a)) (ys : List A) → equal_each (map eq (map (λ e. e.0) xs)) ys ≡ true → map (λ e. e.0) xs ≡ ys
each_same eq [] [] h = refl
each_same eq [] (y ∷ ys) h = absurd (no_truth h)
each_same eq (x ∷ xs) [] h = absurd (no_truth h)
each_same eq (x ∷ xs) (y ∷ ys) h = two ◌∷◌ (x.1 y (and_left _ _ h)) (each_same eq xs ys (and_right _ _ h))

expr_same : (y : Told Expr-F) (z : Expr-F Cond Expr Arm) → expr_layer (map-Expr _ _ _ _ _ _ equal_conds equal_exprs equal_arms (map-Expr _ _ _ _ _ _ (λ e. e.0) (λ e. e.0) (λ e. e.0) y)) z ≡ true → map-Expr _ _ _ _ _ _ (λ e. e.0) (λ e. e.0) (λ e. e.0) y ≡ z
expr_same (Expr-F.Literal v) (Expr-F.Literal v') h = ap Expr-F.Literal (values_same v v' h)
expr_same (Expr-F.Literal v) (Expr-F.Column i') h = absurd (no_truth h)
expr_same (Expr-F.Literal v) (Expr-F.Neg a') h = absurd (no_truth h)
expr_same (Expr-F.Literal v) (Expr-F.Add a' b') h = absurd (no_truth h)
expr_same (Expr-F.Literal v) (Expr-F.Sub a' b') h = absurd (no_truth h)
expr_same (Expr-F.Literal v) (Expr-F.Mul a' b') h = absurd (no_truth h)
expr_same (Expr-F.Literal v) (Expr-F.Div a' c') h = absurd (no_truth h)
expr_same (Expr-F.Literal v) (Expr-F.Rem a' c') h = absurd (no_truth h)
expr_same (Expr-F.Literal v) (Expr-F.Case xs' a') h = absurd (no_truth h)
expr_same (Expr-F.Literal v) (Expr-F.Coalesce xs') h = absurd (no_truth h)
expr_same (Expr-F.Column i) (Expr-F.Literal v') h = absurd (no_truth h)
expr_same (Expr-F.Column i) (Expr-F.Column i') h = ap Expr-F.Column (leb_eq i i' h)
expr_same (Expr-F.Column i) (Expr-F.Neg a') h = absurd (no_truth h)
expr_same (Expr-F.Column i) (Expr-F.Add a' b') h = absurd (no_truth h)
expr_same (Expr-F.Column i) (Expr-F.Sub a' b') h = absurd (no_truth h)
expr_same (Expr-F.Column i) (Expr-F.Mul a' b') h = absurd (no_truth h)
expr_same (Expr-F.Column i) (Expr-F.Div a' c') h = absurd (no_truth h)
expr_same (Expr-F.Column i) (Expr-F.Rem a' c') h = absurd (no_truth h)
expr_same (Expr-F.Column i) (Expr-F.Case xs' a') h = absurd (no_truth h)
expr_same (Expr-F.Column i) (Expr-F.Coalesce xs') h = absurd (no_truth h)
expr_same (Expr-F.Neg a) (Expr-F.Literal v') h = absurd (no_truth h)
expr_same (Expr-F.Neg a) (Expr-F.Column i') h = absurd (no_truth h)
expr_same (Expr-F.Neg a) (Expr-F.Neg a') h = ap Expr-F.Neg (a.1 a' h)
expr_same (Expr-F.Neg a) (Expr-F.Add a' b') h = absurd (no_truth h)
expr_same (Expr-F.Neg a) (Expr-F.Sub a' b') h = absurd (no_truth h)
expr_same (Expr-F.Neg a) (Expr-F.Mul a' b') h = absurd (no_truth h)
expr_same (Expr-F.Neg a) (Expr-F.Div a' c') h = absurd (no_truth h)
expr_same (Expr-F.Neg a) (Expr-F.Rem a' c') h = absurd (no_truth h)
expr_same (Expr-F.Neg a) (Expr-F.Case xs' a') h = absurd (no_truth h)
expr_same (Expr-F.Neg a) (Expr-F.Coalesce xs') h = absurd (no_truth h)
expr_same (Expr-F.Add a b) (Expr-F.Literal v') h = absurd (no_truth h)
expr_same (Expr-F.Add a b) (Expr-F.Column i') h = absurd (no_truth h)
expr_same (Expr-F.Add a b) (Expr-F.Neg a') h = absurd (no_truth h)
expr_same (Expr-F.Add a b) (Expr-F.Add a' b') h = two Expr-F.Add (a.1 a' (and_left _ _ h)) (b.1 b' (and_right _ _ h))
expr_same (Expr-F.Add a b) (Expr-F.Sub a' b') h = absurd (no_truth h)
expr_same (Expr-F.Add a b) (Expr-F.Mul a' b') h = absurd (no_truth h)
expr_same (Expr-F.Add a b) (Expr-F.Div a' c') h = absurd (no_truth h)
expr_same (Expr-F.Add a b) (Expr-F.Rem a' c') h = absurd (no_truth h)
expr_same (Expr-F.Add a b) (Expr-F.Case xs' a') h = absurd (no_truth h)
expr_same (Expr-F.Add a b) (Expr-F.Coalesce xs') h = absurd (no_truth h)
expr_same (Expr-F.Sub a b) (Expr-F.Literal v') h = absurd (no_truth h)
expr_same (Expr-F.Sub a b) (Expr-F.Column i') h = absurd (no_truth h)
expr_same (Expr-F.Sub a b) (Expr-F.Neg a') h = absurd (no_truth h)
expr_same (Expr-F.Sub a b) (Expr-F.Add a' b') h = absurd (no_truth h)
expr_same (Expr-F.Sub a b) (Expr-F.Sub a' b') h = two Expr-F.Sub (a.1 a' (and_left _ _ h)) (b.1 b' (and_right _ _ h))
expr_same (Expr-F.Sub a b) (Expr-F.Mul a' b') h = absurd (no_truth h)
expr_same (Expr-F.Sub a b) (Expr-F.Div a' c') h = absurd (no_truth h)
expr_same (Expr-F.Sub a b) (Expr-F.Rem a' c') h = absurd (no_truth h)
expr_same (Expr-F.Sub a b) (Expr-F.Case xs' a') h = absurd (no_truth h)
expr_same (Expr-F.Sub a b) (Expr-F.Coalesce xs') h = absurd (no_truth h)
expr_same (Expr-F.Mul a b) (Expr-F.Literal v') h = absurd (no_truth h)
expr_same (Expr-F.Mul a b) (Expr-F.Column i') h = absurd (no_truth h)
expr_same (Expr-F.Mul a b) (Expr-F.Neg a') h = absurd (no_truth h)
expr_same (Expr-F.Mul a b) (Expr-F.Add a' b') h = absurd (no_truth h)
expr_same (Expr-F.Mul a b) (Expr-F.Sub a' b') h = absurd (no_truth h)
expr_same (Expr-F.Mul a b) (Expr-F.Mul a' b') h = two Expr-F.Mul (a.1 a' (and_left _ _ h)) (b.1 b' (and_right _ _ h))
expr_same (Expr-F.Mul a b) (Expr-F.Div a' c') h = absurd (no_truth h)
expr_same (Expr-F.Mul a b) (Expr-F.Rem a' c') h = absurd (no_truth h)
expr_same (Expr-F.Mul a b) (Expr-F.Case xs' a') h = absurd (no_truth h)
expr_same (Expr-F.Mul a b) (Expr-F.Coalesce xs') h = absurd (no_truth h)
expr_same (Expr-F.Div a c) (Expr-F.Literal v') h = absurd (no_truth h)
expr_same (Expr-F.Div a c) (Expr-F.Column i') h = absurd (no_truth h)
expr_same (Expr-F.Div a c) (Expr-F.Neg a') h = absurd (no_truth h)
expr_same (Expr-F.Div a c) (Expr-F.Add a' b') h = absurd (no_truth h)
expr_same (Expr-F.Div a c) (Expr-F.Sub a' b') h = absurd (no_truth h)
expr_same (Expr-F.Div a c) (Expr-F.Mul a' b') h = absurd (no_truth h)
expr_same (Expr-F.Div a c) (Expr-F.Div a' c') h = two Expr-F.Div (a.1 a' (and_left _ _ h)) ((Decides-int_eq c c').0 (and_right _ _ h))
expr_same (Expr-F.Div a c) (Expr-F.Rem a' c') h = absurd (no_truth h)
expr_same (Expr-F.Div a c) (Expr-F.Case xs' a') h = absurd (no_truth h)
expr_same (Expr-F.Div a c) (Expr-F.Coalesce xs') h = absurd (no_truth h)
expr_same (Expr-F.Rem a c) (Expr-F.Literal v') h = absurd (no_truth h)
expr_same (Expr-F.Rem a c) (Expr-F.Column i') h = absurd (no_truth h)
expr_same (Expr-F.Rem a c) (Expr-F.Neg a') h = absurd (no_truth h)
expr_same (Expr-F.Rem a c) (Expr-F.Add a' b') h = absurd (no_truth h)
expr_same (Expr-F.Rem a c) (Expr-F.Sub a' b') h = absurd (no_truth h)
expr_same (Expr-F.Rem a c) (Expr-F.Mul a' b') h = absurd (no_truth h)
expr_same (Expr-F.Rem a c) (Expr-F.Div a' c') h = absurd (no_truth h)
expr_same (Expr-F.Rem a c) (Expr-F.Rem a' c') h = two Expr-F.Rem (a.1 a' (and_left _ _ h)) ((Decides-int_eq c c').0 (and_right _ _ h))
expr_same (Expr-F.Rem a c) (Expr-F.Case xs' a') h = absurd (no_truth h)
expr_same (Expr-F.Rem a c) (Expr-F.Coalesce xs') h = absurd (no_truth h)
expr_same (Expr-F.Case xs a) (Expr-F.Literal v') h = absurd (no_truth h)
expr_same (Expr-F.Case xs a) (Expr-F.Column i') h = absurd (no_truth h)
expr_same (Expr-F.Case xs a) (Expr-F.Neg a') h = absurd (no_truth h)
expr_same (Expr-F.Case xs a) (Expr-F.Add a' b') h = absurd (no_truth h)
expr_same (Expr-F.Case xs a) (Expr-F.Sub a' b') h = absurd (no_truth h)
expr_same (Expr-F.Case xs a) (Expr-F.Mul a' b') h = absurd (no_truth h)
expr_same (Expr-F.Case xs a) (Expr-F.Div a' c') h = absurd (no_truth h)
expr_same (Expr-F.Case xs a) (Expr-F.Rem a' c') h = absurd (no_truth h)
expr_same (Expr-F.Case xs a) (Expr-F.Case xs' a') h = two Expr-F.Case (each_same equal_arms xs xs' (and_left _ _ h)) (a.1 a' (and_right _ _ h))
expr_same (Expr-F.Case xs a) (Expr-F.Coalesce xs') h = absurd (no_truth h)
expr_same (Expr-F.Coalesce xs) (Expr-F.Literal v') h = absurd (no_truth h)
expr_same (Expr-F.Coalesce xs) (Expr-F.Column i') h = absurd (no_truth h)
expr_same (Expr-F.Coalesce xs) (Expr-F.Neg a') h = absurd (no_truth h)
expr_same (Expr-F.Coalesce xs) (Expr-F.Add a' b') h = absurd (no_truth h)
expr_same (Expr-F.Coalesce xs) (Expr-F.Sub a' b') h = absurd (no_truth h)
expr_same (Expr-F.Coalesce xs) (Expr-F.Mul a' b') h = absurd (no_truth h)
expr_same (Expr-F.Coalesce xs) (Expr-F.Div a' c') h = absurd (no_truth h)
expr_same (Expr-F.Coalesce xs) (Expr-F.Rem a' c') h = absurd (no_truth h)
expr_same (Expr-F.Coalesce xs) (Expr-F.Case xs' a') h = absurd (no_truth h)
expr_same (Expr-F.Coalesce xs) (Expr-F.Coalesce xs') h = ap Expr-F.Coalesce (each_same equal_exprs xs xs' h)

cond_same : (y : Told Cond-F) (z : Cond-F Cond Expr Arm) → cond_layer (map-Cond _ _ _ _ _ _ equal_conds equal_exprs equal_arms (map-Cond _ _ _ _ _ _ (λ e. e.0) (λ e. e.0) (λ e. e.0) y)) z ≡ true → map-Cond _ _ _ _ _ _ (λ e. e.0) (λ e. e.0) (λ e. e.0) y ≡ z
cond_same (Cond-F.Compare o a b) (Cond-F.Compare o' a' b') h = three Cond-F.Compare (ops_same o o' (and_left _ _ (and_left _ _ h))) (a.1 a' (and_right _ _ (and_left _ _ h))) (b.1 b' (and_right _ _ h))
cond_same (Cond-F.Compare o a b) (Cond-F.IsNull a') h = absurd (no_truth h)
cond_same (Cond-F.Compare o a b) (Cond-F.InResult a' i') h = absurd (no_truth h)
cond_same (Cond-F.Compare o a b) (Cond-F.And a' b') h = absurd (no_truth h)
cond_same (Cond-F.Compare o a b) (Cond-F.Or a' b') h = absurd (no_truth h)
cond_same (Cond-F.Compare o a b) (Cond-F.Not a') h = absurd (no_truth h)
cond_same (Cond-F.Compare o a b) Cond-F.Always h = absurd (no_truth h)
cond_same (Cond-F.IsNull a) (Cond-F.Compare o' a' b') h = absurd (no_truth h)
cond_same (Cond-F.IsNull a) (Cond-F.IsNull a') h = ap Cond-F.IsNull (a.1 a' h)
cond_same (Cond-F.IsNull a) (Cond-F.InResult a' i') h = absurd (no_truth h)
cond_same (Cond-F.IsNull a) (Cond-F.And a' b') h = absurd (no_truth h)
cond_same (Cond-F.IsNull a) (Cond-F.Or a' b') h = absurd (no_truth h)
cond_same (Cond-F.IsNull a) (Cond-F.Not a') h = absurd (no_truth h)
cond_same (Cond-F.IsNull a) Cond-F.Always h = absurd (no_truth h)
cond_same (Cond-F.InResult a i) (Cond-F.Compare o' a' b') h = absurd (no_truth h)
cond_same (Cond-F.InResult a i) (Cond-F.IsNull a') h = absurd (no_truth h)
cond_same (Cond-F.InResult a i) (Cond-F.InResult a' i') h = two Cond-F.InResult (a.1 a' (and_left _ _ h)) (leb_eq i i' (and_right _ _ h))
cond_same (Cond-F.InResult a i) (Cond-F.And a' b') h = absurd (no_truth h)
cond_same (Cond-F.InResult a i) (Cond-F.Or a' b') h = absurd (no_truth h)
cond_same (Cond-F.InResult a i) (Cond-F.Not a') h = absurd (no_truth h)
cond_same (Cond-F.InResult a i) Cond-F.Always h = absurd (no_truth h)
cond_same (Cond-F.And a b) (Cond-F.Compare o' a' b') h = absurd (no_truth h)
cond_same (Cond-F.And a b) (Cond-F.IsNull a') h = absurd (no_truth h)
cond_same (Cond-F.And a b) (Cond-F.InResult a' i') h = absurd (no_truth h)
cond_same (Cond-F.And a b) (Cond-F.And a' b') h = two Cond-F.And (a.1 a' (and_left _ _ h)) (b.1 b' (and_right _ _ h))
cond_same (Cond-F.And a b) (Cond-F.Or a' b') h = absurd (no_truth h)
cond_same (Cond-F.And a b) (Cond-F.Not a') h = absurd (no_truth h)
cond_same (Cond-F.And a b) Cond-F.Always h = absurd (no_truth h)
cond_same (Cond-F.Or a b) (Cond-F.Compare o' a' b') h = absurd (no_truth h)
cond_same (Cond-F.Or a b) (Cond-F.IsNull a') h = absurd (no_truth h)
cond_same (Cond-F.Or a b) (Cond-F.InResult a' i') h = absurd (no_truth h)
cond_same (Cond-F.Or a b) (Cond-F.And a' b') h = absurd (no_truth h)
cond_same (Cond-F.Or a b) (Cond-F.Or a' b') h = two Cond-F.Or (a.1 a' (and_left _ _ h)) (b.1 b' (and_right _ _ h))
cond_same (Cond-F.Or a b) (Cond-F.Not a') h = absurd (no_truth h)
cond_same (Cond-F.Or a b) Cond-F.Always h = absurd (no_truth h)
cond_same (Cond-F.Not a) (Cond-F.Compare o' a' b') h = absurd (no_truth h)
cond_same (Cond-F.Not a) (Cond-F.IsNull a') h = absurd (no_truth h)
cond_same (Cond-F.Not a) (Cond-F.InResult a' i') h = absurd (no_truth h)
cond_same (Cond-F.Not a) (Cond-F.And a' b') h = absurd (no_truth h)
cond_same (Cond-F.Not a) (Cond-F.Or a' b') h = absurd (no_truth h)
cond_same (Cond-F.Not a) (Cond-F.Not a') h = ap Cond-F.Not (a.1 a' h)
cond_same (Cond-F.Not a) Cond-F.Always h = absurd (no_truth h)
cond_same Cond-F.Always (Cond-F.Compare o' a' b') h = absurd (no_truth h)
cond_same Cond-F.Always (Cond-F.IsNull a') h = absurd (no_truth h)
cond_same Cond-F.Always (Cond-F.InResult a' i') h = absurd (no_truth h)
cond_same Cond-F.Always (Cond-F.And a' b') h = absurd (no_truth h)
cond_same Cond-F.Always (Cond-F.Or a' b') h = absurd (no_truth h)
cond_same Cond-F.Always (Cond-F.Not a') h = absurd (no_truth h)
cond_same Cond-F.Always Cond-F.Always h = refl

arm_same : (y : Told Arm-F) (z : Arm-F Cond Expr Arm) → arm_layer (map-Arm _ _ _ _ _ _ equal_conds equal_exprs equal_arms (map-Arm _ _ _ _ _ _ (λ e. e.0) (λ e. e.0) (λ e. e.0) y)) z ≡ true → map-Arm _ _ _ _ _ _ (λ e. e.0) (λ e. e.0) (λ e. e.0) y ≡ z
arm_same y z h = λ i. record { when = y.when.1 z.when (and_left _ _ h) i; then = y.then.1 z.then (and_right _ _ h) i }

made_cond : (x : Cond-F Cond Expr Arm) (y : Told Cond-F) → map-Cond _ _ _ _ _ _ (λ e. e.0) (λ e. e.0) (λ e. e.0) y ≡ x → Tells equal_conds (roll-Cond x)
made_cond x y is b h =
    let e : cond_layer (map-Cond _ _ _ _ _ _ equal_conds equal_exprs equal_arms x) (out-Cond b) ≡ true = sym (ap (λ f. f b) (fold-roll-Cond (Cond → Bool) (Expr → Bool) (Arm → Bool) (λ l c. cond_layer l (out-Cond c)) (λ l e. expr_layer l (out-Expr e)) (λ l a. arm_layer l (out-Arm a)) x)) ∙ h in
    ap roll-Cond (sym is ∙ cond_same y (out-Cond b) (subst (λ z. cond_layer (map-Cond _ _ _ _ _ _ equal_conds equal_exprs equal_arms z) (out-Cond b) ≡ true) (sym is) e)) ∙ roll-out-Cond b

made_expr : (x : Expr-F Cond Expr Arm) (y : Told Expr-F) → map-Expr _ _ _ _ _ _ (λ e. e.0) (λ e. e.0) (λ e. e.0) y ≡ x → Tells equal_exprs (roll-Expr x)
made_expr x y is b h =
    let e : expr_layer (map-Expr _ _ _ _ _ _ equal_conds equal_exprs equal_arms x) (out-Expr b) ≡ true = sym (ap (λ f. f b) (fold-roll-Expr (Cond → Bool) (Expr → Bool) (Arm → Bool) (λ l c. cond_layer l (out-Cond c)) (λ l e. expr_layer l (out-Expr e)) (λ l a. arm_layer l (out-Arm a)) x)) ∙ h in
    ap roll-Expr (sym is ∙ expr_same y (out-Expr b) (subst (λ z. expr_layer (map-Expr _ _ _ _ _ _ equal_conds equal_exprs equal_arms z) (out-Expr b) ≡ true) (sym is) e)) ∙ roll-out-Expr b

made_arm : (x : Arm-F Cond Expr Arm) (y : Told Arm-F) → map-Arm _ _ _ _ _ _ (λ e. e.0) (λ e. e.0) (λ e. e.0) y ≡ x → Tells equal_arms (roll-Arm x)
made_arm x y is b h =
    let e : arm_layer (map-Arm _ _ _ _ _ _ equal_conds equal_exprs equal_arms x) (out-Arm b) ≡ true = sym (ap (λ f. f b) (fold-roll-Arm (Cond → Bool) (Expr → Bool) (Arm → Bool) (λ l c. cond_layer l (out-Cond c)) (λ l e. expr_layer l (out-Expr e)) (λ l a. arm_layer l (out-Arm a)) x)) ∙ h in
    ap roll-Arm (sym is ∙ arm_same y (out-Arm b) (subst (λ z. arm_layer (map-Arm _ _ _ _ _ _ equal_conds equal_exprs equal_arms z) (out-Arm b) ≡ true) (sym is) e)) ∙ roll-out-Arm b

pub exprs_same : (a b : Expr) → equal_exprs a b ≡ true → a ≡ b
exprs_same = ind-Expr (Tells equal_conds) (Tells equal_exprs) (Tells equal_arms) made_cond made_expr made_arm

pub conds_same : (a b : Cond) → equal_conds a b ≡ true → a ≡ b
conds_same = ind-Cond (Tells equal_conds) (Tells equal_exprs) (Tells equal_arms) made_cond made_expr made_arm
