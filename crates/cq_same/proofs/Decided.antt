-- The tests of values, expressions and conditions decide whether these are one.
use Rattle.std.proofs.Common.{◌≡◌, ◌↔◌, Bool, true, IsTrue, subst}
use Rattle.std.proofs.lemmas.Bool.Decides.{same_from_decides}
use Rattle.cq_value.specs.declared.value.Value.{Value}
use Rattle.cq_tree.specs.declared.expression.Expr.{Expr}
use Rattle.cq_tree.specs.declared.expression.Cond.{Cond}
use Rattle.cq_tree.specs.Equal.{equal_values, equal_exprs, equal_conds}
use Rattle.cq_same.proofs.Equals.{values_same, exprs_same, conds_same}
use Rattle.cq_same.proofs.Owned.{values_own, exprs_own, conds_own}

-- what finds only the same equal, and each equal to itself
decided : {A : Type 0} (eq : A → A → Bool) → ((a b : A) → eq a b ≡ true → a ≡ b) → ((a : A) → eq a a ≡ true) → (a b : A) → IsTrue (eq a b) ↔ (a ≡ b)
decided eq same own a b = (same a b, λ is. subst (λ c. eq a c ≡ true) is (own a))

pub values_decided : (a b : Value) → IsTrue (equal_values a b) ↔ (a ≡ b)
values_decided = decided equal_values values_same values_own

pub exprs_decided : (a b : Expr) → IsTrue (equal_exprs a b) ↔ (a ≡ b)
exprs_decided = decided equal_exprs exprs_same exprs_own

pub conds_decided : (a b : Cond) → IsTrue (equal_conds a b) ↔ (a ≡ b)
conds_decided = decided equal_conds conds_same conds_own

pub value_decided : (r : Bool) (a b : Value) → IsTrue r ↔ (a ≡ b) → r ≡ equal_values a b
value_decided r a b h = same_from_decides r (equal_values a b) h (values_decided a b)
