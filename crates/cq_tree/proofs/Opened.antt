-- The trees as patterns see them: a boxed part is a row of one, and a list of parts a row of them all.
use Rattle.std.proofs.Common.{◌≡◌, ℤ, List, refl}
use denote.Hole.Carrier.{hidden}
use Rattle.cq_tree.specs.declared.expression.Arm.{Arm}
use Rattle.cq_tree.specs.declared.expression.Expr.{Expr, Neg, Neg', Add, Add', Sub, Sub', Mul, Mul', Div, Div', Rem, Rem', Case, Case', Coalesce, Coalesce', Row_of-Expr, end_of-Expr, more_of-Expr}
use Rattle.cq_tree.specs.declared.expression.Cond.{Cond, And, And', Or, Or', Not, Not', end_of-Cond, more_of-Cond}
use Rattle.cq_tree.specs.declared.expression.Cond.TheBlock.{shape-the_row-Arm-2, hidden-the_row-Arm-2, shape-the_row-Cond-0, hidden-the_row-Cond-0, shape-the_row-Expr-1, hidden-the_row-Expr-1, shape-the_row-Expr-3, hidden-the_row-Expr-3}
use Rattle.cq_tree.specs.declared.query.Query.{Query}
use Rattle.cq_tree.specs.declared.query.FromTree as tree
use Rattle.cq_tree.specs.declared.query.FromTree.{FromTree, end_of-FromTree, more_of-FromTree, end_of-Query, more_of-Query}
use Rattle.cq_tree.specs.declared.query.FromTree.TheBlock.{shape-the_row-FromTree-1, hidden-the_row-FromTree-1, shape-the_row-Query-0, hidden-the_row-Query-0}

-- expressions

pub neg_is : (a : Expr) → Neg a ≡ Neg' (shape-the_row-Expr-1 a) (more_of-Expr a end_of-Expr)
unfolding hidden-the_row-Expr-1 hidden
neg_is a = refl

pub add_is : (a b : Expr) → Add a b ≡ Add' (shape-the_row-Expr-1 a) (more_of-Expr a end_of-Expr) (shape-the_row-Expr-1 b) (more_of-Expr b end_of-Expr)
unfolding hidden-the_row-Expr-1 hidden
add_is a b = refl

pub sub_is : (a b : Expr) → Sub a b ≡ Sub' (shape-the_row-Expr-1 a) (more_of-Expr a end_of-Expr) (shape-the_row-Expr-1 b) (more_of-Expr b end_of-Expr)
unfolding hidden-the_row-Expr-1 hidden
sub_is a b = refl

pub mul_is : (a b : Expr) → Mul a b ≡ Mul' (shape-the_row-Expr-1 a) (more_of-Expr a end_of-Expr) (shape-the_row-Expr-1 b) (more_of-Expr b end_of-Expr)
unfolding hidden-the_row-Expr-1 hidden
mul_is a b = refl

pub div_is : (a : Expr) (c : ℤ) → Div a c ≡ Div' (shape-the_row-Expr-1 a) (more_of-Expr a end_of-Expr) c
unfolding hidden-the_row-Expr-1 hidden
div_is a c = refl

pub rem_is : (a : Expr) (c : ℤ) → Rem a c ≡ Rem' (shape-the_row-Expr-1 a) (more_of-Expr a end_of-Expr) c
unfolding hidden-the_row-Expr-1 hidden
rem_is a c = refl

pub case_is : (arms : List Arm) (other : Expr) → Case arms other ≡ Case' (shape-the_row-Arm-2 arms) (hidden-the_row-Arm-2 arms) (shape-the_row-Expr-1 other) (more_of-Expr other end_of-Expr)
unfolding hidden-the_row-Expr-1 hidden
case_is arms other = refl

pub coalesce_is : (es : List Expr) → Coalesce es ≡ Coalesce' (shape-the_row-Expr-3 es) (hidden-the_row-Expr-3 es)
coalesce_is es = refl

-- conditions

pub and_is : (a b : Cond) → And a b ≡ And' (shape-the_row-Cond-0 a) (more_of-Cond a end_of-Cond) (shape-the_row-Cond-0 b) (more_of-Cond b end_of-Cond)
unfolding hidden-the_row-Cond-0 hidden
and_is a b = refl

pub or_is : (a b : Cond) → Or a b ≡ Or' (shape-the_row-Cond-0 a) (more_of-Cond a end_of-Cond) (shape-the_row-Cond-0 b) (more_of-Cond b end_of-Cond)
unfolding hidden-the_row-Cond-0 hidden
or_is a b = refl

pub not_is : (a : Cond) → Not a ≡ Not' (shape-the_row-Cond-0 a) (more_of-Cond a end_of-Cond)
unfolding hidden-the_row-Cond-0 hidden
not_is a = refl

-- FROM

pub subquery_is : (q : Query) → tree.Sub q ≡ tree.Sub' (shape-the_row-Query-0 q) (more_of-Query q end_of-Query)
unfolding hidden-the_row-Query-0 hidden
subquery_is q = refl

pub cross_is : (a b : FromTree) → tree.Cross a b ≡ tree.Cross' (shape-the_row-FromTree-1 a) (more_of-FromTree a end_of-FromTree) (shape-the_row-FromTree-1 b) (more_of-FromTree b end_of-FromTree)
unfolding hidden-the_row-FromTree-1 hidden
cross_is a b = refl

pub inner_is : (a b : FromTree) (on : Cond) → tree.Inner a b on ≡ tree.Inner' (shape-the_row-FromTree-1 a) (more_of-FromTree a end_of-FromTree) (shape-the_row-FromTree-1 b) (more_of-FromTree b end_of-FromTree) on
unfolding hidden-the_row-FromTree-1 hidden
inner_is a b on = refl

pub left_is : (a b : FromTree) (on : Cond) → tree.Left a b on ≡ tree.Left' (shape-the_row-FromTree-1 a) (more_of-FromTree a end_of-FromTree) (shape-the_row-FromTree-1 b) (more_of-FromTree b end_of-FromTree) on
unfolding hidden-the_row-FromTree-1 hidden
left_is a b on = refl
