-- The trees that the rules make.
use Rattle.cq_tree.specs.declared.expression.Expr.{Expr, Add, Sub}
use Rattle.cq_grammar.specs.declared.expr.AddOperator.{AddOperator}
use Rattle.cq_grammar.specs.declared.expr.AddOperator.TheVariants as add

abbrev pub sum_of : AddOperator → Expr → Expr → Expr
sum_of add.Plus a b = Add a b
sum_of add.Minus a b = Sub a b
