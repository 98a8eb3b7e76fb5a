-- How large a tree is: how many expressions and SELECTs stand in it.
use Rattle.std.specs.Prelude.{ℕ, ◌+◌, Option, None, Some}
use Rattle.std.specs.List.{sum}
use Rattle.cq_grammar.specs.declared.expr.Expr.{Expr}
use Rattle.cq_grammar.specs.declared.expr.Expr.TheFolds.{fold-Expr, fold-Select, fold-Test, fold-Item, fold-Join, fold-Relation, fold-Added, fold-Arm, fold-Chained, fold-Multiplied, fold-From, fold-GroupBy, fold-Having, fold-OrderKey}
use Rattle.cq_grammar.specs.declared.expr.Expr.TheOpen.{Expr-F, Test-F, Item-F, Join-F, Relation-F, Added-F, Arm-F, Chained-F, Multiplied-F, From-F, GroupBy-F, Having-F, OrderKey-F, Select-F}
use Rattle.cq_grammar.specs.declared.expr.Test.{Test}
use Rattle.cq_grammar.specs.declared.expr.Added.{Added}
use Rattle.cq_grammar.specs.declared.expr.Arm.{Arm}
use Rattle.cq_grammar.specs.declared.expr.Chained.{Chained}
use Rattle.cq_grammar.specs.declared.expr.Multiplied.{Multiplied}
use Rattle.cq_grammar.specs.declared.query.Select.{Select}
use Rattle.cq_grammar.specs.declared.query.Item.{Item}
use Rattle.cq_grammar.specs.declared.query.Join.{Join}
use Rattle.cq_grammar.specs.declared.query.Relation.{Relation}
use Rattle.cq_grammar.specs.declared.query.From.{From}
use Rattle.cq_grammar.specs.declared.query.GroupBy.{GroupBy}
use Rattle.cq_grammar.specs.declared.query.Having.{Having}
use Rattle.cq_grammar.specs.declared.query.OrderKey.{OrderKey}

-- a layer of a tree, with the sizes of its parts
abbrev pub Sized : (Type 0 → Type 0 → Type 0 → Type 0 → Type 0 → Type 0 → Type 0 → Type 0 → Type 0 → Type 0 → Type 0 → Type 0 → Type 0 → Type 0 → Type 0) → Type 0
Sized F = F ℕ ℕ ℕ ℕ ℕ ℕ ℕ ℕ ℕ ℕ ℕ ℕ ℕ ℕ

abbrev pub of_option : Option ℕ → ℕ
of_option None = 0
of_option (Some n) = n

abbrev pub of_expr : Sized Expr-F → ℕ
of_expr (Expr-F.Or first rest) = 1 + first + sum rest
of_expr (Expr-F.And first rest) = 1 + first + sum rest
of_expr (Expr-F.Not inner at) = 1 + inner
of_expr (Expr-F.Is first rest) = 1 + first
of_expr (Expr-F.Compare left operator right at) = 1 + left + right
of_expr (Expr-F.Tested operand negated test at) = 1 + operand + test
of_expr (Expr-F.Sum first rest) = 1 + first + sum rest
of_expr (Expr-F.Product first rest) = 1 + first + sum rest
of_expr (Expr-F.Signed sign inner at) = 1 + inner
of_expr (Expr-F.Group inner at) = 1 + inner
of_expr (Expr-F.Case arms otherwise at) = 1 + sum arms + of_option otherwise
of_expr (Expr-F.Coalesce items at) = 1 + sum items
of_expr (Expr-F.Aggregate function argument at) = 1 + argument
of_expr _ = 1

abbrev pub of_test : Sized Test-F → ℕ
of_test (Test-F.InSelect select) = select
of_test (Test-F.InList items) = sum items
of_test (Test-F.Between low high) = low + high

abbrev pub of_item : Sized Item-F → ℕ
of_item (Item-F.Value value name) = value
of_item _ = 0

abbrev pub of_relation : Sized Relation-F → ℕ
of_relation (Relation-F.Subquery select spelled alias at) = select
of_relation _ = 0

abbrev pub of_join : Sized Join-F → ℕ
of_join (Join-F.Inner spelled relation on at) = relation + on
of_join (Join-F.Left spelled relation on at) = relation + on
of_join (Join-F.Cross relation at) = relation

abbrev pub of_added : Sized Added-F → ℕ
of_added a = a.term

abbrev pub of_arm : Sized Arm-F → ℕ
of_arm a = a.condition + a.result

abbrev pub of_chained : Sized Chained-F → ℕ
of_chained c = c.part

abbrev pub of_multiplied : Sized Multiplied-F → ℕ
of_multiplied m = m.factor

abbrev pub of_from : Sized From-F → ℕ
of_from f = f.first + sum f.joins

abbrev pub of_group_by : Sized GroupBy-F → ℕ
of_group_by g = sum g.keys

abbrev pub of_having : Sized Having-F → ℕ
of_having h = h.condition

abbrev pub of_order_key : Sized OrderKey-F → ℕ
of_order_key o = o.key

abbrev pub of_select : Sized Select-F → ℕ
of_select q = 1 + sum q.items + sum q.from + of_option q.filter + of_option q.groups + of_option q.having + sum q.order

unfoldable pub expr_size : Expr → ℕ
expr_size = fold-Expr ℕ ℕ ℕ ℕ ℕ ℕ ℕ ℕ ℕ ℕ ℕ ℕ ℕ ℕ of_expr of_test of_item of_join of_relation of_added of_arm of_chained of_multiplied of_from of_group_by of_having of_order_key of_select

unfoldable pub test_size : Test → ℕ
test_size = fold-Test ℕ ℕ ℕ ℕ ℕ ℕ ℕ ℕ ℕ ℕ ℕ ℕ ℕ ℕ of_expr of_test of_item of_join of_relation of_added of_arm of_chained of_multiplied of_from of_group_by of_having of_order_key of_select

unfoldable pub item_size : Item → ℕ
item_size = fold-Item ℕ ℕ ℕ ℕ ℕ ℕ ℕ ℕ ℕ ℕ ℕ ℕ ℕ ℕ of_expr of_test of_item of_join of_relation of_added of_arm of_chained of_multiplied of_from of_group_by of_having of_order_key of_select

unfoldable pub join_size : Join → ℕ
join_size = fold-Join ℕ ℕ ℕ ℕ ℕ ℕ ℕ ℕ ℕ ℕ ℕ ℕ ℕ ℕ of_expr of_test of_item of_join of_relation of_added of_arm of_chained of_multiplied of_from of_group_by of_having of_order_key of_select

unfoldable pub relation_size : Relation → ℕ
relation_size = fold-Relation ℕ ℕ ℕ ℕ ℕ ℕ ℕ ℕ ℕ ℕ ℕ ℕ ℕ ℕ of_expr of_test of_item of_join of_relation of_added of_arm of_chained of_multiplied of_from of_group_by of_having of_order_key of_select

unfoldable pub added_size : Added → ℕ
added_size = fold-Added ℕ ℕ ℕ ℕ ℕ ℕ ℕ ℕ ℕ ℕ ℕ ℕ ℕ ℕ of_expr of_test of_item of_join of_relation of_added of_arm of_chained of_multiplied of_from of_group_by of_having of_order_key of_select

unfoldable pub arm_size : Arm → ℕ
arm_size = fold-Arm ℕ ℕ ℕ ℕ ℕ ℕ ℕ ℕ ℕ ℕ ℕ ℕ ℕ ℕ of_expr of_test of_item of_join of_relation of_added of_arm of_chained of_multiplied of_from of_group_by of_having of_order_key of_select

unfoldable pub chained_size : Chained → ℕ
chained_size = fold-Chained ℕ ℕ ℕ ℕ ℕ ℕ ℕ ℕ ℕ ℕ ℕ ℕ ℕ ℕ of_expr of_test of_item of_join of_relation of_added of_arm of_chained of_multiplied of_from of_group_by of_having of_order_key of_select

unfoldable pub multiplied_size : Multiplied → ℕ
multiplied_size = fold-Multiplied ℕ ℕ ℕ ℕ ℕ ℕ ℕ ℕ ℕ ℕ ℕ ℕ ℕ ℕ of_expr of_test of_item of_join of_relation of_added of_arm of_chained of_multiplied of_from of_group_by of_having of_order_key of_select

unfoldable pub from_size : From → ℕ
from_size = fold-From ℕ ℕ ℕ ℕ ℕ ℕ ℕ ℕ ℕ ℕ ℕ ℕ ℕ ℕ of_expr of_test of_item of_join of_relation of_added of_arm of_chained of_multiplied of_from of_group_by of_having of_order_key of_select

unfoldable pub group_by_size : GroupBy → ℕ
group_by_size = fold-GroupBy ℕ ℕ ℕ ℕ ℕ ℕ ℕ ℕ ℕ ℕ ℕ ℕ ℕ ℕ of_expr of_test of_item of_join of_relation of_added of_arm of_chained of_multiplied of_from of_group_by of_having of_order_key of_select

unfoldable pub having_size : Having → ℕ
having_size = fold-Having ℕ ℕ ℕ ℕ ℕ ℕ ℕ ℕ ℕ ℕ ℕ ℕ ℕ ℕ of_expr of_test of_item of_join of_relation of_added of_arm of_chained of_multiplied of_from of_group_by of_having of_order_key of_select

unfoldable pub order_key_size : OrderKey → ℕ
order_key_size = fold-OrderKey ℕ ℕ ℕ ℕ ℕ ℕ ℕ ℕ ℕ ℕ ℕ ℕ ℕ ℕ of_expr of_test of_item of_join of_relation of_added of_arm of_chained of_multiplied of_from of_group_by of_having of_order_key of_select

unfoldable pub select_size : Select → ℕ
select_size = fold-Select ℕ ℕ ℕ ℕ ℕ ℕ ℕ ℕ ℕ ℕ ℕ ℕ ℕ ℕ of_expr of_test of_item of_join of_relation of_added of_arm of_chained of_multiplied of_from of_group_by of_having of_order_key of_select
