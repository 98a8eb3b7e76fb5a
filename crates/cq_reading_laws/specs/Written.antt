-- Trees as the grammar gives them, as far as the engine relies on it: each number is below 2^64, each COALESCE has an operand, and
-- each FROM a relation.
use Rattle.std.specs.Prelude.{◌^◌, nat_lt, Bool, true, false, ◌&&◌, List, [], ◌∷◌, Option, None, Some}
use Rattle.std.specs.List.{list_all}
use Rattle.cq_grammar.specs.declared.expr.Expr.{Expr}
use Rattle.cq_grammar.specs.declared.expr.Test.{Test}
use Rattle.cq_grammar.specs.declared.query.Item.{Item}
use Rattle.cq_grammar.specs.declared.query.Join.{Join}
use Rattle.cq_grammar.specs.declared.query.Relation.{Relation}
use Rattle.cq_grammar.specs.declared.expr.Added.{Added}
use Rattle.cq_grammar.specs.declared.expr.Arm.{Arm}
use Rattle.cq_grammar.specs.declared.expr.Chained.{Chained}
use Rattle.cq_grammar.specs.declared.expr.Multiplied.{Multiplied}
use Rattle.cq_grammar.specs.declared.query.From.{From}
use Rattle.cq_grammar.specs.declared.query.GroupBy.{GroupBy}
use Rattle.cq_grammar.specs.declared.query.Having.{Having}
use Rattle.cq_grammar.specs.declared.query.OrderKey.{OrderKey}
use Rattle.cq_grammar.specs.declared.query.Select.{Select}
use Rattle.cq_grammar.specs.declared.expr.Expr.TheOpen.{Expr-F, Test-F, Item-F, Join-F, Relation-F, Added-F, Arm-F, Chained-F, Multiplied-F, From-F, GroupBy-F, Having-F, OrderKey-F, Select-F}
use Rattle.cq_grammar.specs.declared.expr.Expr.TheFolds.{fold-Expr, fold-Test, fold-Item, fold-Join, fold-Relation, fold-Added, fold-Arm, fold-Chained, fold-Multiplied, fold-From, fold-GroupBy, fold-Having, fold-OrderKey, fold-Select}

abbrev pub all : List Bool → Bool
all bs = list_all (λ b. b) bs

abbrev pub if_any : Option Bool → Bool
if_any None = true
if_any (Some b) = b

abbrev pub is_some : List Bool → Bool
is_some [] = false
is_some (b ∷ bs) = true

-- a layer of a tree, with the answers for the parts in their places
abbrev pub Answers : (Type 0 → Type 0 → Type 0 → Type 0 → Type 0 → Type 0 → Type 0 → Type 0 → Type 0 → Type 0 → Type 0 → Type 0 → Type 0 → Type 0 → Type 0) → Type 0
Answers F = F Bool Bool Bool Bool Bool Bool Bool Bool Bool Bool Bool Bool Bool Bool

abbrev pub expr_node : Answers Expr-F → Bool
expr_node (Expr-F.Or first rest) = first && all rest
expr_node (Expr-F.And first rest) = first && all rest
expr_node (Expr-F.Not inner at) = inner
expr_node (Expr-F.Is first rest) = first
expr_node (Expr-F.Compare left operator right at) = left && right
expr_node (Expr-F.Tested operand negated test at) = operand && test
expr_node (Expr-F.Sum first rest) = first && all rest
expr_node (Expr-F.Product first rest) = first && all rest
expr_node (Expr-F.Signed sign inner at) = inner
expr_node (Expr-F.Number value at) = nat_lt value (2 ^ 64)
expr_node (Expr-F.Quoted text at) = true
expr_node (Expr-F.Null at) = true
expr_node (Expr-F.Column column) = true
expr_node (Expr-F.ColumnOf relation column) = true
expr_node (Expr-F.Group inner at) = inner
expr_node (Expr-F.Case arms otherwise at) = all arms && if_any otherwise
expr_node (Expr-F.Coalesce items at) = is_some items && all items
expr_node (Expr-F.CountAll at) = true
expr_node (Expr-F.Aggregate function argument at) = argument

abbrev pub test_node : Answers Test-F → Bool
test_node (Test-F.InSelect select) = select
test_node (Test-F.InList items) = all items
test_node (Test-F.Between low high) = low && high

abbrev pub item_node : Answers Item-F → Bool
item_node (Item-F.All at) = true
item_node (Item-F.AllOf relation) = true
item_node (Item-F.Value value name) = value

abbrev pub join_node : Answers Join-F → Bool
join_node (Join-F.Inner spelled relation on at) = relation && on
join_node (Join-F.Left spelled relation on at) = relation && on
join_node (Join-F.Cross relation at) = relation

abbrev pub relation_node : Answers Relation-F → Bool
relation_node (Relation-F.Table name) = true
relation_node (Relation-F.TableAs name spelled alias) = true
relation_node (Relation-F.Subquery select spelled alias at) = select

abbrev pub added_node : Answers Added-F → Bool
added_node a = a.term

abbrev pub arm_node : Answers Arm-F → Bool
arm_node a = a.condition && a.result

abbrev pub chained_node : Answers Chained-F → Bool
chained_node c = c.part

abbrev pub multiplied_node : Answers Multiplied-F → Bool
multiplied_node m = m.factor

abbrev pub from_node : Answers From-F → Bool
from_node f = f.first && all f.joins

abbrev pub group_by_node : Answers GroupBy-F → Bool
group_by_node g = all g.keys

abbrev pub having_node : Answers Having-F → Bool
having_node h = h.condition

abbrev pub order_key_node : Answers OrderKey-F → Bool
order_key_node o = o.key

abbrev pub select_node : Answers Select-F → Bool
select_node q = all q.items && (is_some q.from && all q.from) && if_any q.filter && if_any q.groups && if_any q.having && all q.order

unfoldable pub written_expr : Expr → Bool
written_expr = fold-Expr Bool Bool Bool Bool Bool Bool Bool Bool Bool Bool Bool Bool Bool Bool expr_node test_node item_node join_node relation_node added_node arm_node chained_node multiplied_node from_node group_by_node having_node order_key_node select_node

unfoldable pub written_test : Test → Bool
written_test = fold-Test Bool Bool Bool Bool Bool Bool Bool Bool Bool Bool Bool Bool Bool Bool expr_node test_node item_node join_node relation_node added_node arm_node chained_node multiplied_node from_node group_by_node having_node order_key_node select_node

unfoldable pub written_item : Item → Bool
written_item = fold-Item Bool Bool Bool Bool Bool Bool Bool Bool Bool Bool Bool Bool Bool Bool expr_node test_node item_node join_node relation_node added_node arm_node chained_node multiplied_node from_node group_by_node having_node order_key_node select_node

unfoldable pub written_join : Join → Bool
written_join = fold-Join Bool Bool Bool Bool Bool Bool Bool Bool Bool Bool Bool Bool Bool Bool expr_node test_node item_node join_node relation_node added_node arm_node chained_node multiplied_node from_node group_by_node having_node order_key_node select_node

unfoldable pub written_relation : Relation → Bool
written_relation = fold-Relation Bool Bool Bool Bool Bool Bool Bool Bool Bool Bool Bool Bool Bool Bool expr_node test_node item_node join_node relation_node added_node arm_node chained_node multiplied_node from_node group_by_node having_node order_key_node select_node

unfoldable pub written_added : Added → Bool
written_added = fold-Added Bool Bool Bool Bool Bool Bool Bool Bool Bool Bool Bool Bool Bool Bool expr_node test_node item_node join_node relation_node added_node arm_node chained_node multiplied_node from_node group_by_node having_node order_key_node select_node

unfoldable pub written_arm : Arm → Bool
written_arm = fold-Arm Bool Bool Bool Bool Bool Bool Bool Bool Bool Bool Bool Bool Bool Bool expr_node test_node item_node join_node relation_node added_node arm_node chained_node multiplied_node from_node group_by_node having_node order_key_node select_node

unfoldable pub written_chained : Chained → Bool
written_chained = fold-Chained Bool Bool Bool Bool Bool Bool Bool Bool Bool Bool Bool Bool Bool Bool expr_node test_node item_node join_node relation_node added_node arm_node chained_node multiplied_node from_node group_by_node having_node order_key_node select_node

unfoldable pub written_multiplied : Multiplied → Bool
written_multiplied = fold-Multiplied Bool Bool Bool Bool Bool Bool Bool Bool Bool Bool Bool Bool Bool Bool expr_node test_node item_node join_node relation_node added_node arm_node chained_node multiplied_node from_node group_by_node having_node order_key_node select_node

unfoldable pub written_from : From → Bool
written_from = fold-From Bool Bool Bool Bool Bool Bool Bool Bool Bool Bool Bool Bool Bool Bool expr_node test_node item_node join_node relation_node added_node arm_node chained_node multiplied_node from_node group_by_node having_node order_key_node select_node

unfoldable pub written_group_by : GroupBy → Bool
written_group_by = fold-GroupBy Bool Bool Bool Bool Bool Bool Bool Bool Bool Bool Bool Bool Bool Bool expr_node test_node item_node join_node relation_node added_node arm_node chained_node multiplied_node from_node group_by_node having_node order_key_node select_node

unfoldable pub written_having : Having → Bool
written_having = fold-Having Bool Bool Bool Bool Bool Bool Bool Bool Bool Bool Bool Bool Bool Bool expr_node test_node item_node join_node relation_node added_node arm_node chained_node multiplied_node from_node group_by_node having_node order_key_node select_node

unfoldable pub written_order_key : OrderKey → Bool
written_order_key = fold-OrderKey Bool Bool Bool Bool Bool Bool Bool Bool Bool Bool Bool Bool Bool Bool expr_node test_node item_node join_node relation_node added_node arm_node chained_node multiplied_node from_node group_by_node having_node order_key_node select_node

unfoldable pub written_select : Select → Bool
written_select = fold-Select Bool Bool Bool Bool Bool Bool Bool Bool Bool Bool Bool Bool Bool Bool expr_node test_node item_node join_node relation_node added_node arm_node chained_node multiplied_node from_node group_by_node having_node order_key_node select_node
