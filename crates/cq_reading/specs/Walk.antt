-- The walk over a SELECT, and over the whole tree by one fold.
use Rattle.std.specs.Prelude.{Bool, true, false, ◌||◌, List, [], map, length}
use Rattle.std.specs.List.{list_any}
use Rattle.cq_tree.specs.declared.expression.Expr as tree
use Rattle.cq_tree.specs.declared.expression.Cond.{Cond}
use Rattle.cq_tree.specs.declared.query.Query.{roll-Query}
use Rattle.cq_grammar.specs.declared.expr.Expr.{Expr}
use Rattle.cq_grammar.specs.declared.query.Select.{Select}
use Rattle.cq_grammar.specs.declared.expr.Expr.TheOpen.{Select-F}
use Rattle.cq_grammar.specs.declared.expr.Expr.TheFolds.{fold-Expr, fold-Select, fold-Test, fold-Item, fold-Join, fold-Relation, fold-Added, fold-Arm, fold-Chained, fold-Multiplied, fold-From, fold-GroupBy, fold-Having, fold-OrderKey}
use Rattle.cq_grammar.specs.declared.expr.Test.{Test}
use Rattle.cq_grammar.specs.declared.query.Item.{Item}
use Rattle.cq_grammar.specs.declared.query.Join.{Join}
use Rattle.cq_grammar.specs.declared.query.Relation.{Relation}
use Rattle.cq_grammar.specs.declared.expr.Added.{Added}
use Rattle.cq_grammar.specs.declared.expr.Arm.{Arm}
use Rattle.cq_grammar.specs.declared.expr.Chained.{Chained}
use Rattle.cq_grammar.specs.declared.expr.Multiplied.{Multiplied}
use Rattle.cq_grammar.specs.declared.query.From.{From}
use Rattle.cq_grammar.specs.declared.query.GroupBy.{GroupBy}
use Rattle.cq_grammar.specs.declared.query.Having.{Having}
use Rattle.cq_grammar.specs.declared.query.OrderKey.{OrderKey}
use Rattle.cq_reading.specs.Types.{Found, Block, Ordered, Shown, Relations}
use Rattle.cq_reading.specs.Steps.{give, ◌then◌}
use Rattle.cq_reading.specs.Widths.{is_some}
use Rattle.cq_reading.specs.Parts.{Part, TestPart, ItemPart, JoinPart, RelationPart, AddedPart, ArmPart, LaterPart, MultipliedPart, FromPart, GroupPart, HavingPart, OrderPart, SelectPart}
use Rattle.cq_reading.specs.Expressions.{Layer, expr_step, test_step, added_step, arm_step, chained_step, multiplied_step}
use Rattle.cq_reading.specs.Relations.{relation_step, join_step, from_step, from_of}
use Rattle.cq_reading.specs.Selects.{look, item_step, group_by_step, having_step, order_key_step, at_most, targets, read_target, output_of, item_of, group_keys, having_of, order_keys, before_grouping, after_grouping, filter_of, has_aggregate, limit_of, offset_of, a_block}
use Rattle.cq_reading.specs.declared.error.Limited.TheVariants as limited

-- a SELECT groups where it has GROUP BY, HAVING or an aggregate
abbrev pub groups : Layer Select-F → Bool
groups q = is_some q.groups || is_some q.having || list_any has_aggregate q.items || list_any (λ o. o.key.aggregates) q.order

abbrev pub block_of : Layer Select-F → Relations → Cond → List tree.Expr → Cond → List Shown → Ordered → Found → Block
block_of q r filter keys having outputs order found = record {
  query = roll-Query (record {
    ctes = [];
    subs = found.subs;
    from = r.tree;
    filter = filter;
    grouped = groups q;
    keys = keys;
    aggs = found.aggs;
    having = having;
    items = order.items;
    shown = length outputs;
    distinct = q.distinct;
    order = order.keys;
    limit = limit_of q.limit;
    offset = offset_of q.offset;
    names = map (λ s. s.title) outputs;
  });
  outputs = map output_of outputs;
  joined = r.joined;
}

-- FROM, WHERE, GROUP BY, HAVING, the select list, ORDER BY
abbrev pub select_step : Layer Select-F → SelectPart
select_step q w = a_block (
    from_of w q.from then (λ r.
    filter_of (before_grouping w r true) q.filter then (λ filter.
    group_keys (before_grouping w r false) (targets r.columns q.items) r.joined q.groups then (λ keys.
    having_of (after_grouping w r (groups q) keys true) r.joined q.having then (λ having.
    at_most 512 limited.Outputs (read_target (after_grouping w r (groups q) keys false)) (targets r.columns q.items) then (λ outputs.
    order_keys (after_grouping w r (groups q) keys false) outputs q.distinct q.order (record { items = map item_of outputs; keys = [] }) then (λ order.
    look then (λ found. give (block_of q r filter keys having outputs order found)))))))))

unfoldable pub part_of : Expr → Part
part_of =
    fold-Expr Part TestPart ItemPart JoinPart RelationPart AddedPart ArmPart LaterPart MultipliedPart FromPart GroupPart HavingPart OrderPart SelectPart
    expr_step test_step item_step join_step relation_step added_step arm_step chained_step multiplied_step from_step group_by_step having_step order_key_step select_step

unfoldable pub select_of : Select → SelectPart
select_of =
    fold-Select Part TestPart ItemPart JoinPart RelationPart AddedPart ArmPart LaterPart MultipliedPart FromPart GroupPart HavingPart OrderPart SelectPart
    expr_step test_step item_step join_step relation_step added_step arm_step chained_step multiplied_step from_step group_by_step having_step order_key_step select_step

-- ---- the same fold gives what the walk gives of the other parts

unfoldable pub test_part : Test → TestPart
test_part =
    fold-Test Part TestPart ItemPart JoinPart RelationPart AddedPart ArmPart LaterPart MultipliedPart FromPart GroupPart HavingPart OrderPart SelectPart
    expr_step test_step item_step join_step relation_step added_step arm_step chained_step multiplied_step from_step group_by_step having_step order_key_step select_step

unfoldable pub item_part : Item → ItemPart
item_part =
    fold-Item Part TestPart ItemPart JoinPart RelationPart AddedPart ArmPart LaterPart MultipliedPart FromPart GroupPart HavingPart OrderPart SelectPart
    expr_step test_step item_step join_step relation_step added_step arm_step chained_step multiplied_step from_step group_by_step having_step order_key_step select_step

unfoldable pub join_part : Join → JoinPart
join_part =
    fold-Join Part TestPart ItemPart JoinPart RelationPart AddedPart ArmPart LaterPart MultipliedPart FromPart GroupPart HavingPart OrderPart SelectPart
    expr_step test_step item_step join_step relation_step added_step arm_step chained_step multiplied_step from_step group_by_step having_step order_key_step select_step

unfoldable pub relation_part : Relation → RelationPart
relation_part =
    fold-Relation Part TestPart ItemPart JoinPart RelationPart AddedPart ArmPart LaterPart MultipliedPart FromPart GroupPart HavingPart OrderPart SelectPart
    expr_step test_step item_step join_step relation_step added_step arm_step chained_step multiplied_step from_step group_by_step having_step order_key_step select_step

unfoldable pub added_part : Added → AddedPart
added_part =
    fold-Added Part TestPart ItemPart JoinPart RelationPart AddedPart ArmPart LaterPart MultipliedPart FromPart GroupPart HavingPart OrderPart SelectPart
    expr_step test_step item_step join_step relation_step added_step arm_step chained_step multiplied_step from_step group_by_step having_step order_key_step select_step

unfoldable pub arm_part : Arm → ArmPart
arm_part =
    fold-Arm Part TestPart ItemPart JoinPart RelationPart AddedPart ArmPart LaterPart MultipliedPart FromPart GroupPart HavingPart OrderPart SelectPart
    expr_step test_step item_step join_step relation_step added_step arm_step chained_step multiplied_step from_step group_by_step having_step order_key_step select_step

unfoldable pub later_part : Chained → LaterPart
later_part =
    fold-Chained Part TestPart ItemPart JoinPart RelationPart AddedPart ArmPart LaterPart MultipliedPart FromPart GroupPart HavingPart OrderPart SelectPart
    expr_step test_step item_step join_step relation_step added_step arm_step chained_step multiplied_step from_step group_by_step having_step order_key_step select_step

unfoldable pub multiplied_part : Multiplied → MultipliedPart
multiplied_part =
    fold-Multiplied Part TestPart ItemPart JoinPart RelationPart AddedPart ArmPart LaterPart MultipliedPart FromPart GroupPart HavingPart OrderPart SelectPart
    expr_step test_step item_step join_step relation_step added_step arm_step chained_step multiplied_step from_step group_by_step having_step order_key_step select_step

unfoldable pub from_part : From → FromPart
from_part =
    fold-From Part TestPart ItemPart JoinPart RelationPart AddedPart ArmPart LaterPart MultipliedPart FromPart GroupPart HavingPart OrderPart SelectPart
    expr_step test_step item_step join_step relation_step added_step arm_step chained_step multiplied_step from_step group_by_step having_step order_key_step select_step

unfoldable pub group_part : GroupBy → GroupPart
group_part =
    fold-GroupBy Part TestPart ItemPart JoinPart RelationPart AddedPart ArmPart LaterPart MultipliedPart FromPart GroupPart HavingPart OrderPart SelectPart
    expr_step test_step item_step join_step relation_step added_step arm_step chained_step multiplied_step from_step group_by_step having_step order_key_step select_step

unfoldable pub having_part : Having → HavingPart
having_part =
    fold-Having Part TestPart ItemPart JoinPart RelationPart AddedPart ArmPart LaterPart MultipliedPart FromPart GroupPart HavingPart OrderPart SelectPart
    expr_step test_step item_step join_step relation_step added_step arm_step chained_step multiplied_step from_step group_by_step having_step order_key_step select_step

unfoldable pub order_part : OrderKey → OrderPart
order_part =
    fold-OrderKey Part TestPart ItemPart JoinPart RelationPart AddedPart ArmPart LaterPart MultipliedPart FromPart GroupPart HavingPart OrderPart SelectPart
    expr_step test_step item_step join_step relation_step added_step arm_step chained_step multiplied_step from_step group_by_step having_step order_key_step select_step
