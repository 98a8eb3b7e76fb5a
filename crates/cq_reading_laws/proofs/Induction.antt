-- Induction over syntax trees: what holds of whether a node is written so and of what the walk gives of it, where it holds of the
-- parts in it.
use Rattle.std.proofs.Common.{◌≡◌, Bool, sym, subst}
use Rattle.cq_grammar.specs.declared.expr.Expr.{Expr, roll-Expr}
use Rattle.cq_grammar.specs.declared.expr.Test.{Test, roll-Test}
use Rattle.cq_grammar.specs.declared.query.Item.{Item, roll-Item}
use Rattle.cq_grammar.specs.declared.query.Join.{Join, roll-Join}
use Rattle.cq_grammar.specs.declared.query.Relation.{Relation, roll-Relation}
use Rattle.cq_grammar.specs.declared.expr.Added.{Added, roll-Added}
use Rattle.cq_grammar.specs.declared.expr.Arm.{Arm, roll-Arm}
use Rattle.cq_grammar.specs.declared.expr.Chained.{Chained, roll-Chained}
use Rattle.cq_grammar.specs.declared.expr.Multiplied.{Multiplied, roll-Multiplied}
use Rattle.cq_grammar.specs.declared.query.From.{From, roll-From}
use Rattle.cq_grammar.specs.declared.query.GroupBy.{GroupBy, roll-GroupBy}
use Rattle.cq_grammar.specs.declared.query.Having.{Having, roll-Having}
use Rattle.cq_grammar.specs.declared.query.OrderKey.{OrderKey, roll-OrderKey}
use Rattle.cq_grammar.specs.declared.query.Select.{Select, roll-Select}
use Rattle.cq_grammar.specs.declared.expr.Expr.TheOpen.{Expr-F, Test-F, Item-F, Join-F, Relation-F, Added-F, Arm-F, Chained-F, Multiplied-F, From-F, GroupBy-F, Having-F, OrderKey-F, Select-F}
use Rattle.cq_grammar.specs.declared.expr.Expr.TheFolds.{map-Expr, map-Test, map-Item, map-Join, map-Relation, map-Added, map-Arm, map-Chained, map-Multiplied, map-From, map-GroupBy, map-Having, map-OrderKey, map-Select, fold-roll-Expr, fold-roll-Test, fold-roll-Item, fold-roll-Join, fold-roll-Relation, fold-roll-Added, fold-roll-Arm, fold-roll-Chained, fold-roll-Multiplied, fold-roll-From, fold-roll-GroupBy, fold-roll-Having, fold-roll-OrderKey, fold-roll-Select, ind-Expr, ind-Select}
use Rattle.cq_reading.specs.Parts.{Part, TestPart, ItemPart, JoinPart, RelationPart, AddedPart, ArmPart, LaterPart, MultipliedPart, FromPart, GroupPart, HavingPart, OrderPart, SelectPart}
use Rattle.cq_reading.specs.Expressions.{expr_step, test_step, added_step, arm_step, chained_step, multiplied_step}
use Rattle.cq_reading.specs.Relations.{relation_step, join_step, from_step}
use Rattle.cq_reading.specs.Selects.{item_step, group_by_step, having_step, order_key_step}
use Rattle.cq_reading.specs.Walk.{select_step, part_of, test_part, item_part, join_part, relation_part, added_part, arm_part, later_part, multiplied_part, from_part, group_part, having_part, order_part, select_of}
use Rattle.cq_reading_laws.specs.Written.{expr_node, test_node, item_node, join_node, relation_node, added_node, arm_node, chained_node, multiplied_node, from_node, group_by_node, having_node, order_key_node, select_node, written_expr, written_test, written_item, written_join, written_relation, written_added, written_arm, written_chained, written_multiplied, written_from, written_group_by, written_having, written_order_key, written_select}

module _ (Q1 : Bool → Part → Type 0)
    (Q2 : Bool → TestPart → Type 0)
    (Q3 : Bool → ItemPart → Type 0)
    (Q4 : Bool → JoinPart → Type 0)
    (Q5 : Bool → RelationPart → Type 0)
    (Q6 : Bool → AddedPart → Type 0)
    (Q7 : Bool → ArmPart → Type 0)
    (Q8 : Bool → LaterPart → Type 0)
    (Q9 : Bool → MultipliedPart → Type 0)
    (Q10 : Bool → FromPart → Type 0)
    (Q11 : Bool → GroupPart → Type 0)
    (Q12 : Bool → HavingPart → Type 0)
    (Q13 : Bool → OrderPart → Type 0)
    (Q14 : Bool → SelectPart → Type 0) where
  -- a layer, with a proof beside each part
  abbrev pub Below : (Type 0 → Type 0 → Type 0 → Type 0 → Type 0 → Type 0 → Type 0 → Type 0 → Type 0 → Type 0 → Type 0 → Type 0 → Type 0 → Type 0 → Type 0) → Type 0
  Below F = F ((x : Expr) × Q1 (written_expr x) (part_of x)) ((x : Test) × Q2 (written_test x) (test_part x)) ((x : Item) × Q3 (written_item x) (item_part x)) ((x : Join) × Q4 (written_join x) (join_part x)) ((x : Relation) × Q5 (written_relation x) (relation_part x)) ((x : Added) × Q6 (written_added x) (added_part x)) ((x : Arm) × Q7 (written_arm x) (arm_part x)) ((x : Chained) × Q8 (written_chained x) (later_part x)) ((x : Multiplied) × Q9 (written_multiplied x) (multiplied_part x)) ((x : From) × Q10 (written_from x) (from_part x)) ((x : GroupBy) × Q11 (written_group_by x) (group_part x)) ((x : Having) × Q12 (written_having x) (having_part x)) ((x : OrderKey) × Q13 (written_order_key x) (order_part x)) ((x : Select) × Q14 (written_select x) (select_of x))

  abbrev pub KeepsExpr : Type 0
  KeepsExpr = (y : Below Expr-F) → Q1 (expr_node (map-Expr _ _ _ _ _ _ _ _ _ _ _ _ _ _ _ _ _ _ _ _ _ _ _ _ _ _ _ _ written_expr written_test written_item written_join written_relation written_added written_arm written_chained written_multiplied written_from written_group_by written_having written_order_key written_select (map-Expr _ _ _ _ _ _ _ _ _ _ _ _ _ _ _ _ _ _ _ _ _ _ _ _ _ _ _ _ (λ e. e.0) (λ e. e.0) (λ e. e.0) (λ e. e.0) (λ e. e.0) (λ e. e.0) (λ e. e.0) (λ e. e.0) (λ e. e.0) (λ e. e.0) (λ e. e.0) (λ e. e.0) (λ e. e.0) (λ e. e.0) y))) (expr_step (map-Expr _ _ _ _ _ _ _ _ _ _ _ _ _ _ _ _ _ _ _ _ _ _ _ _ _ _ _ _ part_of test_part item_part join_part relation_part added_part arm_part later_part multiplied_part from_part group_part having_part order_part select_of (map-Expr _ _ _ _ _ _ _ _ _ _ _ _ _ _ _ _ _ _ _ _ _ _ _ _ _ _ _ _ (λ e. e.0) (λ e. e.0) (λ e. e.0) (λ e. e.0) (λ e. e.0) (λ e. e.0) (λ e. e.0) (λ e. e.0) (λ e. e.0) (λ e. e.0) (λ e. e.0) (λ e. e.0) (λ e. e.0) (λ e. e.0) y)))

  abbrev pub KeepsTest : Type 0
  KeepsTest = (y : Below Test-F) → Q2 (test_node (map-Test _ _ _ _ _ _ _ _ _ _ _ _ _ _ _ _ _ _ _ _ _ _ _ _ _ _ _ _ written_expr written_test written_item written_join written_relation written_added written_arm written_chained written_multiplied written_from written_group_by written_having written_order_key written_select (map-Test _ _ _ _ _ _ _ _ _ _ _ _ _ _ _ _ _ _ _ _ _ _ _ _ _ _ _ _ (λ e. e.0) (λ e. e.0) (λ e. e.0) (λ e. e.0) (λ e. e.0) (λ e. e.0) (λ e. e.0) (λ e. e.0) (λ e. e.0) (λ e. e.0) (λ e. e.0) (λ e. e.0) (λ e. e.0) (λ e. e.0) y))) (test_step (map-Test _ _ _ _ _ _ _ _ _ _ _ _ _ _ _ _ _ _ _ _ _ _ _ _ _ _ _ _ part_of test_part item_part join_part relation_part added_part arm_part later_part multiplied_part from_part group_part having_part order_part select_of (map-Test _ _ _ _ _ _ _ _ _ _ _ _ _ _ _ _ _ _ _ _ _ _ _ _ _ _ _ _ (λ e. e.0) (λ e. e.0) (λ e. e.0) (λ e. e.0) (λ e. e.0) (λ e. e.0) (λ e. e.0) (λ e. e.0) (λ e. e.0) (λ e. e.0) (λ e. e.0) (λ e. e.0) (λ e. e.0) (λ e. e.0) y)))

  abbrev pub KeepsItem : Type 0
  KeepsItem = (y : Below Item-F) → Q3 (item_node (map-Item _ _ _ _ _ _ _ _ _ _ _ _ _ _ _ _ _ _ _ _ _ _ _ _ _ _ _ _ written_expr written_test written_item written_join written_relation written_added written_arm written_chained written_multiplied written_from written_group_by written_having written_order_key written_select (map-Item _ _ _ _ _ _ _ _ _ _ _ _ _ _ _ _ _ _ _ _ _ _ _ _ _ _ _ _ (λ e. e.0) (λ e. e.0) (λ e. e.0) (λ e. e.0) (λ e. e.0) (λ e. e.0) (λ e. e.0) (λ e. e.0) (λ e. e.0) (λ e. e.0) (λ e. e.0) (λ e. e.0) (λ e. e.0) (λ e. e.0) y))) (item_step (map-Item _ _ _ _ _ _ _ _ _ _ _ _ _ _ _ _ _ _ _ _ _ _ _ _ _ _ _ _ part_of test_part item_part join_part relation_part added_part arm_part later_part multiplied_part from_part group_part having_part order_part select_of (map-Item _ _ _ _ _ _ _ _ _ _ _ _ _ _ _ _ _ _ _ _ _ _ _ _ _ _ _ _ (λ e. e.0) (λ e. e.0) (λ e. e.0) (λ e. e.0) (λ e. e.0) (λ e. e.0) (λ e. e.0) (λ e. e.0) (λ e. e.0) (λ e. e.0) (λ e. e.0) (λ e. e.0) (λ e. e.0) (λ e. e.0) y)))

  abbrev pub KeepsJoin : Type 0
  KeepsJoin = (y : Below Join-F) → Q4 (join_node (map-Join _ _ _ _ _ _ _ _ _ _ _ _ _ _ _ _ _ _ _ _ _ _ _ _ _ _ _ _ written_expr written_test written_item written_join written_relation written_added written_arm written_chained written_multiplied written_from written_group_by written_having written_order_key written_select (map-Join _ _ _ _ _ _ _ _ _ _ _ _ _ _ _ _ _ _ _ _ _ _ _ _ _ _ _ _ (λ e. e.0) (λ e. e.0) (λ e. e.0) (λ e. e.0) (λ e. e.0) (λ e. e.0) (λ e. e.0) (λ e. e.0) (λ e. e.0) (λ e. e.0) (λ e. e.0) (λ e. e.0) (λ e. e.0) (λ e. e.0) y))) (join_step (map-Join _ _ _ _ _ _ _ _ _ _ _ _ _ _ _ _ _ _ _ _ _ _ _ _ _ _ _ _ part_of test_part item_part join_part relation_part added_part arm_part later_part multiplied_part from_part group_part having_part order_part select_of (map-Join _ _ _ _ _ _ _ _ _ _ _ _ _ _ _ _ _ _ _ _ _ _ _ _ _ _ _ _ (λ e. e.0) (λ e. e.0) (λ e. e.0) (λ e. e.0) (λ e. e.0) (λ e. e.0) (λ e. e.0) (λ e. e.0) (λ e. e.0) (λ e. e.0) (λ e. e.0) (λ e. e.0) (λ e. e.0) (λ e. e.0) y)))

  abbrev pub KeepsRelation : Type 0
  KeepsRelation = (y : Below Relation-F) → Q5 (relation_node (map-Relation _ _ _ _ _ _ _ _ _ _ _ _ _ _ _ _ _ _ _ _ _ _ _ _ _ _ _ _ written_expr written_test written_item written_join written_relation written_added written_arm written_chained written_multiplied written_from written_group_by written_having written_order_key written_select (map-Relation _ _ _ _ _ _ _ _ _ _ _ _ _ _ _ _ _ _ _ _ _ _ _ _ _ _ _ _ (λ e. e.0) (λ e. e.0) (λ e. e.0) (λ e. e.0) (λ e. e.0) (λ e. e.0) (λ e. e.0) (λ e. e.0) (λ e. e.0) (λ e. e.0) (λ e. e.0) (λ e. e.0) (λ e. e.0) (λ e. e.0) y))) (relation_step (map-Relation _ _ _ _ _ _ _ _ _ _ _ _ _ _ _ _ _ _ _ _ _ _ _ _ _ _ _ _ part_of test_part item_part join_part relation_part added_part arm_part later_part multiplied_part from_part group_part having_part order_part select_of (map-Relation _ _ _ _ _ _ _ _ _ _ _ _ _ _ _ _ _ _ _ _ _ _ _ _ _ _ _ _ (λ e. e.0) (λ e. e.0) (λ e. e.0) (λ e. e.0) (λ e. e.0) (λ e. e.0) (λ e. e.0) (λ e. e.0) (λ e. e.0) (λ e. e.0) (λ e. e.0) (λ e. e.0) (λ e. e.0) (λ e. e.0) y)))

  abbrev pub KeepsAdded : Type 0
  KeepsAdded = (y : Below Added-F) → Q6 (added_node (map-Added _ _ _ _ _ _ _ _ _ _ _ _ _ _ _ _ _ _ _ _ _ _ _ _ _ _ _ _ written_expr written_test written_item written_join written_relation written_added written_arm written_chained written_multiplied written_from written_group_by written_having written_order_key written_select (map-Added _ _ _ _ _ _ _ _ _ _ _ _ _ _ _ _ _ _ _ _ _ _ _ _ _ _ _ _ (λ e. e.0) (λ e. e.0) (λ e. e.0) (λ e. e.0) (λ e. e.0) (λ e. e.0) (λ e. e.0) (λ e. e.0) (λ e. e.0) (λ e. e.0) (λ e. e.0) (λ e. e.0) (λ e. e.0) (λ e. e.0) y))) (added_step (map-Added _ _ _ _ _ _ _ _ _ _ _ _ _ _ _ _ _ _ _ _ _ _ _ _ _ _ _ _ part_of test_part item_part join_part relation_part added_part arm_part later_part multiplied_part from_part group_part having_part order_part select_of (map-Added _ _ _ _ _ _ _ _ _ _ _ _ _ _ _ _ _ _ _ _ _ _ _ _ _ _ _ _ (λ e. e.0) (λ e. e.0) (λ e. e.0) (λ e. e.0) (λ e. e.0) (λ e. e.0) (λ e. e.0) (λ e. e.0) (λ e. e.0) (λ e. e.0) (λ e. e.0) (λ e. e.0) (λ e. e.0) (λ e. e.0) y)))

  abbrev pub KeepsArm : Type 0
  KeepsArm = (y : Below Arm-F) → Q7 (arm_node (map-Arm _ _ _ _ _ _ _ _ _ _ _ _ _ _ _ _ _ _ _ _ _ _ _ _ _ _ _ _ written_expr written_test written_item written_join written_relation written_added written_arm written_chained written_multiplied written_from written_group_by written_having written_order_key written_select (map-Arm _ _ _ _ _ _ _ _ _ _ _ _ _ _ _ _ _ _ _ _ _ _ _ _ _ _ _ _ (λ e. e.0) (λ e. e.0) (λ e. e.0) (λ e. e.0) (λ e. e.0) (λ e. e.0) (λ e. e.0) (λ e. e.0) (λ e. e.0) (λ e. e.0) (λ e. e.0) (λ e. e.0) (λ e. e.0) (λ e. e.0) y))) (arm_step (map-Arm _ _ _ _ _ _ _ _ _ _ _ _ _ _ _ _ _ _ _ _ _ _ _ _ _ _ _ _ part_of test_part item_part join_part relation_part added_part arm_part later_part multiplied_part from_part group_part having_part order_part select_of (map-Arm _ _ _ _ _ _ _ _ _ _ _ _ _ _ _ _ _ _ _ _ _ _ _ _ _ _ _ _ (λ e. e.0) (λ e. e.0) (λ e. e.0) (λ e. e.0) (λ e. e.0) (λ e. e.0) (λ e. e.0) (λ e. e.0) (λ e. e.0) (λ e. e.0) (λ e. e.0) (λ e. e.0) (λ e. e.0) (λ e. e.0) y)))

  abbrev pub KeepsChained : Type 0
  KeepsChained = (y : Below Chained-F) → Q8 (chained_node (map-Chained _ _ _ _ _ _ _ _ _ _ _ _ _ _ _ _ _ _ _ _ _ _ _ _ _ _ _ _ written_expr written_test written_item written_join written_relation written_added written_arm written_chained written_multiplied written_from written_group_by written_having written_order_key written_select (map-Chained _ _ _ _ _ _ _ _ _ _ _ _ _ _ _ _ _ _ _ _ _ _ _ _ _ _ _ _ (λ e. e.0) (λ e. e.0) (λ e. e.0) (λ e. e.0) (λ e. e.0) (λ e. e.0) (λ e. e.0) (λ e. e.0) (λ e. e.0) (λ e. e.0) (λ e. e.0) (λ e. e.0) (λ e. e.0) (λ e. e.0) y))) (chained_step (map-Chained _ _ _ _ _ _ _ _ _ _ _ _ _ _ _ _ _ _ _ _ _ _ _ _ _ _ _ _ part_of test_part item_part join_part relation_part added_part arm_part later_part multiplied_part from_part group_part having_part order_part select_of (map-Chained _ _ _ _ _ _ _ _ _ _ _ _ _ _ _ _ _ _ _ _ _ _ _ _ _ _ _ _ (λ e. e.0) (λ e. e.0) (λ e. e.0) (λ e. e.0) (λ e. e.0) (λ e. e.0) (λ e. e.0) (λ e. e.0) (λ e. e.0) (λ e. e.0) (λ e. e.0) (λ e. e.0) (λ e. e.0) (λ e. e.0) y)))

  abbrev pub KeepsMultiplied : Type 0
  KeepsMultiplied = (y : Below Multiplied-F) → Q9 (multiplied_node (map-Multiplied _ _ _ _ _ _ _ _ _ _ _ _ _ _ _ _ _ _ _ _ _ _ _ _ _ _ _ _ written_expr written_test written_item written_join written_relation written_added written_arm written_chained written_multiplied written_from written_group_by written_having written_order_key written_select (map-Multiplied _ _ _ _ _ _ _ _ _ _ _ _ _ _ _ _ _ _ _ _ _ _ _ _ _ _ _ _ (λ e. e.0) (λ e. e.0) (λ e. e.0) (λ e. e.0) (λ e. e.0) (λ e. e.0) (λ e. e.0) (λ e. e.0) (λ e. e.0) (λ e. e.0) (λ e. e.0) (λ e. e.0) (λ e. e.0) (λ e. e.0) y))) (multiplied_step (map-Multiplied _ _ _ _ _ _ _ _ _ _ _ _ _ _ _ _ _ _ _ _ _ _ _ _ _ _ _ _ part_of test_part item_part join_part relation_part added_part arm_part later_part multiplied_part from_part group_part having_part order_part select_of (map-Multiplied _ _ _ _ _ _ _ _ _ _ _ _ _ _ _ _ _ _ _ _ _ _ _ _ _ _ _ _ (λ e. e.0) (λ e. e.0) (λ e. e.0) (λ e. e.0) (λ e. e.0) (λ e. e.0) (λ e. e.0) (λ e. e.0) (λ e. e.0) (λ e. e.0) (λ e. e.0) (λ e. e.0) (λ e. e.0) (λ e. e.0) y)))

  abbrev pub KeepsFrom : Type 0
  KeepsFrom = (y : Below From-F) → Q10 (from_node (map-From _ _ _ _ _ _ _ _ _ _ _ _ _ _ _ _ _ _ _ _ _ _ _ _ _ _ _ _ written_expr written_test written_item written_join written_relation written_added written_arm written_chained written_multiplied written_from written_group_by written_having written_order_key written_select (map-From _ _ _ _ _ _ _ _ _ _ _ _ _ _ _ _ _ _ _ _ _ _ _ _ _ _ _ _ (λ e. e.0) (λ e. e.0) (λ e. e.0) (λ e. e.0) (λ e. e.0) (λ e. e.0) (λ e. e.0) (λ e. e.0) (λ e. e.0) (λ e. e.0) (λ e. e.0) (λ e. e.0) (λ e. e.0) (λ e. e.0) y))) (from_step (map-From _ _ _ _ _ _ _ _ _ _ _ _ _ _ _ _ _ _ _ _ _ _ _ _ _ _ _ _ part_of test_part item_part join_part relation_part added_part arm_part later_part multiplied_part from_part group_part having_part order_part select_of (map-From _ _ _ _ _ _ _ _ _ _ _ _ _ _ _ _ _ _ _ _ _ _ _ _ _ _ _ _ (λ e. e.0) (λ e. e.0) (λ e. e.0) (λ e. e.0) (λ e. e.0) (λ e. e.0) (λ e. e.0) (λ e. e.0) (λ e. e.0) (λ e. e.0) (λ e. e.0) (λ e. e.0) (λ e. e.0) (λ e. e.0) y)))

  abbrev pub KeepsGroupBy : Type 0
  KeepsGroupBy = (y : Below GroupBy-F) → Q11 (group_by_node (map-GroupBy _ _ _ _ _ _ _ _ _ _ _ _ _ _ _ _ _ _ _ _ _ _ _ _ _ _ _ _ written_expr written_test written_item written_join written_relation written_added written_arm written_chained written_multiplied written_from written_group_by written_having written_order_key written_select (map-GroupBy _ _ _ _ _ _ _ _ _ _ _ _ _ _ _ _ _ _ _ _ _ _ _ _ _ _ _ _ (λ e. e.0) (λ e. e.0) (λ e. e.0) (λ e. e.0) (λ e. e.0) (λ e. e.0) (λ e. e.0) (λ e. e.0) (λ e. e.0) (λ e. e.0) (λ e. e.0) (λ e. e.0) (λ e. e.0) (λ e. e.0) y))) (group_by_step (map-GroupBy _ _ _ _ _ _ _ _ _ _ _ _ _ _ _ _ _ _ _ _ _ _ _ _ _ _ _ _ part_of test_part item_part join_part relation_part added_part arm_part later_part multiplied_part from_part group_part having_part order_part select_of (map-GroupBy _ _ _ _ _ _ _ _ _ _ _ _ _ _ _ _ _ _ _ _ _ _ _ _ _ _ _ _ (λ e. e.0) (λ e. e.0) (λ e. e.0) (λ e. e.0) (λ e. e.0) (λ e. e.0) (λ e. e.0) (λ e. e.0) (λ e. e.0) (λ e. e.0) (λ e. e.0) (λ e. e.0) (λ e. e.0) (λ e. e.0) y)))

  abbrev pub KeepsHaving : Type 0
  KeepsHaving = (y : Below Having-F) → Q12 (having_node (map-Having _ _ _ _ _ _ _ _ _ _ _ _ _ _ _ _ _ _ _ _ _ _ _ _ _ _ _ _ written_expr written_test written_item written_join written_relation written_added written_arm written_chained written_multiplied written_from written_group_by written_having written_order_key written_select (map-Having _ _ _ _ _ _ _ _ _ _ _ _ _ _ _ _ _ _ _ _ _ _ _ _ _ _ _ _ (λ e. e.0) (λ e. e.0) (λ e. e.0) (λ e. e.0) (λ e. e.0) (λ e. e.0) (λ e. e.0) (λ e. e.0) (λ e. e.0) (λ e. e.0) (λ e. e.0) (λ e. e.0) (λ e. e.0) (λ e. e.0) y))) (having_step (map-Having _ _ _ _ _ _ _ _ _ _ _ _ _ _ _ _ _ _ _ _ _ _ _ _ _ _ _ _ part_of test_part item_part join_part relation_part added_part arm_part later_part multiplied_part from_part group_part having_part order_part select_of (map-Having _ _ _ _ _ _ _ _ _ _ _ _ _ _ _ _ _ _ _ _ _ _ _ _ _ _ _ _ (λ e. e.0) (λ e. e.0) (λ e. e.0) (λ e. e.0) (λ e. e.0) (λ e. e.0) (λ e. e.0) (λ e. e.0) (λ e. e.0) (λ e. e.0) (λ e. e.0) (λ e. e.0) (λ e. e.0) (λ e. e.0) y)))

  abbrev pub KeepsOrderKey : Type 0
  KeepsOrderKey = (y : Below OrderKey-F) → Q13 (order_key_node (map-OrderKey _ _ _ _ _ _ _ _ _ _ _ _ _ _ _ _ _ _ _ _ _ _ _ _ _ _ _ _ written_expr written_test written_item written_join written_relation written_added written_arm written_chained written_multiplied written_from written_group_by written_having written_order_key written_select (map-OrderKey _ _ _ _ _ _ _ _ _ _ _ _ _ _ _ _ _ _ _ _ _ _ _ _ _ _ _ _ (λ e. e.0) (λ e. e.0) (λ e. e.0) (λ e. e.0) (λ e. e.0) (λ e. e.0) (λ e. e.0) (λ e. e.0) (λ e. e.0) (λ e. e.0) (λ e. e.0) (λ e. e.0) (λ e. e.0) (λ e. e.0) y))) (order_key_step (map-OrderKey _ _ _ _ _ _ _ _ _ _ _ _ _ _ _ _ _ _ _ _ _ _ _ _ _ _ _ _ part_of test_part item_part join_part relation_part added_part arm_part later_part multiplied_part from_part group_part having_part order_part select_of (map-OrderKey _ _ _ _ _ _ _ _ _ _ _ _ _ _ _ _ _ _ _ _ _ _ _ _ _ _ _ _ (λ e. e.0) (λ e. e.0) (λ e. e.0) (λ e. e.0) (λ e. e.0) (λ e. e.0) (λ e. e.0) (λ e. e.0) (λ e. e.0) (λ e. e.0) (λ e. e.0) (λ e. e.0) (λ e. e.0) (λ e. e.0) y)))

  abbrev pub KeepsSelect : Type 0
  KeepsSelect = (y : Below Select-F) → Q14 (select_node (map-Select _ _ _ _ _ _ _ _ _ _ _ _ _ _ _ _ _ _ _ _ _ _ _ _ _ _ _ _ written_expr written_test written_item written_join written_relation written_added written_arm written_chained written_multiplied written_from written_group_by written_having written_order_key written_select (map-Select _ _ _ _ _ _ _ _ _ _ _ _ _ _ _ _ _ _ _ _ _ _ _ _ _ _ _ _ (λ e. e.0) (λ e. e.0) (λ e. e.0) (λ e. e.0) (λ e. e.0) (λ e. e.0) (λ e. e.0) (λ e. e.0) (λ e. e.0) (λ e. e.0) (λ e. e.0) (λ e. e.0) (λ e. e.0) (λ e. e.0) y))) (select_step (map-Select _ _ _ _ _ _ _ _ _ _ _ _ _ _ _ _ _ _ _ _ _ _ _ _ _ _ _ _ part_of test_part item_part join_part relation_part added_part arm_part later_part multiplied_part from_part group_part having_part order_part select_of (map-Select _ _ _ _ _ _ _ _ _ _ _ _ _ _ _ _ _ _ _ _ _ _ _ _ _ _ _ _ (λ e. e.0) (λ e. e.0) (λ e. e.0) (λ e. e.0) (λ e. e.0) (λ e. e.0) (λ e. e.0) (λ e. e.0) (λ e. e.0) (λ e. e.0) (λ e. e.0) (λ e. e.0) (λ e. e.0) (λ e. e.0) y)))

  module _ (s1 : KeepsExpr) (s2 : KeepsTest) (s3 : KeepsItem) (s4 : KeepsJoin) (s5 : KeepsRelation) (s6 : KeepsAdded) (s7 : KeepsArm) (s8 : KeepsChained) (s9 : KeepsMultiplied) (s10 : KeepsFrom) (s11 : KeepsGroupBy) (s12 : KeepsHaving) (s13 : KeepsOrderKey) (s14 : KeepsSelect) where
    madeExpr : (x : Expr-F Expr Test Item Join Relation Added Arm Chained Multiplied From GroupBy Having OrderKey Select) (y : Below Expr-F) → map-Expr _ _ _ _ _ _ _ _ _ _ _ _ _ _ _ _ _ _ _ _ _ _ _ _ _ _ _ _ (λ e. e.0) (λ e. e.0) (λ e. e.0) (λ e. e.0) (λ e. e.0) (λ e. e.0) (λ e. e.0) (λ e. e.0) (λ e. e.0) (λ e. e.0) (λ e. e.0) (λ e. e.0) (λ e. e.0) (λ e. e.0) y ≡ x → Q1 (written_expr (roll-Expr x)) (part_of (roll-Expr x))
    unfolding part_of test_part item_part join_part relation_part added_part arm_part later_part multiplied_part from_part group_part having_part order_part select_of written_expr written_test written_item written_join written_relation written_added written_arm written_chained written_multiplied written_from written_group_by written_having written_order_key written_select
    madeExpr x y is = subst (λ w. Q1 w (part_of (roll-Expr x))) (sym (fold-roll-Expr Bool Bool Bool Bool Bool Bool Bool Bool Bool Bool Bool Bool Bool Bool expr_node test_node item_node join_node relation_node added_node arm_node chained_node multiplied_node from_node group_by_node having_node order_key_node select_node x)) (subst (Q1 (expr_node (map-Expr _ _ _ _ _ _ _ _ _ _ _ _ _ _ _ _ _ _ _ _ _ _ _ _ _ _ _ _ written_expr written_test written_item written_join written_relation written_added written_arm written_chained written_multiplied written_from written_group_by written_having written_order_key written_select x))) (sym (fold-roll-Expr Part TestPart ItemPart JoinPart RelationPart AddedPart ArmPart LaterPart MultipliedPart FromPart GroupPart HavingPart OrderPart SelectPart expr_step test_step item_step join_step relation_step added_step arm_step chained_step multiplied_step from_step group_by_step having_step order_key_step select_step x)) (subst (λ z. Q1 (expr_node (map-Expr _ _ _ _ _ _ _ _ _ _ _ _ _ _ _ _ _ _ _ _ _ _ _ _ _ _ _ _ written_expr written_test written_item written_join written_relation written_added written_arm written_chained written_multiplied written_from written_group_by written_having written_order_key written_select z)) (expr_step (map-Expr _ _ _ _ _ _ _ _ _ _ _ _ _ _ _ _ _ _ _ _ _ _ _ _ _ _ _ _ part_of test_part item_part join_part relation_part added_part arm_part later_part multiplied_part from_part group_part having_part order_part select_of z))) is (s1 y)))

    madeTest : (x : Test-F Expr Test Item Join Relation Added Arm Chained Multiplied From GroupBy Having OrderKey Select) (y : Below Test-F) → map-Test _ _ _ _ _ _ _ _ _ _ _ _ _ _ _ _ _ _ _ _ _ _ _ _ _ _ _ _ (λ e. e.0) (λ e. e.0) (λ e. e.0) (λ e. e.0) (λ e. e.0) (λ e. e.0) (λ e. e.0) (λ e. e.0) (λ e. e.0) (λ e. e.0) (λ e. e.0) (λ e. e.0) (λ e. e.0) (λ e. e.0) y ≡ x → Q2 (written_test (roll-Test x)) (test_part (roll-Test x))
    unfolding part_of test_part item_part join_part relation_part added_part arm_part later_part multiplied_part from_part group_part having_part order_part select_of written_expr written_test written_item written_join written_relation written_added written_arm written_chained written_multiplied written_from written_group_by written_having written_order_key written_select
    madeTest x y is = subst (λ w. Q2 w (test_part (roll-Test x))) (sym (fold-roll-Test Bool Bool Bool Bool Bool Bool Bool Bool Bool Bool Bool Bool Bool Bool expr_node test_node item_node join_node relation_node added_node arm_node chained_node multiplied_node from_node group_by_node having_node order_key_node select_node x)) (subst (Q2 (test_node (map-Test _ _ _ _ _ _ _ _ _ _ _ _ _ _ _ _ _ _ _ _ _ _ _ _ _ _ _ _ written_expr written_test written_item written_join written_relation written_added written_arm written_chained written_multiplied written_from written_group_by written_having written_order_key written_select x))) (sym (fold-roll-Test Part TestPart ItemPart JoinPart RelationPart AddedPart ArmPart LaterPart MultipliedPart FromPart GroupPart HavingPart OrderPart SelectPart expr_step test_step item_step join_step relation_step added_step arm_step chained_step multiplied_step from_step group_by_step having_step order_key_step select_step x)) (subst (λ z. Q2 (test_node (map-Test _ _ _ _ _ _ _ _ _ _ _ _ _ _ _ _ _ _ _ _ _ _ _ _ _ _ _ _ written_expr written_test written_item written_join written_relation written_added written_arm written_chained written_multiplied written_from written_group_by written_having written_order_key written_select z)) (test_step (map-Test _ _ _ _ _ _ _ _ _ _ _ _ _ _ _ _ _ _ _ _ _ _ _ _ _ _ _ _ part_of test_part item_part join_part relation_part added_part arm_part later_part multiplied_part from_part group_part having_part order_part select_of z))) is (s2 y)))

    madeItem : (x : Item-F Expr Test Item Join Relation Added Arm Chained Multiplied From GroupBy Having OrderKey Select) (y : Below Item-F) → map-Item _ _ _ _ _ _ _ _ _ _ _ _ _ _ _ _ _ _ _ _ _ _ _ _ _ _ _ _ (λ e. e.0) (λ e. e.0) (λ e. e.0) (λ e. e.0) (λ e. e.0) (λ e. e.0) (λ e. e.0) (λ e. e.0) (λ e. e.0) (λ e. e.0) (λ e. e.0) (λ e. e.0) (λ e. e.0) (λ e. e.0) y ≡ x → Q3 (written_item (roll-Item x)) (item_part (roll-Item x))
    unfolding part_of test_part item_part join_part relation_part added_part arm_part later_part multiplied_part from_part group_part having_part order_part select_of written_expr written_test written_item written_join written_relation written_added written_arm written_chained written_multiplied written_from written_group_by written_having written_order_key written_select
    madeItem x y is = subst (λ w. Q3 w (item_part (roll-Item x))) (sym (fold-roll-Item Bool Bool Bool Bool Bool Bool Bool Bool Bool Bool Bool Bool Bool Bool expr_node test_node item_node join_node relation_node added_node arm_node chained_node multiplied_node from_node group_by_node having_node order_key_node select_node x)) (subst (Q3 (item_node (map-Item _ _ _ _ _ _ _ _ _ _ _ _ _ _ _ _ _ _ _ _ _ _ _ _ _ _ _ _ written_expr written_test written_item written_join written_relation written_added written_arm written_chained written_multiplied written_from written_group_by written_having written_order_key written_select x))) (sym (fold-roll-Item Part TestPart ItemPart JoinPart RelationPart AddedPart ArmPart LaterPart MultipliedPart FromPart GroupPart HavingPart OrderPart SelectPart expr_step test_step item_step join_step relation_step added_step arm_step chained_step multiplied_step from_step group_by_step having_step order_key_step select_step x)) (subst (λ z. Q3 (item_node (map-Item _ _ _ _ _ _ _ _ _ _ _ _ _ _ _ _ _ _ _ _ _ _ _ _ _ _ _ _ written_expr written_test written_item written_join written_relation written_added written_arm written_chained written_multiplied written_from written_group_by written_having written_order_key written_select z)) (item_step (map-Item _ _ _ _ _ _ _ _ _ _ _ _ _ _ _ _ _ _ _ _ _ _ _ _ _ _ _ _ part_of test_part item_part join_part relation_part added_part arm_part later_part multiplied_part from_part group_part having_part order_part select_of z))) is (s3 y)))

    madeJoin : (x : Join-F Expr Test Item Join Relation Added Arm Chained Multiplied From GroupBy Having OrderKey Select) (y : Below Join-F) → map-Join _ _ _ _ _ _ _ _ _ _ _ _ _ _ _ _ _ _ _ _ _ _ _ _ _ _ _ _ (λ e. e.0) (λ e. e.0) (λ e. e.0) (λ e. e.0) (λ e. e.0) (λ e. e.0) (λ e. e.0) (λ e. e.0) (λ e. e.0) (λ e. e.0) (λ e. e.0) (λ e. e.0) (λ e. e.0) (λ e. e.0) y ≡ x → Q4 (written_join (roll-Join x)) (join_part (roll-Join x))
    unfolding part_of test_part item_part join_part relation_part added_part arm_part later_part multiplied_part from_part group_part having_part order_part select_of written_expr written_test written_item written_join written_relation written_added written_arm written_chained written_multiplied written_from written_group_by written_having written_order_key written_select
    madeJoin x y is = subst (λ w. Q4 w (join_part (roll-Join x))) (sym (fold-roll-Join Bool Bool Bool Bool Bool Bool Bool Bool Bool Bool Bool Bool Bool Bool expr_node test_node item_node join_node relation_node added_node arm_node chained_node multiplied_node from_node group_by_node having_node order_key_node select_node x)) (subst (Q4 (join_node (map-Join _ _ _ _ _ _ _ _ _ _ _ _ _ _ _ _ _ _ _ _ _ _ _ _ _ _ _ _ written_expr written_test written_item written_join written_relation written_added written_arm written_chained written_multiplied written_from written_group_by written_having written_order_key written_select x))) (sym (fold-roll-Join Part TestPart ItemPart JoinPart RelationPart AddedPart ArmPart LaterPart MultipliedPart FromPart GroupPart HavingPart OrderPart SelectPart expr_step test_step item_step join_step relation_step added_step arm_step chained_step multiplied_step from_step group_by_step having_step order_key_step select_step x)) (subst (λ z. Q4 (join_node (map-Join _ _ _ _ _ _ _ _ _ _ _ _ _ _ _ _ _ _ _ _ _ _ _ _ _ _ _ _ written_expr written_test written_item written_join written_relation written_added written_arm written_chained written_multiplied written_from written_group_by written_having written_order_key written_select z)) (join_step (map-Join _ _ _ _ _ _ _ _ _ _ _ _ _ _ _ _ _ _ _ _ _ _ _ _ _ _ _ _ part_of test_part item_part join_part relation_part added_part arm_part later_part multiplied_part from_part group_part having_part order_part select_of z))) is (s4 y)))

    madeRelation : (x : Relation-F Expr Test Item Join Relation Added Arm Chained Multiplied From GroupBy Having OrderKey Select) (y : Below Relation-F) → map-Relation _ _ _ _ _ _ _ _ _ _ _ _ _ _ _ _ _ _ _ _ _ _ _ _ _ _ _ _ (λ e. e.0) (λ e. e.0) (λ e. e.0) (λ e. e.0) (λ e. e.0) (λ e. e.0) (λ e. e.0) (λ e. e.0) (λ e. e.0) (λ e. e.0) (λ e. e.0) (λ e. e.0) (λ e. e.0) (λ e. e.0) y ≡ x → Q5 (written_relation (roll-Relation x)) (relation_part (roll-Relation x))
    unfolding part_of test_part item_part join_part relation_part added_part arm_part later_part multiplied_part from_part group_part having_part order_part select_of written_expr written_test written_item written_join written_relation written_added written_arm written_chained written_multiplied written_from written_group_by written_having written_order_key written_select
    madeRelation x y is = subst (λ w. Q5 w (relation_part (roll-Relation x))) (sym (fold-roll-Relation Bool Bool Bool Bool Bool Bool Bool Bool Bool Bool Bool Bool Bool Bool expr_node test_node item_node join_node relation_node added_node arm_node chained_node multiplied_node from_node group_by_node having_node order_key_node select_node x)) (subst (Q5 (relation_node (map-Relation _ _ _ _ _ _ _ _ _ _ _ _ _ _ _ _ _ _ _ _ _ _ _ _ _ _ _ _ written_expr written_test written_item written_join written_relation written_added written_arm written_chained written_multiplied written_from written_group_by written_having written_order_key written_select x))) (sym (fold-roll-Relation Part TestPart ItemPart JoinPart RelationPart AddedPart ArmPart LaterPart MultipliedPart FromPart GroupPart HavingPart OrderPart SelectPart expr_step test_step item_step join_step relation_step added_step arm_step chained_step multiplied_step from_step group_by_step having_step order_key_step select_step x)) (subst (λ z. Q5 (relation_node (map-Relation _ _ _ _ _ _ _ _ _ _ _ _ _ _ _ _ _ _ _ _ _ _ _ _ _ _ _ _ written_expr written_test written_item written_join written_relation written_added written_arm written_chained written_multiplied written_from written_group_by written_having written_order_key written_select z)) (relation_step (map-Relation _ _ _ _ _ _ _ _ _ _ _ _ _ _ _ _ _ _ _ _ _ _ _ _ _ _ _ _ part_of test_part item_part join_part relation_part added_part arm_part later_part multiplied_part from_part group_part having_part order_part select_of z))) is (s5 y)))

    madeAdded : (x : Added-F Expr Test Item Join Relation Added Arm Chained Multiplied From GroupBy Having OrderKey Select) (y : Below Added-F) → map-Added _ _ _ _ _ _ _ _ _ _ _ _ _ _ _ _ _ _ _ _ _ _ _ _ _ _ _ _ (λ e. e.0) (λ e. e.0) (λ e. e.0) (λ e. e.0) (λ e. e.0) (λ e. e.0) (λ e. e.0) (λ e. e.0) (λ e. e.0) (λ e. e.0) (λ e. e.0) (λ e. e.0) (λ e. e.0) (λ e. e.0) y ≡ x → Q6 (written_added (roll-Added x)) (added_part (roll-Added x))
    unfolding part_of test_part item_part join_part relation_part added_part arm_part later_part multiplied_part from_part group_part having_part order_part select_of written_expr written_test written_item written_join written_relation written_added written_arm written_chained written_multiplied written_from written_group_by written_having written_order_key written_select
    madeAdded x y is = subst (λ w. Q6 w (added_part (roll-Added x))) (sym (fold-roll-Added Bool Bool Bool Bool Bool Bool Bool Bool Bool Bool Bool Bool Bool Bool expr_node test_node item_node join_node relation_node added_node arm_node chained_node multiplied_node from_node group_by_node having_node order_key_node select_node x)) (subst (Q6 (added_node (map-Added _ _ _ _ _ _ _ _ _ _ _ _ _ _ _ _ _ _ _ _ _ _ _ _ _ _ _ _ written_expr written_test written_item written_join written_relation written_added written_arm written_chained written_multiplied written_from written_group_by written_having written_order_key written_select x))) (sym (fold-roll-Added Part TestPart ItemPart JoinPart RelationPart AddedPart ArmPart LaterPart MultipliedPart FromPart GroupPart HavingPart OrderPart SelectPart expr_step test_step item_step join_step relation_step added_step arm_step chained_step multiplied_step from_step group_by_step having_step order_key_step select_step x)) (subst (λ z. Q6 (added_node (map-Added _ _ _ _ _ _ _ _ _ _ _ _ _ _ _ _ _ _ _ _ _ _ _ _ _ _ _ _ written_expr written_test written_item written_join written_relation written_added written_arm written_chained written_multiplied written_from written_group_by written_having written_order_key written_select z)) (added_step (map-Added _ _ _ _ _ _ _ _ _ _ _ _ _ _ _ _ _ _ _ _ _ _ _ _ _ _ _ _ part_of test_part item_part join_part relation_part added_part arm_part later_part multiplied_part from_part group_part having_part order_part select_of z))) is (s6 y)))

    madeArm : (x : Arm-F Expr Test Item Join Relation Added Arm Chained Multiplied From GroupBy Having OrderKey Select) (y : Below Arm-F) → map-Arm _ _ _ _ _ _ _ _ _ _ _ _ _ _ _ _ _ _ _ _ _ _ _ _ _ _ _ _ (λ e. e.0) (λ e. e.0) (λ e. e.0) (λ e. e.0) (λ e. e.0) (λ e. e.0) (λ e. e.0) (λ e. e.0) (λ e. e.0) (λ e. e.0) (λ e. e.0) (λ e. e.0) (λ e. e.0) (λ e. e.0) y ≡ x → Q7 (written_arm (roll-Arm x)) (arm_part (roll-Arm x))
    unfolding part_of test_part item_part join_part relation_part added_part arm_part later_part multiplied_part from_part group_part having_part order_part select_of written_expr written_test written_item written_join written_relation written_added written_arm written_chained written_multiplied written_from written_group_by written_having written_order_key written_select
    madeArm x y is = subst (λ w. Q7 w (arm_part (roll-Arm x))) (sym (fold-roll-Arm Bool Bool Bool Bool Bool Bool Bool Bool Bool Bool Bool Bool Bool Bool expr_node test_node item_node join_node relation_node added_node arm_node chained_node multiplied_node from_node group_by_node having_node order_key_node select_node x)) (subst (Q7 (arm_node (map-Arm _ _ _ _ _ _ _ _ _ _ _ _ _ _ _ _ _ _ _ _ _ _ _ _ _ _ _ _ written_expr written_test written_item written_join written_relation written_added written_arm written_chained written_multiplied written_from written_group_by written_having written_order_key written_select x))) (sym (fold-roll-Arm Part TestPart ItemPart JoinPart RelationPart AddedPart ArmPart LaterPart MultipliedPart FromPart GroupPart HavingPart OrderPart SelectPart expr_step test_step item_step join_step relation_step added_step arm_step chained_step multiplied_step from_step group_by_step having_step order_key_step select_step x)) (subst (λ z. Q7 (arm_node (map-Arm _ _ _ _ _ _ _ _ _ _ _ _ _ _ _ _ _ _ _ _ _ _ _ _ _ _ _ _ written_expr written_test written_item written_join written_relation written_added written_arm written_chained written_multiplied written_from written_group_by written_having written_order_key written_select z)) (arm_step (map-Arm _ _ _ _ _ _ _ _ _ _ _ _ _ _ _ _ _ _ _ _ _ _ _ _ _ _ _ _ part_of test_part item_part join_part relation_part added_part arm_part later_part multiplied_part from_part group_part having_part order_part select_of z))) is (s7 y)))

    madeChained : (x : Chained-F Expr Test Item Join Relation Added Arm Chained Multiplied From GroupBy Having OrderKey Select) (y : Below Chained-F) → map-Chained _ _ _ _ _ _ _ _ _ _ _ _ _ _ _ _ _ _ _ _ _ _ _ _ _ _ _ _ (λ e. e.0) (λ e. e.0) (λ e. e.0) (λ e. e.0) (λ e. e.0) (λ e. e.0) (λ e. e.0) (λ e. e.0) (λ e. e.0) (λ e. e.0) (λ e. e.0) (λ e. e.0) (λ e. e.0) (λ e. e.0) y ≡ x → Q8 (written_chained (roll-Chained x)) (later_part (roll-Chained x))
    unfolding part_of test_part item_part join_part relation_part added_part arm_part later_part multiplied_part from_part group_part having_part order_part select_of written_expr written_test written_item written_join written_relation written_added written_arm written_chained written_multiplied written_from written_group_by written_having written_order_key written_select
    madeChained x y is = subst (λ w. Q8 w (later_part (roll-Chained x))) (sym (fold-roll-Chained Bool Bool Bool Bool Bool Bool Bool Bool Bool Bool Bool Bool Bool Bool expr_node test_node item_node join_node relation_node added_node arm_node chained_node multiplied_node from_node group_by_node having_node order_key_node select_node x)) (subst (Q8 (chained_node (map-Chained _ _ _ _ _ _ _ _ _ _ _ _ _ _ _ _ _ _ _ _ _ _ _ _ _ _ _ _ written_expr written_test written_item written_join written_relation written_added written_arm written_chained written_multiplied written_from written_group_by written_having written_order_key written_select x))) (sym (fold-roll-Chained Part TestPart ItemPart JoinPart RelationPart AddedPart ArmPart LaterPart MultipliedPart FromPart GroupPart HavingPart OrderPart SelectPart expr_step test_step item_step join_step relation_step added_step arm_step chained_step multiplied_step from_step group_by_step having_step order_key_step select_step x)) (subst (λ z. Q8 (chained_node (map-Chained _ _ _ _ _ _ _ _ _ _ _ _ _ _ _ _ _ _ _ _ _ _ _ _ _ _ _ _ written_expr written_test written_item written_join written_relation written_added written_arm written_chained written_multiplied written_from written_group_by written_having written_order_key written_select z)) (chained_step (map-Chained _ _ _ _ _ _ _ _ _ _ _ _ _ _ _ _ _ _ _ _ _ _ _ _ _ _ _ _ part_of test_part item_part join_part relation_part added_part arm_part later_part multiplied_part from_part group_part having_part order_part select_of z))) is (s8 y)))

    madeMultiplied : (x : Multiplied-F Expr Test Item Join Relation Added Arm Chained Multiplied From GroupBy Having OrderKey Select) (y : Below Multiplied-F) → map-Multiplied _ _ _ _ _ _ _ _ _ _ _ _ _ _ _ _ _ _ _ _ _ _ _ _ _ _ _ _ (λ e. e.0) (λ e. e.0) (λ e. e.0) (λ e. e.0) (λ e. e.0) (λ e. e.0) (λ e. e.0) (λ e. e.0) (λ e. e.0) (λ e. e.0) (λ e. e.0) (λ e. e.0) (λ e. e.0) (λ e. e.0) y ≡ x → Q9 (written_multiplied (roll-Multiplied x)) (multiplied_part (roll-Multiplied x))
    unfolding part_of test_part item_part join_part relation_part added_part arm_part later_part multiplied_part from_part group_part having_part order_part select_of written_expr written_test written_item written_join written_relation written_added written_arm written_chained written_multiplied written_from written_group_by written_having written_order_key written_select
    madeMultiplied x y is = subst (λ w. Q9 w (multiplied_part (roll-Multiplied x))) (sym (fold-roll-Multiplied Bool Bool Bool Bool Bool Bool Bool Bool Bool Bool Bool Bool Bool Bool expr_node test_node item_node join_node relation_node added_node arm_node chained_node multiplied_node from_node group_by_node having_node order_key_node select_node x)) (subst (Q9 (multiplied_node (map-Multiplied _ _ _ _ _ _ _ _ _ _ _ _ _ _ _ _ _ _ _ _ _ _ _ _ _ _ _ _ written_expr written_test written_item written_join written_relation written_added written_arm written_chained written_multiplied written_from written_group_by written_having written_order_key written_select x))) (sym (fold-roll-Multiplied Part TestPart ItemPart JoinPart RelationPart AddedPart ArmPart LaterPart MultipliedPart FromPart GroupPart HavingPart OrderPart SelectPart expr_step test_step item_step join_step relation_step added_step arm_step chained_step multiplied_step from_step group_by_step having_step order_key_step select_step x)) (subst (λ z. Q9 (multiplied_node (map-Multiplied _ _ _ _ _ _ _ _ _ _ _ _ _ _ _ _ _ _ _ _ _ _ _ _ _ _ _ _ written_expr written_test written_item written_join written_relation written_added written_arm written_chained written_multiplied written_from written_group_by written_having written_order_key written_select z)) (multiplied_step (map-Multiplied _ _ _ _ _ _ _ _ _ _ _ _ _ _ _ _ _ _ _ _ _ _ _ _ _ _ _ _ part_of test_part item_part join_part relation_part added_part arm_part later_part multiplied_part from_part group_part having_part order_part select_of z))) is (s9 y)))

    madeFrom : (x : From-F Expr Test Item Join Relation Added Arm Chained Multiplied From GroupBy Having OrderKey Select) (y : Below From-F) → map-From _ _ _ _ _ _ _ _ _ _ _ _ _ _ _ _ _ _ _ _ _ _ _ _ _ _ _ _ (λ e. e.0) (λ e. e.0) (λ e. e.0) (λ e. e.0) (λ e. e.0) (λ e. e.0) (λ e. e.0) (λ e. e.0) (λ e. e.0) (λ e. e.0) (λ e. e.0) (λ e. e.0) (λ e. e.0) (λ e. e.0) y ≡ x → Q10 (written_from (roll-From x)) (from_part (roll-From x))
    unfolding part_of test_part item_part join_part relation_part added_part arm_part later_part multiplied_part from_part group_part having_part order_part select_of written_expr written_test written_item written_join written_relation written_added written_arm written_chained written_multiplied written_from written_group_by written_having written_order_key written_select
    madeFrom x y is = subst (λ w. Q10 w (from_part (roll-From x))) (sym (fold-roll-From Bool Bool Bool Bool Bool Bool Bool Bool Bool Bool Bool Bool Bool Bool expr_node test_node item_node join_node relation_node added_node arm_node chained_node multiplied_node from_node group_by_node having_node order_key_node select_node x)) (subst (Q10 (from_node (map-From _ _ _ _ _ _ _ _ _ _ _ _ _ _ _ _ _ _ _ _ _ _ _ _ _ _ _ _ written_expr written_test written_item written_join written_relation written_added written_arm written_chained written_multiplied written_from written_group_by written_having written_order_key written_select x))) (sym (fold-roll-From Part TestPart ItemPart JoinPart RelationPart AddedPart ArmPart LaterPart MultipliedPart FromPart GroupPart HavingPart OrderPart SelectPart expr_step test_step item_step join_step relation_step added_step arm_step chained_step multiplied_step from_step group_by_step having_step order_key_step select_step x)) (subst (λ z. Q10 (from_node (map-From _ _ _ _ _ _ _ _ _ _ _ _ _ _ _ _ _ _ _ _ _ _ _ _ _ _ _ _ written_expr written_test written_item written_join written_relation written_added written_arm written_chained written_multiplied written_from written_group_by written_having written_order_key written_select z)) (from_step (map-From _ _ _ _ _ _ _ _ _ _ _ _ _ _ _ _ _ _ _ _ _ _ _ _ _ _ _ _ part_of test_part item_part join_part relation_part added_part arm_part later_part multiplied_part from_part group_part having_part order_part select_of z))) is (s10 y)))

    madeGroupBy : (x : GroupBy-F Expr Test Item Join Relation Added Arm Chained Multiplied From GroupBy Having OrderKey Select) (y : Below GroupBy-F) → map-GroupBy _ _ _ _ _ _ _ _ _ _ _ _ _ _ _ _ _ _ _ _ _ _ _ _ _ _ _ _ (λ e. e.0) (λ e. e.0) (λ e. e.0) (λ e. e.0) (λ e. e.0) (λ e. e.0) (λ e. e.0) (λ e. e.0) (λ e. e.0) (λ e. e.0) (λ e. e.0) (λ e. e.0) (λ e. e.0) (λ e. e.0) y ≡ x → Q11 (written_group_by (roll-GroupBy x)) (group_part (roll-GroupBy x))
    unfolding part_of test_part item_part join_part relation_part added_part arm_part later_part multiplied_part from_part group_part having_part order_part select_of written_expr written_test written_item written_join written_relation written_added written_arm written_chained written_multiplied written_from written_group_by written_having written_order_key written_select
    madeGroupBy x y is = subst (λ w. Q11 w (group_part (roll-GroupBy x))) (sym (fold-roll-GroupBy Bool Bool Bool Bool Bool Bool Bool Bool Bool Bool Bool Bool Bool Bool expr_node test_node item_node join_node relation_node added_node arm_node chained_node multiplied_node from_node group_by_node having_node order_key_node select_node x)) (subst (Q11 (group_by_node (map-GroupBy _ _ _ _ _ _ _ _ _ _ _ _ _ _ _ _ _ _ _ _ _ _ _ _ _ _ _ _ written_expr written_test written_item written_join written_relation written_added written_arm written_chained written_multiplied written_from written_group_by written_having written_order_key written_select x))) (sym (fold-roll-GroupBy Part TestPart ItemPart JoinPart RelationPart AddedPart ArmPart LaterPart MultipliedPart FromPart GroupPart HavingPart OrderPart SelectPart expr_step test_step item_step join_step relation_step added_step arm_step chained_step multiplied_step from_step group_by_step having_step order_key_step select_step x)) (subst (λ z. Q11 (group_by_node (map-GroupBy _ _ _ _ _ _ _ _ _ _ _ _ _ _ _ _ _ _ _ _ _ _ _ _ _ _ _ _ written_expr written_test written_item written_join written_relation written_added written_arm written_chained written_multiplied written_from written_group_by written_having written_order_key written_select z)) (group_by_step (map-GroupBy _ _ _ _ _ _ _ _ _ _ _ _ _ _ _ _ _ _ _ _ _ _ _ _ _ _ _ _ part_of test_part item_part join_part relation_part added_part arm_part later_part multiplied_part from_part group_part having_part order_part select_of z))) is (s11 y)))

    madeHaving : (x : Having-F Expr Test Item Join Relation Added Arm Chained Multiplied From GroupBy Having OrderKey Select) (y : Below Having-F) → map-Having _ _ _ _ _ _ _ _ _ _ _ _ _ _ _ _ _ _ _ _ _ _ _ _ _ _ _ _ (λ e. e.0) (λ e. e.0) (λ e. e.0) (λ e. e.0) (λ e. e.0) (λ e. e.0) (λ e. e.0) (λ e. e.0) (λ e. e.0) (λ e. e.0) (λ e. e.0) (λ e. e.0) (λ e. e.0) (λ e. e.0) y ≡ x → Q12 (written_having (roll-Having x)) (having_part (roll-Having x))
    unfolding part_of test_part item_part join_part relation_part added_part arm_part later_part multiplied_part from_part group_part having_part order_part select_of written_expr written_test written_item written_join written_relation written_added written_arm written_chained written_multiplied written_from written_group_by written_having written_order_key written_select
    madeHaving x y is = subst (λ w. Q12 w (having_part (roll-Having x))) (sym (fold-roll-Having Bool Bool Bool Bool Bool Bool Bool Bool Bool Bool Bool Bool Bool Bool expr_node test_node item_node join_node relation_node added_node arm_node chained_node multiplied_node from_node group_by_node having_node order_key_node select_node x)) (subst (Q12 (having_node (map-Having _ _ _ _ _ _ _ _ _ _ _ _ _ _ _ _ _ _ _ _ _ _ _ _ _ _ _ _ written_expr written_test written_item written_join written_relation written_added written_arm written_chained written_multiplied written_from written_group_by written_having written_order_key written_select x))) (sym (fold-roll-Having Part TestPart ItemPart JoinPart RelationPart AddedPart ArmPart LaterPart MultipliedPart FromPart GroupPart HavingPart OrderPart SelectPart expr_step test_step item_step join_step relation_step added_step arm_step chained_step multiplied_step from_step group_by_step having_step order_key_step select_step x)) (subst (λ z. Q12 (having_node (map-Having _ _ _ _ _ _ _ _ _ _ _ _ _ _ _ _ _ _ _ _ _ _ _ _ _ _ _ _ written_expr written_test written_item written_join written_relation written_added written_arm written_chained written_multiplied written_from written_group_by written_having written_order_key written_select z)) (having_step (map-Having _ _ _ _ _ _ _ _ _ _ _ _ _ _ _ _ _ _ _ _ _ _ _ _ _ _ _ _ part_of test_part item_part join_part relation_part added_part arm_part later_part multiplied_part from_part group_part having_part order_part select_of z))) is (s12 y)))

    madeOrderKey : (x : OrderKey-F Expr Test Item Join Relation Added Arm Chained Multiplied From GroupBy Having OrderKey Select) (y : Below OrderKey-F) → map-OrderKey _ _ _ _ _ _ _ _ _ _ _ _ _ _ _ _ _ _ _ _ _ _ _ _ _ _ _ _ (λ e. e.0) (λ e. e.0) (λ e. e.0) (λ e. e.0) (λ e. e.0) (λ e. e.0) (λ e. e.0) (λ e. e.0) (λ e. e.0) (λ e. e.0) (λ e. e.0) (λ e. e.0) (λ e. e.0) (λ e. e.0) y ≡ x → Q13 (written_order_key (roll-OrderKey x)) (order_part (roll-OrderKey x))
    unfolding part_of test_part item_part join_part relation_part added_part arm_part later_part multiplied_part from_part group_part having_part order_part select_of written_expr written_test written_item written_join written_relation written_added written_arm written_chained written_multiplied written_from written_group_by written_having written_order_key written_select
    madeOrderKey x y is = subst (λ w. Q13 w (order_part (roll-OrderKey x))) (sym (fold-roll-OrderKey Bool Bool Bool Bool Bool Bool Bool Bool Bool Bool Bool Bool Bool Bool expr_node test_node item_node join_node relation_node added_node arm_node chained_node multiplied_node from_node group_by_node having_node order_key_node select_node x)) (subst (Q13 (order_key_node (map-OrderKey _ _ _ _ _ _ _ _ _ _ _ _ _ _ _ _ _ _ _ _ _ _ _ _ _ _ _ _ written_expr written_test written_item written_join written_relation written_added written_arm written_chained written_multiplied written_from written_group_by written_having written_order_key written_select x))) (sym (fold-roll-OrderKey Part TestPart ItemPart JoinPart RelationPart AddedPart ArmPart LaterPart MultipliedPart FromPart GroupPart HavingPart OrderPart SelectPart expr_step test_step item_step join_step relation_step added_step arm_step chained_step multiplied_step from_step group_by_step having_step order_key_step select_step x)) (subst (λ z. Q13 (order_key_node (map-OrderKey _ _ _ _ _ _ _ _ _ _ _ _ _ _ _ _ _ _ _ _ _ _ _ _ _ _ _ _ written_expr written_test written_item written_join written_relation written_added written_arm written_chained written_multiplied written_from written_group_by written_having written_order_key written_select z)) (order_key_step (map-OrderKey _ _ _ _ _ _ _ _ _ _ _ _ _ _ _ _ _ _ _ _ _ _ _ _ _ _ _ _ part_of test_part item_part join_part relation_part added_part arm_part later_part multiplied_part from_part group_part having_part order_part select_of z))) is (s13 y)))

    madeSelect : (x : Select-F Expr Test Item Join Relation Added Arm Chained Multiplied From GroupBy Having OrderKey Select) (y : Below Select-F) → map-Select _ _ _ _ _ _ _ _ _ _ _ _ _ _ _ _ _ _ _ _ _ _ _ _ _ _ _ _ (λ e. e.0) (λ e. e.0) (λ e. e.0) (λ e. e.0) (λ e. e.0) (λ e. e.0) (λ e. e.0) (λ e. e.0) (λ e. e.0) (λ e. e.0) (λ e. e.0) (λ e. e.0) (λ e. e.0) (λ e. e.0) y ≡ x → Q14 (written_select (roll-Select x)) (select_of (roll-Select x))
    unfolding part_of test_part item_part join_part relation_part added_part arm_part later_part multiplied_part from_part group_part having_part order_part select_of written_expr written_test written_item written_join written_relation written_added written_arm written_chained written_multiplied written_from written_group_by written_having written_order_key written_select
    madeSelect x y is = subst (λ w. Q14 w (select_of (roll-Select x))) (sym (fold-roll-Select Bool Bool Bool Bool Bool Bool Bool Bool Bool Bool Bool Bool Bool Bool expr_node test_node item_node join_node relation_node added_node arm_node chained_node multiplied_node from_node group_by_node having_node order_key_node select_node x)) (subst (Q14 (select_node (map-Select _ _ _ _ _ _ _ _ _ _ _ _ _ _ _ _ _ _ _ _ _ _ _ _ _ _ _ _ written_expr written_test written_item written_join written_relation written_added written_arm written_chained written_multiplied written_from written_group_by written_having written_order_key written_select x))) (sym (fold-roll-Select Part TestPart ItemPart JoinPart RelationPart AddedPart ArmPart LaterPart MultipliedPart FromPart GroupPart HavingPart OrderPart SelectPart expr_step test_step item_step join_step relation_step added_step arm_step chained_step multiplied_step from_step group_by_step having_step order_key_step select_step x)) (subst (λ z. Q14 (select_node (map-Select _ _ _ _ _ _ _ _ _ _ _ _ _ _ _ _ _ _ _ _ _ _ _ _ _ _ _ _ written_expr written_test written_item written_join written_relation written_added written_arm written_chained written_multiplied written_from written_group_by written_having written_order_key written_select z)) (select_step (map-Select _ _ _ _ _ _ _ _ _ _ _ _ _ _ _ _ _ _ _ _ _ _ _ _ _ _ _ _ part_of test_part item_part join_part relation_part added_part arm_part later_part multiplied_part from_part group_part having_part order_part select_of z))) is (s14 y)))

    pub of_expression : (x : Expr) → Q1 (written_expr x) (part_of x)
    of_expression = ind-Expr (λ x. Q1 (written_expr x) (part_of x)) (λ x. Q2 (written_test x) (test_part x)) (λ x. Q3 (written_item x) (item_part x)) (λ x. Q4 (written_join x) (join_part x)) (λ x. Q5 (written_relation x) (relation_part x)) (λ x. Q6 (written_added x) (added_part x)) (λ x. Q7 (written_arm x) (arm_part x)) (λ x. Q8 (written_chained x) (later_part x)) (λ x. Q9 (written_multiplied x) (multiplied_part x)) (λ x. Q10 (written_from x) (from_part x)) (λ x. Q11 (written_group_by x) (group_part x)) (λ x. Q12 (written_having x) (having_part x)) (λ x. Q13 (written_order_key x) (order_part x)) (λ x. Q14 (written_select x) (select_of x)) madeExpr madeTest madeItem madeJoin madeRelation madeAdded madeArm madeChained madeMultiplied madeFrom madeGroupBy madeHaving madeOrderKey madeSelect

    pub of_select : (x : Select) → Q14 (written_select x) (select_of x)
    of_select = ind-Select (λ x. Q1 (written_expr x) (part_of x)) (λ x. Q2 (written_test x) (test_part x)) (λ x. Q3 (written_item x) (item_part x)) (λ x. Q4 (written_join x) (join_part x)) (λ x. Q5 (written_relation x) (relation_part x)) (λ x. Q6 (written_added x) (added_part x)) (λ x. Q7 (written_arm x) (arm_part x)) (λ x. Q8 (written_chained x) (later_part x)) (λ x. Q9 (written_multiplied x) (multiplied_part x)) (λ x. Q10 (written_from x) (from_part x)) (λ x. Q11 (written_group_by x) (group_part x)) (λ x. Q12 (written_having x) (having_part x)) (λ x. Q13 (written_order_key x) (order_part x)) (λ x. Q14 (written_select x) (select_of x)) madeExpr madeTest madeItem madeJoin madeRelation madeAdded madeArm madeChained madeMultiplied madeFrom madeGroupBy madeHaving madeOrderKey madeSelect
