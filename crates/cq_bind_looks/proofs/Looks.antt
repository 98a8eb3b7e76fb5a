-- What the walk gives of each node and of each part, by what it gives of the parts in it.
use Rattle.std.proofs.Common.{◌≡◌, ℕ, Bool, List, map, None, Some, rules}
use Rattle.std.specs.Option.{option_map}
use Rattle.cq_grammar.specs.declared.expr.AddOperator.{AddOperator}
use Rattle.cq_grammar.specs.declared.expr.Comparison.{Comparison}
use Rattle.cq_grammar.specs.declared.expr.Aggregate.{Aggregate}
use Rattle.cq_grammar.specs.declared.expr.NullTest.{NullTest}
use Rattle.cq_grammar.specs.declared.name.Name.{Name}
use Rattle.cq_grammar.specs.declared.expr.Expr.TheOpen.{Expr-F, Test-F, Relation-F, Join-F}
use Rattle.cq_grammar.specs.declared.expr.Expr.TheFolds.{fold_out-Expr, fold_out-From, fold_out-Chained, fold_out-Added, fold_out-Multiplied, fold_out-Arm, fold_out-GroupBy, fold_out-Having, fold_out-OrderKey, fold_out-Select}
use Rattle.cq_grammar.specs.declared.expr.Test.{Test}
use Rattle.cq_grammar.specs.declared.query.Select.{Select, out-Select}
use Rattle.cq_grammar.specs.declared.query.From.{From, out-From}
use Rattle.cq_grammar.specs.declared.query.Relation.{Relation}
use Rattle.cq_grammar.specs.declared.query.GroupBy.{GroupBy, out-GroupBy}
use Rattle.cq_grammar.specs.declared.query.Having.{Having, out-Having}
use Rattle.cq_grammar.specs.declared.query.OrderKey.{OrderKey, out-OrderKey}
use Rattle.cq_grammar.specs.declared.expr.Added.{Added, out-Added}
use Rattle.cq_grammar.specs.declared.expr.Multiplied.{Multiplied, out-Multiplied}
use Rattle.cq_grammar.specs.declared.expr.Chained.{Chained, out-Chained}
use Rattle.cq_grammar.specs.declared.expr.Arm.{Arm, out-Arm}
use Rattle.cq_grammar.specs.declared.expr.Expr.{Expr, the_lemmas}
use Rattle.cq_grammar.specs.declared.expr.Expr.TheVariants as e
use Rattle.cq_grammar.specs.declared.expr.Test.TheVariants as tests
use Rattle.cq_grammar.specs.declared.query.Item.TheVariants as item
use Rattle.cq_grammar.specs.declared.query.Relation.TheVariants as relation
use Rattle.cq_grammar.specs.declared.query.Join.TheVariants as join
use Rattle.cq_reading.specs.Expressions.{expr_step, test_step}
use Rattle.cq_reading.specs.Parts.{All, AllOf, One}
use Rattle.cq_reading.specs.Relations.{relation_step, join_step, from_step}
use Rattle.cq_reading.specs.Selects.{descends}
use Rattle.cq_bind_looks.specs.Layers.{expr_layer, select_layer, select_groups}
use Rattle.cq_reading.specs.Walk.{groups, select_step, part_of, select_of, test_part, item_part, join_part, relation_part, added_part, arm_part, later_part, multiplied_part, from_part, group_part, having_part, order_part}

pub part_is : (x : Expr) → part_of x ≡ expr_step (expr_layer x)
unfolding part_of select_of test_part item_part join_part relation_part added_part arm_part later_part multiplied_part from_part group_part having_part order_part
part_is x = fold_out-Expr _ _ _ _ _ _ _ _ _ _ _ _ _ _ _ _ _ _ _ _ _ _ _ _ _ _ _ _ x

pub node_Or : (first : Expr) (rest : List Chained) → part_of (e.Or first rest) ≡ expr_step (Expr-F.Or (part_of first) (map later_part rest))
unfolding part_of select_of test_part item_part join_part relation_part added_part arm_part later_part multiplied_part from_part group_part having_part order_part
node_Or first rest = search (rules, the_lemmas)

pub node_And : (first : Expr) (rest : List Chained) → part_of (e.And first rest) ≡ expr_step (Expr-F.And (part_of first) (map later_part rest))
unfolding part_of select_of test_part item_part join_part relation_part added_part arm_part later_part multiplied_part from_part group_part having_part order_part
node_And first rest = search (rules, the_lemmas)

pub node_Not : (inner : Expr) (at : ℕ) → part_of (e.Not inner at) ≡ expr_step (Expr-F.Not (part_of inner) at)
unfolding part_of select_of test_part item_part join_part relation_part added_part arm_part later_part multiplied_part from_part group_part having_part order_part
node_Not inner at = search (rules, the_lemmas)

pub node_Is : (first : Expr) (rest : List NullTest) → part_of (e.Is first rest) ≡ expr_step (Expr-F.Is (part_of first) rest)
unfolding part_of select_of test_part item_part join_part relation_part added_part arm_part later_part multiplied_part from_part group_part having_part order_part
node_Is first rest = search (rules, the_lemmas)

pub node_Compare : (left : Expr) (operator : Comparison) (right : Expr) (at : ℕ) → part_of (e.Compare left operator right at) ≡ expr_step (Expr-F.Compare (part_of left) operator (part_of right) at)
unfolding part_of select_of test_part item_part join_part relation_part added_part arm_part later_part multiplied_part from_part group_part having_part order_part
node_Compare left operator right at = search (rules, the_lemmas)

pub node_Tested : (operand : Expr) (negated : Bool) (test : Test) (at : ℕ) → part_of (e.Tested operand negated test at) ≡ expr_step (Expr-F.Tested (part_of operand) negated (test_part test) at)
unfolding part_of select_of test_part item_part join_part relation_part added_part arm_part later_part multiplied_part from_part group_part having_part order_part
node_Tested operand negated test at = search (rules, the_lemmas)

pub node_Sum : (first : Expr) (rest : List Added) → part_of (e.Sum first rest) ≡ expr_step (Expr-F.Sum (part_of first) (map added_part rest))
unfolding part_of select_of test_part item_part join_part relation_part added_part arm_part later_part multiplied_part from_part group_part having_part order_part
node_Sum first rest = search (rules, the_lemmas)

pub node_Product : (first : Expr) (rest : List Multiplied) → part_of (e.Product first rest) ≡ expr_step (Expr-F.Product (part_of first) (map multiplied_part rest))
unfolding part_of select_of test_part item_part join_part relation_part added_part arm_part later_part multiplied_part from_part group_part having_part order_part
node_Product first rest = search (rules, the_lemmas)

pub node_Signed : (sign : AddOperator) (inner : Expr) (at : ℕ) → part_of (e.Signed sign inner at) ≡ expr_step (Expr-F.Signed sign (part_of inner) at)
unfolding part_of select_of test_part item_part join_part relation_part added_part arm_part later_part multiplied_part from_part group_part having_part order_part
node_Signed sign inner at = search (rules, the_lemmas)

pub node_Number : (value at : ℕ) → part_of (e.Number value at) ≡ expr_step (Expr-F.Number value at)
unfolding part_of select_of test_part item_part join_part relation_part added_part arm_part later_part multiplied_part from_part group_part having_part order_part
node_Number value at = search (rules, the_lemmas)

pub node_Quoted : (text : List ℕ) (at : ℕ) → part_of (e.Quoted text at) ≡ expr_step (Expr-F.Quoted text at)
unfolding part_of select_of test_part item_part join_part relation_part added_part arm_part later_part multiplied_part from_part group_part having_part order_part
node_Quoted text at = search (rules, the_lemmas)

pub node_Null : (at : ℕ) → part_of (e.Null at) ≡ expr_step (Expr-F.Null at)
unfolding part_of select_of test_part item_part join_part relation_part added_part arm_part later_part multiplied_part from_part group_part having_part order_part
node_Null at = search (rules, the_lemmas)

pub node_Column : (column : Name) → part_of (e.Column column) ≡ expr_step (Expr-F.Column column)
unfolding part_of select_of test_part item_part join_part relation_part added_part arm_part later_part multiplied_part from_part group_part having_part order_part
node_Column column = search (rules, the_lemmas)

pub node_ColumnOf : (relation column : Name) → part_of (e.ColumnOf relation column) ≡ expr_step (Expr-F.ColumnOf relation column)
unfolding part_of select_of test_part item_part join_part relation_part added_part arm_part later_part multiplied_part from_part group_part having_part order_part
node_ColumnOf relation column = search (rules, the_lemmas)

pub node_Group : (inner : Expr) (at : ℕ) → part_of (e.Group inner at) ≡ expr_step (Expr-F.Group (part_of inner) at)
unfolding part_of select_of test_part item_part join_part relation_part added_part arm_part later_part multiplied_part from_part group_part having_part order_part
node_Group inner at = search (rules, the_lemmas)

pub node_Case : (arms : List Arm) (at : ℕ) → part_of (e.Case arms None at) ≡ expr_step (Expr-F.Case (map arm_part arms) None at)
unfolding part_of select_of test_part item_part join_part relation_part added_part arm_part later_part multiplied_part from_part group_part having_part order_part
node_Case arms at = search (rules, the_lemmas)

pub node_CaseElse : (arms : List Arm) (other : Expr) (at : ℕ) → part_of (e.Case arms (Some other) at) ≡ expr_step (Expr-F.Case (map arm_part arms) (Some (part_of other)) at)
unfolding part_of select_of test_part item_part join_part relation_part added_part arm_part later_part multiplied_part from_part group_part having_part order_part
node_CaseElse arms other at = search (rules, the_lemmas)

pub node_Coalesce : (items : List Expr) (at : ℕ) → part_of (e.Coalesce items at) ≡ expr_step (Expr-F.Coalesce (map part_of items) at)
unfolding part_of select_of test_part item_part join_part relation_part added_part arm_part later_part multiplied_part from_part group_part having_part order_part
node_Coalesce items at = search (rules, the_lemmas)

pub node_CountAll : (at : ℕ) → part_of (e.CountAll at) ≡ expr_step (Expr-F.CountAll at)
unfolding part_of select_of test_part item_part join_part relation_part added_part arm_part later_part multiplied_part from_part group_part having_part order_part
node_CountAll at = search (rules, the_lemmas)

pub node_Aggregate : (function : Aggregate) (argument : Expr) (at : ℕ) → part_of (e.Aggregate function argument at) ≡ expr_step (Expr-F.Aggregate function (part_of argument) at)
unfolding part_of select_of test_part item_part join_part relation_part added_part arm_part later_part multiplied_part from_part group_part having_part order_part
node_Aggregate function argument at = search (rules, the_lemmas)

-- ---- IN and BETWEEN

pub test_InSelect : (select : Select) → test_part (tests.InSelect select) ≡ test_step (Test-F.InSelect (select_of select))
unfolding part_of select_of test_part item_part join_part relation_part added_part arm_part later_part multiplied_part from_part group_part having_part order_part
test_InSelect select = search (rules, the_lemmas)

pub test_InList : (items : List Expr) → test_part (tests.InList items) ≡ test_step (Test-F.InList (map part_of items))
unfolding part_of select_of test_part item_part join_part relation_part added_part arm_part later_part multiplied_part from_part group_part having_part order_part
test_InList items = search (rules, the_lemmas)

pub test_Between : (low high : Expr) → test_part (tests.Between low high) ≡ test_step (Test-F.Between (part_of low) (part_of high))
unfolding part_of select_of test_part item_part join_part relation_part added_part arm_part later_part multiplied_part from_part group_part having_part order_part
test_Between low high = search (rules, the_lemmas)

-- ---- the parts of lists

pub later_part_is : (c : Chained) → later_part c ≡ record { part = part_of (out-Chained c).part; at = (out-Chained c).at }
unfolding part_of select_of test_part item_part join_part relation_part added_part arm_part later_part multiplied_part from_part group_part having_part order_part
later_part_is c = fold_out-Chained _ _ _ _ _ _ _ _ _ _ _ _ _ _ _ _ _ _ _ _ _ _ _ _ _ _ _ _ c

pub added_part_is : (a : Added) → added_part a ≡ record { operator = (out-Added a).operator; part = part_of (out-Added a).term; at = (out-Added a).at }
unfolding part_of select_of test_part item_part join_part relation_part added_part arm_part later_part multiplied_part from_part group_part having_part order_part
added_part_is a = fold_out-Added _ _ _ _ _ _ _ _ _ _ _ _ _ _ _ _ _ _ _ _ _ _ _ _ _ _ _ _ a

pub multiplied_part_is : (m : Multiplied) → multiplied_part m ≡ record { operator = (out-Multiplied m).operator; part = part_of (out-Multiplied m).factor; at = (out-Multiplied m).at }
unfolding part_of select_of test_part item_part join_part relation_part added_part arm_part later_part multiplied_part from_part group_part having_part order_part
multiplied_part_is m = fold_out-Multiplied _ _ _ _ _ _ _ _ _ _ _ _ _ _ _ _ _ _ _ _ _ _ _ _ _ _ _ _ m

pub arm_part_is : (a : Arm) → arm_part a ≡ record { condition = part_of (out-Arm a).condition; result = part_of (out-Arm a).result }
unfolding part_of select_of test_part item_part join_part relation_part added_part arm_part later_part multiplied_part from_part group_part having_part order_part
arm_part_is a = fold_out-Arm _ _ _ _ _ _ _ _ _ _ _ _ _ _ _ _ _ _ _ _ _ _ _ _ _ _ _ _ a

-- ---- the parts of a SELECT

pub item_All : (at : ℕ) → item_part (item.All at) ≡ All at
unfolding part_of select_of test_part item_part join_part relation_part added_part arm_part later_part multiplied_part from_part group_part having_part order_part
item_All at = search (rules, the_lemmas)

pub item_AllOf : (relation : Name) → item_part (item.AllOf relation) ≡ AllOf relation.text relation.at
unfolding part_of select_of test_part item_part join_part relation_part added_part arm_part later_part multiplied_part from_part group_part having_part order_part
item_AllOf relation = search (rules, the_lemmas)

pub item_Value : (value : Expr) → item_part (item.Value value None) ≡ One (part_of value) None
unfolding part_of select_of test_part item_part join_part relation_part added_part arm_part later_part multiplied_part from_part group_part having_part order_part
item_Value value = search (rules, the_lemmas)

pub item_Named : (value : Expr) (name : Name) → item_part (item.Value value (Some name)) ≡ One (part_of value) (Some name.text)
unfolding part_of select_of test_part item_part join_part relation_part added_part arm_part later_part multiplied_part from_part group_part having_part order_part
item_Named value name = search (rules, the_lemmas)

pub group_part_is : (g : GroupBy) → group_part g ≡ record { keys = map part_of (out-GroupBy g).keys; at = (out-GroupBy g).at }
unfolding part_of select_of test_part item_part join_part relation_part added_part arm_part later_part multiplied_part from_part group_part having_part order_part
group_part_is g = fold_out-GroupBy _ _ _ _ _ _ _ _ _ _ _ _ _ _ _ _ _ _ _ _ _ _ _ _ _ _ _ _ g

pub having_part_is : (h : Having) → having_part h ≡ record { condition = part_of (out-Having h).condition; at = (out-Having h).at }
unfolding part_of select_of test_part item_part join_part relation_part added_part arm_part later_part multiplied_part from_part group_part having_part order_part
having_part_is h = fold_out-Having _ _ _ _ _ _ _ _ _ _ _ _ _ _ _ _ _ _ _ _ _ _ _ _ _ _ _ _ h

pub order_part_is : (o : OrderKey) → order_part o ≡ record { key = part_of (out-OrderKey o).key; descending = descends (out-OrderKey o).direction }
unfolding part_of select_of test_part item_part join_part relation_part added_part arm_part later_part multiplied_part from_part group_part having_part order_part
order_part_is o = fold_out-OrderKey _ _ _ _ _ _ _ _ _ _ _ _ _ _ _ _ _ _ _ _ _ _ _ _ _ _ _ _ o

pub relation_Table : (name : Name) → relation_part (relation.Table name) ≡ relation_step (Relation-F.Table name)
unfolding part_of select_of test_part item_part join_part relation_part added_part arm_part later_part multiplied_part from_part group_part having_part order_part
relation_Table name = search (rules, the_lemmas)

pub relation_TableAs : (name : Name) (spelled : Bool) (alias : Name) → relation_part (relation.TableAs name spelled alias) ≡ relation_step (Relation-F.TableAs name spelled alias)
unfolding part_of select_of test_part item_part join_part relation_part added_part arm_part later_part multiplied_part from_part group_part having_part order_part
relation_TableAs name spelled alias = search (rules, the_lemmas)

pub relation_Subquery : (select : Select) (spelled : Bool) (alias : Name) (at : ℕ) → relation_part (relation.Subquery select spelled alias at) ≡ relation_step (Relation-F.Subquery (select_of select) spelled alias at)
unfolding part_of select_of test_part item_part join_part relation_part added_part arm_part later_part multiplied_part from_part group_part having_part order_part
relation_Subquery select spelled alias at = search (rules, the_lemmas)

pub join_Inner : (spelled : Bool) (relation : Relation) (on : Expr) (at : ℕ) → join_part (join.Inner spelled relation on at) ≡ join_step (Join-F.Inner spelled (relation_part relation) (part_of on) at)
unfolding part_of select_of test_part item_part join_part relation_part added_part arm_part later_part multiplied_part from_part group_part having_part order_part
join_Inner spelled relation on at = search (rules, the_lemmas)

pub join_Left : (spelled : Bool) (relation : Relation) (on : Expr) (at : ℕ) → join_part (join.Left spelled relation on at) ≡ join_step (Join-F.Left spelled (relation_part relation) (part_of on) at)
unfolding part_of select_of test_part item_part join_part relation_part added_part arm_part later_part multiplied_part from_part group_part having_part order_part
join_Left spelled relation on at = search (rules, the_lemmas)

pub join_Cross : (relation : Relation) (at : ℕ) → join_part (join.Cross relation at) ≡ join_step (Join-F.Cross (relation_part relation) at)
unfolding part_of select_of test_part item_part join_part relation_part added_part arm_part later_part multiplied_part from_part group_part having_part order_part
join_Cross relation at = search (rules, the_lemmas)

pub from_part_is : (f : From) → from_part f ≡ from_step (record { first = relation_part (out-From f).first; joins = map join_part (out-From f).joins })
unfolding part_of select_of test_part item_part join_part relation_part added_part arm_part later_part multiplied_part from_part group_part having_part order_part
from_part_is f = fold_out-From _ _ _ _ _ _ _ _ _ _ _ _ _ _ _ _ _ _ _ _ _ _ _ _ _ _ _ _ f

pub select_is : (q : Select) → select_of q ≡ select_step (select_layer q)
unfolding part_of select_of test_part item_part join_part relation_part added_part arm_part later_part multiplied_part from_part group_part having_part order_part
select_is q = fold_out-Select _ _ _ _ _ _ _ _ _ _ _ _ _ _ _ _ _ _ _ _ _ _ _ _ _ _ _ _ q

pub layer_distinct : (q : Select) → (select_layer q).distinct ≡ (out-Select q).distinct
layer_distinct q = search (rules, the_lemmas)

pub layer_items : (q : Select) → (select_layer q).items ≡ map item_part (out-Select q).items
layer_items q = search (rules, the_lemmas)

pub layer_from : (q : Select) → (select_layer q).from ≡ map from_part (out-Select q).from
layer_from q = search (rules, the_lemmas)

pub layer_order : (q : Select) → (select_layer q).order ≡ map order_part (out-Select q).order
layer_order q = search (rules, the_lemmas)

pub layer_limit : (q : Select) → (select_layer q).limit ≡ (out-Select q).limit
layer_limit q = search (rules, the_lemmas)

pub layer_offset : (q : Select) → (select_layer q).offset ≡ (out-Select q).offset
layer_offset q = search (rules, the_lemmas)

pub layer_filter : (q : Select) → (select_layer q).filter ≡ option_map part_of (out-Select q).filter
layer_filter q = search (rules, the_lemmas)

pub layer_groups : (q : Select) → (select_layer q).groups ≡ option_map group_part (out-Select q).groups
layer_groups q = search (rules, the_lemmas)

pub layer_having : (q : Select) → (select_layer q).having ≡ option_map having_part (out-Select q).having
layer_having q = search (rules, the_lemmas)

-- a SELECT groups as the walk has it
pub groups_is : (q : Select) → groups (select_layer q) ≡ select_groups q
groups_is q = search (rules, the_lemmas)

pub ruleset looks = (node_Or, node_And, node_Not, node_Is, node_Compare, node_Tested, node_Sum, node_Product, node_Signed, node_Number, node_Quoted, node_Null, node_Column, node_ColumnOf, node_Group, node_Case, node_CaseElse, node_Coalesce, node_CountAll, node_Aggregate, test_InSelect, test_InList, test_Between, later_part_is, added_part_is, multiplied_part_is, arm_part_is)

pub ruleset looks_of_selects = (item_All, item_AllOf, item_Value, item_Named, group_part_is, having_part_is, order_part_is, relation_Table, relation_TableAs, relation_Subquery, join_Inner, join_Left, join_Cross, from_part_is)
