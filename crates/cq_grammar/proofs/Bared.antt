-- Each node without its places.
use Rattle.std.proofs.Common.{◌≡◌, ℕ, List, map, Bool, Option, Some, None, rules}
use Rattle.cq_grammar.specs.Types.{Name, AddOperator, MultiplyOperator, Comparison, Aggregate, NullTest, Test, Chained, roll-Chained, Added, roll-Added}
use Rattle.cq_grammar.specs.Types.{Multiplied, roll-Multiplied, Arm, roll-Arm, Direction, Count, Item, Relation, Join, From, roll-From, GroupBy, roll-GroupBy}
use Rattle.cq_grammar.specs.Types.{Having, roll-Having, OrderKey, roll-OrderKey, Select, roll-Select}
use Rattle.cq_grammar.specs.declared.expr.Expr.{Expr, the_lemmas}
use Rattle.cq_grammar.specs.declared.expr.Expr.TheVariants as e
use Rattle.cq_grammar.specs.declared.expr.Test.TheVariants as tests
use Rattle.cq_grammar.specs.declared.query.Item.TheVariants as items
use Rattle.cq_grammar.specs.declared.query.Relation.TheVariants as relations
use Rattle.cq_grammar.specs.declared.query.Join.TheVariants as joins
use Rattle.cq_grammar.specs.Bare.{
  bare_name,
  bare_count,
  bare_null_test,
  if_any,
  bare_expr,
  bare_test,
  bare_item,
  bare_join,
  bare_relation,
  bare_added,
  bare_arm,
  bare_chained,
  bare_multiplied,
  bare_from,
  bare_group_by,
  bare_having,
  bare_order_key,
  bare_select,
}

pub bare-Or : (first : Expr) (rest : List Chained) → bare_expr (e.Or first rest) ≡ e.Or (bare_expr first) (map bare_chained rest)
bare-Or first rest = search (rules, the_lemmas)

pub bare-And : (first : Expr) (rest : List Chained) → bare_expr (e.And first rest) ≡ e.And (bare_expr first) (map bare_chained rest)
bare-And first rest = search (rules, the_lemmas)

pub bare-Not : (inner : Expr) (at : ℕ) → bare_expr (e.Not inner at) ≡ e.Not (bare_expr inner) 0
bare-Not inner at = search (rules, the_lemmas)

pub bare-Is : (first : Expr) (rest : List NullTest) → bare_expr (e.Is first rest) ≡ e.Is (bare_expr first) (map bare_null_test rest)
bare-Is first rest = search (rules, the_lemmas)

pub bare-Compare : (left : Expr) (operator : Comparison) (right : Expr) (at : ℕ) → bare_expr (e.Compare left operator right at) ≡ e.Compare (bare_expr left) operator (bare_expr right) 0
bare-Compare left operator right at = search (rules, the_lemmas)

pub bare-Tested : (operand : Expr) (negated : Bool) (test : Test) (at : ℕ) → bare_expr (e.Tested operand negated test at) ≡ e.Tested (bare_expr operand) negated (bare_test test) 0
bare-Tested operand negated test at = search (rules, the_lemmas)

pub bare-Sum : (first : Expr) (rest : List Added) → bare_expr (e.Sum first rest) ≡ e.Sum (bare_expr first) (map bare_added rest)
bare-Sum first rest = search (rules, the_lemmas)

pub bare-Product : (first : Expr) (rest : List Multiplied) → bare_expr (e.Product first rest) ≡ e.Product (bare_expr first) (map bare_multiplied rest)
bare-Product first rest = search (rules, the_lemmas)

pub bare-Signed : (operator : AddOperator) (inner : Expr) (at : ℕ) → bare_expr (e.Signed operator inner at) ≡ e.Signed operator (bare_expr inner) 0
bare-Signed operator inner at = search (rules, the_lemmas)

pub bare-Number : (value at : ℕ) → bare_expr (e.Number value at) ≡ e.Number value 0
bare-Number value at = search (rules, the_lemmas)

pub bare-Quoted : (text : List ℕ) (at : ℕ) → bare_expr (e.Quoted text at) ≡ e.Quoted text 0
bare-Quoted text at = search (rules, the_lemmas)

pub bare-Null : (at : ℕ) → bare_expr (e.Null at) ≡ e.Null 0
bare-Null at = search (rules, the_lemmas)

pub bare-Column : (column : Name) → bare_expr (e.Column column) ≡ e.Column (bare_name column)
bare-Column column = search (rules, the_lemmas)

pub bare-ColumnOf : (relation column : Name) → bare_expr (e.ColumnOf relation column) ≡ e.ColumnOf (bare_name relation) (bare_name column)
bare-ColumnOf relation column = search (rules, the_lemmas)

pub bare-Group : (inner : Expr) (at : ℕ) → bare_expr (e.Group inner at) ≡ e.Group (bare_expr inner) 0
bare-Group inner at = search (rules, the_lemmas)

pub bare-Case : (arms : List Arm) (otherwise : Option Expr) (at : ℕ) → bare_expr (e.Case arms otherwise at) ≡ e.Case (map bare_arm arms) (if_any bare_expr otherwise) 0
bare-Case arms None at = search (rules, the_lemmas)
bare-Case arms (Some o) at = search (rules, the_lemmas)

pub bare-Coalesce : (parts : List Expr) (at : ℕ) → bare_expr (e.Coalesce parts at) ≡ e.Coalesce (map bare_expr parts) 0
bare-Coalesce parts at = search (rules, the_lemmas)

pub bare-CountAll : (at : ℕ) → bare_expr (e.CountAll at) ≡ e.CountAll 0
bare-CountAll at = search (rules, the_lemmas)

pub bare-Aggregate : (function : Aggregate) (argument : Expr) (at : ℕ) → bare_expr (e.Aggregate function argument at) ≡ e.Aggregate function (bare_expr argument) 0
bare-Aggregate function argument at = search (rules, the_lemmas)

pub bare-InSelect : (select : Select) → bare_test (tests.InSelect select) ≡ tests.InSelect (bare_select select)
bare-InSelect select = search (rules, the_lemmas)

pub bare-InList : (parts : List Expr) → bare_test (tests.InList parts) ≡ tests.InList (map bare_expr parts)
bare-InList parts = search (rules, the_lemmas)

pub bare-Between : (low high : Expr) → bare_test (tests.Between low high) ≡ tests.Between (bare_expr low) (bare_expr high)
bare-Between low high = search (rules, the_lemmas)

pub bare-All : (at : ℕ) → bare_item (items.All at) ≡ items.All 0
bare-All at = search (rules, the_lemmas)

pub bare-AllOf : (relation : Name) → bare_item (items.AllOf relation) ≡ items.AllOf (bare_name relation)
bare-AllOf relation = search (rules, the_lemmas)

pub bare-Value : (value : Expr) (name : Option Name) → bare_item (items.Value value name) ≡ items.Value (bare_expr value) (if_any bare_name name)
bare-Value value None = search (rules, the_lemmas)
bare-Value value (Some n) = search (rules, the_lemmas)

pub bare-Inner : (spelled : Bool) (relation : Relation) (on : Expr) (at : ℕ) → bare_join (joins.Inner spelled relation on at) ≡ joins.Inner spelled (bare_relation relation) (bare_expr on) 0
bare-Inner spelled relation on at = search (rules, the_lemmas)

pub bare-Left : (spelled : Bool) (relation : Relation) (on : Expr) (at : ℕ) → bare_join (joins.Left spelled relation on at) ≡ joins.Left spelled (bare_relation relation) (bare_expr on) 0
bare-Left spelled relation on at = search (rules, the_lemmas)

pub bare-Cross : (relation : Relation) (at : ℕ) → bare_join (joins.Cross relation at) ≡ joins.Cross (bare_relation relation) 0
bare-Cross relation at = search (rules, the_lemmas)

pub bare-Table : (name : Name) → bare_relation (relations.Table name) ≡ relations.Table (bare_name name)
bare-Table name = search (rules, the_lemmas)

pub bare-TableAs : (name : Name) (spelled : Bool) (alias : Name) → bare_relation (relations.TableAs name spelled alias) ≡ relations.TableAs (bare_name name) spelled (bare_name alias)
bare-TableAs name spelled alias = search (rules, the_lemmas)

pub bare-Subquery : (select : Select) (spelled : Bool) (alias : Name) (at : ℕ) → bare_relation (relations.Subquery select spelled alias at) ≡ relations.Subquery (bare_select select) spelled (bare_name alias) 0
bare-Subquery select spelled alias at = search (rules, the_lemmas)

pub bare-Chained : (part : Expr) (at : ℕ) → bare_chained (roll-Chained (record { part = part; at = at })) ≡ roll-Chained (record { part = bare_expr part; at = 0 })
bare-Chained part at = search (rules, the_lemmas)

pub bare-Added : (operator : AddOperator) (term : Expr) (at : ℕ) → bare_added (roll-Added (record { operator = operator; term = term; at = at })) ≡ roll-Added (record { operator = operator; term = bare_expr term; at = 0 })
bare-Added operator term at = search (rules, the_lemmas)

pub bare-Multiplied : (operator : MultiplyOperator) (factor : Expr) (at : ℕ) → bare_multiplied (roll-Multiplied (record { operator = operator; factor = factor; at = at })) ≡ roll-Multiplied (record { operator = operator; factor = bare_expr factor; at = 0 })
bare-Multiplied operator factor at = search (rules, the_lemmas)

pub bare-Arm : (condition result : Expr) → bare_arm (roll-Arm (record { condition = condition; result = result })) ≡ roll-Arm (record { condition = bare_expr condition; result = bare_expr result })
bare-Arm condition result = search (rules, the_lemmas)

pub bare-From : (first : Relation) (joins : List Join) → bare_from (roll-From (record { first = first; joins = joins })) ≡ roll-From (record { first = bare_relation first; joins = map bare_join joins })
bare-From first joins = search (rules, the_lemmas)

pub bare-GroupBy : (keys : List Expr) (at : ℕ) → bare_group_by (roll-GroupBy (record { keys = keys; at = at })) ≡ roll-GroupBy (record { keys = map bare_expr keys; at = 0 })
bare-GroupBy keys at = search (rules, the_lemmas)

pub bare-Having : (condition : Expr) (at : ℕ) → bare_having (roll-Having (record { condition = condition; at = at })) ≡ roll-Having (record { condition = bare_expr condition; at = 0 })
bare-Having condition at = search (rules, the_lemmas)

pub bare-OrderKey : (key : Expr) (way : Option Direction) → bare_order_key (roll-OrderKey (record { key = key; direction = way })) ≡ roll-OrderKey (record { key = bare_expr key; direction = way })
bare-OrderKey key way = search (rules, the_lemmas)

pub bare-Select : (distinct : Bool) (list : List Item) (from : List From) (filter : Option Expr) (groups : Option GroupBy) (having : Option Having) (order : List OrderKey) (limit offset : Option Count) (at : ℕ) → bare_select (roll-Select (record { distinct = distinct; items = list; from = from; filter = filter; groups = groups; having = having; order = order; limit = limit; offset = offset; at = at })) ≡
    roll-Select (record { distinct = distinct; items = map bare_item list; from = map bare_from from; filter = if_any bare_expr filter; groups = if_any bare_group_by groups; having = if_any bare_having having; order = map bare_order_key order; limit = if_any bare_count limit; offset = if_any bare_count offset; at = 0 })
bare-Select distinct list from None None None order limit offset at = search (rules, the_lemmas)
bare-Select distinct list from None None (Some h) order limit offset at = search (rules, the_lemmas)
bare-Select distinct list from None (Some g) None order limit offset at = search (rules, the_lemmas)
bare-Select distinct list from None (Some g) (Some h) order limit offset at = search (rules, the_lemmas)
bare-Select distinct list from (Some f) None None order limit offset at = search (rules, the_lemmas)
bare-Select distinct list from (Some f) None (Some h) order limit offset at = search (rules, the_lemmas)
bare-Select distinct list from (Some f) (Some g) None order limit offset at = search (rules, the_lemmas)
bare-Select distinct list from (Some f) (Some g) (Some h) order limit offset at = search (rules, the_lemmas)
