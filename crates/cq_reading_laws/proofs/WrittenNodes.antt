-- When each node is written: where its parts are.
use Rattle.std.proofs.Common.{◌≡◌, ◌^◌, ℕ, nat_lt, List, map, Bool, true, ◌&&◌, Option, Some, None, rules}
use Rattle.cq_grammar.specs.declared.name.Name.{Name}
use Rattle.cq_grammar.specs.declared.expr.AddOperator.{AddOperator}
use Rattle.cq_grammar.specs.declared.expr.MultiplyOperator.{MultiplyOperator}
use Rattle.cq_grammar.specs.declared.expr.Comparison.{Comparison}
use Rattle.cq_grammar.specs.declared.expr.Aggregate.{Aggregate}
use Rattle.cq_grammar.specs.declared.expr.NullTest.{NullTest}
use Rattle.cq_grammar.specs.declared.expr.Test.{Test}
use Rattle.cq_grammar.specs.declared.expr.Chained.{Chained, roll-Chained}
use Rattle.cq_grammar.specs.declared.expr.Added.{Added, roll-Added}
use Rattle.cq_grammar.specs.declared.expr.Multiplied.{Multiplied, roll-Multiplied}
use Rattle.cq_grammar.specs.declared.expr.Arm.{Arm, roll-Arm}
use Rattle.cq_grammar.specs.declared.query.Direction.{Direction}
use Rattle.cq_grammar.specs.declared.query.Count.{Count}
use Rattle.cq_grammar.specs.declared.query.Item.{Item}
use Rattle.cq_grammar.specs.declared.query.Relation.{Relation}
use Rattle.cq_grammar.specs.declared.query.Join.{Join}
use Rattle.cq_grammar.specs.declared.query.From.{From, roll-From}
use Rattle.cq_grammar.specs.declared.query.GroupBy.{GroupBy, roll-GroupBy}
use Rattle.cq_grammar.specs.declared.query.Having.{Having, roll-Having}
use Rattle.cq_grammar.specs.declared.query.OrderKey.{OrderKey, roll-OrderKey}
use Rattle.cq_grammar.specs.declared.query.Select.{Select, roll-Select}
use Rattle.cq_grammar.specs.declared.expr.Expr.{Expr, the_lemmas}
use Rattle.cq_grammar.specs.declared.expr.Expr.TheVariants as e
use Rattle.cq_grammar.specs.declared.expr.Test.TheVariants as tests
use Rattle.cq_grammar.specs.declared.query.Item.TheVariants as items
use Rattle.cq_grammar.specs.declared.query.Relation.TheVariants as relations
use Rattle.cq_grammar.specs.declared.query.Join.TheVariants as joins
use Rattle.cq_reading_laws.specs.Written.{
  all,
  is_some,
  written_expr,
  written_test,
  written_item,
  written_join,
  written_relation,
  written_added,
  written_arm,
  written_chained,
  written_multiplied,
  written_from,
  written_group_by,
  written_having,
  written_order_key,
  written_select,
}

-- whether it is so where it is there
abbrev pub if_there : {A : Type 0} → (A → Bool) → Option A → Bool
if_there f None = true
if_there f (Some a) = f a

pub is-Or : (first : Expr) (rest : List Chained) → written_expr (e.Or first rest) ≡ (written_expr first && all (map written_chained rest))
unfolding written_expr written_chained
is-Or first rest = search (rules, the_lemmas)

pub is-And : (first : Expr) (rest : List Chained) → written_expr (e.And first rest) ≡ (written_expr first && all (map written_chained rest))
unfolding written_expr written_chained
is-And first rest = search (rules, the_lemmas)

pub is-Not : (inner : Expr) (at : ℕ) → written_expr (e.Not inner at) ≡ written_expr inner
unfolding written_expr
is-Not inner at = search (rules, the_lemmas)

pub is-Is : (first : Expr) (rest : List NullTest) → written_expr (e.Is first rest) ≡ written_expr first
unfolding written_expr
is-Is first rest = search (rules, the_lemmas)

pub is-Compare : (left : Expr) (operator : Comparison) (right : Expr) (at : ℕ) → written_expr (e.Compare left operator right at) ≡ (written_expr left && written_expr right)
unfolding written_expr
is-Compare left operator right at = search (rules, the_lemmas)

pub is-Tested : (operand : Expr) (negated : Bool) (test : Test) (at : ℕ) → written_expr (e.Tested operand negated test at) ≡ (written_expr operand && written_test test)
unfolding written_expr written_test
is-Tested operand negated test at = search (rules, the_lemmas)

pub is-Sum : (first : Expr) (rest : List Added) → written_expr (e.Sum first rest) ≡ (written_expr first && all (map written_added rest))
unfolding written_expr written_added
is-Sum first rest = search (rules, the_lemmas)

pub is-Product : (first : Expr) (rest : List Multiplied) → written_expr (e.Product first rest) ≡ (written_expr first && all (map written_multiplied rest))
unfolding written_expr written_multiplied
is-Product first rest = search (rules, the_lemmas)

pub is-Signed : (sign : AddOperator) (inner : Expr) (at : ℕ) → written_expr (e.Signed sign inner at) ≡ written_expr inner
unfolding written_expr
is-Signed sign inner at = search (rules, the_lemmas)

pub is-Number : (value at : ℕ) → written_expr (e.Number value at) ≡ nat_lt value (2 ^ 64)
unfolding written_expr
is-Number value at = search (rules, the_lemmas)

pub is-Quoted : (text : List ℕ) (at : ℕ) → written_expr (e.Quoted text at) ≡ true
unfolding written_expr
is-Quoted text at = search (rules, the_lemmas)

pub is-Null : (at : ℕ) → written_expr (e.Null at) ≡ true
unfolding written_expr
is-Null at = search (rules, the_lemmas)

pub is-Column : (column : Name) → written_expr (e.Column column) ≡ true
unfolding written_expr
is-Column column = search (rules, the_lemmas)

pub is-ColumnOf : (relation column : Name) → written_expr (e.ColumnOf relation column) ≡ true
unfolding written_expr
is-ColumnOf relation column = search (rules, the_lemmas)

pub is-Group : (inner : Expr) (at : ℕ) → written_expr (e.Group inner at) ≡ written_expr inner
unfolding written_expr
is-Group inner at = search (rules, the_lemmas)

pub is-Case : (arms : List Arm) (otherwise : Option Expr) (at : ℕ) → written_expr (e.Case arms otherwise at) ≡ (all (map written_arm arms) && if_there written_expr otherwise)
unfolding written_expr written_arm
is-Case arms None at = search (rules, the_lemmas)
is-Case arms (Some o) at = search (rules, the_lemmas)

pub is-Coalesce : (list : List Expr) (at : ℕ) → written_expr (e.Coalesce list at) ≡ (is_some (map written_expr list) && all (map written_expr list))
unfolding written_expr
is-Coalesce list at = search (rules, the_lemmas)

pub is-CountAll : (at : ℕ) → written_expr (e.CountAll at) ≡ true
unfolding written_expr
is-CountAll at = search (rules, the_lemmas)

pub is-Aggregate : (function : Aggregate) (argument : Expr) (at : ℕ) → written_expr (e.Aggregate function argument at) ≡ written_expr argument
unfolding written_expr
is-Aggregate function argument at = search (rules, the_lemmas)

pub is-InSelect : (inner : Select) → written_test (tests.InSelect inner) ≡ written_select inner
unfolding written_test written_select
is-InSelect inner = search (rules, the_lemmas)

pub is-InList : (list : List Expr) → written_test (tests.InList list) ≡ all (map written_expr list)
unfolding written_expr written_test
is-InList list = search (rules, the_lemmas)

pub is-Between : (low high : Expr) → written_test (tests.Between low high) ≡ (written_expr low && written_expr high)
unfolding written_expr written_test
is-Between low high = search (rules, the_lemmas)

pub is-All : (at : ℕ) → written_item (items.All at) ≡ true
unfolding written_item
is-All at = search (rules, the_lemmas)

pub is-AllOf : (relation : Name) → written_item (items.AllOf relation) ≡ true
unfolding written_item
is-AllOf relation = search (rules, the_lemmas)

pub is-Value : (value : Expr) (name : Option Name) → written_item (items.Value value name) ≡ written_expr value
unfolding written_expr written_item
is-Value value name = search (rules, the_lemmas)

pub is-Inner : (spelled : Bool) (right : Relation) (on : Expr) (at : ℕ) → written_join (joins.Inner spelled right on at) ≡ (written_relation right && written_expr on)
unfolding written_expr written_join written_relation
is-Inner spelled right on at = search (rules, the_lemmas)

pub is-Left : (spelled : Bool) (right : Relation) (on : Expr) (at : ℕ) → written_join (joins.Left spelled right on at) ≡ (written_relation right && written_expr on)
unfolding written_expr written_join written_relation
is-Left spelled right on at = search (rules, the_lemmas)

pub is-Cross : (right : Relation) (at : ℕ) → written_join (joins.Cross right at) ≡ written_relation right
unfolding written_join written_relation
is-Cross right at = search (rules, the_lemmas)

pub is-Table : (name : Name) → written_relation (relations.Table name) ≡ true
unfolding written_relation
is-Table name = search (rules, the_lemmas)

pub is-TableAs : (name : Name) (spelled : Bool) (alias : Name) → written_relation (relations.TableAs name spelled alias) ≡ true
unfolding written_relation
is-TableAs name spelled alias = search (rules, the_lemmas)

pub is-Subquery : (inner : Select) (spelled : Bool) (alias : Name) (at : ℕ) → written_relation (relations.Subquery inner spelled alias at) ≡ written_select inner
unfolding written_relation written_select
is-Subquery inner spelled alias at = search (rules, the_lemmas)

pub is-Chained : (part : Expr) (at : ℕ) → written_chained (roll-Chained (record { part = part; at = at })) ≡ written_expr part
unfolding written_expr written_chained
is-Chained part at = search (rules, the_lemmas)

pub is-Added : (operator : AddOperator) (term : Expr) (at : ℕ) → written_added (roll-Added (record { operator = operator; term = term; at = at })) ≡ written_expr term
unfolding written_expr written_added
is-Added operator term at = search (rules, the_lemmas)

pub is-Multiplied : (operator : MultiplyOperator) (factor : Expr) (at : ℕ) → written_multiplied (roll-Multiplied (record { operator = operator; factor = factor; at = at })) ≡ written_expr factor
unfolding written_expr written_multiplied
is-Multiplied operator factor at = search (rules, the_lemmas)

pub is-Arm : (condition result : Expr) → written_arm (roll-Arm (record { condition = condition; result = result })) ≡ (written_expr condition && written_expr result)
unfolding written_expr written_arm
is-Arm condition result = search (rules, the_lemmas)

pub is-From : (first : Relation) (joins : List Join) → written_from (roll-From (record { first = first; joins = joins })) ≡ (written_relation first && all (map written_join joins))
unfolding written_join written_relation written_from
is-From first joins = search (rules, the_lemmas)

pub is-GroupBy : (keys : List Expr) (at : ℕ) → written_group_by (roll-GroupBy (record { keys = keys; at = at })) ≡ all (map written_expr keys)
unfolding written_expr written_group_by
is-GroupBy keys at = search (rules, the_lemmas)

pub is-Having : (condition : Expr) (at : ℕ) → written_having (roll-Having (record { condition = condition; at = at })) ≡ written_expr condition
unfolding written_expr written_having
is-Having condition at = search (rules, the_lemmas)

pub is-OrderKey : (key : Expr) (way : Option Direction) → written_order_key (roll-OrderKey (record { key = key; direction = way })) ≡ written_expr key
unfolding written_expr written_order_key
is-OrderKey key way = search (rules, the_lemmas)

pub is-Select : (distinct : Bool) (list : List Item) (from : List From) (filter : Option Expr) (groups : Option GroupBy) (having : Option Having) (order : List OrderKey) (limit offset : Option Count) (at : ℕ) → written_select (roll-Select (record { distinct = distinct; items = list; from = from; filter = filter; groups = groups; having = having; order = order; limit = limit; offset = offset; at = at })) ≡
    (all (map written_item list) && (is_some (map written_from from) && all (map written_from from)) && if_there written_expr filter && if_there written_group_by groups && if_there written_having having && all (map written_order_key order))
unfolding written_expr written_item written_from written_group_by written_having written_order_key written_select
is-Select distinct list from None None None order limit offset at = search (rules, the_lemmas)
is-Select distinct list from None None (Some h) order limit offset at = search (rules, the_lemmas)
is-Select distinct list from None (Some g) None order limit offset at = search (rules, the_lemmas)
is-Select distinct list from None (Some g) (Some h) order limit offset at = search (rules, the_lemmas)
is-Select distinct list from (Some f) None None order limit offset at = search (rules, the_lemmas)
is-Select distinct list from (Some f) None (Some h) order limit offset at = search (rules, the_lemmas)
is-Select distinct list from (Some f) (Some g) None order limit offset at = search (rules, the_lemmas)
is-Select distinct list from (Some f) (Some g) (Some h) order limit offset at = search (rules, the_lemmas)
