-- What each node is spelled with.
use Rattle.std.proofs.Common.{◌≡◌, ℕ, List, ◌++◌, map, Bool, codes, Option, Some, None, rules}
use Rattle.cq_token.specs.declared.sign.Sign.TheVariants as s
use Rattle.cq_grammar.specs.Types.{Name, AddOperator, MultiplyOperator, Comparison, Aggregate, NullTest, Test, Chained, roll-Chained, Added, roll-Added}
use Rattle.cq_grammar.specs.Types.{Multiplied, roll-Multiplied, Arm, roll-Arm, Direction, Count, Item, Relation, Join, From, roll-From, GroupBy, roll-GroupBy}
use Rattle.cq_grammar.specs.Types.{Having, roll-Having, OrderKey, roll-OrderKey, Select, roll-Select}
use Rattle.cq_grammar.specs.declared.expr.Expr.{Expr, the_lemmas}
use Rattle.cq_grammar.specs.declared.expr.Expr.TheVariants as e
use Rattle.cq_grammar.specs.declared.expr.Test.TheVariants as tests
use Rattle.cq_grammar.specs.declared.query.Item.TheVariants as items
use Rattle.cq_grammar.specs.declared.query.Relation.TheVariants as relations
use Rattle.cq_grammar.specs.declared.query.Join.TheVariants as joins
use Rattle.cq_grammar.specs.Spelling.{
  word,
  sign,
  named,
  number,
  quoted,
  if_written,
  if_some,
  if_some_behind,
  in_a_row,
  each_behind,
  commas,
  list_behind,
  add_sign,
  multiply_sign,
  comparison_sign,
  aggregate_word,
  null_test_spelling,
  direction_spelling,
  count_spelling,
  expr_spelling,
  test_spelling,
  item_spelling,
  join_spelling,
  relation_spelling,
  added_spelling,
  arm_spelling,
  chained_spelling,
  multiplied_spelling,
  from_spelling,
  group_by_spelling,
  having_spelling,
  order_key_spelling,
  select_spelling,
}
use Rattle.cq_grammar.specs.Bare.{if_any}

pub spelled-Or : (first : Expr) (rest : List Chained) → expr_spelling (e.Or first rest) ≡ expr_spelling first ++ each_behind (word (codes "or")) (map chained_spelling rest)
spelled-Or first rest = search (rules, the_lemmas)

pub spelled-And : (first : Expr) (rest : List Chained) → expr_spelling (e.And first rest) ≡ expr_spelling first ++ each_behind (word (codes "and")) (map chained_spelling rest)
spelled-And first rest = search (rules, the_lemmas)

pub spelled-Not : (inner : Expr) (at : ℕ) → expr_spelling (e.Not inner at) ≡ word (codes "not") ++ expr_spelling inner
spelled-Not inner at = search (rules, the_lemmas)

pub spelled-Is : (first : Expr) (rest : List NullTest) → expr_spelling (e.Is first rest) ≡ expr_spelling first ++ in_a_row (map null_test_spelling rest)
spelled-Is first rest = search (rules, the_lemmas)

pub spelled-Compare : (left : Expr) (operator : Comparison) (right : Expr) (at : ℕ) → expr_spelling (e.Compare left operator right at) ≡ expr_spelling left ++ (sign (comparison_sign operator) ++ expr_spelling right)
spelled-Compare left operator right at = search (rules, the_lemmas)

pub spelled-Tested : (operand : Expr) (negated : Bool) (test : Test) (at : ℕ) → expr_spelling (e.Tested operand negated test at) ≡ expr_spelling operand ++ (if_written negated (word (codes "not")) ++ test_spelling test)
spelled-Tested operand negated test at = search (rules, the_lemmas)

pub spelled-Sum : (first : Expr) (rest : List Added) → expr_spelling (e.Sum first rest) ≡ expr_spelling first ++ in_a_row (map added_spelling rest)
spelled-Sum first rest = search (rules, the_lemmas)

pub spelled-Product : (first : Expr) (rest : List Multiplied) → expr_spelling (e.Product first rest) ≡ expr_spelling first ++ in_a_row (map multiplied_spelling rest)
spelled-Product first rest = search (rules, the_lemmas)

pub spelled-Signed : (operator : AddOperator) (inner : Expr) (at : ℕ) → expr_spelling (e.Signed operator inner at) ≡ sign (add_sign operator) ++ expr_spelling inner
spelled-Signed operator inner at = search (rules, the_lemmas)

pub spelled-Number : (value at : ℕ) → expr_spelling (e.Number value at) ≡ number value
spelled-Number value at = search (rules, the_lemmas)

pub spelled-Quoted : (text : List ℕ) (at : ℕ) → expr_spelling (e.Quoted text at) ≡ quoted text
spelled-Quoted text at = search (rules, the_lemmas)

pub spelled-Null : (at : ℕ) → expr_spelling (e.Null at) ≡ word (codes "null")
spelled-Null at = search (rules, the_lemmas)

pub spelled-Column : (column : Name) → expr_spelling (e.Column column) ≡ named column
spelled-Column column = search (rules, the_lemmas)

pub spelled-ColumnOf : (relation column : Name) → expr_spelling (e.ColumnOf relation column) ≡ named relation ++ (sign s.Dot ++ named column)
spelled-ColumnOf relation column = search (rules, the_lemmas)

pub spelled-Group : (inner : Expr) (at : ℕ) → expr_spelling (e.Group inner at) ≡ sign s.Open ++ (expr_spelling inner ++ sign s.Close)
spelled-Group inner at = search (rules, the_lemmas)

pub spelled-Case : (arms : List Arm) (otherwise : Option Expr) (at : ℕ) → expr_spelling (e.Case arms otherwise at) ≡ word (codes "case") ++ (in_a_row (map arm_spelling arms) ++ (if_some_behind (word (codes "else")) (if_any expr_spelling otherwise) ++ word (codes "end")))
spelled-Case arms None at = search (rules, the_lemmas)
spelled-Case arms (Some o) at = search (rules, the_lemmas)

pub spelled-Coalesce : (parts : List Expr) (at : ℕ) → expr_spelling (e.Coalesce parts at) ≡ word (codes "coalesce") ++ (sign s.Open ++ (commas (map expr_spelling parts) ++ sign s.Close))
spelled-Coalesce parts at = search (rules, the_lemmas)

pub spelled-CountAll : (at : ℕ) → expr_spelling (e.CountAll at) ≡ word (codes "count") ++ (sign s.Open ++ (sign s.Star ++ sign s.Close))
spelled-CountAll at = search (rules, the_lemmas)

pub spelled-Aggregate : (function : Aggregate) (argument : Expr) (at : ℕ) → expr_spelling (e.Aggregate function argument at) ≡ word (aggregate_word function) ++ (sign s.Open ++ (expr_spelling argument ++ sign s.Close))
spelled-Aggregate function argument at = search (rules, the_lemmas)

pub spelled-InSelect : (select : Select) → test_spelling (tests.InSelect select) ≡ word (codes "in") ++ (sign s.Open ++ (select_spelling select ++ sign s.Close))
spelled-InSelect select = search (rules, the_lemmas)

pub spelled-InList : (parts : List Expr) → test_spelling (tests.InList parts) ≡ word (codes "in") ++ (sign s.Open ++ (commas (map expr_spelling parts) ++ sign s.Close))
spelled-InList parts = search (rules, the_lemmas)

pub spelled-Between : (low high : Expr) → test_spelling (tests.Between low high) ≡ word (codes "between") ++ (expr_spelling low ++ (word (codes "and") ++ expr_spelling high))
spelled-Between low high = search (rules, the_lemmas)

pub spelled-All : (at : ℕ) → item_spelling (items.All at) ≡ sign s.Star
spelled-All at = search (rules, the_lemmas)

pub spelled-AllOf : (relation : Name) → item_spelling (items.AllOf relation) ≡ named relation ++ (sign s.Dot ++ sign s.Star)
spelled-AllOf relation = search (rules, the_lemmas)

pub spelled-Value : (value : Expr) (name : Option Name) → item_spelling (items.Value value name) ≡ expr_spelling value ++ if_some_behind (word (codes "as")) (if_any named name)
spelled-Value value None = search (rules, the_lemmas)
spelled-Value value (Some n) = search (rules, the_lemmas)

pub spelled-Inner : (spelled : Bool) (relation : Relation) (on : Expr) (at : ℕ) → join_spelling (joins.Inner spelled relation on at) ≡ if_written spelled (word (codes "inner")) ++ (word (codes "join") ++ (relation_spelling relation ++ (word (codes "on") ++ expr_spelling on)))
spelled-Inner spelled relation on at = search (rules, the_lemmas)

pub spelled-Left : (spelled : Bool) (relation : Relation) (on : Expr) (at : ℕ) → join_spelling (joins.Left spelled relation on at) ≡ word (codes "left") ++ (if_written spelled (word (codes "outer")) ++ (word (codes "join") ++ (relation_spelling relation ++ (word (codes "on") ++ expr_spelling on))))
spelled-Left spelled relation on at = search (rules, the_lemmas)

pub spelled-Cross : (relation : Relation) (at : ℕ) → join_spelling (joins.Cross relation at) ≡ word (codes "cross") ++ (word (codes "join") ++ relation_spelling relation)
spelled-Cross relation at = search (rules, the_lemmas)

pub spelled-Table : (name : Name) → relation_spelling (relations.Table name) ≡ named name
spelled-Table name = search (rules, the_lemmas)

pub spelled-TableAs : (name : Name) (spelled : Bool) (alias : Name) → relation_spelling (relations.TableAs name spelled alias) ≡ named name ++ (if_written spelled (word (codes "as")) ++ named alias)
spelled-TableAs name spelled alias = search (rules, the_lemmas)

pub spelled-Subquery : (select : Select) (spelled : Bool) (alias : Name) (at : ℕ) → relation_spelling (relations.Subquery select spelled alias at) ≡ sign s.Open ++ (select_spelling select ++ (sign s.Close ++ (if_written spelled (word (codes "as")) ++ named alias)))
spelled-Subquery select spelled alias at = search (rules, the_lemmas)

pub spelled-Chained : (part : Expr) (at : ℕ) → chained_spelling (roll-Chained (record { part = part; at = at })) ≡ expr_spelling part
spelled-Chained part at = search (rules, the_lemmas)

pub spelled-Added : (operator : AddOperator) (term : Expr) (at : ℕ) → added_spelling (roll-Added (record { operator = operator; term = term; at = at })) ≡ sign (add_sign operator) ++ expr_spelling term
spelled-Added operator term at = search (rules, the_lemmas)

pub spelled-Multiplied : (operator : MultiplyOperator) (factor : Expr) (at : ℕ) → multiplied_spelling (roll-Multiplied (record { operator = operator; factor = factor; at = at })) ≡ sign (multiply_sign operator) ++ expr_spelling factor
spelled-Multiplied operator factor at = search (rules, the_lemmas)

pub spelled-Arm : (condition result : Expr) → arm_spelling (roll-Arm (record { condition = condition; result = result })) ≡ (word (codes "when") ++ expr_spelling condition) ++ (word (codes "then") ++ expr_spelling result)
spelled-Arm condition result = search (rules, the_lemmas)

pub spelled-From : (first : Relation) (joins : List Join) → from_spelling (roll-From (record { first = first; joins = joins })) ≡ relation_spelling first ++ in_a_row (map join_spelling joins)
spelled-From first joins = search (rules, the_lemmas)

pub spelled-GroupBy : (keys : List Expr) (at : ℕ) → group_by_spelling (roll-GroupBy (record { keys = keys; at = at })) ≡ word (codes "group") ++ (word (codes "by") ++ commas (map expr_spelling keys))
spelled-GroupBy keys at = search (rules, the_lemmas)

pub spelled-Having : (condition : Expr) (at : ℕ) → having_spelling (roll-Having (record { condition = condition; at = at })) ≡ word (codes "having") ++ expr_spelling condition
spelled-Having condition at = search (rules, the_lemmas)

pub spelled-OrderKey : (key : Expr) (way : Option Direction) → order_key_spelling (roll-OrderKey (record { key = key; direction = way })) ≡ expr_spelling key ++ direction_spelling way
spelled-OrderKey key way = search (rules, the_lemmas)

pub spelled-Select : (distinct : Bool) (list : List Item) (from : List From) (filter : Option Expr) (groups : Option GroupBy) (having : Option Having) (order : List OrderKey) (limit offset : Option Count) (at : ℕ) → select_spelling (roll-Select (record { distinct = distinct; items = list; from = from; filter = filter; groups = groups; having = having; order = order; limit = limit; offset = offset; at = at })) ≡
    ((word (codes "select") ++ (if_written distinct (word (codes "distinct")) ++ commas (map item_spelling list)))
    ++ ((word (codes "from") ++ commas (map from_spelling from)) ++ if_some_behind (word (codes "where")) (if_any expr_spelling filter)))
    ++ ((if_some (if_any group_by_spelling groups) ++ if_some (if_any having_spelling having))
    ++ (list_behind (word (codes "order") ++ word (codes "by")) (map order_key_spelling order) ++ (count_spelling (codes "limit") limit ++ count_spelling (codes "offset") offset)))
spelled-Select distinct list from None None None order limit offset at = search (rules, the_lemmas)
spelled-Select distinct list from None None (Some h) order limit offset at = search (rules, the_lemmas)
spelled-Select distinct list from None (Some g) None order limit offset at = search (rules, the_lemmas)
spelled-Select distinct list from None (Some g) (Some h) order limit offset at = search (rules, the_lemmas)
spelled-Select distinct list from (Some f) None None order limit offset at = search (rules, the_lemmas)
spelled-Select distinct list from (Some f) None (Some h) order limit offset at = search (rules, the_lemmas)
spelled-Select distinct list from (Some f) (Some g) None order limit offset at = search (rules, the_lemmas)
spelled-Select distinct list from (Some f) (Some g) (Some h) order limit offset at = search (rules, the_lemmas)
