-- The parts of a tree are smaller than the tree.
use Rattle.std.proofs.Common.{◌≡◌, ℕ, ◌+◌, ◌<◌, Bool, List, [], ◌∷◌, map, Option, None, Some, IfSome, ap, rules, arith}
use Rattle.std.proofs.lemmas.List.Elements.{All-nil, All-cons}
use Rattle.std.proofs.lemmas.List.Sums.{sum_by-cons}
use Rattle.std.specs.List.{All, sum}
use Rattle.std.specs.Option.{option_map}
use Rattle.cq_grammar.specs.declared.name.Name.{Name}
use Rattle.cq_grammar.specs.declared.expr.AddOperator.{AddOperator}
use Rattle.cq_grammar.specs.declared.expr.Aggregate.{Aggregate}
use Rattle.cq_grammar.specs.declared.expr.Comparison.{Comparison}
use Rattle.cq_grammar.specs.declared.expr.NullTest.{NullTest}
use Rattle.cq_grammar.specs.declared.expr.Expr.{Expr, the_lemmas}
use Rattle.cq_grammar.specs.declared.expr.Expr.TheFolds.{fold_out-From, fold_out-Chained, fold_out-Added, fold_out-Multiplied, fold_out-Arm, fold_out-GroupBy, fold_out-Having, fold_out-OrderKey}
use Rattle.cq_grammar.specs.declared.expr.Test.{Test}
use Rattle.cq_grammar.specs.declared.expr.Added.{Added, out-Added}
use Rattle.cq_grammar.specs.declared.expr.Arm.{Arm, out-Arm}
use Rattle.cq_grammar.specs.declared.expr.Chained.{Chained, out-Chained}
use Rattle.cq_grammar.specs.declared.expr.Multiplied.{Multiplied, out-Multiplied}
use Rattle.cq_grammar.specs.declared.query.From.{From, out-From}
use Rattle.cq_grammar.specs.declared.query.GroupBy.{GroupBy, out-GroupBy}
use Rattle.cq_grammar.specs.declared.query.Having.{Having, out-Having}
use Rattle.cq_grammar.specs.declared.query.Item.{Item}
use Rattle.cq_grammar.specs.declared.query.Join.{Join}
use Rattle.cq_grammar.specs.declared.query.OrderKey.{OrderKey, out-OrderKey}
use Rattle.cq_grammar.specs.declared.query.Relation.{Relation}
use Rattle.cq_grammar.specs.declared.query.Select.{Select, out-Select}
use Rattle.cq_grammar.specs.declared.expr.Expr.TheVariants as e
use Rattle.cq_grammar.specs.declared.expr.Test.TheVariants as tests
use Rattle.cq_grammar.specs.declared.query.Item.TheVariants as item
use Rattle.cq_grammar.specs.declared.query.Relation.TheVariants as relation
use Rattle.cq_grammar.specs.declared.query.Join.TheVariants as join
use Rattle.cq_bind_calls.specs.Parts.{ArmParts, FromParts, GroupParts, HavingParts, ItemParts, JoinParts, OrderParts, PartsOf, RelationParts, SelectParts, TestParts}
use Rattle.cq_bind_walk.specs.Sizes.{of_option, expr_size, test_size, item_size, join_size, relation_size, added_size, arm_size, chained_size, multiplied_size, from_size, group_by_size, having_size, order_key_size, select_size}

-- ---- the size of each node, by those of its parts

size_Or : (first : Expr) (rest : List Chained) → expr_size (e.Or first rest) ≡ 1 + expr_size first + sum (map chained_size rest)
unfolding expr_size test_size item_size join_size relation_size added_size arm_size chained_size multiplied_size from_size group_by_size having_size order_key_size select_size
size_Or first rest = search (rules, the_lemmas)

size_And : (first : Expr) (rest : List Chained) → expr_size (e.And first rest) ≡ 1 + expr_size first + sum (map chained_size rest)
unfolding expr_size test_size item_size join_size relation_size added_size arm_size chained_size multiplied_size from_size group_by_size having_size order_key_size select_size
size_And first rest = search (rules, the_lemmas)

size_Not : (inner : Expr) (at : ℕ) → expr_size (e.Not inner at) ≡ 1 + expr_size inner
unfolding expr_size test_size item_size join_size relation_size added_size arm_size chained_size multiplied_size from_size group_by_size having_size order_key_size select_size
size_Not inner at = search (rules, the_lemmas)

size_Is : (first : Expr) (rest : List NullTest) → expr_size (e.Is first rest) ≡ 1 + expr_size first
unfolding expr_size test_size item_size join_size relation_size added_size arm_size chained_size multiplied_size from_size group_by_size having_size order_key_size select_size
size_Is first rest = search (rules, the_lemmas)

size_Compare : (left : Expr) (operator : Comparison) (right : Expr) (at : ℕ) → expr_size (e.Compare left operator right at) ≡ 1 + expr_size left + expr_size right
unfolding expr_size test_size item_size join_size relation_size added_size arm_size chained_size multiplied_size from_size group_by_size having_size order_key_size select_size
size_Compare left operator right at = search (rules, the_lemmas)

size_Tested : (operand : Expr) (negated : Bool) (test : Test) (at : ℕ) → expr_size (e.Tested operand negated test at) ≡ 1 + expr_size operand + test_size test
unfolding expr_size test_size item_size join_size relation_size added_size arm_size chained_size multiplied_size from_size group_by_size having_size order_key_size select_size
size_Tested operand negated test at = search (rules, the_lemmas)

size_Sum : (first : Expr) (rest : List Added) → expr_size (e.Sum first rest) ≡ 1 + expr_size first + sum (map added_size rest)
unfolding expr_size test_size item_size join_size relation_size added_size arm_size chained_size multiplied_size from_size group_by_size having_size order_key_size select_size
size_Sum first rest = search (rules, the_lemmas)

size_Product : (first : Expr) (rest : List Multiplied) → expr_size (e.Product first rest) ≡ 1 + expr_size first + sum (map multiplied_size rest)
unfolding expr_size test_size item_size join_size relation_size added_size arm_size chained_size multiplied_size from_size group_by_size having_size order_key_size select_size
size_Product first rest = search (rules, the_lemmas)

size_Signed : (sign : AddOperator) (inner : Expr) (at : ℕ) → expr_size (e.Signed sign inner at) ≡ 1 + expr_size inner
unfolding expr_size test_size item_size join_size relation_size added_size arm_size chained_size multiplied_size from_size group_by_size having_size order_key_size select_size
size_Signed sign inner at = search (rules, the_lemmas)

size_Group : (inner : Expr) (at : ℕ) → expr_size (e.Group inner at) ≡ 1 + expr_size inner
unfolding expr_size test_size item_size join_size relation_size added_size arm_size chained_size multiplied_size from_size group_by_size having_size order_key_size select_size
size_Group inner at = search (rules, the_lemmas)

size_Case : (arms : List Arm) (at : ℕ) → expr_size (e.Case arms None at) ≡ 1 + sum (map arm_size arms) + 0
unfolding expr_size test_size item_size join_size relation_size added_size arm_size chained_size multiplied_size from_size group_by_size having_size order_key_size select_size
size_Case arms at = search (rules, the_lemmas)

size_CaseElse : (arms : List Arm) (other : Expr) (at : ℕ) → expr_size (e.Case arms (Some other) at) ≡ 1 + sum (map arm_size arms) + expr_size other
unfolding expr_size test_size item_size join_size relation_size added_size arm_size chained_size multiplied_size from_size group_by_size having_size order_key_size select_size
size_CaseElse arms other at = search (rules, the_lemmas)

size_Coalesce : (items : List Expr) (at : ℕ) → expr_size (e.Coalesce items at) ≡ 1 + sum (map expr_size items)
unfolding expr_size test_size item_size join_size relation_size added_size arm_size chained_size multiplied_size from_size group_by_size having_size order_key_size select_size
size_Coalesce items at = search (rules, the_lemmas)

size_Aggregate : (function : Aggregate) (argument : Expr) (at : ℕ) → expr_size (e.Aggregate function argument at) ≡ 1 + expr_size argument
unfolding expr_size test_size item_size join_size relation_size added_size arm_size chained_size multiplied_size from_size group_by_size having_size order_key_size select_size
size_Aggregate function argument at = search (rules, the_lemmas)

size_InSelect : (q : Select) → test_size (tests.InSelect q) ≡ select_size q
unfolding expr_size test_size item_size join_size relation_size added_size arm_size chained_size multiplied_size from_size group_by_size having_size order_key_size select_size
size_InSelect q = search (rules, the_lemmas)

size_InList : (items : List Expr) → test_size (tests.InList items) ≡ sum (map expr_size items)
unfolding expr_size test_size item_size join_size relation_size added_size arm_size chained_size multiplied_size from_size group_by_size having_size order_key_size select_size
size_InList items = search (rules, the_lemmas)

size_Between : (low high : Expr) → test_size (tests.Between low high) ≡ expr_size low + expr_size high
unfolding expr_size test_size item_size join_size relation_size added_size arm_size chained_size multiplied_size from_size group_by_size having_size order_key_size select_size
size_Between low high = search (rules, the_lemmas)

size_Value : (value : Expr) (name : Option Name) → item_size (item.Value value name) ≡ expr_size value
unfolding expr_size test_size item_size join_size relation_size added_size arm_size chained_size multiplied_size from_size group_by_size having_size order_key_size select_size
size_Value value name = search (rules, the_lemmas)

size_Subquery : (q : Select) (spelled : Bool) (alias : Name) (at : ℕ) → relation_size (relation.Subquery q spelled alias at) ≡ select_size q
unfolding expr_size test_size item_size join_size relation_size added_size arm_size chained_size multiplied_size from_size group_by_size having_size order_key_size select_size
size_Subquery q spelled alias at = search (rules, the_lemmas)

size_Inner : (spelled : Bool) (r : Relation) (on : Expr) (at : ℕ) → join_size (join.Inner spelled r on at) ≡ relation_size r + expr_size on
unfolding expr_size test_size item_size join_size relation_size added_size arm_size chained_size multiplied_size from_size group_by_size having_size order_key_size select_size
size_Inner spelled r on at = search (rules, the_lemmas)

size_Left : (spelled : Bool) (r : Relation) (on : Expr) (at : ℕ) → join_size (join.Left spelled r on at) ≡ relation_size r + expr_size on
unfolding expr_size test_size item_size join_size relation_size added_size arm_size chained_size multiplied_size from_size group_by_size having_size order_key_size select_size
size_Left spelled r on at = search (rules, the_lemmas)

size_Cross : (r : Relation) (at : ℕ) → join_size (join.Cross r at) ≡ relation_size r
unfolding expr_size test_size item_size join_size relation_size added_size arm_size chained_size multiplied_size from_size group_by_size having_size order_key_size select_size
size_Cross r at = search (rules, the_lemmas)

size_Chained : (x : Chained) → chained_size x ≡ expr_size (out-Chained x).part
unfolding expr_size test_size item_size join_size relation_size added_size arm_size chained_size multiplied_size from_size group_by_size having_size order_key_size select_size
size_Chained x = fold_out-Chained _ _ _ _ _ _ _ _ _ _ _ _ _ _ _ _ _ _ _ _ _ _ _ _ _ _ _ _ x

size_Added : (x : Added) → added_size x ≡ expr_size (out-Added x).term
unfolding expr_size test_size item_size join_size relation_size added_size arm_size chained_size multiplied_size from_size group_by_size having_size order_key_size select_size
size_Added x = fold_out-Added _ _ _ _ _ _ _ _ _ _ _ _ _ _ _ _ _ _ _ _ _ _ _ _ _ _ _ _ x

size_Multiplied : (x : Multiplied) → multiplied_size x ≡ expr_size (out-Multiplied x).factor
unfolding expr_size test_size item_size join_size relation_size added_size arm_size chained_size multiplied_size from_size group_by_size having_size order_key_size select_size
size_Multiplied x = fold_out-Multiplied _ _ _ _ _ _ _ _ _ _ _ _ _ _ _ _ _ _ _ _ _ _ _ _ _ _ _ _ x

size_Arm : (x : Arm) → arm_size x ≡ expr_size (out-Arm x).condition + expr_size (out-Arm x).result
unfolding expr_size test_size item_size join_size relation_size added_size arm_size chained_size multiplied_size from_size group_by_size having_size order_key_size select_size
size_Arm x = fold_out-Arm _ _ _ _ _ _ _ _ _ _ _ _ _ _ _ _ _ _ _ _ _ _ _ _ _ _ _ _ x

size_From : (x : From) → from_size x ≡ relation_size (out-From x).first + sum (map join_size (out-From x).joins)
unfolding expr_size test_size item_size join_size relation_size added_size arm_size chained_size multiplied_size from_size group_by_size having_size order_key_size select_size
size_From x = fold_out-From _ _ _ _ _ _ _ _ _ _ _ _ _ _ _ _ _ _ _ _ _ _ _ _ _ _ _ _ x

size_GroupBy : (x : GroupBy) → group_by_size x ≡ sum (map expr_size (out-GroupBy x).keys)
unfolding expr_size test_size item_size join_size relation_size added_size arm_size chained_size multiplied_size from_size group_by_size having_size order_key_size select_size
size_GroupBy x = fold_out-GroupBy _ _ _ _ _ _ _ _ _ _ _ _ _ _ _ _ _ _ _ _ _ _ _ _ _ _ _ _ x

size_Having : (x : Having) → having_size x ≡ expr_size (out-Having x).condition
unfolding expr_size test_size item_size join_size relation_size added_size arm_size chained_size multiplied_size from_size group_by_size having_size order_key_size select_size
size_Having x = fold_out-Having _ _ _ _ _ _ _ _ _ _ _ _ _ _ _ _ _ _ _ _ _ _ _ _ _ _ _ _ x

size_OrderKey : (x : OrderKey) → order_key_size x ≡ expr_size (out-OrderKey x).key
unfolding expr_size test_size item_size join_size relation_size added_size arm_size chained_size multiplied_size from_size group_by_size having_size order_key_size select_size
size_OrderKey x = fold_out-OrderKey _ _ _ _ _ _ _ _ _ _ _ _ _ _ _ _ _ _ _ _ _ _ _ _ _ _ _ _ x

size_Select : (x : Select) → select_size x ≡ 1 + sum (map item_size (out-Select x).items) + sum (map from_size (out-Select x).from) + of_option (option_map expr_size (out-Select x).filter) + of_option (option_map group_by_size (out-Select x).groups) + of_option (option_map having_size (out-Select x).having) + sum (map order_key_size (out-Select x).order)
unfolding expr_size test_size item_size join_size relation_size added_size arm_size chained_size multiplied_size from_size group_by_size having_size order_key_size select_size
size_Select x = search (rules, the_lemmas)

-- ---- what holds of all that is smaller than n

module _ (P : Expr → Type 0) (Q : Select → Type 0) (n : ℕ) (hp : (x : Expr) → expr_size x < n → P x) (hq : (x : Select) → select_size x < n → Q x) where
  each : {A : Type 0} (size : A → ℕ) (R : A → Type 0) → ((x : A) → size x < n → R x) → (xs : List A) → sum (map size xs) < n → All R xs
  each size R h [] k = All-nil R
  each size R h (x ∷ xs) k = All-cons R x xs (h x (omega (arith, k, sum_by-cons (λ m. m) (size x) (map size xs)))) (each size R h xs (omega (arith, k, sum_by-cons (λ m. m) (size x) (map size xs))))

  if_some : {A : Type 0} (size : A → ℕ) (R : A → Type 0) → ((x : A) → size x < n → R x) → (o : Option A) → of_option (option_map size o) < n → IfSome o R
  if_some size R h None k = tt
  if_some size R h (Some x) k = h x k

  in_chained : (x : Chained) → chained_size x < n → P (out-Chained x).part
  in_chained x h = hp _ (omega (arith, h, size_Chained x))

  in_added : (x : Added) → added_size x < n → P (out-Added x).term
  in_added x h = hp _ (omega (arith, h, size_Added x))

  in_multiplied : (x : Multiplied) → multiplied_size x < n → P (out-Multiplied x).factor
  in_multiplied x h = hp _ (omega (arith, h, size_Multiplied x))

  in_arm : (x : Arm) → arm_size x < n → ArmParts P x
  in_arm x h = (hp _ (omega (arith, h, size_Arm x)), hp _ (omega (arith, h, size_Arm x)))

  in_test : (x : Test) → test_size x < n → TestParts P Q x
  in_test x h = record {
    in_select = λ q is. hq q (omega (arith, h, ap test_size is, size_InSelect q));
    in_list = λ items is. each expr_size P hp items (omega (arith, h, ap test_size is, size_InList items));
    between = λ low high is. (hp low (omega (arith, h, ap test_size is, size_Between low high)), hp high (omega (arith, h, ap test_size is, size_Between low high)));
  }

  in_item : (x : Item) → item_size x < n → ItemParts P x
  in_item x h value name is = hp value (omega (arith, h, ap item_size is, size_Value value name))

  in_relation : (x : Relation) → relation_size x < n → RelationParts Q x
  in_relation x h q spelled alias at is = hq q (omega (arith, h, ap relation_size is, size_Subquery q spelled alias at))

  in_join : (x : Join) → join_size x < n → JoinParts P Q x
  in_join x h = record {
    inner = λ spelled r on at is. (in_relation r (omega (arith, h, ap join_size is, size_Inner spelled r on at)), hp on (omega (arith, h, ap join_size is, size_Inner spelled r on at)));
    left = λ spelled r on at is. (in_relation r (omega (arith, h, ap join_size is, size_Left spelled r on at)), hp on (omega (arith, h, ap join_size is, size_Left spelled r on at)));
    cross = λ r at is. in_relation r (omega (arith, h, ap join_size is, size_Cross r at));
  }

  in_from : (x : From) → from_size x < n → FromParts P Q x
  in_from x h = (in_relation _ (omega (arith, h, size_From x)), each join_size (JoinParts P Q) in_join _ (omega (arith, h, size_From x)))

  in_group_by : (x : GroupBy) → group_by_size x < n → GroupParts P x
  in_group_by x h = each expr_size P hp _ (omega (arith, h, size_GroupBy x))

  in_having : (x : Having) → having_size x < n → HavingParts P x
  in_having x h = hp _ (omega (arith, h, size_Having x))

  in_order_key : (x : OrderKey) → order_key_size x < n → OrderParts P x
  in_order_key x h = hp _ (omega (arith, h, size_OrderKey x))

  in_select : (x : Select) → select_size x < n + 1 → SelectParts P Q x
  in_select x h = record {
    items = each item_size (ItemParts P) in_item _ (omega (arith, h, size_Select x));
    from = each from_size (FromParts P Q) in_from _ (omega (arith, h, size_Select x));
    filter = if_some expr_size P hp _ (omega (arith, h, size_Select x));
    groups = if_some group_by_size (GroupParts P) in_group_by _ (omega (arith, h, size_Select x));
    having = if_some having_size (HavingParts P) in_having _ (omega (arith, h, size_Select x));
    order = each order_key_size (OrderParts P) in_order_key _ (omega (arith, h, size_Select x));
  }

  in_case : (x : Expr) (arms : List Arm) (other : Option Expr) (at : ℕ) → expr_size x < n + 1 → x ≡ e.Case arms other at → All (ArmParts P) arms × IfSome other P
  in_case x arms None at h is = (each arm_size (ArmParts P) in_arm arms (omega (arith, h, ap expr_size is, size_Case arms at)), tt)
  in_case x arms (Some other) at h is = (each arm_size (ArmParts P) in_arm arms (omega (arith, h, ap expr_size is, size_CaseElse arms other at)), hp other (omega (arith, h, ap expr_size is, size_CaseElse arms other at)))

  in_expr : (x : Expr) → expr_size x < n + 1 → PartsOf P Q x
  in_expr x h = record {
    or = λ first rest is. (hp first (omega (arith, h, ap expr_size is, size_Or first rest)), each chained_size _ in_chained rest (omega (arith, h, ap expr_size is, size_Or first rest)));
    and = λ first rest is. (hp first (omega (arith, h, ap expr_size is, size_And first rest)), each chained_size _ in_chained rest (omega (arith, h, ap expr_size is, size_And first rest)));
    not = λ inner at is. hp inner (omega (arith, h, ap expr_size is, size_Not inner at));
    is = λ first rest is. hp first (omega (arith, h, ap expr_size is, size_Is first rest));
    compare = λ l o r at is. (hp l (omega (arith, h, ap expr_size is, size_Compare l o r at)), hp r (omega (arith, h, ap expr_size is, size_Compare l o r at)));
    tested = λ a b t at is. (hp a (omega (arith, h, ap expr_size is, size_Tested a b t at)), in_test t (omega (arith, h, ap expr_size is, size_Tested a b t at)));
    sum = λ first rest is. (hp first (omega (arith, h, ap expr_size is, size_Sum first rest)), each added_size _ in_added rest (omega (arith, h, ap expr_size is, size_Sum first rest)));
    product = λ first rest is. (hp first (omega (arith, h, ap expr_size is, size_Product first rest)), each multiplied_size _ in_multiplied rest (omega (arith, h, ap expr_size is, size_Product first rest)));
    signed = λ s inner at is. hp inner (omega (arith, h, ap expr_size is, size_Signed s inner at));
    group = λ inner at is. hp inner (omega (arith, h, ap expr_size is, size_Group inner at));
    case = λ arms other at is. in_case x arms other at h is;
    coalesce = λ items at is. each expr_size P hp items (omega (arith, h, ap expr_size is, size_Coalesce items at));
    aggregate = λ f a at is. hp a (omega (arith, h, ap expr_size is, size_Aggregate f a at));
  }

-- an expression, of whose parts each P holds that is smaller than it
pub expr_parts : (P : Expr → Type 0) (Q : Select → Type 0) (x : Expr) → ((y : Expr) → expr_size y < expr_size x → P y) → ((y : Select) → select_size y < expr_size x → Q y) → PartsOf P Q x
expr_parts P Q x hp hq = in_expr P Q (expr_size x) hp hq x (omega arith)

pub select_parts : (P : Expr → Type 0) (Q : Select → Type 0) (x : Select) → ((y : Expr) → expr_size y < select_size x → P y) → ((y : Select) → select_size y < select_size x → Q y) → SelectParts P Q x
select_parts P Q x hp hq = in_select P Q (select_size x) hp hq x (omega arith)
