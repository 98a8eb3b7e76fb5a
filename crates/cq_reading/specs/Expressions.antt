-- What an expression is read as in a context. Operands come first, from left to right, and then the node itself.
use Rattle.std.specs.Prelude.{ℕ, ◌+◌, ◌-◌, ◌/◌, nat_le, Bool, true, false, ◌&&◌, ◌||◌, not, if◌then◌else◌, List, [], ◌∷◌, ◌++◌, map, length, Option, None, Some, Ok}
use Rattle.std.specs.List.{list_any}
use Rattle.cq_tree.specs.declared.expression.Cond.{InResult}
use Rattle.cq_tree.specs.declared.query.Query.{Query}
use Rattle.cq_grammar.specs.declared.expr.AddOperator.{AddOperator}
use Rattle.cq_grammar.specs.declared.expr.NullTest.{NullTest}
use Rattle.cq_grammar.specs.declared.expr.Comparison.{Comparison}
use Rattle.cq_grammar.specs.declared.expr.Aggregate.{Aggregate}
use Rattle.cq_grammar.specs.declared.name.Name.{Name}
use Rattle.cq_grammar.specs.declared.expr.Expr.TheOpen.{Expr-F, Test-F, Added-F, Arm-F, Chained-F, Multiplied-F}
use Rattle.cq_reading.specs.Types.{Found, Output, Bound, Block}
use Rattle.cq_reading.specs.declared.bound.Bound.TheVariants.{Value, Truth}
use Rattle.cq_reading.specs.declared.error.BindError.TheVariants as error
use Rattle.cq_reading.specs.Steps.{Reading, give, ◌then◌, provided, with_next, each, through}
use Rattle.cq_reading.specs.Widths.{null_expr, expr_of, are_alike}
use Rattle.cq_reading.specs.Scopes.{Context, plain, named, named_of}
use Rattle.cq_reading.specs.Titles as title
use Rattle.cq_reading.specs.Titles.{Form}
use Rattle.cq_reading.specs.Rules as rule
use Rattle.cq_reading.specs.Parts.{Part, TestPart, LaterPart, AddedPart, MultipliedPart, ArmPart, SelectPart, ItemPart, RelationPart, JoinPart, FromPart, GroupPart, HavingPart, OrderPart}

abbrev pub any_aggregates : List Part → Bool
any_aggregates ps = list_any (λ p. p.aggregates) ps

abbrev pub any_selects : List Part → Bool
any_selects ps = list_any (λ p. p.selects) ps

-- in a query that groups, a whole expression that is a key stands for the key's column. One with an IN subquery is no key
abbrev pub behind_keys : Bool → (Context → Reading Bound) → Context → Reading Bound
behind_keys selects r cx = if cx.grouped && not selects then rule.keyed cx.keys (r (plain cx)) (r cx) else r cx

-- what an expression is read as
abbrev pub reads : Part → Context → Reading Bound
reads p cx = behind_keys p.selects p.node cx

-- a node over these parts
abbrev pub node : ℕ → Form → List ℕ → List Part → (Context → Reading Bound) → Part
node at form name parts r = record {
  at = at;
  form = form;
  title = name;
  aggregates = any_aggregates parts;
  selects = any_selects parts;
  node = r;
}

abbrev pub plain_node : ℕ → List Part → (Context → Reading Bound) → Part
plain_node at parts r = node at title.Other title.no_title parts r

-- an aggregate
abbrev pub aggregate_node : ℕ → List ℕ → List Part → (Context → Reading Bound) → Part
aggregate_node at name parts r = record {
  at = at;
  form = title.Other;
  title = name;
  aggregates = true;
  selects = any_selects parts;
  node = r;
}

-- in a query that groups, a column that is no key is refused
abbrev pub named_in_group : Context → Reading Bound → ℕ → Reading Bound
named_in_group cx r at = r then (λ b. provided (not cx.grouped) (error.NotGrouped at) (give b))

abbrev pub is_one : List Output → Bool
is_one (o ∷ []) = true
is_one _ = false

-- the value of the only output
abbrev pub output_bound : List Output → Bound
output_bound [] = rule.null
output_bound (o ∷ more) = Value null_expr o.kind o.width

-- a layer of a tree, with what the walk gives of the parts in their places
abbrev pub Layer : (Type 0 → Type 0 → Type 0 → Type 0 → Type 0 → Type 0 → Type 0 → Type 0 → Type 0 → Type 0 → Type 0 → Type 0 → Type 0 → Type 0 → Type 0) → Type 0
Layer F = F Part TestPart ItemPart JoinPart RelationPart AddedPart ArmPart LaterPart MultipliedPart FromPart GroupPart HavingPart OrderPart SelectPart

-- ---- chains

abbrev pub parts_behind : List LaterPart → List Part
parts_behind rest = map (λ l. l.part) rest

-- the place of the word before the n-th part, counted from 0
abbrev pub word_before : ℕ → List LaterPart → ℕ
word_before n [] = 0
word_before n (l ∷ more) = if nat_le n 1 then l.at else word_before (n - 1) more

-- the word at the root, where the chain is cut in halves
abbrev pub middle_word : List LaterPart → ℕ
middle_word rest = let n = length rest + 1 in word_before (n - n / 2) rest

abbrev pub read_later : Context → LaterPart → Reading rule.ChainPart
read_later cx l = reads l.part cx then (λ b. give (b, l.at))

-- the parts of a chain come first, and then their types are judged
abbrev pub chain_reading : Bool → Part → List LaterPart → Context → Reading Bound
chain_reading any first rest cx = reads first cx then (λ a. through (with_next (read_later cx)) rest ((a, 0) ∷ []) then rule.chained any)

abbrev pub chain : Bool → Part → List LaterPart → Part
chain any first rest = plain_node (middle_word rest) (first ∷ parts_behind rest) (chain_reading any first rest)

-- ---- NOT and comparisons

abbrev pub not_reading : Part → ℕ → Context → Reading Bound
not_reading inner at cx = reads inner cx then (λ a. rule.negated a at)

abbrev pub compare_reading : Part → Comparison → Part → ℕ → Context → Reading Bound
compare_reading left operator right at cx = reads left cx then (λ a. reads right cx then (λ b. rule.compared operator a b at))

-- ---- NULL tests: from left to right

abbrev pub null_tests : List NullTest → Bound → Reading Bound
null_tests = through (λ a t. rule.null_tested t.negated a t.at)

abbrev pub is_reading : Part → List NullTest → Context → Reading Bound
is_reading first rest cx = reads first cx then null_tests rest

abbrev pub last_test : ℕ → List NullTest → ℕ
last_test at [] = at
last_test at (t ∷ more) = last_test t.at more

-- ---- sums and products: `a + b + c` is `(a + b) + c`. What stands before a sign is an expression of its own, and so may be a key

-- with one operand more
abbrev pub further : {A : Type 0} → (A → Part) → (Context → Bound → A → Reading Bound) → Part → A → Part
further part step before p = plain_node before.at (before ∷ part p ∷ []) (λ cx. reads before cx then (λ a. step cx a p))

abbrev pub from_left : {A : Type 0} → (A → Part) → (Context → Bound → A → Reading Bound) → Part → List A → Part
from_left part step before [] = before
from_left part step before (p ∷ more) = from_left part step (further part step before p) more

abbrev pub with_added : Context → Bound → AddedPart → Reading Bound
with_added cx a p = reads p.part cx then (λ b. rule.added p.operator a b p.at)

abbrev pub sum_reading : Part → List AddedPart → Context → Reading Bound
sum_reading first rest = reads (from_left (λ p. p.part) with_added first rest)

abbrev pub last_sign : ℕ → List AddedPart → ℕ
last_sign at [] = at
last_sign at (p ∷ more) = last_sign p.at more

abbrev pub with_multiplied : Context → Bound → MultipliedPart → Reading Bound
with_multiplied cx a p = reads p.part cx then (λ b. rule.multiplied p.operator a b (title.literal_of p.part.form) p.at)

abbrev pub product_reading : Part → List MultipliedPart → Context → Reading Bound
product_reading first rest = reads (from_left (λ p. p.part) with_multiplied first rest)

abbrev pub last_operator : ℕ → List MultipliedPart → ℕ
last_operator at [] = at
last_operator at (p ∷ more) = last_operator p.at more

-- ---- signs

-- a sign directly before a number is folded into it
abbrev pub signed_reading : AddOperator → Part → Form → ℕ → Context → Reading Bound
signed_reading sign inner (title.Number n) at cx = give (rule.signed_number sign n)
signed_reading sign inner _ at cx = reads inner cx then (λ a. rule.signed sign a at)

abbrev pub signed_form : AddOperator → Form → Form
signed_form sign (title.Number n) = title.Signed sign n
signed_form sign _ = title.Other

-- ---- CASE

abbrev pub read_arm : Context → ArmPart → Reading rule.Pair
read_arm cx a = reads a.condition cx then (λ c. reads a.result cx then (λ r. give (c, r)))

abbrev pub parts_of_arms : List ArmPart → List Part
parts_of_arms [] = []
parts_of_arms (a ∷ more) = a.condition ∷ a.result ∷ parts_of_arms more

abbrev pub parts_of_else : Option Part → List Part
parts_of_else None = []
parts_of_else (Some p) = p ∷ []

abbrev pub title_of_else : Option Part → Option (List ℕ)
title_of_else None = None
title_of_else (Some p) = Some p.title

abbrev pub read_else : Context → Option Part → Reading Bound
read_else cx None = give rule.null
read_else cx (Some p) = reads p cx

abbrev pub case_reading : List ArmPart → Option Part → ℕ → Context → Reading Bound
case_reading arms otherwise at cx = each (read_arm cx) arms then (λ pairs. read_else cx otherwise then (λ other. rule.chosen pairs other at))

abbrev pub coalesce_reading : List Part → ℕ → Context → Reading Bound
coalesce_reading items at cx = each (λ p. reads p cx) items then (λ bs. rule.coalesced bs at)

-- ---- columns and aggregates

abbrev pub column_reading : Name → Context → Reading Bound
column_reading column cx = named_in_group cx (named cx column.text column.at) column.at

abbrev pub column_of_reading : Name → Name → Context → Reading Bound
column_of_reading relation column cx = named_in_group cx (named_of cx relation.text column.text relation.at) relation.at

-- the argument of an aggregate stands before any grouping
abbrev pub aggregate_reading : Aggregate → Part → ℕ → Context → Reading Bound
aggregate_reading function argument at cx = reads argument (plain cx) then (λ a. rule.summed cx function a at)

-- ---- the nodes

abbrev pub tested_reading : Part → Bool → TestPart → ℕ → Context → Reading Bound
tested_reading operand negated test at cx = reads operand cx then (λ x. test.tests cx x negated at)

abbrev pub expr_step : Layer Expr-F → Part
expr_step (Expr-F.Or first rest) = chain true first rest
expr_step (Expr-F.And first rest) = chain false first rest
expr_step (Expr-F.Not inner at) = plain_node at (inner ∷ []) (not_reading inner at)
expr_step (Expr-F.Is first rest) = plain_node (last_test first.at rest) (first ∷ []) (is_reading first rest)
expr_step (Expr-F.Compare left operator right at) = plain_node at (left ∷ right ∷ []) (compare_reading left operator right at)
expr_step (Expr-F.Tested operand negated test at) = record {
  at = at;
  form = title.Other;
  title = title.no_title;
  aggregates = operand.aggregates || test.aggregates;
  selects = operand.selects || test.selects;
  node = tested_reading operand negated test at;
}
expr_step (Expr-F.Sum first rest) = plain_node (last_sign first.at rest) (first ∷ map (λ p. p.part) rest) (sum_reading first rest)
expr_step (Expr-F.Product first rest) = plain_node (last_operator first.at rest) (first ∷ map (λ p. p.part) rest) (product_reading first rest)
expr_step (Expr-F.Signed sign inner at) = node at (signed_form sign inner.form) title.no_title (inner ∷ []) (signed_reading sign inner inner.form at)
expr_step (Expr-F.Number value at) = node at (title.Number value) title.no_title [] (λ cx. give (rule.number value))
expr_step (Expr-F.Quoted text at) = plain_node at [] (λ cx. give (rule.quoted text))
expr_step (Expr-F.Null at) = plain_node at [] (λ cx. give rule.null)
expr_step (Expr-F.Column column) = node column.at (title.Name column.text) column.text [] (column_reading column)
expr_step (Expr-F.ColumnOf relation column) = node relation.at title.Other column.text [] (column_of_reading relation column)
-- brackets are no part of a literal, a bare name or a whole key, but an output keeps its name in them
expr_step (Expr-F.Group inner at) = node at title.Other inner.title (inner ∷ []) (reads inner)
expr_step (Expr-F.Case arms otherwise at) =
    node at title.Other (title.case_title (title_of_else otherwise)) (parts_of_arms arms ++ parts_of_else otherwise)
    (case_reading arms otherwise at)
expr_step (Expr-F.Coalesce items at) = node at title.Other title.coalesce_title items (coalesce_reading items at)
expr_step (Expr-F.CountAll at) = aggregate_node at title.count_title [] (λ cx. rule.counted cx at)
expr_step (Expr-F.Aggregate function argument at) =
    aggregate_node at (title.aggregate_title function) (argument ∷ []) (aggregate_reading function argument at)

-- ---- IN and BETWEEN

abbrev pub numbered : Reading ℕ
numbered found = Ok (found.results, record found { results = found.results + 1 })

abbrev pub with_sub : Query → Found → Found
with_sub q found = record found { subs = found.subs ++ q ∷ [] }

-- the result number k of a subquery, which becomes one of its SELECT
abbrev pub among : Context → Bound → Bool → ℕ → ℕ → Block → Reading Bound
among cx x negate at k block =
    provided cx.may_select (error.Subquery at)
    (provided (is_one block.outputs) (error.WrongCount at)
    (provided (are_alike x (output_bound block.outputs)) (error.Type at)
    (λ found. Ok (Truth (rule.negated_if negate (InResult (expr_of x) k)), with_sub block.query found))))

abbrev pub in_select_reading : SelectPart → Context → Bound → Bool → ℕ → Reading Bound
in_select_reading select cx x negate at = numbered then (λ k. select cx.world then (λ block. among cx x negate at k block))

abbrev pub in_list_reading : List Part → Context → Bound → Bool → ℕ → Reading Bound
in_list_reading items cx x negate at = each (λ p. reads p cx) items then (λ bs. rule.listed negate x bs at)

abbrev pub between_reading : Part → Part → Context → Bound → Bool → ℕ → Reading Bound
between_reading low high cx x negate at = reads low cx then (λ a. reads high cx then (λ b. rule.between negate x a b at))

abbrev pub test_step : Layer Test-F → TestPart
test_step (Test-F.InSelect select) = record {
  aggregates = false;
  selects = true;
  tests = in_select_reading select;
}
test_step (Test-F.InList items) = record {
  aggregates = any_aggregates items;
  selects = any_selects items;
  tests = in_list_reading items;
}
test_step (Test-F.Between low high) = record {
  aggregates = low.aggregates || high.aggregates;
  selects = low.selects || high.selects;
  tests = between_reading low high;
}

abbrev pub chained_step : Layer Chained-F → LaterPart
chained_step c = record { part = c.part; at = c.at }

abbrev pub added_step : Layer Added-F → AddedPart
added_step a = record { operator = a.operator; part = a.term; at = a.at }

abbrev pub multiplied_step : Layer Multiplied-F → MultipliedPart
multiplied_step m = record { operator = m.operator; part = m.factor; at = m.at }

abbrev pub arm_step : Layer Arm-F → ArmPart
arm_step a = record { condition = a.condition; result = a.result }
