-- The grammar of expressions and of SELECT, a definition for each rule. It follows PostgreSQL's, cut down to what runs.
--
-- The depth of a token counts the constructs around it: 1 for each open bracket that holds an expression, an expression
-- list or a select, and for each open CASE, NOT and sign; in a chain of signs the number of signs before it; in a chain of
-- AND or OR and in an IN list the binary digits of the number of parts before the present one.
use Rattle.std.specs.Prelude.{ℕ, zero, suc, ◌+◌, ◌/◌, List, Option, Some, None, is_some}
use Rattle.cq_grammar.specs.Types.{Rule, Name, Expr, Chained, Added, Multiplied, Arm, NullTest, Test, Select, roll-Select, Item, From, roll-From, Relation}
use Rattle.cq_grammar.specs.Types.{Join, GroupBy, roll-GroupBy, Having, roll-Having, OrderKey, Count}
pub use Rattle.cq_grammar.specs.declared.rule.Rule.TheVariants.{Or as or_, And as and_, Not as not_, Term as term_, Unary as unary_}
use Rattle.cq_grammar.specs.declared.kind.Kind.TheVariants as k
use Rattle.cq_grammar.specs.declared.expr.Expr.TheVariants as e
use Rattle.cq_grammar.specs.declared.expr.Test.TheVariants as tests
use Rattle.cq_grammar.specs.declared.query.Item.TheVariants as item
use Rattle.cq_grammar.specs.declared.query.Relation.TheVariants as relations
use Rattle.cq_grammar.specs.declared.query.Join.TheVariants as joins
use Rattle.cq_grammar.specs.Lang.{Lang, Made, Many, Empty, Optional, Behind, Several, ◌then◌, ◌or◌}
use Rattle.cq_grammar.specs.Terminals.{The, Some-of, a_name, a_column_name, a_number, a_quoted, Commas}
use Rattle.cq_grammar.specs.Nodes as node

-- the number of binary digits; the first number bounds the turns, and n is enough
unfoldable pub digits_by : ℕ → ℕ → ℕ
digits_by zero n = 0
digits_by (suc turns) zero = 0
digits_by (suc turns) (suc n) = digits_by turns (suc n / 2) + 1

unfoldable pub digits : ℕ → ℕ
digits n = digits_by n n

-- what may stand deeper: an expression by one of these rules, or a select
pub data Deeper : Type 0 where
  expr : Rule → Deeper
  select : Deeper

abbrev pub Tree : Deeper → Type 0
Tree (expr rule) = Expr
Tree select = Select

-- lower n d has the phrases of d where n more of the depth is used
module _ (lower : ℕ → (d : Deeper) → Lang (Tree d)) where
  -- ---- what stands alone

  unfoldable pub literal : Lang Expr
  literal = Made (λ n. e.Number n.value n.at) a_number or Made (λ t. e.Quoted t.text t.at) a_quoted or Made (λ at. e.Null at) (The k.Null)

  unfoldable pub column : Lang Expr
  column = Made (λ (name, more). node.column_of name more) (a_name then Optional (Behind (The k.Dot) a_column_name))

  unfoldable pub group : Lang Expr
  group = Made (λ (at, (inner, _)). e.Group inner at) (The k.Open then lower 1 (expr or_) then The k.Close)

  unfoldable pub arm : Lang Arm
  arm = Made node.arm (Behind (The k.When) (lower 1 (expr or_)) then Behind (The k.Then) (lower 1 (expr or_)))

  unfoldable pub otherwise : Lang (Option Expr)
  otherwise = Optional (Behind (The k.Else) (lower 1 (expr or_)))

  unfoldable pub case : Lang Expr
  case = Made (λ (at, (arms, (otherwise, end))). e.Case arms otherwise at) (The k.Case then Several (λ _. arm) then otherwise then The k.End)

  unfoldable pub coalesce : Lang Expr
  coalesce = Made (λ (at, (_, (items, _))). e.Coalesce items at) (The k.Coalesce then The k.Open then Commas (λ _. lower 1 (expr or_)) then The k.Close)

  -- `*`, or an expression
  unfoldable pub counted : Lang (Option Expr)
  counted = Made (λ star. None) (The k.Star) or Made Some (lower 1 (expr or_))

  unfoldable pub count : Lang Expr
  count = Made (λ (at, (_, (argument, _))). node.count_of_rows at argument) (The k.Count then The k.Open then counted then The k.Close)

  unfoldable pub aggregate : Lang Expr
  aggregate = Made (λ ((word, at), (_, (argument, _))). e.Aggregate (node.aggregate_function word) argument at)
      (Some-of node.aggregate_words then The k.Open then lower 1 (expr or_) then The k.Close)

  unfoldable pub atom : Lang Expr
  atom = literal or column or group or case or coalesce or count or aggregate

  -- ---- signs

  unfoldable pub signed : Lang Expr
  signed = Made (λ ((sign, at), inner). e.Signed (node.add_operator sign) inner at) (Some-of node.add_signs then lower 1 (expr unary_))

  unfoldable pub unary : Lang Expr
  unary = signed or atom

  unfoldable pub multiplied : ℕ → Lang Multiplied
  multiplied before = Made node.multiplied (Some-of node.multiply_signs then lower before (expr unary_))

  unfoldable pub term : Lang Expr
  term = Made (λ (first, more). node.product_of first more) (unary then Many multiplied 1)

  unfoldable pub added : ℕ → Lang Added
  added before = Made node.added (Some-of node.add_signs then lower before (expr term_))

  unfoldable pub sum : Lang Expr
  sum = Made (λ (first, more). node.sum_of first more) (term then Many added 1)

  -- ---- conditions

  -- what IN asks, with the place of IN
  unfoldable pub in_what : Lang Test
  in_what = Made tests.InSelect (lower 1 select) or Made tests.InList (Commas (λ before. lower (1 + digits before) (expr or_)))

  unfoldable pub in_test : Lang (ℕ × Test)
  in_test = Made (λ (at, (_, (what, _))). (at, what)) (The k.In then The k.Open then in_what then The k.Close)

  unfoldable pub between_test : Lang (ℕ × Test)
  between_test = Made (λ (at, (low, high)). (at, tests.Between low high)) (The k.Between then sum then Behind (The k.And) sum)

  unfoldable pub test : Lang (Option ℕ × (ℕ × Test))
  test = Optional (The k.Not) then (in_test or between_test)

  unfoldable pub tested : Lang Expr
  tested = Made (λ (operand, asked). node.tested operand asked) (sum then Optional test)

  unfoldable pub comparison : Lang Expr
  comparison = Made (λ (left, more). node.compared left more) (tested then Optional (Some-of node.comparison_signs then tested))

  unfoldable pub null_test : Lang NullTest
  null_test = Made node.null_test (The k.Is then Optional (The k.Not) then The k.Null)

  unfoldable pub is : Lang Expr
  is = Made (λ (first, more). node.null_tests first more) (comparison then Many (λ _. null_test) 0)

  unfoldable pub negation : Lang Expr
  negation = Made (λ (at, inner). e.Not inner at) (The k.Not then lower 1 (expr not_)) or is

  unfoldable pub and_part : ℕ → Lang Chained
  and_part before = Made node.chained (The k.And then lower (digits before) (expr not_))

  unfoldable pub and_chain : Lang Expr
  and_chain = Made (λ (first, more). node.chain e.And first more) (negation then Many and_part 1)

  unfoldable pub or_part : ℕ → Lang Chained
  or_part before = Made node.chained (The k.Or then lower (digits before) (expr and_))

  unfoldable pub or_chain : Lang Expr
  or_chain = Made (λ (first, more). node.chain e.Or first more) (and_chain then Many or_part 1)

  -- ---- selects

  unfoldable pub all_of : Lang Item
  all_of = Made (λ (name, star). item.AllOf name) (a_name then Behind (The k.Dot) (The k.Star))

  unfoldable pub output : Lang Item
  output = Made (λ (value, name). item.Value value name) (or_chain then Optional (Behind (The k.As) a_column_name))

  unfoldable pub select_item : Lang Item
  select_item = Made item.All (The k.Star) or all_of or output

  unfoldable pub alias : Lang (Option ℕ × Name)
  alias = Optional (The k.As) then a_name

  unfoldable pub table : Lang Relation
  table = Made (λ (name, alias). node.relation_of name alias) (a_name then Optional alias)

  unfoldable pub subquery : Lang Relation
  subquery = Made (λ (at, (inner, (_, (word, name)))). relations.Subquery inner (is_some word) name at) (The k.Open then lower 1 select then The k.Close then alias)

  unfoldable pub relation : Lang Relation
  relation = table or subquery

  unfoldable pub on : Lang Expr
  on = Behind (The k.On) or_chain

  unfoldable pub inner_join : Lang Join
  inner_join = Made (λ (word, (at, (right, on))). joins.Inner (is_some word) right on (node.first_place word at))
      (Optional (The k.Inner) then The k.Join then relation then on)

  unfoldable pub left_join : Lang Join
  left_join = Made (λ (at, (word, (_, (right, on)))). joins.Left (is_some word) right on at)
      (The k.Left then Optional (The k.Outer) then The k.Join then relation then on)

  unfoldable pub cross_join : Lang Join
  cross_join = Made (λ (at, right). joins.Cross right at) (The k.Cross then Behind (The k.Join) relation)

  unfoldable pub join : Lang Join
  join = inner_join or left_join or cross_join

  unfoldable pub from_item : Lang From
  from_item = Made (λ (first, joins). roll-From (record { first = first; joins = joins })) (relation then Many (λ _. join) 0)

  unfoldable pub filter : Lang (Option Expr)
  filter = Optional (Behind (The k.Where) or_chain)

  unfoldable pub group_by : Lang GroupBy
  group_by = Made (λ (at, keys). roll-GroupBy (record { keys = keys; at = at })) (The k.Group then Behind (The k.By) (Commas (λ _. or_chain)))

  unfoldable pub having : Lang Having
  having = Made (λ (at, condition). roll-Having (record { condition = condition; at = at })) (The k.Having then or_chain)

  unfoldable pub order_key : Lang OrderKey
  order_key = Made node.order_key (or_chain then Optional (Some-of node.direction_words))

  unfoldable pub order_by : Lang (List OrderKey)
  order_by = Made node.or_none (Optional (Behind (The k.Order) (Behind (The k.By) (Commas (λ _. order_key)))))

  unfoldable pub limit : Lang (Option Count)
  limit = Optional (Behind (The k.Limit) a_number)

  unfoldable pub offset : Lang (Option Count)
  offset = Optional (Behind (The k.Offset) a_number)

  unfoldable pub select_list : Lang (ℕ × (Option ℕ × List Item))
  select_list = The k.Select then Optional (The k.Distinct) then Commas (λ _. select_item)

  -- what is selected from where
  unfoldable pub selection : Lang ((ℕ × (Option ℕ × List Item)) × (List From × Option Expr))
  selection = select_list then Behind (The k.From) (Commas (λ _. from_item)) then filter

  -- how it is grouped
  unfoldable pub grouping : Lang (Option GroupBy × Option Having)
  grouping = Optional group_by then Optional having

  -- how it is ordered, and which part is kept
  unfoldable pub ordering : Lang (List OrderKey × (Option Count × Option Count))
  ordering = order_by then limit then offset

  unfoldable pub selected : Lang Select
  selected = Made (λ (((at, (distinct, items)), (from, filter)), ((groups, having), (order, (limit, offset)))). roll-Select (record {
    distinct = is_some distinct;
    items = items;
    from = from;
    filter = filter;
    groups = groups;
    having = having;
    order = order;
    limit = limit;
    offset = offset;
    at = at;
  })) (selection then grouping then ordering)

  -- ---- what may stand deeper

  abbrev pub phrase : (d : Deeper) → Lang (Tree d)
  phrase (expr or_) = or_chain
  phrase (expr and_) = and_chain
  phrase (expr not_) = negation
  phrase (expr term_) = term
  phrase (expr unary_) = unary
  phrase select = selected

-- where depth d is left, and n more of it is used; what would be too deep is a phrase of `deeper`
abbrev pub below_or : ((d : Deeper) → Lang (Tree d)) → ℕ → ℕ → (d : Deeper) → Lang (Tree d)
below_or deeper zero n d = deeper d
below_or deeper (suc left) zero d = deeper d
below_or deeper (suc left) (suc zero) d = phrase (below_or deeper left) d
below_or deeper (suc left) (suc (suc n)) d = below_or deeper left (suc n) d

-- nothing is too deep
abbrev pub below : ℕ → ℕ → (d : Deeper) → Lang (Tree d)
below = below_or (λ _. Empty)

-- the phrases of at most this height, of any depth
abbrev pub upto : ℕ → (d : Deeper) → Lang (Tree d)
upto zero d = Empty
upto (suc height) d = phrase (λ _. upto height) d
