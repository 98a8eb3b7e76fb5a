-- The reader of the grammar, a step for each rule.
use Rattle.std.specs.Prelude.{ℕ, zero, suc, ◌+◌, List, [], ◌∷◌, Option, Some, None, is_some}
use Rattle.cq_grammar.specs.Types.{Kind, Name, Expr, Chained, Added, Multiplied, Arm, NullTest, Test, Select, roll-Select, Item, From, roll-From, Relation}
use Rattle.cq_grammar.specs.Types.{Join, GroupBy, roll-GroupBy, Having, roll-Having, OrderKey, Count}
use Rattle.cq_grammar.specs.declared.kind.Kind.TheVariants as k
use Rattle.cq_grammar.specs.declared.expr.Expr.TheVariants as e
use Rattle.cq_grammar.specs.declared.expr.Test.TheVariants as tests
use Rattle.cq_grammar.specs.declared.query.Item.TheVariants as item
use Rattle.cq_grammar.specs.declared.query.Relation.TheVariants as relations
use Rattle.cq_grammar.specs.declared.query.Join.TheVariants as joins
use Rattle.cq_grammar.specs.Words.{names, column_names}
use Rattle.cq_grammar.specs.Terminals.{place_of, kind_at, name_of, count_of, quoted_of}
use Rattle.cq_grammar.specs.Grammar.{digits, Deeper, expr, select, Tree, or_, and_, not_, term_, unary_}
use Rattle.cq_grammar.specs.Read.{Reader, one, made, choice, many, several, used_up, optional, behind, commas, sees, sees_three, ◌then◌}
use Rattle.cq_grammar.specs.Nodes as node

-- ---- tokens

unfoldable pub the : Kind → Reader ℕ
the k = made place_of (one (k ∷ []))

unfoldable pub some_of : List Kind → Reader (Kind × ℕ)
some_of ks = made kind_at (one ks)

unfoldable pub named : List Kind → Reader Name
named ks = made name_of (one ks)

unfoldable pub a_number : Reader Count
a_number = made count_of (one (k.Number ∷ []))

unfoldable pub a_quoted : Reader Name
a_quoted = made quoted_of (one (k.Quoted ∷ []))

-- phrases with commas between
abbrev pub list : {A : Type 0} → (ℕ → Reader A) → Reader (List A)
list p = commas (the k.Comma) (sees (k.Comma ∷ [])) p

-- ---- the kinds with which phrases begin

abbrev pub literals : List Kind
literals = k.Number ∷ k.Quoted ∷ k.Null ∷ []

abbrev pub atoms : List Kind
atoms = k.Open ∷ k.Case ∷ k.Coalesce ∷ k.Count ∷ k.Sum ∷ k.Min ∷ k.Max ∷ k.Number ∷ k.Quoted ∷ k.Null ∷ names

abbrev pub unaries : List Kind
unaries = k.Plus ∷ k.Minus ∷ atoms

abbrev pub conditions : List Kind
conditions = k.Not ∷ unaries

abbrev pub firsts : Deeper → List Kind
firsts (expr or_) = conditions
firsts (expr and_) = conditions
firsts (expr not_) = conditions
firsts (expr term_) = unaries
firsts (expr unary_) = unaries
firsts select = k.Select ∷ []

abbrev pub aliases : List Kind
aliases = k.As ∷ names

abbrev pub tested_words : List Kind
tested_words = k.Not ∷ k.In ∷ k.Between ∷ []

abbrev pub inner_words : List Kind
inner_words = k.Inner ∷ k.Join ∷ []

abbrev pub join_words : List Kind
join_words = k.Inner ∷ k.Join ∷ k.Left ∷ k.Cross ∷ []

module _ (lower : ℕ → (d : Deeper) → Reader (Tree d)) where
  -- ---- what stands alone

  unfoldable pub literal : Reader Expr
  literal = choice (sees (k.Number ∷ [])) (made (λ n. e.Number n.value n.at) a_number)
      (choice (sees (k.Quoted ∷ [])) (made (λ t. e.Quoted t.text t.at) a_quoted)
      (made (λ at. e.Null at) (the k.Null)))

  unfoldable pub column : Reader Expr
  column = made (λ (name, more). node.column_of name more) (named names then optional (sees (k.Dot ∷ [])) (behind (the k.Dot) (named column_names)))

  unfoldable pub group : Reader Expr
  group = made (λ (at, (inner, _)). e.Group inner at) (the k.Open then lower 1 (expr or_) then the k.Close)

  unfoldable pub arm : Reader Arm
  arm = made node.arm (behind (the k.When) (lower 1 (expr or_)) then behind (the k.Then) (lower 1 (expr or_)))

  abbrev pub arms : Reader (List Arm)
  arms = several (sees (k.When ∷ [])) (λ _. arm)

  unfoldable pub otherwise : Reader (Option Expr)
  otherwise = optional (sees (k.Else ∷ [])) (behind (the k.Else) (lower 1 (expr or_)))

  unfoldable pub case : Reader Expr
  case = made (λ (at, (arms, (otherwise, end))). e.Case arms otherwise at) (the k.Case then arms then otherwise then the k.End)

  abbrev pub expressions : Reader (List Expr)
  expressions = list (λ _. lower 1 (expr or_))

  unfoldable pub coalesce : Reader Expr
  coalesce = made (λ (at, (_, (items, _))). e.Coalesce items at) (the k.Coalesce then the k.Open then expressions then the k.Close)

  unfoldable pub counted : Reader (Option Expr)
  counted = choice (sees (k.Star ∷ [])) (made (λ star. None) (the k.Star)) (made Some (lower 1 (expr or_)))

  unfoldable pub count : Reader Expr
  count = made (λ (at, (_, (argument, _))). node.count_of_rows at argument) (the k.Count then the k.Open then counted then the k.Close)

  unfoldable pub aggregate : Reader Expr
  aggregate = made (λ ((word, at), (_, (argument, _))). e.Aggregate (node.aggregate_function word) argument at)
      (some_of node.aggregate_words then the k.Open then lower 1 (expr or_) then the k.Close)

  unfoldable pub atom : Reader Expr
  atom = choice (sees literals) literal
      (choice (sees names) column
      (choice (sees (k.Open ∷ [])) group
      (choice (sees (k.Case ∷ [])) case
      (choice (sees (k.Coalesce ∷ [])) coalesce
      (choice (sees (k.Count ∷ [])) count
      aggregate)))))

  -- ---- signs

  unfoldable pub signed : Reader Expr
  signed = made (λ ((sign, at), inner). e.Signed (node.add_operator sign) inner at) (some_of node.add_signs then lower 1 (expr unary_))

  unfoldable pub unary : Reader Expr
  unary = choice (sees node.add_signs) signed atom

  unfoldable pub multiplied : ℕ → Reader Multiplied
  multiplied before = made node.multiplied (some_of node.multiply_signs then lower before (expr unary_))

  abbrev pub factors : Reader (List Multiplied)
  factors = many (sees node.multiply_signs) multiplied 1

  unfoldable pub term : Reader Expr
  term = made (λ (first, more). node.product_of first more) (unary then factors)

  unfoldable pub added : ℕ → Reader Added
  added before = made node.added (some_of node.add_signs then lower before (expr term_))

  abbrev pub terms : Reader (List Added)
  terms = many (sees node.add_signs) added 1

  unfoldable pub sum : Reader Expr
  sum = made (λ (first, more). node.sum_of first more) (term then terms)

  -- ---- conditions

  unfoldable pub in_what : Reader Test
  in_what = choice (sees (k.Select ∷ [])) (made tests.InSelect (lower 1 select)) (made tests.InList (list (λ before. lower (1 + digits before) (expr or_))))

  unfoldable pub in_test : Reader (ℕ × Test)
  in_test = made (λ (at, (_, (what, _))). (at, what)) (the k.In then the k.Open then in_what then the k.Close)

  unfoldable pub between_test : Reader (ℕ × Test)
  between_test = made (λ (at, (low, high)). (at, tests.Between low high)) (the k.Between then sum then behind (the k.And) sum)

  unfoldable pub test : Reader (Option ℕ × (ℕ × Test))
  test = optional (sees (k.Not ∷ [])) (the k.Not) then choice (sees (k.In ∷ [])) in_test between_test

  unfoldable pub tested : Reader Expr
  tested = made (λ (operand, asked). node.tested operand asked) (sum then optional (sees tested_words) test)

  unfoldable pub comparison : Reader Expr
  comparison = made (λ (left, more). node.compared left more) (tested then optional (sees node.comparison_signs) (some_of node.comparison_signs then tested))

  unfoldable pub null_test : Reader NullTest
  null_test = made node.null_test (the k.Is then optional (sees (k.Not ∷ [])) (the k.Not) then the k.Null)

  abbrev pub null_tests : Reader (List NullTest)
  null_tests = many (sees (k.Is ∷ [])) (λ _. null_test) 0

  unfoldable pub is : Reader Expr
  is = made (λ (first, more). node.null_tests first more) (comparison then null_tests)

  unfoldable pub negation : Reader Expr
  negation = choice (sees (k.Not ∷ [])) (made (λ (at, inner). e.Not inner at) (the k.Not then lower 1 (expr not_))) is

  unfoldable pub and_part : ℕ → Reader Chained
  and_part before = made node.chained (the k.And then lower (digits before) (expr not_))

  abbrev pub and_parts : Reader (List Chained)
  and_parts = many (sees (k.And ∷ [])) and_part 1

  unfoldable pub and_chain : Reader Expr
  and_chain = made (λ (first, more). node.chain e.And first more) (negation then and_parts)

  unfoldable pub or_part : ℕ → Reader Chained
  or_part before = made node.chained (the k.Or then lower (digits before) (expr and_))

  abbrev pub or_parts : Reader (List Chained)
  or_parts = many (sees (k.Or ∷ [])) or_part 1

  unfoldable pub or_chain : Reader Expr
  or_chain = made (λ (first, more). node.chain e.Or first more) (and_chain then or_parts)

  -- ---- selects

  unfoldable pub all_of : Reader Item
  all_of = made (λ (name, _). item.AllOf name) (named names then behind (the k.Dot) (the k.Star))

  unfoldable pub output : Reader Item
  output = made (λ (value, name). item.Value value name) (or_chain then optional (sees (k.As ∷ [])) (behind (the k.As) (named column_names)))

  unfoldable pub select_item : Reader Item
  select_item = choice (sees (k.Star ∷ [])) (made item.All (the k.Star)) (choice (sees_three names (k.Dot ∷ []) (k.Star ∷ [])) all_of output)

  unfoldable pub alias : Reader (Option ℕ × Name)
  alias = optional (sees (k.As ∷ [])) (the k.As) then named names

  unfoldable pub table : Reader Relation
  table = made (λ (name, alias). node.relation_of name alias) (named names then optional (sees aliases) alias)

  unfoldable pub subquery : Reader Relation
  subquery = made (λ (at, (inner, (_, (word, name)))). relations.Subquery inner (is_some word) name at) (the k.Open then lower 1 select then the k.Close then alias)

  unfoldable pub relation : Reader Relation
  relation = choice (sees names) table subquery

  unfoldable pub on : Reader Expr
  on = behind (the k.On) or_chain

  unfoldable pub inner_join : Reader Join
  inner_join = made (λ (word, (at, (right, on))). joins.Inner (is_some word) right on (node.first_place word at))
      (optional (sees (k.Inner ∷ [])) (the k.Inner) then the k.Join then relation then on)

  unfoldable pub left_join : Reader Join
  left_join = made (λ (at, (word, (_, (right, on)))). joins.Left (is_some word) right on at)
      (the k.Left then optional (sees (k.Outer ∷ [])) (the k.Outer) then the k.Join then relation then on)

  unfoldable pub cross_join : Reader Join
  cross_join = made (λ (at, right). joins.Cross right at) (the k.Cross then behind (the k.Join) relation)

  unfoldable pub join : Reader Join
  join = choice (sees inner_words) inner_join (choice (sees (k.Left ∷ [])) left_join cross_join)

  abbrev pub joins_ : Reader (List Join)
  joins_ = many (sees join_words) (λ _. join) 0

  unfoldable pub from_item : Reader From
  from_item = made (λ (first, joins). roll-From (record { first = first; joins = joins })) (relation then joins_)

  unfoldable pub filter : Reader (Option Expr)
  filter = optional (sees (k.Where ∷ [])) (behind (the k.Where) or_chain)

  unfoldable pub group_by : Reader GroupBy
  group_by = made (λ (at, keys). roll-GroupBy (record { keys = keys; at = at })) (the k.Group then behind (the k.By) (list (λ _. or_chain)))

  unfoldable pub having : Reader Having
  having = made (λ (at, condition). roll-Having (record { condition = condition; at = at })) (the k.Having then or_chain)

  unfoldable pub order_key : Reader OrderKey
  order_key = made node.order_key (or_chain then optional (sees node.direction_words) (some_of node.direction_words))

  unfoldable pub order_by : Reader (List OrderKey)
  order_by = made node.or_none (optional (sees (k.Order ∷ [])) (behind (the k.Order) (behind (the k.By) (list (λ _. order_key)))))

  unfoldable pub limit : Reader (Option Count)
  limit = optional (sees (k.Limit ∷ [])) (behind (the k.Limit) a_number)

  unfoldable pub offset : Reader (Option Count)
  offset = optional (sees (k.Offset ∷ [])) (behind (the k.Offset) a_number)

  unfoldable pub select_list : Reader (ℕ × (Option ℕ × List Item))
  select_list = the k.Select then optional (sees (k.Distinct ∷ [])) (the k.Distinct) then list (λ _. select_item)

  unfoldable pub selection : Reader ((ℕ × (Option ℕ × List Item)) × (List From × Option Expr))
  selection = select_list then behind (the k.From) (list (λ _. from_item)) then filter

  unfoldable pub grouping : Reader (Option GroupBy × Option Having)
  grouping = optional (sees (k.Group ∷ [])) group_by then optional (sees (k.Having ∷ [])) having

  unfoldable pub ordering : Reader (List OrderKey × (Option Count × Option Count))
  ordering = order_by then limit then offset

  unfoldable pub selected : Reader Select
  selected = made (λ (((at, (distinct, items)), (from, filter)), ((groups, having), (order, (limit, offset)))). roll-Select (record {
    distinct = is_some distinct;
    items = items;
    from = from;
    filter = filter;
    groups = groups;
    having = having;
    order = order;
    limit = limit;
    offset = offset;
    at = at;
  })) (selection then grouping then ordering)

  abbrev pub phrase : (d : Deeper) → Reader (Tree d)
  phrase (expr or_) = or_chain
  phrase (expr and_) = and_chain
  phrase (expr not_) = negation
  phrase (expr term_) = term
  phrase (expr unary_) = unary
  phrase select = selected

abbrev pub below : ℕ → ℕ → (d : Deeper) → Reader (Tree d)
below zero n d = used_up (firsts d)
below (suc left) zero d = used_up (firsts d)
below (suc left) (suc zero) d = phrase (below left) d
below (suc left) (suc (suc n)) d = below left (suc n) d

abbrev pub within : ℕ → (d : Deeper) → Reader (Tree d)
within left = phrase (below left)
