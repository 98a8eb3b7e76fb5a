-- What a SELECT is read as: FROM, then WHERE, GROUP BY, HAVING, the select list, and ORDER BY.
use Rattle.std.specs.Prelude.{ℕ, zero, suc, ◌+◌, ◌-◌, Bool, true, false, ◌&&◌, ◌||◌, not, if◌then◌else◌, List, [], ◌∷◌, ◌++◌, filter, length, position, slice_get, bytes_eq, nat_lt, Option, None, Some, Result, Ok, Err}
use Rattle.std.specs.List.{list_any, list_all}
use Rattle.cq_tree.specs.declared.expression.Expr.{Expr}
use Rattle.cq_tree.specs.declared.expression.Cond.{Cond, Always}
use Rattle.cq_grammar.specs.declared.query.Count.{Count}
use Rattle.cq_grammar.specs.declared.query.Direction.{Direction}
use Rattle.cq_grammar.specs.declared.query.Direction.TheVariants as direction
use Rattle.cq_grammar.specs.declared.expr.Expr.TheOpen.{Item-F, GroupBy-F, Having-F, OrderKey-F}
use Rattle.cq_reading.specs.Types.{Found, Source, Output, Bound, Shown, Ordered, BindError, Limited, Relations}
use Rattle.cq_reading.specs.declared.error.BindError.TheVariants as error
use Rattle.cq_reading.specs.declared.error.Limited.TheVariants as limited
use Rattle.cq_reading.specs.Steps.{Reading, give, refuse, ◌then◌, provided, with_next, each, through}
use Rattle.cq_reading.specs.Widths.{is_value, expr_of, type_of, width_of}
use Rattle.cq_tree.specs.Equal.{equal_exprs}
use Rattle.cq_reading.specs.Scopes.{World, Context, Place, Nowhere, place_of, column_at, has_name, is_of}
use Rattle.cq_reading.specs.Titles.{Form, Number, Name}
use Rattle.cq_reading.specs.Parts.{Part, ItemPart, All, AllOf, One, GroupPart, HavingPart, OrderPart}
use Rattle.cq_reading.specs.Expressions.{Layer, reads, behind_keys, named_in_group}
use Rattle.cq_reading.specs.Relations.{condition_of}

-- ---- pieces

abbrev pub look : Reading Found
look found = Ok (found, found)

abbrev pub item_step : Layer Item-F → ItemPart
item_step (Item-F.All at) = All at
item_step (Item-F.AllOf relation) = AllOf relation.text relation.at
item_step (Item-F.Value value None) = One value None
item_step (Item-F.Value value (Some name)) = One value (Some name.text)

abbrev pub group_by_step : Layer GroupBy-F → GroupPart
group_by_step g = record { keys = g.keys; at = g.at }

abbrev pub having_step : Layer Having-F → HavingPart
having_step h = record { condition = h.condition; at = h.at }

abbrev pub descends : Option Direction → Bool
descends (Some direction.Descending) = true
descends _ = false

abbrev pub order_key_step : Layer OrderKey-F → OrderPart
order_key_step o = record { key = o.key; descending = descends o.direction }

-- a value, which is refused at its root where it is a condition
abbrev pub value_of : ℕ → Reading Bound → Reading Bound
value_of at r = r then (λ b. provided (is_value b) (error.Type at) (give b))

-- each in turn, of which there are at most so many
abbrev pub with_one_more : {A B : Type 0} → ℕ → Limited → (A → Reading B) → List B → A → Reading (List B)
with_one_more number what r before a = provided (nat_lt (length before) number) (error.Limit what number) (with_next r before a)

abbrev pub at_most : {A B : Type 0} → ℕ → Limited → (A → Reading B) → List A → Reading (List B)
at_most number what r items = through (with_one_more number what r) items []

-- ---- the select list

-- an output before it is known whether its query groups: its place, its name, and what it is read as
pub record Target : Type 0 where
  pub at : ℕ
  pub title : List ℕ
  pub reads : Context → Reading Bound

-- a column that `*` stands for
abbrev pub star_column : ℕ → ℕ → Source → Target
star_column at i s = record { at = at; title = s.name; reads = behind_keys false (λ cx. named_in_group cx (give (column_at cx i)) at) }

abbrev pub star_columns : ℕ → (Source → Bool) → ℕ → List Source → List Target
star_columns at is i [] = []
star_columns at is i (s ∷ more) = if is s then star_column at i s ∷ star_columns at is (i + 1) more else star_columns at is (i + 1) more

-- `relation.*` of a relation that isn't there
abbrev pub no_relation : ℕ → Target
no_relation at = record { at = at; title = []; reads = λ cx. refuse (error.Unknown at) }

abbrev pub stars_of : ℕ → (Source → Bool) → List Source → List Target
stars_of at is columns = if list_any is columns then star_columns at is 0 columns else no_relation at ∷ []

abbrev pub title_by : Option (List ℕ) → List ℕ → List ℕ
title_by None title = title
title_by (Some name) title = name

abbrev pub targets_of : List Source → ItemPart → List Target
targets_of columns (All at) = star_columns at (λ s. true) 0 columns
targets_of columns (AllOf relation at) = stars_of at (is_of relation) columns
targets_of columns (One p name) = record { at = p.at; title = title_by name p.title; reads = reads p } ∷ []

abbrev pub targets : List Source → List ItemPart → List Target
targets columns [] = []
targets columns (i ∷ more) = targets_of columns i ++ targets columns more

abbrev pub read_target : Context → Target → Reading Shown
read_target cx t = value_of t.at (t.reads cx) then (λ b. give (record { title = t.title; bound = b }))

abbrev pub output_of : Shown → Output
output_of s = record { name = s.title; kind = type_of s.bound; width = width_of s.bound }

abbrev pub item_of : Shown → Expr
item_of s = expr_of s.bound

-- ---- GROUP BY: a place or a name may stand for an output

-- those of a name: none, or the first, where all of them are one expression
abbrev pub same_as : Bound → Bound → Bool
same_as a b = equal_exprs (expr_of a) (expr_of b)

abbrev pub one_of : ℕ → List Bound → Reading Bound
one_of at [] = refuse (error.Unknown at)
one_of at (b ∷ more) = provided (list_all (same_as b) more) (error.Ambiguous at) (give b)

abbrev pub titled : List ℕ → List Target → List Target
titled name ts = filter (λ t. bytes_eq t.title name) ts

abbrev pub key_by_title : Context → List Target → List ℕ → ℕ → Reading Bound
key_by_title cx ts name at = each (λ t. value_of t.at (t.reads cx)) (titled name ts) then one_of at

-- the n-th, counted from 1
abbrev pub nth : {A : Type 0} → ℕ → List A → Option A
nth zero xs = None
nth (suc n) xs = slice_get xs n

abbrev pub key_by_place : Context → Option Target → ℕ → Reading Bound
key_by_place cx None at = refuse (error.Unknown at)
key_by_place cx (Some t) at = value_of t.at (t.reads cx)

-- an input column comes before an output of the name
abbrev pub key_by_name : Context → List Target → Part → List ℕ → Place → Reading Bound
key_by_name cx ts p name Nowhere = key_by_title cx ts name p.at
key_by_name cx ts p name _ = reads p cx

abbrev pub group_key_by : Context → List Target → Part → Form → Reading Bound
group_key_by cx ts p (Number n) = key_by_place cx (nth n ts) p.at
group_key_by cx ts p (Name name) = key_by_name cx ts p name (place_of (has_name name) cx.columns)
group_key_by cx ts p _ = value_of p.at (reads p cx)

abbrev pub group_key : Context → List Target → Part → Reading Expr
group_key cx ts p = group_key_by cx ts p p.form then (λ b. give (expr_of b))

abbrev pub group_keys : Context → List Target → Bool → Option GroupPart → Reading (List Expr)
group_keys cx ts joined None = give []
group_keys cx ts joined (Some g) = provided (not joined) (error.GroupedJoin g.at) (at_most 16 limited.Keys (group_key cx ts) g.keys)

abbrev pub having_of : Context → Bool → Option HavingPart → Reading Cond
having_of cx joined None = give Always
having_of cx joined (Some h) = provided (not joined) (error.GroupedJoin h.at) (condition_of h.condition cx)

-- ---- ORDER BY: a place, an output's name, an output's expression, or a hidden item

abbrev pub with_key : Ordered → ℕ → Bool → Ordered
with_key o item descending = record { items = o.items; keys = o.keys ++ (record { item = item; descending = descending }) ∷ [] }

abbrev pub with_hidden : Ordered → Expr → Bool → Ordered
with_hidden o e descending = record { items = o.items ++ e ∷ []; keys = o.keys ++ (record { item = length o.items; descending = descending }) ∷ [] }

-- with DISTINCT a key is an output
abbrev pub key_at : ℕ → Bool → Bool → ℕ → Ordered → Expr → Option ℕ → Reading Ordered
key_at shown distinct descending at o e None = provided (not distinct) (error.NotGrouped at) (give (with_hidden o e descending))
key_at shown distinct descending at o e (Some i) = give (with_key o i descending)

abbrev pub key_by_value : ℕ → Bool → Bool → ℕ → Ordered → Bound → Reading Ordered
key_by_value shown distinct descending at o b = key_at shown distinct descending at o (expr_of b) (position (equal_exprs (expr_of b)) o.items)

abbrev pub key_of_item : Bool → Ordered → ℕ → Bool → Reading Ordered
key_of_item descending o n fit = give (with_key o n descending)

abbrev pub key_by_number : Bool → ℕ → ℕ → ℕ → Ordered → Reading Ordered
key_by_number descending at n shown o = provided (nat_lt 0 n && nat_lt n (shown + 1)) (error.Unknown at) (give (with_key o (n - 1) descending))

abbrev pub has_title : List ℕ → Shown → Bool
has_title name s = bytes_eq s.title name

abbrev pub alike_named : List ℕ → List Shown → Expr → Bool
alike_named name outputs e = list_all (λ s. not (has_title name s) || equal_exprs e (item_of s)) outputs

abbrev pub key_by_output : Bool → ℕ → List ℕ → List Shown → Ordered → ℕ → Option Shown → Reading Ordered
key_by_output descending at name outputs o i None = refuse (error.Unknown at)
key_by_output descending at name outputs o i (Some s) = provided (alike_named name outputs (item_of s)) (error.Ambiguous at) (give (with_key o i descending))

abbrev pub order_by_expression : Context → List Shown → Bool → OrderPart → Ordered → Reading Ordered
order_by_expression cx outputs distinct p o = value_of p.key.at (reads p.key cx) then key_by_value (length outputs) distinct p.descending p.key.at o

abbrev pub order_by_name : Context → List Shown → Bool → OrderPart → Ordered → List ℕ → Option ℕ → Reading Ordered
order_by_name cx outputs distinct p o name None = order_by_expression cx outputs distinct p o
order_by_name cx outputs distinct p o name (Some i) = key_by_output p.descending p.key.at name outputs o i (slice_get outputs i)

abbrev pub order_by_form : Context → List Shown → Bool → OrderPart → Ordered → Form → Reading Ordered
order_by_form cx outputs distinct p o (Number n) = key_by_number p.descending p.key.at n (length outputs) o
order_by_form cx outputs distinct p o (Name name) = order_by_name cx outputs distinct p o name (position (has_title name) outputs)
order_by_form cx outputs distinct p o _ = order_by_expression cx outputs distinct p o

abbrev pub with_order_key : Context → List Shown → Bool → Ordered → OrderPart → Reading Ordered
with_order_key cx outputs distinct o p = provided (nat_lt (length o.keys) 16) (error.Limit limited.Keys 16) (order_by_form cx outputs distinct p o p.key.form)

abbrev pub order_keys : Context → List Shown → Bool → List OrderPart → Ordered → Reading Ordered
order_keys cx outputs distinct = through (with_order_key cx outputs distinct)

-- ---- the whole

-- what WHERE and the keys of GROUP BY stand in
abbrev pub before_grouping : World → Relations → Bool → Context
before_grouping w r may_select = record {
  world = w;
  first = 0;
  columns = r.columns;
  grouped = false;
  keys = [];
  joined = r.joined;
  may_aggregate = false;
  may_select = may_select;
}

-- what HAVING, the select list and ORDER BY stand in
abbrev pub after_grouping : World → Relations → Bool → List Expr → Bool → Context
after_grouping w r grouped keys may_select = record {
  world = w;
  first = 0;
  columns = r.columns;
  grouped = grouped;
  keys = keys;
  joined = r.joined;
  may_aggregate = true;
  may_select = may_select;
}

abbrev pub filter_of : Context → Option Part → Reading Cond
filter_of cx None = give Always
filter_of cx (Some p) = condition_of p cx

abbrev pub has_aggregate : ItemPart → Bool
has_aggregate (One p name) = p.aggregates
has_aggregate _ = false

abbrev pub limit_of : Option Count → Option ℕ
limit_of None = None
limit_of (Some c) = Some c.value

abbrev pub offset_of : Option Count → ℕ
offset_of None = 0
offset_of (Some c) = c.value

-- a SELECT begins with no IN subquery and no aggregate of its own, and ends with those of the SELECT around it
abbrev pub in_block : {A : Type 0} → Result (A × Found) BindError → Found → Result (A × Found) BindError
in_block (Err e) outer = Err e
in_block (Ok p) outer = Ok (p.0, record p.1 { subs = outer.subs; aggs = outer.aggs })

-- at most 64 in a statement
abbrev pub a_block : {A : Type 0} → Reading A → Reading A
a_block r found = provided (nat_lt found.blocks 64) (error.Limit limited.Blocks 64) (λ f. in_block (r (record f { blocks = f.blocks + 1; subs = []; aggs = [] })) f) found
