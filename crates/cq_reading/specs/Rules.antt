-- One rule for each kind of node, over what its operands stand for. Several refusals at one node come in the order 14, 18, 16; at an
-- aggregate 15, 14, 16 and then the grouped join.
use Rattle.std.specs.Prelude.{ℕ, zero, suc, ℤ, pos, neg_ℤ, ◌+◌, ◌-◌, ◌/◌, Bool, true, false, ◌&&◌, not, if◌then◌else◌, List, [], ◌∷◌, ◌++◌, map, length, take, drop, position, unwrap_or, slice_index_or, Option, None, Some, Result, Ok, Err}
use Rattle.std.specs.List.{list_all}
use Rattle.std.specs.Ordering.{int_eq}
use Rattle.cq_value.specs.declared.value.Value.TheVariants as value
use Rattle.cq_tree.specs.declared.expression.Op.{Op}
use Rattle.cq_tree.specs.declared.expression.Op.TheVariants as op
use Rattle.cq_tree.specs.declared.expression.Arm.{Arm}
use Rattle.cq_tree.specs.declared.expression.Expr.{Expr, Literal, Column, Neg, Add, Sub, Mul, Div, Rem, Case, Coalesce}
use Rattle.cq_tree.specs.declared.expression.Cond.{Cond, Compare, IsNull, And, Or, Not, Always}
use Rattle.cq_tree.specs.declared.query.Agg.{Agg}
use Rattle.cq_tree.specs.declared.query.Agg.TheVariants as agg
use Rattle.cq_grammar.specs.declared.expr.AddOperator.{AddOperator}
use Rattle.cq_grammar.specs.declared.expr.AddOperator.TheVariants as add
use Rattle.cq_grammar.specs.declared.expr.MultiplyOperator.{MultiplyOperator}
use Rattle.cq_grammar.specs.declared.expr.MultiplyOperator.TheVariants as multiply
use Rattle.cq_grammar.specs.declared.expr.Comparison.{Comparison}
use Rattle.cq_grammar.specs.declared.expr.Comparison.TheVariants as comparison
use Rattle.cq_grammar.specs.declared.expr.Aggregate.{Aggregate}
use Rattle.cq_grammar.specs.declared.expr.Aggregate.TheVariants as aggregate
pub use Rattle.cq_meaning.specs.Chains.{joined_by, halves, halved}
use Rattle.cq_reading.specs.Types.{Found, Bound, BindError}
use Rattle.cq_reading.specs.declared.bound.Type.TheVariants as type
use Rattle.cq_reading.specs.declared.bound.Bound.TheVariants.{Value, Truth}
use Rattle.cq_reading.specs.declared.error.BindError.TheVariants as error
use Rattle.cq_reading.specs.Steps.{Reading, give, refuse, ◌then◌, provided}
use Rattle.cq_reading.specs.Widths.{null_expr, expr_of, type_of, width_of, cond_of, is_truth, is_value, is_number, common_of, agree, are_alike, is_some, literal_width, null_width, count_width, sum_width, product_width, total_width, greatest_width, fits_width, ValueType}
use Rattle.cq_reading.specs.Equal.{equal_aggs}
use Rattle.cq_tree.specs.Equal.{equal_exprs}
use Rattle.cq_reading.specs.Scopes.{Context}

-- ---- literals

abbrev pub number : ℕ → Bound
number n = Value (Literal (value.Int (pos n))) type.Number (literal_width n)

abbrev pub signed_int : AddOperator → ℕ → ℤ
signed_int add.Plus n = pos n
signed_int add.Minus n = neg_ℤ (pos n)

-- a sign directly before a number is folded into it
abbrev pub signed_number : AddOperator → ℕ → Bound
signed_number sign n = Value (Literal (value.Int (signed_int sign n))) type.Number (literal_width n)

abbrev pub quoted : List ℕ → Bound
quoted text = Value (Literal (value.Text text)) type.Text 0

abbrev pub null : Bound
null = Value null_expr type.Null null_width

-- ---- arithmetic

abbrev pub numbers : Expr → ℕ → Bool → ℕ → Reading Bound
numbers e width fit at = provided fit (error.Type at) (provided (fits_width width) (error.TooWide at) (give (Value e type.Number width)))

abbrev pub added : AddOperator → Bound → Bound → ℕ → Reading Bound
added add.Plus a b at = numbers (Add (expr_of a) (expr_of b)) (sum_width (width_of a) (width_of b)) (is_number a && is_number b) at
added add.Minus a b at = numbers (Sub (expr_of a) (expr_of b)) (sum_width (width_of a) (width_of b)) (is_number a && is_number b) at

-- a sign that isn't folded
abbrev pub signed : AddOperator → Bound → ℕ → Reading Bound
signed add.Plus a at = numbers (expr_of a) (width_of a) (is_number a) at
signed add.Minus a at = numbers (Neg (expr_of a)) (width_of a + 1) (is_number a) at

-- a divisor is a literal other than 0, with at most one sign before it
abbrev pub divided_by : (Expr → ℤ → Expr) → ℕ → Bound → ℕ → Option ℤ → Reading Bound
divided_by make width a at None = refuse (error.Divisor at)
divided_by make width a at (Some c) =
    provided (not (int_eq c (pos 0))) (error.Divisor at) (provided (fits_width width) (error.TooWide at) (give (Value (make (expr_of a) c) type.Number width)))

abbrev pub multiplied : MultiplyOperator → Bound → Bound → Option ℤ → ℕ → Reading Bound
multiplied multiply.Times a b c at = numbers (Mul (expr_of a) (expr_of b)) (product_width (width_of a) (width_of b)) (is_number a && is_number b) at
multiplied multiply.Divide a b c at = provided (is_number a && is_number b) (error.Type at) (divided_by Div (width_of a + 1) a at c)
multiplied multiply.Remainder a b c at = provided (is_number a && is_number b) (error.Type at) (divided_by Rem (width_of a) a at c)

-- ---- conditions

abbrev pub op_of : Comparison → Op
op_of comparison.Equal = op.Eq
op_of comparison.NotEqual = op.Ne
op_of comparison.Less = op.Lt
op_of comparison.LessOrEqual = op.Le
op_of comparison.Greater = op.Gt
op_of comparison.GreaterOrEqual = op.Ge

abbrev pub condition : Cond → Bool → ℕ → Reading Bound
condition c fit at = provided fit (error.Type at) (give (Truth c))

abbrev pub compared : Comparison → Bound → Bound → ℕ → Reading Bound
compared o a b at = condition (Compare (op_of o) (expr_of a) (expr_of b)) (are_alike a b) at

abbrev pub negated : Bound → ℕ → Reading Bound
negated a at = condition (Not (cond_of a)) (is_truth a) at

abbrev pub negated_if : Bool → Cond → Cond
negated_if true c = Not c
negated_if false c = c

abbrev pub null_tested : Bool → Bound → ℕ → Reading Bound
null_tested not_null a at = condition (negated_if not_null (IsNull (expr_of a))) (is_value a) at

-- `x BETWEEN a AND b` is `x >= a AND x <= b`, of three that can be compared with each other
abbrev pub between : Bool → Bound → Bound → Bound → ℕ → Reading Bound
between negate x a b at =
    condition (negated_if negate (And (Compare op.Ge (expr_of x) (expr_of a)) (Compare op.Le (expr_of x) (expr_of b)))) (agree (x ∷ a ∷ b ∷ [])) at

-- ---- chains

-- `x IN (a, b)` is `x = a OR x = b`, of operands that can all be compared with each other
abbrev pub listed : Bool → Bound → List Bound → ℕ → Reading Bound
listed negate x items at =
    condition (negated_if negate (halved true (map (λ i. Compare op.Eq (expr_of x) (expr_of i)) items))) (agree (x ∷ items)) at

-- a part of a chain of AND or OR, with the place of the word before it
abbrev pub ChainPart : Type 0
ChainPart = Bound × ℕ

abbrev pub joined : Bool → Bound → Bound → ℕ → Reading Bound
joined any a b at = condition (joined_by any (cond_of a) (cond_of b)) (is_truth a && is_truth b) at

abbrev pub place_after : ℕ → List ChainPart → ℕ
place_after n parts = (slice_index_or parts n (null, 0)).1

-- the chain as a tree of halves, each node at the word between them
abbrev pub chain_of : ℕ → Bool → List ChainPart → Reading Bound
chain_of most any [] = give (Truth Always)
chain_of most any (p ∷ []) = give p.0
chain_of zero any (p ∷ q ∷ more) = give (Truth Always)
chain_of (suc most) any (p ∷ q ∷ more) =
    let parts = p ∷ q ∷ more in let n = length parts in
    chain_of most any (take (n - n / 2) parts) then (λ a. chain_of most any (drop (n - n / 2) parts) then (λ b. joined any a b (place_after (n - n / 2) parts)))

abbrev pub chained : Bool → List ChainPart → Reading Bound
chained any parts = chain_of (length parts) any parts

-- ---- CASE and COALESCE

abbrev pub of_type : Option ValueType → Expr → ℕ → ℕ → Reading Bound
of_type None e width at = refuse (error.Type at)
of_type (Some t) e width at = give (Value e t width)

-- a condition and the result behind it
abbrev pub Pair : Type 0
Pair = Bound × Bound

abbrev pub arm_of : Pair → Arm
arm_of p = record { when = cond_of p.0; then = expr_of p.1 }

-- CASE: its arms and what stands behind ELSE, which is NULL where there is none
abbrev pub chosen : List Pair → Bound → ℕ → Reading Bound
chosen arms other at =
    let results = map (λ p. p.1) arms ++ other ∷ [] in
    provided (list_all (λ p. is_truth p.0) arms) (error.Type at) (of_type (common_of results) (Case (map arm_of arms) (expr_of other)) (greatest_width results) at)

abbrev pub coalesced : List Bound → ℕ → Reading Bound
coalesced items at = of_type (common_of items) (Coalesce (map expr_of items)) (greatest_width items) at

-- ---- aggregates

-- the place of an aggregate in its SELECT: that of an equal one before it, if there is one
abbrev pub place_among : List Agg → Agg → ℕ
place_among aggs a = unwrap_or (position (equal_aggs a) aggs) (length aggs)

abbrev pub with_aggregate : List Agg → Agg → List Agg
with_aggregate aggs a = if is_some (position (equal_aggs a) aggs) then aggs else aggs ++ a ∷ []

-- a column behind the keys
abbrev pub aggregated : Context → Agg → ValueType → ℕ → Reading Bound
aggregated cx a t width found = Ok (Value (Column (length cx.keys + place_among found.aggs a)) t width, record found { aggs = with_aggregate found.aggs a })

abbrev pub counted : Context → ℕ → Reading Bound
counted cx at = provided cx.may_aggregate (error.NotGrouped at) (provided (not cx.joined) (error.GroupedJoin at) (aggregated cx agg.CountAll type.Number count_width))

abbrev pub agg_of : Aggregate → Expr → Agg
agg_of aggregate.Count e = agg.Count e
agg_of aggregate.Sum e = agg.Sum e
agg_of aggregate.Min e = agg.Min e
agg_of aggregate.Max e = agg.Max e

abbrev pub takes : Aggregate → Bound → Bool
takes aggregate.Sum a = is_number a
takes _ a = is_value a

abbrev pub aggregate_type : Aggregate → Bound → ValueType
aggregate_type aggregate.Count a = type.Number
aggregate_type aggregate.Sum a = type.Number
aggregate_type aggregate.Min a = type_of a
aggregate_type aggregate.Max a = type_of a

abbrev pub aggregate_width : Aggregate → Bound → ℕ
aggregate_width aggregate.Count a = count_width
aggregate_width aggregate.Sum a = total_width (width_of a)
aggregate_width aggregate.Min a = width_of a
aggregate_width aggregate.Max a = width_of a

abbrev pub summed : Context → Aggregate → Bound → ℕ → Reading Bound
summed cx f a at =
    provided cx.may_aggregate (error.NotGrouped at)
    (provided (takes f a) (error.Type at)
    (provided (fits_width (aggregate_width f a)) (error.TooWide at)
    (provided (not cx.joined) (error.GroupedJoin at) (aggregated cx (agg_of f (expr_of a)) (aggregate_type f a) (aggregate_width f a)))))

-- ---- keys

abbrev pub key_at : Option ℕ → ValueType → ℕ → Option Bound
key_at None t width = None
key_at (Some i) t width = Some (Value (Column i) t width)

-- the column of the key that an expression is, if it is one
abbrev pub key_column : List Expr → Bound → Option Bound
key_column keys (Value e t width) = key_at (position (equal_exprs e) keys) t width
key_column keys (Truth c) = None

abbrev pub if_key : Option Bound → Reading Bound → Reading Bound
if_key None other = other
if_key (Some b) other = give b

abbrev pub keyed_by : List Expr → Result (Bound × Found) BindError → Reading Bound → Reading Bound
keyed_by keys (Ok p) other = if_key (key_column keys p.0) other
keyed_by keys (Err e) other = other

abbrev pub nothing : Found
nothing = record { results = 0; blocks = 0; subs = []; aggs = [] }

-- a whole expression that is a key, when it is read by itself and before any grouping, stands for the key's column
abbrev pub keyed : List Expr → Reading Bound → Reading Bound → Reading Bound
keyed keys before other found = keyed_by keys (before nothing) other found
