-- The nodes of trees, made of what the parts of a rule give.
use Rattle.std.specs.Prelude.{ℕ, List, [], ◌∷◌, Bool, true, false, Option, Some, None, is_some}
use Rattle.cq_grammar.specs.Types.{Kind, Name, AddOperator, MultiplyOperator, Comparison, Aggregate, Expr, Chained, roll-Chained, Added, roll-Added, Multiplied}
use Rattle.cq_grammar.specs.Types.{roll-Multiplied, Arm, roll-Arm, NullTest, Test, Relation, Direction, OrderKey, roll-OrderKey, TypeName, ColumnDef}
use Rattle.cq_grammar.specs.Types.{CopyOption}
use Rattle.cq_grammar.specs.declared.kind.Kind.TheVariants as k
use Rattle.cq_grammar.specs.declared.expr.AddOperator.TheVariants as add
use Rattle.cq_grammar.specs.declared.expr.MultiplyOperator.TheVariants as multiply
use Rattle.cq_grammar.specs.declared.expr.Comparison.TheVariants as comparison
use Rattle.cq_grammar.specs.declared.expr.Aggregate.TheVariants as aggregate
use Rattle.cq_grammar.specs.declared.expr.Expr.TheVariants as e
use Rattle.cq_grammar.specs.declared.query.Relation.TheVariants as relation
use Rattle.cq_grammar.specs.declared.query.Direction.TheVariants as direction
use Rattle.cq_grammar.specs.declared.statement.TypeName.TheVariants as type
use Rattle.cq_grammar.specs.declared.statement.CopyOption.TheVariants as copy

-- ---- what words and signs stand for

abbrev pub add_signs : List Kind
add_signs = k.Plus ∷ k.Minus ∷ []

abbrev pub add_operator : Kind → AddOperator
add_operator k.Minus = add.Minus
add_operator _ = add.Plus

abbrev pub multiply_signs : List Kind
multiply_signs = k.Star ∷ k.Slash ∷ k.Percent ∷ []

abbrev pub multiply_operator : Kind → MultiplyOperator
multiply_operator k.Slash = multiply.Divide
multiply_operator k.Percent = multiply.Remainder
multiply_operator _ = multiply.Times

abbrev pub comparison_signs : List Kind
comparison_signs = k.Equal ∷ k.NotEqual ∷ k.Less ∷ k.LessOrEqual ∷ k.Greater ∷ k.GreaterOrEqual ∷ []

abbrev pub comparison_operator : Kind → Comparison
comparison_operator k.NotEqual = comparison.NotEqual
comparison_operator k.Less = comparison.Less
comparison_operator k.LessOrEqual = comparison.LessOrEqual
comparison_operator k.Greater = comparison.Greater
comparison_operator k.GreaterOrEqual = comparison.GreaterOrEqual
comparison_operator _ = comparison.Equal

-- the aggregates that take an expression alone; COUNT takes `*` too
abbrev pub aggregate_words : List Kind
aggregate_words = k.Sum ∷ k.Min ∷ k.Max ∷ []

abbrev pub aggregate_function : Kind → Aggregate
aggregate_function k.Min = aggregate.Min
aggregate_function k.Max = aggregate.Max
aggregate_function _ = aggregate.Sum

abbrev pub direction_words : List Kind
direction_words = k.Asc ∷ k.Desc ∷ []

abbrev pub direction_of : Kind → Direction
direction_of k.Desc = direction.Descending
direction_of _ = direction.Ascending

abbrev pub type_words : List Kind
type_words = k.Bigint ∷ k.Integer ∷ k.Int ∷ k.Text ∷ []

abbrev pub type_of : Kind → TypeName
type_of k.Integer = type.Integer
type_of k.Int = type.Int
type_of k.Text = type.Text
type_of _ = type.Bigint

-- ---- expressions

-- a chain of one part is that part
abbrev pub chain : (Expr → List Chained → Expr) → Expr → List Chained → Expr
chain node first [] = first
chain node first (second ∷ more) = node first (second ∷ more)

abbrev pub chained : ℕ × Expr → Chained
chained (at, part) = roll-Chained (record { part = part; at = at })

abbrev pub null_tests : Expr → List NullTest → Expr
null_tests first [] = first
null_tests first (second ∷ more) = e.Is first (second ∷ more)

abbrev pub null_test : ℕ × (Option ℕ × ℕ) → NullTest
null_test (at, (not, null)) = record { negated = is_some not; at = at }

abbrev pub compared : Expr → Option ((Kind × ℕ) × Expr) → Expr
compared left None = left
compared left (Some ((operator, at), right)) = e.Compare left (comparison_operator operator) right at

-- the place of NOT, where it is there, or else that of the word
abbrev pub first_place : Option ℕ → ℕ → ℕ
first_place None at = at
first_place (Some not) at = not

abbrev pub tested : Expr → Option (Option ℕ × (ℕ × Test)) → Expr
tested operand None = operand
tested operand (Some (not, (at, test))) = e.Tested operand (is_some not) test (first_place not at)

abbrev pub sum_of : Expr → List Added → Expr
sum_of first [] = first
sum_of first (second ∷ more) = e.Sum first (second ∷ more)

abbrev pub added : (Kind × ℕ) × Expr → Added
added ((operator, at), term) = roll-Added (record { operator = add_operator operator; term = term; at = at })

abbrev pub product_of : Expr → List Multiplied → Expr
product_of first [] = first
product_of first (second ∷ more) = e.Product first (second ∷ more)

abbrev pub multiplied : (Kind × ℕ) × Expr → Multiplied
multiplied ((operator, at), factor) = roll-Multiplied (record { operator = multiply_operator operator; factor = factor; at = at })

abbrev pub column_of : Name → Option Name → Expr
column_of name None = e.Column name
column_of name (Some column) = e.ColumnOf name column

abbrev pub arm : Expr × Expr → Arm
arm (condition, result) = roll-Arm (record { condition = condition; result = result })

-- COUNT of `*`, which is nothing here, or of an expression
abbrev pub count_of_rows : ℕ → Option Expr → Expr
count_of_rows at None = e.CountAll at
count_of_rows at (Some argument) = e.Aggregate aggregate.Count argument at

-- ---- queries

abbrev pub relation_of : Name → Option (Option ℕ × Name) → Relation
relation_of name None = relation.Table name
relation_of name (Some (word, alias)) = relation.TableAs name (is_some word) alias

abbrev pub order_key : Expr × Option (Kind × ℕ) → OrderKey
order_key (key, None) = roll-OrderKey (record { key = key; direction = None })
order_key (key, Some (word, at)) = roll-OrderKey (record { key = key; direction = Some (direction_of word) })

-- a list that may be left out
abbrev pub or_none : {A : Type 0} → Option (List A) → List A
or_none None = []
or_none (Some list) = list

-- ---- statements

abbrev pub column_def : Name × ((Kind × ℕ) × Option (ℕ × ℕ)) → ColumnDef
column_def (name, ((word, at), primary)) = record { name = name; type_name = type_of word; primary = is_some primary }

abbrev pub format_words : List Kind
format_words = k.Csv ∷ k.Text ∷ []

abbrev pub format_option : ℕ × (Kind × ℕ) → CopyOption
format_option (at, (k.Text, _)) = copy.FormatText at
format_option (at, (_, _)) = copy.FormatCsv at

abbrev pub is_spelled : Option (Option ℕ × List CopyOption) → Bool
is_spelled None = false
is_spelled (Some (word, options)) = is_some word

abbrev pub options_of : Option (Option ℕ × List CopyOption) → List CopyOption
options_of None = []
options_of (Some (word, options)) = options

abbrev pub setting_words : List Kind
setting_words = k.To ∷ k.Equal ∷ []

abbrev pub is_to : Kind → Bool
is_to k.To = true
is_to _ = false
