-- How trees are spelled: the tokens, without their places, that a tree is written with.
use Rattle.std.specs.Prelude.{ℕ, List, [], ◌∷◌, ◌++◌, map, Bool, true, false, codes, Option, Some, None}
use Rattle.cq_token.specs.declared.token.TokenKind.{TokenKind}
use Rattle.cq_token.specs.declared.token.TokenKind.TheVariants as token
use Rattle.cq_token.specs.declared.sign.Sign.{Sign}
use Rattle.cq_token.specs.declared.sign.Sign.TheVariants as s
use Rattle.cq_grammar.specs.Types.{Name, AddOperator, MultiplyOperator, Comparison, Aggregate, NullTest, Expr, Test, Chained, Added, Multiplied, Arm, Direction}
use Rattle.cq_grammar.specs.Types.{Count, Item, Relation, Join, From, GroupBy, Having, OrderKey, Select, CommonTable, Query, Ast, TypeName, ColumnDef}
use Rattle.cq_grammar.specs.Types.{RowValues, SetClause, CopyOption, SettingValue, Literal, Argument, Expr-F, Test-F, Item-F, Join-F, Relation-F, Added-F}
use Rattle.cq_grammar.specs.Types.{Arm-F, Chained-F, Multiplied-F, From-F, GroupBy-F, Having-F, OrderKey-F, Select-F, fold-Expr, fold-Test, fold-Item}
use Rattle.cq_grammar.specs.Types.{fold-Join, fold-Relation, fold-Added, fold-Arm, fold-Chained, fold-Multiplied, fold-From, fold-GroupBy, fold-Having}
use Rattle.cq_grammar.specs.Types.{fold-OrderKey, fold-Select}
use Rattle.cq_grammar.specs.declared.expr.AddOperator.TheVariants as add
use Rattle.cq_grammar.specs.declared.expr.MultiplyOperator.TheVariants as multiply
use Rattle.cq_grammar.specs.declared.expr.Comparison.TheVariants as comparison
use Rattle.cq_grammar.specs.declared.expr.Aggregate.TheVariants as aggregate
use Rattle.cq_grammar.specs.declared.query.Direction.TheVariants as direction
use Rattle.cq_grammar.specs.declared.statement.Ast.TheVariants as ast
use Rattle.cq_grammar.specs.declared.statement.TypeName.TheVariants as type
use Rattle.cq_grammar.specs.declared.statement.CopyOption.TheVariants as copies
use Rattle.cq_grammar.specs.declared.statement.SettingValue.TheVariants as settings
use Rattle.cq_grammar.specs.declared.statement.Literal.TheVariants as literals

-- ---- pieces

abbrev pub Kinds : Type 0
Kinds = List TokenKind

abbrev pub word : List ℕ → Kinds
word letters = token.Name letters ∷ []

abbrev pub sign : Sign → Kinds
sign s = token.Sign s ∷ []

abbrev pub named : Name → Kinds
named name = word name.text

abbrev pub number : ℕ → Kinds
number n = token.Number n ∷ []

abbrev pub quoted : List ℕ → Kinds
quoted content = token.Text content ∷ []

-- one behind the other, as in a rule
infixr 10 ◌then◌
abbrev pub ◌then◌ : Kinds → Kinds → Kinds
front then back = front ++ back

-- a word that may be left out
abbrev pub if_written : Bool → Kinds → Kinds
if_written true kinds = kinds
if_written false kinds = []

abbrev pub if_some : Option Kinds → Kinds
if_some None = []
if_some (Some kinds) = kinds

-- the same behind a word
abbrev pub if_some_behind : Kinds → Option Kinds → Kinds
if_some_behind front None = []
if_some_behind front (Some kinds) = front ++ kinds

abbrev pub in_a_row : List Kinds → Kinds
in_a_row [] = []
in_a_row (part ∷ more) = part ++ in_a_row more

-- each behind the same word or sign
abbrev pub each_behind : Kinds → List Kinds → Kinds
each_behind front [] = []
each_behind front (part ∷ more) = (front ++ part) ++ each_behind front more

abbrev pub commas : List Kinds → Kinds
commas [] = []
commas (part ∷ more) = part ++ each_behind (sign s.Comma) more

abbrev pub in_brackets : Kinds → Kinds
in_brackets inner = sign s.Open then inner then sign s.Close

-- a list behind these words, or nothing where it is empty
abbrev pub list_behind : Kinds → List Kinds → Kinds
list_behind front [] = []
list_behind front (part ∷ more) = front ++ commas (part ∷ more)

-- ---- words and signs of operators

abbrev pub add_sign : AddOperator → Sign
add_sign add.Plus = s.Plus
add_sign add.Minus = s.Minus

abbrev pub multiply_sign : MultiplyOperator → Sign
multiply_sign multiply.Times = s.Star
multiply_sign multiply.Divide = s.Slash
multiply_sign multiply.Remainder = s.Percent

abbrev pub comparison_sign : Comparison → Sign
comparison_sign comparison.Equal = s.Equal
comparison_sign comparison.NotEqual = s.NotEqual
comparison_sign comparison.Less = s.Less
comparison_sign comparison.LessOrEqual = s.LessOrEqual
comparison_sign comparison.Greater = s.Greater
comparison_sign comparison.GreaterOrEqual = s.GreaterOrEqual

abbrev pub aggregate_word : Aggregate → List ℕ
aggregate_word aggregate.Count = codes "count"
aggregate_word aggregate.Sum = codes "sum"
aggregate_word aggregate.Min = codes "min"
aggregate_word aggregate.Max = codes "max"

abbrev pub direction_word : Direction → List ℕ
direction_word direction.Ascending = codes "asc"
direction_word direction.Descending = codes "desc"

abbrev pub type_word : TypeName → List ℕ
type_word type.Bigint = codes "bigint"
type_word type.Integer = codes "integer"
type_word type.Int = codes "int"
type_word type.Text = codes "text"

abbrev pub null_test_spelling : NullTest → Kinds
null_test_spelling t = word (codes "is") then if_written t.negated (word (codes "not")) then word (codes "null")

abbrev pub as_spelling : Bool → Name → Kinds
as_spelling spelled alias = if_written spelled (word (codes "as")) then named alias

-- ---- expressions and selects: what a node is spelled with, of the spellings of its parts

-- a layer of a tree, with the spellings of the parts in their places
abbrev pub Step : (Type 0 → Type 0 → Type 0 → Type 0 → Type 0 → Type 0 → Type 0 → Type 0 → Type 0 → Type 0 → Type 0 → Type 0 → Type 0 → Type 0 → Type 0) → Type 0
Step F = F Kinds Kinds Kinds Kinds Kinds Kinds Kinds Kinds Kinds Kinds Kinds Kinds Kinds Kinds → Kinds

abbrev pub expr_step : Step Expr-F
expr_step (Expr-F.Or first rest) = first then each_behind (word (codes "or")) rest
expr_step (Expr-F.And first rest) = first then each_behind (word (codes "and")) rest
expr_step (Expr-F.Not inner at) = word (codes "not") then inner
expr_step (Expr-F.Is first rest) = first then in_a_row (map null_test_spelling rest)
expr_step (Expr-F.Compare left operator right at) = left then sign (comparison_sign operator) then right
expr_step (Expr-F.Tested operand negated test at) = operand then if_written negated (word (codes "not")) then test
expr_step (Expr-F.Sum first rest) = first then in_a_row rest
expr_step (Expr-F.Product first rest) = first then in_a_row rest
expr_step (Expr-F.Signed operator inner at) = sign (add_sign operator) then inner
expr_step (Expr-F.Number value at) = number value
expr_step (Expr-F.Quoted text at) = quoted text
expr_step (Expr-F.Null at) = word (codes "null")
expr_step (Expr-F.Column column) = named column
expr_step (Expr-F.ColumnOf relation column) = named relation then sign s.Dot then named column
expr_step (Expr-F.Group inner at) = in_brackets inner
expr_step (Expr-F.Case arms otherwise at) = word (codes "case") then in_a_row arms then if_some_behind (word (codes "else")) otherwise then word (codes "end")
expr_step (Expr-F.Coalesce items at) = word (codes "coalesce") then in_brackets (commas items)
expr_step (Expr-F.CountAll at) = word (codes "count") then in_brackets (sign s.Star)
expr_step (Expr-F.Aggregate function argument at) = word (aggregate_word function) then in_brackets argument

abbrev pub test_step : Step Test-F
test_step (Test-F.InSelect select) = word (codes "in") then in_brackets select
test_step (Test-F.InList items) = word (codes "in") then in_brackets (commas items)
test_step (Test-F.Between low high) = word (codes "between") then low then word (codes "and") then high

abbrev pub item_step : Step Item-F
item_step (Item-F.All at) = sign s.Star
item_step (Item-F.AllOf relation) = named relation then sign s.Dot then sign s.Star
item_step (Item-F.Value value None) = value
item_step (Item-F.Value value (Some name)) = value then word (codes "as") then named name

abbrev pub join_step : Step Join-F
join_step (Join-F.Inner spelled relation on at) = if_written spelled (word (codes "inner")) then word (codes "join") then relation then word (codes "on") then on
join_step (Join-F.Left spelled relation on at) =
    word (codes "left") then if_written spelled (word (codes "outer")) then word (codes "join") then relation then word (codes "on") then on
join_step (Join-F.Cross relation at) = word (codes "cross") then word (codes "join") then relation

abbrev pub relation_step : Step Relation-F
relation_step (Relation-F.Table name) = named name
relation_step (Relation-F.TableAs name spelled alias) = named name then as_spelling spelled alias
relation_step (Relation-F.Subquery select spelled alias at) = sign s.Open then select then sign s.Close then as_spelling spelled alias

abbrev pub added_step : Step Added-F
added_step a = sign (add_sign a.operator) then a.term

abbrev pub arm_step : Step Arm-F
arm_step a = (word (codes "when") then a.condition) then word (codes "then") then a.result

-- the word before the part is that of the chain
abbrev pub chained_step : Step Chained-F
chained_step c = c.part

abbrev pub multiplied_step : Step Multiplied-F
multiplied_step m = sign (multiply_sign m.operator) then m.factor

abbrev pub from_step : Step From-F
from_step f = f.first then in_a_row f.joins

abbrev pub group_by_step : Step GroupBy-F
group_by_step g = word (codes "group") then word (codes "by") then commas g.keys

abbrev pub having_step : Step Having-F
having_step h = word (codes "having") then h.condition

abbrev pub direction_spelling : Option Direction → Kinds
direction_spelling None = []
direction_spelling (Some way) = word (direction_word way)

abbrev pub order_key_step : Step OrderKey-F
order_key_step o = o.key then direction_spelling o.direction

abbrev pub count_spelling : List ℕ → Option Count → Kinds
count_spelling front None = []
count_spelling front (Some count) = word front then number count.value

abbrev pub select_step : Step Select-F
select_step q =
    ((word (codes "select") then if_written q.distinct (word (codes "distinct")) then commas q.items)
    then (word (codes "from") then commas q.from) then if_some_behind (word (codes "where")) q.filter)
    then (if_some q.groups then if_some q.having)
    then list_behind (word (codes "order") then word (codes "by")) q.order then count_spelling (codes "limit") q.limit then count_spelling (codes "offset") q.offset

-- ---- the spellings of trees

abbrev pub expr_spelling : Expr → Kinds
expr_spelling =
    fold-Expr Kinds Kinds Kinds Kinds Kinds Kinds Kinds Kinds Kinds Kinds Kinds Kinds Kinds Kinds
    expr_step test_step item_step join_step relation_step added_step arm_step chained_step multiplied_step from_step group_by_step having_step order_key_step select_step

abbrev pub test_spelling : Test → Kinds
test_spelling =
    fold-Test Kinds Kinds Kinds Kinds Kinds Kinds Kinds Kinds Kinds Kinds Kinds Kinds Kinds Kinds
    expr_step test_step item_step join_step relation_step added_step arm_step chained_step multiplied_step from_step group_by_step having_step order_key_step select_step

abbrev pub item_spelling : Item → Kinds
item_spelling =
    fold-Item Kinds Kinds Kinds Kinds Kinds Kinds Kinds Kinds Kinds Kinds Kinds Kinds Kinds Kinds
    expr_step test_step item_step join_step relation_step added_step arm_step chained_step multiplied_step from_step group_by_step having_step order_key_step select_step

abbrev pub join_spelling : Join → Kinds
join_spelling =
    fold-Join Kinds Kinds Kinds Kinds Kinds Kinds Kinds Kinds Kinds Kinds Kinds Kinds Kinds Kinds
    expr_step test_step item_step join_step relation_step added_step arm_step chained_step multiplied_step from_step group_by_step having_step order_key_step select_step

abbrev pub relation_spelling : Relation → Kinds
relation_spelling =
    fold-Relation Kinds Kinds Kinds Kinds Kinds Kinds Kinds Kinds Kinds Kinds Kinds Kinds Kinds Kinds
    expr_step test_step item_step join_step relation_step added_step arm_step chained_step multiplied_step from_step group_by_step having_step order_key_step select_step

abbrev pub added_spelling : Added → Kinds
added_spelling =
    fold-Added Kinds Kinds Kinds Kinds Kinds Kinds Kinds Kinds Kinds Kinds Kinds Kinds Kinds Kinds
    expr_step test_step item_step join_step relation_step added_step arm_step chained_step multiplied_step from_step group_by_step having_step order_key_step select_step

abbrev pub arm_spelling : Arm → Kinds
arm_spelling =
    fold-Arm Kinds Kinds Kinds Kinds Kinds Kinds Kinds Kinds Kinds Kinds Kinds Kinds Kinds Kinds
    expr_step test_step item_step join_step relation_step added_step arm_step chained_step multiplied_step from_step group_by_step having_step order_key_step select_step

abbrev pub chained_spelling : Chained → Kinds
chained_spelling =
    fold-Chained Kinds Kinds Kinds Kinds Kinds Kinds Kinds Kinds Kinds Kinds Kinds Kinds Kinds Kinds
    expr_step test_step item_step join_step relation_step added_step arm_step chained_step multiplied_step from_step group_by_step having_step order_key_step select_step

abbrev pub multiplied_spelling : Multiplied → Kinds
multiplied_spelling =
    fold-Multiplied Kinds Kinds Kinds Kinds Kinds Kinds Kinds Kinds Kinds Kinds Kinds Kinds Kinds Kinds
    expr_step test_step item_step join_step relation_step added_step arm_step chained_step multiplied_step from_step group_by_step having_step order_key_step select_step

abbrev pub from_spelling : From → Kinds
from_spelling =
    fold-From Kinds Kinds Kinds Kinds Kinds Kinds Kinds Kinds Kinds Kinds Kinds Kinds Kinds Kinds
    expr_step test_step item_step join_step relation_step added_step arm_step chained_step multiplied_step from_step group_by_step having_step order_key_step select_step

abbrev pub group_by_spelling : GroupBy → Kinds
group_by_spelling =
    fold-GroupBy Kinds Kinds Kinds Kinds Kinds Kinds Kinds Kinds Kinds Kinds Kinds Kinds Kinds Kinds
    expr_step test_step item_step join_step relation_step added_step arm_step chained_step multiplied_step from_step group_by_step having_step order_key_step select_step

abbrev pub having_spelling : Having → Kinds
having_spelling =
    fold-Having Kinds Kinds Kinds Kinds Kinds Kinds Kinds Kinds Kinds Kinds Kinds Kinds Kinds Kinds
    expr_step test_step item_step join_step relation_step added_step arm_step chained_step multiplied_step from_step group_by_step having_step order_key_step select_step

abbrev pub order_key_spelling : OrderKey → Kinds
order_key_spelling =
    fold-OrderKey Kinds Kinds Kinds Kinds Kinds Kinds Kinds Kinds Kinds Kinds Kinds Kinds Kinds Kinds
    expr_step test_step item_step join_step relation_step added_step arm_step chained_step multiplied_step from_step group_by_step having_step order_key_step select_step

abbrev pub select_spelling : Select → Kinds
select_spelling =
    fold-Select Kinds Kinds Kinds Kinds Kinds Kinds Kinds Kinds Kinds Kinds Kinds Kinds Kinds Kinds
    expr_step test_step item_step join_step relation_step added_step arm_step chained_step multiplied_step from_step group_by_step having_step order_key_step select_step

-- ---- statements

-- `( names )`, or nothing where there are none
abbrev pub names_spelling : List Name → Kinds
names_spelling [] = []
names_spelling (name ∷ more) = in_brackets (commas (map named (name ∷ more)))

abbrev pub column_def_spelling : ColumnDef → Kinds
column_def_spelling c = named c.name then word (type_word c.type_name) then if_written c.primary (word (codes "primary") then word (codes "key"))

abbrev pub primary_key_spelling : List Name → Kinds
primary_key_spelling [] = []
primary_key_spelling (name ∷ more) = sign s.Comma then word (codes "primary") then word (codes "key") then names_spelling (name ∷ more)

abbrev pub row_values_spelling : RowValues → Kinds
row_values_spelling r = in_brackets (commas (map expr_spelling r.values))

abbrev pub set_clause_spelling : SetClause → Kinds
set_clause_spelling c = named c.column then sign s.Equal then expr_spelling c.value

abbrev pub filter_spelling : Option Expr → Kinds
filter_spelling None = []
filter_spelling (Some condition) = word (codes "where") then expr_spelling condition

abbrev pub copy_option_spelling : CopyOption → Kinds
copy_option_spelling (copies.FormatCsv at) = word (codes "format") then word (codes "csv")
copy_option_spelling (copies.FormatText at) = word (codes "format") then word (codes "text")
copy_option_spelling (copies.Header at) = word (codes "header")

abbrev pub copy_options_spelling : Bool → List CopyOption → Kinds
copy_options_spelling spelled [] = []
copy_options_spelling spelled (option ∷ more) = if_written spelled (word (codes "with")) then in_brackets (commas (map copy_option_spelling (option ∷ more)))

abbrev pub to_spelling : Bool → Kinds
to_spelling true = word (codes "to")
to_spelling false = sign s.Equal

abbrev pub setting_value_spelling : SettingValue → Kinds
setting_value_spelling (settings.Number value at) = number value
setting_value_spelling (settings.On at) = word (codes "on")
setting_value_spelling (settings.Off at) = word (codes "off")

abbrev pub literal_spelling : Literal → Kinds
literal_spelling (literals.Quoted text at) = quoted text
literal_spelling (literals.Number value at) = number value

abbrev pub argument_name_spelling : Option Name → Kinds
argument_name_spelling None = []
argument_name_spelling (Some name) = named name then sign s.Arrow

abbrev pub argument_spelling : Argument → Kinds
argument_spelling a = argument_name_spelling a.name then literal_spelling a.value

abbrev pub common_table_spelling : CommonTable → Kinds
common_table_spelling t = named t.name then (word (codes "as") then sign s.Open) then select_spelling t.select then sign s.Close

abbrev pub query_spelling : Query → Kinds
query_spelling q = list_behind (word (codes "with")) (map common_table_spelling q.tables) then select_spelling q.select

-- the tokens that a statement is written with
unfoldable pub spelling : Ast → Kinds
spelling (ast.Create name columns key at) =
    word (codes "create") then (word (codes "table") then named name) then in_brackets (commas (map column_def_spelling columns) then primary_key_spelling key)
spelling (ast.Insert table columns rows at) =
    word (codes "insert") then (word (codes "into") then named table) then names_spelling columns then word (codes "values") then commas (map row_values_spelling rows)
spelling (ast.Update table sets filter at) =
    word (codes "update") then named table then (word (codes "set") then commas (map set_clause_spelling sets)) then filter_spelling filter
spelling (ast.Delete table filter at) = word (codes "delete") then (word (codes "from") then named table) then filter_spelling filter
spelling (ast.Copy table columns spelled options at) =
    word (codes "copy") then named table then names_spelling columns then word (codes "from") then word (codes "stdin") then copy_options_spelling spelled options
spelling (ast.Set space name spelled value at) =
    word (codes "set") then named space then (sign s.Dot then named name) then to_spelling spelled then setting_value_spelling value
spelling (ast.Explain query at) = word (codes "explain") then query_spelling query
spelling (ast.Call function arguments at) = word (codes "select") then named function then in_brackets (commas (map argument_spelling arguments))
spelling (ast.Query query) = query_spelling query
