-- Trees without their places: each place is 0.
use Rattle.std.specs.Prelude.{map, Option, Some, None}
use Rattle.cq_grammar.specs.Types.{Name, NullTest, Expr, Test, Chained, roll-Chained, Added, roll-Added, Multiplied, roll-Multiplied, Arm, roll-Arm, Count}
use Rattle.cq_grammar.specs.Types.{Item, Relation, Join, From, roll-From, GroupBy, roll-GroupBy, Having, roll-Having, OrderKey, roll-OrderKey, Select}
use Rattle.cq_grammar.specs.Types.{roll-Select, CommonTable, Query, Ast, ColumnDef, RowValues, SetClause, CopyOption, SettingValue, Literal, Argument, Expr-F}
use Rattle.cq_grammar.specs.Types.{Test-F, Item-F, Join-F, Relation-F, Added-F, Arm-F, Chained-F, Multiplied-F, From-F, GroupBy-F, Having-F, OrderKey-F}
use Rattle.cq_grammar.specs.Types.{Select-F, fold-Expr, fold-Test, fold-Item, fold-Join, fold-Relation, fold-Added, fold-Arm, fold-Chained, fold-Multiplied}
use Rattle.cq_grammar.specs.Types.{fold-From, fold-GroupBy, fold-Having, fold-OrderKey, fold-Select}
use Rattle.cq_grammar.specs.declared.expr.Expr.TheVariants as e
use Rattle.cq_grammar.specs.declared.expr.Test.TheVariants as tests
use Rattle.cq_grammar.specs.declared.query.Item.TheVariants as items
use Rattle.cq_grammar.specs.declared.query.Relation.TheVariants as relations
use Rattle.cq_grammar.specs.declared.query.Join.TheVariants as joins
use Rattle.cq_grammar.specs.declared.statement.Ast.TheVariants as ast
use Rattle.cq_grammar.specs.declared.statement.CopyOption.TheVariants as copies
use Rattle.cq_grammar.specs.declared.statement.SettingValue.TheVariants as settings
use Rattle.cq_grammar.specs.declared.statement.Literal.TheVariants as literals

abbrev pub bare_name : Name → Name
bare_name name = record { text = name.text; at = 0 }

abbrev pub bare_count : Count → Count
bare_count count = record { value = count.value; at = 0 }

abbrev pub bare_null_test : NullTest → NullTest
bare_null_test t = record { negated = t.negated; at = 0 }

-- f of the value, where there is one
abbrev pub if_any : {A B : Type 0} → (A → B) → Option A → Option B
if_any f None = None
if_any f (Some a) = Some (f a)

-- ---- expressions and selects: a node of bare parts

-- a layer of a tree with bare parts in their places
abbrev pub Layer : (Type 0 → Type 0 → Type 0 → Type 0 → Type 0 → Type 0 → Type 0 → Type 0 → Type 0 → Type 0 → Type 0 → Type 0 → Type 0 → Type 0 → Type 0) → Type 0
Layer F = F Expr Test Item Join Relation Added Arm Chained Multiplied From GroupBy Having OrderKey Select

abbrev pub expr_step : Layer Expr-F → Expr
expr_step (Expr-F.Or first rest) = e.Or first rest
expr_step (Expr-F.And first rest) = e.And first rest
expr_step (Expr-F.Not inner at) = e.Not inner 0
expr_step (Expr-F.Is first rest) = e.Is first (map bare_null_test rest)
expr_step (Expr-F.Compare left operator right at) = e.Compare left operator right 0
expr_step (Expr-F.Tested operand negated test at) = e.Tested operand negated test 0
expr_step (Expr-F.Sum first rest) = e.Sum first rest
expr_step (Expr-F.Product first rest) = e.Product first rest
expr_step (Expr-F.Signed operator inner at) = e.Signed operator inner 0
expr_step (Expr-F.Number value at) = e.Number value 0
expr_step (Expr-F.Quoted text at) = e.Quoted text 0
expr_step (Expr-F.Null at) = e.Null 0
expr_step (Expr-F.Column column) = e.Column (bare_name column)
expr_step (Expr-F.ColumnOf relation column) = e.ColumnOf (bare_name relation) (bare_name column)
expr_step (Expr-F.Group inner at) = e.Group inner 0
expr_step (Expr-F.Case arms otherwise at) = e.Case arms otherwise 0
expr_step (Expr-F.Coalesce parts at) = e.Coalesce parts 0
expr_step (Expr-F.CountAll at) = e.CountAll 0
expr_step (Expr-F.Aggregate function argument at) = e.Aggregate function argument 0

abbrev pub test_step : Layer Test-F → Test
test_step (Test-F.InSelect select) = tests.InSelect select
test_step (Test-F.InList parts) = tests.InList parts
test_step (Test-F.Between low high) = tests.Between low high

abbrev pub item_step : Layer Item-F → Item
item_step (Item-F.All at) = items.All 0
item_step (Item-F.AllOf relation) = items.AllOf (bare_name relation)
item_step (Item-F.Value value name) = items.Value value (if_any bare_name name)

abbrev pub join_step : Layer Join-F → Join
join_step (Join-F.Inner spelled relation on at) = joins.Inner spelled relation on 0
join_step (Join-F.Left spelled relation on at) = joins.Left spelled relation on 0
join_step (Join-F.Cross relation at) = joins.Cross relation 0

abbrev pub relation_step : Layer Relation-F → Relation
relation_step (Relation-F.Table name) = relations.Table (bare_name name)
relation_step (Relation-F.TableAs name spelled alias) = relations.TableAs (bare_name name) spelled (bare_name alias)
relation_step (Relation-F.Subquery select spelled alias at) = relations.Subquery select spelled (bare_name alias) 0

abbrev pub added_step : Layer Added-F → Added
added_step a = roll-Added (record { operator = a.operator; term = a.term; at = 0 })

abbrev pub arm_step : Layer Arm-F → Arm
arm_step a = roll-Arm (record { condition = a.condition; result = a.result })

abbrev pub chained_step : Layer Chained-F → Chained
chained_step c = roll-Chained (record { part = c.part; at = 0 })

abbrev pub multiplied_step : Layer Multiplied-F → Multiplied
multiplied_step m = roll-Multiplied (record { operator = m.operator; factor = m.factor; at = 0 })

abbrev pub from_step : Layer From-F → From
from_step f = roll-From (record { first = f.first; joins = f.joins })

abbrev pub group_by_step : Layer GroupBy-F → GroupBy
group_by_step g = roll-GroupBy (record { keys = g.keys; at = 0 })

abbrev pub having_step : Layer Having-F → Having
having_step h = roll-Having (record { condition = h.condition; at = 0 })

abbrev pub order_key_step : Layer OrderKey-F → OrderKey
order_key_step o = roll-OrderKey (record { key = o.key; direction = o.direction })

abbrev pub select_step : Layer Select-F → Select
select_step q = roll-Select (record {
  distinct = q.distinct;
  items = q.items;
  from = q.from;
  filter = q.filter;
  groups = q.groups;
  having = q.having;
  order = q.order;
  limit = if_any bare_count q.limit;
  offset = if_any bare_count q.offset;
  at = 0;
})

-- ---- trees

abbrev pub bare_expr : Expr → Expr
bare_expr =
    fold-Expr Expr Test Item Join Relation Added Arm Chained Multiplied From GroupBy Having OrderKey Select
    expr_step test_step item_step join_step relation_step added_step arm_step chained_step multiplied_step from_step group_by_step having_step order_key_step select_step

abbrev pub bare_test : Test → Test
bare_test =
    fold-Test Expr Test Item Join Relation Added Arm Chained Multiplied From GroupBy Having OrderKey Select
    expr_step test_step item_step join_step relation_step added_step arm_step chained_step multiplied_step from_step group_by_step having_step order_key_step select_step

abbrev pub bare_item : Item → Item
bare_item =
    fold-Item Expr Test Item Join Relation Added Arm Chained Multiplied From GroupBy Having OrderKey Select
    expr_step test_step item_step join_step relation_step added_step arm_step chained_step multiplied_step from_step group_by_step having_step order_key_step select_step

abbrev pub bare_join : Join → Join
bare_join =
    fold-Join Expr Test Item Join Relation Added Arm Chained Multiplied From GroupBy Having OrderKey Select
    expr_step test_step item_step join_step relation_step added_step arm_step chained_step multiplied_step from_step group_by_step having_step order_key_step select_step

abbrev pub bare_relation : Relation → Relation
bare_relation =
    fold-Relation Expr Test Item Join Relation Added Arm Chained Multiplied From GroupBy Having OrderKey Select
    expr_step test_step item_step join_step relation_step added_step arm_step chained_step multiplied_step from_step group_by_step having_step order_key_step select_step

abbrev pub bare_added : Added → Added
bare_added =
    fold-Added Expr Test Item Join Relation Added Arm Chained Multiplied From GroupBy Having OrderKey Select
    expr_step test_step item_step join_step relation_step added_step arm_step chained_step multiplied_step from_step group_by_step having_step order_key_step select_step

abbrev pub bare_arm : Arm → Arm
bare_arm =
    fold-Arm Expr Test Item Join Relation Added Arm Chained Multiplied From GroupBy Having OrderKey Select
    expr_step test_step item_step join_step relation_step added_step arm_step chained_step multiplied_step from_step group_by_step having_step order_key_step select_step

abbrev pub bare_chained : Chained → Chained
bare_chained =
    fold-Chained Expr Test Item Join Relation Added Arm Chained Multiplied From GroupBy Having OrderKey Select
    expr_step test_step item_step join_step relation_step added_step arm_step chained_step multiplied_step from_step group_by_step having_step order_key_step select_step

abbrev pub bare_multiplied : Multiplied → Multiplied
bare_multiplied =
    fold-Multiplied Expr Test Item Join Relation Added Arm Chained Multiplied From GroupBy Having OrderKey Select
    expr_step test_step item_step join_step relation_step added_step arm_step chained_step multiplied_step from_step group_by_step having_step order_key_step select_step

abbrev pub bare_from : From → From
bare_from =
    fold-From Expr Test Item Join Relation Added Arm Chained Multiplied From GroupBy Having OrderKey Select
    expr_step test_step item_step join_step relation_step added_step arm_step chained_step multiplied_step from_step group_by_step having_step order_key_step select_step

abbrev pub bare_group_by : GroupBy → GroupBy
bare_group_by =
    fold-GroupBy Expr Test Item Join Relation Added Arm Chained Multiplied From GroupBy Having OrderKey Select
    expr_step test_step item_step join_step relation_step added_step arm_step chained_step multiplied_step from_step group_by_step having_step order_key_step select_step

abbrev pub bare_having : Having → Having
bare_having =
    fold-Having Expr Test Item Join Relation Added Arm Chained Multiplied From GroupBy Having OrderKey Select
    expr_step test_step item_step join_step relation_step added_step arm_step chained_step multiplied_step from_step group_by_step having_step order_key_step select_step

abbrev pub bare_order_key : OrderKey → OrderKey
bare_order_key =
    fold-OrderKey Expr Test Item Join Relation Added Arm Chained Multiplied From GroupBy Having OrderKey Select
    expr_step test_step item_step join_step relation_step added_step arm_step chained_step multiplied_step from_step group_by_step having_step order_key_step select_step

abbrev pub bare_select : Select → Select
bare_select =
    fold-Select Expr Test Item Join Relation Added Arm Chained Multiplied From GroupBy Having OrderKey Select
    expr_step test_step item_step join_step relation_step added_step arm_step chained_step multiplied_step from_step group_by_step having_step order_key_step select_step

-- ---- statements

abbrev pub bare_column_def : ColumnDef → ColumnDef
bare_column_def c = record { name = bare_name c.name; type_name = c.type_name; primary = c.primary }

abbrev pub bare_row_values : RowValues → RowValues
bare_row_values r = record { values = map bare_expr r.values; at = 0 }

abbrev pub bare_set_clause : SetClause → SetClause
bare_set_clause c = record { column = bare_name c.column; value = bare_expr c.value }

abbrev pub bare_copy_option : CopyOption → CopyOption
bare_copy_option (copies.FormatCsv at) = copies.FormatCsv 0
bare_copy_option (copies.FormatText at) = copies.FormatText 0
bare_copy_option (copies.Header at) = copies.Header 0

abbrev pub bare_setting_value : SettingValue → SettingValue
bare_setting_value (settings.Number value at) = settings.Number value 0
bare_setting_value (settings.On at) = settings.On 0
bare_setting_value (settings.Off at) = settings.Off 0

abbrev pub bare_literal : Literal → Literal
bare_literal (literals.Quoted text at) = literals.Quoted text 0
bare_literal (literals.Number value at) = literals.Number value 0

abbrev pub bare_argument : Argument → Argument
bare_argument a = record { name = if_any bare_name a.name; value = bare_literal a.value }

abbrev pub bare_common_table : CommonTable → CommonTable
bare_common_table t = record { name = bare_name t.name; select = bare_select t.select }

abbrev pub bare_query : Query → Query
bare_query q = record { tables = map bare_common_table q.tables; select = bare_select q.select }

-- the statement with each place set to 0
unfoldable pub bare : Ast → Ast
bare (ast.Create name columns key at) = ast.Create (bare_name name) (map bare_column_def columns) (map bare_name key) 0
bare (ast.Insert table columns rows at) = ast.Insert (bare_name table) (map bare_name columns) (map bare_row_values rows) 0
bare (ast.Update table sets filter at) = ast.Update (bare_name table) (map bare_set_clause sets) (if_any bare_expr filter) 0
bare (ast.Delete table filter at) = ast.Delete (bare_name table) (if_any bare_expr filter) 0
bare (ast.Copy table columns spelled options at) = ast.Copy (bare_name table) (map bare_name columns) spelled (map bare_copy_option options) 0
bare (ast.Set space name spelled value at) = ast.Set (bare_name space) (bare_name name) spelled (bare_setting_value value) 0
bare (ast.Explain query at) = ast.Explain (bare_query query) 0
bare (ast.Call function arguments at) = ast.Call (bare_name function) (map bare_argument arguments) 0
bare (ast.Query query) = ast.Query (bare_query query)
