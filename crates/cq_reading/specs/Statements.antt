-- What a statement is read as over the tables that there are.
use Rattle.std.specs.Prelude.{ℕ, zero, suc, pos, ◌+◌, ◌^◌, Bool, true, false, ◌&&◌, ◌||◌, not, if◌then◌else◌, List, [], ◌∷◌, ◌++◌, filter, map, length, position, replicate, slice_set, slice_get, bytes_eq, codes, nat_eq, nat_le, nat_lt, min, Option, None, Some, Result, Ok, Err}
use Rattle.std.specs.List.{list_any}
use Rattle.cq_value.specs.declared.value.Value.{Value}
use Rattle.cq_value.specs.declared.value.Value.TheVariants as value
use Rattle.cq_value.specs.declared.schema.Kind.{Kind}
use Rattle.cq_value.specs.declared.schema.Kind.TheVariants as kind
use Rattle.cq_value.specs.declared.schema.Column as schema
use Rattle.cq_value.specs.declared.schema.With.{With}
use Rattle.cq_value.specs.declared.schema.With.TheVariants as with
use Rattle.cq_catalog.specs.declared.info.TableInfo.{TableInfo}
use Rattle.cq_catalog.specs.declared.info.Place as info
use Rattle.cq_catalog.specs.declared.info.Place.TheVariants as place
use Rattle.cq_catalog.specs.Contents.{number_of, is_local}
use Rattle.cq_tree.specs.declared.expression.Cond.{Cond, Always}
use Rattle.cq_tree.specs.declared.expression.Expr.{Expr}
use Rattle.cq_tree.specs.declared.query.Query as tree
use Rattle.cq_tree.specs.declared.query.Query.{roll-Query, out-Query}
use Rattle.cq_tree.specs.declared.write.Set.{Set}
use Rattle.cq_tree.specs.declared.write.ShardOp.{ShardOp}
use Rattle.cq_tree.specs.declared.write.ShardOp.TheVariants.{Insert, Update, Remove}
use Rattle.cq_tree.specs.declared.statement.Statement.{Statement}
use Rattle.cq_tree.specs.declared.statement.Statement.TheVariants as statement
use Rattle.cq_grammar.specs.declared.name.Name.{Name}
use Rattle.cq_grammar.specs.declared.query.CommonTable.{CommonTable}
use Rattle.cq_grammar.specs.declared.statement.Ast.{Ast}
use Rattle.cq_grammar.specs.declared.statement.TypeName.{TypeName}
use Rattle.cq_grammar.specs.declared.statement.ColumnDef.{ColumnDef}
use Rattle.cq_grammar.specs.declared.statement.RowValues.{RowValues}
use Rattle.cq_grammar.specs.declared.statement.SetClause.{SetClause}
use Rattle.cq_grammar.specs.declared.statement.CopyOption.{CopyOption}
use Rattle.cq_grammar.specs.declared.statement.SettingValue.{SettingValue}
use Rattle.cq_grammar.specs.declared.statement.Literal.{Literal}
use Rattle.cq_grammar.specs.declared.statement.Argument.{Argument}
use Rattle.cq_grammar.specs.declared.expr.Expr as grammar
use Rattle.cq_grammar.specs.declared.query.Query as written
use Rattle.cq_grammar.specs.declared.statement.Ast.TheVariants as ast
use Rattle.cq_grammar.specs.declared.statement.TypeName.TheVariants as type
use Rattle.cq_grammar.specs.declared.statement.CopyOption.TheVariants as options
use Rattle.cq_grammar.specs.declared.statement.SettingValue.TheVariants as settings
use Rattle.cq_grammar.specs.declared.statement.Literal.TheVariants as literals
use Rattle.cq_meaning.specs.Effects.{in_bits}
use Rattle.cq_meaning.specs.Expressions.{value_of}
use Rattle.cq_reading.specs.Types.{Found, Source, Common, Bound, Options, Block, BindError}
use Rattle.cq_reading.specs.declared.error.BindError.TheVariants as error
use Rattle.cq_reading.specs.declared.error.Limited.TheVariants as limited
use Rattle.cq_reading.specs.Steps.{Reading, give, refuse, ◌then◌, provided, through}
use Rattle.cq_reading.specs.Widths.{kind_type, expr_of, is_some, common_with}
use Rattle.cq_reading.specs.Scopes.{World, Context, table_sources}
use Rattle.cq_reading.specs.Relations.{condition_of}
use Rattle.cq_reading.specs.Expressions.{reads}
use Rattle.cq_reading.specs.Selects as select
use Rattle.cq_reading.specs.Walk.{part_of, select_of}

-- ---- queries

abbrev pub is_common : List ℕ → List Common → Bool
is_common name commons = list_any (λ c. bytes_eq c.name name) commons

abbrev pub common_of_block : List ℕ → Block → Common
common_of_block name b = record { name = name; outputs = b.outputs; joined = b.joined }

abbrev pub among : List TableInfo → List Common → World
among tables commons = record { tables = tables; commons = commons }

-- CTEs, and their queries
abbrev pub Ctes : Type 0
Ctes = List Common × List tree.Query

abbrev pub one_more_cte : Ctes → List ℕ → Block → Ctes
one_more_cte p name b = (p.0 ++ common_of_block name b ∷ [], p.1 ++ b.query ∷ [])

-- each CTE sees those before it
abbrev pub with_cte : List TableInfo → Ctes → CommonTable → Reading Ctes
with_cte tables p c =
    provided (not (is_common c.name.text p.0)) (error.NameTaken c.name.text)
    (select_of c.select (among tables p.0) then (λ b. give (one_more_cte p c.name.text b)))

abbrev pub with_ctes : tree.Query → List tree.Query → tree.Query
with_ctes q ctes = roll-Query (record (out-Query q) { ctes = ctes })

abbrev pub query_of : List TableInfo → written.Query → Reading tree.Query
query_of tables q =
    through (with_cte tables) q.tables ([], []) then (λ p. select_of q.select (among tables p.0) then (λ b. give (with_ctes b.query p.1)))

abbrev pub selection : List TableInfo → written.Query → Reading Statement
selection tables q = query_of tables q then (λ bound. give (statement.Select bound))

abbrev pub explanation : List TableInfo → written.Query → Reading Statement
explanation tables q = query_of tables q then (λ bound. give (statement.Explain bound))

-- ---- the table of a write

abbrev pub Target : Type 0
Target = ℕ × TableInfo

abbrev pub target_in : Name → ℕ → Option TableInfo → Reading Target
target_in name i None = refuse (error.UnknownTable name.text)
target_in name i (Some t) = provided (not (is_local t.place)) (error.LocalTable name.at) (give (i, t))

abbrev pub target_at : List TableInfo → Name → Option ℕ → Reading Target
target_at tables name None = refuse (error.UnknownTable name.text)
target_at tables name (Some i) = target_in name i (slice_get tables i)

abbrev pub target_of : List TableInfo → Name → Reading Target
target_of tables name = target_at tables name (number_of tables name.text)

-- what an expression of a write stands in: the columns of its table
abbrev pub write_context : World → List Source → Context
write_context w columns = record {
  world = w;
  first = 0;
  columns = columns;
  grouped = false;
  keys = [];
  joined = false;
  may_aggregate = false;
  may_select = false;
}

-- a column of the table, which isn't among these
abbrev pub column_in : List ℕ → Name → Option ℕ → Reading ℕ
column_in before name None = refuse (error.UnknownColumn name.text)
column_in before name (Some i) = provided (not (list_any (nat_eq i) before)) (error.Ambiguous name.at) (give i)

abbrev pub column_of : List schema.Column → List ℕ → Name → Reading ℕ
column_of columns before name = column_in before name (position (λ (c : schema.Column). bytes_eq c.name name.text) columns)

-- columns that are named once each
abbrev pub with_column : List schema.Column → List ℕ → Name → Reading (List ℕ)
with_column columns before name = column_of columns before name then (λ i. give (before ++ i ∷ []))

abbrev pub columns_from : List schema.Column → List Name → Reading (List ℕ)
columns_from columns names = through (with_column columns) names []

-- 0, 1 and so on
abbrev pub count_from : ℕ → ℕ → List ℕ
count_from i zero = []
count_from i (suc n) = i ∷ count_from (i + 1) n

-- the columns that are listed, and all in order where none are
abbrev pub columns_of : List schema.Column → List Name → Reading (List ℕ)
columns_of columns [] = give (count_from 0 (length columns))
columns_of columns (name ∷ more) = columns_from columns (name ∷ more)

-- ---- INSERT

abbrev pub is_of_kind : Kind → Value → Bool
is_of_kind kind.Bigint (value.Int x) = in_bits 63 x
is_of_kind kind.Integer (value.Int x) = in_bits 31 x
is_of_kind kind.Text (value.Text t) = true
is_of_kind k value.Null = true
is_of_kind _ _ = false

abbrev pub is_null : Value → Bool
is_null value.Null = true
is_null _ = false

abbrev pub is_distribution : info.Place → ℕ → Bool
is_distribution (place.Distributed column colocation first_shard) i = nat_eq column i
is_distribution _ i = false

-- a column of the primary key that isn't the distribution column
abbrev pub is_key_column : TableInfo → ℕ → Bool
is_key_column t i = list_any (nat_eq i) t.key && not (is_distribution t.place i)

abbrev pub kind_at : TableInfo → ℕ → Kind
kind_at t i = kind_in (slice_get t.columns i)
  where
    kind_in : Option schema.Column → Kind
    kind_in None = kind.Text
    kind_in (Some c) = c.kind

abbrev pub may_store : TableInfo → ℕ → Value → Bool
may_store t i v = is_of_kind (kind_at t i) v && not (is_null v && is_key_column t i)

-- the value of the column i in the row of this number
abbrev pub stored : TableInfo → ℕ → ℕ → Value → Reading Value
stored t row i v = provided (may_store t i v) (error.Value row (i + 1)) (give v)

abbrev pub computed : Context → grammar.Expr → Reading Value
computed cx e = select.value_of (part_of e).at (reads (part_of e) cx) then (λ b. give (value_of (expr_of b) [] []))

-- a value for the column in its place among those that are listed
abbrev pub value_for : Context → TableInfo → ℕ → List Value → grammar.Expr → Option ℕ → Reading (List Value)
value_for cx t row before e None = give before
value_for cx t row before e (Some i) = computed cx e then (λ v. stored t row i v then (λ w. give (before ++ w ∷ [])))

abbrev pub with_value : Context → TableInfo → ℕ → List ℕ → List Value → grammar.Expr → Reading (List Value)
with_value cx t row columns before e = value_for cx t row before e (slice_get columns (length before))

-- a row of NULLs with these values in these columns
abbrev pub put_values : List Value → List ℕ → List Value → List Value
put_values row (i ∷ is) (v ∷ vs) = put_values (slice_set row i v) is vs
put_values row _ _ = row

-- columns of the table that aren't listed are NULL, which columns of the key may not be
abbrev pub with_unlisted : TableInfo → ℕ → List ℕ → ℕ → Reading (List ℕ)
with_unlisted t row listed i = provided (list_any (nat_eq i) listed || not (is_key_column t i)) (error.Value row (i + 1)) (give listed)

abbrev pub unlisted : TableInfo → ℕ → List ℕ → Reading (List ℕ)
unlisted t row = through (with_unlisted t row) (count_from 0 (length t.columns))

abbrev pub row_of : Context → TableInfo → List ℕ → ℕ → RowValues → Reading (List Value)
row_of cx t columns row values =
    provided (nat_eq (length values.values) (length columns)) (error.WrongCount values.at)
    (through (with_value cx t row columns) values.values [] then (λ vs.
    unlisted t row columns then (λ is.
    give (put_values (replicate (length t.columns) value.Null) columns vs))))

-- rows count from 1
abbrev pub with_row : Context → TableInfo → List ℕ → List (List Value) → RowValues → Reading (List (List Value))
with_row cx t columns before r = row_of cx t columns (length before + 1) r then (λ vs. give (before ++ vs ∷ []))

abbrev pub insertion : List TableInfo → Name → List Name → List RowValues → Reading Statement
insertion tables table columns rows =
    target_of tables table then (λ p. columns_of p.1.columns columns then (λ is.
    through (with_row (write_context (among tables []) []) p.1 is) rows [] then (λ values. give (statement.Write (Insert p.0 values)))))

-- ---- UPDATE and DELETE

-- a value that a column of this type can take, but for its range
abbrev pub fits_column : Kind → Bound → Bool
fits_column k b = is_some (common_with (Some (kind_type k)) b)

-- the column that is set, which isn't among those before
abbrev pub set_column : TableInfo → List Set → Name → Reading ℕ
set_column t before name =
    column_of t.columns (map (λ (b : Set). b.column) before) name then (λ i. provided (not (is_key_column t i)) (error.KeyColumn name.at) (give i))

abbrev pub set_value : Context → Kind → grammar.Expr → Reading Expr
set_value cx k e = reads (part_of e) cx then (λ b. provided (fits_column k b) (error.Type (part_of e).at) (give (expr_of b)))

abbrev pub with_set : Context → TableInfo → List Set → SetClause → Reading (List Set)
with_set cx t before s =
    set_column t before s.column then (λ i. set_value cx (kind_at t i) s.value then (λ e. give (before ++ (record { column = i; value = e }) ∷ [])))

abbrev pub filter_in : Context → Option grammar.Expr → Reading Cond
filter_in cx None = give Always
filter_in cx (Some e) = condition_of (part_of e) cx

-- of the table with this number
abbrev pub update_of : World → ℕ → TableInfo → List SetClause → Option grammar.Expr → Reading ShardOp
update_of w i t sets filter =
    let cx = write_context w (table_sources t.name t) in
    through (with_set cx t) sets [] then (λ bound. filter_in cx filter then (λ c. give (Update i c bound)))

abbrev pub update : List TableInfo → Name → List SetClause → Option grammar.Expr → Reading Statement
update tables table sets filter = target_of tables table then (λ p. update_of (among tables []) p.0 p.1 sets filter then (λ op. give (statement.Write op)))

abbrev pub deletion_of : World → ℕ → TableInfo → Option grammar.Expr → Reading ShardOp
deletion_of w i t filter = filter_in (write_context w (table_sources t.name t)) filter then (λ c. give (Remove i c))

abbrev pub deletion : List TableInfo → Name → Option grammar.Expr → Reading Statement
deletion tables table filter = target_of tables table then (λ p. deletion_of (among tables []) p.0 p.1 filter then (λ op. give (statement.Write op)))

-- ---- COPY

abbrev pub is_csv : CopyOption → Bool
is_csv (options.FormatCsv at) = true
is_csv _ = false

abbrev pub is_header : CopyOption → Bool
is_header (options.Header at) = true
is_header _ = false

abbrev pub copying : List TableInfo → Name → List Name → List CopyOption → Reading Statement
copying tables table columns opts =
    target_of tables table then (λ p. columns_of p.1.columns columns then (λ is. give (statement.Copy p.0 is (list_any is_csv opts) (list_any is_header opts))))

-- ---- CREATE TABLE

abbrev pub kind_named : TypeName → Kind
kind_named type.Bigint = kind.Bigint
kind_named type.Integer = kind.Integer
kind_named type.Int = kind.Integer
kind_named type.Text = kind.Text

abbrev pub created_column : ColumnDef → schema.Column
created_column c = record { name = c.name.text; kind = kind_named c.type_name }

abbrev pub has_column : List schema.Column → List ℕ → Bool
has_column columns name = list_any (λ (c : schema.Column). bytes_eq c.name name) columns

-- at most 64 columns, each of a name of its own
abbrev pub with_created : List schema.Column → ColumnDef → Reading (List schema.Column)
with_created before c =
    provided (nat_lt (length before) 64) (error.Limit limited.Columns 64)
    (provided (not (has_column before c.name.text)) (error.NameTaken c.name.text) (give (before ++ created_column c ∷ [])))

-- the columns behind which PRIMARY KEY stands
abbrev pub primary_from : ℕ → List ColumnDef → List ℕ
primary_from i [] = []
primary_from i (c ∷ more) = if c.primary then i ∷ primary_from (i + 1) more else primary_from (i + 1) more

abbrev pub key_of : List schema.Column → List ColumnDef → List Name → Reading (List ℕ)
key_of columns defs names = columns_from columns names then (λ is. give (primary_from 0 defs ++ is))

abbrev pub creation : List TableInfo → Name → List ColumnDef → List Name → Reading Statement
creation tables name defs key =
    provided (not (is_some (number_of tables name.text))) (error.NameTaken name.text)
    (through with_created defs [] then (λ columns. key_of columns defs key then (λ places.
    provided (nat_lt (length tables) 64) (error.Limit limited.Tables 64) (give (statement.CreateTable name.text columns places)))))

-- ---- SET

abbrev pub place_of_setting : SettingValue → ℕ
place_of_setting (settings.Number n at) = at
place_of_setting (settings.On at) = at
place_of_setting (settings.Off at) = at

-- a setting that takes numbers from 1 to this one
abbrev pub number_setting : ℕ → ℕ → SettingValue → Reading Statement
number_setting which greatest (settings.Number n at) =
    provided (nat_le 1 n && nat_le n greatest) (error.OutOfRange (pos n) (pos 1) (pos greatest)) (give (statement.Setting which n))
number_setting which greatest (settings.On at) = refuse (error.Type at)
number_setting which greatest (settings.Off at) = refuse (error.Type at)

abbrev pub switch_setting : ℕ → SettingValue → Reading Statement
switch_setting which (settings.Number n at) = refuse (error.Type at)
switch_setting which (settings.On at) = give (statement.Setting which 1)
switch_setting which (settings.Off at) = give (statement.Setting which 0)

abbrev pub setting : Name → Name → SettingValue → Reading Statement
setting space name v =
    if not (bytes_eq space.text (codes "citus")) then refuse (error.Unknown space.at)
    else (if bytes_eq name.text (codes "enable_repartition_joins") then switch_setting 0 v
    else (if bytes_eq name.text (codes "shard_count") then number_setting 1 128 v
    else (if bytes_eq name.text (codes "max_adaptive_executor_pool_size") then number_setting 2 64 v
    else refuse (error.Unknown space.at))))

-- ---- calls. Their arguments have the number and the forms that the grammar wants

abbrev pub text_of : Literal → List ℕ
text_of (literals.Quoted content at) = content
text_of (literals.Number n at) = []

abbrev pub number_in : Literal → ℕ
number_in (literals.Quoted content at) = 0
number_in (literals.Number n at) = n

abbrev pub place_of_literal : Literal → ℕ
place_of_literal (literals.Quoted content at) = at
place_of_literal (literals.Number n at) = at

abbrev pub argument_at : List Argument → ℕ → Literal
argument_at arguments i = literal_in (slice_get arguments i)
  where
    literal_in : Option Argument → Literal
    literal_in None = literals.Number 0 0
    literal_in (Some a) = a.value

abbrev pub with_of : List ℕ → With
with_of text = if bytes_eq text (codes "none") then with.Alone else (if bytes_eq text (codes "default") then with.Default else with.Table text)

-- An argument with a name: `option`, the call's own, takes the name and the value or refuses them. One without a name adds nothing
abbrev pub with_argument : {S : Type 0} → (S → Name → Literal → Reading S) → S → Argument → Reading S
with_argument option s a = option_by option s a.name a.value
  where
    option_by : {S : Type 0} → (S → Name → Literal → Reading S) → S → Option Name → Literal → Reading S
    option_by option s None v = give s
    option_by option s (Some name) v = option s name v

-- the arguments of a call from left to right
abbrev pub with_arguments : {S : Type 0} → (S → Name → Literal → Reading S) → List Argument → S → Reading S
with_arguments option arguments s = through (with_argument option) arguments s

-- the option of a call that knows no name
abbrev pub no_option : Unit {0} → Name → Literal → Reading (Unit {0})
no_option u name v = refuse (error.Unknown name.at)

abbrev pub distribution_option : Options → Name → Literal → Reading Options
distribution_option o name v =
    if bytes_eq name.text (codes "shard_count")
    then provided (nat_lt (number_in v) (2 ^ 32)) (error.OutOfRange (pos (number_in v)) (pos 1) (pos 128)) (give (record { count = Some (number_in v); with = o.with }))
    else (if bytes_eq name.text (codes "colocate_with") then give (record { count = o.count; with = with_of (text_of v) }) else refuse (error.Unknown name.at))

abbrev pub distribution : List Argument → Reading Statement
distribution arguments =
    with_arguments distribution_option arguments (record { count = None; with = with.Default }) then (λ o.
    give (statement.Distribute (text_of (argument_at arguments 0)) (text_of (argument_at arguments 1)) o.count o.with))

abbrev pub reference : List Argument → Reading Statement
reference arguments = with_arguments no_option arguments tt then (λ u. give (statement.Reference (text_of (argument_at arguments 0))))

abbrev pub small_number : Literal → Reading ℕ
small_number v = provided (nat_lt (number_in v) (2 ^ 32)) (error.OutOfRange (pos (number_in v)) (pos 0) (pos 4294967295)) (give (number_in v))

abbrev pub moving : List Argument → Reading Statement
moving arguments =
    small_number (argument_at arguments 1) then (λ from. small_number (argument_at arguments 2) then (λ to.
    with_arguments no_option arguments tt then (λ u. give (statement.Move (number_in (argument_at arguments 0)) from to))))

-- the strategy: by the number of shards, or by the size of their rows
abbrev pub strategy_of : Literal → Reading Bool
strategy_of v =
    if bytes_eq (text_of v) (codes "by_disk_size") then give true
    else (if bytes_eq (text_of v) (codes "by_shard_count") then give false else refuse (error.Unknown (place_of_literal v)))

abbrev pub rebalance_option : Bool → Name → Literal → Reading Bool
rebalance_option by_size name v = if bytes_eq name.text (codes "rebalance_strategy") then strategy_of v else refuse (error.Unknown name.at)

abbrev pub call : Name → List Argument → Reading Statement
call function arguments =
    if bytes_eq function.text (codes "create_distributed_table") then distribution arguments
    else (if bytes_eq function.text (codes "create_reference_table") then reference arguments
    else (if bytes_eq function.text (codes "citus_move_shard_placement") then moving arguments
    else (if bytes_eq function.text (codes "rebalance_table_shards") then (with_arguments rebalance_option arguments false then (λ b. give (statement.Rebalance b)))
    else (with_arguments rebalance_option arguments false then (λ b. give (statement.RebalancePlan b))))))

-- ---- the whole

abbrev pub statement_of : List TableInfo → Ast → Reading Statement
statement_of tables (ast.Create name columns key at) = creation tables name columns key
statement_of tables (ast.Insert table columns rows at) = insertion tables table columns rows
statement_of tables (ast.Update table sets filter at) = update tables table sets filter
statement_of tables (ast.Delete table filter at) = deletion tables table filter
statement_of tables (ast.Copy table columns spelled opts at) = copying tables table columns opts
statement_of tables (ast.Set space name spelled v at) = setting space name v
statement_of tables (ast.Explain q at) = explanation tables q
statement_of tables (ast.Call function arguments at) = call function arguments
statement_of tables (ast.Query q) = selection tables q

-- how many CTEs there are; the results of IN subqueries are numbered behind them. A statement of more than 64 is refused in any case
abbrev pub ctes_in : Ast → ℕ
ctes_in (ast.Explain q at) = min (length q.tables) 64
ctes_in (ast.Query q) = min (length q.tables) 64
ctes_in _ = 0

abbrev pub outcome : {A : Type 0} → Result (A × Found) BindError → Result A BindError
outcome (Ok p) = Ok p.0
outcome (Err e) = Err e

-- the bound statement, or the first refusal of the walk
abbrev pub reading : List TableInfo → Ast → Result Statement BindError
reading tables a = outcome (statement_of tables a (record { results = ctes_in a; blocks = 0; subs = []; aggs = [] }))
