-- What the binder reads is well typed.
use Rattle.std.specs.Prelude.{◌≡◌, ℕ, ◌++◌, true, false, List, slice_get, Option, Some, Ok, [], length}
use Rattle.std.specs.List.{AllByRecursion}
use Rattle.cq_catalog.specs.declared.info.TableInfo.{TableInfo}
use Rattle.cq_grammar.specs.declared.name.Name.{Name}
use Rattle.cq_grammar.specs.declared.expr.Expr.{Expr}
use Rattle.cq_grammar.specs.declared.query.Select.{Select}
use Rattle.cq_grammar.specs.declared.query.Query as written
use Rattle.cq_grammar.specs.declared.statement.SetClause.{SetClause}
use Rattle.cq_grammar.specs.declared.statement.Ast.TheVariants as ast
use Rattle.cq_tree.specs.declared.query.Query.{Query, out-Query}
use Rattle.cq_tree.specs.declared.write.ShardOp.{ShardOp}
use Rattle.cq_tree.specs.declared.statement.Statement.TheVariants as statement
use Rattle.cq_meaning_laws.specs.WholeRules.{Step, steps_in}
use Rattle.cq_reading.specs.declared.bound.Found.{Found}
use Rattle.cq_reading.specs.declared.bound.Block.{Block}
use Rattle.cq_reading.specs.declared.bound.Bound.{Bound}
use Rattle.cq_reading.specs.Widths.{ValueType}
use Rattle.cq_reading.specs.Scopes.{World, Context}
use Rattle.cq_reading.specs.Expressions.{reads}
use Rattle.cq_reading.specs.Walk.{part_of, select_of}
use Rattle.cq_reading.specs.Statements.{query_of, reading}
use Rattle.cq_reading_laws.specs.Bounds.{MayStand}
use Rattle.cq_reading_laws.specs.Written.{written_expr, written_select}
use Rattle.cq_reading_laws.specs.QueryLaws.{written_tables}
use Rattle.cq_reading_laws.specs.WriteLaws.{table_of, written_filter, written_sets}
use Rattle.cq_reading_laws.specs.TypedQueries.{Types, over, table_types, result_types, output_types, results_in, results_of, results_in_all, HaveResults, IsTypedQuery, IsTypedWrite}
use Rattle.cq_reading_laws.specs.Reach.{IsOfType, HaveKinds, types_in, TablesTyped, WorldTyped, FoundTyped, Onward, BlockTyped}

-- an expression that is read without grouping is of the type that is said of it, over the columns in reach and the results of the IN
-- subqueries found by then; and so are these subqueries
abbrev pub ExpressionsTyped : Type 0
ExpressionsTyped = (cs : Types) (base : ℕ) (ts : List ValueType) (cx : Context) (x : Expr) (found new : Found) (b : Bound) →
    written_expr x ≡ true → WorldTyped cs cx.world → HaveKinds ts cx → cx.grouped ≡ false → cx.may_aggregate ≡ false → FoundTyped cs base ts found → reads (part_of x) cx found ≡ Ok (b, new) →
    FoundTyped cs base ts new × (HaveResults cs base (results_of cs new.subs) → IsOfType ts cs.results b)

-- in a query that groups, over its keys and its aggregates, whatever is found later; and so are the aggregates
abbrev pub GroupedTyped : Type 0
GroupedTyped = (cs : Types) (base : ℕ) (ts : List ValueType) (cx : Context) (x : Expr) (found new : Found) (b : Bound) →
    written_expr x ≡ true → WorldTyped cs cx.world → HaveKinds ts cx → MayStand cx (part_of x).aggregates → FoundTyped cs base ts found → reads (part_of x) cx found ≡ Ok (b, new) →
    FoundTyped cs base ts new × ((later : Found) → Onward new later → HaveResults cs base (results_of cs later.subs) → IsOfType (types_in ts cx later.aggs) cs.results b)

-- a SELECT that is read is well typed, and its outputs have the types that are said of them
abbrev pub SelectsTyped : Type 0
SelectsTyped = (cs : Types) (w : World) (x : Select) (found new : Found) (block : Block) → written_select x ≡ true → WorldTyped cs w → select_of x w found ≡ Ok (block, new) → BlockTyped cs found block new

-- the result of each CTE has the types of its outputs
abbrev pub HaveCtes : Types → List Query → Type 0
HaveCtes cs ctes = (i : ℕ) (c : Query) → slice_get ctes i ≡ Some c → result_types cs i ≡ output_types cs c

-- the query of a statement that is read is well typed, and so is each of its CTEs, once the results of the CTEs and of the IN
-- subqueries in them and in the query have the types of their outputs
abbrev pub QueriesTyped : Type 0
QueriesTyped = (cs : Types) (tables : List TableInfo) (x : written.Query) (found new : Found) (q : Query) →
    TablesTyped cs tables → written_tables x.tables ≡ true → written_select x.select ≡ true → query_of tables x found ≡ Ok (q, new) →
    HaveCtes cs (out-Query q).ctes → HaveResults cs found.results (results_in_all cs (out-Query q).ctes ++ results_in cs q) → IsTypedQuery cs q × AllByRecursion (IsTypedQuery cs) (out-Query q).ctes

-- there are such types of results, where those of the IN subqueries are numbered behind the CTEs'
abbrev pub ResultsThere : Type 0
ResultsThere = (kinds : List (List ValueType)) (tables : List TableInfo) (x : written.Query) (found new : Found) (q : Query) →
    TablesTyped (over kinds []) tables → written_tables x.tables ≡ true → written_select x.select ≡ true → query_of tables x found ≡ Ok (q, new) → found.results ≡ length x.tables →
    (rs : List (List ValueType)) × HaveCtes (over kinds rs) (out-Query q).ctes
    × HaveResults (over kinds rs) found.results (results_in_all (over kinds rs) (out-Query q).ctes ++ results_in (over kinds rs) q)

-- the result of a step has the types of the outputs of its query
abbrev pub HasResult : Types → Step → Type 0
HasResult cs s = result_types cs s.number ≡ output_types cs s.query

-- the numbers of IN subqueries are those of the steps by which they are computed
abbrev pub ResultsNumbered : Type 0
ResultsNumbered = (cs : Types) (k : ℕ) (q : Query) → HaveResults cs k (results_in cs q) → AllByRecursion (HasResult cs) (steps_in k q)

-- an UPDATE that is read is well typed
abbrev pub UpdatesTyped : Type 0
UpdatesTyped = (cs : Types) (tables : List TableInfo) (table : Name) (sets : List SetClause) (filter : Option Expr) (at : ℕ) (op : ShardOp) →
    TablesTyped cs tables → written_sets sets ≡ true → written_filter filter ≡ true → reading tables (ast.Update table sets filter at) ≡ Ok (statement.Write op) →
    IsTypedWrite (table_types cs (table_of op)) op

-- and so is a DELETE
abbrev pub DeletionsTyped : Type 0
DeletionsTyped = (cs : Types) (tables : List TableInfo) (table : Name) (filter : Option Expr) (at : ℕ) (op : ShardOp) →
    TablesTyped cs tables → written_filter filter ≡ true → reading tables (ast.Delete table filter at) ≡ Ok (statement.Write op) →
    IsTypedWrite (table_types cs (table_of op)) op
