-- What a text is read as is well typed.
use Rattle.std.specs.Prelude.{◌≡◌, ℕ, List, [], ◌++◌, Ok}
use Rattle.std.specs.List.{AllByRecursion}
use Rattle.cq_grammar.specs.declared.statement.Ast.{Ast}
use Rattle.cq_tree.specs.declared.query.Query.{Query, out-Query}
use Rattle.cq_tree.specs.declared.write.ShardOp.{ShardOp}
use Rattle.cq_tree.specs.declared.statement.Statement.TheVariants as statement
use Rattle.cq_catalog.specs.declared.info.TableInfo.{TableInfo}
use Rattle.cq_reading.specs.Widths.{ValueType}
use Rattle.cq_reading.specs.Statements.{ctes_in, reading}
use Rattle.cq_reading_laws.specs.WriteLaws.{table_of}
use Rattle.cq_reading_laws.specs.TypingLaws.{HaveCtes}
use Rattle.cq_reading_laws.specs.TypedQueries.{Types, over, table_types, results_in, results_in_all, HaveResults, IsTypedQuery, IsTypedWrite}
use Rattle.cq_reading_laws.specs.Reach.{TablesTyped}
use Rattle.cq_reading_laws.specs.TextLaws.{Spells}

-- a query and each of its CTEs are well typed over tables of these types and over types of results: those of CTEs, and from the n-th on
-- those of IN subqueries, are the types of their outputs
abbrev pub IsTypedOver : List (List ValueType) → ℕ → Query → Type 0
IsTypedOver kinds n q = (rs : List (List ValueType)) × HaveCtes (over kinds rs) (out-Query q).ctes
    × HaveResults (over kinds rs) n (results_in_all (over kinds rs) (out-Query q).ctes ++ results_in (over kinds rs) q)
    × IsTypedQuery (over kinds rs) q × AllByRecursion (IsTypedQuery (over kinds rs)) (out-Query q).ctes

-- a query that a text is read as is well typed
abbrev pub TextQueriesTyped : Type 0
TextQueriesTyped = (kinds : List (List ValueType)) (tables : List TableInfo) (text : List ℕ) (a : Ast) (q : Query) →
    Spells text a → TablesTyped (over kinds []) tables → reading tables a ≡ Ok (statement.Select q) → IsTypedOver kinds (ctes_in a) q

-- and one that a text asks to explain
abbrev pub TextsExplainedTyped : Type 0
TextsExplainedTyped = (kinds : List (List ValueType)) (tables : List TableInfo) (text : List ℕ) (a : Ast) (q : Query) →
    Spells text a → TablesTyped (over kinds []) tables → reading tables a ≡ Ok (statement.Explain q) → IsTypedOver kinds (ctes_in a) q

-- a write that a text is read as is well typed
abbrev pub TextWritesTyped : Type 0
TextWritesTyped = (cs : Types) (tables : List TableInfo) (text : List ℕ) (a : Ast) (op : ShardOp) →
    Spells text a → TablesTyped cs tables → reading tables a ≡ Ok (statement.Write op) → IsTypedWrite (table_types cs (table_of op)) op
