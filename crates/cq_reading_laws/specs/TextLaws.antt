-- What makes sure that no expression of a text overflows: what a text is read as is what the engine asks for.
use Rattle.std.specs.Prelude.{◌≡◌, ◌≤◌, ℕ, List, [], length, Result, Ok, Err}
use Rattle.std.specs.List.{AllByRecursion}
use Rattle.cq_token.specs.declared.token.Token.{Token}
use Rattle.cq_token.specs.Tokens.{tokens}
use Rattle.cq_grammar.specs.declared.statement.Ast.{Ast}
use Rattle.cq_grammar.specs.Verdicts.{Accepted}
use Rattle.cq_tree.specs.declared.query.Query.{Query, out-Query}
use Rattle.cq_tree.specs.declared.write.ShardOp.{ShardOp}
use Rattle.cq_tree.specs.declared.statement.Statement.{Statement}
use Rattle.cq_tree.specs.declared.statement.Statement.TheVariants as statement
use Rattle.cq_catalog.specs.declared.info.TableInfo.{TableInfo}
use Rattle.cq_meaning.specs.declared.Columns.{Columns}
use Rattle.cq_meaning.specs.Widths.{table_bits, IsBoundQuery, IsBoundWrite}
use Rattle.cq_meaning_laws.specs.WholeRules.{IsBoundStatement}
use Rattle.cq_reading.specs.declared.bound.Found.{Found}
use Rattle.cq_reading.specs.declared.error.BindError.{BindError}
use Rattle.cq_reading.specs.Statements.{statement_of, ctes_in, reading}
use Rattle.cq_reading_laws.specs.WriteLaws.{TablesFit, table_of}
use Rattle.cq_reading_laws.specs.QueryLaws.{HaveResults}

-- a text's tokens spell this statement
pub record Spells (text : List ℕ) (a : Ast) : Type 0 where
  pub words : List Token
  pub cut : tokens text ≡ Ok words
  pub accepted : Accepted a words

abbrev pub result_count_in : Result (Statement × Found) BindError → ℕ
result_count_in (Ok p) = p.1.results
result_count_in (Err e) = 0

-- how many results the walk over a statement numbers: those of its CTEs, and behind them those of its IN subqueries
abbrev pub result_count : List TableInfo → Ast → ℕ
result_count tables a = result_count_in (statement_of tables a (record { results = ctes_in a; blocks = 0; subs = []; aggs = [] }))

-- a write that a text is read as is what the engine asks for
abbrev pub TextWritesBound : Type 0
TextWritesBound = (cs : Columns) (tables : List TableInfo) (text : List ℕ) (a : Ast) (op : ShardOp) →
    Spells text a → TablesFit cs tables → reading tables a ≡ Ok (statement.Write op) → IsBoundWrite (table_bits cs.tables (table_of op)) op

-- a query and each of its CTEs are what the engine asks for, where the CTEs' results have their bits and there are n results. Their IN
-- subqueries aren't spoken of here
abbrev pub IsBoundWhole : Columns → ℕ → Query → Type 0
IsBoundWhole cs n q = HaveResults cs (out-Query q).ctes → n ≤ length cs.results → IsBoundQuery cs q × AllByRecursion (IsBoundQuery cs) (out-Query q).ctes

-- so it is with a query that a text is read as
abbrev pub TextQueriesBound : Type 0
TextQueriesBound = (cs : Columns) (tables : List TableInfo) (text : List ℕ) (a : Ast) (q : Query) →
    Spells text a → TablesFit cs tables → reading tables a ≡ Ok (statement.Select q) → IsBoundWhole cs (result_count tables a) q

-- and one that a text asks to explain
abbrev pub TextsExplainedBound : Type 0
TextsExplainedBound = (cs : Columns) (tables : List TableInfo) (text : List ℕ) (a : Ast) (q : Query) →
    Spells text a → TablesFit cs tables → reading tables a ≡ Ok (statement.Explain q) → IsBoundWhole cs (result_count tables a) q

-- a query is what the engine asks for with its CTEs and all its IN subqueries, where the columns of tables have these bits and the
-- results have some that are found from them
abbrev pub IsBoundOver : List (ℕ × List ℕ) → Query → Type 0
IsBoundOver columns q = (results : List (List ℕ)) × IsBoundStatement (record { tables = columns; results = results }) q

-- so it is with a query that a text is read as
abbrev pub TextStatementsBound : Type 0
TextStatementsBound = (columns : List (ℕ × List ℕ)) (tables : List TableInfo) (text : List ℕ) (a : Ast) (q : Query) →
    Spells text a → TablesFit (record { tables = columns; results = [] }) tables → reading tables a ≡ Ok (statement.Select q) → IsBoundOver columns q

-- and one that a text asks to explain
abbrev pub TextsExplainedWhole : Type 0
TextsExplainedWhole = (columns : List (ℕ × List ℕ)) (tables : List TableInfo) (text : List ℕ) (a : Ast) (q : Query) →
    Spells text a → TablesFit (record { tables = columns; results = [] }) tables → reading tables a ≡ Ok (statement.Explain q) → IsBoundOver columns q
