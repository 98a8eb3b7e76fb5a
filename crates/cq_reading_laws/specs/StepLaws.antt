-- What makes sure that no step of a statement overflows: its query, its CTEs and its IN subqueries.
use Rattle.std.specs.Prelude.{◌≡◌, ℕ, min, true, List, [], length, slice_index_or, Ok}
use Rattle.std.specs.List.{AllByRecursion}
use Rattle.cq_catalog.specs.declared.info.TableInfo.{TableInfo}
use Rattle.cq_grammar.specs.declared.query.Query as written
use Rattle.cq_tree.specs.declared.query.Query.{Query}
use Rattle.cq_meaning.specs.declared.Columns.{Columns}
use Rattle.cq_meaning.specs.Widths.{output_bits}
use Rattle.cq_meaning_laws.specs.WholeRules.{Step, steps_of, IsBoundStatement}
use Rattle.cq_reading.specs.declared.bound.Found.{Found}
use Rattle.cq_reading.specs.Statements.{query_of}
use Rattle.cq_reading_laws.specs.Written.{written_select}
use Rattle.cq_reading_laws.specs.QueryLaws.{written_tables}
use Rattle.cq_reading_laws.specs.WriteLaws.{TablesFit}

-- the result of each step has the widths of its outputs, and there are no other results
abbrev pub HaveWidths : Columns → Query → Type 0
HaveWidths cs q = AllByRecursion (λ (s : Step). slice_index_or cs.results s.number [] ≡ output_bits cs s.query) (steps_of q) × (length cs.results ≡ length (steps_of q))

-- what the walk over a query begins with: the results of its CTEs have their numbers
abbrev pub start_of : written.Query → Found
start_of x = record { results = min (length x.tables) 64; blocks = 0; subs = []; aggs = [] }

-- the query of a statement that is read is what the engine asks for, and so are all its steps, where their results have their widths
abbrev pub StatementsBound : Type 0
StatementsBound = (cs : Columns) (tables : List TableInfo) (x : written.Query) (new : Found) (q : Query) →
    TablesFit cs tables → written_tables x.tables ≡ true → written_select x.select ≡ true → query_of tables x (start_of x) ≡ Ok (q, new) → HaveWidths cs q → IsBoundStatement cs q

-- there are such widths, whatever the tables have
abbrev pub WidthsAreThere : Type 0
WidthsAreThere = (columns : List (ℕ × List ℕ)) (tables : List TableInfo) (x : written.Query) (new : Found) (q : Query) →
    written_tables x.tables ≡ true → written_select x.select ≡ true → query_of tables x (start_of x) ≡ Ok (q, new) → (results : List (List ℕ)) × HaveWidths (record { tables = columns; results = results }) q
