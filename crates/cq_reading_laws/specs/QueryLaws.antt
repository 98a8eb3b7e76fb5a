-- What makes sure that no query of a statement overflows, behind its CTEs.
use Rattle.std.specs.Prelude.{◌≡◌, ℕ, ◌≤◌, true, Bool, List, [], map, length, slice_get, slice_index_or, Some, Ok}
use Rattle.std.specs.List.{AllByRecursion}
use Rattle.cq_catalog.specs.declared.info.TableInfo.{TableInfo}
use Rattle.cq_grammar.specs.declared.query.Query as written
use Rattle.cq_grammar.specs.declared.query.CommonTable.{CommonTable}
use Rattle.cq_tree.specs.declared.query.Query.{Query, out-Query}
use Rattle.cq_meaning.specs.declared.Columns.{Columns}
use Rattle.cq_meaning.specs.Widths.{output_bits, IsBoundQuery}
use Rattle.cq_reading.specs.declared.bound.Found.{Found}
use Rattle.cq_reading.specs.Statements.{query_of}
use Rattle.cq_reading_laws.specs.Written.{all, written_select}
use Rattle.cq_reading_laws.specs.WriteLaws.{TablesFit}

abbrev pub written_tables : List CommonTable → Bool
written_tables tables = all (map (λ (c : CommonTable). written_select c.select) tables)

-- the result of each CTE has the bits of its outputs
abbrev pub HaveResults : Columns → List Query → Type 0
HaveResults cs ctes = (i : ℕ) (c : Query) → slice_get ctes i ≡ Some c → slice_index_or cs.results i [] ≡ output_bits cs c

-- the query of a statement that is read is what the engine asks for, and so is each of its CTEs
abbrev pub QueriesBound : Type 0
QueriesBound = (cs : Columns) (tables : List TableInfo) (x : written.Query) (found new : Found) (q : Query) →
    TablesFit cs tables → written_tables x.tables ≡ true → written_select x.select ≡ true → query_of tables x found ≡ Ok (q, new) →
    HaveResults cs (out-Query q).ctes → new.results ≤ length cs.results → IsBoundQuery cs q × AllByRecursion (IsBoundQuery cs) (out-Query q).ctes
