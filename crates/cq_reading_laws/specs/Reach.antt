-- What is in reach of an expression has its types: columns, tables, CTEs and results.
use Rattle.std.specs.Prelude.{◌≡◌, ℕ, ◌+◌, ◌<◌, List, ◌++◌, map, length, slice_get, slice_index_or, Some}
use Rattle.std.specs.List.{AllByRecursion}
use Rattle.cq_catalog.specs.declared.info.TableInfo.{TableInfo}
use Rattle.cq_tree.specs.declared.query.Agg.{Agg}
use Rattle.cq_tree.specs.declared.query.Query.{Query}
use Rattle.cq_reading.specs.declared.bound.Found.{Found}
use Rattle.cq_reading.specs.declared.bound.Source.{Source}
use Rattle.cq_reading.specs.declared.bound.Output.{Output}
use Rattle.cq_reading.specs.declared.bound.Common.{Common}
use Rattle.cq_reading.specs.declared.bound.Block.{Block}
use Rattle.cq_reading.specs.declared.bound.Bound.{Bound}
use Rattle.cq_reading.specs.declared.bound.Bound.TheVariants.{Value, Truth}
use Rattle.cq_reading.specs.declared.bound.Type.TheVariants as type
use Rattle.cq_reading.specs.Widths.{ValueType, kind_type}
use Rattle.cq_reading.specs.Scopes.{World, Context}
use Rattle.cq_reading_laws.specs.Typing.{Fits, AllFit, HasType, IsTypedCondition, IsTypedAggregate, input_types}
use Rattle.cq_reading_laws.specs.TypedQueries.{Types, table_types, result_types, output_types, results_in, results_of, HaveResults, IsTypedQuery}

-- what an expression is read as: a value of its type, or a condition
abbrev pub IsOfType : List ValueType → List (List ValueType) → Bound → Type 0
IsOfType ts rs (Value e t w) = HasType ts rs e t
IsOfType ts rs (Truth c) = IsTypedCondition ts rs c

-- a column in reach has its type
pub record HasKind (ts : List ValueType) (i : ℕ) (s : Source) : Type 0 where
  pub is_there : i < length ts
  pub fits : Fits (slice_index_or ts i type.Null) s.kind

-- the columns in reach of a context have theirs
abbrev pub HaveKinds : List ValueType → Context → Type 0
HaveKinds ts cx = (i : ℕ) (s : Source) → slice_get cx.columns i ≡ Some s → HasKind ts (cx.first + i) s

-- the types of what stands in reach of an expression: the columns of its FROM, or the keys and aggregates of its query's groups
abbrev pub types_in : List ValueType → Context → List Agg → List ValueType
types_in ts cx aggs = input_types ts cx.grouped cx.keys aggs

abbrev pub kinds_of : List Output → List ValueType
kinds_of outputs = map (λ (o : Output). o.kind) outputs

-- tables have the types of their columns' kinds
abbrev pub TablesTyped : Types → List TableInfo → Type 0
TablesTyped cs tables = (i : ℕ) (t : TableInfo) → slice_get tables i ≡ Some t → table_types cs i ≡ map (λ c. kind_type c.kind) t.columns

-- and the types of each CTE's result stand where those of its outputs are said
pub record WorldTyped (cs : Types) (w : World) : Type 0 where
  pub tables : TablesTyped cs w.tables
  pub commons : (i : ℕ) (c : Common) → slice_get w.commons i ≡ Some c → AllFit (result_types cs i) (kinds_of c.outputs)

-- the results found so far are numbered from this number on
abbrev pub Numbered : Types → ℕ → Found → Type 0
Numbered cs base found = found.results ≡ base + length (results_of cs found.subs)

-- what is found so far is well typed, once the results of the IN subqueries have the types of their outputs: the IN subqueries over
-- tables and CTEs, and the aggregates over columns of these types
pub record FoundTyped (cs : Types) (base : ℕ) (ts : List ValueType) (found : Found) : Type 0 where
  pub numbered : Numbered cs base found
  pub subs : HaveResults cs base (results_of cs found.subs) → AllByRecursion (IsTypedQuery cs) found.subs
  pub aggs : HaveResults cs base (results_of cs found.subs) → AllByRecursion (IsTypedAggregate ts cs.results) found.aggs

-- aggregates and IN subqueries are only added
pub record Onward (f g : Found) : Type 0 where
  pub aggs : (more : List Agg) × (g.aggs ≡ f.aggs ++ more)
  pub subs : (more : List Query) × (g.subs ≡ f.subs ++ more)

-- what the walk over a SELECT gives: the outputs have the types that are said of them, the IN subqueries in it are numbered in their
-- order behind those found before, and once their results have the types of their outputs the query is well typed
pub record BlockTyped (cs : Types) (found : Found) (block : Block) (new : Found) : Type 0 where
  pub subs : new.subs ≡ found.subs
  pub aggs : new.aggs ≡ found.aggs
  pub results : new.results ≡ found.results + length (results_in cs block.query)
  pub outputs : AllFit (output_types cs block.query) (kinds_of block.outputs)
  pub typed : HaveResults cs found.results (results_in cs block.query) → IsTypedQuery cs block.query
