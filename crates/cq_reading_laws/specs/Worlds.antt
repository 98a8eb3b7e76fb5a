-- The tables and CTEs in reach have their bits, and so have the outputs of SELECTs.
use Rattle.std.specs.Prelude.{◌≡◌, ℕ, ◌-◌, ◌≤◌, ⊤, true, List, [], ◌∷◌, map, length, slice_get, slice_index_or, Some}
use Rattle.cq_catalog.specs.declared.info.TableInfo.{TableInfo}
use Rattle.cq_meaning.specs.declared.Columns.{Columns}
use Rattle.cq_meaning.specs.Widths.{bits_of_kind, table_bits, output_bits, IsBoundQuery}
use Rattle.cq_reading.specs.declared.bound.Source.{Source}
use Rattle.cq_reading.specs.declared.bound.Output.{Output}
use Rattle.cq_reading.specs.declared.bound.Common.{Common}
use Rattle.cq_reading.specs.declared.bound.Block.{Block}
use Rattle.cq_reading.specs.declared.bound.Found.{Found}
use Rattle.cq_reading.specs.Widths.{ValueType, is_number_type}
use Rattle.cq_reading.specs.Scopes.{World}

-- values of these bits keep within this width
pub record IsWide (k : ℕ) (t : ValueType) (width : ℕ) : Type 0 where
  pub within : k ≤ width - 1
  pub fits : width ≤ 127
  pub some : is_number_type t ≡ true → 1 ≤ width

abbrev pub SourcesFit : List ℕ → List Source → Type 0
SourcesFit [] [] = ⊤
SourcesFit [] (s ∷ ss) = ⊥
SourcesFit (k ∷ ks) [] = ⊥
SourcesFit (k ∷ ks) (s ∷ ss) = IsWide k s.kind s.width × SourcesFit ks ss

abbrev pub OutputsFit : List ℕ → List Output → Type 0
OutputsFit [] [] = ⊤
OutputsFit [] (o ∷ os) = ⊥
OutputsFit (k ∷ ks) [] = ⊥
OutputsFit (k ∷ ks) (o ∷ os) = IsWide k o.kind o.width × OutputsFit ks os

-- the tables have the bits of their columns' types, and each CTE's result those of its outputs
pub record WorldFits (cs : Columns) (w : World) : Type 0 where
  pub tables : (i : ℕ) (t : TableInfo) → slice_get w.tables i ≡ Some t → table_bits cs.tables i ≡ map (λ c. bits_of_kind c.kind) t.columns
  pub commons : (i : ℕ) (c : Common) → slice_get w.commons i ≡ Some c → OutputsFit (slice_index_or cs.results i []) c.outputs

-- what the walk over a SELECT gives is what the engine asks for, once all results have their bits, and its outputs keep within their widths
pub record BlockStands (cs : Columns) (found : Found) (block : Block) (new : Found) : Type 0 where
  pub results : found.results ≤ new.results
  pub aggs : new.aggs ≡ found.aggs
  pub outputs : OutputsFit (output_bits cs block.query) block.outputs
  pub bound : new.results ≤ length cs.results → IsBoundQuery cs block.query
