-- What makes sure that a bound expression keeps within its width.
use Rattle.std.specs.Prelude.{◌≡◌, ℕ, ◌+◌, ◌-◌, ◌≤◌, ◌<◌, true, List, ◌++◌, length, slice_get, slice_index_or, Some, Bool}
use Rattle.std.specs.List.{AllByRecursion}
use Rattle.cq_tree.specs.declared.query.Agg.{Agg}
use Rattle.cq_meaning.specs.Widths.{bits, input_bits, IsBound, IsBoundCondition, IsBoundAggregate}
use Rattle.cq_reading.specs.declared.bound.Found.{Found}
use Rattle.cq_reading.specs.declared.bound.Source.{Source}
use Rattle.cq_reading.specs.declared.bound.Bound.{Bound}
use Rattle.cq_reading.specs.Widths.{is_number_type, is_number, expr_of, cond_of, width_of}
use Rattle.cq_reading.specs.Scopes.{Context}

-- an expression or a condition over columns of the bits ks and n results is what the engine asks for, and keeps within its width
pub record Stands (ks : List ℕ) (n : ℕ) (b : Bound) : Type 0 where
  pub expression : IsBound ks n (expr_of b)
  pub condition : IsBoundCondition ks n (cond_of b)
  pub within : bits ks (expr_of b) ≤ width_of b - 1
  pub fits : width_of b ≤ 127
  pub some : is_number b ≡ true → 1 ≤ width_of b

-- a column in reach has its bits
pub record HasBits (ks : List ℕ) (i : ℕ) (s : Source) : Type 0 where
  pub is_there : i < length ks
  pub within : slice_index_or ks i 0 ≤ s.width - 1
  pub fits : s.width ≤ 127
  pub some : is_number_type s.kind ≡ true → 1 ≤ s.width

-- the columns in reach of a context have theirs
abbrev pub HaveBits : List ℕ → Context → Type 0
HaveBits ks cx = (i : ℕ) (s : Source) → slice_get cx.columns i ≡ Some s → HasBits ks (cx.first + i) s

-- the bits of what stands in reach of an expression: the columns of its FROM, or the keys and aggregates of its query's groups
abbrev pub bits_in : List ℕ → Context → List Agg → List ℕ
bits_in ks cx aggs = input_bits ks cx.grouped cx.keys aggs

-- an expression that may hold an aggregate stands in a query that groups, or where aggregates are refused
abbrev pub MayStand : Context → Bool → Type 0
MayStand cx aggregates = aggregates ≡ true → cx.may_aggregate ≡ true → cx.grouped ≡ true

-- the aggregates found so far are what the engine asks for
abbrev pub AggregatesStand : List ℕ → Found → Type 0
AggregatesStand ks found = (n : ℕ) → found.results ≤ n → AllByRecursion (IsBoundAggregate ks n) found.aggs

-- what is found later has no fewer results, and further aggregates stand behind those there are
pub record Onward (ks : List ℕ) (f g : Found) : Type 0 where
  pub results : f.results ≤ g.results
  pub aggs : (more : List Agg) × (g.aggs ≡ f.aggs ++ more)
  pub stand : AggregatesStand ks f → AggregatesStand ks g
