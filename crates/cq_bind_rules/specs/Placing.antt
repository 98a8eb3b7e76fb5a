-- What is found after an aggregate has its place, and whether an aggregate may stand somewhere.
use Rattle.std.specs.Prelude.{◌≡◌, ℕ, Bool, true, false, Result, Ok, Err}
use Rattle.cq_tree.specs.declared.query.Agg.{Agg}
use Rattle.cq_reading.specs.declared.bound.Found.{Found}
use Rattle.cq_reading.specs.declared.error.BindError.{BindError}
use Rattle.cq_reading.specs.declared.error.BindError.TheVariants.{Memory}
use Rattle.cq_grammar.specs.declared.expr.Aggregate.{Aggregate}
use Rattle.cq_reading.specs.declared.bound.Bound.{Bound}
use Rattle.cq_reading.specs.Scopes.{Context}
use Rattle.cq_reading.specs.Widths.{fits_width}
use Rattle.cq_reading.specs.Rules.{place_among, with_aggregate, takes, aggregate_width, summed}

abbrev pub PlacedIn : Found → Agg → Result ℕ BindError → Found → Type 0
PlacedIn found a (Ok place) new = (place ≡ place_among found.aggs a) × (new ≡ record found { aggs = with_aggregate found.aggs a })
PlacedIn found a (Err e) new = e ≡ Memory

-- the width of an aggregate that may stand there
abbrev pub SummedOr : Context → Aggregate → Bound → ℕ → Result ℕ BindError → Type 0
SummedOr cx f a at (Ok w) = (cx.may_aggregate ≡ true) × (takes f a ≡ true) × (fits_width (aggregate_width f a) ≡ true) × (cx.joined ≡ false) × (aggregate_width f a ≡ w)
SummedOr cx f a at (Err e) = (found : Found) → summed cx f a at found ≡ Err e
