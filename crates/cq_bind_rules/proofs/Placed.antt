-- An aggregate that may stand where it does.
use Rattle.std.proofs.Common.{◌≡◌, ℕ, Bool, not, Result, Ok, sym, subst, ap, ◌∙◌}
use Rattle.cq_grammar.specs.declared.expr.Aggregate.{Aggregate}
use Rattle.cq_reading.specs.declared.bound.Bound.{Bound}
use Rattle.cq_reading.specs.declared.bound.Found.{Found}
use Rattle.cq_reading.specs.declared.error.BindError.{BindError}
use Rattle.cq_reading.specs.declared.error.BindError.TheVariants as error
use Rattle.cq_reading.specs.Steps.{Reading, provided}
use Rattle.cq_reading.specs.Outcomes.{Binds}
use Rattle.cq_reading.specs.Scopes.{Context}
use Rattle.cq_reading.specs.Widths.{expr_of, fits_width}
use Rattle.cq_reading.specs.Rules.{summed, aggregated, agg_of, aggregate_type, aggregate_width, takes}
use Rattle.cq_bind_rules.specs.Placing.{SummedOr}

pub placed : (cx : Context) (f : Aggregate) (a : Bound) (at w : ℕ) (found new : Found) (result : Result Bound BindError) → SummedOr cx f a at (Ok w)
    → Binds (aggregated cx (agg_of f (expr_of a)) (aggregate_type f a) w found) result new → Binds (summed cx f a at found) result new
placed cx f a at w found new result s b =
    let stands : ℕ → Reading Bound = aggregated cx (agg_of f (expr_of a)) (aggregate_type f a) in
    let alone : Reading Bound = provided (not cx.joined) (error.GroupedJoin at) (stands (aggregate_width f a)) in
    let fits : Reading Bound = provided (fits_width (aggregate_width f a)) (error.TooWide at) alone in
    let taken : Reading Bound = provided (takes f a) (error.Type at) fits in
    let is : summed cx f a at found ≡ stands w found =
    ap (λ (x : Bool). provided x (error.NotGrouped at) taken found) s.0
    ∙ (ap (λ (x : Bool). provided x (error.Type at) fits found) s.1
    ∙ (ap (λ (x : Bool). provided x (error.TooWide at) alone found) s.2
    ∙ (ap (λ (x : Bool). provided (not x) (error.GroupedJoin at) (stands (aggregate_width f a)) found) s.3 ∙ ap (λ (x : ℕ). stands x found) s.4))) in
    subst (λ o. Binds o result new) (sym is) b
