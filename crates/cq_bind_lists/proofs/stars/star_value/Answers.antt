use Rattle.std.proofs.Common.{subst}
use Rattle.cq_reading.specs.Outcomes.{Judges}
use Rattle.cq_reading.specs.Selects.{value_of}
use Rattle.cq_bind_calls.proofs.Loops.{binds_then, refused_then}
use Rattle.cq_bind_lists.specs.Stars.{star_reading}
use Rattle.cq_bind_lists.proofs.stars.star_value.Goals as goal

pub returns-in_err-b : goal.returns-in_err-b
returns-in_err-b c =
    subst (λ i. Judges (value_of c.args.at (star_reading c.args.at i c.args.scope.now)) c.from_residual-in_err-b.result) c.in_ok-number.ensures
    (λ f. refused_then _ _ _ f _ _ (c.in_err-b.ensures f) c.from_residual-in_err-b.ensures.1)

pub returns : goal.returns
returns c =
    subst (λ i. Judges (value_of c.args.at (star_reading c.args.at i c.args.scope.now)) c.value.result) c.in_ok-number.ensures
    (λ f. binds_then _ _ _ _ _ _ (c.in_ok-b.ensures f) (c.value.ensures f))
