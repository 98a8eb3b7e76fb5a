use Rattle.cq_bind_calls.proofs.Loops.{refused_then}
use Rattle.cq_bind_lists.proofs.outputs.star_shown.Goals as goal

pub returns-in_err-bound : goal.returns-in_err-bound
returns-in_err-bound c = λ f. refused_then _ _ _ f _ _ (c.in_err-bound.ensures f) c.from_residual-in_err-bound.ensures.1
