use Rattle.cq_bind_calls.proofs.Loops.{refused_then}
use Rattle.cq_bind_lists.proofs.pick.first_star.Goals as goal

pub returns-in_err-b : goal.returns-in_err-b
returns-in_err-b c = λ f. refused_then _ _ _ f _ _ (c.in_err-b.ensures f) c.from_residual.ensures.1
