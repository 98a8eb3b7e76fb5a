use Rattle.std.proofs.Common.{sym, ap, ◌∙◌}
use Rattle.cq_planner.specs.Flaws.{either, flaws_among}
use Rattle.cq_planner.proofs.FlawLaws.{within_is}
use Rattle.cq_planner.proofs.refusing.+flaws.Goals as goal

pub flaws_of-returns : goal.flaws_of-returns
flaws_of-returns t c =
    c.either.ensures ∙ ((λ i. either ((c.flaws_of_all-below.ensures ∙ ap (flaws_among c.args.repartition) c.as_slice.ensures) i) (c.flaws_by.ensures i)) ∙ sym (within_is c.args.repartition c.args.plan.now))
