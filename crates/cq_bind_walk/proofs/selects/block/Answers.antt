use Rattle.cq_bind_walk.proofs.Blocks.{ends_at_limit, ends_inside, ends_well}
use Rattle.cq_bind_walk.proofs.selects.block.Goals as goal

pub returns-in_err-outer : goal.returns-in_err-outer
returns-in_err-outer g c = ends_at_limit _ _ _ _ _ _ c.in_err-outer.ensures.checks.0 c.in_err-outer.ensures.checks.1 c.from_residual.ensures.1

pub returns-in_err-rows : goal.returns-in_err-rows
returns-in_err-rows g c =
    ends_inside _ _ _ _ _ c.parts.new.found _ _ _ c.in_ok-outer.ensures.checks c.in_ok-outer.ensures.is c.is_grouped.ensures c.in_err-rows.ensures c.from_residual-in_err-rows.ensures.1

pub returns : goal.returns
returns g c =
    ends_well _ _ _ _ _ _ _ _ _ _ _ c.in_ok-outer.ensures.checks c.in_ok-outer.ensures.is c.in_ok-outer.ensures.was c.is_grouped.ensures c.in_ok-rows.ensures c.leave-inner.ensures.was c.leave-inner.ensures.is c.in_ok-finished.ensures
