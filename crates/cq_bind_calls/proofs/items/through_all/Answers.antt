use Rattle.std.proofs.Common.{refl}
use Rattle.cq_bind_calls.proofs.Loops.{goes_on, stops, ends}
use Rattle.cq_bind_calls.proofs.items.through_all.Goals as goal

pub items-init : goal.items-init
items-init g c = refl

pub returns-in_err-state : goal.returns-in_err-state
returns-in_err-state g c =
    stops (g.P.Step.reading c.args.step.now) _ _ _ _ _ _ _ _ c.step.new.found _ _ c.items.invariant c.items-test.true c.item-item.is c.in_err-state.ensures c.from_residual.ensures.1

pub items-preserved : goal.items-preserved
items-preserved g c = goes_on (g.P.Step.reading c.args.step.now) _ _ _ _ _ _ _ _ _ c.items.invariant c.items-test.true c.item-item.is c.in_ok-state.ensures

pub returns : goal.returns
returns g c = ends (g.P.Step.reading c.args.step.now) _ _ _ _ _ c.items.invariant c.items-test.false
