use Rattle.cq_bind_lists.specs.Stars.{meant}
use Rattle.cq_bind_lists.proofs.Targets.{star_goes_on, star_stops, star_ends}
use Rattle.cq_bind_lists.proofs.gather.stars_among.Goals as goal

pub returns-in_err-state : goal.returns-in_err-state
returns-in_err-state g c = λ f.
    star_stops (g.G.Gather.step c.args.gather.now c.args.scope.now) c.args.at (meant c.args.star) c.args.columns.now c.columns.place _ _ c.columns.state _ _ _ f (c.columns.invariant f) c.columns-test.true c.index-columns-place.is c.in_err-state.ensures c.from_residual.ensures.1

pub columns-preserved : goal.columns-preserved
columns-preserved g c = λ f.
    star_goes_on (g.G.Gather.step c.args.gather.now c.args.scope.now) c.args.at (meant c.args.star) c.args.columns.now c.columns.place _ _ c.columns.state _ _ f (c.columns.invariant f) c.columns-test.true c.index-columns-place.is c.in_ok-state.ensures

pub returns : goal.returns
returns g c = λ f.
    star_ends (g.G.Gather.step c.args.gather.now c.args.scope.now) c.args.at (meant c.args.star) c.args.columns.now c.columns.place c.columns.state _ f (c.columns.invariant f) c.columns-test.false
