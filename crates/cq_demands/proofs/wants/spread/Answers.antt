use Rattle.std.proofs.Common.{◌+◌, ◌∙◌, ap, sym, drop}
use Rattle.cq_demands.specs.JoinDemands.{spread}
use Rattle.cq_demands.proofs.Nodes.{spread_drop}
use Rattle.cq_demands.proofs.wants.spread.Goals as goal

pub loop-tie-preserved : goal.loop-tie-preserved
loop-tie-preserved c =
    let ties = c.args.ties.now in
    let i = c.loop-tie._tie-index in
    ap (λ ds. spread (drop (i + 1) ties) ties ds) c.in_ok-carry_all.ensures ∙ sym (spread_drop ties ties i c.loop-tie.demanded c.loop-tie-test.true) ∙ c.loop-tie.invariant
