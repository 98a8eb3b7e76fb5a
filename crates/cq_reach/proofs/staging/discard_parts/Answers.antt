use Rattle.std.proofs.Common.{List, length, subst, ap, arith}
use Rattle.cq_group.specs.Groups.{IsKept}
use Rattle.cq_reach.specs.declared.staging.ReadyPart.{ReadyPart}
use Rattle.cq_reach.specs.Staging.{AreDropped}
use Rattle.cq_reach.proofs.Stopping.{in_group, group_within, discard_kept, discard_more, front_all}
use Rattle.cq_reach.proofs.staging.discard_parts.Goals as goal

pub discard_in-requires-clause-within : goal.discard_in-requires-clause-within
discard_in-requires-clause-within g c =
    group_within c.loop-staged.groups.items c.staged-item.result.part (IsKept g.S.Store.state)
    (discard_kept g.S.Store.state c.args.ready.now c.as_slice-staged-items.result.now c.loop-staged.staged-index c.staged-item.result c.args.groups.now.items c.loop-staged.groups.items c.as_slice-staged-items.ensures c.loop-staged-test.true c.staged-item.is c.requires.apart c.loop-staged.invariant c.requires.kept)

pub discard_in-requires-clause-kept : goal.discard_in-requires-clause-kept
discard_in-requires-clause-kept g c =
    in_group c.loop-staged.groups.items c.staged-item.result.part (IsKept g.S.Store.state)
    (discard_kept g.S.Store.state c.args.ready.now c.as_slice-staged-items.result.now c.loop-staged.staged-index c.staged-item.result c.args.groups.now.items c.loop-staged.groups.items c.as_slice-staged-items.ensures c.loop-staged-test.true c.staged-item.is c.requires.apart c.loop-staged.invariant c.requires.kept)

pub loop-staged-preserved : goal.loop-staged-preserved
loop-staged-preserved g c =
    discard_more g.S.Store.state c.args.ready.now c.as_slice-staged-items.result.now c.loop-staged.staged-index c.staged-item.result c.args.groups.now.items c.loop-staged.groups.items c.as_slice-staged-items.ensures c.loop-staged-test.true c.staged-item.is c.requires.apart c.loop-staged.invariant c.discard_in.new.groups.items c.discard_in.ensures

pub returns : goal.returns
returns g c =
    let far = c.loop-staged-test.false in
    let long = ap (λ (v : List ReadyPart). length v) c.as_slice-staged-items.ensures in
    let all = front_all c.args.ready.now c.loop-staged.staged-index (omega (arith, far, long)) in
    subst (λ (v : List ReadyPart). AreDropped g.S.Store.state v c.args.groups.now.items c.loop-staged.groups.items) all c.loop-staged.invariant
