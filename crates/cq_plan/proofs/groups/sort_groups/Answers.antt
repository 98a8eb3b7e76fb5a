use Rattle.std.proofs.Common.{sym, ◌∙◌}
use Rattle.cq_plan.proofs.NumberLaws.{kept_group, left_group}
use Rattle.cq_plan.proofs.groups.sort_groups.Goals as goal
use Rattle.cq_plan.proofs.groups.sort_groups.Goals.{then-is_among+in_ok-put, else-is_among}

pub loop-group-preserved : goal.loop-group-preserved
loop-group-preserved c = elim c.if-is_among.branch [
  | then-is_among+in_ok-put w ↦ (let e = kept_group c.args.groups.now c.loop-group.list c.loop-group.group (sym c.is_among.ensures ∙ w.if-is_among.true) c.loop-group.invariant in cc (e, w.in_ok-put.ensures.ok, w.list-is))
  | else-is_among w ↦ (let e = left_group c.args.groups.now c.loop-group.list c.loop-group.group (sym c.is_among.ensures ∙ w.if-is_among.false) c.loop-group.invariant in cc (e, w.list-is))
]
