use Rattle.std.proofs.Common.{◌≡◌, drop}
use Rattle.cq_bind_looks.specs.Marks as marks
use Rattle.cq_bind_looks.proofs.marks.+bears.Given as goal

abbrev pub invariant-added_bear-loop-later : goal.invariant-added_bear-loop-later
invariant-added_bear-loop-later l = marks.added_bear l.mark l.rest ≡ marks.added_bear l.mark (drop l.later-index l.rest)

abbrev pub invariant-arms_bear-loop-arm : goal.invariant-arms_bear-loop-arm
invariant-arms_bear-loop-arm l = marks.arms_bear l.mark l.arms ≡ marks.arms_bear l.mark (drop l.arm-index l.arms)

abbrev pub invariant-chained_bear-loop-later : goal.invariant-chained_bear-loop-later
invariant-chained_bear-loop-later l = marks.chained_bear l.mark l.rest ≡ marks.chained_bear l.mark (drop l.later-index l.rest)

abbrev pub invariant-items_bear-loop-item : goal.invariant-items_bear-loop-item
invariant-items_bear-loop-item l = marks.items_bear l.mark l.items ≡ marks.items_bear l.mark (drop l.item-index l.items)

abbrev pub invariant-multiplied_bear-loop-later : goal.invariant-multiplied_bear-loop-later
invariant-multiplied_bear-loop-later l = marks.multiplied_bear l.mark l.rest ≡ marks.multiplied_bear l.mark (drop l.later-index l.rest)
