use Rattle.std.proofs.Common.{take}
use Rattle.cq_reach.specs.Staging.{AreDropped}
use Rattle.cq_reach.proofs.staging.discard_parts.Given as goal

abbrev pub invariant-loop-staged : goal.invariant-loop-staged
invariant-loop-staged g l = AreDropped g.S.Store.state (take l.staged-index l.ready) l.initial.groups.items l.groups.items
