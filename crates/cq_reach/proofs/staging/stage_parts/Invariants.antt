use Rattle.std.proofs.Common.{◌≡◌, ◌++◌, length}
use Rattle.std.specs.Vec.Iter.{into_iter_items, into_iter_len}
use Rattle.cq_reach.specs.Staging.{AreStaged}
use Rattle.cq_reach.proofs.Stopping.{parts_of}
use Rattle.cq_reach.proofs.staging.stage_parts.Given as goal

abbrev pub invariant-loop-part : goal.invariant-loop-part
invariant-loop-part g l = let rest = into_iter_items l.part-iterator in record {
  left : into_iter_len l.part-iterator ≡ length rest;
  all : into_iter_items l.initial.part-iterator ≡ parts_of l.ready ++ rest;
  staged : AreStaged g.S.Store.state l.ready l.initial.groups.items l.groups.items;
}
