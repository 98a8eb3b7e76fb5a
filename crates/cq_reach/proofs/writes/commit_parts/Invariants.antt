use Rattle.std.proofs.Common.{◌≡◌, ◌++◌, length}
use Rattle.std.specs.List.{sum_by}
use Rattle.std.specs.Vec.Iter.{into_iter_items, into_iter_len}
use Rattle.cq_reach.specs.Staging.{AreEntered, count_in}
use Rattle.cq_reach.proofs.writes.commit_parts.Given as goal

abbrev pub invariant-loop-part : goal.invariant-loop-part
invariant-loop-part g l = let rest = into_iter_items l.part-iterator in record {
  left : into_iter_len l.part-iterator ≡ length rest;
  all : into_iter_items l.initial.part-iterator ≡ l.yielded ++ rest;
  entered : AreEntered g.S.Store.state l.fn.who l.yielded l.initial.groups.items l.groups.items;
  sum : l.sum ≡ sum_by count_in l.yielded;
}
