use Rattle.std.proofs.Common.{◌≡◌, length}
use Rattle.cq_strategies.specs.Components.{AreSame}
use Rattle.cq_strategies.proofs.classes.lengthen.Given as goal

abbrev pub invariant-loop-place : goal.invariant-loop-place
invariant-loop-place l = record {
  same : AreSame l.fn.marks.items l.marks.items;
  long : length l.marks.items ≡ l.place;
}
