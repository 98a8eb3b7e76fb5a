use Rattle.std.proofs.Common.{◌≡◌, filter}
use Rattle.std.specs.List.{list_any}
use Rattle.cq_meaning.specs.Values.{same_value}
use Rattle.cq_shape.proofs.members.kept_among.Given as goal

abbrev pub invariant-loop-value : goal.invariant-loop-value
invariant-loop-value l = l.kept ≡ filter (λ v. list_any (same_value v) l.others) l.yielded
