use Rattle.std.proofs.Common.{◌≡◌, take, ◌≤◌, ◌^◌}
use Rattle.cq_shape.specs.Labels.{columns_of}
use Rattle.cq_shape.proofs.labels.columns_of_pairs.Given as goal

abbrev pub invariant-loop-pair : goal.invariant-loop-pair
invariant-loop-pair l = record {
  same : l.count ≡ columns_of (take l.pair-index l.pairs);
  fits : l.count ≤ 2 ^ 32;
}
