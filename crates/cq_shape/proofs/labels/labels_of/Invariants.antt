use Rattle.std.proofs.Common.{◌≡◌, ℕ, ◌<◌, fold, take, length}
use Rattle.cq_planning.specs.Classes.{merged, itself}
use Rattle.cq_shape.specs.Labels.{label, columns_of}
use Rattle.cq_shape.proofs.labels.labels_of.Given as goal

abbrev pub invariant-loop-pair : goal.invariant-loop-pair
invariant-loop-pair l = record {
  same : label l.labels ≡ fold merged itself (take l.pair-index l.pairs);
  long : length l.labels ≡ columns_of l.pairs;
  below : (x : ℕ) → x < length l.labels → label l.labels x < length l.labels;
}
