use Rattle.std.proofs.Common.{◌≡◌, ℕ, ◌<◌, max, drop}
use Rattle.std.specs.Prelude.{slice_index_or}
use Rattle.cq_tree.specs.declared.expression.Expr.{Expr}
use Rattle.cq_tree.specs.declared.expression.Arm.{Arm}
use Rattle.cq_meaning.specs.Widths.{IsBound}
use Rattle.cq_bind.specs.TreeLists.{bits_of_arms_in, bits_of_all_in, IsBoundArm}
use Rattle.cq_bind.proofs.widths.+bits.Given as goal

abbrev pub invariant-bits_of_arms-loop-arm : goal.invariant-bits_of_arms-loop-arm
invariant-bits_of_arms-loop-arm l = record {
  most : max l.most (bits_of_arms_in l.ks (drop l.arm-index l.arms)) ≡ bits_of_arms_in l.ks l.arms;
  bound : (k : ℕ) (d : Arm) → k < l.arm-index → IsBoundArm l.ks l.n (slice_index_or l.arms k d);
}

abbrev pub invariant-bits_of_all-loop-e : goal.invariant-bits_of_all-loop-e
invariant-bits_of_all-loop-e l = record {
  most : max l.most (bits_of_all_in l.ks (drop l.e-index l.es)) ≡ bits_of_all_in l.ks l.es;
  bound : (k : ℕ) (d : Expr) → k < l.e-index → IsBound l.ks l.n (slice_index_or l.es k d);
}
