use Rattle.std.proofs.Common.{rules, ◌≡◌, ◌≢◌, pos, arith, true, sym, subst, ◌∙◌}
use Rattle.std.proofs.lemmas.Option.{IfSome_then}
use Rattle.cq_meaning.specs.Widths.{IsBound}
use Rattle.cq_bind.specs.TreeLists.{IsBoundArm}
use Rattle.cq_bind.proofs.Nodes.{made_neg, made_add, made_sub, made_mul, made_div, made_rem, made_case, made_coalesce, bound_and, bound_or, bound_not}
use Rattle.cq_bind.proofs.StepLaws.{all_more, all_step, arms_step}
use Rattle.cq_bind.proofs.widths.+bits.Goals as goal

pub bits_of-returns-in_ok-k-in-Neg : goal.bits_of-returns-in_ok-k-in-Neg
bits_of-returns-in_ok-k-in-Neg t c = rw c.in-Neg.is (IfSome_then c.raised.result c.raised.ensures (λ r p. made_neg _ _ c.in-Neg.a _ r (rw c.get.ensures at c.in_ok-k-in-Neg.ensures) p))

pub bits_of-returns-in_ok-k-in-Add : goal.bits_of-returns-in_ok-k-in-Add
bits_of-returns-in_ok-k-in-Add t c =
    rw c.in-Add.is (IfSome_then c.joined.result c.joined.ensures (λ r p. made_add _ _ c.in-Add.a c.in-Add.b _ _ r (rw c.get-in-Add.ensures at c.in_ok-j-in-Add.ensures) (rw c.get-in-Add-2.ensures at c.in_ok-k-in-Add.ensures) p))

pub bits_of-returns-in_ok-k-in-Sub : goal.bits_of-returns-in_ok-k-in-Sub
bits_of-returns-in_ok-k-in-Sub t c =
    rw c.in-Sub.is (IfSome_then c.joined-in-Sub.result c.joined-in-Sub.ensures (λ r p. made_sub _ _ c.in-Sub.a c.in-Sub.b _ _ r (rw c.get-in-Sub.ensures at c.in_ok-j-in-Sub.ensures) (rw c.get-in-Sub-2.ensures at c.in_ok-k-in-Sub.ensures) p))

pub bits_of-returns-in_ok-k-in-Mul : goal.bits_of-returns-in_ok-k-in-Mul
bits_of-returns-in_ok-k-in-Mul t c =
    rw c.in-Mul.is (IfSome_then c.multiplied.result c.multiplied.ensures (λ r p. made_mul _ _ c.in-Mul.a c.in-Mul.b _ _ r (rw c.get-in-Mul.ensures at c.in_ok-j-in-Mul.ensures) (rw c.get-in-Mul-2.ensures at c.in_ok-k-in-Mul.ensures) p))

pub bits_of-returns-else-c-eq0 : goal.bits_of-returns-else-c-eq0
bits_of-returns-else-c-eq0 t c =
    let some : c.in-Div.c ≢ pos 0 = search rules in
    rw c.in-Div.is (IfSome_then c.raised-else-c-eq0.result c.raised-else-c-eq0.ensures (λ r p. made_div _ _ c.in-Div.a c.in-Div.c _ r some (rw c.get-in-Div.ensures at c.in_ok-k-in-Div.ensures) p))

pub bits_of-returns-else-c-eq0-2 : goal.bits_of-returns-else-c-eq0-2
bits_of-returns-else-c-eq0-2 t c =
    let some : c.in-Rem.c ≢ pos 0 = search rules in
    rw c.in-Rem.is (IfSome_then c.same.result c.same.ensures (λ r p. made_rem _ _ c.in-Rem.a c.in-Rem.c _ r some (rw c.get-in-Rem.ensures at c.in_ok-k-in-Rem.ensures) p))

pub bits_of-returns-in_ok-k-in-Case : goal.bits_of-returns-in_ok-k-in-Case
bits_of-returns-in_ok-k-in-Case t c =
    rw (c.in-Case.is, c.max.ensures) (made_case _ _ c.in-Case.arms c.in-Case.other _ _ (rw c.as_slice.ensures at c.in_ok-j-in-Case.ensures) (rw c.get-in-Case.ensures at c.in_ok-k-in-Case.ensures))

pub bits_of-returns-in-Coalesce : goal.bits_of-returns-in-Coalesce
bits_of-returns-in-Coalesce t c = rw c.in-Coalesce.is (IfSome_then c.bits_of_all.result c.bits_of_all.ensures (λ r p. made_coalesce _ _ c.in-Coalesce.es r (rw c.as_slice-in-Coalesce.ensures at p)))

pub bits_of_all-loop-e-preserved : goal.bits_of_all-loop-e-preserved
bits_of_all-loop-e-preserved t c = record {
  most = rw c.max-most.ensures (all_step c.args.ks.now c.args.es.now c.loop-e.e-index c.e-item.result c.loop-e.most c.in_ok-k.k _ (omega arith) c.e-item.is c.in_ok-k.ensures.0 c.loop-e.invariant.most);
  bound = all_more (IsBound c.args.ks.now c.args.n) c.args.es.now c.loop-e.e-index c.e-item.result (omega arith) c.e-item.is c.loop-e.invariant.bound c.in_ok-k.ensures.1;
}

pub bits_of_arms-loop-arm-preserved : goal.bits_of_arms-loop-arm-preserved
bits_of_arms-loop-arm-preserved t c =
    let when = c.is_bound.ensures (search rules) in
    record {
      most = rw c.max-most.ensures (arms_step c.args.ks.now c.args.arms.now c.loop-arm.arm-index c.arm-item.result c.loop-arm.most c.in_ok-k.k _ (omega arith) c.arm-item.is c.in_ok-k.ensures.0 c.loop-arm.invariant.most);
      bound = all_more (IsBoundArm c.args.ks.now c.args.n) c.args.arms.now c.loop-arm.arm-index c.arm-item.result (omega arith) c.arm-item.is c.loop-arm.invariant.bound (when, c.in_ok-k.ensures.1);
    }

pub is_bound-returns-then-is_bound : goal.is_bound-returns-then-is_bound
is_bound-returns-then-is_bound t c h = rw c.in-And.is (bound_and _ _ c.in-And.a c.in-And.b (rw c.get.ensures at (c.is_bound.ensures c.if-is_bound.true)) (rw c.get-then-is_bound.ensures at (c.is_bound-then-is_bound.ensures h)))

pub is_bound-returns-then-is_bound-2 : goal.is_bound-returns-then-is_bound-2
is_bound-returns-then-is_bound-2 t c h = rw c.in-Or.is (bound_or _ _ c.in-Or.a c.in-Or.b (rw c.get-in-Or.ensures at (c.is_bound-in-Or.ensures c.if-is_bound-2.true)) (rw c.get-then-is_bound-2.ensures at (c.is_bound-then-is_bound-2.ensures h)))

pub is_bound-returns-in-Not : goal.is_bound-returns-in-Not
is_bound-returns-in-Not t c h = rw c.in-Not.is (bound_not _ _ c.in-Not.a (rw c.get-in-Not.ensures at (c.is_bound-in-Not.ensures h)))
