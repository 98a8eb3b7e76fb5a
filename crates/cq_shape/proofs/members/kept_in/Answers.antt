use Rattle.std.proofs.Common.{◌≡◌, subst}
use Rattle.std.specs.Prelude.{IfOk}
use Rattle.cq_shape.proofs.MemberLaws.{among_permuted}
use Rattle.cq_shape.proofs.members.kept_in.Goals as goal

pub returns : goal.returns
returns c =
    subst (λ u. IfOk c.kept_among.result (λ kept. kept ≡ u))
    (among_permuted c.args.others.now c.as_slice.result.now (rw c.as_slice.ensures (rw c.in_ok-copy_values.ensures at c.in_ok-sorted.ensures.permutation)) c.args.values)
    c.kept_among.ensures
