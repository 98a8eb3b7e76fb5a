use Rattle.std.proofs.Common.{ap, arith}
use Rattle.cq_bind_walk.specs.Sizes.{expr_size, select_size}
use Rattle.cq_bind_walk.proofs.Sizes.{expr_parts, select_parts}
use Rattle.cq_bind_walk.proofs.knot.+knot.Goals as goal

-- each part is smaller than the tree that it stands in, so it may be read
pub expr-reading-requires : goal.expr-reading-requires
expr-reading-requires t c = expr_parts _ _ c.args.e.now
    (λ x h. record { callable = λ old e cx is. (omega (arith, h, ap expr_size is, c.decreases), tt); reads = λ old new e cx r is p. p })
    (λ x h. record { callable = λ old q w is. (omega (arith, h, ap select_size is, c.decreases), tt); reads = λ old new q w r is p. p })

pub select-block-requires : goal.select-block-requires
select-block-requires t c = select_parts _ _ c.args.q.now
    (λ x h. record { callable = λ old e cx is. (omega (arith, h, ap expr_size is, c.decreases), tt); reads = λ old new e cx r is p. p })
    (λ x h. record { callable = λ old q w is. (omega (arith, h, ap select_size is, c.decreases), tt); reads = λ old new q w r is p. p })
