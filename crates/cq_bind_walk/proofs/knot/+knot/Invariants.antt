use Rattle.cq_bind_walk.specs.Sizes.{expr_size, select_size}
use Rattle.cq_bind_walk.proofs.knot.+knot.Given as goal

abbrev pub decreases-expr : goal.decreases-expr
decreases-expr l = expr_size l.e.now

abbrev pub decreases-select : goal.decreases-select
decreases-select l = select_size l.q.now
