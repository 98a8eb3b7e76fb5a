use Rattle.std.proofs.Common.{◌≡◌, None, drop}
use Rattle.cq_bind_expressions.specs.Fronts.{IsWithin, behind, front_read, longest}
use Rattle.cq_bind_expressions.specs.Operands.{with_operand}
use Rattle.cq_bind_expressions.proofs.fronts.longest_front.Given as goal

abbrev pub invariant-operands : goal.invariant-operands
invariant-operands g l =
    (longest l.fn.keys g.T.Operand.part (with_operand g.T.Operand.part g.T.Operand.joins l.before) None (front_read l.fn.first l.fn.found) l.fn.rest
    ≡ longest l.fn.keys g.T.Operand.part (with_operand g.T.Operand.part g.T.Operand.joins l.before) (behind l.fn.rest l.search.best) (front_read l.search.front l.found) (drop l.i l.rest))
    × IsWithin l.rest l.search.best
