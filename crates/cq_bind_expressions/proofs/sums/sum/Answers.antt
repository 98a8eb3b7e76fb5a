use Rattle.std.proofs.Common.{map, subst}
use Rattle.cq_reading.specs.Outcomes.{Binds}
use Rattle.cq_reading.specs.Expressions.{sum_reading, with_added}
use Rattle.cq_reading.specs.Walk.{added_part, part_of}
use Rattle.cq_bind_expressions.proofs.Chains.{binds_chain}
use Rattle.cq_bind_expressions.proofs.sums.sum.Goals as goal

pub returns : goal.returns
returns g c =
    subst (λ rest. Binds (sum_reading (part_of c.args.first.now) (map added_part rest) c.args.scope.now c.args.found.now) c.from_left.result c.from_left.new.found) c.as_slice.ensures
    (binds_chain added_part (λ p. p.part) with_added (part_of c.args.first.now) c.as_slice.result.now c.args.scope.now c.args.found.now c.from_left.result c.from_left.new.found c.from_left.ensures)
