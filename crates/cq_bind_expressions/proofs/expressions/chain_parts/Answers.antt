use Rattle.std.proofs.Common.{rules}
use Rattle.cq_reading.specs.Expressions.{read_later}
use Rattle.cq_reading.specs.Walk.{later_part}
use Rattle.cq_bind_calls.proofs.Loops.{binds_next}
use Rattle.cq_bind_expressions.proofs.expressions.chain_parts.Goals as goal

pub returns : goal.returns
returns g c = binds_next (read_later c.args.scope.now) later_part _ _ _ _ _ _ (search (rules, c.first_part.ensures)) c.behind_of.ensures
