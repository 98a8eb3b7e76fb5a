use Rattle.cq_reading.specs.Statements.{with_argument, no_option}
use Rattle.cq_bind_statements.proofs.ThroughLaws.{StandsAt}
use Rattle.cq_bind_statements.proofs.calls.check_unnamed.Given as goal

abbrev pub invariant-loop-argument : goal.invariant-loop-argument
invariant-loop-argument l = StandsAt (with_argument no_option) l.arguments tt l.argument-index tt
