use Rattle.std.proofs.Common.{false}
use Rattle.cq_reading.specs.Statements.{with_argument, rebalance_option}
use Rattle.cq_bind_statements.proofs.ThroughLaws.{StandsAt}
use Rattle.cq_bind_statements.proofs.calls.by_size.Given as goal

abbrev pub invariant-loop-argument : goal.invariant-loop-argument
invariant-loop-argument l = StandsAt (with_argument rebalance_option) l.arguments false l.argument-index l.by_size
