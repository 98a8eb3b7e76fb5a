use Rattle.std.proofs.Common.{None}
use Rattle.cq_value.specs.declared.schema.With.TheVariants as with
use Rattle.cq_reading.specs.Statements.{with_argument, distribution_option}
use Rattle.cq_bind_statements.proofs.ThroughLaws.{StandsAt}
use Rattle.cq_bind_statements.proofs.calls.options_of.Given as goal

abbrev pub invariant-loop-argument : goal.invariant-loop-argument
invariant-loop-argument l = StandsAt (with_argument distribution_option) l.arguments (record { count = None; with = with.Default }) l.argument-index l.options
