use Rattle.std.proofs.Common.{◌≡◌, length}
use Rattle.cq_grammar.specs.Words.{of}
use Rattle.cq_parse_steps.proofs.parser.is_of.Given as goal

abbrev pub invariant-kinds : goal.invariant-kinds
invariant-kinds l = of l.kinds l.kind ≡ of l.rest l.kind

abbrev pub decreases-kinds : goal.decreases-kinds
decreases-kinds l = length l.rest
