use Rattle.std.proofs.Common.{◌≡◌, length}
use Rattle.cq_grammar.specs.Conditions as spec
use Rattle.cq_parse.proofs.conditions.behind_from.Given as goal

abbrev pub invariant-loop-first : goal.invariant-loop-first
invariant-loop-first l = spec.behind_from l.rest ≡ spec.behind_from l.tokens

abbrev pub decreases-loop-first : goal.decreases-loop-first
decreases-loop-first l = length l.rest
