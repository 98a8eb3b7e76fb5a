use Rattle.std.proofs.Common.{◌≡◌, false, drop}
use Rattle.cq_grammar.specs.Conditions as spec
use Rattle.cq_parse.proofs.conditions.second_primary.Given as goal

abbrev pub invariant-loop-token : goal.invariant-loop-token
invariant-loop-token l = spec.second_primary false l.tokens ≡ spec.second_primary l.seen (drop l.token-index l.tokens)
