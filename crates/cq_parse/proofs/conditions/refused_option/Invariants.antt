use Rattle.std.proofs.Common.{◌≡◌, drop}
use Rattle.cq_grammar.specs.Conditions as spec
use Rattle.cq_parse.proofs.conditions.refused_option.Given as goal

abbrev pub invariant-loop-token : goal.invariant-loop-token
invariant-loop-token l = spec.refused_option spec.no_options l.tokens ≡ spec.refused_option l.seen (drop l.token-index l.tokens)
