use Rattle.std.proofs.Common.{rules}
use Rattle.cq_grammar.specs.Descent as descent
use Rattle.cq_parse_expressions.proofs.expressions.null_tests.Goals as goal

pub returns : goal.returns
returns g c = c.many.ensures (λ _. descent.null_test (descent.below (g.N.Nested.left c.args.nested.now))) (λ old new i r lt post. search rules)
