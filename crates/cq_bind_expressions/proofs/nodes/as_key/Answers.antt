use Rattle.std.proofs.Common.{subst}
use Rattle.cq_reading.specs.Outcomes.{Binds}
use Rattle.cq_reading.specs.Rules as rule
use Rattle.cq_reading.specs.Scopes as scopes
use Rattle.cq_reading.specs.Walk.{part_of}
use Rattle.cq_bind_expressions.proofs.nodes.as_key.Goals as goal

pub returns : goal.returns
returns g c =
    c.key_in.ensures ((part_of c.args.e.now).node (scopes.plain c.args.scope.now) rule.nothing) c.node-attempt.new.found
    (subst (λ z. Binds ((part_of c.args.e.now).node z rule.nothing) c.node-attempt.result c.node-attempt.new.found) c.plain.ensures
    (subst (λ z. Binds ((part_of c.args.e.now).node c.plain.result z) c.node-attempt.result c.node-attempt.new.found) c.nothing-found.ensures c.node-attempt.ensures))
