use Rattle.cq_reading.specs.Scopes as scopes
use Rattle.cq_reading.specs.Rules as rule
use Rattle.cq_reading.specs.Walk.{part_of}
use Rattle.cq_bind_expressions.proofs.Productions.{keyed_then}
use Rattle.cq_bind_expressions.proofs.nodes.keyed.Goals as goal

pub returns : goal.returns
returns g c = keyed_then c.args.scope.now.keys ((part_of c.args.e.now).node (scopes.plain c.args.scope.now) rule.nothing) _ _ _ _ _ c.in_ok-key.ensures c.or_node.ensures
