use Rattle.cq_bound_laws.proofs.NestedStatements.{texts_nested, explained_nested}
use Rattle.cq_bound_laws.proofs.scope_laws.Goals as goal

pub returns : goal.returns
returns c = record { texts = texts_nested; explained = explained_nested }
