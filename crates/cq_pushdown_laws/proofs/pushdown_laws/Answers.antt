use Rattle.cq_pushdown_laws.proofs.References.{references_suffice}
use Rattle.cq_pushdown_laws.proofs.Serving.{large_below, parts_serve, pushdown_serves}
use Rattle.cq_pushdown_laws.proofs.pushdown_laws.Goals as goal

pub returns-clause-pushdown : goal.returns-clause-pushdown
returns-clause-pushdown c = pushdown_serves

pub returns-clause-parts : goal.returns-clause-parts
returns-clause-parts c = parts_serve

pub returns-clause-large : goal.returns-clause-large
returns-clause-large c = large_below

pub returns-clause-references : goal.returns-clause-references
returns-clause-references c = references_suffice
