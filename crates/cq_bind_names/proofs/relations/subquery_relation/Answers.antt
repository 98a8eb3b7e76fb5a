use Rattle.std.proofs.Common.{◌≡◌, List, IfOk, subst}
use Rattle.cq_reading.specs.declared.bound.Output.{Output}
use Rattle.cq_reading.specs.Scopes.{output_sources}
use Rattle.cq_bind_names.proofs.Readings.{by_parts}
use Rattle.cq_bind_names.proofs.relations.subquery_relation.Goals as goal

pub returns : goal.returns
returns c =
    by_parts c.args.alias.now c.args.names.now c.args.block _ _ _ _ c.under.result c.in_ok-tree.ensures.0 c.in_ok-tree.ensures.1 c.subquery_tree.ensures
    (subst (λ (z : List Output). IfOk c.output_sources-columns.result (λ s. s ≡ output_sources c.args.alias.now.text z)) c.as_slice.ensures c.output_sources-columns.ensures)
    c.under.ensures
