use Rattle.std.proofs.Common.{ap, sym, ◌∙◌}
use Rattle.cq_reading.specs.Scopes.{World}
use Rattle.cq_bind_names.proofs.Readings.{by_number}
use Rattle.cq_bind_names.proofs.relations.catalog_relation.Goals as goal

pub returns : goal.returns
returns c =
    by_number c.args.world.now c.args.name.now c.args.alias.now c.args.names.now c.world.inside.catalog.now.tables c.in-Some.number c.info-table.result.now
    c.numbered_relation.result (ap (λ (w : World). w.tables) c.world.view_is) (sym c.find.ensures ∙ c.in-Some.is) c.info-table.ensures.value c.numbered_relation.ensures
