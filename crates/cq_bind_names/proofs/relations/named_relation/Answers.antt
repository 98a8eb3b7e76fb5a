use Rattle.std.proofs.Common.{ap, sym, ◌∙◌}
use Rattle.cq_reading.specs.Scopes.{World}
use Rattle.cq_bind_names.proofs.Readings.{by_common, by_table}
use Rattle.cq_bind_names.proofs.relations.named_relation.Goals as goal

pub returns-in-Some : goal.returns-in-Some
returns-in-Some c =
    by_common c.args.world.now c.args.name.now c.args.alias.now c.args.names.now c.world.inside.commons.now c.in-Some.place c.common_at.result
    (ap (λ (w : World). w.commons) c.world.view_is) (sym c.common_place.ensures ∙ c.in-Some.is) c.common_at.ensures

pub returns-in-None : goal.returns-in-None
returns-in-None c =
    by_table c.args.world.now c.args.name.now c.args.alias.now c.args.names.now c.world.inside.commons.now c.catalog_relation.result
    (ap (λ (w : World). w.commons) c.world.view_is) (sym c.common_place.ensures ∙ c.in-None.is) c.catalog_relation.ensures
