use Rattle.std.proofs.Common.{◌∙◌, ap}
use Rattle.cq_catalog.specs.Contents.{with_place}
use Rattle.cq_catalog.proofs.NamedLaws.{named_set, values_set}
use Rattle.cq_catalog.proofs.named.NamedTables.set_place.Goals as goal

pub invariant_of-self : goal.invariant_of-self
invariant_of-self c = named_set c.self.inside.by_name.entries c.args.number c.index_mut.result.now c.args.place c.index_mut.ensures.value c.self.invariant

pub returns : goal.returns
returns c = values_set c.self.inside.by_name.entries c.args.number c.index_mut.result.now c.args.place c.index_mut.ensures.value ∙ ap (λ ts. with_place ts c.args.number c.args.place) c.self.view_is
