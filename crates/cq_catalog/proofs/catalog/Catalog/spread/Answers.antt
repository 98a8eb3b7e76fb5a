use Rattle.std.proofs.Common.{sym, subst}
use Rattle.cq_catalog.specs.Contents.{Contents}
use Rattle.cq_catalog.specs.Whole.{contents, IsLocalAt, TakesIds}
use Rattle.cq_catalog.proofs.WholeLaws.{whole_spread}
use Rattle.cq_catalog.proofs.catalog.Catalog.spread.Goals as goal

pub invariant_of-self : goal.invariant_of-self
invariant_of-self c =
    rw (c.set_place.ensures, c.from.ensures) (whole_spread (contents c.self.inside.tables c.self.inside.colocations c.self.inside.groups c.self.inside.next_shard) c.args.table c.args.place c.args.shards c.self.invariant
    (subst (λ (v : Contents). IsLocalAt v c.args.table) (sym c.self.view_is) c.requires.local)
    (subst (λ (v : Contents). TakesIds v c.args.place c.args.shards) (sym c.self.view_is) c.requires.ids))
