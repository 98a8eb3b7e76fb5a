use Rattle.std.proofs.Common.{◌+◌, ◌≤◌, sym, subst}
use Rattle.cq_catalog.specs.Contents.{Contents}
use Rattle.cq_catalog.specs.Whole.{contents}
use Rattle.cq_catalog.proofs.WholeLaws.{whole_grouped}
use Rattle.cq_catalog.proofs.catalog.Catalog.reference.Goals as goal

pub invariant_of-self : goal.invariant_of-self
invariant_of-self c =
    whole_grouped (contents c.self.inside.tables c.self.inside.colocations c.self.inside.groups c.self.inside.next_shard) c.self.invariant
    (subst (λ (v : Contents). v.groups + 1 ≤ 512) (sym c.self.view_is) c.in_ok-opened.ensures.room)
