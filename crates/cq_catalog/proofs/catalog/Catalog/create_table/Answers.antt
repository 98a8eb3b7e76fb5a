use Rattle.std.proofs.Common.{◌<◌, ◌≤◌, length, sym, subst}
use Rattle.cq_catalog.specs.Contents.{Contents}
use Rattle.cq_catalog.specs.Whole.{contents}
use Rattle.cq_catalog.proofs.WholeLaws.{whole_created}
use Rattle.cq_catalog.proofs.catalog.Catalog.create_table.Goals as goal

pub invariant_of-self-2 : goal.invariant_of-self-2
invariant_of-self-2 c = rw c.in_ok-put.ensures.ok
    (whole_created (contents c.self.inside.tables c.self.inside.colocations c.self.inside.groups c.self.inside.next_shard) c.in_ok-copy.field-0 c.args.columns c.args.key c.self.invariant
    (subst (λ n. length n ≤ 64) c.as_slice.ensures c.in_ok-check_creation.ensures.few)
    (subst (λ (v : Contents). length v.tables < 64) (sym c.self.view_is) c.in_ok-check_creation.ensures.room))
