use Rattle.std.proofs.Common.{◌∙◌, [], ap, sym, arith}
use Rattle.std.proofs.Math.ListN.{set}
use Rattle.std.proofs.lemmas.List.Edits.{map_over_more}
use Rattle.cq_group.specs.Incoming.{with_due}
use Rattle.cq_group.proofs.incoming.clear.Goals as goal

pub loop-table-preserved : goal.loop-table-preserved
loop-table-preserved g c =
    ap (λ y. set c.loop-table.table-items c.loop-table.table-index y) (λ i. record (sym c.table-item.is i) { pending = c.new.ensures i })
    ∙ map_over_more (with_due []) c.deref_mut-table-items.result.now c.loop-table.table-items c.loop-table.table-index c.table-item.result (omega arith) c.loop-table.invariant c.table-item.is
