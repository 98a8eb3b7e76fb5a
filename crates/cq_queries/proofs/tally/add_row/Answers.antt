use Rattle.std.proofs.Common.{◌∙◌, sym, ap, arith}
use Rattle.std.proofs.Math.ListN.{set}
use Rattle.std.proofs.lemmas.List.Edits.{map_over_more}
use Rattle.cq_queries.specs.Cells.{row_in}
use Rattle.cq_queries.specs.Tallies.{tally_with}
use Rattle.cq_queries.proofs.tally.add_row.Goals as goal

pub loop-t-preserved : goal.loop-t-preserved
loop-t-preserved c =
    let f = tally_with c.args.results.now (row_in c.args.row) in
    ap (λ t. set c.loop-t.t-items c.loop-t.t-index t) c.add.ensures
    ∙ (ap (λ t. set c.loop-t.t-items c.loop-t.t-index (f t)) (sym c.t-item.is)
    ∙ map_over_more f c.deref_mut-t-items.result.now c.loop-t.t-items c.loop-t.t-index c.t-item.result (omega arith) c.loop-t.invariant c.t-item.is)
