use Rattle.std.proofs.Common.{◌<◌, length, arith}
use Rattle.cq_journal_text.proofs.StationLaws.{node_more}
use Rattle.cq_journal_text.proofs.station.node_of.Goals as goal

pub loop-entry-preserved : goal.loop-entry-preserved
loop-entry-preserved c =
    let within : c.loop-entry.entry-index < length c.as_slice-entry-items.result.now = omega arith in
    node_more c.as_slice-entry-items.result.now c.loop-entry.entry-index c.entry-item.result c.loop-entry.station.node c.loop-entry.station.target _ _ _ within c.entry-item.is
    (c.pass.ensures.node _ _) (c.pass.ensures.target _ _) c.loop-entry.invariant
