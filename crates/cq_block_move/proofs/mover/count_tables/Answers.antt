use Rattle.std.proofs.Common.{◌∙◌, sym, arith}
use Rattle.cq_history.specs.Looks.{has_shard}
use Rattle.cq_block_move.proofs.Counting.{counts, skips}
use Rattle.cq_block_move.proofs.mover.count_tables.Goals as goal
use Rattle.cq_block_move.proofs.mover.count_tables.Goals.{then-has_shard, else-has_shard}

pub loop-table-preserved : goal.loop-table-preserved
loop-table-preserved c =
    let table = c.loop-table.table in
    let test = has_shard c.args.catalog.now c.args.group in
    let old = c.loop-table.invariant in
    let low = old.low in
    elim c.if-has_shard.branch [
      | then-has_shard w ↦
          let is = w.count-is in
          let more = counts test table c.loop-table.count old.counted (sym c.has_shard.ensures ∙ w.if-has_shard.true) in
          record { counted = omega (arith, is, more); low = omega (arith, is, low) }
      | else-has_shard w ↦
          let is = w.count-is in
          let same = skips test table c.loop-table.count old.counted (sym c.has_shard.ensures ∙ w.if-has_shard.false) in
          record { counted = omega (arith, is, same); low = omega (arith, is, low) }
    ]
