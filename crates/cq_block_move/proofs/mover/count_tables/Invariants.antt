use Rattle.std.proofs.Common.{◌≡◌, ◌≤◌, filter, length}
use Rattle.cq_planning.specs.Touched.{numbers}
use Rattle.cq_history.specs.Looks.{has_shard}
use Rattle.cq_block_move.proofs.mover.count_tables.Given as goal

abbrev pub invariant-loop-table : goal.invariant-loop-table
invariant-loop-table l = record {
  counted : l.count ≡ length (filter (has_shard l.catalog l.group) (numbers 0 l.table));
  low : l.count ≤ l.table;
}
