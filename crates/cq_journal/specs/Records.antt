-- The journal of a shard group, as answers are judged by it.
use Rattle.std.specs.Prelude.{ℕ, List}
use Rattle.cq_value.specs.Tables.{Table}
use Rattle.cq_tree.specs.declared.journal.Entry.{Entry}

pub record Journal : Type 0 where
  pub number : ℕ
  -- the node on which the group was as the entries began, 0 for a reference group
  pub opening : ℕ
  -- what it held then of each table
  pub base : ℕ → Table
  pub entries : List Entry
