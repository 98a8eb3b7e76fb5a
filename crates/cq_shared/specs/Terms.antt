-- What sessions that share groups and workers agree on.
use Rattle.std.specs.Prelude.{ℕ}
use Rattle.cq_tree.specs.declared.journal.EntryKind.{EntryKind}

-- which kinds of entries may be made in the group of a number, on which nodes all stores are steady, and to which nodes groups may be moved
pub record Terms : Type 1 where
  pub allows : ℕ → EntryKind → Type 0
  pub steady : ℕ → Type 0
  pub reaches : ℕ → Type 0
