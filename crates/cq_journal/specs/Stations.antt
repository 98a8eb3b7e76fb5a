-- Where a shard group is, by its journal.
use Rattle.std.specs.Prelude.{ℕ, Option, Some, None, fold}
use Rattle.cq_tree.specs.declared.journal.Who.{Who}
use Rattle.cq_tree.specs.declared.journal.Entry.{Entry}
use Rattle.cq_tree.specs.declared.journal.EntryKind.{EntryKind}
use Rattle.cq_tree.specs.declared.journal.EntryKind.TheVariants.{MoveStart, Cutover, MoveStop}
use Rattle.cq_journal.specs.Records.{Journal}

-- the group's node, who is moving it, and where to
pub record Station : Type 0 where
  pub node : ℕ
  pub moving : Option Who
  pub target : ℕ

abbrev pub moved : Station → Who → EntryKind → Station
moved s who (MoveStart to) = record { node = s.node; moving = Some who; target = to }
moved s who Cutover = record { node = s.target; moving = None; target = s.target }
moved s who MoveStop = record s { moving = None }
moved s who kind = s

abbrev pub station_of : Journal → Station
station_of j = fold (λ s (e : Entry). moved s e.who e.kind) (record { node = j.opening; moving = None; target = j.opening }) j.entries

abbrev pub node_of : Journal → ℕ
node_of j = (station_of j).node

abbrev pub moving_of : Journal → Option Who
moving_of j = (station_of j).moving
