-- The text of the journals: a line of each group with its node, and a line of each entry.
use Rattle.std.specs.Prelude.{ℕ, List, ◌++◌, flat_map, codes, decimal, nat_eq, if◌then◌else◌}
use Rattle.cq_value.specs.Tables.{empty_table}
use Rattle.cq_tree.specs.declared.journal.Entry.{Entry}
use Rattle.cq_tree.specs.declared.journal.EntryKind.{EntryKind}
use Rattle.cq_tree.specs.declared.journal.EntryKind.TheVariants.{Read, Write, MoveStart, CatchUp, Cutover, MoveStop}
use Rattle.cq_tree.specs.declared.write.Reply.{Reply}
use Rattle.cq_tree.specs.declared.write.Reply.TheVariants.{Count, Duplicate, OutOfRange}
use Rattle.cq_journal.specs.declared.journal.Journal.{Journal}
use Rattle.cq_journal.specs.Records as records
use Rattle.cq_journal.specs.Stations.{node_of}

unfoldable pub reply_text : Reply → List ℕ
reply_text (Count n) = codes " write " ++ decimal n
reply_text Duplicate = codes " write duplicate"
reply_text OutOfRange = codes " write range"

unfoldable pub kind_text : EntryKind → List ℕ
kind_text Read = codes " read"
kind_text (Write op reply) = reply_text reply
kind_text (MoveStart to) = codes " move " ++ decimal to
kind_text CatchUp = codes " catchup"
kind_text Cutover = codes " cutover"
kind_text MoveStop = codes " stop"

-- the statement whose entry it is, and what the entry says
unfoldable pub entry_text : Entry → List ℕ
entry_text e = decimal e.who.session ++ codes "." ++ decimal e.who.statement ++ kind_text e.kind ++ codes "\n"

-- a journal, as a group's node is read from it
abbrev pub record_of : Journal → records.Journal
record_of j = record { number = j.group; opening = j.opening; base = λ table. empty_table; entries = j.entries.list }

-- a reference group is on every node
unfoldable pub place_text : Journal → List ℕ
place_text j = if nat_eq j.opening 0 then codes " reference" else codes " node " ++ decimal (node_of (record_of j))

unfoldable pub group_text : Journal → List ℕ
group_text j = codes "group " ++ decimal j.group ++ place_text j ++ codes "\n"

unfoldable pub journal_text : Journal → List ℕ
journal_text j = group_text j ++ flat_map entry_text j.entries.list

unfoldable pub journals_text : List Journal → List ℕ
journals_text journals = codes "journal\n" ++ flat_map journal_text journals
