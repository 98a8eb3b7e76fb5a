-- The contents that a journal's entries leave of a table, and when the replies in a journal are right.
use Rattle.std.specs.Prelude.{◌≡◌, ℕ, ⊤, List, [], ◌∷◌, take, Some, slice_get, if◌then◌else◌, nat_eq}
use Rattle.cq_value.specs.declared.schema.Shape.{Shape}
use Rattle.cq_value.specs.Tables.{Table, empty_table}
use Rattle.cq_tree.specs.declared.journal.Entry.{Entry}
use Rattle.cq_tree.specs.declared.journal.EntryKind.{EntryKind}
use Rattle.cq_tree.specs.declared.journal.EntryKind.TheVariants.{Read, Write, MoveStart, CatchUp, Cutover, MoveStop}
use Rattle.cq_meaning.specs.Effects.{effect, reply_of, table_of}

-- the most row ids of one table in one shard group
abbrev pub most_ids : ℕ
most_ids = 4294967296

-- a table of this number and shape after one more entry: a write of the table has its effect, everything else leaves it
abbrev pub entered : ℕ → Shape → Table → EntryKind → Table
entered table shape t Read = t
entered table shape t (Write op reply) = if nat_eq (table_of op) table then effect op t shape else t
entered table shape t (MoveStart node) = t
entered table shape t CatchUp = t
entered table shape t Cutover = t
entered table shape t MoveStop = t

abbrev pub replay_from : ℕ → Shape → Table → List Entry → Table
replay_from table shape t [] = t
replay_from table shape t (e ∷ es) = replay_from table shape (entered table shape t e.kind) es

-- what the entries leave of a table that was empty before them
abbrev pub replay : ℕ → Shape → List Entry → Table
replay table shape es = replay_from table shape empty_table es

-- a write's reply is that of its effect over the contents that the entries before it leave
abbrev pub IsReplied : (ℕ → Shape) → List Entry → EntryKind → Type 0
IsReplied shapes before Read = ⊤
IsReplied shapes before (Write op reply) = reply ≡ reply_of op (replay (table_of op) (shapes (table_of op)) before) (shapes (table_of op))
IsReplied shapes before (MoveStart node) = ⊤
IsReplied shapes before CatchUp = ⊤
IsReplied shapes before Cutover = ⊤
IsReplied shapes before MoveStop = ⊤

-- each entry is replied at its place
abbrev pub EachReplied : (ℕ → Shape) → List Entry → Type 0
EachReplied shapes es = (place : ℕ) (e : Entry) → slice_get es place ≡ Some e → IsReplied shapes (take place es) e.kind
