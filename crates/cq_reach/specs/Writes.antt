-- What a write does to several shard groups.
use Rattle.std.specs.Prelude.{◌≡◌, ◌+◌, ◌≤◌, ◌<◌, ⊤, ℕ, List, [], ◌∷◌, ◌++◌, length, Some, slice_get, Result, Ok, Err}
use Rattle.std.specs.List.{AllByRecursion, sum_by}
use Rattle.cq_tree.specs.declared.journal.Who.{Who}
use Rattle.cq_tree.specs.declared.journal.EntryKind.TheVariants as entry
use Rattle.cq_tree.specs.declared.failure.StoreFailure.{StoreFailure}
use Rattle.cq_tree.specs.declared.write.Reply.{Reply}
use Rattle.cq_tree.specs.declared.write.Reply.TheVariants.{Count, Duplicate, OutOfRange}
use Rattle.cq_tree.specs.declared.write.ShardOp.{ShardOp}
use Rattle.cq_meaning.specs.Effects.{reply_of, table_of, inserts, IsSafeWrite}
use Rattle.cq_journal.specs.Journals.{most_ids}
use Rattle.cq_journal.specs.Replies.{IsMade}
use Rattle.cq_history.specs.Journals.{Kinds, in_each, none}
use Rattle.cq_history.specs.Deeds.{Grows}
use Rattle.cq_router.specs.declared.insertion.Part.{Part}
use Rattle.cq_reach.specs.declared.error.WriteError.{WriteError}
use Rattle.cq_reach.specs.declared.error.WriteError.TheVariants.{Ids, Worker, Memory}
use Rattle.cq_reach.specs.Seen.{Seen, journals_in, HasTable, shape_seen, held, FailsIn}
use Rattle.cq_reach.specs.Outlook.{Outlook, Meets}

-- ---- in one group

-- the reply of a write over what a group holds
abbrev pub reply_over : Seen → ShardOp → Reply
reply_over s op = reply_of op (held s (table_of op)) (shape_seen s (table_of op))

abbrev pub next_id : Seen → ℕ → ℕ
next_id s table = (held s table).next

-- the group has ids for the rows that a write inserts
abbrev pub HasIds : Seen → ShardOp → Type 0
HasIds s op = next_id s (table_of op) + length (inserts op) ≤ most_ids

abbrev pub LacksIds : Seen → ShardOp → Type 0
LacksIds s op = most_ids < next_id s (table_of op) + length (inserts op)

-- it can be computed over each row that the group holds of its table
abbrev pub CanCompute : Seen → ShardOp → Type 0
CanCompute s op = IsSafeWrite op (held s (table_of op)).pairs

-- ---- parts

-- a fact of the group of a part
pub record InGroup {A : Type 0} (groups : List A) (p : Part) (P : A → Type 0) : Type 0 where
  pub group : A
  pub there : slice_get groups p.group ≡ Some group
  pub holds : P group

-- a part can be made in its group however a statement may find it: the statement may enter it there, the group has its table, and can compute it
pub record CanTake (o : Outlook) (p : Part) : Type 0 where
  pub within : p.group < length o.known
  pub allowed : (reply : Reply) → o.allows p.group (entry.Write p.op reply)
  pub takes : (s : Seen) → Meets o p.group s → HasTable s (table_of p.op) × CanCompute s p.op

-- a part has this reply, and ids
abbrev pub Replies : List Seen → Part → Reply → Type 0
Replies groups p reply = InGroup groups p (λ (s : Seen). (reply_over s p.op ≡ reply) × HasIds s p.op)

-- a part could be made
abbrev pub IsReadyIn : List Seen → Part → Type 0
IsReadyIn groups p = InGroup groups p (λ (s : Seen). IsMade (reply_over s p.op) × HasIds s p.op)

-- parts in ascending order of group, each group once
abbrev pub AscendFrom : ℕ → List Part → Type 0
AscendFrom low [] = ⊤
AscendFrom low (p ∷ ps) = (low ≤ p.group) × AscendFrom (p.group + 1) ps

-- ---- what a write came to, in the groups as they were found

-- these entries were made in them
abbrev pub Enters : Who → Kinds → List Seen → List Seen → Type 0
Enters who kinds found new = Grows who kinds (journals_in found) (journals_in new)

-- one Write in the group of each of these parts, with its count
abbrev pub entered : (Part → ℕ) → List Part → Kinds
entered counts [] g = []
entered counts (p ∷ ps) g = in_each (p.group ∷ []) (λ h. entry.Write p.op (Count (counts p))) g ++ entered counts ps g

-- every part was made, and the counts' sum is this
pub record AreMade (who : Who) (parts : List Part) (found new : List Seen) (n : ℕ) : Type 0 where
  pub counts : Part → ℕ
  pub sum : n ≡ sum_by counts parts
  pub replied : AllByRecursion (λ (p : Part). Replies found p (Count (counts p))) parts
  pub enters : Enters who (entered counts parts) found new

-- the parts before this one could be made
pub record IsStopped (parts : List Part) (found : List Seen) (part : Part) : Type 0 where
  pub front : List Part
  pub back : List Part
  pub all : parts ≡ front ++ part ∷ back
  pub ready : AllByRecursion (IsReadyIn found) front

-- one part was refused, which alone has an entry, after those before it could be made
pub record IsRefused (who : Who) (parts : List Part) (found new : List Seen) (reply : Reply) : Type 0 where
  pub part : Part
  pub stopped : IsStopped parts found part
  pub replied : Replies found part reply
  pub enters : Enters who (in_each (part.group ∷ []) (λ h. entry.Write part.op reply)) found new

-- no part has an entry, since this is so of the group of one, after those before it could be made
pub record IsUnmade (who : Who) (parts : List Part) (found new : List Seen) (why : Part → Seen → Type 0) : Type 0 where
  pub part : Part
  pub stopped : IsStopped parts found part
  pub so : InGroup found part (why part)
  pub enters : Enters who none found new

-- what a write over these parts came to: the group of one has too few ids, or a store of it failed, where it isn't made or refused
abbrev pub IsWritten : Who → List Part → List Seen → List Seen → Result Reply WriteError → Type 0
IsWritten who parts found new (Ok (Count n)) = AreMade who parts found new n
IsWritten who parts found new (Ok Duplicate) = IsRefused who parts found new Duplicate
IsWritten who parts found new (Ok OutOfRange) = IsRefused who parts found new OutOfRange
IsWritten who parts found new (Err Ids) = IsUnmade who parts found new (λ p s. LacksIds s p.op)
IsWritten who parts found new (Err (Worker f)) = IsUnmade who parts found new (λ p s. FailsIn s f)
IsWritten who parts found new (Err Memory) = Enters who none found new

-- where an error names a store, this holds of it
abbrev pub IfLost : (StoreFailure → Type 0) → WriteError → Type 0
IfLost P Ids = ⊤
IfLost P (Worker f) = P f
IfLost P Memory = ⊤
