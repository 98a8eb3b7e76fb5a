-- Parts of a write that are staged in their groups, and what one call after another makes of a list of groups.
use Rattle.std.specs.Prelude.{◌≡◌, ◌≢◌, ◌++◌, ⊤, ℕ, List, [], ◌∷◌, length, map, Some, slice_get, Result, Ok, Err}
use Rattle.std.specs.List.{AllByRecursion}
use Rattle.cq_tree.specs.declared.journal.Who.{Who}
use Rattle.cq_tree.specs.declared.journal.EntryKind.TheVariants as entry
use Rattle.cq_tree.specs.declared.write.Reply.{Reply}
use Rattle.cq_tree.specs.declared.write.Reply.TheVariants.{Count, Duplicate, OutOfRange}
use Rattle.cq_tree.specs.declared.write.ShardOp.{ShardOp}
use Rattle.cq_meaning.specs.Effects.{table_of}
use Rattle.cq_journal.specs.Replies.{IsMade, IsRefusal}
use Rattle.cq_store.specs.Stores.{StoreState}
use Rattle.cq_group.specs.declared.group.GroupState.{GroupState}
use Rattle.cq_group.specs.declared.group.GroupError.{GroupError}
use Rattle.cq_group.specs.declared.group.GroupError.TheVariants as group
use Rattle.cq_group.specs.declared.group.Staged.{Staged}
use Rattle.cq_group.specs.declared.group.Staged.TheVariants as staged
use Rattle.cq_group.specs.Groups.{IsKept, IsQuiet, IsReady, HasTable, entries_of, stores_of}
use Rattle.cq_group.specs.Calls.{CanCompute, GroupGoesOn, SomeZip, Lifted, Failed}
use Rattle.cq_group.specs.Resting.{IsResting, HasFailedAt}
use Rattle.cq_router.specs.declared.insertion.Part.{Part}
use Rattle.cq_reach.specs.declared.error.WriteError.{WriteError}
use Rattle.cq_reach.specs.declared.error.WriteError.TheVariants.{Ids, Worker, Memory}
use Rattle.cq_reach.specs.declared.staging.ReadyPart.{ReadyPart}
use Rattle.cq_reach.specs.declared.staging.Stop.{Stop}
use Rattle.cq_reach.specs.declared.staging.Stop.TheVariants as stop
use Rattle.cq_reach.specs.Seen.{seen_of, all_seen}
use Rattle.cq_reach.specs.Writes.{InGroup, LacksIds, IsStopped}

-- ---- lists of groups before and after

-- a fact of the group at a place, as it was and as it is
pub record InBoth {X : Type 0} (old new : List (GroupState X)) (place : ℕ) (P : GroupState X → GroupState X → Type 0) : Type 0 where
  pub before : GroupState X
  pub after : GroupState X
  pub was : slice_get old place ≡ Some before
  pub is : slice_get new place ≡ Some after
  pub holds : P before after

-- the group at a place was turned so, and all others are as they were
pub record TurnsOne {X : Type 0} (place : ℕ) (P : GroupState X → GroupState X → Type 0) (old new : List (GroupState X)) : Type 0 where
  pub count : length new ≡ length old
  pub one : InBoth old new place P
  pub others : (i : ℕ) → i ≢ place → slice_get new i ≡ slice_get old i

-- a place that none of these have
abbrev pub IsApart : {A : Type 0} → (A → ℕ) → ℕ → List A → Type 0
IsApart {A} at i items = AllByRecursion (λ (a : A). i ≢ at a) items

-- each has a place of its own
abbrev pub AreApart : {A : Type 0} → (A → ℕ) → List A → Type 0
AreApart at [] = ⊤
AreApart at (a ∷ items) = IsApart at (at a) items × AreApart at items

-- the group at the place of each of these was turned so, and all others are as they were
pub record Turned {X A : Type 0} (at : A → ℕ) (P : A → GroupState X → GroupState X → Type 0) (items : List A) (old new : List (GroupState X)) : Type 0 where
  pub count : length new ≡ length old
  pub each : AllByRecursion (λ (a : A). InBoth old new (at a) (P a)) items
  pub others : (i : ℕ) → IsApart at i items → slice_get new i ≡ slice_get old i

-- ---- one group while parts are staged

-- it goes on with the same entries
pub record IsHeld {X : Type 0} (state : X → StoreState) (g h : GroupState X) : Type 0 where
  pub kept : IsKept state h
  pub entries : entries_of h ≡ entries_of g
  pub on : GroupGoesOn state g h

-- and nothing is staged
pub record IsDropped {X : Type 0} (state : X → StoreState) (g h : GroupState X) : Type 0 where
  pub held : IsHeld state g h
  pub quiet : IsQuiet state h

-- a write is staged, which can be committed with this reply
pub record Stages {X : Type 0} (state : X → StoreState) (op : ShardOp) (reply : Reply) (g h : GroupState X) : Type 0 where
  pub held : IsHeld state g h
  pub made : IsMade reply
  pub ready : IsReady state h op reply

-- a write was replied: it is staged, or it is refused and nothing is
pub record IsReplied {X : Type 0} (state : X → StoreState) (op : ShardOp) (reply : Reply) (g h : GroupState X) : Type 0 where
  pub held : IsHeld state g h
  pub ready : IsReady state h op reply
  pub quiet : IsRefusal reply → IsQuiet state h

-- a write is refused, which can be entered with this reply
pub record Refuses {X : Type 0} (state : X → StoreState) (op : ShardOp) (reply : Reply) (g h : GroupState X) : Type 0 where
  pub dropped : IsDropped state g h
  pub refusal : IsRefusal reply
  pub ready : IsReady state h op reply

-- a write has its entry, and nothing is staged
pub record Enters {X : Type 0} (state : X → StoreState) (who : Who) (op : ShardOp) (reply : Reply) (g h : GroupState X) : Type 0 where
  pub entry : entries_of h ≡ entries_of g ++ record { who = who; kind = entry.Write op reply } ∷ []
  pub kept : IsKept state h
  pub quiet : IsQuiet state h
  pub on : GroupGoesOn state g h

-- the group of a part has its table, and can compute it
abbrev pub Takes : {X : Type 0} → List (GroupState X) → Part → Type 0
Takes {X} groups p = InGroup groups p (λ (g : GroupState X). HasTable g (table_of p.op) × CanCompute g p.op)

-- a part can be staged in its group
abbrev pub CanStage : {X : Type 0} → (X → StoreState) → List (GroupState X) → Part → Type 0
CanStage {X} state groups p = InGroup groups p (λ (g : GroupState X). IsResting state g × HasTable g (table_of p.op) × CanCompute g p.op)

-- ---- parts that are ready

abbrev pub place_of : ReadyPart → ℕ
place_of s = s.part.group

abbrev pub count_of : Reply → ℕ
count_of (Count n) = n
count_of Duplicate = 0
count_of OutOfRange = 0

abbrev pub count_in : ReadyPart → ℕ
count_in s = count_of s.reply

-- the reply of a write, by what staging it came to
abbrev pub outcome_by : Result Staged GroupError → Result Reply WriteError
outcome_by (Ok (staged.Ready reply)) = Ok reply
outcome_by (Ok (staged.Refused reply)) = Ok reply
outcome_by (Ok staged.NoIds) = Err Ids
outcome_by (Err (group.Worker failure)) = Err (Worker failure)
outcome_by (Err group.Memory) = Err Memory

-- what the part's group is where the part stops the write
abbrev pub StopsAt : {X : Type 0} → (X → StoreState) → Part → Stop → GroupState X → GroupState X → Type 0
StopsAt state p (stop.Refused s) g h = (s.part ≡ p) × Refuses state p.op s.reply g h
StopsAt state p (stop.Failed Ids) g h = IsDropped state g h × LacksIds (seen_of g) p.op
StopsAt state p (stop.Failed (Worker failure)) g h = IsDropped state g h × SomeZip (Lifted state (Failed failure)) (stores_of g) (stores_of h)
StopsAt state p (stop.Failed Memory) g h = IsDropped state g h

abbrev pub StagesOne : {X : Type 0} → (X → StoreState) → Part → Result Reply WriteError → GroupState X → GroupState X → Type 0
StagesOne state p (Ok reply) g h = IsReplied state p.op reply g h
StagesOne state p (Err error) g h = StopsAt state p (stop.Failed error) g h

abbrev pub IsStagedIn : {X : Type 0} → (X → StoreState) → Part → List (GroupState X) → List (GroupState X) → Result Reply WriteError → Type 0
IsStagedIn state p old new r = TurnsOne p.group (StagesOne state p r) old new

-- a part that was replied is put last, where it is ready, or stops the write
abbrev pub IsPut : {X : Type 0} → (X → StoreState) → ReadyPart → List ReadyPart → List ReadyPart → List (GroupState X) → List (GroupState X) → Result ⊤ Stop → Type 0
IsPut state s ready more old new (Ok x) = IsMade s.reply × (more ≡ ready ++ s ∷ []) × (new ≡ old)
IsPut state s ready more old new (Err (stop.Refused r)) = (more ≡ ready) × (r ≡ s) × IsRefusal s.reply × (new ≡ old)
IsPut state s ready more old new (Err (stop.Failed Ids)) = ⊥
IsPut state s ready more old new (Err (stop.Failed (Worker failure))) = ⊥
IsPut state s ready more old new (Err (stop.Failed Memory)) = (more ≡ ready) × TurnsOne s.part.group (IsDropped state) old new

-- these are staged
abbrev pub AreStaged : {X : Type 0} → (X → StoreState) → List ReadyPart → List (GroupState X) → List (GroupState X) → Type 0
AreStaged state ready old new = Turned place_of (λ (s : ReadyPart). Stages state s.part.op s.reply) ready old new

abbrev pub AreDropped : {X : Type 0} → (X → StoreState) → List ReadyPart → List (GroupState X) → List (GroupState X) → Type 0
AreDropped state ready old new = Turned place_of (λ (s : ReadyPart). IsDropped state) ready old new

abbrev pub AreEntered : {X : Type 0} → (X → StoreState) → Who → List ReadyPart → List (GroupState X) → List (GroupState X) → Type 0
AreEntered state who ready old new = Turned place_of (λ (s : ReadyPart). Enters state who s.part.op s.reply) ready old new

-- one more is staged, or the part stopped the write and those before it are as they were
abbrev pub IsNext : {X : Type 0} → (X → StoreState) → Part → List ReadyPart → List ReadyPart → List (GroupState X) → List (GroupState X) → Result ⊤ Stop → Type 0
IsNext state p ready more old new (Ok x) = (s : ReadyPart) × (more ≡ ready ++ s ∷ []) × (s.part ≡ p) × TurnsOne p.group (Stages state p.op s.reply) old new
IsNext state p ready more old new (Err why) = (more ≡ ready) × TurnsOne p.group (StopsAt state p why) old new

-- no group has an entry more, and nothing is staged
pub record AreRestored {X : Type 0} (state : X → StoreState) (old new : List (GroupState X)) : Type 0 where
  pub count : length new ≡ length old
  pub each : (i : ℕ) (g h : GroupState X) → slice_get old i ≡ Some g → slice_get new i ≡ Some h → IsDropped state g h

-- why a part stopped a write, after those before it could be made
abbrev pub StopsBy : {X : Type 0} → (X → StoreState) → List Part → List (GroupState X) → List (GroupState X) → Stop → Type 0
StopsBy {X} state parts old new (stop.Refused s) = IsStopped parts (all_seen old) s.part × InBoth old new s.part.group (Refuses state s.part.op s.reply)
StopsBy {X} state parts old new (stop.Failed Ids) = (p : Part) × IsStopped parts (all_seen old) p × InGroup old p (λ (g : GroupState X). LacksIds (seen_of g) p.op)
StopsBy {X} state parts old new (stop.Failed (Worker failure)) = (p : Part) × IsStopped parts (all_seen old) p × HasFailedAt state p.group failure old new
StopsBy {X} state parts old new (stop.Failed Memory) = ⊤

-- all parts are staged, or none
abbrev pub AllStaged : {X : Type 0} → (X → StoreState) → List Part → List (GroupState X) → List (GroupState X) → Result (List ReadyPart) Stop → Type 0
AllStaged state parts old new (Ok ready) = (parts ≡ map (λ (s : ReadyPart). s.part) ready) × AreStaged state ready old new
AllStaged state parts old new (Err why) = AreRestored state old new × StopsBy state parts old new why
