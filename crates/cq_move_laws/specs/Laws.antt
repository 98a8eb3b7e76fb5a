-- The laws.
use Rattle.std.specs.Prelude.{◌≢◌, length, slice_get, ◌≡◌, ◌⊎◌, ◌+◌, ◌-◌, ◌<◌, ◌≤◌, ℕ, true, false, List, [], ◌++◌, Some, None, Ok, Err}
use Rattle.std.specs.List.{AllByRecursion}
use Rattle.cq_tree.specs.declared.journal.Who.{Who}
use Rattle.cq_tree.specs.declared.journal.Entry.{Entry}
use Rattle.cq_catalog.specs.Contents.{Contents}
use Rattle.cq_catalog.specs.Placement.{group_of_shard}
use Rattle.cq_catalog.specs.Whole.{IsWhole}
use Rattle.cq_journal.specs.Records.{Journal}
use Rattle.cq_journal.specs.Stations.{node_of}
use Rattle.cq_answer.specs.declared.answer.Answer.TheVariants.{Failed}
use Rattle.cq_answer.specs.declared.answered.Answered.{Answered}
use Rattle.cq_answer.specs.declared.fault.Fault.TheVariants.{NoShard, NoNode, NoRoom, Memory}
use Rattle.cq_history.specs.Legality.{IsLegal}
use Rattle.cq_history.specs.Phases.{who_of}
use Rattle.cq_history.specs.Room.{stores_moved, tables_in}
use Rattle.cq_history.specs.Run.{Run, Rules}
use Rattle.cq_store.specs.Stores.{StoreState}
use Rattle.cq_group.specs.declared.group.GroupState.{GroupState}
use Rattle.cq_group.specs.declared.start.MoveWhy.{MoveWhy}
use Rattle.cq_reach.specs.Seen.{Seen}
use Rattle.cq_move.specs.declared.outcome.MoveReport.{MoveReport}
use Rattle.cq_move.specs.declared.outcome.NotMoved.{NotMoved}
use Rattle.cq_move_calls.specs.Moving.{Told, RefusesStart}
use Rattle.cq_transfer.specs.Entering.{HasMoved}
use Rattle.cq_transfer.specs.Carrying.{IsGivenUp}
use Rattle.cq_cluster.specs.Cluster.{AreGroups}
use Rattle.cq_cluster.specs.Moving.{move_answer, fault_told}
use Rattle.cq_cell.specs.Lists.{own, StartsWith}
use Rattle.cq_shared.specs.declared.errand.Errand.{Errand}
use Rattle.cq_shared.specs.Errands.{sent_by, tooks, gaves}
use Rattle.cq_block_laws.specs.Serving.{Opening, Known, sent_for, free_first, WereFree, IsAnsweredBeside}
use Rattle.cq_move_laws.specs.Notes.{Notes, NotesNothing, TakesAndGives}
use Rattle.cq_move_laws.specs.Moving.{IsAsked, IsOfGroup, ComesBeside, HasTables, seen_behind, ReachesGroup}

-- ---- notes at a worker

abbrev pub NotesBegin : Type 0
NotesBegin = (session : ℕ) (notes : List Errand) → Notes session [] notes notes

abbrev pub NotesGoOn : Type 0
NotesGoOn = (session : ℕ) (first then old mid new : List Errand) → Notes session first old mid → Notes session then mid new → Notes session (first ++ then) old new

-- a call of a pass, which sees what others noted meanwhile, and notes these
abbrev pub CallIsNoted : Type 0
CallIsNoted = (session : ℕ) (notes more old new : List Errand) → own sent_by session more ≡ [] → own sent_by session notes ≡ notes → new ≡ (old ++ more) ++ notes → Notes session notes old new

-- what a pass tells of the worker's stores as a statement comes to it that has noted nothing there yet
abbrev pub FreeIsFound : Type 0
FreeIsFound = (run : Run) (o : Opening) (at : ℕ) (who : Who) (free : ℕ) (old more new : List Errand) → AllByRecursion (λ n. sent_for who n ≡ false) old → own sent_by who.session more ≡ [] → StartsWith new (old ++ more) →
    free + tooks (old ++ more) ≡ free_first run o at + gaves (old ++ more) → WereFree run o at new who free

-- ---- the group of a shard

-- a group that was opened on a node is on one
abbrev pub GroupIsSomewhere : Type 0
GroupIsSomewhere = (c : Contents) (group : ℕ) (j : Journal) → IsLegal c group j → j.opening ≢ 0 → 0 < node_of j

-- the group of a distributed table's shard has the catalogue's tables, and was opened on a node
abbrev pub GroupHasTables : {X : Type 0} → (X → StoreState) → Type 0
GroupHasTables {X} state = (nodes : ℕ) (c : Contents) (groups : List (GroupState X)) (shard group : ℕ) (g : GroupState X) (es : List Entry) → IsWhole c → AreGroups state nodes c groups →
    group_of_shard c shard ≡ Some group → slice_get groups group ≡ Some g →
    let s = seen_behind g es in
    HasTables c group s × (length s.tables ≡ length (tables_in c group)) × (group < c.groups) × (s.journal.opening ≢ 0)

-- ---- moves that come to no group

-- no distributed table has the shard
abbrev pub UnknownIsAnswered : Type 0
UnknownIsAnswered = (rules : Rules) (run : Run) (o : Opening) (a : Answered) (shard from to : ℕ) (known : Known) → IsAsked rules o a shard from to → group_of_shard o.environment.catalog shard ≡ None →
    (a.answer ≡ Failed (NoShard shard)) ⊎ (a.answer ≡ Failed Memory) → IsAnsweredBeside rules run o a known known

-- the run doesn't use the node
abbrev pub NodeIsAnswered : Type 0
NodeIsAnswered = (rules : Rules) (run : Run) (o : Opening) (a : Answered) (shard from to group : ℕ) (known : Known) → IsAsked rules o a shard from to → IsOfGroup o shard group known.journals →
    (to ≡ 0) ⊎ (run.workers < to) → a.answer ≡ Failed (NoNode to) → IsAnsweredBeside rules run o a known known

-- too few stores of the node are spare
abbrev pub RoomIsAnswered : Type 0
RoomIsAnswered = (rules : Rules) (run : Run) (o : Opening) (a : Answered) (shard from to group free : ℕ) (old new : Known) → IsAsked rules o a shard from to → IsOfGroup o shard group old.journals →
    let n = stores_moved o.environment.catalog (Some group) in
    0 < to → to ≤ run.workers → WereFree run o (to - 1) (new.errands (to - 1)) (who_of a) free → free < n → new.journals ≡ old.journals → NotesNothing a.session old.errands new.errands →
    a.answer ≡ Failed (NoRoom to free n) → IsAnsweredBeside rules run o a old new

-- memory ran out before the move came to the group, and what it had taken was given back
abbrev pub MemoryIsAnswered : Type 0
MemoryIsAnswered = (rules : Rules) (run : Run) (o : Opening) (a : Answered) (shard from to group : ℕ) (old new : Known) → IsAsked rules o a shard from to → IsOfGroup o shard group old.journals →
    let n = stores_moved o.environment.catalog (Some group) in
    new.journals ≡ old.journals → NotesNothing a.session old.errands new.errands ⊎ TakesAndGives (who_of a) n to n to old.errands new.errands →
    a.answer ≡ Failed Memory → IsAnsweredBeside rules run o a old new

-- ---- moves that come to their group

-- the move didn't begin, and all that it had taken was given back
abbrev pub RefusedIsAnswered : Type 0
RefusedIsAnswered = (rules : Rules) (run : Run) (o : Opening) (a : Answered) (shard from to group : ℕ) (s t : Seen) (old new : Known) (why : MoveWhy) → ReachesGroup rules run o a shard from to group s t old new →
    let n = stores_moved o.environment.catalog (Some group) in
    Told (ComesBeside o (who_of a)) (who_of a) [] (λ found. RefusesStart why found to from) s t → TakesAndGives (who_of a) n to n to old.errands new.errands →
    a.answer ≡ move_answer (Err (fault_told false why)) → IsAnsweredBeside rules run o a old new

-- it began and was given up, and at most what it had taken was given back
abbrev pub GivenUpIsAnswered : {X : Type 0} → (X → StoreState) → Type 0
GivenUpIsAnswered {X} state = (rules : Rules) (run : Run) (o : Opening) (a : Answered) (shard from to group back : ℕ) (s t : Seen) (old new : Known) (given : List X) (e : NotMoved X) →
    ReachesGroup rules run o a shard from to group s t old new →
    let n = stores_moved o.environment.catalog (Some group) in
    IsGivenUp state (ComesBeside o (who_of a)) (who_of a) from to given e s t → back ≤ n → TakesAndGives (who_of a) n to back to old.errands new.errands →
    a.answer ≡ move_answer (Err (fault_told true e.why)) → IsAnsweredBeside rules run o a old new

-- it came to its end, and the group's old stores were given to the node where it was
abbrev pub MovedIsAnswered : Type 0
MovedIsAnswered = (rules : Rules) (run : Run) (o : Opening) (a : Answered) (shard from to group : ℕ) (s t : Seen) (old new : Known) (r : MoveReport) → ReachesGroup rules run o a shard from to group s t old new →
    let n = stores_moved o.environment.catalog (Some group) in
    HasMoved (ComesBeside o (who_of a)) (who_of a) from to r s t → TakesAndGives (who_of a) n to n from old.errands new.errands →
    a.answer ≡ move_answer (Ok r) → IsAnsweredBeside rules run o a old new
