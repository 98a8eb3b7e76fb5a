-- The accounts of a cluster behind a block: what its answers tell of stores, and what it retired.
use Rattle.std.specs.Prelude.{◌≡◌, ◌≢◌, ◌⊎◌, ◌<◌, ◌++◌, ⊤, ℕ, IsTrue, true, List, [], map, length, Option, Some, slice_get}
use Rattle.std.specs.List.{AllByRecursion, AllZip, flat_map}
use Rattle.std.specs.List.Sorted.{IsPermutation}
use Rattle.cq_tree.specs.declared.statement.Statement.{Statement}
use Rattle.cq_tree.specs.declared.statement.Statement.TheVariants.{Move}
use Rattle.cq_catalog.specs.Contents.{Contents}
use Rattle.cq_answer.specs.declared.answered.Answered.{Answered}
use Rattle.cq_store.specs.Stores.{StoreState}
use Rattle.cq_history.specs.Run.{Environment, environment_from}
use Rattle.cq_history.specs.Phases.{phase_in, MayBeInBlock}
use Rattle.cq_history.specs.Faults.{Climbs, NamesBelow, Range, ranges_of}
use Rattle.cq_history.specs.Laws.{StoreGoesOn}
use Rattle.cq_group.specs.declared.group.GroupState.{GroupState}
use Rattle.cq_group.specs.Groups.{stores_of, entries_of}
use Rattle.cq_cluster.specs.declared.retired.Retired.{Retired}
use Rattle.cq_cluster.specs.Accounts.{moved_by, AreAccounted, AreRetired, is_retiring}

-- ---- counts of faults

-- a block's answers tell of what happened to a store from its opening to its end: the ranges of its failures, one for each answer that names it
pub record TellsOf (block : List Answered) (s t : StoreState) : Type 0 where
  pub on : StoreGoesOn s t
  pub ranges : List Range
  pub told : IsPermutation (ranges_of s.node s.shard block) ranges
  pub climbs : Climbs s.faults ranges t.faults
  pub steady : IsTrue s.steady → ranges ≡ []

-- a group that no statement of the block moved: the block's answers tell of each of its stores
pub record IsToldOf {X : Type 0} (state : X → StoreState) (block : List Answered) (old new : GroupState X) : Type 0 where
  pub moved : moved_by (entries_of new) ≡ moved_by (entries_of old)
  pub earlier : AllByRecursion (λ (a : Answered). a.statement ≢ moved_by (entries_of old)) block
  pub tells : AllZip (λ (x y : X). TellsOf block (state x) (state y)) (stores_of old) (stores_of new)

-- the groups behind a block: each was moved in it, or is told of
pub record AreToldOf {X : Type 0} (state : X → StoreState) (phase : ℕ) (answers block : List Answered) (old new : List (GroupState X)) : Type 0 where
  pub count : length new ≡ length old
  pub each : (i : ℕ) (g h : GroupState X) → slice_get old i ≡ Some g → slice_get new i ≡ Some h → (phase_in (answers ++ block) (moved_by (entries_of h)) ≡ phase) ⊎ IsToldOf state block g h

abbrev pub BlockIsAccounted : {X : Type 0} → (X → StoreState) → Type 0
BlockIsAccounted {X} state = (c : Contents) (phase : ℕ) (answers block : List Answered) (old new : List (GroupState X)) → 0 < phase → AllByRecursion (λ (a : Answered). a.phase < phase) answers →
    AllByRecursion (λ (a : Answered). a.phase ≡ phase) block → AllByRecursion (λ (a : Answered). NamesBelow c.next_shard a.answer) block → AreToldOf state phase answers block old new →
    AreAccounted state c answers old → AreAccounted state c (answers ++ block) new

-- ---- retired stores

-- those that a block retired stand behind those before it, in the order of its answers
abbrev pub RetiresAll : {X : Type 0} → List Answered → List (Retired X) → List (Retired X) → Type 0
RetiresAll {X} block old new = (more : List (Retired X)) × (new ≡ old ++ more) × AreRetired block more

abbrev pub RetiredOn : Type 0 → Type 0
RetiredOn X = (answers block : List Answered) (old new : List (Retired X)) → RetiresAll block old new → AreRetired answers old → AreRetired (answers ++ block) new

-- sessions, each with its answers and the stores that it retired
abbrev pub SessionsRetire : Type 0 → Type 0
SessionsRetire X = (sessions : List (List Answered × List (Retired X))) → AllByRecursion (λ (s : List Answered × List (Retired X)). AreRetired s.0 s.1) sessions →
    AreRetired (flat_map (λ (s : List Answered × List (Retired X)). s.0) sessions) (flat_map (λ (s : List Answered × List (Retired X)). s.1) sessions)

abbrev pub IsMove : Option Statement → Type 0
IsMove (Some (Move shard from to)) = ⊤
IsMove bound = ⊥

-- a statement of a block, of which moves alone retire stores
pub record MayRetire (a : Answered) : Type 0 where
  pub allowed : MayBeInBlock a.bound
  pub moves : is_retiring a ≡ true → IsMove a.bound

-- the environment behind a block has the nodes of the stores that are retired then, and nothing else of it changes
abbrev pub BlockRetires : Type 0 → Type 0
BlockRetires X = (e : Environment) (block : List Answered) (old new : List (Retired X)) → AllByRecursion MayRetire block → RetiresAll block old new → e.retired ≡ map (λ (r : Retired X). r.node) old →
    environment_from e block ≡ record e { retired = map (λ (r : Retired X). r.node) new }
