-- What a session knows of the shard groups, what a statement of it may find there, and what a visit of a group does.
use Rattle.std.specs.Prelude.{◌≡◌, ◌≢◌, ◌⊎◌, ℕ, List, ◌++◌, length, Some, slice_get}
use Rattle.std.specs.List.{AllByRecursion}
use Rattle.cq_tree.specs.declared.failure.StoreFailure.{StoreFailure}
use Rattle.cq_tree.specs.declared.journal.Entry.{Entry}
use Rattle.cq_tree.specs.declared.journal.EntryKind.{EntryKind}
use Rattle.cq_tree.specs.declared.journal.Who.{Who}
use Rattle.cq_reach.specs.Seen.{Seen, with_kinds}

pub record Outlook : Type 1 where
  -- each group, by its number
  pub known : List Seen
  -- an entry that others may make meanwhile
  pub comes : Entry → Type 0
  -- how the statement's next visit of a group may find it
  pub finds : ℕ → Seen → Type 0
  -- an entry that the statement may make in a group
  pub allows : ℕ → EntryKind → Type 0

-- entries of others came to a group, and all else is as it was
pub record IsGrown (comes : Entry → Type 0) (was now : Seen) : Type 0 where
  pub more : List Entry
  pub all : AllByRecursion comes more
  pub is : now ≡ record was { journal = record was.journal { entries = was.journal.entries ++ more } }

-- a visit may find a group so
pub record Meets (o : Outlook) (group : ℕ) (found : Seen) : Type 0 where
  pub was : Seen
  pub there : slice_get o.known group ≡ Some was
  pub grown : IsGrown o.comes was found
  pub may : o.finds group found

-- the groups as a statement may find them: one that it doesn't visit is as it was known
pub record MayFind (o : Outlook) (found : List Seen) : Type 0 where
  pub count : length found ≡ length o.known
  pub each : (g : ℕ) (s : Seen) → slice_get found g ≡ Some s → (slice_get o.known g ≡ Some s) ⊎ Meets o g s

-- a visit found a group so, and made these entries. Of the other groups no more is known, and no more may be found there than before
pub record Visit (who : Who) (group : ℕ) (kinds : List EntryKind) (old new : Outlook) (found : Seen) : Type 0 where
  pub met : Meets old group found
  pub count : length new.known ≡ length old.known
  pub is : slice_get new.known group ≡ Some (with_kinds who kinds found)
  pub others : (g : ℕ) → g ≢ group → slice_get new.known g ≡ slice_get old.known g
  pub finds : (g : ℕ) (s : Seen) → g ≢ group → new.finds g s → old.finds g s
  pub comes : (e : Entry) → new.comes e → old.comes e

-- what a visit tells is so of the group as it was found
pub record Tells (who : Who) (group : ℕ) (kinds : List EntryKind) (fact : Seen → Type 0) (old new : Outlook) : Type 0 where
  pub found : Seen
  pub visit : Visit who group kinds old new found
  pub so : fact found

-- ---- several calls

-- one call after another
pub data Chain {V : Type 0} (step : V → V → Type 0) : V → V → Type 0 where
  still : {x : V} → Chain step x x
  more : {x y z : V} → Chain step x y → step y z → Chain step x z

-- a store of a group failed in the last call
pub record FailsLast {V : Type 0} (step : V → V → Type 0) (failed : V → V → ℕ → StoreFailure → Type 0) (f : StoreFailure) (old new : V) : Type 0 where
  pub before : V
  pub steps : Chain step old before
  pub group : ℕ
  pub fails : failed before new group f
