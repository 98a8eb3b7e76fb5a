-- What a move of a shard group comes to.
use Rattle.std.specs.Prelude.{◌≡◌, ◌≤◌, ℕ, ⊤, false, List, map, Contains}
use Rattle.std.specs.List.{AllZip}
use Rattle.cq_tree.specs.declared.failure.StoreFailure.{StoreFailure}
use Rattle.cq_tree.specs.declared.journal.Who.{Who}
use Rattle.cq_tree.specs.declared.journal.Entry.{Entry}
use Rattle.cq_tree.specs.declared.journal.EntryKind.{EntryKind}
use Rattle.cq_store.specs.Stores.{StoreState, Becomes, Rose}
use Rattle.cq_group.specs.declared.group.GroupError.{GroupError}
use Rattle.cq_group.specs.declared.start.MoveWhy.{MoveWhy}
use Rattle.cq_group.specs.declared.start.MoveWhy.TheVariants as why
use Rattle.cq_group.specs.Groups.{Outline}
use Rattle.cq_group.specs.Calls.{Blames, Lifted, SomeZip}
use Rattle.cq_group.specs.Incoming.{why_told}

-- entries of these kinds, all of one statement
abbrev pub entries_by : Who → List EntryKind → List Entry
entries_by who kinds = map (λ (kind : EntryKind). record { who = who; kind = kind }) kinds

-- the shard ids of a group's tables
abbrev pub shards_in : List Outline → List ℕ
shards_in os = map (λ (o : Outline). o.2) os

-- each of these stores keeps the shard of a table, in the order of the tables
abbrev pub KeepShards : {X : Type 0} → (X → StoreState) → List Outline → List X → Type 0
KeepShards {X} state os stores = AllZip (λ (o : Outline) (x : X). (state x).shard ≡ o.2) os stores

-- a store that was given to a move: it is on its node, as steady as it was, and its count of faults didn't fall
abbrev pub IsTried : StoreState → StoreState → Type 0
IsTried old new = Becomes old (record old { shard = new.shard; rows = new.rows; staged = new.staged }) new

-- a store that isn't steady, which keeps the shard now, failed so meanwhile
pub record Broke (failure : StoreFailure) (old new : StoreState) : Type 0 where
  pub of_node : new.node ≡ failure.node
  pub of_shard : new.shard ≡ failure.shard
  pub unsteady : new.steady ≡ false
  pub from : old.faults ≤ failure.before
  pub rose : Rose failure.before failure.after
  pub to : failure.after ≤ new.faults

-- one of the stores that were given for a group's tables, on the node to which the group goes, broke
pub record HasBroken {X : Type 0} (state : X → StoreState) (os : List Outline) (to : ℕ) (failure : StoreFailure) (old new : List X) : Type 0 where
  pub there : failure.node ≡ to
  pub of_table : Contains (shards_in os) failure.shard
  pub broken : SomeZip (Lifted state (Broke failure)) old new

-- why a move that began didn't come to its end: a store that was given for it broke, or memory was wanting
abbrev pub EndsMove : {X : Type 0} → (X → StoreState) → List Outline → ℕ → MoveWhy → List X → List X → Type 0
EndsMove state os to (why.Moving by) old new = ⊥
EndsMove state os to (why.NotThere node) old new = ⊥
EndsMove state os to (why.SameNode node) old new = ⊥
EndsMove state os to (why.Worker failure) old new = HasBroken state os to failure old new
EndsMove state os to why.Memory old new = ⊤

-- why a move was stopped: an error that blames one of the stores that came in, or none
pub record IsToldBy {X : Type 0} (state : X → StoreState) (why : MoveWhy) (old new : List X) : Type 0 where
  pub error : GroupError
  pub told : why ≡ why_told error
  pub blames : Blames state error old new
