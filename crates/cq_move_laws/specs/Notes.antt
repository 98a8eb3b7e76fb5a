-- What a move notes at the workers of a block, and what it finds there.
use Rattle.std.specs.Prelude.{◌≡◌, ◌+◌, ◌-◌, ◌<◌, ◌≤◌, ℕ, List, [], ◌∷◌, ◌++◌, replicate, nat_eq, if◌then◌else◌}
use Rattle.cq_tree.specs.declared.journal.Who.{Who}
use Rattle.cq_history.specs.Run.{Run}
use Rattle.cq_cell.specs.Lists.{own}
use Rattle.cq_shared.specs.declared.errand.Errand.{Errand}
use Rattle.cq_shared.specs.declared.errand.Errand.TheVariants as errand
use Rattle.cq_shared.specs.Errands.{sent_by}
use Rattle.cq_block_laws.specs.Serving.{Opening, WereFree}

-- a session noted these at a worker, between notes of others
pub record Notes (session : ℕ) (mine old new : List Errand) : Type 0 where
  pub more : List Errand
  pub all : new ≡ old ++ more
  pub its : own sent_by session more ≡ mine

-- notes that so many stores were given
abbrev pub gifts : Who → ℕ → List Errand
gifts who n = replicate n (errand.Gave who)

-- notes at the worker of this node alone, by the workers' places
abbrev pub at_node : ℕ → List Errand → ℕ → List Errand
at_node node notes at = if nat_eq (at + 1) node then notes else []

-- a statement took n stores of one node, made room for as many at some node or none, and gave so many to one node then. Nodes count from 1
pub record TakesAndGives (who : Who) (n to gave node : ℕ) (old new : ℕ → List Errand) : Type 0 where
  pub room : ℕ
  pub notes : (at : ℕ) →
      Notes who.session (at_node to (errand.Took who n ∷ []) at ++ (at_node room (errand.Room who n ∷ []) at ++ at_node node (gifts who gave) at)) (old at) (new at)

-- it noted nothing
abbrev pub NotesNothing : ℕ → (ℕ → List Errand) → (ℕ → List Errand) → Type 0
NotesNothing session old new = (at : ℕ) → Notes session [] (old at) (new at)

-- a statement found enough spare stores of a node of the run
pub record FindsEnough (run : Run) (o : Opening) (who : Who) (to n : ℕ) (errands : ℕ → List Errand) : Type 0 where
  pub low : 0 < to
  pub high : to ≤ run.workers
  pub free : ℕ
  pub were : WereFree run o (to - 1) (errands (to - 1)) who free
  pub enough : n ≤ free
