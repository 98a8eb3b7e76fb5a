-- What a session of reads and writes notes of a shard group.
use Rattle.std.specs.Prelude.{◌≡◌, ⊤, ℕ, List, [], ◌∷◌, ◌++◌, length, Some, slice_get}
use Rattle.std.specs.List.{AllByRecursion}
use Rattle.cq_tree.specs.declared.journal.EntryKind.{EntryKind}
use Rattle.cq_tree.specs.declared.journal.EntryKind.TheVariants.{Read, Write}
use Rattle.cq_tree.specs.declared.failure.StoreFailure.{StoreFailure}
use Rattle.cq_tree.specs.declared.journal.Who.{Who}
use Rattle.cq_cell.specs.Turn.{IsSame}
use Rattle.cq_shared.specs.declared.note.Note.{Note}
use Rattle.cq_shared.specs.declared.note.Note.TheVariants as note
use Rattle.cq_shared.specs.Seen.{Place, Pass}
use Rattle.cq_shared.specs.Writes.{InBoth}

-- an entry that is no step of a move
abbrev pub IsPlain : EntryKind → Type 0
IsPlain Read = ⊤
IsPlain (Write op reply) = ⊤
IsPlain kind = ⊥

abbrev pub IsQuiet : Note → Type 0
IsQuiet (note.Entered e) = IsPlain e.kind
IsQuiet (note.Failed who failure) = ⊤

-- a pass went on, by reads and writes of its session
pub record GoesOn {X C : Type 0} (p q : Place X C) : Type 0 where
  pub same : IsSame p q
  pub notes : List Note
  pub mine : q.me.0.mine ≡ p.me.0.mine ++ notes
  pub quiet : AllByRecursion IsQuiet notes

module _ {X C : Type 0} where
  -- passes to the groups went on so
  pub record GoOn (old new : List (Pass X C)) : Type 0 where
    pub count : length new ≡ length old
    pub each : (g : ℕ) (p q : Pass X C) → slice_get old g ≡ Some p → slice_get new g ≡ Some q → GoesOn p.place q.place

  -- the last note of the session in some group says that a store of it failed so
  pub record Blames (who : Who) (failure : StoreFailure) (old new : List (Pass X C)) : Type 0 where
    pub group : ℕ
    pub noted : InBoth old new group (λ p q. (notes : List Note) × (q.place.me.0.mine ≡ p.place.me.0.mine ++ notes ++ note.Failed who failure ∷ []))
