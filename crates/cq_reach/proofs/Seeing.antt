-- Groups that are held alone, as they are known.
use Rattle.std.proofs.Common.{◌≡◌, ◌≢◌, ℕ, zero, suc, ◌<◌, List, [], ◌∷◌, length, refl, sym, ap, ◌∙◌, arith, Some, slice_get}
use Rattle.std.specs.Prelude.{slice_index_or}
use Rattle.std.proofs.Math.ListN.{set}
use Rattle.cq_tree.specs.declared.journal.Entry.{Entry}
use Rattle.cq_tree.specs.declared.journal.EntryKind.{EntryKind}
use Rattle.cq_tree.specs.declared.journal.Who.{Who}
use Rattle.cq_journal.specs.Records.{Journal}
use Rattle.cq_group.specs.declared.group.GroupState.{GroupState}
use Rattle.cq_group.specs.Resting.{journals_of}
use Rattle.cq_reach.specs.Seen.{Seen, seen_of, all_seen, journals_in}

module _ {X : Type 0} where
  pub seen_at : (groups : List (GroupState X)) (i : ℕ) (g : GroupState X) → slice_get groups i ≡ Some g → slice_get (all_seen groups) i ≡ Some (seen_of g)
  seen_at [] i g s = cc
  seen_at (h ∷ groups) zero g s = ap Some (ap (λ (v : GroupState X). seen_of v) (one h g s))
    where
      one : (a b : GroupState X) → Some a ≡ Some b → a ≡ b
      one a b e = cc
  seen_at (h ∷ groups) (suc i) g s = seen_at groups i g s

  pub seen_back : (groups : List (GroupState X)) (i : ℕ) (s : Seen) → slice_get (all_seen groups) i ≡ Some s → (g : GroupState X) × (slice_get groups i ≡ Some g) × (s ≡ seen_of g)
  seen_back [] i s e = cc
  seen_back (h ∷ groups) zero s e = (h, refl, sym (one (seen_of h) s e))
    where
      one : (a b : Seen) → Some a ≡ Some b → a ≡ b
      one a b e = cc
  seen_back (h ∷ groups) (suc i) s e = seen_back groups i s e

  pub seen_long : (groups : List (GroupState X)) → length (all_seen groups) ≡ length groups
  seen_long [] = refl
  seen_long (g ∷ groups) = ap suc (seen_long groups)

  pub seen_beside : (groups : List (GroupState X)) (k i : ℕ) (h : GroupState X) → i ≢ k → slice_get (all_seen (set groups k h)) i ≡ slice_get (all_seen groups) i
  seen_beside [] k i h n = refl
  seen_beside (g ∷ groups) zero zero h n = absurd (n refl)
  seen_beside (g ∷ groups) zero (suc i) h n = refl
  seen_beside (g ∷ groups) (suc k) zero h n = refl
  seen_beside (g ∷ groups) (suc k) (suc i) h n = seen_beside groups k i h (λ e. n (ap suc e))

  -- their journals
  pub journals_seen : (groups : List (GroupState X)) → journals_in (all_seen groups) ≡ journals_of groups
  journals_seen [] = refl
  journals_seen (g ∷ groups) = ap (λ js. (seen_of g).journal ∷ js) (journals_seen groups)

-- the journal of a group
pub journal_seen : (groups : List Seen) (k : ℕ) (s : Seen) (d : Journal) → slice_get groups k ≡ Some s → slice_index_or (journals_in groups) k d ≡ s.journal
journal_seen [] k s d e = cc
journal_seen (t ∷ groups) zero s d e = ap (λ (v : Seen). v.journal) (one t s e)
  where
    one : (a b : Seen) → Some a ≡ Some b → a ≡ b
    one a b e = cc
journal_seen (t ∷ groups) (suc k) s d e = journal_seen groups k s d e

pub journals_long : (groups : List Seen) → length (journals_in groups) ≡ length groups
journals_long [] = refl
journals_long (s ∷ groups) = ap suc (journals_long groups)
