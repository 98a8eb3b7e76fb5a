-- Where a group is, by its notes: where it was as it was opened, or on a node to which it may be moved.
use Rattle.std.proofs.Common.{◌≡◌, ◌⊎◌, inl, inr, ◌∙◌, ℕ, List, [], ◌∷◌, ◌++◌, refl, sym, ap, subst, fold, Some, None}
use Rattle.std.specs.List.{AllByRecursion}
use Rattle.cq_tree.specs.declared.journal.Who.{Who}
use Rattle.cq_tree.specs.declared.journal.Entry.{Entry}
use Rattle.cq_tree.specs.declared.journal.EntryKind.{EntryKind}
use Rattle.cq_tree.specs.declared.journal.EntryKind.TheVariants.{Read, Write, MoveStart, CatchUp, Cutover, MoveStop}
use Rattle.cq_journal.specs.Stations.{Station, moved}
use Rattle.cq_shared.specs.declared.note.Note.{Note}
use Rattle.cq_shared.specs.declared.note.Note.TheVariants as note
use Rattle.cq_shared.specs.Notes.{AllMove, GoesTo, MayMove, MayNote, entries_in}
use Rattle.cq_shared.specs.Terms.{Terms}
use Rattle.cq_shared.proofs.Standing.{step}

module _ (reaches : ℕ → Type 0) (first : ℕ) where
  abbrev pub IsPlace : ℕ → Type 0
  IsPlace node = (node ≡ first) ⊎ reaches node

  -- it is there, and so is where it goes
  pub record IsPlaced (s : Station) : Type 0 where
    pub there : IsPlace s.node
    pub goes : (s.moving ≡ None) ⊎ IsPlace s.target

  placed_one : (s : Station) (who : Who) (kind : EntryKind) → MayMove s who kind → GoesTo reaches kind → IsPlaced s → IsPlaced (moved s who kind)
  placed_one s who Read may goes p = p
  placed_one s who (Write op reply) may goes p = p
  placed_one s who (MoveStart to) may goes p = record { there = p.there; goes = inr (inr goes) }
  placed_one s who CatchUp may goes p = p
  placed_one s who Cutover may goes p = record {
    there = elim p.goes [ inl none ↦ absurd (let bad : None ≡ Some who = sym none ∙ may in cc) | inr at ↦ at ];
    goes = inl refl;
  }
  placed_one s who MoveStop may goes p = record { there = p.there; goes = inl refl }

  pub placed : (s : Station) (es : List Entry) → AllMove s es → AllByRecursion (λ (e : Entry). GoesTo reaches e.kind) es → IsPlaced s → IsPlaced (fold step s es)
  placed s [] may goes p = p
  placed s (e ∷ es) may goes p = placed (moved s e.who e.kind) es may.1 goes.1 (placed_one s e.who e.kind may.0 goes.0 p)

-- the entries of what may be noted
pub goes_noted : (t : Terms) (l : List Note) → AllByRecursion (MayNote t) l → AllByRecursion (λ (e : Entry). GoesTo t.reaches e.kind) (entries_in l)
goes_noted t [] h = tt
goes_noted t (note.Entered e ∷ l) h = (h.0, goes_noted t l h.1)
goes_noted t (note.Failed who failure ∷ l) h = goes_noted t l h.1
