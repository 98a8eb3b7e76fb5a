-- The stores of a group, and who moved it last, by notes with no cutover among them.
use Rattle.std.proofs.Common.{◌≡◌, ℕ, false, List, [], ◌∷◌, fold, refl, ◌∙◌, ap}
use Rattle.std.specs.Prelude.{⊤}
use Rattle.std.specs.List.{AllByRecursion}
use Rattle.std.proofs.lemmas.List.Sums.{fold-append}
use Rattle.cq_tree.specs.declared.journal.Entry.{Entry}
use Rattle.cq_tree.specs.declared.journal.EntryKind.{EntryKind}
use Rattle.cq_tree.specs.declared.journal.EntryKind.TheVariants.{Cutover}
use Rattle.cq_store.specs.Stores.{StoreState}
use Rattle.cq_group.specs.declared.group.GroupState.{GroupState}
use Rattle.cq_group.specs.Groups.{entries_of}
use Rattle.cq_cluster.specs.Accounts.{moved_by, mover_after}
use Rattle.cq_shared.specs.declared.note.Note.{Note}
use Rattle.cq_shared.specs.declared.note.Note.TheVariants as note
use Rattle.cq_shared.specs.Notes.{Stands, entries_in, is_cutover}

-- it is of no cutover
abbrev pub CutsNone : Note → Type 0
CutsNone (note.Entered e) = is_cutover e.kind ≡ false
CutsNone (note.Failed who failure) = ⊤

-- ---- entries

abbrev pub mover_step : ℕ → Entry → ℕ
mover_step n e = mover_after n e.who.statement e.kind

uncut_mover : (n statement : ℕ) (kind : EntryKind) → is_cutover kind ≡ false → mover_after n statement kind ≡ n
uncut_mover n statement Cutover none = absurd (cc none)
uncut_mover n statement kind none = refl

uncut_movers : (n : ℕ) (notes : List Note) → AllByRecursion CutsNone notes → fold mover_step n (entries_in notes) ≡ n
uncut_movers n [] none = refl
uncut_movers n (note.Entered e ∷ notes) none = ap (λ m. fold mover_step m (entries_in notes)) (uncut_mover n e.who.statement e.kind none.0) ∙ uncut_movers n notes none.1
uncut_movers n (note.Failed who failure ∷ notes) none = uncut_movers n notes none.1

uncut_kind : (kind : EntryKind) → (kind ≡ Cutover → ⊥) → is_cutover kind ≡ false
uncut_kind Cutover none = absurd (none refl)
uncut_kind kind none = refl

-- notes whose entries are no cutovers
pub none_cut : (notes : List Note) → AllByRecursion (λ (e : Entry). e.kind ≡ Cutover → ⊥) (entries_in notes) → AllByRecursion CutsNone notes
none_cut [] none = tt
none_cut (note.Entered e ∷ notes) none = (uncut_kind e.kind none.0, none_cut notes none.1)
none_cut (note.Failed who failure ∷ notes) none = (tt, none_cut notes none)

-- ---- a group

module _ {X : Type 0} (state : X → StoreState) (allowed : EntryKind → Type 0) (g h : GroupState X) (notes : List Note) (stands : Stands state allowed g h notes) (none : AllByRecursion CutsNone notes) where
  pub same_mover : moved_by (entries_of h) ≡ moved_by (entries_of g)
  same_mover = ap moved_by stands.journal ∙ fold-append mover_step 0 (entries_of g) (entries_in notes) ∙ uncut_movers (moved_by (entries_of g)) notes none
