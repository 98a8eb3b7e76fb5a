-- Notes of sessions, and the entries among them.
use Rattle.std.proofs.Common.{◌≡◌, ◌≢◌, ◌<◌, ◌≤◌, inl, inr, ℕ, Bool, true, false, List, [], ◌∷◌, ◌++◌, length, refl, sym, ◌∙◌, ap, subst, arith, eq-eqb, append_assoc}
use Rattle.std.specs.Prelude.{nat_eq}
use Rattle.std.specs.List.{AllByRecursion}
use Rattle.cq_value.proofs.Truths.{two_ways, or_neither}
use Rattle.cq_tree.specs.declared.journal.Entry.{Entry}
use Rattle.cq_journal.specs.Records.{Journal}
use Rattle.cq_planning.specs.Touched.{among}
use Rattle.cq_history.specs.Journals.{journal_in}
use Rattle.cq_history.specs.Deeds.{IsFresh}
use Rattle.cq_history.specs.Log.{GoesOnBy}
use Rattle.cq_history.proofs.Entries.{index_beyond, with_list}
use Rattle.cq_cell.specs.Lists.{NotIn, keep, own}
use Rattle.cq_cell.proofs.Lists.{of_others}
use Rattle.cq_shared.specs.declared.note.Note.{Note}
use Rattle.cq_shared.specs.declared.note.Note.TheVariants as note
use Rattle.cq_shared.specs.Notes.{who_of, entries_in}
use Rattle.cq_shared.proofs.Standing.{entries_more}
use Rattle.cq_block_laws.specs.Closing.{AreNoted, HasSeen}

not_among : (n : ℕ) (ns : List ℕ) → among n ns ≡ false → NotIn n ns
not_among n [] e = tt
not_among n (m ∷ ns) e =
    let both = or_neither (nat_eq n m) (among n ns) e in
    (λ same. (let yes : nat_eq n m ≡ true = eq-eqb n m (sym same) in let bad : true ≡ false = sym yes ∙ both.0 in cc bad), not_among n ns both.1)

module _ {N : Type 0} where
  kept : (b : Bool) (x : N) (xs : List N) → b ≡ true → keep b x xs ≡ [] → ⊥
  kept true x xs t e = cc e
  kept false x xs t e = cc t

  left : (b : Bool) (x : N) (xs : List N) → keep b x xs ≡ [] → xs ≡ []
  left true x xs e = absurd (cc e)
  left false x xs e = e

module _ {N : Type 0} (who : N → ℕ) where
  -- where a number has no notes
  pub none_own : (n : ℕ) (xs : List N) → own who n xs ≡ [] → AllByRecursion (λ x. who x ≢ n) xs
  none_own n [] e = tt
  none_own n (x ∷ xs) e = (λ same. kept (nat_eq (who x) n) x (own who n xs) (eq-eqb (who x) n same) e, none_own n xs (left (nat_eq (who x) n) x (own who n xs) e))

  -- where others than these have no notes
  pub all_known : (sessions : List ℕ) (xs : List N) → ((n : ℕ) → NotIn n sessions → own who n xs ≡ []) → AllByRecursion (λ x. among (who x) sessions ≡ true) xs
  all_known sessions [] none = tt
  all_known sessions (x ∷ xs) none = (
    elim (two_ways (among (who x) sessions)) [
      | inl y ↦ y
      | inr f ↦ absurd (kept (nat_eq (who x) (who x)) x (own who (who x) xs) (eq-eqb (who x) (who x) refl) (none (who x) (not_among (who x) sessions f)))
    ],
    all_known sessions xs (λ n m. left (nat_eq (who x) n) x (own who n xs) (none n m)),
  )

pub all_entries : (P : ℕ → Type 0) (notes : List Note) → AllByRecursion (λ n. P (who_of n)) notes → AllByRecursion (λ (e : Entry). P e.who.session) (entries_in notes)
all_entries P [] all = tt
all_entries P (note.Entered e ∷ notes) all = (all.0, all_entries P notes all.1)
all_entries P (n ∷ notes) all = all_entries P notes all.1

-- ---- journals

-- those at the end go on from what a session has seen by entries of others
pub goes_on : (s : ℕ) (old js new : List Journal) (notes seen : ℕ → List Note) → AreNoted old seen js → AreNoted old notes new → ((g : ℕ) → HasSeen who_of s (notes g) (seen g)) → GoesOnBy (λ (e : Entry). e.who.session ≢ s) js new
goes_on s old js new notes seen k n has g l =
    let h = has g in
    let rest = h.begins.0 in
    let there : g < length old = (let c = k.count in omega (arith, l, c)) in
    let split : entries_in (notes g) ≡ entries_in (seen g) ++ entries_in rest = ap entries_in (sym h.begins.1) ∙ entries_more (seen g) rest in (
      entries_in rest,
      n.each g there
          ∙ ap (λ (es : List Entry). with_list (journal_in old g) ((journal_in old g).entries ++ es)) split
          ∙ ap (with_list (journal_in old g)) (sym (append_assoc (journal_in old g).entries (entries_in (seen g)) (entries_in rest)))
          ∙ sym (ap (λ (j : Journal). with_list j (j.entries ++ entries_in rest)) (k.each g there)),
      all_entries (λ m. m ≢ s) rest (none_own who_of s rest (of_others who_of s (seen g) rest (h.own ∙ ap (own who_of s) (sym h.begins.1)))),
    )

-- and from those at the opening by entries of the sessions
pub entries_known : (sessions : List ℕ) (old new : List Journal) (notes : ℕ → List Note) → AreNoted old notes new → ((g n : ℕ) → NotIn n sessions → own who_of n (notes g) ≡ []) → GoesOnBy (λ (e : Entry). among e.who.session sessions ≡ true) old new
entries_known sessions old new notes n none g l = (entries_in (notes g), n.each g l, all_entries (λ m. among m sessions ≡ true) (notes g) (all_known who_of sessions (notes g) (none g)))

pub none_opened : (old new : List Journal) → length new ≡ length old → (g : ℕ) → length old ≤ g → IsFresh g (journal_in new g)
none_opened old new same g m =
    subst (IsFresh g) (sym (index_beyond new g _ (let n : length new ≤ g = omega (arith, same, m) in n))) (record { number = refl; base = λ table. refl; entries = refl })
