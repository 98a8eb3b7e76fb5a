-- The entries of a write's parts, and what the groups' journals come to.
use Rattle.std.proofs.Common.{◌≡◌, inl, inr, ℕ, zero, suc, ◌≤◌, true, false, List, [], ◌∷◌, ◌++◌, length, refl, sym, ◌∙◌, ap, subst, arith, Some, slice_get}
use Rattle.std.specs.Prelude.{nat_eq, slice_index_or}
use Rattle.std.specs.List.{AllByRecursion}
use Rattle.std.proofs.lemmas.Bool.Decides.{eqb_tells}
use Rattle.std.proofs.lemmas.Option.{same_Some}
use Rattle.cq_value.proofs.Lists.{got}
use Rattle.cq_value.specs.Tables.{empty_table}
use Rattle.cq_tree.specs.declared.journal.Who.{Who}
use Rattle.cq_tree.specs.declared.journal.EntryKind.{EntryKind}
use Rattle.cq_tree.specs.declared.journal.EntryKind.TheVariants as entry
use Rattle.cq_tree.specs.declared.write.Reply.{Reply}
use Rattle.cq_tree.specs.declared.write.Reply.TheVariants.{Count}
use Rattle.cq_tree.specs.declared.write.ShardOp.{ShardOp}
use Rattle.cq_journal.specs.Records.{Journal}
use Rattle.cq_history.specs.Journals.{Kinds, none, with_entries}
use Rattle.cq_history.specs.Deeds.{Grows}
use Rattle.cq_history.proofs.Lists.{got_below}
use Rattle.cq_history.proofs.Entries.{index_beyond}
use Rattle.cq_history.proofs.Script.{with_none, grows_none}
use Rattle.cq_store.specs.Stores.{StoreState}
use Rattle.cq_group.specs.declared.group.GroupState.{GroupState}
use Rattle.cq_group.specs.Groups.{IsSameGroup, entries_of, journal_of}
use Rattle.cq_group.specs.Resting.{IsResting, AreResting, GoOn, journals_of}
use Rattle.cq_group.specs.Calls.{GroupGoesOn}
use Rattle.cq_router.specs.declared.insertion.Part.{Part}
use Rattle.cq_reach.specs.declared.staging.ReadyPart.{ReadyPart}
use Rattle.cq_reach.specs.Seen.{all_seen, journals_in}
use Rattle.cq_reach.specs.Writes.{entered, Enters as Makes}
use Rattle.cq_reach.proofs.Seeing.{journals_seen}
use Rattle.cq_reach.specs.Staging.{InBoth, IsApart, AreApart, Turned, Enters, place_of, AreRestored}
use Rattle.cq_reach.proofs.Growth.{rest_more}
use Rattle.cq_reach.proofs.Turning.{turned_at}
use Rattle.cq_reach.proofs.Holding.{goes_on_same, rests_again}
use Rattle.cq_reach.proofs.Stopping.{parts_of}

-- ---- lists of journals

module _ {X : Type 0} where
  pub long : (groups : List (GroupState X)) → length (journals_of groups) ≡ length groups
  long [] = refl
  long (g ∷ groups) = ap suc (long groups)

  pub journal_at : (groups : List (GroupState X)) (i : ℕ) (d : Journal) (g : GroupState X) → slice_get groups i ≡ Some g → slice_index_or (journals_of groups) i d ≡ journal_of g
  journal_at [] i d g s = cc
  journal_at (h ∷ groups) zero d g s = ap (λ (v : GroupState X). journal_of v) (same_Some h g s)
  journal_at (h ∷ groups) (suc i) d g s = journal_at groups i d g s

  pub same_journals : (old new : List (GroupState X)) → length new ≡ length old → ((i : ℕ) (g h : GroupState X) → slice_get old i ≡ Some g → slice_get new i ≡ Some h → journal_of h ≡ journal_of g) → journals_of new ≡ journals_of old
  same_journals [] [] e f = refl
  same_journals [] (h ∷ new) e f = absurd (omega (arith, e))
  same_journals (g ∷ old) [] e f = absurd (omega (arith, e))
  same_journals (g ∷ old) (h ∷ new) e f =
      let first : journal_of h ≡ journal_of g = f 0 g h refl refl in
      let rest : journals_of new ≡ journals_of old = same_journals old new (omega (arith, e)) (λ i a b s n. f (suc i) a b s n) in
      λ i. first i ∷ rest i

  -- groups whose journals have these entries more
  pub grows_by : (who : Who) (kinds : Kinds) (old new : List (GroupState X)) → length new ≡ length old →
      ((i : ℕ) (g h : GroupState X) → slice_get old i ≡ Some g → slice_get new i ≡ Some h → journal_of h ≡ with_entries who (kinds i) (journal_of g)) →
      ((i : ℕ) → length old ≤ i → kinds i ≡ []) → Grows who kinds (journals_of old) (journals_of new)
  grows_by who kinds old new e each beyond =
      let a = long old in
      let b = long new in
      record {
        count = omega (arith, a, b, e);
        kept = λ i l.
            let g = got old i (omega (arith, a, l)) in
            let h = got new i (omega (arith, a, l, e)) in
            journal_at new i _ h.0 h.1 ∙ each i g.0 h.0 g.1 h.1 ∙ sym (ap (with_entries who (kinds i)) (journal_at old i _ g.0 g.1));
        fresh = λ i m.
            let far : length (journals_of new) ≤ i = omega (arith, a, b, e, m) in
            let none = index_beyond (journals_of new) i _ far in (
              record { number = ap (λ (j : Journal). j.number) none; base = λ table. ap (λ (j : Journal). j.base table) none; entries = ap (λ (j : Journal). j.entries) none },
              beyond i (omega (arith, a, m)),
            );
      }

-- ---- one group

module _ {X : Type 0} (state : X → StoreState) where
  pub journal_same : (g h : GroupState X) → IsSameGroup g h → entries_of h ≡ entries_of g → journal_of h ≡ journal_of g
  journal_same g h s e = λ i. record { number = s.number i; opening = s.opening i; base = λ table. empty_table; entries = e i }

  pub journal_more : (who : Who) (kind : EntryKind) (g h : GroupState X) → IsSameGroup g h → entries_of h ≡ entries_of g ++ record { who = who; kind = kind } ∷ [] → journal_of h ≡ with_entries who (kind ∷ []) (journal_of g)
  journal_more who kind g h s e = λ i. record { number = s.number i; opening = s.opening i; base = λ table. empty_table; entries = e i }

  -- a group that rests where its write was entered
  pub rests_entered : (who : Who) (op : ShardOp) (reply : Reply) (g h : GroupState X) → IsResting state g → Enters state who op reply g h → IsResting state h
  rests_entered who op reply g h r e = rest_more state g h who (entry.Write op reply) (λ s. refl) r e.kept e.quiet e.on.same e.entry

  -- ---- no entry

  pub restored_journals : (old new : List (GroupState X)) → AreRestored state old new → journals_of new ≡ journals_of old
  restored_journals old new r = same_journals old new r.count (λ i g h s n. let d = r.each i g h s n in journal_same g h d.held.on.same d.held.entries)

  pub restored_on : (old new : List (GroupState X)) → AreResting state old → AreRestored state old new → GoOn state old new
  restored_on old new resting r = record { count = r.count; each = λ i g h s n. let d = r.each i g h s n in (d.held.on, rests_again state g h (resting i g s) d) }

  -- ---- an entry in each part's group

  entered_here : (counts : Part → ℕ) (p : Part) (ps : List Part) (i : ℕ) → nat_eq i p.group ≡ true → entered counts ps i ≡ [] → entered counts (p ∷ ps) i ≡ entry.Write p.op (Count (counts p)) ∷ []
  entered_here counts p ps i e none = rw (e, none) refl

  entered_there : (counts : Part → ℕ) (p : Part) (ps : List Part) (i : ℕ) → nat_eq i p.group ≡ false → entered counts (p ∷ ps) i ≡ entered counts ps i
  entered_there counts p ps i e = rw e refl

  entered_apart : (counts : Part → ℕ) (i : ℕ) (ready : List ReadyPart) → IsApart place_of i ready → entered counts (parts_of ready) i ≡ []
  entered_apart counts i [] h = refl
  entered_apart counts i (s ∷ ready) h = elim (eqb_tells i s.part.group) [
    | inl y ↦ absurd (h.0 y.1)
    | inr z ↦ entered_there counts s.part (parts_of ready) i z.0 ∙ entered_apart counts i ready h.1
  ]

  module _ (who : Who) (counts : Part → ℕ) (old new : List (GroupState X)) where
    -- a part has its entry with its count
    abbrev pub Counted : ReadyPart → GroupState X → GroupState X → Type 0
    Counted s g h = Enters state who s.part.op (Count (counts s.part)) g h

    kinds_at : (i : ℕ) (g h : GroupState X) → slice_get old i ≡ Some g → slice_get new i ≡ Some h → (ready : List ReadyPart) → AreApart place_of ready → AllByRecursion (λ (s : ReadyPart). InBoth old new (place_of s) (Counted s)) ready →
        (IsApart place_of i ready → slice_get new i ≡ slice_get old i) → journal_of h ≡ with_entries who (entered counts (parts_of ready) i) (journal_of g)
    kinds_at i g h gs hs [] apart each others =
        let same : h ≡ g = same_Some h g (sym hs ∙ others tt ∙ gs) in
        ap (λ (v : GroupState X). journal_of v) same ∙ sym (with_none who (journal_of g))
    kinds_at i g h gs hs (s ∷ ready) apart each others = elim (eqb_tells i s.part.group) [
      | inl y ↦
          let b = each.0 in
          let first : b.before ≡ g = same_Some b.before g (sym b.was ∙ sym (ap (slice_get old) y.1) ∙ gs) in
          let last : b.after ≡ h = same_Some b.after h (sym b.is ∙ sym (ap (slice_get new) y.1) ∙ hs) in
          let holds : Counted s g h = subst (λ (v : GroupState X). Counted s g v) last (subst (λ (v : GroupState X). Counted s v b.after) first b.holds) in
          let none = entered_apart counts i ready (subst (λ n. IsApart place_of n ready) (sym y.1) apart.0) in
          journal_more who (entry.Write s.part.op (Count (counts s.part))) g h holds.on.same holds.entry
          ∙ ap (λ (ks : List EntryKind). with_entries who ks (journal_of g)) (sym (entered_here counts s.part (parts_of ready) i y.0 none))
      | inr z ↦
          kinds_at i g h gs hs ready apart.1 each.1 (λ more. others (z.1, more))
          ∙ ap (λ (ks : List EntryKind). with_entries who ks (journal_of g)) (sym (entered_there counts s.part (parts_of ready) i z.0))
    ]

    nothing_beyond : (i : ℕ) (ready : List ReadyPart) → AllByRecursion (λ (s : ReadyPart). InBoth old new (place_of s) (Counted s)) ready → length old ≤ i → IsApart place_of i ready
    nothing_beyond i [] each far = tt
    nothing_beyond i (s ∷ ready) each far =
        let b = each.0 in
        let low = got_below old s.part.group b.before b.was in
        ((λ e. absurd (omega (arith, low, far, e))), nothing_beyond i ready each.1 far)

    pub all_grow : (ready : List ReadyPart) → AreApart place_of ready → Turned place_of Counted ready old new → Grows who (entered counts (parts_of ready)) (journals_of old) (journals_of new)
    all_grow ready apart t =
        grows_by who (entered counts (parts_of ready)) old new t.count (λ i g h gs hs. kinds_at i g h gs hs ready apart t.each (t.others i))
        (λ i far. entered_apart counts i ready (nothing_beyond i ready t.each far))

    pub all_go_on : (ready : List ReadyPart) → AreResting state old → Turned place_of Counted ready old new → GoOn state old new
    all_go_on ready resting t = record {
      count = t.count;
      each = λ i g h gs hs. elim (turned_at place_of Counted ready old new t i g h gs hs) [
        | inl a ↦ (a.2.on, rests_entered who a.0.part.op (Count (counts a.0.part)) g h (resting i g gs) a.2)
        | inr b ↦
            subst (λ (v : GroupState X). GroupGoesOn state g v × IsResting state v) (sym b.1) (goes_on_same state g, resting i g gs)
      ];
    }

-- ---- as they are known

module _ {X : Type 0} (who : Who) where
  pub enters_seen : (kinds : Kinds) (old new : List (GroupState X)) → Grows who kinds (journals_of old) (journals_of new) → Makes who kinds (all_seen old) (all_seen new)
  enters_seen kinds old new g = subst (λ js. Grows who kinds js (journals_in (all_seen new))) (sym (journals_seen old)) (subst (λ js. Grows who kinds (journals_of old) js) (sym (journals_seen new)) g)

  -- no entry was made
  pub enters_same : (old new : List (GroupState X)) → journals_of new ≡ journals_of old → Makes who none (all_seen old) (all_seen new)
  enters_same old new e = enters_seen none old new (subst (λ js. Grows who none (journals_of old) js) (sym e) (grows_none who (journals_of old)))
