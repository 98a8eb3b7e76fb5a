-- What a write over several groups came to.
use Rattle.std.proofs.Common.{◌≡◌, inl, inr, ℕ, ◌^◌, ◌<◌, ◌≤◌, true, false, List, [], ◌∷◌, ◌++◌, length, refl, sym, ◌∙◌, ap, subst, arith, Some, slice_get, Ok, Err}
use Rattle.std.specs.Prelude.{nat_eq}
use Rattle.std.specs.List.{AllByRecursion, sum_by}
use Rattle.std.proofs.lemmas.Bool.Decides.{eqb_tells}
use Rattle.cq_value.proofs.Lists.{append_nil, got}
use Rattle.cq_tree.specs.declared.failure.StoreFailure.{StoreFailure}
use Rattle.cq_tree.specs.declared.journal.Who.{Who}
use Rattle.cq_tree.specs.declared.journal.Entry.{Entry}
use Rattle.cq_tree.specs.declared.journal.EntryKind.{EntryKind}
use Rattle.cq_tree.specs.declared.journal.EntryKind.TheVariants as entry
use Rattle.cq_tree.specs.declared.write.Reply.{Reply}
use Rattle.cq_tree.specs.declared.write.Reply.TheVariants.{Count, Duplicate, OutOfRange}
use Rattle.cq_tree.specs.declared.write.ShardOp.{ShardOp}
use Rattle.cq_journal.specs.Replies.{IsRefusal}
use Rattle.cq_history.specs.Journals.{Kinds, none, in_each, with_entries}
use Rattle.cq_history.proofs.Lists.{got_below}
use Rattle.cq_history.proofs.Script.{with_none}
use Rattle.cq_store.specs.Stores.{StoreState}
use Rattle.cq_group.specs.declared.group.GroupState.{GroupState}
use Rattle.cq_group.specs.Groups.{entries_of, journal_of}
use Rattle.cq_group.specs.Calls.{GroupGoesOn}
use Rattle.cq_group.specs.Resting.{IsResting, AreResting, GoOn, HasFailed}
use Rattle.cq_group.proofs.WriteLaws.{goes_on_twice}
use Rattle.cq_router.specs.declared.insertion.Part.{Part}
use Rattle.cq_reach.specs.declared.staging.ReadyPart.{ReadyPart}
use Rattle.cq_reach.specs.declared.staging.Stop.{Stop}
use Rattle.cq_reach.specs.declared.staging.Stop.TheVariants as stop
use Rattle.cq_reach.specs.declared.error.WriteError.{WriteError}
use Rattle.cq_reach.specs.declared.error.WriteError.TheVariants.{Ids, Worker, Memory}
use Rattle.cq_reach.specs.Seen.{seen_of, all_seen}
use Rattle.cq_reach.specs.Writes.{AscendFrom, Enters as Makes, AreMade, IsRefused, IsWritten, IfLost}
use Rattle.cq_reach.specs.Staging.{InBoth, TurnsOne, AreApart, Turned, Stages, Enters, place_of, count_in, AreStaged, AreEntered, AreRestored, AllStaged}
use Rattle.cq_reach.proofs.Turning.{both_twice, one_at}
use Rattle.cq_reach.proofs.Holding.{rests_again, ready_over}
use Rattle.cq_reach.proofs.Seeing.{seen_at}
use Rattle.cq_reach.proofs.Failing.{fails_in}
use Rattle.cq_reach.proofs.Stopping.{parts_of, ascend_each}
use Rattle.cq_reach.proofs.Counting.{counts, reply_is, each_replied, sum_is, sum_low}
use Rattle.cq_reach.proofs.Entering.{enters_seen, enters_same, Counted, all_grow, all_go_on, grows_by, journal_same, journal_more, rests_entered, restored_journals, restored_on}

-- in order, each in a group of its own
pub ready_apart : (parts : List Part) (ready : List ReadyPart) → parts ≡ parts_of ready → AscendFrom 0 parts → AscendFrom 0 (parts_of ready)
ready_apart parts ready e h = subst (λ (ps : List Part). AscendFrom 0 ps) e h

pub apart_all : (ready : List ReadyPart) → AscendFrom 0 (parts_of ready) → AreApart place_of ready
apart_all ready h = ascend_each 0 ready [] (subst (λ (ps : List Part). AscendFrom 0 ps) (sym (append_nil (parts_of ready))) h)

module _ {X : Type 0} (state : X → StoreState) (who : Who) (parts : List Part) (old mid new : List (GroupState X)) (resting : AreResting state old) where
  -- a write of a group, after it was held
  enters_over : (op : ShardOp) (reply : Reply) (g m h : GroupState X) → entries_of m ≡ entries_of g → GroupGoesOn state g m → Enters state who op reply m h → Enters state who op reply g h
  enters_over op reply g m h e on en = record {
    entry = en.entry ∙ ap (λ (es : List Entry). es ++ record { who = who; kind = entry.Write op reply } ∷ []) e;
    kept = en.kept;
    quiet = en.quiet;
    on = goes_on_twice state g m h on en.on;
  }

  -- ---- every part was made

  module _ (ready : List ReadyPart) (e : parts ≡ parts_of ready) (ascend : AscendFrom 0 parts) (t : AreStaged state ready old mid) where
    -- the sum of the counts fits
    pub sum_fits : length old < 2 ^ 32 → sum_by count_in ready < 2 ^ 64
    sum_fits few = let low = sum_low state old mid 0 ready (omega arith) (ready_apart parts ready e ascend) t.each in omega (arith, low, few)

    counted_each : (some : List ReadyPart) → AllByRecursion (λ (s : ReadyPart). InBoth old mid (place_of s) (Stages state s.part.op s.reply)) some →
        AllByRecursion (λ (s : ReadyPart). InBoth mid new (place_of s) (Enters state who s.part.op s.reply)) some →
        AllByRecursion (λ (s : ReadyPart). InBoth old new (place_of s) (Counted state who (counts old) old new s)) some
    counted_each [] a b = tt
    counted_each (s ∷ some) a b =
        let same = reply_is state old mid s a.0 in (
          both_twice (Stages state s.part.op s.reply) (Enters state who s.part.op s.reply) (Counted state who (counts old) old new s)
              (λ g m h st en. subst (λ (r : Reply). Enters state who s.part.op r g h) same (enters_over s.part.op s.reply g m h st.held.entries st.held.on en)) (place_of s) old mid new a.0 b.0,
          counted_each some a.1 b.1,
        )

    counted_all : AreEntered state who ready mid new → Turned place_of (Counted state who (counts old) old new) ready old new
    counted_all en = record { count = en.count ∙ t.count; each = counted_each ready t.each en.each; others = λ i h. en.others i h ∙ t.others i h }

    pub all_made : AreEntered state who ready mid new → (n : ℕ) → n ≡ sum_by count_in ready → IsWritten who parts (all_seen old) (all_seen new) (Ok (Count n))
    all_made en n is = subst (λ (ps : List Part). AreMade who ps (all_seen old) (all_seen new) n) (sym e) (record {
      counts = counts old;
      sum = is ∙ sum_is state old mid ready t.each;
      replied = each_replied state old mid ready t.each;
      enters = enters_seen who _ old new (all_grow state who (counts old) old new ready (apart_all ready (ready_apart parts ready e ascend)) (counted_all en));
    })

    pub made_go_on : AreEntered state who ready mid new → GoOn state old new
    made_go_on en = all_go_on state who (counts old) old new ready resting (counted_all en)

  -- ---- one part was refused

  module _ (s : ReadyPart) (a : AllStaged state parts old mid (Err (stop.Refused s))) (en : TurnsOne s.part.group (Enters state who s.part.op s.reply) mid new) where
    abbrev kinds : Kinds
    kinds = in_each (s.part.group ∷ []) (λ h. entry.Write s.part.op s.reply)

    enters_at : (i : ℕ) (g m h : GroupState X) → slice_get old i ≡ Some g → slice_get mid i ≡ Some m → slice_get new i ≡ Some h → journal_of h ≡ with_entries who (kinds i) (journal_of g)
    enters_at i g m h gs ms hs =
        let d = a.0.each i g m gs ms in
        elim (eqb_tells i s.part.group) [
          | inl y ↦ elim (one_at (Enters state who s.part.op s.reply) s.part.group mid new en i m h ms hs) [
            | inl o ↦
                let over = enters_over s.part.op s.reply g m h d.held.entries d.held.on o.1 in
                journal_more state who (entry.Write s.part.op s.reply) g h over.on.same over.entry ∙ ap (λ (ks : List EntryKind). with_entries who ks (journal_of g)) (sym (here i y.0))
            | inr o ↦ absurd (o.0 y.1)
          ]
          | inr z ↦ elim (one_at (Enters state who s.part.op s.reply) s.part.group mid new en i m h ms hs) [
            | inl o ↦ absurd (z.1 o.0)
            | inr o ↦
                ap (λ (v : GroupState X). journal_of v) o.1 ∙ journal_same state g m d.held.on.same d.held.entries ∙ sym (with_none who (journal_of g))
                ∙ ap (λ (ks : List EntryKind). with_entries who ks (journal_of g)) (sym (there i z.0))
          ]
        ]
      where
        here : (i : ℕ) → nat_eq i s.part.group ≡ true → kinds i ≡ entry.Write s.part.op s.reply ∷ []
        here i e = rw e refl

        there : (i : ℕ) → nat_eq i s.part.group ≡ false → kinds i ≡ []
        there i e = rw e refl

    beyond : (i : ℕ) → length old ≤ i → kinds i ≡ []
    beyond i far =
        let low = got_below old s.part.group a.1.1.before a.1.1.was in
        elim (eqb_tells i s.part.group) [ inl y ↦ absurd (let e = y.1 in omega (arith, low, far, e)) | inr z ↦ rw z.0 refl ]

    refused : IsRefused who parts (all_seen old) (all_seen new) s.reply
    refused = record {
      part = s.part;
      stopped = a.1.0;
      replied = let b = a.1.1 in record { group = seen_of b.before; there = seen_at old s.part.group b.before b.was; holds = ready_over state b.before b.after s.part.op s.reply b.holds.dropped.held b.holds.ready };
      enters = enters_seen who kinds old new (grows_by who kinds old new (en.count ∙ a.0.count)
          (λ i g h gs hs. let low = got_below old i g gs in let m = got mid i (let c = a.0.count in omega (arith, low, c)) in enters_at i g m.0 h gs m.1 hs) beyond);
    }

    pub refused_written : IsWritten who parts (all_seen old) (all_seen new) (Ok s.reply)
    refused_written = by_cases s.reply a.1.1.holds.refusal refused
      where
        by_cases : (r : Reply) → IsRefusal r → IsRefused who parts (all_seen old) (all_seen new) r → IsWritten who parts (all_seen old) (all_seen new) (Ok r)
        by_cases (Count n) b h = absurd b
        by_cases Duplicate b h = h
        by_cases OutOfRange b h = h

    pub refused_go_on : GoOn state old new
    refused_go_on = record {
      count = en.count ∙ a.0.count;
      each = λ i g h gs hs.
          let low = got_below old i g gs in
          let m = got mid i (let c = a.0.count in omega (arith, low, c)) in
          let d = a.0.each i g m.0 gs m.1 in
          elim (one_at (Enters state who s.part.op s.reply) s.part.group mid new en i m.0 h m.1 hs) [
            | inl o ↦ (let over = enters_over s.part.op s.reply g m.0 h d.held.entries d.held.on o.1 in (over.on, rests_entered state who s.part.op s.reply g h (resting i g gs) over))
            | inr o ↦ subst (λ (v : GroupState X). GroupGoesOn state g v × IsResting state v) (sym o.1) (d.held.on, rests_again state g m.0 (resting i g gs) d)
          ];
    }

  -- ---- no part has an entry

  unmade : AreRestored state old mid → Makes who none (all_seen old) (all_seen mid)
  unmade r = enters_same who old mid (restored_journals state old mid r)

  lacking : AllStaged state parts old mid (Err (stop.Failed Ids)) → IsWritten who parts (all_seen old) (all_seen mid) (Err Ids)
  lacking a =
      let its = a.1.2 in
      record { part = a.1.0; stopped = a.1.1; so = record { group = seen_of its.group; there = seen_at old a.1.0.group its.group its.there; holds = its.holds }; enters = unmade a.0 }

  failing : (failure : StoreFailure) → AllStaged state parts old mid (Err (stop.Failed (Worker failure))) → IsWritten who parts (all_seen old) (all_seen mid) (Err (Worker failure))
  failing failure a =
      let its = a.1.2 in
      record {
        part = a.1.0;
        stopped = a.1.1;
        so = record { group = seen_of its.was; there = seen_at old a.1.0.group its.was its.there; holds = fails_in state its.was its.is failure (resting a.1.0.group its.was its.there) its.failed };
        enters = unmade a.0;
      }

  no_memory : AllStaged state parts old mid (Err (stop.Failed Memory)) → IsWritten who parts (all_seen old) (all_seen mid) (Err Memory)
  no_memory a = unmade a.0

  pub unwritten : (error : WriteError) → AllStaged state parts old mid (Err (stop.Failed error)) → IsWritten who parts (all_seen old) (all_seen mid) (Err error)
  unwritten Ids a = lacking a
  unwritten (Worker failure) a = failing failure a
  unwritten Memory a = no_memory a

  -- the store that an error names failed
  pub unwritten_lost : (error : WriteError) → AllStaged state parts old mid (Err (stop.Failed error)) → IfLost (λ f. HasFailed state f old mid) error
  unwritten_lost Ids a = tt
  unwritten_lost (Worker failure) a = (a.1.0.group, a.1.2)
  unwritten_lost Memory a = tt

  pub unwritten_go_on : (why : Stop) → AllStaged state parts old mid (Err why) → GoOn state old mid
  unwritten_go_on why a = restored_on state old mid resting a.0
