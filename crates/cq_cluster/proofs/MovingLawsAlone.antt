-- A move of a group that is held alone, beside which nothing is entered: its entries stand one behind the other, and there is nothing to catch up with.
use Rattle.std.proofs.Common.{◌≡◌, ◌∙◌, ◌⊎◌, inl, inr, ℕ, true, false, List, [], ◌∷◌, ◌++◌, length, map, refl, sym, ap, subst, arith, append-nil, None, Some, slice_get, Result, Ok, Err, IfOk, IfErr, OnErr}
use Rattle.std.specs.List.{AllByRecursion, AllZip, fold}
use Rattle.std.proofs.lemmas.List.Sums.{fold-append}
use Rattle.cq_value.proofs.Truths.{two_ways}
use Rattle.cq_tree.specs.declared.journal.Who.{Who}
use Rattle.cq_tree.specs.declared.journal.Entry.{Entry}
use Rattle.cq_tree.specs.declared.journal.EntryKind.{EntryKind}
use Rattle.cq_tree.specs.declared.journal.EntryKind.TheVariants.{MoveStart, CatchUp, Cutover}
use Rattle.cq_journal.specs.Records.{Journal}
use Rattle.cq_journal.specs.Stations.{Station, moved, moving_of, node_of, station_of}
use Rattle.cq_history.specs.Journals.{Step, consecutive, made_by, steps_after, with_entries}
use Rattle.cq_history.specs.Laws.{IsGivenUp as AreGivenUp}
use Rattle.cq_history.specs.Moves.{AreRounds, last_of, written_between}
use Rattle.cq_history.proofs.Entries.{entries_by, steps_own}
use Rattle.cq_history.proofs.Visiting.{made_who}
use Rattle.cq_store.specs.Stores.{StoreState}
use Rattle.cq_group.specs.declared.group.GroupState.{GroupState}
use Rattle.cq_group.specs.declared.start.MoveWhy.{MoveWhy}
use Rattle.cq_group.specs.declared.start.MoveWhy.TheVariants as why
use Rattle.cq_group.specs.Calls.{Failed, Lifted, SomeZip}
use Rattle.cq_group.specs.Groups.{outlines, stores_of}
use Rattle.cq_group.specs.Incoming.{rows_in}
use Rattle.cq_reach.specs.Seen.{Seen, seen_of, with_kinds}
use Rattle.cq_reach.proofs.Growth.{one_item}
use Rattle.cq_move.specs.declared.outcome.Moved.{Moved}
use Rattle.cq_move.specs.declared.outcome.MoveReport.{MoveReport}
use Rattle.cq_move.specs.declared.outcome.NotMoved.{NotMoved}
use Rattle.cq_move.specs.Outcomes.{EndsMove, IsTried, KeepShards}
use Rattle.cq_move_calls.specs.Held.{AreKept, GoesOnAt, HasFailedBy, RestsAt, seen_in}
use Rattle.cq_move_calls.specs.Keeping.{kept_steady}
use Rattle.cq_move_calls.specs.Moving.{RefusesStart, Told}
use Rattle.cq_transfer.specs.Carrying.{IsGivenUp, IsRefused}
use Rattle.cq_transfer.specs.Entering.{AreBegun, Enters, HasMoved, HasStopped}
use Rattle.cq_transfer.proofs.RoundLaws.{written_behind}
use Rattle.cq_cluster.specs.Moving.{CanMove, CanRetire, IsChangedAt, IsKeptAt, IsMovedAt, Keeps, fault_told}
use Rattle.cq_cluster.specs.Steady.{AreExchangedSteady}
use Rattle.cq_cluster.proofs.MovingLawsStores.{kept_stopped, retire_refused, retire_stopped}
use Rattle.cq_cluster.proofs.SteadyLaws.{tried_steady}

abbrev pub nobody : Entry → Type 0
nobody e = ⊥

-- ---- a group with a statement's entries

abbrev step : Station → Entry → Station
step s e = moved s e.who e.kind

pub station_with : (who : Who) (kinds : List EntryKind) (s : Seen) → station_of (with_kinds who kinds s).journal ≡ fold step (station_of s.journal) (entries_by who kinds)
station_with who kinds s = fold-append step (record { node = s.journal.opening; moving = None; target = s.journal.opening }) s.journal.entries (entries_by who kinds)

pub with_none : (who : Who) (s : Seen) → with_kinds who [] s ≡ s
with_none who s = ap (λ (es : List Entry). record s { journal = record s.journal { entries = es } }) (append-nil s.journal.entries)

-- ---- steps one behind the other

-- the first of a statement's steps, and those behind it
record IsFirst (who : Who) (j : Journal) (first : Step) (behind : List Step) (kinds : List EntryKind) : Type 0 where
  more : List EntryKind
  all : kinds ≡ first.kind ∷ more
  over : first ≡ record { before = j; kind = first.kind }
  rest : behind ≡ consecutive who (with_entries who (first.kind ∷ []) j) more

first_of : (who : Who) (j : Journal) (first : Step) (behind : List Step) (kinds : List EntryKind) → first ∷ behind ≡ consecutive who j kinds → IsFirst who j first behind kinds
first_of who j first behind [] e = absurd (cc e)
first_of who j first behind (k ∷ ks) e =
    let all : first ∷ behind ≡ record { before = j; kind = k } ∷ consecutive who (with_entries who (k ∷ []) j) ks = e in
    let head : first ≡ record { before = j; kind = k } = cc all in
    let tail : behind ≡ consecutive who (with_entries who (k ∷ []) j) ks = cc all in
    let kind : k ≡ first.kind = sym (ap (λ (s : Step). s.kind) head) in
    record {
      more = ks;
      all = ap (λ (v : EntryKind). v ∷ ks) kind;
      over = head ∙ ap (λ (v : EntryKind). record { before = j; kind = v }) kind;
      rest = tail ∙ ap (λ (v : EntryKind). consecutive who (with_entries who (v ∷ []) j) ks) kind;
    }

none_behind : (who : Who) (j : Journal) (kinds : List EntryKind) → [] ≡ consecutive who j kinds → kinds ≡ []
none_behind who j [] e = refl
none_behind who j (k ∷ ks) e = absurd (cc e)

-- nothing was written between two of them
none_written : (who : Who) (j : Journal) (s t : Step) → s ≡ record { before = j; kind = s.kind } → t ≡ record { before = with_entries who (s.kind ∷ []) j; kind = t.kind } → written_between s t ≡ 0
none_written who j s t over next =
    (λ i. written_between (over i) (next i)) ∙ written_behind who (record { before = j; kind = s.kind }) t.kind

-- ---- what a statement enters where nobody else does

own_entries : (who : Who) (es : List Entry) → AllByRecursion (λ (e : Entry). (made_by who e ≡ true) ⊎ nobody e) es → es ≡ entries_by who (map (λ (e : Entry). e.kind) es)
own_entries who [] all = refl
own_entries who (e ∷ es) all =
    let own : e.who ≡ who = elim all.0 [ inl m ↦ made_who who e m | inr none ↦ absurd none ] in
    ap (λ (w : Who). record { who = w; kind = e.kind } ∷ es) own ∙ ap (λ (v : List Entry). record { who = who; kind = e.kind } ∷ v) (own_entries who es all.1)

record EntersAlone (who : Who) (steps : List Step) (s t : Seen) : Type 0 where
  kinds : List EntryKind
  own : steps ≡ consecutive who s.journal kinds
  is : t ≡ with_kinds who kinds s

enters_alone : (who : Who) (steps : List Step) (s t : Seen) → Enters nobody who steps s t → EntersAlone who steps s t
enters_alone who steps s t h =
    let kinds = map (λ (e : Entry). e.kind) h.grown.more in
    let own = own_entries who h.grown.more h.grown.all in
    record {
      kinds = kinds;
      own = h.own ∙ ap (steps_after who s.journal) own ∙ steps_own who s.journal kinds;
      is = h.grown.is ∙ ap (λ (es : List Entry). record s { journal = record s.journal { entries = s.journal.entries ++ es } }) own;
    }

-- a call that enters nothing found the group as it was
pub record FindsSame (fact : Seen → Type 0) (s t : Seen) : Type 0 where
  pub so : fact s
  pub same : t ≡ s

pub told_alone : (who : Who) (fact : Seen → Type 0) (s t : Seen) → Told nobody who [] fact s t → FindsSame fact s t
told_alone who fact s t m = by m.grown.more m.grown.all m.grown.is
  where
    by : (more : List Entry) → AllByRecursion nobody more → m.found ≡ record s { journal = record s.journal { entries = s.journal.entries ++ more } } → FindsSame fact s t
    by [] all is =
        let found : m.found ≡ s = is ∙ with_none who s in
        record { so = subst fact found m.so; same = m.is ∙ with_none who m.found ∙ found }
    by (e ∷ more) all is = absurd all.0

-- ---- a whole move

-- the entries of one that came to its end, and its numbers
pub record HasMovedAlone (who : Who) (to : ℕ) (r : MoveReport) (s t : Seen) : Type 0 where
  pub is : t ≡ with_kinds who (MoveStart to ∷ CatchUp ∷ Cutover ∷ []) s
  pub report : r ≡ record { copied = rows_in s.journal.entries s.tables; caught = 0; last = 0 }

pub moved_alone : (who : Who) (from to : ℕ) (r : MoveReport) (s t : Seen) → HasMoved nobody who from to r s t → HasMovedAlone who to r s t
moved_alone who from to r s t h = by h.rounds alone.own h.catches h.settled h.caught h.last
  where
    alone : EntersAlone who (h.start ∷ h.rounds ++ h.cutover ∷ []) s t
    alone = enters_alone who (h.start ∷ h.rounds ++ h.cutover ∷ []) s t h.enters

    by : (rounds : List Step) → h.start ∷ rounds ++ h.cutover ∷ [] ≡ consecutive who s.journal alone.kinds → AllByRecursion (λ (v : Step). v.kind ≡ CatchUp) rounds → AreRounds 1 h.start rounds →
        r.caught ≡ written_between h.start (last_of h.start rounds) → r.last ≡ written_between (last_of h.start rounds) h.cutover → HasMovedAlone who to r s t
    by [] own catches settled caught last = absurd settled
    by (u ∷ []) own catches settled caught last =
        let j = with_entries who (h.start.kind ∷ []) s.journal in
        let first = first_of who s.journal h.start (u ∷ h.cutover ∷ []) alone.kinds own in
        let next = first_of who j u (h.cutover ∷ []) first.more first.rest in
        let end = first_of who (with_entries who (u.kind ∷ []) j) h.cutover [] next.more next.rest in
        let none = none_behind who (with_entries who (h.cutover.kind ∷ []) (with_entries who (u.kind ∷ []) j)) end.more end.rest in
        let kinds : alone.kinds ≡ h.start.kind ∷ u.kind ∷ h.cutover.kind ∷ [] =
        first.all ∙ ap (λ (ks : List EntryKind). h.start.kind ∷ ks) (next.all ∙ ap (λ (ks : List EntryKind). u.kind ∷ ks) (end.all ∙ ap (λ (ks : List EntryKind). h.cutover.kind ∷ ks) none)) in
        let copied : r.copied ≡ rows_in s.journal.entries s.tables = h.copied ∙ ap (λ (v : Step). rows_in v.before.entries s.tables) first.over in
        let all_caught : r.caught ≡ 0 = caught ∙ none_written who s.journal h.start u first.over next.over in
        let at_last : r.last ≡ 0 = last ∙ none_written who j u h.cutover next.over end.over in
        record {
          is = alone.is ∙ ap (λ (ks : List EntryKind). with_kinds who ks s) kinds ∙ (λ i. with_kinds who (h.starts i ∷ catches.0 i ∷ h.ends i ∷ []) s);
          report = λ i. record { copied = copied i; caught = all_caught i; last = at_last i };
        }
    by (u ∷ v ∷ more) own catches settled caught last =
        let first = first_of who s.journal h.start (u ∷ v ∷ more ++ h.cutover ∷ []) alone.kinds own in
        let next = first_of who (with_entries who (h.start.kind ∷ []) s.journal) u (v ∷ more ++ h.cutover ∷ []) first.more first.rest in
        let none = none_written who s.journal h.start u first.over next.over in
        let some = settled.0 in
        absurd (omega (arith, none, some))

-- the group is on the other node then, and is moved no more
pub moved_node : (who : Who) (to : ℕ) (r : MoveReport) (s t : Seen) → HasMovedAlone who to r s t → node_of t.journal ≡ to
moved_node who to r s t h = ap (λ (v : Seen). node_of v.journal) h.is ∙ ap (λ (v : Station). v.node) (station_with who (MoveStart to ∷ CatchUp ∷ Cutover ∷ []) s)

pub moved_still : (who : Who) (to : ℕ) (r : MoveReport) (s t : Seen) → HasMovedAlone who to r s t → moving_of t.journal ≡ None
moved_still who to r s t h = ap (λ (v : Seen). moving_of v.journal) h.is ∙ ap (λ (v : Station). v.moving) (station_with who (MoveStart to ∷ CatchUp ∷ Cutover ∷ []) s)

-- the entries of one that was stopped
pub record HasStoppedAlone (who : Who) (to : ℕ) (s t : Seen) : Type 0 where
  pub kinds : List EntryKind
  pub is : t ≡ with_kinds who kinds s
  pub up : AreGivenUp to kinds

pub stopped_alone : (who : Who) (from to : ℕ) (s t : Seen) → HasStopped nobody who from to s t → HasStoppedAlone who to s t
stopped_alone who from to s t h = by h.is.rounds (sym h.is.all ∙ alone.own) h.is.catches h.begun
  where
    alone : EntersAlone who h.steps s t
    alone = enters_alone who h.steps s t h.enters

    by : (rounds : List Step) → h.is.start ∷ rounds ++ h.is.stop ∷ [] ≡ consecutive who s.journal alone.kinds → AllByRecursion (λ (v : Step). v.kind ≡ CatchUp) rounds → AreBegun 1 h.is.start rounds → HasStoppedAlone who to s t
    by [] own catches begun =
        let j = with_entries who (h.is.start.kind ∷ []) s.journal in
        let first = first_of who s.journal h.is.start (h.is.stop ∷ []) alone.kinds own in
        let end = first_of who j h.is.stop [] first.more first.rest in
        let none = none_behind who (with_entries who (h.is.stop.kind ∷ []) j) end.more end.rest in
        record {
          kinds = alone.kinds;
          is = alone.is;
          up = inl (first.all ∙ ap (λ (ks : List EntryKind). h.is.start.kind ∷ ks) (end.all ∙ ap (λ (ks : List EntryKind). h.is.stop.kind ∷ ks) none) ∙ (λ i. h.is.starts i ∷ h.is.ends i ∷ []));
        }
    by (u ∷ []) own catches begun =
        let j = with_entries who (h.is.start.kind ∷ []) s.journal in
        let first = first_of who s.journal h.is.start (u ∷ h.is.stop ∷ []) alone.kinds own in
        let next = first_of who j u (h.is.stop ∷ []) first.more first.rest in
        let end = first_of who (with_entries who (u.kind ∷ []) j) h.is.stop [] next.more next.rest in
        let none = none_behind who (with_entries who (h.is.stop.kind ∷ []) (with_entries who (u.kind ∷ []) j)) end.more end.rest in
        record {
          kinds = alone.kinds;
          is = alone.is;
          up = inr (
              first.all
              ∙ ap (λ (ks : List EntryKind). h.is.start.kind ∷ ks) (next.all ∙ ap (λ (ks : List EntryKind). u.kind ∷ ks) (end.all ∙ ap (λ (ks : List EntryKind). h.is.stop.kind ∷ ks) none))
              ∙ (λ i. h.is.starts i ∷ catches.0 i ∷ h.is.ends i ∷ [])
              );
        }
    by (u ∷ v ∷ more) own catches begun =
        let first = first_of who s.journal h.is.start (u ∷ v ∷ more ++ h.is.stop ∷ []) alone.kinds own in
        let next = first_of who (with_entries who (h.is.start.kind ∷ []) s.journal) u (v ∷ more ++ h.is.stop ∷ []) first.more first.rest in
        let none = none_written who s.journal h.is.start u first.over next.over in
        let some = begun.0 in
        absurd (omega (arith, none, some))

pub stopped_still : (who : Who) (to : ℕ) (s t : Seen) → HasStoppedAlone who to s t → moving_of t.journal ≡ None
stopped_still who to s t h = ap (λ (v : Seen). moving_of v.journal) h.is ∙ ap (λ (v : Station). v.moving) (station_with who h.kinds s) ∙ by h.up
  where
    by : AreGivenUp to h.kinds → (fold step (station_of s.journal) (entries_by who h.kinds)).moving ≡ None
    by (inl e) = ap (λ (ks : List EntryKind). (fold step (station_of s.journal) (entries_by who ks)).moving) e
    by (inr e) = ap (λ (ks : List EntryKind). (fold step (station_of s.journal) (entries_by who ks)).moving) e

-- ---- one of several groups

module _ {X : Type 0} (state : X → StoreState) (who : Who) (group from to : ℕ) (given : List X) (old new : List (GroupState X)) where
  abbrev seen : List (GroupState X) → Seen
  seen groups = seen_in (slice_get groups group)

  module _ (can : CanMove state group from to (length given) old) where
    known : seen old ≡ seen_of can.was
    known = ap seen_in can.there

    ends : (w : MoveWhy) (back : List X) → EndsMove state (seen old).tables to w given back → EndsMove state (outlines can.was) to w given back
    ends w back h = subst (λ (v : Seen). EndsMove state v.tables to w given back) known h

    abbrev GivenUp : NotMoved X → Type 0
    GivenUp e = e.begun ≡ true → IsGivenUp state nobody who from to given e (seen old) (seen new)

    pub can_retire : (r : Result (Moved X) (NotMoved X)) → IfErr r GivenUp → IfErr r (λ e. CanRetire state to e.stores.items (fault_told e.begun e.why))
    can_retire (Ok m) stopped = tt
    can_retire (Err e) stopped = elim (two_ways e.begun) [
      | inl y ↦
          let h = stopped y in
          subst (λ b. CanRetire state to e.stores.items (fault_told b e.why)) (sym y)
          (retire_stopped state (outlines can.was) to given e.stores.items e.why (subst (λ (v : Seen). KeepShards state v.tables e.stores.items) known h.shards) can.apart (ends e.why e.stores.items h.why))
      | inr n ↦ subst (λ b. CanRetire state to e.stores.items (fault_told b e.why)) (sym n) (retire_refused state to e.stores.items e.why)
    ]

    module _ (ready : RestsAt state group new) (keeps : AreKept group old new) where
      abbrev is : GroupState X
      is = ready.0

      changed : IsChangedAt group can.was is old new
      changed = record { count = keeps.count; there = can.there; here = ready.1; others = keeps.others }

      behind : seen_of is ≡ seen new
      behind = sym (ap seen_in ready.1)

      grown : (kinds : List EntryKind) → seen new ≡ with_kinds who kinds (seen old) → seen_of is ≡ with_kinds who kinds (seen_of can.was)
      grown kinds e = behind ∙ e ∙ ap (with_kinds who kinds) known

      pub is_moved : (r : Result (Moved X) (NotMoved X)) → IfOk r (λ m. HasMoved nobody who from to m.report (seen old) (seen new)) → IfOk r (λ m. IsMovedAt state who group to m.report old new)
      is_moved (Err e) h = tt
      is_moved (Ok m) h =
          let moves = moved_alone who from to m.report (seen old) (seen new) h in
          let more = grown (MoveStart to ∷ CatchUp ∷ Cutover ∷ []) moves.is in
          record {
            was = can.was;
            is = is;
            changed = changed;
            resting = ready.2;
            still = ap (λ (v : Seen). moving_of v.journal) behind ∙ moved_still who to m.report (seen old) (seen new) moves;
            tables = ap (λ (v : Seen). v.tables) more;
            same = record { number = ap (λ (v : Seen). v.journal.number) more; opening = ap (λ (v : Seen). v.journal.opening) more; nodes = ap (λ (v : Seen). v.nodes) more };
            entries = ap (λ (v : Seen). v.journal.entries) more;
            node = sym ready.2.placed ∙ ap (λ (v : Seen). node_of v.journal) behind ∙ moved_node who to m.report (seen old) (seen new) moves;
            report = moves.report ∙ ap (λ (v : Seen). record { copied = rows_in v.journal.entries v.tables; caught = 0; last = 0 }) known;
          }

      -- one that can be moved isn't refused for its node
      refuses : (w : MoveWhy) → RefusesStart w (seen_of can.was) to from → HasFailedBy state group w old new → Keeps state to can.was is [] (fault_told false w)
      refuses (why.Moving by) h failed = absurd (let no : None ≡ Some by = sym can.still ∙ h in cc no)
      refuses (why.NotThere node) h failed = absurd (h.2 (h.1 ∙ can.resting.placed ∙ can.at))
      refuses (why.SameNode node) h failed = absurd (can.other (sym h.2 ∙ h.3))
      refuses (why.Worker failure) h failed =
          let was_it : failed.was ≡ can.was = one_item failed.was can.was (sym failed.there ∙ can.there) in
          let is_it : failed.is ≡ is = one_item failed.is is (sym failed.here ∙ ready.1) in
          let Fails : GroupState X → GroupState X → Type 0 = λ g h. SomeZip (Lifted state (Failed failure)) (stores_of g) (stores_of h) in
          (refl, subst (λ (g : GroupState X). Fails g is) was_it (subst (λ (g : GroupState X). Fails failed.was g) is_it failed.failed))
      refuses why.Memory h failed = inl refl

      abbrev Refused : NotMoved X → Type 0
      Refused e = e.begun ≡ false → IsRefused nobody (λ (w : MoveWhy). HasFailedBy state group w old new) who from to given e (seen old) (seen new)

      pub is_kept : (r : Result (Moved X) (NotMoved X)) → OnErr r (GoesOnAt state group old new) → IfErr r Refused → IfErr r GivenUp → IfErr r (λ e. IsKeptAt state who group to (fault_told e.begun e.why) old new)
      is_kept (Ok m) on refused stopped = tt
      is_kept (Err e) on refused stopped = elim (two_ways e.begun) [
        | inl y ↦
            let h = stopped y in
            let stops = stopped_alone who from to (seen old) (seen new) h.stopped in
            record {
              was = can.was;
              is = is;
              changed = changed;
              on = on can.was is can.there ready.1;
              resting = ready.2;
              still = ap (λ (v : Seen). moving_of v.journal) behind ∙ stopped_still who to (seen old) (seen new) stops;
              kinds = stops.kinds;
              entries = ap (λ (v : Seen). v.journal.entries) (grown stops.kinds stops.is);
              cause = subst (λ b. Keeps state to can.was is stops.kinds (fault_told b e.why)) (sym y) (kept_stopped state can.was is to stops.kinds given e.stores.items e.why stops.up (ends e.why e.stores.items h.why));
            }
        | inr n ↦
            let h = refused n in
            let finds = told_alone who (λ (s : Seen). RefusesStart e.why s to from) (seen old) (seen new) h.told in
            record {
              was = can.was;
              is = is;
              changed = changed;
              on = on can.was is can.there ready.1;
              resting = ready.2;
              still = ap (λ (v : Seen). moving_of v.journal) (behind ∙ finds.same ∙ known) ∙ can.still;
              kinds = [];
              entries = ap (λ (v : Seen). v.journal.entries) (grown [] (finds.same ∙ sym (with_none who (seen old))));
              cause = subst (λ b. Keeps state to can.was is [] (fault_told b e.why)) (sym n) (refuses e.why (subst (λ (v : Seen). RefusesStart e.why v to from) known finds.so) h.failed);
            }
      ]

      -- it went on, and the stores that were given come back
      pub still_steady : (r : Result (Moved X) (NotMoved X)) → OnErr r (GoesOnAt state group old new) → IfErr r (λ e. AllZip (Lifted state IsTried) given e.stores.items) → IfErr r (λ e. AreExchangedSteady state old given new e.stores.items)
      still_steady (Ok m) on tried = tt
      still_steady (Err e) on tried = λ node all stores. (kept_steady state node group old new keeps on all, tried_steady state node given e.stores.items tried stores)
