-- The calls of a move of a group that is held alone.
use Rattle.std.proofs.Common.{◌≡◌, ◌∙◌, ◌<◌, ◌≤◌, ℕ, List, [], ◌∷◌, ◌++◌, length, refl, sym, ap, subst, Some, slice_get, append-nil, get_or, length-set, vec_capacity, Result, Ok, Err, OnOk, OnErr, IfOk, IfErr}
use Rattle.std.specs.List.{AllZip, flat_map}
use Rattle.std.specs.declared.vec.Vec.{Vec}
use Rattle.std.specs.declared.alloc.Global.{Global}
use Rattle.std.proofs.Math.ListN.{set}
use Rattle.cq_tree.specs.declared.journal.Who.{Who}
use Rattle.cq_tree.specs.declared.journal.Entry.{Entry}
use Rattle.cq_tree.specs.declared.journal.EntryKind.{EntryKind}
use Rattle.cq_tree.specs.declared.journal.EntryKind.TheVariants.{MoveStart, CatchUp, Cutover}
use Rattle.cq_journal.specs.Stations.{Station, moved, station_of, moving_of}
use Rattle.cq_store.specs.Stores.{StoreState}
use Rattle.cq_group.specs.declared.group.GroupState.{GroupState}
use Rattle.cq_group.specs.declared.incoming.Incoming.{Incoming}
use Rattle.cq_group.specs.declared.incoming.IncomingTable.{IncomingTable}
use Rattle.cq_group.specs.declared.moves.Exchanged.{Exchanged}
use Rattle.cq_group.specs.declared.start.MoveRefused.{MoveRefused}
use Rattle.cq_group.specs.declared.start.MoveWhy.{MoveWhy}
use Rattle.cq_group.specs.declared.start.MoveWhy.TheVariants as why
use Rattle.cq_group.specs.Groups.{Outline, outlines, entries_of, stores_of, journal_of}
use Rattle.cq_group.specs.Calls.{GoesOn, GroupGoesOn, Lifted}
use Rattle.cq_group.specs.Incoming.{CanStart, IsExchanged, IsIncoming, IsIncomingTable, IsSameIncoming, RefusesMove, arriving, rows_in}
use Rattle.cq_group.specs.Moves.{Parted, upto_move, changed_since}
use Rattle.cq_group.specs.Resting.{IsResting}
use Rattle.cq_group.proofs.MoveEntries.{same_go_on}
use Rattle.cq_group.proofs.MoveLaws.{move_push, station_push}
use Rattle.cq_history.proofs.Entries.{entries_by}
use Rattle.cq_reach.specs.Seen.{Seen, seen_of}
use Rattle.cq_reach.proofs.Growth.{got_at, got_below, one_item, set_beside, set_there}
use Rattle.cq_reach.proofs.Failing.{fails_in}
use Rattle.cq_move_calls.specs.Held.{AreKept, GoesOnAt, GroupsAreSteady, HasFailedBy, RestsAt, seen_in}
use Rattle.cq_move_calls.specs.Moving.{AreSteadyOn, ComesIn, CouldStart, IsMover, RefusesStart, TellsChanges, TellsExchanged, TellsStart, Told, kinds_on}
use Rattle.cq_move_calls.specs.Keeping.{exchanged_steady}

-- nobody else entered anything
told_alone : {X : Type 0} (comes : Entry → Type 0) (who : Who) (kinds : List EntryKind) (fact : Seen → Type 0) (g h : GroupState X) → fact (seen_of g) → outlines h ≡ outlines g → h.nodes ≡ g.nodes → h.journal.group ≡ g.journal.group → h.journal.opening ≡ g.journal.opening →
    entries_of h ≡ entries_of g ++ entries_by who kinds → Told comes who kinds fact (seen_of g) (seen_of h)
told_alone comes who kinds fact g h so tables nodes number opening entries = record {
  found = seen_of g;
  grown = record { more = []; all = tt; is = ap (λ (es : List Entry). record (seen_of g) { journal = record (journal_of g) { entries = es } }) (sym (append-nil (entries_of g))) };
  so = so;
  is = λ i. record { journal = record { number = number i; opening = opening i; base = (journal_of g).base; entries = entries i }; tables = tables i; nodes = nodes i };
}

-- ---- the group of this number

module _ {X : Type 0} (state : X → StoreState) (group : ℕ) (groups : List (GroupState X)) (was : GroupState X) (ready : RestsAt state group groups) (read : was ≡ get_or groups group was) where
  low : group < length groups
  low = got_below groups group ready.0 ready.1

  pub there : slice_get groups group ≡ Some was
  there = got_at groups group was low read

  pub rested : IsResting state was
  rested = subst (IsResting state) (one_item ready.0 was (sym ready.1 ∙ there)) ready.2

  pub known : seen_in (slice_get groups group) ≡ seen_of was
  known = ap seen_in there

  module _ (is : GroupState X) where
    pub here : slice_get (set groups group is) group ≡ Some is
    here = set_there groups group is low

    pub rests : IsResting state is → RestsAt state group (set groups group is)
    rests rest = (is, here, rest)

    pub stays_kept : AreKept group groups (set groups group is)
    stays_kept = record { count = length-set groups group is; others = λ at apart. set_beside groups group at is apart }

    pub went_on : GroupGoesOn state was is → GoesOnAt state group groups (set groups group is)
    went_on on g h a b =
        subst (λ (v : GroupState X). GroupGoesOn state g v) (one_item is h (sym here ∙ b))
        (subst (λ (v : GroupState X). GroupGoesOn state v is) (one_item was g (sym there ∙ a)) on)

    pub known_now : seen_in (slice_get (set groups group is) group) ≡ seen_of is
    known_now = ap seen_in here

    -- what is so of the group is so of it among the others
    pub among : (P : Seen → Seen → Type 0) → P (seen_of was) (seen_of is) → P (seen_in (slice_get groups group)) (seen_in (slice_get (set groups group is) group))
    among P h = subst (λ (s : Seen). P s (seen_in (slice_get (set groups group is) group))) (sym known) (subst (λ (t : Seen). P (seen_of was) t) (sym known_now) h)

    pub failed_by : (to from : ℕ) (w : MoveWhy) → RefusesMove state was is to from w → HasFailedBy state group w groups (set groups group is)
    failed_by to from (why.Moving by) h = tt
    failed_by to from (why.NotThere node) h = tt
    failed_by to from (why.SameNode node) h = tt
    failed_by to from (why.Worker failure) h = record { was = was; is = is; there = there; here = here; failed = h.1 }
    failed_by to from why.Memory h = tt

    pub failed_of : {V : Type 0} (to from : ℕ) (r : Result V (MoveRefused X)) → IfErr r (λ e. RefusesMove state was is to from e.why) → IfErr r (λ e. HasFailedBy state group e.why groups (set groups group is))
    failed_of to from (Ok v) h = tt
    failed_of to from (Err e) h = failed_by to from e.why h

    pub steady_of : {E : Type 0} (given : List X) (r : Result (Exchanged X) E) → IfOk r (λ e. e.stores.items ≡ stores_of was) → OnOk r (AllZip (Lifted state GoesOn) given (stores_of is)) →
        IfOk r (λ e. (node : ℕ) → GroupsAreSteady state node groups → AreSteadyOn state node given → GroupsAreSteady state node (set groups group is) × AreSteadyOn state node e.stores.items)
    steady_of given (Err e) old new = tt
    steady_of given (Ok e) old new = λ node all stores.
        (let both = exchanged_steady state node group groups (set groups group is) was is given stays_kept there here new all stores in
        (both.0, subst (AreSteadyOn state node) (sym old) both.1))

-- ---- beginning

module _ {X : Type 0} (state : X → StoreState) (was is : GroupState X) (who : Who) (on : GroupGoesOn state was is) (rested : IsResting state was) where
  could_start : (to from : ℕ) → CanStart was to from → CouldStart (seen_of was) to from
  could_start to from can = record { free = can.free; there = rested.placed ∙ can.there; other = can.other }

  refuses : (to from : ℕ) (w : MoveWhy) → RefusesMove state was is to from w → RefusesStart w (seen_of was) to from
  refuses to from (why.Moving by) h = h
  refuses to from (why.NotThere node) h = (h.0, h.1 ∙ sym rested.placed, h.2)
  refuses to from (why.SameNode node) h = (h.0, h.1 ∙ sym rested.placed, h.2, h.3)
  refuses to from (why.Worker failure) h = (could_start to from h.0, fails_in state was is failure rested h.1)
  refuses to from why.Memory h = could_start to from h

  module _ (comes : Entry → Type 0) where
    -- a call that enters this on Ok
    pub told_by : {V E : Type 0} (kind : EntryKind) (fact : Seen → Type 0) (r : Result V E) → fact (seen_of was) → OnOk r (entries_of is ≡ entries_of was ++ record { who = who; kind = kind } ∷ []) → OnErr r (entries_of is ≡ entries_of was) →
        Told comes who (kinds_on kind r) fact (seen_of was) (seen_of is)
    told_by kind fact (Ok v) holds entry err = told_alone comes who (kind ∷ []) fact was is holds on.same.tables on.same.nodes on.same.number on.same.opening entry
    told_by kind fact (Err e) holds entry err = told_alone comes who [] fact was is holds on.same.tables on.same.nodes on.same.number on.same.opening (err ∙ sym (append-nil (entries_of was)))

    pub told_entered : (kind : EntryKind) (fact : Seen → Type 0) → fact (seen_of was) → entries_of is ≡ entries_of was ++ record { who = who; kind = kind } ∷ [] → Told comes who (kind ∷ []) fact (seen_of was) (seen_of is)
    told_entered kind fact holds entry = told_alone comes who (kind ∷ []) fact was is holds on.same.tables on.same.nodes on.same.number on.same.opening entry

  pub tells_start : (to from : ℕ) (r : Result (Incoming X) (MoveRefused X)) → OnOk r (CanStart was to from) → IfErr r (λ e. RefusesMove state was is to from e.why) → IfOk r (λ i. i.due ≡ rows_in (entries_of was) (outlines was)) → TellsStart to from r (seen_of was)
  tells_start to from (Ok i) can why due = (could_start to from can, due)
  tells_start to from (Err e) can why due = refuses to from e.why why

  station_begun : (to : ℕ) → entries_of is ≡ entries_of was ++ record { who = who; kind = MoveStart to } ∷ [] → station_of (journal_of is) ≡ moved (station_of (journal_of was)) who (MoveStart to)
  station_begun to entry =
      (λ i. station_of (record { number = is.journal.group; opening = on.same.opening i; base = (journal_of is).base; entries = entry i })) ∙ station_push (journal_of was) (entries_of was) (record { who = who; kind = MoveStart to })

  pub start_mover : {V E : Type 0} (to : ℕ) (r : Result V E) → OnOk r (entries_of is ≡ entries_of was ++ record { who = who; kind = MoveStart to } ∷ []) → OnOk r (IsMover who (seen_of is))
  start_mover to (Ok v) entry = ap (λ (s : Station). s.moving) (station_begun to entry)
  start_mover to (Err e) entry = tt

  pub start_comes : {E : Type 0} (to : ℕ) (r : Result (Incoming X) E) → OnOk r (entries_of is ≡ entries_of was ++ record { who = who; kind = MoveStart to } ∷ []) → IfOk r (IsIncoming state to (entries_of is) (outlines was)) → IfOk r (ComesIn state (seen_of is))
  start_comes to (Err e) entry comes = tt
  start_comes to (Ok i) entry comes =
      let e : Entry = record { who = who; kind = MoveStart to } in
      let all : upto_move (entries_of is) ≡ entries_of is = ap upto_move entry ∙ (ap (λ (p : Parted). p.upto) (move_push (entries_of was) e refl) ∙ sym entry) in
      subst (λ (n : ℕ). IsIncoming state n (upto_move (entries_of is)) (outlines is) i) (sym (ap (λ (s : Station). s.target) (station_begun to entry)))
      (subst (λ (es : List Entry). IsIncoming state to es (outlines is) i) (sym all) (subst (λ (os : List Outline). IsIncoming state to (entries_of is) os i) (sym on.same.tables) comes))

-- ---- catching up

same_incoming : {X : Type 0} (state : X → StoreState) (node : ℕ) (es : List Entry) (os : List Outline) (i j : Incoming X) → IsSameIncoming i j → IsIncoming state node es os i → IsIncoming state node es os j
same_incoming {X} state node es os i j s h = record {
  tables = subst (λ (ts : List (IncomingTable X)). AllZip (IsIncomingTable state node es) os ts) (sym s.tables) h.tables;
  room = subst (λ (r : Vec X Global). length (arriving j) ≤ vec_capacity r) (sym s.room) (subst (λ (ts : List (IncomingTable X)). length (flat_map (λ (t : IncomingTable X). t.stores.items) ts) ≤ vec_capacity i.room) (sym s.tables) h.room);
  unused = ap (λ (r : Vec X Global). r.items) s.room ∙ h.unused;
}

pub tells_changes : {X E : Type 0} (x : GroupState X) (r : Result ℕ E) → IfOk r (λ n. n ≡ changed_since (entries_of x)) → TellsChanges r (seen_of x)
tells_changes x (Ok n) h = h
tells_changes x (Err e) h = tt

module _ {X E : Type 0} (state : X → StoreState) (x y : GroupState X) (who : Who) (r : Result ℕ E) (on : GroupGoesOn state x y) (entry : OnOk r (entries_of y ≡ entries_of x ++ record { who = who; kind = CatchUp } ∷ [])) (err : OnErr r (entries_of y ≡ entries_of x)) where
  by_result : (r' : Result ℕ E) → OnOk r' (entries_of y ≡ entries_of x ++ record { who = who; kind = CatchUp } ∷ []) → OnErr r' (entries_of y ≡ entries_of x) → station_of (journal_of y) ≡ station_of (journal_of x)
  by_result (Ok n) grown same = (λ i. station_of (record { number = y.journal.group; opening = on.same.opening i; base = (journal_of y).base; entries = grown i })) ∙ station_push (journal_of x) (entries_of x) (record { who = who; kind = CatchUp })
  by_result (Err e) grown same = λ i. station_of (record { number = y.journal.group; opening = on.same.opening i; base = (journal_of y).base; entries = same i })

  caught_station : station_of (journal_of y) ≡ station_of (journal_of x)
  caught_station = by_result r entry err

  pub caught_mover : IsMover who (seen_of x) → IsMover who (seen_of y)
  caught_mover m = ap (λ (s : Station). s.moving) caught_station ∙ m

  module _ (i j : Incoming X) (was : ComesIn state (seen_of x) i) where
    came : (r' : Result ℕ E) → OnOk r' (entries_of y ≡ entries_of x ++ record { who = who; kind = CatchUp } ∷ []) → OnErr r' (entries_of y ≡ entries_of x) →
        OnOk r' (IsIncoming state (station_of (journal_of x)).target (entries_of y) (outlines x) j) → OnErr r' (IsSameIncoming i j) → IsIncoming state (station_of (journal_of x)).target (upto_move (entries_of y)) (outlines x) j
    came (Ok n) grown same ok kept =
        let e : Entry = record { who = who; kind = CatchUp } in
        let all : upto_move (entries_of y) ≡ entries_of y = ap upto_move grown ∙ (ap (λ (p : Parted). p.upto) (move_push (entries_of x) e refl) ∙ sym grown) in
        subst (λ es. IsIncoming state (station_of (journal_of x)).target es (outlines x) j) (sym all) ok
    came (Err e) grown same ok kept = subst (λ es. IsIncoming state (station_of (journal_of x)).target (upto_move es) (outlines x) j) (sym same) (same_incoming state (station_of (journal_of x)).target (upto_move (entries_of x)) (outlines x) i j kept was)

    pub caught_comes : OnOk r (IsIncoming state (station_of (journal_of x)).target (entries_of y) (outlines x) j) → OnErr r (IsSameIncoming i j) → ComesIn state (seen_of y) j
    caught_comes ok kept =
        subst (λ (os : List Outline). IsIncoming state (station_of (journal_of y)).target (upto_move (entries_of y)) os j) (sym on.same.tables)
        (subst (λ (s : Station). IsIncoming state s.target (upto_move (entries_of y)) (outlines x) j) (sym caught_station) (came r entry err ok kept))

-- ---- cutting over

module _ {X E : Type 0} (state : X → StoreState) (was is : GroupState X) (who : Who) (rested : IsResting state was) where
  pub cut_told : (comes : Entry → Type 0) (r : Result (Exchanged X) E) → IfOk r (λ e. e.last ≡ changed_since (entries_of was)) → IfOk r (λ e. e.stores.items ≡ stores_of was) → OnOk r (entries_of is ≡ entries_of was ++ record { who = who; kind = Cutover } ∷ []) →
      OnOk r (outlines is ≡ outlines was) → OnOk r (IsExchanged was is) → OnErr r (is ≡ was) → Told comes who (kinds_on Cutover r) (TellsExchanged state r) (seen_of was) (seen_of is)
  cut_told comes (Ok e) last old entry tables same none =
      told_alone comes who (Cutover ∷ []) (TellsExchanged {E = E} state (Ok e)) was is (last, record { group = was; known = refl; resting = rested; all = old }) tables same.nodes same.number same.opening entry
  cut_told comes (Err e) last old entry tables same none =
      told_alone comes who [] (TellsExchanged {E = E} state (Err e)) was is tt (ap outlines none) (ap (λ (g : GroupState X). g.nodes) none) (ap (λ (g : GroupState X). g.journal.group) none) (ap (λ (g : GroupState X). g.journal.opening) none)
      (ap entries_of none ∙ sym (append-nil (entries_of was)))

pub cut_mover : {X V E : Type 0} (was is : GroupState X) (who : Who) (r : Result V E) → IsMover who (seen_of was) → OnErr r (is ≡ was) → OnErr r (IsMover who (seen_of is))
cut_mover was is who (Ok v) m none = tt
cut_mover {X} was is who (Err e) m none = ap (λ (g : GroupState X). moving_of (journal_of g)) none ∙ m

pub cut_goes_on : {X V E : Type 0} (state : X → StoreState) (was is : GroupState X) (r : Result V E) → OnErr r (is ≡ was) → OnErr r (GroupGoesOn state was is)
cut_goes_on state was is (Ok v) none = tt
cut_goes_on {X} state was is (Err e) none = subst (λ (g : GroupState X). GroupGoesOn state was g) (sym none) (same_go_on state was was refl refl refl refl refl)

pub on_err : {T E : Type 0} (r : Result T E) (P Q : Type 0) → (P → Q) → OnErr r P → OnErr r Q
on_err (Ok x) P Q f h = tt
on_err (Err e) P Q f h = f h
