-- A move, step after step.
use Rattle.std.proofs.Common.{◌≡◌, ◌≢◌, ◌∙◌, ◌≤◌, ℕ, true, false, List, [], ◌∷◌, ◌++◌, length, refl, sym, ap, subst, vec_capacity, arith, None, Result, Ok, Err, OnErr, IfOk}
use Rattle.std.specs.List.{AllByRecursion, AllZip, fold}
use Rattle.std.proofs.lemmas.List.Elements.{length_all_zip}
use Rattle.std.proofs.lemmas.List.Sums.{fold-append}
use Rattle.cq_value.proofs.Lists.{all_weaker}
use Rattle.cq_tree.specs.declared.journal.Who.{Who}
use Rattle.cq_tree.specs.declared.journal.Entry.{Entry}
use Rattle.cq_tree.specs.declared.journal.EntryKind.{EntryKind}
use Rattle.cq_tree.specs.declared.journal.EntryKind.TheVariants.{Read, Write, MoveStart, CatchUp, Cutover, MoveStop}
use Rattle.cq_journal.specs.Stations.{Station, moved, station_of, moving_of, node_of}
use Rattle.cq_history.specs.Journals.{Step}
use Rattle.cq_history.specs.Moves.{AreRounds, last_of}
use Rattle.cq_store.specs.Stores.{StoreState}
use Rattle.cq_group.specs.declared.incoming.Incoming.{Incoming}
use Rattle.cq_group.specs.Calls.{GoesOn, Lifted}
use Rattle.cq_group.specs.Moves.{is_of_move, parted, changed_since}
use Rattle.cq_group.specs.Incoming.{IsIncoming, arriving, rows_in}
use Rattle.cq_group.proofs.MoveLaws.{station_push, move_push}
use Rattle.cq_reach.specs.Seen.{Seen}
use Rattle.cq_reach.specs.Outlook.{IsGrown}
use Rattle.cq_move_calls.specs.Moving.{Told, ComesAside, ComesIn, CouldStart, IsMover, TellsAnything, TellsChanges, kinds_on}
use Rattle.cq_move.specs.declared.outcome.MoveReport.{MoveReport}
use Rattle.cq_transfer.specs.Entering.{Catches, Enters, HasCaught, HasMoved, HasStopped, HasTried, IsBehind, Tries}
use Rattle.cq_transfer.specs.Carrying.{IsMoving, CanStop, CatchesOnce, HasFinished, HasGivenUp, Stays}
use Rattle.cq_transfer.proofs.EnterLaws.{enters_none, enters_not, enters_one, enters_then, more_none, step_at, told_behind, told_is, told_so, told_weaker, with_more}
use Rattle.cq_transfer.proofs.RoundLaws.{changed_behind, few_rounds, rounds_begun, written_next}

-- ---- where a group is, with more entries

abbrev step : Station → Entry → Station
step s e = moved s e.who e.kind

aside_one : (s : Station) (who : Who) (kind : EntryKind) → is_of_move kind ≡ false → moved s who kind ≡ s
aside_one s who Read h = refl
aside_one s who (Write op reply) h = refl
aside_one s who (MoveStart to) h = absurd (cc h)
aside_one s who CatchUp h = refl
aside_one s who Cutover h = absurd (cc h)
aside_one s who MoveStop h = absurd (cc h)

aside_all : (s : Station) (es : List Entry) → AllByRecursion (λ (e : Entry). is_of_move e.kind ≡ false) es → fold step s es ≡ s
aside_all s [] h = refl
aside_all s (e ∷ es) h = ap (λ (v : Station). fold step v es) (aside_one s e.who e.kind h.0) ∙ aside_all s es h.1

station_aside : (s : Seen) (more : List Entry) → AllByRecursion (λ (e : Entry). is_of_move e.kind ≡ false) more → station_of (with_more more s).journal ≡ station_of s.journal
station_aside s more h = fold-append step (record { node = s.journal.opening; moving = None; target = s.journal.opening }) s.journal.entries more ∙ aside_all (station_of s.journal) more h

module _ (comes : Entry → Type 0) (who : Who) where
  -- a step of a move is the last that is known
  pub told_last : (kind : EntryKind) (fact : Seen → Type 0) (s t : Seen) → is_of_move kind ≡ true → Told comes who (kind ∷ []) fact s t → parted t.journal.entries ≡ record { upto = t.journal.entries; since = [] }
  told_last kind fact s t of m = subst (λ (v : Seen). parted v.journal.entries ≡ record { upto = v.journal.entries; since = [] }) (sym (told_is m)) (move_push (s.journal.entries ++ m.grown.more) (record { who = who; kind = kind }) of)

  -- a call while the statement moves the group leaves it where it is
  pub told_stays : (kind : EntryKind) (fact : Seen → Type 0) (s t : Seen) → ((v : Station) → (moved v who kind).node ≡ v.node) → Told (ComesAside comes) who (kind ∷ []) fact s t → Stays s t
  told_stays kind fact s t still m = record {
    tables = ap (λ (v : Seen). v.tables) (told_is m);
    node = ap (λ (v : Seen). node_of v.journal) (told_is m)
        ∙ ap (λ (v : Station). v.node) (station_push (with_more m.grown.more s).journal (with_more m.grown.more s).journal.entries (record { who = who; kind = kind }))
        ∙ still (station_of (with_more m.grown.more s).journal)
        ∙ ap (λ (v : Station). v.node) (station_aside s m.grown.more (all_weaker (ComesAside comes) (λ (e : Entry). is_of_move e.kind ≡ false) (λ e c. c.1) m.grown.more m.grown.all));
  }

  pub told_stays_none : (fact : Seen → Type 0) (s t : Seen) → Told (ComesAside comes) who [] fact s t → Stays s t
  told_stays_none fact s t m = record {
    tables = ap (λ (v : Seen). v.tables) (told_is m);
    node = ap (λ (v : Seen). node_of v.journal) ((told_is m) ∙ sym (more_none (with_more m.grown.more s)))
        ∙ ap (λ (v : Station). v.node) (station_aside s m.grown.more (all_weaker (ComesAside comes) (λ (e : Entry). is_of_move e.kind ≡ false) (λ e c. c.1) m.grown.more m.grown.all));
  }

  -- others' entries do so too
  pub found_stays : (s f : Seen) → IsGrown (ComesAside comes) s f → Stays s f
  found_stays s f g = record {
    tables = ap (λ (v : Seen). v.tables) g.is;
    node = ap (λ (v : Seen). node_of v.journal) g.is
        ∙ ap (λ (v : Station). v.node) (station_aside s g.more (all_weaker (ComesAside comes) (λ (e : Entry). is_of_move e.kind ≡ false) (λ e c. c.1) g.more g.all));
  }

  pub found_mover : (s f : Seen) → IsGrown (ComesAside comes) s f → IsMover who s → IsMover who f
  found_mover s f g m =
      ap (λ (v : Seen). moving_of v.journal) g.is
      ∙ ap (λ (v : Station). v.moving) (station_aside s g.more (all_weaker (ComesAside comes) (λ (e : Entry). is_of_move e.kind ≡ false) (λ e c. c.1) g.more g.all))
      ∙ m

  -- a move that began is to this node, of the same tables
  pub start_target : (to : ℕ) (fact : Seen → Type 0) (s t : Seen) → Told comes who (MoveStart to ∷ []) fact s t → (station_of t.journal).target ≡ to
  start_target to fact s t m =
      ap (λ (v : Seen). (station_of v.journal).target) (told_is m)
      ∙ ap (λ (v : Station). v.target) (station_push (with_more m.grown.more s).journal (with_more m.grown.more s).journal.entries (record { who = who; kind = MoveStart to }))

  pub told_tables : (kinds : List EntryKind) (fact : Seen → Type 0) (s t : Seen) → Told comes who kinds fact s t → t.tables ≡ s.tables
  told_tables kinds fact s t m = ap (λ (v : Seen). v.tables) (told_is m)

pub stays_none : (s : Seen) → Stays s s
stays_none s = record { tables = refl; node = refl }

pub stays_twice : (s t u : Seen) → Stays s t → Stays t u → Stays s u
stays_twice s t u a b = record { tables = b.tables ∙ a.tables; node = b.node ∙ a.node }

-- ---- a move in flight

module _ {X : Type 0} (state : X → StoreState) (who : Who) where
  pub moving_stops : (s : Seen) (i : Incoming X) → IsMoving state who s i → CanStop who s i
  moving_stops s i h = record { mover = h.mover; room = h.incoming.room; unused = h.incoming.unused }

  -- what comes in went on
  pub stops_after : (s t : Seen) (i j : Incoming X) → IsMover who t → AllZip (Lifted state GoesOn) (arriving i) (arriving j) → j.room ≡ i.room → CanStop who s i → CanStop who t j
  stops_after s t i j mover on room h = record {
    mover = mover;
    room = subst (λ v. length (arriving j) ≤ vec_capacity v) (sym room) (subst (λ n. n ≤ vec_capacity i.room) (length_all_zip (Lifted state GoesOn) (arriving i) (arriving j) on) h.room);
    unused = ap (λ v. v.items) room ∙ h.unused;
  }

  pub comes_in : (s : Seen) (i : Incoming X) → IsMoving state who s i → ComesIn state s i
  comes_in s i h = subst (λ (p : _). IsIncoming state (station_of s.journal).target p.upto s.tables i) (sym h.last) h.incoming

  -- the move is at its last step
  pub moving_at : (s : Seen) (i : Incoming X) → IsMover who s → parted s.journal.entries ≡ record { upto = s.journal.entries; since = [] } → ComesIn state s i → IsMoving state who s i
  moving_at s i mover last c = record { mover = mover; last = last; incoming = subst (λ (p : _). IsIncoming state (station_of s.journal).target p.upto s.tables i) last c }

  -- the pending changes were made
  pub moving_settled : (s : Seen) (i j : Incoming X) → IsMoving state who s i → IsIncoming state (station_of s.journal).target s.journal.entries s.tables j → IsMoving state who s j
  moving_settled s i j h k = record { mover = h.mover; last = h.last; incoming = k }

-- ---- the steps of a whole move

module _ (comes : Entry → Type 0) (who : Who) (others : (e : Entry) → comes e → e.who.session ≢ who.session) where
  -- rounds, and then a cutover
  pub finishes : (first : Step) (r : MoveReport) (rounds : List Step) (s t u : Seen) → HasCaught comes who first r.caught rounds s t → AreRounds 1 first rounds → parted t.journal.entries ≡ record { upto = t.journal.entries; since = [] } →
      Told (ComesAside comes) who (Cutover ∷ []) (λ (f : Seen). r.last ≡ changed_since f.journal.entries) t u → HasFinished comes who first r s u
  finishes first r rounds s t u h all last m = record {
    rounds = rounds;
    cutover = step_at m.grown.more Cutover t;
    enters = enters_then comes who rounds (step_at m.grown.more Cutover t ∷ []) s t u h.enters (enters_one comes who others Cutover (λ (f : Seen). r.last ≡ changed_since f.journal.entries) t u (told_weaker (ComesAside comes) comes who (Cutover ∷ []) (λ (f : Seen). r.last ≡ changed_since f.journal.entries) t u (λ e c. c.0) m));
    catches = h.catches;
    settled = all;
    ends = refl;
    caught = h.caught;
    last = told_so m
        ∙ changed_behind t.journal.entries m.grown.more last (all_weaker (ComesAside comes) (λ (e : Entry). is_of_move e.kind ≡ false) (λ e c. c.1) m.grown.more m.grown.all)
        ∙ sym (written_next who (last_of first rounds) t m.grown.more Cutover h.behind);
  }

  -- rounds that were begun, and then a stop
  pub gives_up : (first : Step) (rounds : List Step) (fact : Seen → Type 0) (s t u : Seen) → HasTried comes who first rounds s t → Told (ComesAside comes) who (MoveStop ∷ []) fact t u → HasGivenUp comes who first s u
  gives_up first rounds fact s t u h m = record {
    rounds = rounds;
    stop = step_at m.grown.more MoveStop t;
    enters = enters_then comes who rounds (step_at m.grown.more MoveStop t ∷ []) s t u h.enters (enters_one comes who others MoveStop fact t u (told_weaker (ComesAside comes) comes who (MoveStop ∷ []) fact t u (λ e c. c.0) m));
    catches = h.catches;
    begun = h.begun;
    ends = refl;
  }

  module _ (from to : ℕ) (fact : Seen → Type 0) (s t u : Seen) (m : Told comes who (MoveStart to ∷ []) fact s t) (can : CouldStart m.found to from) where
    abbrev pub first : Step
    first = step_at m.grown.more (MoveStart to) s

    there : node_of first.before ≡ from
    there = ap (λ (v : Seen). node_of v.journal) (sym m.grown.is) ∙ can.there

    begins : Enters comes who (first ∷ []) s t
    begins = enters_one comes who others (MoveStart to) fact s t m

    pub behind_start : IsBehind who first t
    behind_start = told_behind comes who (MoveStart to) fact s t m

    pub has_moved : (r : MoveReport) → r.copied ≡ rows_in m.found.journal.entries m.found.tables → HasFinished comes who first r t u → HasMoved comes who from to r s u
    has_moved r copied h = record {
      start = first;
      rounds = h.rounds;
      cutover = h.cutover;
      enters = enters_then comes who (first ∷ []) (h.rounds ++ h.cutover ∷ []) s t u begins h.enters;
      starts = refl;
      there = there;
      catches = h.catches;
      ends = h.ends;
      settled = h.settled;
      copied = copied ∙ ap (λ (v : Seen). rows_in v.journal.entries v.tables) m.grown.is;
      caught = h.caught;
      last = h.last;
    }

    pub has_stopped : HasGivenUp comes who first t u → HasStopped comes who from to s u
    has_stopped h = record {
      steps = first ∷ (h.rounds ++ h.stop ∷ []);
      enters = enters_then comes who (first ∷ []) (h.rounds ++ h.stop ∷ []) s t u begins h.enters;
      is = record { start = first; rounds = h.rounds; stop = h.stop; all = refl; starts = refl; there = there; few = few_rounds first h.rounds h.begun; catches = h.catches; ends = h.ends };
      begun = h.begun;
    }

-- ---- rounds that were begun

module _ (comes : Entry → Type 0) (who : Who) (others : (e : Entry) → comes e → e.who.session ≢ who.session) where
  pub tries_same : (s : Seen) → Tries comes who s s
  tries_same s first b = ([], record { enters = enters_none comes who s; catches = tt; begun = tt })

  pub tries_none : (fact : Seen → Type 0) (s t : Seen) → Told (ComesAside comes) who [] fact s t → Tries comes who s t
  tries_none fact s t m first b = ([], record { enters = enters_not comes who others fact s t (told_weaker (ComesAside comes) comes who [] fact s t (λ e c. c.0) m); catches = tt; begun = tt })

  pub tries_one : (fact : Seen → Type 0) (s t : Seen) → Told (ComesAside comes) who (CatchUp ∷ []) fact s t → Tries comes who s t
  tries_one fact s t m first b = (
    step_at m.grown.more CatchUp s ∷ [],
    record { enters = enters_one comes who others CatchUp fact s t (told_weaker (ComesAside comes) comes who (CatchUp ∷ []) fact s t (λ e c. c.0) m); catches = (refl, tt); begun = omega arith },
  )

  pub caught_tries : (n : ℕ) (s t : Seen) → Catches comes who n s t → Tries comes who s t
  caught_tries n s t h first b =
      let all = h first b in
      (all.0, record { enters = all.1.enters; catches = all.1.catches; begun = rounds_begun 1 first all.0 all.2 })

-- ---- by results

pub ok_told : {E : Type 0} (comes : Entry → Type 0) (who : Who) (r : Result ℕ E) (n : ℕ) (s t : Seen) → r ≡ Ok n → Told (ComesAside comes) who (kinds_on CatchUp r) (TellsChanges r) s t → CatchesOnce comes who n s t
ok_told {E} comes who r n s t e m = subst (λ (v : Result ℕ E). Told (ComesAside comes) who (kinds_on CatchUp v) (TellsChanges v) s t) e m

pub err_told : {E : Type 0} (comes : Entry → Type 0) (who : Who) (r : Result ℕ E) (x : E) (s t : Seen) → r ≡ Err x → Told (ComesAside comes) who (kinds_on CatchUp r) (TellsChanges r) s t → Told (ComesAside comes) who [] TellsAnything s t
err_told {E} comes who r x s t e m = subst (λ (v : Result ℕ E). Told (ComesAside comes) who (kinds_on CatchUp v) (TellsChanges v) s t) e m

pub caught_as : {E : Type 0} (comes : Entry → Type 0) (who : Who) (r : Result ℕ E) (k due : ℕ) (s t : Seen) → k ≡ due → IfOk r (λ n. n ≡ due) → CatchesOnce comes who k s t → IfOk r (λ n. CatchesOnce comes who n s t)
caught_as comes who (Err x) k due s t e h m = tt
caught_as comes who (Ok n) k due s t e h m = subst (λ (v : ℕ). CatchesOnce comes who v s t) (e ∙ sym h) m

pub err_of : {T E : Type 0} (r : Result T E) (P : Type 0) → P → OnErr r P
err_of (Ok x) P p = tt
err_of (Err e) P p = p

pub caught_stays : (comes : Entry → Type 0) (who : Who) (n : ℕ) (s t : Seen) → CatchesOnce comes who n s t → Stays s t
caught_stays comes who n s t m = told_stays comes who CatchUp (λ (f : Seen). n ≡ changed_since f.journal.entries) s t (λ v. refl) m

pub moving_caught : {X E : Type 0} (state : X → StoreState) (who : Who) (comes : Entry → Type 0) (r : Result ℕ E) (n : ℕ) (s t : Seen) (i : Incoming X) → r ≡ Ok n → Told (ComesAside comes) who (kinds_on CatchUp r) (TellsChanges r) s t → IsMover who t → ComesIn state t i →
    IsMoving state who t i
moving_caught state who comes r n s t i e m mover c =
    moving_at state who t i mover (told_last (ComesAside comes) who CatchUp (λ (f : Seen). n ≡ changed_since f.journal.entries) s t refl (ok_told comes who r n s t e m)) c

pub any_told : (comes : Entry → Type 0) (who : Who) (n : ℕ) (s t : Seen) → CatchesOnce comes who n s t → Told (ComesAside comes) who (CatchUp ∷ []) TellsAnything s t
any_told comes who n s t m = record { found = m.found; grown = m.grown; so = tt; is = m.is }
