-- The loop over the rounds of catch-up, and what a whole move enters.
use Rattle.std.proofs.Common.{◌≡◌, ◌≢◌, ◌∙◌, inl, inr, ◌+◌, ◌<◌, ℕ, List, [], ◌∷◌, ◌++◌, length, refl, sym, ap, subst, append-nil, arith, length-append, Result, Ok, Err}
use Rattle.std.specs.List.{AllByRecursion, AllZip}
use Rattle.cq_value.proofs.Lists.{all_append}
use Rattle.cq_tree.specs.declared.journal.Who.{Who}
use Rattle.cq_tree.specs.declared.journal.Entry.{Entry}
use Rattle.cq_tree.specs.declared.journal.EntryKind.TheVariants.{CatchUp, Cutover, MoveStop}
use Rattle.cq_history.specs.Journals.{Step}
use Rattle.cq_history.specs.Moves.{AreRounds}
use Rattle.cq_store.specs.Stores.{StoreState}
use Rattle.cq_group.specs.declared.incoming.Incoming.{Incoming}
use Rattle.cq_group.specs.declared.moves.Exchanged.{Exchanged}
use Rattle.cq_group.specs.Calls.{GoesOn, Lifted}
use Rattle.cq_group.specs.Incoming.{IsSettled, arriving}
use Rattle.cq_group.specs.Moves.{changed_since, parted}
use Rattle.cq_reach.specs.Seen.{Seen}
use Rattle.cq_move_calls.specs.Moving.{ComesAside, HadStores, TellsAnything, TellsExchanged, Told, kinds_on}
use Rattle.cq_move.specs.declared.outcome.MoveReport.{MoveReport}
use Rattle.cq_transfer.specs.Entering.{AreBegun, AreBusy, HasCaught, HasTried, IsBehind, Tries}
use Rattle.cq_transfer.specs.Carrying.{CatchesOnce, GivesUp, HasFinished, HasGivenUp, IsMoving, IsUnderWay, Stays, TriesOnce}
use Rattle.cq_transfer.proofs.EnterLaws.{enters_not, enters_one, enters_then, enters_weaker, step_at, told_weaker}
use Rattle.cq_transfer.proofs.PassLaws.{gives_up, moving_stops, stays_twice}
use Rattle.cq_move.proofs.StoreLaws.{go_on_twice}
use Rattle.cq_transfer.proofs.RoundLaws.{IsLoop, busy_begun, busy_more, busy_then, caught_more, next_written, rounds_end, rounds_full}

-- the loop so far
pub record IsLooping {X : Type 0} (state : X → StoreState) (who : Who) (comes : Entry → Type 0) (is_ready is_kept went_on : Type 0) (caught round : ℕ) (s t : Seen) (i j : Incoming X) : Type 0 where
  pub ready : is_ready
  pub keeps : is_kept
  pub goes_on : went_on
  pub stays : Stays s t
  pub moving : IsMoving state who t j
  pub settled : IsSettled j
  pub stores : AllZip (Lifted state GoesOn) (arriving i) (arriving j)
  pub rounds : (first : Step) → IsBehind who first s → IsLoop comes who first caught round s t

pub looping_way : {X : Type 0} (state : X → StoreState) (who : Who) (comes : Entry → Type 0) (is_ready is_kept went_on : Type 0) (caught round : ℕ) (s t : Seen) (i j : Incoming X) → IsLooping state who comes is_ready is_kept went_on caught round s t i j →
    IsUnderWay state who is_ready is_kept went_on s t i j
looping_way state who comes is_ready is_kept went_on caught round s t i j h =
    record { ready = h.ready; keeps = h.keeps; goes_on = h.goes_on; stays = h.stays; stop = moving_stops state who t j h.moving; stores = h.stores }

abbrev AtLast : Seen → Type 0
AtLast t = parted t.journal.entries ≡ record { upto = t.journal.entries; since = [] }

module _ (comes : Entry → Type 0) (who : Who) (others : (e : Entry) → comes e → e.who.session ≢ who.session) (first : Step) (n round : ℕ) (s t : Seen) (h : IsLoop comes who first n round s t) where
  module _ (k : ℕ) (u : Seen) (last : AtLast t) (m : CatchesOnce comes who k t u) where
    abbrev more : Step
    more = step_at m.grown.more CatchUp t

    pub loop_more : 0 < k → IsLoop comes who first (n + k) (round + 1) s u
    loop_more some = record {
      rounds = h.rounds ++ more ∷ [];
      caught = caught_more comes who others first n k h.rounds s t u h.caught last m;
      busy = busy_more first h.rounds more h.busy (subst (λ (v : ℕ). 0 < v) (sym (next_written comes who others first n k h.rounds s t u h.caught last m)) some);
      many = length-append h.rounds (more ∷ []) ∙ ap (λ (v : ℕ). v + 1) h.many;
    }

    pub loop_ends : k ≡ 0 → round < 8 → (rounds : List Step) × HasCaught comes who first (n + k) rounds s u × AreRounds 1 first rounds
    loop_ends none low = (
      h.rounds ++ more ∷ [],
      caught_more comes who others first n k h.rounds s t u h.caught last m,
      rounds_end 1 first h.rounds more h.busy (let many = h.many in omega (arith, many, low)) (next_written comes who others first n k h.rounds s t u h.caught last m ∙ none),
    )

  full : (rounds : List Step) → AreBusy first rounds → length rounds ≡ 8 → AreRounds 1 first rounds
  full [] busy many = absurd (omega (arith, many))
  full (r ∷ rounds) busy many = rounds_full 1 first r rounds busy (omega (arith, many))

  pub loop_full : round ≡ 8 → (rounds : List Step) × HasCaught comes who first n rounds s t × AreRounds 1 first rounds
  loop_full all = (h.rounds, h.caught, full h.rounds h.busy (h.many ∙ all))

  pub loop_tried : (u : Seen) → round < 8 → TriesOnce comes who t u → (rounds : List Step) × HasTried comes who first rounds s u
  loop_tried u low (inl m) = (
    h.rounds ++ [],
    record {
      enters = enters_then comes who h.rounds [] s t u h.caught.enters (enters_not comes who others TellsAnything t u (told_weaker (ComesAside comes) comes who [] TellsAnything t u (λ e c. c.0) m));
      catches = subst (AllByRecursion (λ (v : Step). v.kind ≡ CatchUp)) (sym (append-nil h.rounds)) h.caught.catches;
      begun = subst (AreBegun 1 first) (sym (append-nil h.rounds)) (busy_begun 1 first h.rounds h.busy (let many = h.many in omega (arith, many, low)));
    },
  )
  loop_tried u low (inr m) = (
    h.rounds ++ step_at m.grown.more CatchUp t ∷ [],
    record {
      enters = enters_then comes who h.rounds (step_at m.grown.more CatchUp t ∷ []) s t u h.caught.enters (enters_one comes who others CatchUp TellsAnything t u (told_weaker (ComesAside comes) comes who (CatchUp ∷ []) TellsAnything t u (λ e c. c.0) m));
      catches = all_append (λ (v : Step). v.kind ≡ CatchUp) h.rounds (step_at m.grown.more CatchUp t ∷ []) h.caught.catches (refl, tt);
      begun = busy_then 1 first h.rounds (step_at m.grown.more CatchUp t) h.busy (let many = h.many in omega (arith, many, low));
    },
  )

-- ---- then its end

module _ (comes : Entry → Type 0) (who : Who) (others : (e : Entry) → comes e → e.who.session ≢ who.session) where
  -- a call that entered nothing behind the rounds
  pub tries_then : (s t u : Seen) → Tries comes who s t → Told (ComesAside comes) who [] TellsAnything t u → Tries comes who s u
  tries_then s t u h m first b =
      let one = h first b in (
        one.0 ++ [],
        record {
          enters = enters_then comes who one.0 [] s t u one.1.enters (enters_not comes who others TellsAnything t u (told_weaker (ComesAside comes) comes who [] TellsAnything t u (λ e c. c.0) m));
          catches = subst (AllByRecursion (λ (v : Step). v.kind ≡ CatchUp)) (sym (append-nil one.0)) one.1.catches;
          begun = subst (AreBegun 1 first) (sym (append-nil one.0)) one.1.begun;
        },
      )

  pub tries_stop : (s t u : Seen) → Tries comes who s t → Told (ComesAside comes) who (MoveStop ∷ []) TellsAnything t u → GivesUp comes who s u
  tries_stop s t u h m first b = let one = h first b in gives_up comes who others first one.0 TellsAnything s t u one.1 m

-- ---- what may come since may come before

module _ (comes before : Entry → Type 0) (who : Who) (f : (e : Entry) → comes e → before e) where
  pub aside_weaker : (e : Entry) → ComesAside comes e → ComesAside before e
  aside_weaker e c = (f e c.0, c.1)

  pub finishes_weaker : (first : Step) (r : MoveReport) (s t : Seen) → HasFinished comes who first r s t → HasFinished before who first r s t
  finishes_weaker first r s t h = record {
    rounds = h.rounds;
    cutover = h.cutover;
    enters = enters_weaker comes before who (h.rounds ++ h.cutover ∷ []) s t f h.enters;
    catches = h.catches;
    settled = h.settled;
    ends = h.ends;
    caught = h.caught;
    last = h.last;
  }

  pub gives_up_weaker : (first : Step) (s t : Seen) → HasGivenUp comes who first s t → HasGivenUp before who first s t
  gives_up_weaker first s t h = record {
    rounds = h.rounds;
    stop = h.stop;
    enters = enters_weaker comes before who (h.rounds ++ h.stop ∷ []) s t f h.enters;
    catches = h.catches;
    begun = h.begun;
    ends = h.ends;
  }

-- what came in went on before
pub later_way : {X : Type 0} (state : X → StoreState) (who : Who) (is_ready is_kept went_on : Type 0) (s t : Seen) (i j k : Incoming X) → AllZip (Lifted state GoesOn) (arriving i) (arriving j) → IsUnderWay state who is_ready is_kept went_on s t j k →
    IsUnderWay state who is_ready is_kept went_on s t i k
later_way state who is_ready is_kept went_on s t i j k went h =
    record { ready = h.ready; keeps = h.keeps; goes_on = h.goes_on; stays = h.stays; stop = h.stop; stores = go_on_twice state (arriving i) (arriving j) (arriving k) went h.stores }

-- ---- a cutover, by its result

module _ {X E : Type 0} (state : X → StoreState) (comes : Entry → Type 0) (who : Who) (r : Result (Exchanged X) E) (s t : Seen) (m : Told (ComesAside comes) who (kinds_on Cutover r) (TellsExchanged state r) s t) where
  abbrev CutOver : Exchanged X → Seen → Type 0
  CutOver e f = (e.last ≡ changed_since f.journal.entries) × HadStores state f e.stores.items

  pub cut_ok : (e : Exchanged X) → r ≡ Ok e → Told (ComesAside comes) who (Cutover ∷ []) (CutOver e) s t
  cut_ok e is = subst (λ (v : Result (Exchanged X) E). Told (ComesAside comes) who (kinds_on Cutover v) (TellsExchanged state v) s t) is m

  pub cut_err : (e : E) → r ≡ Err e → Told (ComesAside comes) who [] TellsAnything s t
  cut_err e is = subst (λ (v : Result (Exchanged X) E). Told (ComesAside comes) who (kinds_on Cutover v) (TellsExchanged state v) s t) is m

  -- how many rows were changed in it
  pub cut_last : (e : Exchanged X) → r ≡ Ok e → Told (ComesAside comes) who (Cutover ∷ []) (λ (f : Seen). e.last ≡ changed_since f.journal.entries) s t
  cut_last e is = let k = cut_ok e is in record { found = k.found; grown = k.grown; so = k.so.0; is = k.is }

-- one call more
pub then_way : {X : Type 0} (state : X → StoreState) (who : Who) (is_ready kept_once went_once kept went : Type 0) (s t u : Seen) (i j k : Incoming X) → kept → went → Stays s t → AllZip (Lifted state GoesOn) (arriving i) (arriving j) → IsUnderWay state who is_ready kept_once went_once t u j k →
    IsUnderWay state who is_ready kept went s u i k
then_way state who is_ready kept_once went_once kept went s t u i j k keeps goes stays on h = record {
  ready = h.ready;
  keeps = keeps;
  goes_on = goes;
  stays = stays_twice s t u stays h.stays;
  stop = h.stop;
  stores = go_on_twice state (arriving i) (arriving j) (arriving k) on h.stores;
}

pub once_weaker : (comes before : Entry → Type 0) (who : Who) (f : (e : Entry) → comes e → before e) (s t : Seen) → TriesOnce comes who s t → TriesOnce before who s t
once_weaker comes before who f s t (inl m) = inl (told_weaker (ComesAside comes) (ComesAside before) who [] TellsAnything s t (aside_weaker comes before who f) m)
once_weaker comes before who f s t (inr m) = inr (told_weaker (ComesAside comes) (ComesAside before) who (CatchUp ∷ []) TellsAnything s t (aside_weaker comes before who f) m)

pub catches_weaker : (comes before : Entry → Type 0) (who : Who) (f : (e : Entry) → comes e → before e) (n : ℕ) (s t : Seen) → CatchesOnce comes who n s t → CatchesOnce before who n s t
catches_weaker comes before who f n s t m = told_weaker (ComesAside comes) (ComesAside before) who (CatchUp ∷ []) (λ (v : Seen). n ≡ changed_since v.journal.entries) s t (aside_weaker comes before who f) m
