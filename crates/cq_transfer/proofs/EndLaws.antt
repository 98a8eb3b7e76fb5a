-- How a move ends: by results of its calls, the stores that the group had, and those that are handed back.
use Rattle.std.proofs.Common.{◌≡◌, ◌≢◌, ◌∙◌, ◌<◌, inl, inr, ℕ, IsTrue, if◌then◌else◌, List, [], ◌∷◌, length, nat_eq, refl, sym, ap, subst, arith, length-append, Option, Some, None, Result, Ok, Err}
use Rattle.std.specs.List.{AllByRecursion, AllZip, flat_map}
use Rattle.std.proofs.lemmas.Bool.Decides.{eqb_tells}
use Rattle.std.proofs.lemmas.List.{length-map}
use Rattle.cq_value.proofs.Lists.{all_weaker}
use Rattle.cq_tree.specs.declared.journal.Who.{Who}
use Rattle.cq_tree.specs.declared.journal.Entry.{Entry}
use Rattle.cq_tree.specs.declared.journal.EntryKind.TheVariants.{MoveStart, Cutover, MoveStop}
use Rattle.cq_journal.specs.Stations.{Station, node_of}
use Rattle.cq_store.specs.Stores.{StoreState}
use Rattle.cq_group.specs.declared.group.GroupError.{GroupError}
use Rattle.cq_group.specs.declared.group.GroupState.{GroupState}
use Rattle.cq_group.specs.declared.group.GroupTable.{GroupTable}
use Rattle.cq_group.specs.declared.incoming.Incoming.{Incoming}
use Rattle.cq_group.specs.declared.moves.Exchanged.{Exchanged}
use Rattle.cq_group.specs.declared.moving.Moving.{Moving}
use Rattle.cq_group.specs.declared.start.MoveRefused.{MoveRefused}
use Rattle.cq_group.specs.Groups.{IsTableKept, copies_of, entries_of, journal_of, outline, shapes, stores_of}
use Rattle.cq_group.specs.Calls.{Blames, GoesOn, Lifted}
use Rattle.cq_group.specs.Incoming.{Adopts, IsIncoming, arriving, why_told}
use Rattle.cq_group.specs.Moves.{IsMoveKept, upto_move}
use Rattle.cq_group.specs.Resting.{IsResting}
use Rattle.cq_group.proofs.MoveLaws.{station_push}
use Rattle.cq_reach.specs.Seen.{Seen, seen_of}
use Rattle.cq_move_calls.specs.Moving.{AreSteadyOn, ComesAside, ComesIn, HadStores, IsMover, RefusesStart, TellsAnything, TellsExchanged, TellsStart, Told, kinds_on}
use Rattle.cq_move.specs.declared.outcome.Moved.{Moved}
use Rattle.cq_move.specs.declared.outcome.NotMoved.{NotMoved}
use Rattle.cq_move.proofs.NodeLaws.{stores_there}
use Rattle.cq_move.proofs.StoreLaws.{ends_told, keep_shards}
use Rattle.cq_history.specs.Journals.{Step}
use Rattle.cq_transfer.specs.Entering.{Catches, HasMoved, IsBehind, Tries}
use Rattle.cq_transfer.specs.Carrying.{AreOf, ComesToEnd, ComesToStop, HandsBack, IsGivenUp, IsMoving, Stays}
use Rattle.cq_transfer.proofs.EnterLaws.{step_at, told_weaker}
use Rattle.cq_transfer.proofs.PassLaws.{behind_start, caught_tries, finishes, found_mover, found_stays, has_moved, has_stopped, moving_at, start_target, told_last, told_tables}
use Rattle.cq_transfer.proofs.LoopLaws.{aside_weaker, finishes_weaker, gives_up_weaker, tries_stop, tries_then}

-- ---- steady stores

module _ {X : Type 0} (state : X → StoreState) (node : ℕ) (R : StoreState → StoreState → Type 0) (same : (s t : StoreState) → R s t → (t.node ≡ s.node) × (t.steady ≡ s.steady)) where
  -- stores that stay on their nodes, as steady as they were
  steady_later : (xs ys : List X) → AllZip (Lifted state R) xs ys → AreSteadyOn state node xs → AreSteadyOn state node ys
  steady_later [] [] h all = tt
  steady_later [] (y ∷ ys) h all = absurd h
  steady_later (x ∷ xs) [] h all = absurd h
  steady_later (x ∷ xs) (y ∷ ys) h all =
      let one = same (state x) (state y) h.0 in
      ((λ on. subst IsTrue (sym one.1) (all.0 (sym one.0 ∙ on))), steady_later xs ys h.1 all.1)

pub steady_adopted : {X : Type 0} (state : X → StoreState) (node : ℕ) (xs ys : List X) → AllZip (Lifted state Adopts) xs ys → AreSteadyOn state node xs → AreSteadyOn state node ys
steady_adopted state node xs ys h all = steady_later state node Adopts (λ s t k. (ap (λ (v : StoreState). v.node) k.state, ap (λ (v : StoreState). v.steady) k.state)) xs ys h all

pub steady_went : {X : Type 0} (state : X → StoreState) (node : ℕ) (xs ys : List X) → AllZip (Lifted state GoesOn) xs ys → AreSteadyOn state node xs → AreSteadyOn state node ys
steady_went state node xs ys h all = steady_later state node GoesOn (λ s t k. (ap (λ (v : StoreState). v.node) k.state, ap (λ (v : StoreState). v.steady) k.state)) xs ys h all

-- ---- the stores that a group had

one_copy : (node copies : ℕ) → 0 < node → (if nat_eq node 0 then copies else 1) ≡ 1
one_copy node copies some = elim (eqb_tells node 0) [ inl p ↦ absurd (let none = p.1 in omega (arith, some, none)) | inr p ↦ ap (λ b. if b then copies else 1) p.0 ]

module _ {X : Type 0} (state : X → StoreState) where
  one_each : (node copies : ℕ) (es : List Entry) (ts : List (GroupTable X)) → copies ≡ 1 → AllByRecursion (IsTableKept state node copies es) ts → length (flat_map (λ (t : GroupTable X). t.stores.items) ts) ≡ length ts
  one_each node copies es [] one h = refl
  one_each node copies es (t ∷ ts) one h =
      let all = length-append t.stores.items (flat_map (λ (u : GroupTable X). u.stores.items) ts) in
      let here = h.0.complete in
      let rest = one_each node copies es ts one h.1 in
      omega (arith, all, here, one, rest)

  -- a group that is moved isn't a reference group
  moved_node : (who : Who) (g : GroupState X) → IsResting state g → IsMover who (seen_of g) → 0 < g.node
  moved_node who g rest m = by g.moving rest.kept.move
    where
      by : (v : Option Moving) → IsMoveKept (shapes g) (journal_of g) g.node g.journal.entries.room v → 0 < g.node
      by None none = absurd (let some = m in cc (sym none ∙ some))
      by (Some v) flight = flight.distributed

  pub old_stores : (who : Who) (s : Seen) (stores : List X) → IsMover who s → HadStores state s stores → AreOf state (node_of s.journal) (length s.tables) stores
  old_stores who s stores m had =
      let g = had.group in
      let some : 0 < g.node = moved_node who g had.resting (subst (IsMover who) (sym had.known) m) in
      let placed : g.node ≡ node_of s.journal = sym had.resting.placed ∙ ap (λ (v : Seen). node_of v.journal) had.known in
      record {
        many = ap length had.all ∙ one_each g.node (copies_of g) (entries_of g) g.tables.items (one_copy g.node g.nodes some) had.resting.kept.tables ∙ sym (length-map g.tables.items outline) ∙ ap (λ (v : Seen). length v.tables) had.known;
        on = subst (AllByRecursion (λ (x : X). (state x).node ≡ node_of s.journal)) (sym had.all) (subst (λ (n : ℕ). AllByRecursion (λ (x : X). (state x).node ≡ n) (stores_of g)) placed (stores_there state g had.resting some));
      }

-- ---- the end of a move in flight

module _ {X : Type 0} (state : X → StoreState) (comes now : Entry → Type 0) (who : Who) (others : (e : Entry) → comes e → e.who.session ≢ who.session) (f : (e : Entry) → now e → comes e) where
  pub comes_to_end : {T : Type 0} (due : ℕ) (r : Result (Exchanged X) T) (x : Exchanged X) (m : Moved X) (s t u : Seen) (i : Incoming X) → r ≡ Ok x → m.report.copied ≡ due → m.report.last ≡ x.last → m.stores.items ≡ x.stores.items → Catches comes who m.report.caught s t → Stays s t →
      IsMoving state who t i → Told (ComesAside now) who (kinds_on Cutover r) (TellsExchanged state r) t u → ComesToEnd state comes who due m s u
  comes_to_end {T} due r x m s t u i is copied last stores caught stays moving told =
      let cut = subst (λ (v : Result (Exchanged X) T). Told (ComesAside now) who (kinds_on Cutover v) (TellsExchanged state v) t u) is told in
      let had = old_stores state who cut.found x.stores.items (found_mover now who t cut.found cut.grown moving.mover) cut.so.1 in
      let far = found_stays now who t cut.found cut.grown in
      record {
        copied = copied;
        finishes = λ first b.
            (let all = caught first b in
            finishes comes who others first m.report all.0 s t u all.1 all.2 moving.last
            (record {
              found = cut.found;
              grown = record { more = cut.grown.more; all = all_weaker (ComesAside now) (ComesAside comes) (aside_weaker now comes who f) cut.grown.more cut.grown.all; is = cut.grown.is };
              so = last ∙ cut.so.0;
              is = cut.is;
            }));
        stores = record {
          many = ap length stores ∙ had.many ∙ ap length far.tables ∙ ap length stays.tables;
          on = subst (AllByRecursion (λ (y : X). (state y).node ≡ node_of s.journal)) (sym stores) (subst (λ (n : ℕ). AllByRecursion (λ (y : X). (state y).node ≡ n) x.stores.items) (far.node ∙ stays.node) had.on);
        };
      }

  pub comes_to_stop : (error : GroupError) (xs ys : List X) (e : NotMoved X) (s t u : Seen) → Tries comes who s t → AllZip (Lifted state GoesOn) xs ys → Blames state error xs ys → Told (ComesAside now) who (MoveStop ∷ []) TellsAnything t u → HandsBack (why_told error) ys e →
      ComesToStop state comes who xs e s u
  comes_to_stop error xs ys e s t u tries went blamed told back = record {
    begun = back.begun;
    gives_up = tries_stop comes who others s t u tries (told_weaker (ComesAside now) (ComesAside comes) who (MoveStop ∷ []) TellsAnything t u (aside_weaker now comes who f) told);
    why = record { error = error; told = back.why; blames = subst (Blames state error xs) (sym back.stores) blamed };
    stores = subst (AllZip (Lifted state GoesOn) xs) (sym back.stores) went;
  }

  -- a cutover that failed, behind the rounds
  pub tries_cutover : {T : Type 0} (n : ℕ) (r : Result (Exchanged X) T) (x : T) (s t u : Seen) → r ≡ Err x → Catches comes who n s t → Told (ComesAside now) who (kinds_on Cutover r) (TellsExchanged state r) t u → Tries comes who s u
  tries_cutover {T} n r x s t u is caught told =
      let m = subst (λ (v : Result (Exchanged X) T). Told (ComesAside now) who (kinds_on Cutover v) (TellsExchanged state v) t u) is told in
      tries_then comes who others s t u (caught_tries comes who others n s t caught)
      (record { found = m.found; grown = record { more = m.grown.more; all = all_weaker (ComesAside now) (ComesAside comes) (aside_weaker now comes who f) m.grown.more m.grown.all; is = m.grown.is }; so = tt; is = m.is })

-- ---- a whole move

module _ {X : Type 0} (state : X → StoreState) (comes now : Entry → Type 0) (who : Who) (others : (e : Entry) → comes e → e.who.session ≢ who.session) (f : (e : Entry) → now e → comes e) (from to : ℕ) (s t : Seen) where
  module _ (r : Result (Incoming X) (MoveRefused X)) (i : Incoming X) (is : r ≡ Ok i) (told : Told comes who (kinds_on (MoveStart to) r) (TellsStart to from r) s t) where
    abbrev Begun : Seen → Type 0
    Begun v = TellsStart to from (Ok i) v

    begun : Told comes who (MoveStart to ∷ []) Begun s t
    begun = subst (λ (v : Result (Incoming X) (MoveRefused X)). Told comes who (kinds_on (MoveStart to) v) (TellsStart to from v) s t) is told

    tables : t.tables ≡ s.tables
    tables = told_tables comes who (MoveStart to ∷ []) Begun s t begun

    pub begun_moving : IsMover who t → ComesIn state t i → IsMoving state who t i
    begun_moving mover c = moving_at state who t i mover (told_last comes who (MoveStart to) Begun s t refl begun) c

    incoming : ComesIn state t i → IsIncoming state to (upto_move t.journal.entries) s.tables i
    incoming c = subst (λ os. IsIncoming state to (upto_move t.journal.entries) os i) tables
        (subst (λ n. IsIncoming state n (upto_move t.journal.entries) t.tables i) (start_target comes who to Begun s t begun) c)

    node : node_of t.journal ≡ from
    node = ap (λ (v : Seen). node_of v.journal) begun.is ∙ ap (λ (v : Station). v.node) (station_push begun.found.journal begun.found.journal.entries (record { who = who; kind = MoveStart to })) ∙ begun.so.0.there

    abbrev start : Step
    start = step_at begun.grown.more (MoveStart to) s

    behind : IsBehind who start t
    behind = behind_start comes who others from to Begun s t t begun begun.so.0

    pub ends_moved : (u : Seen) (m : Moved X) → ComesToEnd state now who i.due m t u → HasMoved comes who from to m.report s u
    ends_moved u m h =
        has_moved comes who others from to Begun s t u begun begun.so.0 m.report (h.copied ∙ begun.so.1) (finishes_weaker now comes who f start m.report t u (h.finishes start behind))

    pub ends_old : (u : Seen) (m : Moved X) (given : List X) → length given ≡ length s.tables → ComesToEnd state now who i.due m t u → AreOf state from (length given) m.stores.items
    ends_old u m given one h = record {
      many = h.stores.many ∙ ap length tables ∙ sym one;
      on = subst (λ (n : ℕ). AllByRecursion (λ (x : X). (state x).node ≡ n) m.stores.items) node h.stores.on;
    }

    pub ends_given_up : (u : Seen) (e : NotMoved X) (given : List X) → ComesIn state t i → AllZip (Lifted state Adopts) given (arriving i) → ComesToStop state now who (arriving i) e t u → IsGivenUp state comes who from to given e s u
    ends_given_up u e given c adopted h = record {
      stopped = has_stopped comes who others from to Begun s t u begun begun.so.0 (gives_up_weaker now comes who f start t u (h.gives_up start behind));
      why = ends_told state e.why to (upto_move t.journal.entries) s.tables i.tables.items given e.stores.items (incoming c).tables adopted h.stores h.why;
      shards = keep_shards state to (upto_move t.journal.entries) s.tables i.tables.items e.stores.items (incoming c).tables h.stores;
    }

  pub refused_told : (r : Result (Incoming X) (MoveRefused X)) (x : MoveRefused X) → r ≡ Err x → Told comes who (kinds_on (MoveStart to) r) (TellsStart to from r) s t → Told comes who [] (λ v. RefusesStart x.why v to from) s t
  refused_told r x is told = subst (λ (v : Result (Incoming X) (MoveRefused X)). Told comes who (kinds_on (MoveStart to) v) (TellsStart to from v) s t) is told
