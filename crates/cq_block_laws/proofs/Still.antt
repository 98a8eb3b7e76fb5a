-- No group is moved between two phases: each statement has ended the moves that it began.
use Rattle.std.proofs.Common.{◌≡◌, ◌⊎◌, inl, inr, ℕ, Bool, true, false, List, [], ◌∷◌, ◌++◌, fold, refl, sym, ◌∙◌, ap, subst, Some, None, Option, eq-eqb}
use Rattle.std.specs.Prelude.{nat_eq}
use Rattle.std.specs.List.{AllByRecursion}
use Rattle.std.proofs.lemmas.Bool.{eqb-true}
use Rattle.std.proofs.lemmas.List.{map-append}
use Rattle.std.proofs.lemmas.List.Sums.{fold-append}
use Rattle.cq_value.proofs.Truths.{two_ways}
use Rattle.cq_tree.specs.declared.journal.Who.{Who}
use Rattle.cq_tree.specs.declared.journal.Entry.{Entry}
use Rattle.cq_tree.specs.declared.journal.EntryKind.{EntryKind}
use Rattle.cq_tree.specs.declared.journal.EntryKind.TheVariants as entry
use Rattle.cq_tree.specs.declared.statement.Statement.{Statement}
use Rattle.cq_tree.specs.declared.statement.Statement.TheVariants as statement
use Rattle.cq_balance.specs.declared.load.Move.{Move}
use Rattle.cq_catalog.specs.Contents.{Contents}
use Rattle.cq_catalog.specs.Placement.{group_of_shard}
use Rattle.cq_answer.specs.declared.answer.Answer.{Answer}
use Rattle.cq_answer.specs.declared.answer.Answer.TheVariants as answer
use Rattle.cq_answer.specs.declared.answered.Answered.{Answered}
use Rattle.cq_answer.specs.declared.fault.Fault.{Fault}
use Rattle.cq_answer.specs.declared.fault.Fault.TheVariants as fault
use Rattle.cq_journal.specs.Records.{Journal}
use Rattle.cq_journal.specs.Stations.{Station, moved, moving_of}
use Rattle.cq_planning.specs.Touched.{among}
use Rattle.cq_history.specs.Run.{Run, Rules, Environment}
use Rattle.cq_history.specs.Phases.{who_of, environment_at, IsOf}
use Rattle.cq_history.specs.Journals.{journal_in, made_by, kinds_of, none, Step, steps_of, kinds_in}
use Rattle.cq_history.specs.Moves.{Report, IsMove, IsStopped, start_fault}
use Rattle.cq_history.specs.Rebalances.{Either, Made, AreMovesOf, read_for}
use Rattle.cq_history.specs.Standing.{View, Enters, EntersIn, reads, Moves, MovesUnless, IsMovedIn, AreStepsOf, FailsMove, StopsIn, Rebalances, Runs, RunsUnless}
use Rattle.cq_history.specs.Legality.{IsLegalStep}
use Rattle.cq_history.specs.Deeds.{Deed, Phase, in_deed, Does}
use Rattle.cq_history.specs.Log.{IsDone}
use Rattle.cq_history.specs.Laws.{IsOfNoMove, IsNoMove}
use Rattle.cq_history.proofs.Lists.{all_at}
use Rattle.cq_history.proofs.Entries.{with_list, steps_kinds}
use Rattle.cq_history.proofs.Moving.{others_move_none}
use Rattle.cq_history.proofs.Visiting.{made_who}
use Rattle.cq_block_laws.specs.Laws.{MovesAreOver}

-- ---- moves that are open behind kinds of entries

abbrev opened : Bool → EntryKind → Bool
opened b entry.Read = b
opened b (entry.Write op reply) = b
opened b (entry.MoveStart to) = true
opened b entry.CatchUp = b
opened b entry.Cutover = false
opened b entry.MoveStop = false

either : {A B C : Type 0} (b : Bool) → (A → C) → (B → C) → Either b A B → C
either true f g h = f h
either false f g h = g h

abbrev is_open : Bool → List EntryKind → Bool
is_open b kinds = fold opened b kinds

-- no move is open behind the steps of a statement
abbrev Over : List Step → Type 0
Over steps = is_open false (kinds_in steps) ≡ false

over_none : (kinds : List EntryKind) → AllByRecursion IsOfNoMove kinds → is_open false kinds ≡ false
over_none [] all = refl
over_none (entry.Read ∷ kinds) all = over_none kinds all.1
over_none (entry.Write op reply ∷ kinds) all = over_none kinds all.1
over_none (k ∷ kinds) all = absurd all.0

over_empty : (steps : List Step) → steps ≡ [] → Over steps
over_empty steps e = ap (λ (v : List Step). is_open false (kinds_in v)) e

over_append : (xs ys : List Step) → Over xs → Over ys → Over (xs ++ ys)
over_append xs ys h k =
    ap (is_open false) (map-append (λ (s : Step). s.kind) xs ys)
    ∙ fold-append opened false (kinds_in xs) (kinds_in ys)
    ∙ ap (λ b. is_open b (kinds_in ys)) h
    ∙ k

caught_up : (b : Bool) (rounds : List Step) → AllByRecursion (λ (s : Step). s.kind ≡ entry.CatchUp) rounds → is_open b (kinds_in rounds) ≡ b
caught_up b [] all = refl
caught_up b (s ∷ rounds) all = ap (λ k. is_open (opened b k) (kinds_in rounds)) all.0 ∙ caught_up b rounds all.1

over_whole : (start end : Step) (rounds : List Step) (to : ℕ) → start.kind ≡ entry.MoveStart to → AllByRecursion (λ (s : Step). s.kind ≡ entry.CatchUp) rounds → opened true end.kind ≡ false → Over (start ∷ rounds ++ end ∷ [])
over_whole start end rounds to starts catches ends =
    ap (λ k. is_open (opened false k) (kinds_in (rounds ++ end ∷ []))) starts
    ∙ ap (is_open true) (map-append (λ (s : Step). s.kind) rounds (end ∷ []))
    ∙ fold-append opened true (kinds_in rounds) (end.kind ∷ [])
    ∙ ap (λ b. is_open b (end.kind ∷ [])) (caught_up true rounds catches)
    ∙ ends

module _ (c : Contents) (g : ℕ) where
  over_move : (from to : ℕ) (r : Report) (steps : List Step) → IsMove c g from to r steps → Over steps
  over_move from to r steps m = subst Over (sym m.all) (over_whole m.start m.cutover m.rounds to m.starts m.catches (ap (opened true) m.ends))

  over_stopped : (from to : ℕ) (steps : List Step) → IsStopped from to steps → Over steps
  over_stopped from to steps m = subst Over (sym m.all) (over_whole m.start m.stop m.rounds to m.starts m.catches (ap (opened true) m.ends))

  over_moves : (made : List Made) (steps : List Step) → AreMovesOf c g made steps → Over steps
  over_moves [] steps h = over_empty steps h
  over_moves (m ∷ made) steps h = either (nat_eq m.move.group g)
      (λ w. subst Over (sym w.2) (over_append w.0 w.1 (over_move m.move.from m.move.to m.report w.0 w.3) (over_moves made w.1 w.4))) (λ w. over_moves made steps w) h

  over_reads : (groups : List ℕ) → is_open false (reads groups g) ≡ false
  over_reads groups = elim (two_ways (among g groups)) [ inl y ↦ rw y refl | inr n ↦ rw n refl ]

  over_steps : (by_size : Bool) (made : List Made) (Last : List Step → Type 0) (steps : List Step) → ((last : List Step) → Last last → Over last) → AreStepsOf by_size c g made Last steps → Over steps
  over_steps by_size made Last steps ends s =
      subst Over (sym s.all) (over_append s.first (s.moves ++ s.last) (ap (is_open false) s.reads ∙ over_reads (read_for by_size c))
      (over_append s.moves s.last (over_moves made s.moves s.moved) (ends s.last s.ends)))

  over_stops : (m : Move) (steps : List Step) → StopsIn m g steps → Over steps
  over_stops m steps h = either (nat_eq m.group g) (over_stopped m.from m.to steps) (over_empty steps) h

-- ---- the steps of each statement

module _ (run : Run) (e : Environment) (p : Phase) (d : Deed) where
  abbrev view : View
  view = in_deed p e.catalog d

  abbrev AllOver : Type 0
  AllOver = (g : ℕ) → Over (d.made g)

  over_entered : Enters view none → AllOver
  over_entered h g = ap (is_open false) (h g)

  over_in : (group : ℕ) (P : List Step → Type 0) → ((steps : List Step) → P steps → Over steps) → EntersIn view group P → AllOver
  over_in group P ends h g = elim (two_ways (nat_eq g group)) [ inl y ↦ subst (λ k. Over (d.made k)) (sym (eqb-true g group y)) (ends (d.made group) h.0) | inr n ↦ over_empty (d.made g) (h.1 g n) ]

  over_moving : (group from to : ℕ) (a : Answer) → Moves e.catalog view group from to a → AllOver
  over_moving group from to (answer.Table names rows) h = over_in group (IsMove e.catalog group from to h.0) (over_move e.catalog group from to h.0) h.3
  over_moving group from to (answer.Failed (fault.Worker failure)) h = over_entered h.0
  over_moving group from to (answer.Failed (fault.Retired failure)) h = over_in group (IsStopped from to) (over_stopped e.catalog group from to) h.0
  over_moving group from to (answer.Failed fault.Memory) (inl h) = over_entered h
  over_moving group from to (answer.Failed fault.Memory) (inr h) = over_in group (IsStopped from to) (over_stopped e.catalog group from to) h
  over_moving group from to a h = absurd h

  over_unless : (o : Option Fault) (group from to : ℕ) (a : Answer) → MovesUnless o e.catalog view group from to a → AllOver
  over_unless (Some f) group from to a h = over_entered h.0
  over_unless None group from to a h = over_moving group from to a h

  over_moved : (shard from to : ℕ) (o : Option ℕ) (a : Answer) → IsMovedIn run e view shard from to o a → AllOver
  over_moved shard from to None a h = over_entered h.0
  over_moved shard from to (Some group) a h = over_unless (start_fault run e.catalog h.free h.mover h.node group from to) group from to a h.moves

  over_fails : (by_size : Bool) (nodes : ℕ → ℕ) (made : List Made) (m : Move) (f : Fault) → FailsMove by_size run e.catalog e.retired view nodes made m f → AllOver
  over_fails by_size nodes made m (fault.NoRoom node free needed) h g = over_steps e.catalog g by_size made (λ steps. steps ≡ []) (d.made g) over_empty (h.0 g)
  over_fails by_size nodes made m (fault.Worker failure) h g = over_steps e.catalog g by_size made (λ steps. steps ≡ []) (d.made g) over_empty (h.0 g)
  over_fails by_size nodes made m (fault.Retired failure) h g = over_steps e.catalog g by_size made (StopsIn m g) (d.made g) (over_stops e.catalog g m) (h.0 g)
  over_fails by_size nodes made m fault.Memory (inl h) g = over_steps e.catalog g by_size made (λ steps. steps ≡ []) (d.made g) over_empty (h g)
  over_fails by_size nodes made m fault.Memory (inr h) g = over_steps e.catalog g by_size made (StopsIn m g) (d.made g) (over_stops e.catalog g m) (h g)
  over_fails by_size nodes made m f h g = absurd h

  module _ (touched : List ℕ) (who : Who) (legal : (g : ℕ) → AllByRecursion (IsLegalStep e.catalog g who) (d.made g)) where
    -- statements that move no group, by what they do where nothing is refused
    over_others : (s : Statement) (a : Answer) → IsNoMove s → Runs touched run e view s a → AllOver
    over_others s a n h g =
        over_none (kinds_in (d.made g)) (others_move_none (record { touched = λ c t. touched; refusal = λ f t. None }) run e p who d s a n (record { stands = h; legal = legal }) g)

    over_rebalance : (by_size : Bool) (a : Answer) → Rebalances by_size run e.catalog e.retired view a → AllOver
    over_rebalance by_size (answer.Table names rows) h g = over_steps e.catalog g by_size h.0 (λ steps. steps ≡ []) (d.made g) over_empty (h.4 g)
    over_rebalance by_size (answer.Failed f) (inl h) g = over_others (statement.RebalancePlan by_size) (answer.Failed f) tt h g
    over_rebalance by_size (answer.Failed f) (inr h) g = over_fails by_size h.plan.nodes h.made h.next f h.fails g
    over_rebalance by_size a h g = absurd h

    over_runs : (s : Statement) (a : Answer) → Runs touched run e view s a → AllOver
    over_runs (statement.Move shard from to) a h = over_moved shard from to (group_of_shard e.catalog shard) a h
    over_runs (statement.Rebalance by_size) a h = over_rebalance by_size a h
    over_runs s a h = over_others s a tt h

    over_run : (o : Option Fault) (s : Statement) (a : Answer) → RunsUnless o touched run e view s a → AllOver
    over_run (Some f) s a h = over_entered h.0
    over_run None s a h = over_runs s a h

over_does : (rules : Rules) (run : Run) (e : Environment) (p : Phase) (who : Who) (d : Deed) (bound : Option Statement) (a : Answer) → Does rules run e p who d bound a → (g : ℕ) → Over (d.made g)
over_does rules run e p who d None a does = over_entered run e p d does.stands.0
over_does rules run e p who d (Some s) a does = over_run run e p d (rules.touched e.catalog s) who does.legal (rules.refusal e s) s a does.stands

-- ---- journals

-- whoever moves a group has begun a move that isn't over
moving_open : (w : Who) (es : List Entry) (s : Station) (b : Bool) → (s.moving ≡ Some w → b ≡ true) → (fold (λ (t : Station) (e : Entry). moved t e.who e.kind) s es).moving ≡ Some w → is_open b (kinds_of w es) ≡ true
moving_open w [] s b first h = first h
moving_open w (e ∷ es) s b first h = elim (two_ways (made_by w e)) [
  | inl y ↦ rw y (moving_open w es (moved s e.who e.kind) (opened b e.kind) (own e.kind) h)
  | inr n ↦ rw n (moving_open w es (moved s e.who e.kind) b (other e.kind (λ same. let bad : true ≡ false = sym (by_itself same) ∙ n in cc bad)) h)
]
  where
    own : (k : EntryKind) → (moved s e.who k).moving ≡ Some w → opened b k ≡ true
    own entry.Read m = first m
    own (entry.Write op reply) m = first m
    own (entry.MoveStart to) m = refl
    own entry.CatchUp m = first m
    own entry.Cutover m = absurd (cc m)
    own entry.MoveStop m = absurd (cc m)

    by_itself : e.who ≡ w → made_by w e ≡ true
    by_itself same = rw (eq-eqb e.who.session w.session (ap (λ (v : Who). v.session) same), eq-eqb e.who.statement w.statement (ap (λ (v : Who). v.statement) same)) refl

    other : (k : EntryKind) → (e.who ≡ w → ⊥) → (moved s e.who k).moving ≡ Some w → b ≡ true
    other entry.Read far m = first m
    other (entry.Write op reply) far m = first m
    other (entry.MoveStart to) far m = absurd (far (let same : Some e.who ≡ Some w = m in cc same))
    other entry.CatchUp far m = first m
    other entry.Cutover far m = absurd (cc m)
    other entry.MoveStop far m = absurd (cc m)

none_or_of : (answers : List Answered) (w : Who) (es : List Entry) → AllByRecursion (λ (e : Entry). IsOf answers e.who) es → (kinds_of w es ≡ []) ⊎ IsOf answers w
none_or_of answers w [] all = inl refl
none_or_of answers w (e ∷ es) all = elim (two_ways (made_by w e)) [
  | inl y ↦ inr (subst (IsOf answers) (made_who w e y) all.0)
  | inr n ↦ elim (none_or_of answers w es all.1) [ inl none ↦ inl (rw n none) | inr o ↦ inr o ]
]

module _ (rules : Rules) (run : Run) (all : List Answered) (last : Contents) (journals : List Journal) (answers : List Answered) (done : AllByRecursion (IsDone rules run all last journals) answers) (g : ℕ)
    (of : AllByRecursion (λ (e : Entry). IsOf answers e.who) (journal_in journals g).entries) where
  abbrev entries : List Entry
  entries = (journal_in journals g).entries

  over_of : (w : Who) → IsOf answers w → is_open false (kinds_of w entries) ≡ false
  over_of w o =
      let i = all_at (IsDone rules run all last journals) answers o.place o.answered done o.there in
      let made : steps_of w (journal_in journals g) ≡ i.deed.made g = subst (λ (v : Who). steps_of v (journal_in journals g) ≡ i.deed.made g) o.is (i.has.made g) in
      ap (is_open false) (sym (steps_kinds w (with_list (journal_in journals g) []) entries) ∙ ap kinds_in made)
      ∙ over_does rules run (environment_at run all o.answered.phase) i.phase (who_of o.answered) i.deed o.answered.bound o.answered.answer i.does g

  none_moving : (m : Option Who) → moving_of (journal_in journals g) ≡ m → moving_of (journal_in journals g) ≡ None
  none_moving None e = e
  none_moving (Some w) e =
      let begun : is_open false (kinds_of w entries) ≡ true = moving_open w entries (record { node = (journal_in journals g).opening; moving = None; target = (journal_in journals g).opening }) false (λ n. cc n) e in
      elim (none_or_of answers w entries of) [
        | inl none ↦ absurd (let bad : true ≡ false = sym begun ∙ ap (is_open false) none in cc bad)
        | inr o ↦ absurd (let bad : true ≡ false = sym begun ∙ over_of w o in cc bad)
      ]

pub moves_are_over : MovesAreOver
moves_are_over rules run before all e answers journals c g = none_moving rules run all e.catalog journals answers c.done g (c.log.of_answers g) (moving_of (journal_in journals g)) refl
