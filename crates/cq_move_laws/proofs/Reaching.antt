-- How a move is answered that comes to its group.
use Rattle.std.proofs.Common.{zero, suc, ◌≡◌, ◌≢◌, ◌⊎◌, ◌<◌, ◌≤◌, inl, inr, ℕ, true, false, cond, List, [], ◌∷◌, ◌++◌, length, refl, sym, ◌∙◌, ap, subst, arith, Some, None, Option, eq-eqb}
use Rattle.std.specs.Prelude.{slice_index_or, Ok}
use Rattle.std.specs.List.{AllByRecursion, Contains}
use Rattle.cq_tree.specs.declared.failure.StoreFailure.{StoreFailure}
use Rattle.cq_tree.specs.declared.journal.EntryKind.TheVariants as entry
use Rattle.cq_catalog.specs.Contents.{Contents}
use Rattle.cq_journal.specs.Records.{Journal}
use Rattle.cq_journal.specs.Stations.{node_of, moving_of}
use Rattle.cq_answer.specs.declared.answer.Answer.{Answer}
use Rattle.cq_answer.specs.declared.answer.Answer.TheVariants as answer
use Rattle.cq_answer.specs.declared.answered.Answered.{Answered}
use Rattle.cq_answer.specs.declared.fault.Fault.{Fault}
use Rattle.cq_answer.specs.declared.fault.Fault.TheVariants as fault
use Rattle.cq_history.specs.Deeds.{Phase, first_seen, in_deed}
use Rattle.cq_history.specs.Faults.{IsShardIn}
use Rattle.cq_history.specs.Journals.{Step}
use Rattle.cq_history.specs.Legality.{CanFollow, IsLegal, IsLegalStep}
use Rattle.cq_history.specs.Moves.{Report, IsMove, IsStopped, rows_held, start_fault}
use Rattle.cq_history.specs.Phases.{who_of}
use Rattle.cq_history.specs.Room.{stores_moved}
use Rattle.cq_history.specs.Run.{Run, Rules}
use Rattle.cq_history.specs.Standing.{Moves, MovesUnless}
use Rattle.cq_history.proofs.Entries.{with_list}
use Rattle.cq_store.specs.Stores.{StoreState, Rose}
use Rattle.cq_group.specs.declared.start.MoveWhy.{MoveWhy}
use Rattle.cq_group.specs.declared.start.MoveWhy.TheVariants as why
use Rattle.cq_group.specs.Calls.{Lifted, SomeZip}
use Rattle.cq_group.specs.Groups.{Outline}
use Rattle.cq_reach.specs.Seen.{Seen, IsShardOf}
use Rattle.cq_move.specs.Outcomes.{Broke, EndsMove, shards_in}
use Rattle.cq_move_calls.specs.Moving.{RefusesStart}
use Rattle.cq_transfer.specs.Entering.{Enters}
use Rattle.cq_cluster.specs.Moving.{fault_told, move_answer}
use Rattle.cq_block_laws.specs.Serving.{Opening, Known, IsAnsweredBeside}
use Rattle.cq_move_laws.specs.Notes.{TakesAndGives}
use Rattle.cq_move_laws.specs.Moving.{ComesBeside, ReachesGroup}
use Rattle.cq_move_laws.specs.Laws.{RefusedIsAnswered, GivenUpIsAnswered, MovedIsAnswered}
use Rattle.cq_move_laws.proofs.Steps.{is_somewhere, in_group, deed_in, GoesBy, goes_legal}
use Rattle.cq_move_laws.proofs.Standing.{start_moving, start_not_there, start_same, start_none, moves_refused, moves_memory, enters_none, enters_in}
use Rattle.cq_move_laws.proofs.Noting.{sends_all}
use Rattle.cq_move_laws.proofs.Answering.{steps_over, goes_by_steps, found_last, group_there, by_steps, by_told}

-- ---- shards

shard_of : (P : ℕ → Type 0) (os : List Outline) (shard : ℕ) → AllByRecursion (λ (x : Outline). P x.2) os → IsShardOf os shard → P shard
shard_of P [] shard all is = absurd is
shard_of P (x ∷ os) shard all (inl e) = subst P (sym e) all.0
shard_of P (x ∷ os) shard all (inr more) = shard_of P os shard all.1 more

shard_among : (P : ℕ → Type 0) (os : List Outline) (shard : ℕ) → AllByRecursion (λ (x : Outline). P x.2) os → Contains (shards_in os) shard → P shard
shard_among P os shard all has = at_place os has.0 all has.1 has.2
  where
    at_place : (vs : List Outline) (k : ℕ) → AllByRecursion (λ (x : Outline). P x.2) vs → k < length (shards_in vs) → slice_index_or (shards_in vs) k shard ≡ shard → P shard
    at_place [] k all low e = absurd (omega (arith, low))
    at_place (v ∷ vs) zero all low e = subst P e all.0
    at_place (v ∷ vs) (suc k) all low e = at_place vs k all.1 (omega (arith, low)) e

some_rose : {X : Type 0} (state : X → StoreState) (failure : StoreFailure) (xs ys : List X) → SomeZip (Lifted state (Broke failure)) xs ys → Rose failure.before failure.after
some_rose state failure [] ys some = absurd some
some_rose state failure (x ∷ xs) [] some = absurd some
some_rose state failure (x ∷ xs) (y ∷ ys) some = elim some [ inl b ↦ b.rose | inr more ↦ some_rose state failure xs ys more ]

-- ---- a move that didn't begin

module _ (rules : Rules) (run : Run) (o : Opening) (a : Answered) (shard from to group : ℕ) (s t : Seen) (old new : Known) (r : ReachesGroup rules run o a shard from to group s t old new) where
  abbrev c : Contents
  c = o.environment.catalog

  there : group < length old.journals
  there = group_there rules run o a shard from to old new r.asked group r.of

  abbrev start : Journal → Option Fault
  start j = start_fault run c r.found.free (moving_of j) (node_of j) group from to

  abbrev MovesBy : List Step → Option Journal → Journal → Phase → Answer → Type 0
  MovesBy steps look j p ans = MovesUnless (start j) c (in_deed p c (deed_in group steps look)) group from to ans

  none_refuses : (j : Journal) → moving_of j ≡ None → node_of j ≡ from → from ≢ to → start j ≡ None
  none_refuses j still at other = start_none run c r.found.free group from to r.found.low r.found.high (moving_of j) (node_of j) r.found.enough still at (λ e. other (sym at ∙ e))

  module _ (found : Seen) (tables : found.tables ≡ s.tables) (legal : IsLegal c group found.journal) (opened : found.journal.opening ≢ 0) (p : Phase) (look : Option Journal) where
    abbrev j : Journal
    j = found.journal

    refused_by : (f : Fault) → start j ≡ Some f → MovesBy [] look j p (answer.Failed f)
    refused_by fault.Memory is = moves_memory run c p group from to look (start j)
    refused_by f is = moves_refused run c p group from to look f (start j) (answer.Failed f) is refl

    failed_by : (failure : StoreFailure) → RefusesStart (why.Worker failure) found to from → MovesBy [] look j p (answer.Failed (fault.Worker failure))
    failed_by failure h =
        let on : failure.node ≡ node_of j = h.1.node.there (is_somewhere c group j legal opened) in
        subst (λ (x : Option Fault). MovesUnless x c (in_deed p c (deed_in group [] look)) group from to (answer.Failed (fault.Worker failure))) (sym (none_refuses j h.0.free h.0.there h.0.other)) (
          enters_none run c p group from to look,
          shard_of (IsShardIn c group) found.tables failure.shard (subst (AllByRecursion (λ (x : Outline). IsShardIn c group x.2)) (sym tables) r.tables.shards) h.1.shard,
          on ∙ h.0.there,
          h.1.rose,
        )

    refused : (w : MoveWhy) → RefusesStart w found to from → MovesBy [] look j p (answer.Failed (fault_told false w))
    refused (why.Moving by) h = refused_by (fault.Moving by) (start_moving run c r.found.free group from to r.found.low r.found.high (moving_of j) (node_of j) by r.found.enough h)
    refused (why.NotThere node) h =
        refused_by (fault.NotThere node)
        (start_not_there run c r.found.free group from to r.found.low r.found.high (moving_of j) (node_of j) r.found.enough h.0 (λ e. h.2 (h.1 ∙ e)) ∙ ap (λ k. Some (fault.NotThere k)) (sym h.1))
    refused (why.SameNode node) h =
        refused_by (fault.SameNode node)
        (start_same run c r.found.free group from to r.found.low r.found.high (moving_of j) (node_of j) r.found.enough h.0 (sym h.1 ∙ h.2) (sym h.1 ∙ h.3) ∙ ap (λ k. Some (fault.SameNode k)) (sym h.1))
    refused (why.Worker failure) h = failed_by failure h
    refused why.Memory h = moves_memory run c p group from to look (start j)

  -- ---- one that began

  module _ (steps : List Step) (enters : Enters (ComesBeside o (who_of a)) (who_of a) steps s t) (first : Step) (rest : List Step) (all : steps ≡ first ∷ rest) (begins : first.kind ≡ entry.MoveStart to) (at : node_of first.before ≡ from) where
    goes : GoesBy o.sessions (who_of a) group steps old.journals new.journals
    goes = goes_by_steps o (who_of a) group s t old.journals new.journals there r.goes_on steps enters

    legal_all : (g : ℕ) → AllByRecursion (IsLegalStep c g (who_of a)) (in_group group steps g)
    legal_all = goes_legal o.sessions (who_of a) group steps None old.journals new.journals goes tt c (subst (IsLegal c group) (sym r.goes_on.is) r.legal)

    legal_first : CanFollow c first.before (who_of a) (entry.MoveStart to)
    legal_first =
        let its : AllByRecursion (IsLegalStep c group (who_of a)) steps = subst (AllByRecursion (IsLegalStep c group (who_of a))) (ap (λ b. cond b steps []) (eq-eqb group group refl)) (legal_all group) in
        let head = (subst (AllByRecursion (IsLegalStep c group (who_of a))) all its).0 in
        subst (CanFollow c first.before (who_of a)) begins head.1

    pub began : (ans : Answer) (gave node : ℕ) → a.answer ≡ ans → TakesAndGives (who_of a) (stores_moved c (Some group)) to gave node old.errands new.errands → gave ≤ stores_moved c (Some group) → (node ≡ to) ⊎ (node ≡ from) →
        ((p : Phase) → Moves c (in_deed p c (deed_in group steps None)) group from to ans) → IsAnsweredBeside rules run o a old new
    began ans gave node is notes few where_given its =
        let can = legal_first in
        by_steps rules run o a shard from to old new r.asked group r.of steps None first.before goes tt (ap (λ (v : List Step). first_seen v None) all)
        ans r.found.free is (sends_all c a shard from to group (stores_moved c (Some group)) gave node old.errands new.errands r.asked.bound r.of.is refl few where_given notes) r.found.were legal_all
        (λ p. subst (λ (x : Option Fault). MovesUnless x c (in_deed p c (deed_in group steps None)) group from to ans) (sym (none_refuses first.before can.0 at (λ e. can.2 (sym e ∙ sym at)))) (its p))

pub refused_is_answered : RefusedIsAnswered
refused_is_answered rules run o a shard from to group s t old new w r told notes is =
    let found = told.found in
    let grown = told.grown.is in
    let same : s.journal.opening ≡ found.journal.opening = sym (ap (λ (v : Seen). v.journal.opening) grown) in
    let last = found_last o (who_of a) group s t old.journals new.journals (there rules run o a shard from to group s t old new r) r.goes_on (λ v. RefusesStart w v to from) told in
    by_told rules run o a shard from to old new r.asked group r.of s t (λ v. RefusesStart w v to from) r.goes_on told
    (answer.Failed (fault_told false w)) r.found.free is
    (sends_all o.environment.catalog a shard from to group (stores_moved o.environment.catalog (Some group)) (stores_moved o.environment.catalog (Some group)) to old.errands new.errands r.asked.bound r.of.is refl (omega arith) (inl refl) notes)
    r.found.were
    (λ p look. refused rules run o a shard from to group s t old new r found (ap (λ (v : Seen). v.tables) grown) (subst (IsLegal o.environment.catalog group) (sym r.goes_on.is ∙ last) r.legal) (λ e. r.opened (same ∙ e)) p look w told.so)

-- what a move that was given up is answered
stops_by : {X : Type 0} (state : X → StoreState) (c : Contents) (p : Phase) (group from to : ℕ) (os : List Outline) (given back : List X) (steps : List Step) → AllByRecursion (λ (x : Outline). IsShardIn c group x.2) os → IsStopped from to steps →
    (w : MoveWhy) → EndsMove state os to w given back → Moves c (in_deed p c (deed_in group steps None)) group from to (answer.Failed (fault_told true w))
stops_by state c p group from to os given back steps shards is (why.Moving by) h = absurd h
stops_by state c p group from to os given back steps shards is (why.NotThere node) h = absurd h
stops_by state c p group from to os given back steps shards is (why.SameNode node) h = absurd h
stops_by state c p group from to os given back steps shards is (why.Worker failure) h = (
  enters_in p c group steps None (IsStopped from to) is,
  shard_among (IsShardIn c group) os failure.shard shards h.of_table,
  h.there,
  some_rose state failure given back h.broken,
)
stops_by state c p group from to os given back steps shards is why.Memory h = inr (enters_in p c group steps None (IsStopped from to) is)

pub given_up_is_answered : {X : Type 0} (state : X → StoreState) → GivenUpIsAnswered state
given_up_is_answered state rules run o a shard from to group back s t old new given e r up few notes is =
    let c = o.environment.catalog in
    let h = up.stopped in
    began rules run o a shard from to group s t old new r h.steps h.enters h.is.start _ h.is.all h.is.starts h.is.there
    (answer.Failed (fault_told true e.why)) back to is notes few (inl refl)
    (λ p. stops_by state c p group from to s.tables given e.stores.items h.steps r.tables.shards h.is e.why up.why)

pub moved_is_answered : MovedIsAnswered
moved_is_answered rules run o a shard from to group s t old new r reach m notes is =
    let c = o.environment.catalog in
    let steps = m.start ∷ m.rounds ++ m.cutover ∷ [] in
    let report : Report = record { copied = r.copied; caught = r.caught; last = r.last } in
    let over : m.start.before ≡ with_list s.journal m.start.before.entries =
    (subst (AllByRecursion (λ (v : Step). v.before ≡ with_list s.journal v.before.entries)) (sym m.enters.own) (steps_over (who_of a) s.journal m.enters.grown.more)).0 in
    let made : IsMove c group from to report steps = record {
      start = m.start;
      rounds = m.rounds;
      cutover = m.cutover;
      all = refl;
      starts = m.starts;
      there = m.there;
      catches = m.catches;
      ends = m.ends;
      settled = m.settled;
      copied = m.copied ∙ reach.tables.rows m.start.before.entries ∙ ap (rows_held c group) (sym over);
      caught = m.caught;
      last = m.last;
    } in
    began rules run o a shard from to group s t old new reach steps m.enters m.start (m.rounds ++ m.cutover ∷ []) refl m.starts m.there
    (move_answer (Ok r)) (stores_moved c (Some group)) from is notes (omega arith) (inr refl)
    (λ p. (report, refl, refl, enters_in p c group steps None (IsMove c group from to report) made))
