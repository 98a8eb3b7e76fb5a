-- A closed block is one phase of the log.
use Rattle.std.proofs.Common.{◌≡◌, ◌+◌, ◌<◌, ◌≤◌, inl, inr, ℕ, true, List, [], ◌∷◌, ◌++◌, length, filter, refl, sym, ◌∙◌, ap, subst, arith, Some, Option, append_assoc, length-append}
use Rattle.std.specs.Prelude.{nat_eq, not, ◌-◌}
use Rattle.std.specs.List.{AllByRecursion, sum_by}
use Rattle.std.proofs.lemmas.Bool.{eqb-true}
use Rattle.cq_value.proofs.Lists.{all_weaker, all_both, all_append}
use Rattle.cq_value.proofs.Truths.{two_ways}
use Rattle.cq_tree.specs.declared.statement.Statement.{Statement}
use Rattle.cq_tree.specs.declared.statement.Statement.TheVariants as statement
use Rattle.cq_catalog.specs.Contents.{Contents}
use Rattle.cq_answer.specs.declared.answered.Answered.{Answered}
use Rattle.cq_journal.specs.Records.{Journal}
use Rattle.cq_journal.specs.Stations.{node_of}
use Rattle.cq_planning.specs.Touched.{among}
use Rattle.cq_history.specs.Run.{Run, Rules, environment_from, Continues}
use Rattle.cq_history.specs.Phases.{who_of, beside_in, MayBeInBlock, AreComplete}
use Rattle.cq_history.specs.Journals.{journal_in}
use Rattle.cq_history.specs.Room.{stores_to, stores_from, IsRoom}
use Rattle.cq_history.specs.Deeds.{Phase}
use Rattle.cq_history.specs.Log.{Era, no_era, last_of, IsLaidOut, joined, AreServed, of_session, IsSession, phase_of, IsPhase}
use Rattle.cq_history.proofs.Later.{continues_same}
use Rattle.cq_history.proofs.Visiting.{laid_same}
use Rattle.cq_history.proofs.Eras.{eras_go_on}
use Rattle.cq_cell.specs.Lists.{NotIn, own, StartsWith}
use Rattle.cq_shared.specs.declared.errand.Errand.{Errand}
use Rattle.cq_shared.specs.Errands.{sent_by, tooks, gaves}
use Rattle.cq_shared.specs.Notes.{who_of as note_who}
use Rattle.cq_block_laws.specs.Serving.{Opening, Known, at_first, WereFree, Finds, MayFind, KeepsWithin, IsPhaseOf, AreAnswered}
use Rattle.cq_block_laws.specs.Closing.{Session, numbers_of, answers_of, IsOfSession, AreRising, AreApart, AreSessions, History, HasSeen, IsServed, IsClosed}
use Rattle.cq_block_laws.specs.Laws.{BlockIsPhase, BlockGoesOn}
use Rattle.cq_block_laws.proofs.Noted.{all_known, goes_on, entries_known, none_opened}
use Rattle.cq_block_laws.proofs.Ordered.{each_answer, all_of_sessions, in_script_order, are_next, are_known, block_keeps}
use Rattle.cq_block_laws.proofs.Rooms.{notes_for, HasOwner, IsAmong, no_more_taken, no_more_given}
use Rattle.cq_block_laws.proofs.Served.{starts_twice, still_there, all_within, all_owned, owned_in_all, same_notes, each_owned}

all_joined : (P : Answered → Type 0) (sessions : List Session) → AllByRecursion (λ (s : Session). AllByRecursion P s.answers) sessions → AllByRecursion P (answers_of sessions)
all_joined P [] all = tt
all_joined P (s ∷ more) all = all_append P s.answers (answers_of more) all.0 (all_joined P more all.1)

-- each answer is one of the block's
among_self : (xs : List Answered) → AllByRecursion (λ (a : Answered). IsAmong a xs) xs
among_self [] = tt
among_self (x ∷ xs) = (inl refl, all_weaker (λ (a : Answered). IsAmong a xs) (λ (a : Answered). IsAmong a (x ∷ xs)) (λ a i. inr i) xs (among_self xs))

among_left : (a : Answered) (xs ys : List Answered) → IsAmong a xs → IsAmong a (xs ++ ys)
among_left a [] ys i = absurd i
among_left a (x ∷ xs) ys (inl e) = inl e
among_left a (x ∷ xs) ys (inr i) = inr (among_left a xs ys i)

among_right : (a : Answered) (xs ys : List Answered) → IsAmong a ys → IsAmong a (xs ++ ys)
among_right a [] ys i = i
among_right a (x ∷ xs) ys i = inr (among_right a xs ys i)

all_in_block : (sessions : List Session) → AllByRecursion (λ (s : Session). AllByRecursion (λ (a : Answered). IsAmong a (answers_of sessions)) s.answers) sessions
all_in_block [] = tt
all_in_block (s ∷ more) = (
  all_weaker (λ (a : Answered). IsAmong a s.answers) (λ (a : Answered). IsAmong a (answers_of (s ∷ more))) (λ a i. among_left a s.answers (answers_of more) i) s.answers (among_self s.answers),
  all_weaker (λ (t : Session). AllByRecursion (λ (a : Answered). IsAmong a (answers_of more)) t.answers) (λ (t : Session). AllByRecursion (λ (a : Answered). IsAmong a (answers_of (s ∷ more))) t.answers)
      (λ t all. all_weaker (λ (a : Answered). IsAmong a (answers_of more)) (λ (a : Answered). IsAmong a (answers_of (s ∷ more))) (λ a i. among_right a s.answers (answers_of more) i) t.answers all) more (all_in_block more),
)

-- what holds of each session holds of its number
by_number : (P : ℕ → Type 0) (sessions : List Session) → AllByRecursion (λ (s : Session). P s.number) sessions → (n : ℕ) → among n (numbers_of sessions) ≡ true → P n
by_number P [] all n m = absurd (cc m)
by_number P (s ∷ more) all n m = elim (two_ways (nat_eq n s.number)) [
  | inl y ↦ subst P (sym (eqb-true n s.number y)) all.0
  | inr f ↦ by_number P more all.1 n (let h : among n (numbers_of more) ≡ true = rw f at m in h)
]

module _ (rules : Rules) (run : Run) (kept count : ℕ) (before : List Answered) (o : Opening) (h : History) (sessions : List Session) (new : List Journal) (laid : IsLaidOut run kept o.environment.catalog o.journals)
    (are : AreSessions (length before + 1) count o.environment.settings 1 sessions) (apart : AreApart (answers_of sessions)) (closed : IsClosed rules run o h sessions new) where
  abbrev block : List Answered
  block = answers_of sessions

  abbrev phase : Answered → Phase
  phase = phase_of (before ++ block) (numbers_of sessions) o.journals

  abbrev IsOf : ℕ → Answered → Type 0
  IsOf s a = IsOfSession (length before + 1) count o.environment.settings s a

  -- what is known of a session, beside its statements
  record Facts (s : Session) : Type 0 where
    of : AllByRecursion (IsOf s.number) s.answers
    rising : AreRising s.answers

  facts : (low : ℕ) (ss : List Session) → AreSessions (length before + 1) count o.environment.settings low ss → AllByRecursion Facts ss
  facts low [] all = tt
  facts low (s ∷ more) all = (record { of = all.1; rising = all.2 }, facts (s.number + 1) more all.3)

  of_number : (s : Session) → Facts s → AllByRecursion (λ (a : Answered). a.session ≡ s.number) s.answers
  of_number s f = all_weaker (IsOf s.number) (λ (a : Answered). a.session ≡ s.number) (λ a i. i.session) s.answers f.of

  -- ---- notes of the workers

  owned : (at : ℕ) → AllByRecursion (HasOwner block) (h.errands at)
  owned at =
      each_owned sessions (h.errands at)
      (all_both (IsServed rules run o h) Facts (λ (s : Session). AllByRecursion (λ n. sent_by n ≡ s.number → HasOwner s.answers n) (h.errands at))
      (λ s r f. owned_in_all s.number s.answers (h.errands at) (r.known.errands at) (r.workers at)
      (all_owned rules run o at s.number (at_first o) s.answers s.answers r.known (λ n has. has) (of_number s f) tt r.answered)) sessions closed.served (facts 1 sessions are))
      (all_known sent_by (numbers_of sessions) (h.errands at) (subst (λ (v : List ℕ). (n : ℕ) → NotIn n v → own sent_by n (h.errands at) ≡ []) closed.numbers (closed.workers at)))

  none_yet : (xs : List Answered) → AllByRecursion (λ (b : Answered). notes_for b [] ≡ []) xs
  none_yet [] = tt
  none_yet (x ∷ xs) = (refl, none_yet xs)

  abbrev Within : ℕ → Answered → Type 0
  Within at b = KeepsWithin o.environment.catalog (at + 1) b.bound (notes_for b (h.errands at))

  within : (at : ℕ) → AllByRecursion (Within at) block
  within at = all_joined (Within at) sessions (all_both (IsServed rules run o h) Facts (λ (s : Session). AllByRecursion (Within at) s.answers)
      (λ s r f. all_both (IsOf s.number) (λ (b : Answered). KeepsWithin o.environment.catalog (at + 1) b.bound (notes_for b (r.known.errands at))) (Within at)
      (λ b i k. subst (KeepsWithin o.environment.catalog (at + 1) b.bound) (same_notes b (h.errands at) (r.known.errands at) (subst (λ n. HasSeen sent_by n (h.errands at) (r.known.errands at)) (sym i.session) (r.workers at))) k) s.answers f.of
      (all_within rules run o at s.number (at_first o) s.answers r.known (of_number s f) f.rising (none_yet s.answers) r.answered)) sessions closed.served (facts 1 sessions are))

  of_phase : (a : Answered) (s : ℕ) → IsOf s a → AllByRecursion (λ (b : Answered). b.phase ≡ a.phase) block
  of_phase a s i = each_answer (length before + 1) count o.environment.settings (λ (b : Answered). b.phase ≡ a.phase) 1 sessions (λ t b l j. j.phase ∙ sym i.phase) are

  room : (a : Answered) (s at : ℕ) (notes : List Errand) (free : ℕ) → IsAmong a block → IsOf s a → StartsWith (h.errands at) notes → WereFree run o at notes (who_of a) free →
      IsRoom run o.environment.catalog o.environment.retired (λ g. node_of (journal_in o.journals g)) (beside_in (before ++ block) a) at free
  room a s at notes free there i begins w =
      let far = starts_twice (h.errands at) notes w.some begins w.begins in
      let t : tooks w.some ≤ gaves w.some + sum_by (stores_to o.environment.catalog (at + 1)) (beside_in (before ++ block) a) =
      no_more_taken o.environment.catalog (at + 1) a before block (h.errands at) w.some far (owned at) (within at) apart there (of_phase a s i) w.before in
      let g : gaves w.some ≤ tooks w.some + sum_by (stores_from o.environment.catalog (at + 1)) (beside_in (before ++ block) a) =
      no_more_given o.environment.catalog (at + 1) a before block (h.errands at) w.some far (owned at) (within at) apart there (of_phase a s i) w.before in
      let is = w.is in
      record { least = omega (arith, t, is); most = omega (arith, g, is) }

  may_find : (a : Answered) (s : ℕ) (errands : ℕ → List Errand) (free : ℕ) (bound : Option Statement) → IsAmong a block → IsOf s a → ((at : ℕ) → StartsWith (h.errands at) (errands at)) → Finds run o errands (who_of a) bound free →
      MayFind run o (phase a) bound free
  may_find a s errands free (Some (statement.Move shard from to)) there i begins w = room a s (to - 1) (errands (to - 1)) free there i (begins (to - 1)) w
  may_find a s errands free bound there i begins w = tt

  -- ---- sessions

  phase_is : (a : Answered) → IsPhaseOf o a.session (phase a)
  phase_is a = record { journals = refl; sessions = ap (filter (λ t. not (nat_eq t a.session))) (sym closed.numbers) }

  serves : (s : ℕ) (old : Known) (xs : List Answered) (end : Known) → AllByRecursion (IsOf s) xs → AllByRecursion (λ (a : Answered). IsAmong a block) xs → ((at : ℕ) → StartsWith (h.errands at) (end.errands at)) → AreAnswered rules run o old xs end →
      AreServed rules run o.environment phase old.journals xs end.journals
  serves s old [] end of there begins w = ap (λ (v : Known). v.journals) w
  serves s old (a ∷ more) end of there begins w =
      let known_by : (at : ℕ) → StartsWith (h.errands at) (w.0.errands at) = (λ at. starts_twice (h.errands at) (end.errands at) (w.0.errands at) (begins at) (still_there rules run o at w.0 more end w.2)) in
      let is = w.1.answered (phase a) (phase_is a) (may_find a s w.0.errands w.1.free a.bound there.0 of.0 known_by w.1.finds) in
      (w.0.journals, (is.deed, is.does, is.visits), serves s w.0 more end of.1 there.1 begins w.2)

  abbrev IsThere : ℕ → Type 0
  IsThere n = IsSession rules run o.environment phase block n o.journals new

  session : (s : Session) → IsServed rules run o h s → Facts s → AllByRecursion (λ (a : Answered). IsAmong a block) s.answers → of_session s.number block ≡ s.answers → IsThere s.number
  session s r f there mine = record {
    seen = r.known.journals;
    served = subst (λ (v : List Answered). AreServed rules run o.environment phase o.journals v r.known.journals) (sym mine) (serves s.number (at_first o) s.answers r.known f.of there (λ at. (r.workers at).begins) r.answered);
    count = r.journals.count ∙ sym closed.journals.count;
    goes_on = goes_on s.number o.journals r.known.journals new h.notes r.seen r.journals closed.journals r.groups;
  }

  all_sessions : AllByRecursion (λ (s : Session). IsThere s.number) sessions
  all_sessions =
      all_both (λ (s : Session). IsServed rules run o h s × Facts s) (λ (s : Session). AllByRecursion (λ (a : Answered). IsAmong a block) s.answers × (of_session s.number block ≡ s.answers)) (λ (s : Session). IsThere s.number)
      (λ s p q. session s p.0 p.1 q.0 q.1) sessions
      (all_both (IsServed rules run o h) Facts (λ (s : Session). IsServed rules run o h s × Facts s) (λ s r f. (r, f)) sessions closed.served (facts 1 sessions are))
      (all_both (λ (s : Session). AllByRecursion (λ (a : Answered). IsAmong a block) s.answers) (λ (s : Session). of_session s.number block ≡ s.answers)
      (λ (s : Session). AllByRecursion (λ (a : Answered). IsAmong a block) s.answers × (of_session s.number block ≡ s.answers)) (λ s i m. (i, m)) sessions (all_in_block sessions)
      (all_of_sessions (length before + 1) count o.environment.settings 1 sessions are))

  -- ---- the whole

  allowed : AllByRecursion (λ (a : Answered). MayBeInBlock a.bound) block
  allowed = each_answer (length before + 1) count o.environment.settings (λ (a : Answered). MayBeInBlock a.bound) 1 sessions (λ s a l i. i.allowed) are

  catalog_stays : (environment_from o.environment block).catalog ≡ o.environment.catalog
  catalog_stays = (block_keeps o.environment block allowed).0

  stays_laid : IsLaidOut run kept o.environment.catalog new
  stays_laid = laid_same run kept o.environment.catalog o.journals new closed.journals.count (λ g l. ap (λ (j : Journal). j.opening) (closed.journals.each g l)) laid

  is_phase : IsPhase rules run kept o.environment before block (numbers_of sessions) o.journals new
  is_phase = record {
    next = are_next (length before + 1) count o.environment.settings o.environment 1 (omega arith) sessions refl are;
    script = in_script_order (length before + 1) count o.environment.settings 1 (omega arith) sessions are apart;
    allowed = all_weaker (λ (a : Answered). MayBeInBlock a.bound) (λ (a : Answered). 1 ≤ a.session → MayBeInBlock a.bound) (λ a m l. m) block allowed;
    known = are_known (length before + 1) count o.environment.settings 1 sessions are;
    each = by_number IsThere sessions all_sessions;
    count = (let c = closed.journals.count in omega (arith, c));
    entries = entries_known (numbers_of sessions) o.journals new h.notes closed.journals (λ g. subst (λ (v : List ℕ). (n : ℕ) → NotIn n v → own note_who n (h.notes g) ≡ []) closed.numbers (closed.groups g));
    fresh = none_opened o.journals new closed.journals.count;
    on = subst (Continues o.environment.catalog) (sym catalog_stays) (continues_same o.environment.catalog);
    laid = subst (λ (c : Contents). IsLaidOut run kept c new) (sym catalog_stays) stays_laid;
  }

pub block_is_phase : BlockIsPhase
block_is_phase rules run kept count before o h sessions new laid are apart closed = is_phase rules run kept count before o h sessions new laid are apart closed

pub block_goes_on : BlockGoesOn
block_goes_on rules run eras answers o h sessions new c are apart closed =
    let all = joined eras ++ answers in
    let block = answers_of sessions in
    (eras_go_on rules run eras o.environment answers block (numbers_of sessions) o.journals new c
    (block_is_phase rules run (length (last_of no_era eras).journals) (length block) all o h sessions new c.present.log.laid are apart closed)).1
    (complete eras answers block c.present.complete
    (each_answer (length all + 1) (length block) o.environment.settings (λ (a : Answered). a.statement < (length all + 1) + length block) 1 sessions (λ s a l i. i.high) are))
  where
    complete : (es : List Era) (past bs : List Answered) → AreComplete (joined es ++ past) → AllByRecursion (λ (a : Answered). a.statement < (length (joined es ++ past) + 1) + length bs) bs → AreComplete (joined es ++ (past ++ bs))
    complete es past bs old high =
        let long : length ((joined es ++ past) ++ bs) ≡ length (joined es ++ past) + length bs = length-append (joined es ++ past) bs in
        subst AreComplete (append_assoc (joined es) past bs)
        (all_append (λ (a : Answered). a.statement ≤ length ((joined es ++ past) ++ bs)) (joined es ++ past) bs
        (all_weaker (λ (a : Answered). a.statement ≤ length (joined es ++ past)) (λ (a : Answered). a.statement ≤ length ((joined es ++ past) ++ bs)) (λ a l. omega (arith, l, long)) (joined es ++ past) old)
        (all_weaker (λ (a : Answered). a.statement < (length (joined es ++ past) + 1) + length bs) (λ (a : Answered). a.statement ≤ length ((joined es ++ past) ++ bs)) (λ a l. omega (arith, l, long)) bs high))
