-- In a closed block moves alone retire stores.
use Rattle.std.proofs.Common.{◌≡◌, ℕ, true, false, List, [], ◌∷◌, refl, sym, ◌∙◌, subst, Some, None, Option}
use Rattle.std.specs.Prelude.{⊤, Bool, filter, nat_eq, not, option_map}
use Rattle.std.specs.List.{AllByRecursion}
use Rattle.cq_value.proofs.Lists.{all_append, all_left, all_right}
use Rattle.cq_tree.specs.declared.statement.Statement.{Statement}
use Rattle.cq_tree.specs.declared.statement.Statement.TheVariants as statement
use Rattle.cq_answer.specs.declared.answer.Answer.{Answer}
use Rattle.cq_answer.specs.declared.answer.Answer.TheVariants as answer
use Rattle.cq_answer.specs.declared.answered.Answered.{Answered}
use Rattle.cq_answer.specs.declared.fault.Fault.{Fault}
use Rattle.cq_answer.specs.declared.fault.Fault.TheVariants as fault
use Rattle.cq_planning.specs.Refusals.{refusal_of}
use Rattle.cq_tree.specs.declared.unsupported.Unsupported.{Unsupported}
use Rattle.cq_history.specs.Deeds.{Phase, in_deed}
use Rattle.cq_history.specs.Faults.{IsOfReading}
use Rattle.cq_history.specs.Refusals.{rules}
use Rattle.cq_history.specs.Phases.{MayBeInBlock}
use Rattle.cq_history.specs.Run.{Environment, Run}
use Rattle.cq_history.specs.Standing.{Runs, RunsUnless, StandsIn, View, Yields}
use Rattle.cq_cluster.specs.Accounts.{tells_retired}
use Rattle.cq_block_laws.specs.Closing.{Session, History, answers_of, IsServed}
use Rattle.cq_block_laws.specs.Serving.{Known, MayFind, Opening, IsAnsweredBeside, AreAnswered, at_first}
use Rattle.cq_block_accounts.specs.Accounts.{IsMove, MayRetire}
use Rattle.cq_block_accounts.specs.Cluster.{ClosedMayRetire}

-- a query or a write
abbrev IsPlain : Option Statement → Type 0
IsPlain None = ⊤
IsPlain (Some (statement.Select q)) = ⊤
IsPlain (Some (statement.Write op)) = ⊤
IsPlain bound = ⊥

-- ---- answers

retired_same : (failure : _) (f : Fault) → answer.Failed (fault.Retired failure) ≡ answer.Failed f → f ≡ fault.Retired failure
retired_same failure f e = cc

-- the faults of reading and of planning tell of no store
reading : (a : Answer) (f : Fault) → a ≡ answer.Failed f → IsOfReading f → tells_retired a ≡ false
reading (answer.Failed (fault.Retired failure)) f e is = absurd (let bad : false ≡ true = subst IsOfReading (retired_same failure f e) is in cc bad)
reading (answer.Failed g) f e is = refl
reading (answer.Tag t) f e is = refl
reading (answer.Table names values) f e is = refl

refused : (why : Unsupported) (a : Answer) → Yields (Some (fault.Unsupported why)) (λ b. ⊥) a → tells_retired a ≡ false
refused why (answer.Failed (fault.Retired failure)) h = absurd (cc h)
refused why (answer.Failed f) h = refl
refused why (answer.Tag t) h = refl
refused why (answer.Table names values) h = refl

module _ (touched : List ℕ) (run : Run) (e : Environment) (v : View) where
  ran : (s : Statement) (a : Answer) → IsPlain (Some s) → Runs touched run e v s a → tells_retired a ≡ false
  ran (statement.Select q) (answer.Failed (fault.Retired failure)) plain h = absurd h
  ran (statement.Select q) (answer.Failed f) plain h = refl
  ran (statement.Select q) (answer.Tag t) plain h = refl
  ran (statement.Select q) (answer.Table names values) plain h = refl
  ran (statement.Write op) (answer.Failed (fault.Retired failure)) plain h = absurd h
  ran (statement.Write op) (answer.Failed f) plain h = refl
  ran (statement.Write op) (answer.Tag t) plain h = refl
  ran (statement.Write op) (answer.Table names values) plain h = refl
  ran s a plain h = absurd plain

  ran_unless : (why : Option Unsupported) (s : Statement) (a : Answer) → IsPlain (Some s) → RunsUnless (option_map (λ w. fault.Unsupported w) why) touched run e v s a → tells_retired a ≡ false
  ran_unless (Some why) s a plain h = refused why a h.1
  ran_unless None s a plain h = ran s a plain h

retires_none : (run : Run) (e : Environment) (v : View) (bound : Option Statement) (a : Answer) → IsPlain bound → StandsIn rules run e v bound a → tells_retired a ≡ false
retires_none run e v None a plain h = reading a h.1 h.2 h.3
retires_none run e v (Some s) a plain h = ran_unless (rules.touched e.catalog s) run e v (refusal_of e.settings.repartition e.catalog s) s a plain h

-- ---- a block

may_find : (run : Run) (o : Opening) (p : Phase) (bound : Option Statement) (free : ℕ) → IsPlain bound → MayFind run o p bound free
may_find run o p None free plain = tt
may_find run o p (Some (statement.Select q)) free plain = tt
may_find run o p (Some (statement.Write op)) free plain = tt
may_find run o p (Some s) free plain = absurd plain

not_both : (b : Bool) → b ≡ false → b ≡ true → ⊥
not_both b off on = let bad : false ≡ true = sym off ∙ on in cc bad

is_move : (bound : Option Statement) (a : Answer) → MayBeInBlock bound → (IsPlain bound → tells_retired a ≡ false) → tells_retired a ≡ true → IsMove bound
is_move None a may none tells = absurd (not_both (tells_retired a) (none tt) tells)
is_move (Some (statement.Select q)) a may none tells = absurd (not_both (tells_retired a) (none tt) tells)
is_move (Some (statement.Write op)) a may none tells = absurd (not_both (tells_retired a) (none tt) tells)
is_move (Some (statement.Move shard from to)) a may none tells = tt
is_move (Some s) a may none tells = absurd may

module _ (run : Run) (o : Opening) where
  answered_may : (a : Answered) (old new : Known) → IsAnsweredBeside rules run o a old new → MayBeInBlock a.bound → MayRetire a
  answered_may a old new beside may = record {
    allowed = may;
    moves = λ tells. is_move a.bound a.answer may (λ plain.
        let p : Phase = record { journals = o.journals; beside = []; sessions = filter (λ t. not (nat_eq t a.session)) o.sessions } in
        let answered = beside.answered p (record { journals = refl; sessions = refl }) (may_find run o p a.bound beside.free plain) in
        retires_none run o.environment (in_deed p o.environment.catalog answered.deed) a.bound a.answer plain answered.does.stands) tells;
  }

  all_may : (old : Known) (answers : List Answered) (new : Known) → AreAnswered rules run o old answers new → AllByRecursion (λ (a : Answered). MayBeInBlock a.bound) answers → AllByRecursion MayRetire answers
  all_may old [] new h may = tt
  all_may old (a ∷ more) new h may = (answered_may a old h.0 h.1 may.0, all_may h.0 more new h.2 may.1)

  sessions_may : (h : History) (sessions : List Session) → AllByRecursion (IsServed rules run o h) sessions → AllByRecursion (λ (a : Answered). MayBeInBlock a.bound) (answers_of sessions) → AllByRecursion MayRetire (answers_of sessions)
  sessions_may h [] served may = tt
  sessions_may h (s ∷ sessions) served may =
      let own = all_left (λ (a : Answered). MayBeInBlock a.bound) s.answers (answers_of sessions) may in
      let rest = all_right (λ (a : Answered). MayBeInBlock a.bound) s.answers (answers_of sessions) may in
      all_append MayRetire s.answers (answers_of sessions) (all_may (at_first o) s.answers served.0.known served.0.answered own) (sessions_may h sessions served.1 rest)

pub closed_may_retire : ClosedMayRetire
closed_may_retire run o h sessions new closed may = sessions_may run o h sessions closed.served may
