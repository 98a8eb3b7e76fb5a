-- A query or a write over groups that sessions share: its parts are legal, and what it is answered where it isn't run, or is written as a COPY.
use Rattle.std.proofs.Common.{◌≡◌, inl, inr, ℕ, Bool, true, false, List, [], ◌∷◌, refl, sym, ◌∙◌, ap, subst, Some, None, Option, Result, Ok, Err}
use Rattle.std.specs.Prelude.{⊤, nat_eq, filter, option_map}
use Rattle.std.specs.List.{AllByRecursion}
use Rattle.std.proofs.lemmas.Bool.{eqb-true}
use Rattle.cq_value.proofs.Lists.{all_weaker}
use Rattle.cq_value.proofs.Truths.{two_ways}
use Rattle.cq_tree.specs.declared.failure.StoreFailure.{StoreFailure}
use Rattle.cq_tree.specs.declared.journal.EntryKind.TheVariants as entry
use Rattle.cq_tree.specs.declared.journal.Who.{Who}
use Rattle.cq_tree.specs.declared.query.Query.{Query}
use Rattle.cq_tree.specs.declared.statement.Statement.{Statement}
use Rattle.cq_tree.specs.declared.statement.Statement.TheVariants as statement
use Rattle.cq_tree.specs.declared.unsupported.Unsupported.{Unsupported}
use Rattle.cq_tree.specs.declared.write.Reply.{Reply}
use Rattle.cq_tree.specs.declared.write.Reply.TheVariants.{Count, Duplicate, OutOfRange}
use Rattle.cq_tree.specs.declared.write.ShardOp.{ShardOp}
use Rattle.cq_tree.specs.declared.write.ShardOp.TheVariants.{Insert, Update, Remove}
use Rattle.cq_meaning.specs.Values.{Row, column}
use Rattle.cq_meaning.specs.Effects.{table_of}
use Rattle.cq_catalog.specs.Contents.{Contents}
use Rattle.cq_catalog.specs.Placement.{place_at, colocation_at, HasShard, group_of}
use Rattle.cq_catalog.specs.declared.info.Colocation.{Colocation}
use Rattle.cq_catalog.specs.declared.info.Place.{Place}
use Rattle.cq_catalog.specs.declared.info.Place.TheVariants.{Local, Distributed, Reference}
use Rattle.cq_journal.specs.Fitting.{Fits}
use Rattle.cq_journal.specs.Records.{Journal}
use Rattle.cq_planning.specs.Database.{shape_in, IsOfGroup}
use Rattle.cq_planning.specs.Parts.{rows_in, part}
use Rattle.cq_planning.specs.Refusals.{refusal_of}
use Rattle.cq_planning.specs.Touched.{among, touched}
use Rattle.cq_answer.specs.declared.answer.Answer.{Answer}
use Rattle.cq_answer.specs.declared.answer.Answer.TheVariants as answer
use Rattle.cq_answer.specs.declared.answer.Tag.{Tag}
use Rattle.cq_answer.specs.declared.answer.Tag.TheVariants as tag
use Rattle.cq_answer.specs.declared.answered.Settings.{Settings}
use Rattle.cq_answer.specs.declared.fault.Fault.{Fault}
use Rattle.cq_answer.specs.declared.fault.Fault.TheVariants as fault
use Rattle.cq_history.specs.Run.{Run, Rules, Environment, after}
use Rattle.cq_history.specs.Journals.{none}
use Rattle.cq_history.specs.Computable.{IsWritable}
use Rattle.cq_history.specs.Deeds.{Phase, in_deed}
use Rattle.cq_history.specs.Faults.{IsOfReading}
use Rattle.cq_history.specs.Laws.{IsFitting, idle}
use Rattle.cq_history.specs.Legality.{IsKeyed, IsLegalKind}
use Rattle.cq_history.specs.Log.{IsAnsweredIn}
use Rattle.cq_history.specs.Refusals.{rules, refusal_in}
use Rattle.cq_history.specs.Standing.{View, RunsUnless, StandsIn, IsTagOf, copied, tag_of}
use Rattle.cq_history.proofs.Later.{continues_same}
use Rattle.cq_history.proofs.Script.{grows_none}
use Rattle.cq_history.proofs.Visiting.{grows_visits}
use Rattle.cq_reach.specs.Outlook.{Outlook}
use Rattle.cq_reach.specs.Seen.{journals_in}
use Rattle.cq_reach.specs.declared.error.WriteError.{WriteError}
use Rattle.cq_reach.specs.declared.error.WriteError.TheVariants.{Ids, Worker, Memory}
use Rattle.cq_groups.specs.Answers.{answer_by}
use Rattle.cq_groups.specs.Found.{MayComeIn}
use Rattle.cq_groups.specs.Looking.{environment_at}
use Rattle.cq_groups.specs.Served.{Names, IsAnsweredBy}
use Rattle.cq_groups.proofs.Judging.{is_writing}
use Rattle.cq_cluster.specs.Accounts.{tells_retired}
use Rattle.cq_coordinator.specs.Coordination.{IsNoCopy}
use Rattle.cq_coordinator.proofs.Tags.{query_no_copy}
use Rattle.cq_session.specs.Responses.{tagged}
use Rattle.cq_session.specs.Shared.{CanRun, CanServe, IsAnsweredOver}

-- a statement that planning supports isn't refused
pub runs_by : (c : Contents) (settings : Settings) (s t : Statement) → s ≡ t → refusal_of settings.repartition c s ≡ None → refusal_in (environment_at c settings []) t ≡ None
runs_by c settings s t same none = subst (λ (v : Statement). refusal_in (environment_at c settings []) v ≡ None) same (ap (option_map (λ why. fault.Unsupported why)) none)

-- ---- the parts of a write are legal in their groups

passed : (P : Row → Type 0) (p : Row → Bool) (rows : List Row) → AllByRecursion P rows → AllByRecursion (λ row. (p row ≡ true) × P row) (filter p rows)
passed P p [] h = tt
passed P p (row ∷ rows) h = elim (two_ways (p row)) [ inl y ↦ rw y ((y, h.0), passed P p rows h.1) | inr n ↦ rw n (passed P p rows h.1) ]

rows_at_home : (c : Contents) (table g : ℕ) (o : Option Colocation) (p : Place) (rows : List Row) → HasShard o p g → AllByRecursion (Fits (shape_in c table)) rows →
    AllByRecursion (λ (row : Row). IsOfGroup c g table p row × Fits (shape_in c table) row) (rows_in c table p g rows)
rows_at_home c table g o Local rows has fits = absurd has
rows_at_home c table g o (Reference own shard) rows has fits = all_weaker (Fits (shape_in c table)) (λ (row : Row). ⊤ × Fits (shape_in c table) row) (λ row h. (tt, h)) rows fits
rows_at_home c table g o (Distributed at colocation first_shard) rows has fits =
    all_weaker (λ (row : Row). (nat_eq (group_of c table (column row at)) g ≡ true) × Fits (shape_in c table) row) (λ (row : Row). (group_of c table (column row at) ≡ g) × Fits (shape_in c table) row)
    (λ row h. (eqb-true (group_of c table (column row at)) g h.0, h.1)) (rows_in c table (Distributed at colocation first_shard) g rows)
    (passed (Fits (shape_in c table)) (λ (row : Row). nat_eq (group_of c table (column row at)) g) rows fits)

part_is_legal : (c : Contents) (op : ShardOp) (g : ℕ) (r : Reply) → IsFitting c op → HasShard (colocation_at c (table_of op)) (place_at c (table_of op)) g → IsLegalKind c g (entry.Write (part c op g) r)
part_is_legal c (Insert table rows) g r fits has = (has, rows_at_home c table g (colocation_at c table) (place_at c table) rows has fits)
part_is_legal c (Update table f sets) g r fits has = (has, fits)
part_is_legal c (Remove table f) g r fits has = (has, tt)

pub parts_are_legal : (e : Environment) (op : ShardOp) → refusal_in e (statement.Write op) ≡ None → IsKeyed e.catalog (table_of op) → IsWritable e.catalog op →
    (g : ℕ) → among g (touched e.catalog (statement.Write op)) ≡ true → (r : Reply) → IsLegalKind e.catalog g (entry.Write (part e.catalog op g) r)
parts_are_legal e op runs keyed can g m r = let w = is_writing e op runs keyed can in part_is_legal e.catalog op g r w.fitting (w.touched.own g m)

-- ---- what is answered without an entry

module _ (by : Rules) (run : Run) (e : Environment) (p : Phase) (who : Who) (journals : List Journal) where
  idle_in : (bound : Option Statement) (a : Answer) → StandsIn by run e (in_deed p e.catalog idle) bound a → after e bound a ≡ e → IsAnsweredIn by run e e p who journals journals bound a
  idle_in bound a stands same = record {
    deed = idle;
    does = record { stands = stands; legal = λ g. tt };
    visits = grows_visits p who (λ g. None) none journals journals (λ g j l. cc l) (grows_none who journals);
    leads = same;
    on = continues_same e.catalog;
    laid = λ kept laid. laid;
  }

  -- a text that isn't bound
  pub unread_in : (f : Fault) → IsOfReading f → IsAnsweredIn by run e e p who journals journals None (answer.Failed f)
  unread_in f reading = idle_in None (answer.Failed f) (λ g. refl, f, refl, reading) refl

  memory_stays : (s : Statement) (o : Option Fault) → CanRun e.catalog s → RunsUnless o (by.touched e.catalog s) run e (in_deed p e.catalog idle) s (answer.Failed fault.Memory)
  memory_stays s (Some f) can = (λ g. refl, tt)
  memory_stays (statement.Select q) None can = ([], λ g m. cc, λ g. refl)
  memory_stays (statement.Write op) None can = λ g. refl
  memory_stays s None can = absurd can

  leaves : (s : Statement) (f : Fault) → CanRun e.catalog s → after e (Some s) (answer.Failed f) ≡ e
  leaves (statement.Select q) f can = refl
  leaves (statement.Write op) f can = refl
  leaves s f can = absurd can

  -- a statement for which memory is wanting before it runs
  pub no_memory_in : (s : Statement) → CanRun e.catalog s → IsAnsweredIn by run e e p who journals journals (Some s) (answer.Failed fault.Memory)
  no_memory_in s can = idle_in (Some s) (answer.Failed fault.Memory) (memory_stays s (by.refusal e s) can) (leaves s fault.Memory can)

  -- and one that planning doesn't support
  pub unsupported_in : (s : Statement) (why : Unsupported) → CanRun e.catalog s → by.refusal e s ≡ Some (fault.Unsupported why) → IsAnsweredIn by run e e p who journals journals (Some s) (answer.Failed (fault.Unsupported why))
  unsupported_in s why can is =
      idle_in (Some s) (answer.Failed (fault.Unsupported why))
      (subst (λ (o : Option Fault). RunsUnless o (by.touched e.catalog s) run e (in_deed p e.catalog idle) s (answer.Failed (fault.Unsupported why))) (sym is) (λ g. refl, refl)) (leaves s (fault.Unsupported why) can)

-- ---- an answer that is written as a COPY's

copied_twice : (t : Tag) → copied (copied t) ≡ copied t
copied_twice tag.CreateTable = refl
copied_twice (tag.Insert n) = refl
copied_twice (tag.Update n) = refl
copied_twice (tag.Delete n) = refl
copied_twice (tag.Copy n) = refl
copied_twice tag.Setting = refl

tag_of_copy : (op : ShardOp) (n : ℕ) (t : Tag) → IsTagOf op n t → IsTagOf op n (copied t)
tag_of_copy op n t (inl h) = inr (ap copied h)
tag_of_copy op n t (inr h) = inr (ap copied h ∙ copied_twice (tag_of op n))

module _ (touched : List ℕ) (run : Run) (e : Environment) (v : View) where
  select_copied : (o : Option Fault) (q : Query) (a : Answer) → RunsUnless o touched run e v (statement.Select q) a → RunsUnless o touched run e v (statement.Select q) (tagged true a)
  select_copied (Some f) q (answer.Tag t) h = absurd (let bad = h.1 in cc)
  select_copied None q (answer.Tag t) h = absurd h
  select_copied o q (answer.Table names rows) h = h
  select_copied o q (answer.Failed g) h = h

  write_copied : (o : Option Fault) (op : ShardOp) (a : Answer) → RunsUnless o touched run e v (statement.Write op) a → RunsUnless o touched run e v (statement.Write op) (tagged true a)
  write_copied (Some f) op (answer.Tag t) h = absurd (let bad = h.1 in cc)
  write_copied None op (answer.Tag t) h = (h.0, tag_of_copy op h.0 t h.1, h.2)
  write_copied o op (answer.Table names rows) h = h
  write_copied o op (answer.Failed g) h = h

  runs_copied : (c : Contents) (o : Option Fault) (s : Statement) (a : Answer) → CanRun c s → RunsUnless o touched run e v s a → RunsUnless o touched run e v s (tagged true a)
  runs_copied c o (statement.Select q) a can h = select_copied o q a h
  runs_copied c o (statement.Write op) a can h = write_copied o op a h
  runs_copied c o s a can h = absurd can

after_copied : (c : Contents) (e : Environment) (s : Statement) (a : Answer) → CanRun c s → after e (Some s) (tagged true a) ≡ after e (Some s) a
after_copied c e (statement.Select q) (answer.Tag t) can = refl
after_copied c e (statement.Write op) (answer.Tag t) can = refl
after_copied c e s (answer.Tag t) can = absurd can
after_copied c e s (answer.Table names rows) can = refl
after_copied c e s (answer.Failed f) can = refl

tagged_in : (c : Contents) (by : Rules) (run : Run) (e next : Environment) (p : Phase) (who : Who) (old new : List Journal) (s : Statement) (is_copy : Bool) (a : Answer) → CanRun c s → IsAnsweredIn by run e next p who old new (Some s) a →
    IsAnsweredIn by run e next p who old new (Some s) (tagged is_copy a)
tagged_in c by run e next p who old new s false a can h = h
tagged_in c by run e next p who old new s true a can h = record {
  deed = h.deed;
  does = record {
    stands = runs_copied (by.touched e.catalog s) run e (in_deed p e.catalog h.deed) c (by.refusal e s) s a can h.does.stands;
    legal = h.does.legal;
  };
  visits = h.visits;
  leads = after_copied c e s a can ∙ h.leads;
  on = h.on;
  laid = h.laid;
}

pub tagged_over : (c : Contents) (nodes : ℕ) (settings : Settings) (who : Who) (old new : Outlook) (s : Statement) (is_copy : Bool) (a : Answer) → CanRun c s → IsAnsweredOver c nodes settings who old new (Some s) a →
    IsAnsweredOver c nodes settings who old new (Some s) (tagged is_copy a)
tagged_over c nodes settings who old new s is_copy a can h = λ p may run retired workers.
    tagged_in c rules run (environment_at c settings retired) (environment_at c settings retired) p who (journals_in old.known) (journals_in new.known) s is_copy a can (h p may run retired workers)

-- it names the stores that it named, and is of no store that was retired if it was
pub names_tagged : (is_copy : Bool) (a : Answer) (f : StoreFailure) → Names (tagged is_copy a) f → Names a f
names_tagged false a f is = is
names_tagged true (answer.Tag t) f is = absurd (cc is)
names_tagged true (answer.Table names rows) f is = absurd (cc is)
names_tagged true (answer.Failed g) f is = is

pub retired_tagged : (is_copy : Bool) (a : Answer) → tells_retired (tagged is_copy a) ≡ tells_retired a
retired_tagged false a = refl
retired_tagged true (answer.Tag t) = refl
retired_tagged true (answer.Table names rows) = refl
retired_tagged true (answer.Failed f) = refl

-- ---- what a query or a write is answered tells of no retired store, and is no COPY's

query_tells_none : (o : Option Fault) (touched : List ℕ) (run : Run) (e : Environment) (v : View) (q : Query) (a : Answer) → o ≡ None → RunsUnless o touched run e v (statement.Select q) a → tells_retired a ≡ false
query_tells_none (Some f) touched run e v q a runs h = absurd (cc runs)
query_tells_none None touched run e v q (answer.Failed (fault.Retired failure)) runs h = absurd h
query_tells_none None touched run e v q (answer.Failed f) runs h = refl
query_tells_none None touched run e v q (answer.Tag t) runs h = refl
query_tells_none None touched run e v q (answer.Table names rows) runs h = refl

module _ (c : Contents) (nodes : ℕ) (settings : Settings) (who : Who) (old new : Outlook) (serve : CanServe c nodes who old) (q : Query) (a : Answer) (runs : refusal_in (environment_at c settings []) (statement.Select q) ≡ None)
    (answered : (p : Phase) → MayComeIn p who old.comes → IsAnsweredBy c nodes p who (statement.Select q) a old.known new.known) where
  abbrev some_run : Run
  some_run = record { workers = nodes; stores = λ at. 0; settings = settings }

  pub query_is_no_copy : IsNoCopy a
  query_is_no_copy = query_no_copy _ _ _ _ _ q a (answered serve.phase serve.beside some_run settings [] refl runs).does.stands

  pub query_retires_none : tells_retired a ≡ false
  query_retires_none = query_tells_none _ _ _ _ _ q a runs (answered serve.phase serve.beside some_run settings [] refl runs).does.stands

counts_retire_none : (op : ShardOp) (n : ℕ) → tells_retired (answer_by op (Ok (Count n))) ≡ false
counts_retire_none (Insert table rows) n = refl
counts_retire_none (Update table filter_ sets) n = refl
counts_retire_none (Remove table filter_) n = refl

pub write_tells_none : (op : ShardOp) (o : Result Reply WriteError) → tells_retired (answer_by op o) ≡ false
write_tells_none op (Ok (Count n)) = counts_retire_none op n
write_tells_none op (Ok Duplicate) = refl
write_tells_none op (Ok OutOfRange) = refl
write_tells_none op (Err Ids) = refl
write_tells_none op (Err (Worker failure)) = refl
write_tells_none op (Err Memory) = refl
