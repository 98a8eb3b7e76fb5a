-- Why a statement that was read is not done, where no store fails.
use Rattle.std.specs.Prelude.{◌≡◌, ◌⊎◌, ◌<◌, ◌-◌, ⊤, ℕ, List, Option, Some, None}
use Rattle.std.specs.List.{AllByRecursion}
use Rattle.cq_tree.specs.declared.journal.Who.{Who}
use Rattle.cq_tree.specs.declared.statement.Statement.{Statement}
use Rattle.cq_tree.specs.declared.statement.Statement.TheVariants as statement
use Rattle.cq_tree.specs.declared.write.Reply.TheVariants.{Duplicate, OutOfRange}
use Rattle.cq_catalog.specs.Contents.{Contents}
use Rattle.cq_catalog.specs.Placement.{group_of_shard}
use Rattle.cq_journal.specs.Records.{Journal}
use Rattle.cq_journal.specs.Stations.{node_of, moving_of}
use Rattle.cq_planning.specs.Touched.{touched}
use Rattle.cq_answer.specs.declared.answer.Answer.{Answer}
use Rattle.cq_answer.specs.declared.answer.Answer.TheVariants as answer
use Rattle.cq_answer.specs.declared.answered.Answered.{Answered}
use Rattle.cq_answer.specs.declared.fault.What.TheVariants as what
use Rattle.cq_answer.specs.declared.fault.Fault.{Fault}
use Rattle.cq_answer.specs.declared.fault.Fault.TheVariants as fault
use Rattle.cq_history.specs.Log.{Era, joined}
use Rattle.cq_history.specs.Moves.{start_fault}
use Rattle.cq_history.specs.Phases.{who_of, phase_in, environment_at, beside_in}
use Rattle.cq_history.specs.Refusals.{refusal_in}
use Rattle.cq_history.specs.Room.{IsRoom}
use Rattle.cq_history.specs.Run.{Run, Environment}
use Rattle.cq_history.specs.Standing.{View, in_journals, SeesNodes, HasLargeGroup, reply_in, LacksIdsIn, IsCutOff, creation_fault, distribution_fault, reference_fault}

-- a move of a group doesn't begin, by the spare stores, the node of the group and its mover as the statement found them
pub record IsHeldUp (run : Run) (c : Contents) (retired : List ℕ) (v : View) (group from to : ℕ) (f : Fault) : Type 0 where
  pub nodes : ℕ → ℕ
  pub free : ℕ
  pub node : ℕ
  pub mover : Option Who
  pub began : (g : ℕ) → g < c.groups → v.began g (λ j. nodes g ≡ node_of j)
  pub room : IsRoom run c retired nodes v.beside (to - 1) free
  pub saw : v.saw group (λ j. (node ≡ node_of j) × (mover ≡ moving_of j))
  pub why : start_fault run c free mover node group from to ≡ Some f

-- that of a shard: there is no such shard, or its group's doesn't begin
abbrev pub StopsMove : Run → Environment → View → ℕ → ℕ → ℕ → Option ℕ → Fault → Type 0
StopsMove run e v shard from to None f = f ≡ fault.NoShard shard
StopsMove run e v shard from to (Some group) f = IsHeldUp run e.catalog e.retired v group from to f

-- what may be in the way of a statement that planning takes: the catalogue, or want of stores, for a definition; a group of a query that is too large;
-- a reply of a write over the undistributed database, or want of ids; what keeps a move from its beginning; and want of stores for a planned one
abbrev pub Hinders : Run → Environment → View → Statement → Fault → Type 0
Hinders run e v (statement.CreateTable name columns key) f = creation_fault e name columns ≡ Some f
Hinders run e v (statement.Distribute table column count beside) f =
    (nodes : ℕ → ℕ) × SeesNodes e.catalog v nodes × (distribution_fault run e.catalog e.retired nodes e.settings.shard_count table column count beside ≡ Some f)
Hinders run e v (statement.Reference table) f = (nodes : ℕ → ℕ) × SeesNodes e.catalog v nodes × (reference_fault run e.catalog e.retired nodes table ≡ Some f)
Hinders run e v (statement.Select q) (fault.Limit what.Rows n) = v.within (touched e.catalog (statement.Select q)) (HasLargeGroup q)
Hinders run e v (statement.Write op) fault.Duplicate = v.wherever (λ db. reply_in e.catalog op db ≡ Duplicate)
Hinders run e v (statement.Write op) fault.ValueOutOfRange = v.wherever (λ db. reply_in e.catalog op db ≡ OutOfRange)
Hinders run e v (statement.Write op) (fault.Limit what.Ids n) = LacksIdsIn e.catalog (touched e.catalog (statement.Write op)) v op
Hinders run e v (statement.Move shard from to) f = StopsMove run e v shard from to (group_of_shard e.catalog shard) f
Hinders run e v (statement.Rebalance by_size) (fault.NoRoom node free needed) = IsCutOff by_size run e.catalog e.retired v (fault.NoRoom node free needed)
Hinders run e v s f = ⊥

-- a statement is refused for its cause: planning refuses it so, or takes it, and this is in its way
abbrev pub HasCause : Option Fault → Run → Environment → View → Statement → Fault → Type 0
HasCause (Some why) run e v s f = f ≡ why
HasCause None run e v s f = Hinders run e v s f

-- a statement that was read is done, or memory was wanting, or it is refused for its cause
abbrev pub IsDoneUnlessRefused : Run → Environment → View → Option Statement → Answer → Type 0
IsDoneUnlessRefused run e v (Some s) (answer.Failed f) = (f ≡ fault.Memory) ⊎ HasCause (refusal_in e s) run e v s f
IsDoneUnlessRefused run e v bound a = ⊤

-- over the journals of its era, in the environment that the phases before its own leave
abbrev pub IsDoneAmong : Run → List Answered → List Journal → Answered → Type 0
IsDoneAmong run answers journals a =
    let e = environment_at run answers a.phase in
    IsDoneUnlessRefused run e (in_journals (phase_in answers) (beside_in answers a) e.catalog journals (who_of a)) a.bound a.answer

-- so is each statement of these eras
abbrev pub AreDoneUnlessRefused : Run → List Era → Type 0
AreDoneUnlessRefused run eras = AllByRecursion (λ (era : Era). AllByRecursion (IsDoneAmong run (joined eras) era.journals) era.answers) eras
