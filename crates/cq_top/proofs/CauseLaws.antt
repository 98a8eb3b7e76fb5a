-- An answer that stands and names no store is done, or has its cause.
use Rattle.std.proofs.Common.{◌≡◌, ◌⊎◌, inl, inr, ℕ, List, ◌∷◌, [], Bool, refl, sym, ◌∙◌, subst, Some, None, Option}
use Rattle.std.specs.Prelude.{codes}
use Rattle.std.specs.List.{AllByRecursion}
use Rattle.cq_value.proofs.Lists.{all_both, all_left, all_right}
use Rattle.cq_tree.specs.declared.statement.Statement.{Statement}
use Rattle.cq_tree.specs.declared.statement.Statement.TheVariants as statement
use Rattle.cq_tree.specs.declared.write.ShardOp.{ShardOp}
use Rattle.cq_tree.specs.declared.query.Query.{Query}
use Rattle.cq_catalog.specs.Placement.{group_of_shard}
use Rattle.cq_planning.specs.Touched.{touched}
use Rattle.cq_answer.specs.declared.answer.Answer.{Answer}
use Rattle.cq_answer.specs.declared.answer.Answer.TheVariants as answer
use Rattle.cq_answer.specs.declared.answer.Tag.TheVariants as tag
use Rattle.cq_answer.specs.declared.answered.Answered.{Answered}
use Rattle.cq_answer.specs.declared.fault.What.TheVariants as what
use Rattle.cq_answer.specs.declared.fault.Fault.{Fault}
use Rattle.cq_answer.specs.declared.fault.Fault.TheVariants as fault
use Rattle.cq_history.specs.Faults.{NamesNoStore}
use Rattle.cq_history.specs.Log.{Era, joined, ErasStand, StandsAmong}
use Rattle.cq_history.specs.Moves.{start_fault}
use Rattle.cq_history.specs.Phases.{who_of, phase_in, environment_at, beside_in}
use Rattle.cq_history.specs.Refusals.{refusal_in, rules}
use Rattle.cq_history.specs.Run.{Run, Environment}
use Rattle.cq_history.specs.Standing.{View, in_journals, IsNotice, IsMovedIn, IsMoved, Moves, MovesUnless, Plans, Rebalances, IsCutOff, Runs, RunsUnless, StandsIn, Yields, creation_fault, distribution_fault, reference_fault}
use Rattle.cq_cluster.specs.Steady.{NamesNode}
use Rattle.cq_top.specs.Causes.{IsHeldUp, StopsMove, Hinders, HasCause, IsDoneUnlessRefused, IsDoneAmong, AreDoneUnlessRefused}

-- no answer is this fault's but want of memory and what refuses
yielded : (o : Option Fault) (done : Answer → Type 0) → ((f : Fault) → done (answer.Failed f) → ⊥) → (f : Fault) → Yields o done (answer.Failed f) → (f ≡ fault.Memory) ⊎ (o ≡ Some f)
yielded o done none fault.Memory y = inl refl
yielded (Some why) done none f y = inr (cc y)
yielded None done none f y = absurd (none f y)

no_failure : (f : Fault) → ⊥ → ⊥
no_failure f h = h

module _ (run : Run) (e : Environment) (v : View) where
  moved : (group from to : ℕ) (f : Fault) → NamesNoStore f → IsMoved run e.catalog e.retired v group from to (answer.Failed f) → (f ≡ fault.Memory) ⊎ IsHeldUp run e.catalog e.retired v group from to f
  moved group from to f spared m = by_fault (start_fault run e.catalog m.free m.mover m.node group from to) refl m.moves
    where
      begun : (f : Fault) → NamesNoStore f → Moves e.catalog v group from to (answer.Failed f) → f ≡ fault.Memory
      begun (fault.Worker failure) spared h = cc spared
      begun (fault.Retired failure) spared h = cc spared
      begun fault.Memory spared h = refl
      begun f spared h = absurd h

      by_fault : (o : Option Fault) → start_fault run e.catalog m.free m.mover m.node group from to ≡ o → MovesUnless o e.catalog v group from to (answer.Failed f) → (f ≡ fault.Memory) ⊎ IsHeldUp run e.catalog e.retired v group from to f
      by_fault (Some why) is h = elim (yielded (Some why) (λ b. ⊥) no_failure f h.1) [
        | inl memory ↦ inl memory
        | inr same ↦ inr (record { nodes = m.nodes; free = m.free; node = m.node; mover = m.mover; began = m.began; room = m.room; saw = m.saw; why = is ∙ same })
      ]
      by_fault None is h = inl (begun f spared h)

  of_shard : (shard from to : ℕ) (o : Option ℕ) (f : Fault) → NamesNoStore f → IsMovedIn run e v shard from to o (answer.Failed f) → (f ≡ fault.Memory) ⊎ StopsMove run e v shard from to o f
  of_shard shard from to None f spared h = elim (yielded (Some (fault.NoShard shard)) (λ b. ⊥) no_failure f h.1) [ inl memory ↦ inl memory | inr same ↦ inr (cc same) ]
  of_shard shard from to (Some group) f spared h = moved group from to f spared h

  planned : (by_size : Bool) (f : Fault) → NamesNoStore f → Plans by_size run e.catalog v (answer.Failed f) → f ≡ fault.Memory
  planned by_size (fault.Worker failure) spared h = cc spared
  planned by_size fault.Memory spared h = refl
  planned by_size f spared h = absurd h

  cut_off : (by_size : Bool) (f : Fault) → NamesNoStore f → IsCutOff by_size run e.catalog e.retired v f → (f ≡ fault.Memory) ⊎ Hinders run e v (statement.Rebalance by_size) f
  cut_off by_size (fault.Worker failure) spared h = cc spared
  cut_off by_size (fault.Retired failure) spared h = cc spared
  cut_off by_size fault.Memory spared h = inl refl
  cut_off by_size (fault.NoRoom node free needed) spared h = inr h
  cut_off by_size f spared h = absurd h.fails

  rebalanced : (by_size : Bool) (f : Fault) → NamesNoStore f → Rebalances by_size run e.catalog e.retired v (answer.Failed f) → (f ≡ fault.Memory) ⊎ Hinders run e v (statement.Rebalance by_size) f
  rebalanced by_size f spared (inl plan) = inl (planned by_size f spared plan)
  rebalanced by_size f spared (inr cut) = cut_off by_size f spared cut

  asked : (q : Query) (f : Fault) → NamesNoStore f → Runs (touched e.catalog (statement.Select q)) run e v (statement.Select q) (answer.Failed f) → (f ≡ fault.Memory) ⊎ Hinders run e v (statement.Select q) f
  asked q (fault.Worker failure) spared h = cc spared
  asked q fault.Memory spared h = inl refl
  asked q (fault.Limit what.Rows n) spared h = inr h.2
  asked q f spared h = absurd h

  explained : (q : Query) (f : Fault) → Runs (touched e.catalog (statement.Explain q)) run e v (statement.Explain q) (answer.Failed f) → f ≡ fault.Memory
  explained q fault.Memory h = refl
  explained q f h = absurd h

  written : (op : ShardOp) (f : Fault) → NamesNoStore f → Runs (touched e.catalog (statement.Write op)) run e v (statement.Write op) (answer.Failed f) → (f ≡ fault.Memory) ⊎ Hinders run e v (statement.Write op) f
  written op (fault.Worker failure) spared h = cc spared
  written op fault.Memory spared h = inl refl
  written op fault.Duplicate spared h = inr h.replied
  written op fault.ValueOutOfRange spared h = inr h.replied
  written op (fault.Limit what.Ids n) spared h = inr h.1
  written op f spared h = absurd h

  ran : (s : Statement) (f : Fault) → NamesNoStore f → Runs (touched e.catalog s) run e v s (answer.Failed f) → (f ≡ fault.Memory) ⊎ Hinders run e v s f
  ran (statement.CreateTable name columns key) f spared h = yielded (creation_fault e name columns) (λ (b : Answer). b ≡ answer.Tag tag.CreateTable) (λ f is. cc is) f h.1
  ran (statement.Distribute table column count beside) f spared h = elim (yielded (distribution_fault run e.catalog e.retired h.1 e.settings.shard_count table column count beside) (IsNotice (codes "create_distributed_table")) no_failure f h.3) [ inl memory ↦ inl memory | inr why ↦ inr (h.1, h.2, why) ]
  ran (statement.Reference table) f spared h = elim (yielded (reference_fault run e.catalog e.retired h.1 table) (IsNotice (codes "create_reference_table")) no_failure f h.3) [ inl memory ↦ inl memory | inr why ↦ inr (h.1, h.2, why) ]
  ran (statement.Setting which value) f spared h = elim (yielded None (λ (b : Answer). b ≡ answer.Tag tag.Setting) (λ f is. cc is) f h.1) [ inl memory ↦ inl memory | inr none ↦ cc none ]
  ran (statement.Select q) f spared h = asked q f spared h
  ran (statement.Explain q) f spared h = inl (explained q f h)
  ran (statement.Write op) f spared h = written op f spared h
  ran (statement.RebalancePlan by_size) f spared h = inl (planned by_size f spared h)
  ran (statement.Rebalance by_size) f spared h = rebalanced by_size f spared h
  ran (statement.Move shard from to) f spared h = of_shard shard from to (group_of_shard e.catalog shard) f spared h
  ran s f spared h = absurd h

  unless : (o : Option Fault) (s : Statement) (f : Fault) → NamesNoStore f → RunsUnless o (touched e.catalog s) run e v s (answer.Failed f) → (f ≡ fault.Memory) ⊎ HasCause o run e v s f
  unless (Some why) s f spared h = elim (yielded (Some why) (λ b. ⊥) no_failure f h.1) [ inl memory ↦ inl memory | inr same ↦ inr (cc same) ]
  unless None s f spared h = ran s f spared h

  pub done_unless_refused : (bound : Option Statement) (a : Answer) → ((f : Fault) → a ≡ answer.Failed f → NamesNoStore f) → StandsIn rules run e v bound a → IsDoneUnlessRefused run e v bound a
  done_unless_refused (Some s) (answer.Failed f) spared h = unless (refusal_in e s) s f (spared f refl) h
  done_unless_refused (Some s) (answer.Tag t) spared h = tt
  done_unless_refused (Some s) (answer.Table names rows) spared h = tt
  done_unless_refused None a spared h = tt

-- no answer names a store
abbrev Spares : Answered → Type 0
Spares a = (f : Fault) → a.answer ≡ answer.Failed f → NamesNoStore f

module _ (run : Run) (all : List Answered) where
  eras_done : (eras : List Era) → AllByRecursion Spares (joined eras) → AllByRecursion (λ (era : Era). AllByRecursion (StandsAmong rules run all era.journals) era.answers) eras →
      AllByRecursion (λ (era : Era). AllByRecursion (IsDoneAmong run all era.journals) era.answers) eras
  eras_done [] spared stand = tt
  eras_done (era ∷ more) spared stand = (
    all_both Spares (StandsAmong rules run all era.journals) (IsDoneAmong run all era.journals)
        (λ a spares stands. let e = environment_at run all a.phase in done_unless_refused run e (in_journals (phase_in all) (beside_in all a) e.catalog era.journals (who_of a)) a.bound a.answer spares stands) era.answers
        (all_left Spares era.answers (joined more) spared) stand.0,
    eras_done more (all_right Spares era.answers (joined more) spared) stand.1,
  )

-- where each node is named by none
spares : (a : Answer) → ((node : ℕ) → NamesNode a node → ⊥) → (f : Fault) → a ≡ answer.Failed f → NamesNoStore f
spares a names (fault.Worker failure) is = absurd (names failure.node (subst (λ (b : Answer). NamesNode b failure.node) (sym is) refl))
spares a names (fault.Retired failure) is = absurd (names failure.node (subst (λ (b : Answer). NamesNode b failure.node) (sym is) refl))
spares a names f is = refl

all_spare : (answers : List Answered) → ((node : ℕ) → AllByRecursion (λ (a : Answered). NamesNode a.answer node → ⊥) answers) → AllByRecursion Spares answers
all_spare [] names = tt
all_spare (a ∷ more) names = (spares a.answer (λ node. (names node).0), all_spare more (λ node. (names node).1))

pub eras_are_done : (run : Run) (eras : List Era) → ((node : ℕ) → AllByRecursion (λ (a : Answered). NamesNode a.answer node → ⊥) (joined eras)) → ErasStand rules run eras → AreDoneUnlessRefused run eras
eras_are_done run eras names stand = eras_done run (joined eras) eras (all_spare (joined eras) names) stand
