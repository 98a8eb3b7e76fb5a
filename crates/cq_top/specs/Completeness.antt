-- Where no store, source or sink fails, and words and script keep the limits, a run comes to its end, and each statement that was read is done, unless it is
-- refused for its cause.
use Rattle.std.specs.Prelude.{◌≡◌, ◌≤◌, ◌⊎◌, ℕ, Bool, true, IsTrue, Option, Some, None, List, length}
use Rattle.std.specs.List.{AllByRecursion}
use Rattle.cq_answer.specs.declared.answered.Answered.{Answered}
use Rattle.cq_store.specs.Stores.{StoreState}
use Rattle.cq_store.specs.declared.worker.Worker.{Worker}
use Rattle.cq_history.specs.Log.{Era, joined}
use Rattle.cq_history.specs.Run.{Run}
use Rattle.cq_cluster.specs.Steady.{NamesNode}
use Rattle.cq_script.specs.Directives.{Read}
use Rattle.cq_script.specs.Generating.{IsGenerated}
use Rattle.cq_script.specs.Streams.{SourceState, SinkState, Rose}
use Rattle.cq_words.specs.declared.settled.Settled.{Settled}
use Rattle.cq_top.specs.declared.status.Status.{Status}
use Rattle.cq_top.specs.declared.status.Status.TheVariants.{Done, Stopped, Memory}
use Rattle.cq_top.specs.declared.log.RunLog.{RunLog}
use Rattle.cq_top.specs.Causes.{AreDoneUnlessRefused}
use Rattle.cq_top.specs.Scripts.{most_bytes, IsReached, FailsLast}
use Rattle.cq_top.specs.Serving.{run_by}
use Rattle.cq_top.specs.Runs.{IsMisused, asked, eras_of}

-- no store that was handed in ever fails
abbrev pub AllSteady : {X : Type 0} → (X → StoreState) → List (Worker X) → Type 0
AllSteady {X} state entry = AllByRecursion (λ (w : Worker X). AllByRecursion (λ (x : X). IsTrue (state x).steady) w.stores.items) entry

-- a script is within the limits, and however far it is taken, nothing is out of its place
pub record KeepsLimits (script : List ℕ) : Type 0 where
  pub size : length script ≤ most_bytes
  pub reads : (taken : ℕ) (r : Read) → IsReached script taken r → r.halt ≡ None

-- so is the script of a source that tells its bytes, or the one that is made
abbrev pub ScriptKeepsLimits : Option (ℕ × ℕ) → SourceState → Type 0
ScriptKeepsLimits None source = (bytes : List ℕ) × (source.left ≡ Some bytes) × KeepsLimits bytes
ScriptKeepsLimits (Some g) source = (script : List ℕ) → IsGenerated g.0 g.1 script → KeepsLimits script

-- the words are right, the script keeps the limits, and no fault of the source or the sink rose
pub record IsUndisturbed (words : List (List ℕ)) (workers : ℕ) (source source_end : SourceState) (sink sink_end : SinkState) : Type 0 where
  pub well : IsMisused words workers → ⊥
  pub script : ScriptKeepsLimits (asked words).generate source
  pub reads : Rose source.faults source_end.faults → ⊥
  pub writes : Rose sink.faults sink_end.faults → ⊥

-- the run is done, was stopped by a statement that failed under --stop, or memory was wanting
abbrev pub IsComplete : Bool → Status → List Answered → Type 0
IsComplete stop status answers = (status ≡ Done) ⊎ (((status ≡ Stopped) × (stop ≡ true) × FailsLast answers) ⊎ (status ≡ Memory))

-- so it ends; no answer says that a store failed; and each statement that was read is done, or memory was wanting, or it is refused for its cause
pub record Completes (s : Settled) (run : Run) (status : Status) (eras : List Era) : Type 0 where
  pub ends : IsComplete s.stop status (joined eras)
  pub names : (node : ℕ) → AllByRecursion (λ (a : Answered). NamesNode a.answer node → ⊥) (joined eras)
  pub does : AreDoneUnlessRefused run eras

-- a run completes where nothing disturbs it
abbrev pub CompletesCalmly : {X Y : Type 0} → (Y → StoreState) → List (List ℕ) → List (Worker Y) → Status → RunLog X → SourceState → SourceState → SinkState → SinkState → Type 0
CompletesCalmly state words entry status log source source_end sink sink_end =
    AllSteady state entry → IsUndisturbed words (length entry) source source_end sink sink_end → Completes (asked words) (run_by (asked words) entry) status (eras_of log)
