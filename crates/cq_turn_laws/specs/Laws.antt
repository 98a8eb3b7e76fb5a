-- The laws.
use Rattle.std.specs.Prelude.{◌≡◌, ◌+◌, ℕ, List, [], ◌∷◌, ◌++◌, length}
use Rattle.std.specs.List.{AllByRecursion}
use Rattle.cq_tree.specs.declared.journal.Entry.{Entry}
use Rattle.cq_answer.specs.declared.answered.Answered.{Answered}
use Rattle.cq_journal.specs.Records.{Journal}
use Rattle.cq_history.specs.Journals.{journal_in}
use Rattle.cq_history.specs.Legality.{IsLegal}
use Rattle.cq_history.specs.Run.{Run, Rules, Environment, environment_from}
use Rattle.cq_history.specs.Phases.{who_of, MayBeInBlock, IsOf}
use Rattle.cq_history.specs.Log.{Era, joined, IsLaidOut, IsConsistent, AreConsistent, IsAnswered, IsPhase}
use Rattle.cq_history.specs.Refusals.{rules}
use Rattle.cq_turn_laws.specs.Turns.{AreInTurns, IsBlock, sessions_of}

-- ---- one after the other

-- one more statement
abbrev pub TurnsGoOn : Type 0
TurnsGoOn = (rules : Rules) (run : Run) (e last next : Environment) (old mid new : List Journal) (block : List Answered) (a : Answered) → AreInTurns rules run e old block last mid →
    IsAnswered rules run last next (who_of a) mid new a.bound a.answer → AreInTurns rules run e old (block ++ a ∷ []) next new

-- the environment at the end is what the answers leave; a block's leave the catalogue and the settings
abbrev pub TurnsKeep : Type 0
TurnsKeep = (rules : Rules) (run : Run) (e last : Environment) (old new : List Journal) (block : List Answered) → AreInTurns rules run e old block last new →
    (last ≡ environment_from e block) × (AllByRecursion (λ (a : Answered). MayBeInBlock a.bound) block → (last.catalog ≡ e.catalog) × (last.settings ≡ e.settings))

-- the journals stay laid out, and legal
abbrev pub TurnsAreLaid : Type 0
TurnsAreLaid = (rules : Rules) (run : Run) (kept : ℕ) (e last : Environment) (old new : List Journal) (block : List Answered) → AreInTurns rules run e old block last new →
    IsLaidOut run kept e.catalog old → IsLaidOut run kept last.catalog new

abbrev pub TurnsAreLegal : Type 0
TurnsAreLegal = (rules : Rules) (run : Run) (e last : Environment) (old new : List Journal) (block : List Answered) → AreInTurns rules run e old block last new →
    ((g : ℕ) → IsLegal e.catalog g (journal_in old g)) → (g : ℕ) → IsLegal last.catalog g (journal_in new g)

-- each stands at the place of its number
abbrev pub TurnsNumber : Type 0
TurnsNumber = (rules : Rules) (run : Run) (e last : Environment) (old new : List Journal) (block : List Answered) → AreInTurns rules run e old block last new →
    ((g : ℕ) → (journal_in old g).number ≡ g) → (g : ℕ) → (journal_in new g).number ≡ g

-- each entry is one of those before, or of one of the statements
abbrev pub TurnsEnter : Type 0
TurnsEnter = (rules : Rules) (run : Run) (e last : Environment) (old new : List Journal) (answers block : List Answered) → AreInTurns rules run e old block last new →
    ((g : ℕ) → AllByRecursion (λ (f : Entry). IsOf answers f.who) (journal_in old g).entries) → (g : ℕ) → AllByRecursion (λ (f : Entry). IsOf (answers ++ block) f.who) (journal_in new g).entries

-- ---- a block

-- statements of a block that ran in turns are one phase behind these answers
abbrev pub TurnsMakePhase : Type 0
TurnsMakePhase = (run : Run) (kept : ℕ) (e last : Environment) (before block : List Answered) (old new : List Journal) → IsLaidOut run kept e.catalog old → ((g : ℕ) → IsLegal e.catalog g (journal_in old g)) →
    IsBlock (length before + 1) e.settings block → AreInTurns rules run e old block last new → IsPhase rules run kept e before block (sessions_of block) old new

-- so all is as between two phases again
abbrev pub TurnsArePhase : Type 0
TurnsArePhase = (run : Run) (e last : Environment) (answers block : List Answered) (old new : List Journal) → IsConsistent rules run e answers old → IsBlock (length answers + 1) e.settings block →
    AreInTurns rules run e old block last new → IsConsistent rules run last (answers ++ block) new

-- and behind closed eras
abbrev pub ErasTakeTurns : Type 0
ErasTakeTurns = (run : Run) (eras : List Era) (e last : Environment) (answers block : List Answered) (old new : List Journal) → AreConsistent rules run eras e answers old →
    IsBlock (length (joined eras ++ answers) + 1) e.settings block → AreInTurns rules run e old block last new → AreConsistent rules run eras last (answers ++ block) new
