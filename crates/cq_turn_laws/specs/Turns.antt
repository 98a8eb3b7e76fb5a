-- Statements that run one after the other, and the answers of a block.
use Rattle.std.specs.Prelude.{◌≡◌, ◌+◌, ◌<◌, ◌≤◌, ℕ, List, [], ◌∷◌, length, map}
use Rattle.std.specs.List.{AllByRecursion}
use Rattle.cq_answer.specs.declared.answered.Answered.{Answered}
use Rattle.cq_answer.specs.declared.answered.Settings.{Settings}
use Rattle.cq_journal.specs.Records.{Journal}
use Rattle.cq_history.specs.Run.{Run, Rules, Environment}
use Rattle.cq_history.specs.Phases.{who_of, MayBeInBlock, AreInScriptOrder}
use Rattle.cq_history.specs.Log.{IsAnswered}

-- each is answered as a serial statement is, in the environment and over the journals that those before it leave
abbrev pub AreInTurns : Rules → Run → Environment → List Journal → List Answered → Environment → List Journal → Type 0
AreInTurns rules run e old [] last new = (last ≡ e) × (new ≡ old)
AreInTurns rules run e old (a ∷ more) last new =
    (next : Environment) × (mid : List Journal) × IsAnswered rules run e next (who_of a) old mid a.bound a.answer × AreInTurns rules run next mid more last new

-- an answer of a block whose statements are numbered from `first` on and are `count`, under the settings `given`
pub record IsOfBlock (first count : ℕ) (given : Settings) (a : Answered) : Type 0 where
  pub session : 1 ≤ a.session
  pub phase : a.phase ≡ first
  pub low : first ≤ a.statement
  pub high : a.statement < first + count
  pub settings : a.settings ≡ given
  pub allowed : MayBeInBlock a.bound

-- all answers of a block, in the order of a script
pub record IsBlock (first : ℕ) (given : Settings) (block : List Answered) : Type 0 where
  pub each : AllByRecursion (IsOfBlock first (length block) given) block
  pub script : AreInScriptOrder block

abbrev pub sessions_of : List Answered → List ℕ
sessions_of block = map (λ (a : Answered). a.session) block
