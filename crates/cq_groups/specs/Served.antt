-- What a statement over several shard groups needs of them, what its answer does, and what it keeps of the groups.
use Rattle.std.specs.Prelude.{◌≡◌, ℕ, List, Some, None, length}
use Rattle.cq_tree.specs.declared.failure.StoreFailure.{StoreFailure}
use Rattle.cq_tree.specs.declared.journal.Who.{Who}
use Rattle.cq_tree.specs.declared.statement.Statement.{Statement}
use Rattle.cq_catalog.specs.Contents.{Contents}
use Rattle.cq_answer.specs.declared.answer.Answer.{Answer}
use Rattle.cq_answer.specs.declared.answer.Answer.TheVariants as answer
use Rattle.cq_answer.specs.declared.answered.Settings.{Settings}
use Rattle.cq_answer.specs.declared.fault.Fault.TheVariants as fault
use Rattle.cq_history.specs.Run.{Run}
use Rattle.cq_history.specs.Journals.{journal_in}
use Rattle.cq_history.specs.Legality.{IsLegal}
use Rattle.cq_history.specs.Refusals.{rules, refusal_in}
use Rattle.cq_history.specs.Deeds.{Phase}
use Rattle.cq_history.specs.Log.{IsAnsweredIn}
use Rattle.cq_reach.specs.Seen.{Seen, journals_in}
use Rattle.cq_reach.specs.Outlook.{Outlook, Chain, FailsLast}
use Rattle.cq_groups.specs.Found.{AreShaped}
use Rattle.cq_groups.specs.Looking.{environment_at}

-- the groups are those of the catalogue, and their journals are legal
pub record IsWhole (c : Contents) (nodes : ℕ) (groups : List Seen) : Type 0 where
  pub shaped : AreShaped c nodes groups
  pub legal : (g : ℕ) → IsLegal c g (journal_in (journals_in groups) g)

-- a statement that isn't refused is answered in its phase, from what its session knew of the groups to what it knows then
abbrev pub IsAnsweredBy : Contents → ℕ → Phase → Who → Statement → Answer → List Seen → List Seen → Type 0
IsAnsweredBy c nodes p who s a old new =
    (run : Run) (settings : Settings) (retired : List ℕ) → run.workers ≡ nodes → refusal_in (environment_at c settings retired) s ≡ None →
    IsAnsweredIn rules run (environment_at c settings retired) (environment_at c settings retired) p who (journals_in old) (journals_in new) (Some s) a

-- an answer names this store
abbrev pub Names : Answer → StoreFailure → Type 0
Names a f = a ≡ answer.Failed (fault.Worker f)

-- a statement keeps the groups so that the next one may use them: it knows as many, its calls went on from one to the next, and a store that its
-- answer names failed in the last call
module _ {V : Type 0} (ready : V → ℕ → Type 0) (outlook : V → Who → Outlook) (goes_on : V → V → Type 0) (failed : V → V → Who → ℕ → StoreFailure → Type 0) (who : Who) where
  pub record IsKept (names : StoreFailure → Type 0) (old new : V) : Type 0 where
    pub still : ready new who.session
    pub count : length (outlook new who).known ≡ length (outlook old who).known
    pub steps : Chain goes_on old new
    pub blamed : (f : StoreFailure) → names f → FailsLast goes_on (λ x y. failed x y who) f old new
