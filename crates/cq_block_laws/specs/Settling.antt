-- What the answers of a block tell of the workers' stores: how many stores of a node its moves left, how many came to it, and how many were lost there.
use Rattle.std.specs.Prelude.{◌≡◌, ◌+◌, ℕ, List, if◌then◌else◌, nat_eq}
use Rattle.std.specs.List.{sum_by}
use Rattle.cq_catalog.specs.Contents.{Contents}
use Rattle.cq_answer.specs.declared.answer.Answer.{Answer}
use Rattle.cq_answer.specs.declared.answer.Answer.TheVariants.{Failed}
use Rattle.cq_answer.specs.declared.answered.Answered.{Answered}
use Rattle.cq_answer.specs.declared.fault.Fault.TheVariants.{Retired}
use Rattle.cq_place_laws.specs.Placing.{arrives, leaves}
use Rattle.cq_shared.specs.declared.errand.Errand.{Errand}
use Rattle.cq_shared.specs.Errands.{tooks, gaves}

-- a store of a node is lost where it is retired
abbrev pub lost_in : ℕ → Answer → ℕ
lost_in node (Failed (Retired failure)) = if nat_eq failure.node node then 1 else 0
lost_in node a = 0

abbrev pub lost : ℕ → Answered → ℕ
lost node a = lost_in node a.answer

-- of a worker of a node as many stores were taken as were given back, but for those by which the answers' moves changed the node's groups, and the lost ones
abbrev pub Settle : Contents → ℕ → List Answered → List Errand → Type 0
Settle c node answers notes = tooks notes + sum_by (leaves c node) answers ≡ gaves notes + sum_by (arrives c node) answers + sum_by (lost node) answers
