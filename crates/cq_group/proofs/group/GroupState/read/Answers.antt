use Rattle.std.proofs.Common.{◌≡◌, ◌∙◌, map, ap}
use Rattle.std.proofs.lemmas.Result.{IfOk-weaker}
use Rattle.cq_demands.specs.JoinDemands.{Wants, narrow}
use Rattle.cq_demands.proofs.Narrowed.{narrow_none}
use Rattle.cq_group.specs.declared.group.Capture.{Capture}
use Rattle.cq_group.specs.Calls.{captured}
use Rattle.cq_group.proofs.group.GroupState.read.Goals as goal

pub returns-clause-tables : goal.returns-clause-tables
returns-clause-tables g c =
    let tables = map (captured c.args.self.now) c.args.tables.now in
    IfOk-weaker c.read_wanted-2.result (λ (seen : Capture). seen.tables ≡ narrow c.new.result tables) _
    (λ seen is. is ∙ ap (λ (wants : Wants). narrow wants tables) c.new.ensures ∙ narrow_none tables) c.read_wanted-2.ensures.tables
