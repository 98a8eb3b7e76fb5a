use Rattle.std.proofs.Common.{refl, subst, sym}
use Rattle.std.proofs.lemmas.Option.{slice_get_read}
use Rattle.std.specs.Prelude.{Result}
use Rattle.cq_tree.specs.declared.write.Reply.{Reply}
use Rattle.cq_reach.specs.declared.error.WriteError.{WriteError}
use Rattle.cq_reach.specs.Staging.{StagesOne}
use Rattle.cq_reach.proofs.Turning.{one_set}
use Rattle.cq_reach.proofs.Holding.{staged_one}
use Rattle.cq_reach.proofs.Stopping.{group_within}
use Rattle.cq_reach.proofs.staging.stage_part.Goals as goal

pub returns : goal.returns
returns g c =
    let state = g.S.Store.state in
    let p = c.args.part.now in
    let w = c.stage_write.ensures in
    let x = c.index_mut.result.now in
    let y = c.stage_write.new.self in
    one_set p.group (StagesOne state p c.outcome_of.result) c.args.groups.now.items x y
    (slice_get_read c.args.groups.now.items _ p.group x refl (group_within c.args.groups.now.items p _ c.requires) c.index_mut.ensures.value)
    (subst (λ (r : Result Reply WriteError). StagesOne state p r x y) (sym c.outcome_of.ensures) (staged_one state p x y c.stage_write.result w.suffices w.staged w.err w.blame w.entries w.kept w.goes_on))
