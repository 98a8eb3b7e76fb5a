use Rattle.std.proofs.Common.{refl, arith}
use Rattle.cq_group.specs.Calls.{Discards, KeepsRows, Lifted}
use Rattle.cq_group.proofs.Turns.{discards_keep, discards_go_on}
use Rattle.cq_group.proofs.MoveLaws.{same_move}
use Rattle.cq_group.proofs.GroupLaws.{group_weaker, kept_along, goes_on_but}
use Rattle.cq_group.proofs.WriteLaws.{quiet_dropped}
use Rattle.cq_group.proofs.group.GroupState.discard_write.Goals as goal

pub returns-clause-kept : goal.returns-clause-kept
returns-clause-kept g c =
    let state = g.S.Store.state in
    kept_along state c.args.self.now _ c.requires
    (group_weaker (Lifted state Discards) (Lifted state KeepsRows) (λ x y. discards_keep (state x) (state y)) c.args.self.now _
    (record { node = refl; nodes = refl; room = refl; moving = same_move c.args.self.now.moving; tables = c.discard_tables.ensures })) refl refl (omega arith)

pub returns-clause-quiet : goal.returns-clause-quiet
returns-clause-quiet g c = quiet_dropped g.S.Store.state c.args.self.now.tables.items c.discard_tables.new.tables.items c.discard_tables.ensures

pub returns-clause-goes_on : goal.returns-clause-goes_on
returns-clause-goes_on g c =
    goes_on_but g.S.Store.state Discards (λ s t. discards_go_on s t) c.args.self.now _ (record { node = refl; nodes = refl; room = refl; moving = same_move c.args.self.now.moving; tables = c.discard_tables.ensures }) refl refl
