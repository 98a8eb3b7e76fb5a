use Rattle.std.proofs.Common.{refl}
use Rattle.cq_group.specs.Calls.{KeepsRows}
use Rattle.cq_group.proofs.Turns.{keeps_go_on}
use Rattle.cq_group.proofs.MoveLaws.{same_move}
use Rattle.cq_group.proofs.GroupLaws.{goes_on_but}
use Rattle.cq_group.proofs.WriteLaws.{keeps_none}
use Rattle.cq_group.proofs.group.GroupState.stage_alone.Goals as goal

pub returns-then-lacks_ids-clause-goes_on : goal.returns-then-lacks_ids-clause-goes_on
returns-then-lacks_ids-clause-goes_on g c = goes_on_but g.S.Store.state KeepsRows (λ s t. keeps_go_on s t) c.args.self.now _ (keeps_none g.S.Store.state c.args.self.now _ refl refl refl (same_move c.args.self.now.moving) refl) refl refl
