use Rattle.std.proofs.Common.{refl, ap}
use Rattle.cq_group.proofs.WriteLaws.{goes_on_twice}
use Rattle.cq_group.proofs.MoveEntries.{same_go_on}
use Rattle.cq_group.proofs.ReadLaws.{rested_goes_on}
use Rattle.cq_group.proofs.StartLaws.{rested_resting, reserved_resting}
use Rattle.cq_group.proofs.group.GroupState.prepare.Goals as goal

pub returns-in_err-incoming-clause-resting : goal.returns-in_err-incoming-clause-resting
returns-in_err-incoming-clause-resting g c = rested_resting g.S.Store.state c.args.self.now c.outgoing.new.self c.requires c.outgoing.ensures.journal c.outgoing.ensures.same

pub returns-in_err-incoming-clause-goes_on : goal.returns-in_err-incoming-clause-goes_on
returns-in_err-incoming-clause-goes_on g c = rested_goes_on g.S.Store.state c.args.self.now c.outgoing.new.self c.outgoing.new.self c.outgoing.ensures.same c.outgoing.ensures.journal refl refl refl

pub returns-in_err-incoming-clause-entries : goal.returns-in_err-incoming-clause-entries
returns-in_err-incoming-clause-entries g c = ap (λ x. x.entries.list) c.outgoing.ensures.journal

pub returns-then-is_err-clause-resting : goal.returns-then-is_err-clause-resting
returns-then-is_err-clause-resting g c =
    let mid = c.outgoing.new.self in
    reserved_resting g.S.Store.state mid _ (rested_resting g.S.Store.state c.args.self.now mid c.requires c.outgoing.ensures.journal c.outgoing.ensures.same) refl refl refl refl refl c.reserve.ensures.list refl c.reserve.ensures.kept

pub returns-then-is_err-clause-goes_on : goal.returns-then-is_err-clause-goes_on
returns-then-is_err-clause-goes_on g c =
    let mid = c.outgoing.new.self in
    goes_on_twice g.S.Store.state c.args.self.now mid _ (rested_goes_on g.S.Store.state c.args.self.now mid mid c.outgoing.ensures.same c.outgoing.ensures.journal refl refl refl)
    (same_go_on g.S.Store.state mid _ refl refl refl refl refl)

pub returns-clause-resting : goal.returns-clause-resting
returns-clause-resting g c =
    let mid = c.outgoing.new.self in
    reserved_resting g.S.Store.state mid _ (rested_resting g.S.Store.state c.args.self.now mid c.requires c.outgoing.ensures.journal c.outgoing.ensures.same) refl refl refl refl refl c.reserve.ensures.list refl c.reserve.ensures.kept

pub returns-clause-goes_on : goal.returns-clause-goes_on
returns-clause-goes_on g c =
    let mid = c.outgoing.new.self in
    goes_on_twice g.S.Store.state c.args.self.now mid _ (rested_goes_on g.S.Store.state c.args.self.now mid mid c.outgoing.ensures.same c.outgoing.ensures.journal refl refl refl)
    (same_go_on g.S.Store.state mid _ refl refl refl refl refl)
