use Rattle.std.proofs.lemmas.Result.{IfErr-weaker}
use Rattle.cq_group.specs.Groups.{stores_of}
use Rattle.cq_group.specs.Calls.{Blames}
use Rattle.cq_group.proofs.TableLaws.{blames_later}
use Rattle.cq_group.proofs.GroupLaws.{blames_none}
use Rattle.cq_group.proofs.WriteLaws.{goes_on_twice}
use Rattle.cq_group.proofs.group.GroupState.stage_write.Goals as goal

pub returns-clause-goes_on : goal.returns-clause-goes_on
returns-clause-goes_on g c = goes_on_twice g.S.Store.state c.args.self.now c.discard_write.new.self c.stage_alone.new.self c.discard_write.ensures.goes_on c.stage_alone.ensures.goes_on

pub returns-clause-blame : goal.returns-clause-blame
returns-clause-blame g c =
    let state = g.S.Store.state in
    let old = stores_of c.discard_write.new.self in
    let new = stores_of c.stage_alone.new.self in
    IfErr-weaker c.stage_alone.result (λ e. Blames state e old new) _
    (λ e h. blames_later state e (stores_of c.args.self.now) old new c.discard_write.ensures.goes_on.stores h) c.stage_alone.ensures.blame

pub returns-clause-steady : goal.returns-clause-steady
returns-clause-steady g c =
    let state = g.S.Store.state in
    let old = stores_of c.discard_write.new.self in
    let new = stores_of c.stage_alone.new.self in
    IfErr-weaker c.stage_alone.result (λ e. Blames state e old new) _
    (λ e h steady. blames_none state e c.args.self.now new steady (blames_later state e (stores_of c.args.self.now) old new c.discard_write.ensures.goes_on.stores h)) c.stage_alone.ensures.blame
