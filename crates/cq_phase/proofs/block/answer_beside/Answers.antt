use Rattle.std.proofs.Common.{◌∙◌, length, ap, arith}
use Rattle.cq_block_accounts.proofs.Workers.{taken_count}
use Rattle.cq_phase.proofs.Beside.{may_run, as_many_back, room_back}
use Rattle.cq_phase.proofs.block.answer_beside.Goals as goal

pub take_used-requires : goal.take_used-requires
take_used-requires g c = c.requires.running.2.sound.enough

pub run_sessions-ran-requires-clause-shares : goal.run_sessions-ran-requires-clause-shares
run_sessions-ran-requires-clause-shares g c κs within =
    let co = c.args.coordinator.now in
    may_run g.S.Store.state c.requires.running.0 c.requires.running.1 co c.args.log.now.items c.requires.running.2 _ _ (ap (λ v. v.items) c.replace-groups.ensures.value) c.in_ok-workers.ensures.used

pub put_back-requires : goal.put_back-requires
put_back-requires g c =
    let cl = c.args.coordinator.now.cluster in
    let sound = c.requires.running.2.sound in
    let same = ap (λ v. length v.items) c.replace-groups.ensures.value in
    let count = sound.groups.count in
    let used = ap (λ v. length v) c.in_ok-workers.ensures.used ∙ taken_count cl.nodes cl.workers.items sound.enough in
    let back = as_many_back g.S.Store.state _ _ _ _ _ _ _ _ _ _ _ _ c.in-Ok.ensures.ok (omega (arith, same, count)) c.requires.apart in
    let all = room_back cl.nodes cl.workers.items c.take_used.new.workers.items c.in-Ok.field-0.workers.items sound.enough c.in_ok-workers.ensures.others (back ∙ used) in
    let room = c.in_ok-workers.ensures.room in
    record { room = omega (arith, all, room, c.take_used.new.workers.ok.0) }
