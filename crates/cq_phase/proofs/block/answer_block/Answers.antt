use Rattle.std.proofs.Common.{rules, ◌+◌, ◌≤◌, length, refl, arith}
use Rattle.std.specs.Prelude.{vec_len, vec_capacity}
use Rattle.cq_phase.proofs.Beside.{may_run_beside, apart_beside, numbered_beside, as_many_drafts, running_same, ran_beside, none_beside}
use Rattle.cq_phase.proofs.RunLaws.{running_ready}
use Rattle.cq_phase.proofs.block.answer_block.Goals as goal

pub read_block-requires-clause-columns : goal.read_block-requires-clause-columns
read_block-requires-clause-columns g c κs within = (running_ready g.S.Store.state c.requires.running.0 c.requires.running.1 c.args.coordinator.now c.args.log.now.items c.requires.running.2).columns

pub answer_beside-requires-clause-apart : goal.answer_beside-requires-clause-apart
answer_beside-requires-clause-apart g c κs within = apart_beside c.args.coordinator.now.cluster.catalog c.args.block.now c.in_ok-sessions.sessions.items c.in_ok-sessions.ensures

pub answer_beside-requires-clause-numbered : goal.answer_beside-requires-clause-numbered
answer_beside-requires-clause-numbered g c κs within = numbered_beside c.args.coordinator.now.cluster.catalog _ c.args.block.now c.in_ok-sessions.sessions.items c.requires.next c.in_ok-sessions.ensures

pub answer_beside-requires-clause-drafts : goal.answer_beside-requires-clause-drafts
answer_beside-requires-clause-drafts g c κs within = may_run_beside c.args.coordinator.now.cluster.catalog c.args.block.now c.in_ok-sessions.sessions.items c.in_ok-sessions.ensures

pub answer_beside-requires-clause-room : goal.answer_beside-requires-clause-room
answer_beside-requires-clause-room g c κs within =
    let many = as_many_drafts c.args.coordinator.now.cluster.catalog _ c.args.block.now c.in_ok-sessions.sessions.items c.requires.next c.in_ok-sessions.ensures in
    let room = c.requires.room in
    omega (arith, many, room)

pub answer_beside-requires-clause-space : goal.answer_beside-requires-clause-space
answer_beside-requires-clause-space g c κs within =
    let many = as_many_drafts c.args.coordinator.now.cluster.catalog _ c.args.block.now c.in_ok-sessions.sessions.items c.requires.next c.in_ok-sessions.ensures in
    let room : vec_len c.reserve.new.self + length c.args.block.now ≤ vec_capacity c.reserve.new.self = search (rules, c.reserve.ensures.ok, c.if-is_err.false, c.is_err.ensures) in
    omega (arith, many, room)

pub answer_beside-requires-clause-running : goal.answer_beside-requires-clause-running
answer_beside-requires-clause-running g c κs within =
    let co = c.args.coordinator.now in
    let log = c.args.log.now.items in
    let mid = record co { cluster = record co.cluster { retired = c.reserve.new.self } } in (
      c.requires.running.0,
      c.requires.running.1,
      running_same g.S.Store.state c.requires.running.0 c.requires.running.1 co mid log log
          (record { keeps = record { catalog = refl; nodes = refl; settings = refl }; groups = refl; workers = refl; retired = c.reserve.ensures.items; log = refl }) c.requires.running.2,
    )

pub returns-clause-ok : goal.returns-clause-ok
returns-clause-ok g c =
    let co = c.args.coordinator.now in
    let log = c.args.log.now.items in
    let mid = record co { cluster = record co.cluster { retired = c.reserve.new.self } } in
    ran_beside g.S.Store.state co mid c.answer_beside.new.coordinator log c.answer_beside.new.log.items c.args.block.now
    (record { keeps = record { catalog = refl; nodes = refl; settings = refl }; groups = refl; workers = refl; retired = c.reserve.ensures.items; log = refl })
    c.in_ok-sessions.sessions.items c.requires.next c.in_ok-sessions.ensures c.answer_beside.result c.answer_beside.ensures.ran

pub returns-clause-err : goal.returns-clause-err
returns-clause-err g c =
    let co = c.args.coordinator.now in
    let log = c.args.log.now.items in
    let mid = record co { cluster = record co.cluster { retired = c.reserve.new.self } } in
    none_beside g.S.Store.state co mid c.answer_beside.new.coordinator log c.answer_beside.new.log.items c.args.block.now
    (record { keeps = record { catalog = refl; nodes = refl; settings = refl }; groups = refl; workers = refl; retired = c.reserve.ensures.items; log = refl })
    c.answer_beside.result c.answer_beside.ensures.err
