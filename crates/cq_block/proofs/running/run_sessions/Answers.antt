use Rattle.std.proofs.Common.{◌∙◌, ℕ, List, length, map, sym, ap, subst, arith}
use Rattle.std.proofs.lemmas.List.{length-map}
use Rattle.std.specs.List.{AllByRecursion}
use Rattle.atomic_table.specs.Seated.{TableId}
use Rattle.cq_cell.proofs.Zips.{zip_long}
use Rattle.cq_desk.proofs.First.{map_twice}
use Rattle.cq_block.specs.Running.{IsWaiting}
use Rattle.cq_block.specs.Seating.{IsPrepared}
use Rattle.cq_block.proofs.Seated.{seats, all_wait, ends, as_many, few_retired, passes_back, all_benches_back, has_run}
use Rattle.cq_block.proofs.Seats.{seated_long}
use Rattle.cq_block.proofs.running.run_sessions.Goals as goal

pub open_block-requires-clause-may : goal.open_block-requires-clause-may
open_block-requires-clause-may g c = (let m = c.requires.shares c.of-ground.result c.of-ground.ensures in (m.share, m.spare))

pub seat-seated-requires-clause-groups : goal.seat-seated-requires-clause-groups
seat-seated-requires-clause-groups g c =
    let many = zip_long IsPrepared c.args.sessions.items c.in-Ok.room.prepared.items c.in-Ok.ensures.prepared in
    sym (length-map c.in-Ok-open_block.block.groups.items (λ r. r.items))
    ∙ (zip_long _ c.in-Ok.room.numbers.items _ c.in-Ok-open_block.ensures.groups.passes
    ∙ (ap (λ (v : List ℕ). length v) c.in-Ok.ensures.numbers ∙ (length-map c.args.sessions.items (λ one. one.session) ∙ sym many)))

pub seat-seated-requires-clause-workers : goal.seat-seated-requires-clause-workers
seat-seated-requires-clause-workers g c =
    let many = zip_long IsPrepared c.args.sessions.items c.in-Ok.room.prepared.items c.in-Ok.ensures.prepared in
    sym (length-map c.in-Ok-open_block.block.workers.items (λ r. r.items))
    ∙ (zip_long _ c.in-Ok.room.numbers.items _ c.in-Ok-open_block.ensures.workers.passes
    ∙ (ap (λ (v : List ℕ). length v) c.in-Ok.ensures.numbers ∙ (length-map c.args.sessions.items (λ one. one.session) ∙ sym many)))

pub seat-seated-requires-clause-room : goal.seat-seated-requires-clause-room
seat-seated-requires-clause-room g c =
    let room = c.in-Ok.ensures.seats in
    let wide = room.1 in
    let many = zip_long IsPrepared c.args.sessions.items c.in-Ok.room.prepared.items c.in-Ok.ensures.prepared in
    (room.0, omega (arith, wide, many, c.in-Ok.room.prepared.ok.0))

pub run_seated-requires-after_bounds : goal.run_seated-requires-after_bounds
run_seated-requires-after_bounds g c κs within =
    let may = c.requires.shares c.of-ground.result c.of-ground.ensures in
    let shared = c.in-Ok-open_block.ensures.groups in
    let stocked = c.in-Ok-open_block.ensures.workers in
    let seated = seats _ _ _ _ _ _ may _ _ _ _ shared _ _ _ stocked c.args.sessions.items c.in-Ok.room.prepared.items c.seat-seated.result.items c.in-Ok.ensures.numbers c.in-Ok.ensures.prepared c.seat-seated.ensures c.requires.drafts c.requires.numbered in
    let cells = map_twice (λ z. (z.shared.table_id, z.shared.key)) (λ k. k.0) c.in-Ok-open_block.block.shared.groups.items in
    let stalls = map_twice (λ z. (z.shared.table_id, z.shared.key)) (λ k. k.0) c.in-Ok-open_block.block.shared.workers.items in
    subst (λ (v : List TableId × List TableId). AllByRecursion (IsWaiting g.S.Store.state c.args.scene.now.catalog.now c.args.scene.now.nodes v.0 v.1 c.in-Ok.room.numbers.items) c.seat-seated.result.items) (λ i. (cells i, stalls i))
    (all_wait _ _ _ _ _ _ may _ _ _ _ shared _ _ _ stocked c.args.sessions.items _ _ c.seat-seated.result.items seated)

pub unseat-groups-requires-clause-groups : goal.unseat-groups-requires-clause-groups
unseat-groups-requires-clause-groups g c =
    let room = c.in-Ok.ensures.groups in
    let wide = room.1 in
    let ran = zip_long _ c.seat-seated.result.items c.run_seated.new.sessions.items c.run_seated.ensures in
    let sat = seated_long c.in-Ok.room.prepared.items _ _ c.seat-seated.result.items c.seat-seated.ensures in
    let many = zip_long IsPrepared c.args.sessions.items c.in-Ok.room.prepared.items c.in-Ok.ensures.prepared in
    (room.0, omega (arith, wide, ran, sat, many, c.run_seated.new.sessions.ok.0))

pub unseat-groups-requires-clause-workers : goal.unseat-groups-requires-clause-workers
unseat-groups-requires-clause-workers g c =
    let room = c.in-Ok.ensures.workers in
    let wide = room.1 in
    let ran = zip_long _ c.seat-seated.result.items c.run_seated.new.sessions.items c.run_seated.ensures in
    let sat = seated_long c.in-Ok.room.prepared.items _ _ c.seat-seated.result.items c.seat-seated.ensures in
    let many = zip_long IsPrepared c.args.sessions.items c.in-Ok.room.prepared.items c.in-Ok.ensures.prepared in
    (room.0, omega (arith, wide, ran, sat, many, c.run_seated.new.sessions.ok.0))

pub unseat-groups-requires-clause-log : goal.unseat-groups-requires-clause-log
unseat-groups-requires-clause-log g c =
    let may = c.requires.shares c.of-ground.result c.of-ground.ensures in
    let shared = c.in-Ok-open_block.ensures.groups in
    let stocked = c.in-Ok-open_block.ensures.workers in
    let settings = c.args.scene.now.settings in
    let ran = c.run_seated.new.sessions.items in
    let ended = ends _ _ _ _ _ _ may _ _ _ _ shared _ _ _ stocked settings c.args.sessions.items c.in-Ok.room.prepared.items c.seat-seated.result.items ran _ _ c.in-Ok.ensures.numbers c.in-Ok.ensures.prepared c.seat-seated.ensures c.requires.drafts c.requires.numbered (map_twice (λ z. (z.shared.table_id, z.shared.key)) (λ k. k.0) c.in-Ok-open_block.block.shared.groups.items) (map_twice (λ z. (z.shared.table_id, z.shared.key)) (λ k. k.0) c.in-Ok-open_block.block.shared.workers.items) c.run_seated.ensures in
    let wide = c.requires.room in
    let few = as_many _ _ _ _ _ _ may _ _ _ _ shared _ _ _ stocked settings c.args.sessions.items _ _ ran ended in
    omega (arith, wide, few)

pub unseat-groups-requires-clause-retired : goal.unseat-groups-requires-clause-retired
unseat-groups-requires-clause-retired g c =
    let may = c.requires.shares c.of-ground.result c.of-ground.ensures in
    let shared = c.in-Ok-open_block.ensures.groups in
    let stocked = c.in-Ok-open_block.ensures.workers in
    let settings = c.args.scene.now.settings in
    let ran = c.run_seated.new.sessions.items in
    let ended = ends _ _ _ _ _ _ may _ _ _ _ shared _ _ _ stocked settings c.args.sessions.items c.in-Ok.room.prepared.items c.seat-seated.result.items ran _ _ c.in-Ok.ensures.numbers c.in-Ok.ensures.prepared c.seat-seated.ensures c.requires.drafts c.requires.numbered (map_twice (λ z. (z.shared.table_id, z.shared.key)) (λ k. k.0) c.in-Ok-open_block.block.shared.groups.items) (map_twice (λ z. (z.shared.table_id, z.shared.key)) (λ k. k.0) c.in-Ok-open_block.block.shared.workers.items) c.run_seated.ensures in
    let wide = c.requires.space in
    let few = few_retired _ _ _ _ _ _ may _ _ _ _ shared _ _ _ stocked settings c.args.sessions.items _ _ ran ended in
    omega (arith, wide, few)

pub close_block-groups-requires-clause-groups : goal.close_block-groups-requires-clause-groups
close_block-groups-requires-clause-groups g c =
    let may = c.requires.shares c.of-ground.result c.of-ground.ensures in
    let shared = c.in-Ok-open_block.ensures.groups in
    let stocked = c.in-Ok-open_block.ensures.workers in
    let settings = c.args.scene.now.settings in
    let ran = c.run_seated.new.sessions.items in
    let ended = ends _ _ _ _ _ _ may _ _ _ _ shared _ _ _ stocked settings c.args.sessions.items c.in-Ok.room.prepared.items c.seat-seated.result.items ran _ _ c.in-Ok.ensures.numbers c.in-Ok.ensures.prepared c.seat-seated.ensures c.requires.drafts c.requires.numbered (map_twice (λ z. (z.shared.table_id, z.shared.key)) (λ k. k.0) c.in-Ok-open_block.block.shared.groups.items) (map_twice (λ z. (z.shared.table_id, z.shared.key)) (λ k. k.0) c.in-Ok-open_block.block.shared.workers.items) c.run_seated.ensures in
    (c.in-Ok.room.numbers.items, c.in-Ok-open_block.ensures.groups.opened.each, passes_back _ _ _ _ _ _ may _ _ _ _ shared _ _ _ stocked settings c.args.sessions.items ran c.in-Ok.ensures.numbers ended _ c.unseat-groups.ensures.groups)

pub close_block-groups-requires-clause-workers : goal.close_block-groups-requires-clause-workers
close_block-groups-requires-clause-workers g c =
    let may = c.requires.shares c.of-ground.result c.of-ground.ensures in
    let shared = c.in-Ok-open_block.ensures.groups in
    let stocked = c.in-Ok-open_block.ensures.workers in
    let settings = c.args.scene.now.settings in
    let ran = c.run_seated.new.sessions.items in
    let ended = ends _ _ _ _ _ _ may _ _ _ _ shared _ _ _ stocked settings c.args.sessions.items c.in-Ok.room.prepared.items c.seat-seated.result.items ran _ _ c.in-Ok.ensures.numbers c.in-Ok.ensures.prepared c.seat-seated.ensures c.requires.drafts c.requires.numbered (map_twice (λ z. (z.shared.table_id, z.shared.key)) (λ k. k.0) c.in-Ok-open_block.block.shared.groups.items) (map_twice (λ z. (z.shared.table_id, z.shared.key)) (λ k. k.0) c.in-Ok-open_block.block.shared.workers.items) c.run_seated.ensures in
    (c.in-Ok.room.numbers.items, c.in-Ok-open_block.ensures.workers.opened.each, all_benches_back _ _ _ _ _ _ may _ _ _ _ shared _ _ _ stocked settings c.args.sessions.items ran c.in-Ok.ensures.numbers ended _ c.unseat-groups.ensures.workers)

pub returns-in-Ok-open_block-clause-ok : goal.returns-in-Ok-open_block-clause-ok
returns-in-Ok-open_block-clause-ok g c =
    let may = c.requires.shares c.of-ground.result c.of-ground.ensures in
    let shared = c.in-Ok-open_block.ensures.groups in
    let stocked = c.in-Ok-open_block.ensures.workers in
    let settings = c.args.scene.now.settings in
    let ran = c.run_seated.new.sessions.items in
    let ended = ends _ _ _ _ _ _ may _ _ _ _ shared _ _ _ stocked settings c.args.sessions.items c.in-Ok.room.prepared.items c.seat-seated.result.items ran _ _ c.in-Ok.ensures.numbers c.in-Ok.ensures.prepared c.seat-seated.ensures c.requires.drafts c.requires.numbered (map_twice (λ z. (z.shared.table_id, z.shared.key)) (λ k. k.0) c.in-Ok-open_block.block.shared.groups.items) (map_twice (λ z. (z.shared.table_id, z.shared.key)) (λ k. k.0) c.in-Ok-open_block.block.shared.workers.items) c.run_seated.ensures in
    has_run _ _ _ _ _ _ may _ _ _ _ shared _ _ _ stocked settings c.args.sessions.items ran c.in-Ok.ensures.numbers ended _ _ c.unseat-groups.ensures.groups c.unseat-groups.ensures.workers _ _ c.close_block-groups.ensures.groups c.close_block-groups.ensures.workers _ _ c.unseat-groups.ensures.log _ _ c.unseat-groups.ensures.retired
