use Rattle.std.proofs.Common.{rules}
use Rattle.cq_journal.specs.Stations.{station_of}
use Rattle.cq_group.specs.Incoming.{arriving}
use Rattle.cq_group.proofs.TableLaws.{blames_later}
use Rattle.cq_group.proofs.IncomingLaws.{can_settle, settled_either, arriving_goes_on}
use Rattle.cq_transfer.proofs.PassLaws as laws
use Rattle.cq_transfer.proofs.LoopLaws.{later_way}
use Rattle.cq_transfer.proofs.transferring.follow.Goals as goal

pub settle-requires : goal.settle-requires
settle-requires g c =
    let s = g.M.Moves.seen c.args.moves.now c.args.order.group in
    can_settle g.S.Store.state (station_of s.journal).target s.journal.entries s.tables c.args.incoming.now c.requires.moving.incoming

pub returns-in_err-copied-clause-way : goal.returns-in_err-copied-clause-way
returns-in_err-copied-clause-way g c =
    let state = g.S.Store.state in
    let who = c.args.order.who in
    let s = g.M.Moves.seen c.args.moves.now c.args.order.group in
    let i = c.args.incoming.now in
    let j = c.settle.new.self in
    let went = arriving_goes_on state i.tables.items j.tables.items (settled_either state c.settle.result i.tables.items j.tables.items c.settle.ensures.ok c.settle.ensures.err) in
    record {
      ready = c.requires.ready;
      keeps = g.met.M.Moves.keeps_none c.args.moves.now who c.args.order.group c.requires.ready;
      goes_on = g.met.M.Moves.goes_none c.args.moves.now who c.args.order.group c.requires.ready;
      stays = laws.stays_none s;
      stop = laws.stops_after state who s s i j c.requires.moving.mover went c.settle.ensures.room (laws.moving_stops state who s i c.requires.moving);
      stores = went;
    }

pub returns-in_err-copied-clause-tried : goal.returns-in_err-copied-clause-tried
returns-in_err-copied-clause-tried g c =
    let who = c.args.order.who in
    laws.err_of c.from_residual.result _ (laws.tries_same (g.M.Moves.comes c.args.moves.now who) who (g.met.M.Moves.others c.args.moves.now who) (g.M.Moves.seen c.args.moves.now c.args.order.group))

pub catch_up_all-requires-clause-moving : goal.catch_up_all-requires-clause-moving
catch_up_all-requires-clause-moving g c κs within =
    let s = g.M.Moves.seen c.args.moves.now c.args.order.group in
    laws.moving_settled g.S.Store.state c.args.order.who s c.args.incoming.now c.settle.new.self c.requires.moving
    (c.in_ok-copied.ensures.incoming (station_of s.journal).target s.journal.entries s.tables c.requires.moving.incoming)

pub returns-in_err-caught-clause-way : goal.returns-in_err-caught-clause-way
returns-in_err-caught-clause-way g c =
    let state = g.S.Store.state in
    let i = c.args.incoming.now in
    let j = c.settle.new.self in
    later_way state c.args.order.who _ _ _ _ _ i j c.catch_up_all.new.incoming
    (arriving_goes_on state i.tables.items j.tables.items (settled_either state c.settle.result i.tables.items j.tables.items c.settle.ensures.ok c.settle.ensures.err)) c.catch_up_all.ensures.way

pub returns-in_err-caught-clause-blame : goal.returns-in_err-caught-clause-blame
returns-in_err-caught-clause-blame g c =
    let state = g.S.Store.state in
    let i = c.args.incoming.now in
    let j = c.settle.new.self in
    let blamed = blames_later state c.in_err-caught.field-0.0 (arriving i) (arriving j) (arriving c.catch_up_all.new.incoming)
    (arriving_goes_on state i.tables.items j.tables.items (settled_either state c.settle.result i.tables.items j.tables.items c.settle.ensures.ok c.settle.ensures.err)) c.in_err-caught.ensures.blame in
    search rules

pub returns-clause-way : goal.returns-clause-way
returns-clause-way g c =
    let state = g.S.Store.state in
    let i = c.args.incoming.now in
    let j = c.settle.new.self in
    later_way state c.args.order.who _ _ _ _ _ i j c.catch_up_all.new.incoming
    (arriving_goes_on state i.tables.items j.tables.items (settled_either state c.settle.result i.tables.items j.tables.items c.settle.ensures.ok c.settle.ensures.err)) c.catch_up_all.ensures.way
