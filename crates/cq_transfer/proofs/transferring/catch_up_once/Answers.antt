use Rattle.std.proofs.Common.{inl, inr, subst}
use Rattle.std.specs.List.{AllZip}
use Rattle.cq_journal.specs.Stations.{station_of}
use Rattle.cq_group.specs.Calls.{GoesOn, Lifted}
use Rattle.cq_group.specs.Incoming.{IsIncoming, arriving}
use Rattle.cq_group.proofs.StartLaws.{on_ok}
use Rattle.cq_group.proofs.IncomingLaws.{can_settle, settled_either, arriving_goes_on}
use Rattle.cq_transfer.specs.Carrying.{IsMoving}
use Rattle.cq_move.proofs.StoreLaws.{go_on_same}
use Rattle.cq_transfer.proofs.PassLaws as laws
use Rattle.cq_transfer.proofs.transferring.catch_up_once.Goals as goal

pub catch_up-requires-clause-incoming : goal.catch_up-requires-clause-incoming
catch_up-requires-clause-incoming g c = laws.comes_in g.S.Store.state c.args.order.who (g.M.Moves.seen c.args.moves.now c.args.order.group) c.args.incoming.now c.requires.moving

pub returns-in-Err-clause-way : goal.returns-in-Err-clause-way
returns-in-Err-clause-way g c =
    let state = g.S.Store.state in
    let who = c.args.order.who in
    let s = g.M.Moves.seen c.args.moves.now c.args.order.group in
    let t = g.M.Moves.seen c.catch_up.new.self c.args.order.group in
    let i = c.args.incoming.now in
    let j = c.catch_up.new.incoming in
    let told = laws.err_told (g.M.Moves.comes c.args.moves.now who) who c.catch_up.result _ s t c.in-Err.is c.catch_up.ensures.told in
    let same = go_on_same state (arriving i) (arriving j) c.catch_up.ensures.stores in
    record {
      ready = c.catch_up.ensures.ready;
      keeps = c.catch_up.ensures.keeps;
      goes_on = c.catch_up.ensures.goes_on;
      stays = laws.told_stays_none (g.M.Moves.comes c.args.moves.now who) who _ s t told;
      stop = laws.stops_after state who s t i j c.catch_up.ensures.mover same c.in-Err.ensures.kept.room (laws.moving_stops state who s i c.requires.moving);
      stores = same;
    }

pub returns-in-Err-clause-tried : goal.returns-in-Err-clause-tried
returns-in-Err-clause-tried g c =
    let who = c.args.order.who in
    let s = g.M.Moves.seen c.args.moves.now c.args.order.group in
    let t = g.M.Moves.seen c.catch_up.new.self c.args.order.group in
    let comes = g.M.Moves.comes c.args.moves.now who in
    inl (laws.err_told comes who c.catch_up.result _ s t c.in-Err.is c.catch_up.ensures.told)

pub settle-requires : goal.settle-requires
settle-requires g c =
    let state = g.S.Store.state in
    let who = c.args.order.who in
    let s = g.M.Moves.seen c.args.moves.now c.args.order.group in
    let t = g.M.Moves.seen c.catch_up.new.self c.args.order.group in
    let comes = g.M.Moves.comes c.args.moves.now who in
    let m = laws.moving_caught state who comes c.catch_up.result _ s t c.catch_up.new.incoming c.in-Ok.is c.catch_up.ensures.told c.catch_up.ensures.mover c.catch_up.ensures.incoming in
    can_settle state (station_of t.journal).target t.journal.entries t.tables c.catch_up.new.incoming m.incoming

pub returns-in-Ok-clause-way : goal.returns-in-Ok-clause-way
returns-in-Ok-clause-way g c =
    let state = g.S.Store.state in
    let who = c.args.order.who in
    let s = g.M.Moves.seen c.args.moves.now c.args.order.group in
    let t = g.M.Moves.seen c.catch_up.new.self c.args.order.group in
    let comes = g.M.Moves.comes c.args.moves.now who in
    let i = c.catch_up.new.incoming in
    let j = c.settle.new.self in
    let m = laws.moving_caught state who comes c.catch_up.result _ s t i c.in-Ok.is c.catch_up.ensures.told c.catch_up.ensures.mover c.catch_up.ensures.incoming in
    let went = arriving_goes_on state i.tables.items j.tables.items (settled_either state c.settle.result i.tables.items j.tables.items c.settle.ensures.ok c.settle.ensures.err) in
    record {
      ready = c.catch_up.ensures.ready;
      keeps = c.catch_up.ensures.keeps;
      goes_on = c.catch_up.ensures.goes_on;
      stays = laws.caught_stays comes who _ s t (laws.ok_told comes who c.catch_up.result _ s t c.in-Ok.is c.catch_up.ensures.told);
      stop = laws.stops_after state who t t i j c.catch_up.ensures.mover went c.settle.ensures.room (laws.moving_stops state who t i m);
      stores = subst (λ xs. AllZip (Lifted state GoesOn) xs (arriving j)) c.catch_up.ensures.stores went;
    }

pub returns-in-Ok-clause-caught : goal.returns-in-Ok-clause-caught
returns-in-Ok-clause-caught g c =
    let who = c.args.order.who in
    let s = g.M.Moves.seen c.args.moves.now c.args.order.group in
    let t = g.M.Moves.seen c.catch_up.new.self c.args.order.group in
    let comes = g.M.Moves.comes c.args.moves.now who in
    laws.caught_as comes who c.settle.result _ c.catch_up.new.incoming.due s t c.in-Ok.ensures.due c.settle.ensures.due (laws.ok_told comes who c.catch_up.result _ s t c.in-Ok.is c.catch_up.ensures.told)

pub returns-in-Ok-clause-moving : goal.returns-in-Ok-clause-moving
returns-in-Ok-clause-moving g c =
    let state = g.S.Store.state in
    let who = c.args.order.who in
    let s = g.M.Moves.seen c.args.moves.now c.args.order.group in
    let t = g.M.Moves.seen c.catch_up.new.self c.args.order.group in
    let comes = g.M.Moves.comes c.args.moves.now who in
    let i = c.catch_up.new.incoming in
    let j = c.settle.new.self in
    let m = laws.moving_caught state who comes c.catch_up.result _ s t i c.in-Ok.is c.catch_up.ensures.told c.catch_up.ensures.mover c.catch_up.ensures.incoming in
    on_ok c.settle.result (IsIncoming state (station_of t.journal).target t.journal.entries t.tables j) (IsMoving state who t j) (λ k. laws.moving_settled state who t i j m k)
    (c.settle.ensures.incoming (station_of t.journal).target t.journal.entries t.tables m.incoming)

pub returns-in-Ok-clause-tried : goal.returns-in-Ok-clause-tried
returns-in-Ok-clause-tried g c =
    let who = c.args.order.who in
    let s = g.M.Moves.seen c.args.moves.now c.args.order.group in
    let t = g.M.Moves.seen c.catch_up.new.self c.args.order.group in
    let comes = g.M.Moves.comes c.args.moves.now who in
    laws.err_of c.settle.result _ (inr (laws.any_told comes who _ s t (laws.ok_told comes who c.catch_up.result _ s t c.in-Ok.is c.catch_up.ensures.told)))
