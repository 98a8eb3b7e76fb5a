use Rattle.std.proofs.Common.{◌∙◌, IsSome, length, map, refl, sym, ap, subst, arith}
use Rattle.std.specs.List.{AllZip, flat_map}
use Rattle.std.proofs.lemmas.List.{length-map}
use Rattle.cq_journal.specs.Stations.{station_of}
use Rattle.cq_group.specs.declared.group.GroupTable.{GroupTable}
use Rattle.cq_group.specs.declared.incoming.IncomingTable.{IncomingTable}
use Rattle.cq_group.specs.Groups.{outline, outlines, entries_of, journal_of, shapes, copies_of}
use Rattle.cq_group.specs.Calls.{GoesOn, Lifted}
use Rattle.cq_group.specs.Incoming.{IsIncomingTable, arriving}
use Rattle.cq_group.proofs.StartLaws.{length_zipped}
use Rattle.cq_group.proofs.MoveEntries.{slot_kept}
use Rattle.cq_group.proofs.CutoverLaws.{in_flight, flight, target_found, one_store, one_copy, one_each, left_stores, exchanged_outlines, exchanged_stores, exchanged_resting}
use Rattle.cq_group.proofs.group.GroupState.cutover.Goals as goal

pub exchange-requires : goal.exchange-requires
exchange-requires g c =
    let state = g.S.Store.state in
    let group = c.args.self.now in
    let node = (station_of (journal_of group)).target in
    let long = length_zipped state (IsIncomingTable state node (entries_of group)) (outlines group) c.bring.new.incoming.tables.items c.in-Ok.ensures.incoming.tables in
    let same = length-map group.tables.items outline in
    omega (arith, long, same)

pub push-requires : goal.push-requires
push-requires g c =
    let group = c.args.self.now in
    let move = c.requires.resting.kept.move in
    slot_kept (shapes group) (journal_of group) group.node group.journal.entries.room group.moving move (in_flight (shapes group) (journal_of group) group.node group.journal.entries.room group.moving c.args.who move c.requires.mover)

pub into_stores-requires-clause-room : goal.into_stores-requires-clause-room
into_stores-requires-clause-room g c =
    let state = g.S.Store.state in
    let group = c.args.self.now in
    let node = (station_of (journal_of group)).target in
    let k = c.requires.resting.kept in
    let some : IsSome group.moving = in_flight (shapes group) (journal_of group) group.node group.journal.entries.room group.moving c.args.who k.move c.requires.mover in
    let f = flight (shapes group) (journal_of group) group.node group.journal.entries.room group.moving k.move some in
    let one = one_store state group.node (copies_of group) (entries_of group) group.tables.items (one_copy group.node group.nodes f.distributed) k.tables in
    let inc = c.in-Ok.ensures.incoming in
    let us = c.bring.new.incoming.tables.items in
    let left = ap (λ ts. length (flat_map (λ (t : IncomingTable _). t.stores.items) ts)) c.exchange.ensures.arrived ∙ ap length (left_stores state node (entries_of group) group.tables.items us inc.tables) in
    let same = one_each state node (entries_of group) group.tables.items us one inc.tables in
    omega (arith, left, same, inc.room)

pub returns-clause-old : goal.returns-clause-old
returns-clause-old g c =
    let state = g.S.Store.state in
    let group = c.args.self.now in
    let node = (station_of (journal_of group)).target in
    c.into_stores.ensures ∙ ap (λ ts. flat_map (λ (t : IncomingTable _). t.stores.items) ts) c.exchange.ensures.arrived
    ∙ left_stores state node (entries_of group) group.tables.items c.bring.new.incoming.tables.items c.in-Ok.ensures.incoming.tables

pub returns-clause-new : goal.returns-clause-new
returns-clause-new g c =
    let state = g.S.Store.state in
    let group = c.args.self.now in
    let node = (station_of (journal_of group)).target in
    subst (λ ys. AllZip (Lifted state GoesOn) (arriving c.args.incoming) ys)
    (sym (ap (λ ts. flat_map (λ (t : GroupTable _). t.stores.items) ts) c.exchange.ensures.tables ∙ exchanged_stores state node (entries_of group) group.tables.items c.bring.new.incoming.tables.items c.in-Ok.ensures.incoming.tables))
    c.bring.ensures.stores

pub returns-clause-node : goal.returns-clause-node
returns-clause-node g c =
    let group = c.args.self.now in
    let k = c.requires.resting.kept in
    let some : IsSome group.moving = in_flight (shapes group) (journal_of group) group.node group.journal.entries.room group.moving c.args.who k.move c.requires.mover in
    target_found (shapes group) (journal_of group) group.node group.journal.entries.room group.moving c.target_of-self.result k.move some c.target_of-self.ensures

pub returns-clause-tables : goal.returns-clause-tables
returns-clause-tables g c =
    let state = g.S.Store.state in
    let group = c.args.self.now in
    let node = (station_of (journal_of group)).target in
    let k = c.requires.resting.kept in
    let some : IsSome group.moving = in_flight (shapes group) (journal_of group) group.node group.journal.entries.room group.moving c.args.who k.move c.requires.mover in
    let f = flight (shapes group) (journal_of group) group.node group.journal.entries.room group.moving k.move some in
    let one = one_store state group.node (copies_of group) (entries_of group) group.tables.items (one_copy group.node group.nodes f.distributed) k.tables in
    ap (λ ts. map outline ts) c.exchange.ensures.tables ∙ exchanged_outlines state node (entries_of group) group.tables.items c.bring.new.incoming.tables.items one c.in-Ok.ensures.incoming.tables

pub returns-clause-resting : goal.returns-clause-resting
returns-clause-resting g c =
    let state = g.S.Store.state in
    let group = c.args.self.now in
    let k = c.requires.resting.kept in
    let some : IsSome group.moving = in_flight (shapes group) (journal_of group) group.node group.journal.entries.room group.moving c.args.who k.move c.requires.mover in
    let at = target_found (shapes group) (journal_of group) group.node group.journal.entries.room group.moving c.target_of-self.result k.move some c.target_of-self.ensures in
    exchanged_resting state group _ c.args.who c.bring.new.incoming c.requires.resting some c.in-Ok.ensures.incoming c.in-Ok.ensures.settled c.exchange.ensures.tables at refl refl c.push.ensures.list refl refl
