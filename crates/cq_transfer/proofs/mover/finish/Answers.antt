use Rattle.std.proofs.Common.{refl}
use Rattle.cq_group.specs.Incoming.{arriving}
use Rattle.cq_group.proofs.TableLaws.{blames_later}
use Rattle.cq_move.proofs.StoreLaws.{go_on_twice}
use Rattle.cq_transfer.proofs.PassLaws.{comes_in, stops_after}
use Rattle.cq_transfer.proofs.EndLaws as laws
use Rattle.cq_transfer.proofs.mover.finish.Goals as goal

pub returns-in-Err-clause-keeps : goal.returns-in-Err-clause-keeps
returns-in-Err-clause-keeps g c =
    g.met.M.Moves.keeps_twice c.args.order.group c.args.moves.now c.follow.new.moves c.stop.new.moves c.follow.ensures.way.keeps c.stop.ensures.keeps

pub returns-in-Err-clause-stops : goal.returns-in-Err-clause-stops
returns-in-Err-clause-stops g c =
    let who = c.args.order.who in
    let group = c.args.order.group in
    let old = c.args.moves.now in
    let mid = c.follow.new.moves in
    laws.comes_to_stop g.S.Store.state (g.M.Moves.comes old who) (g.M.Moves.comes mid who) who (g.met.M.Moves.others old who) (λ e k. g.met.M.Moves.comes_still group old mid who e c.follow.ensures.way.keeps k)
    c.in-Err.why (arriving c.args.incoming) (arriving c.follow.new.incoming) c.stop.result (g.M.Moves.seen old group) (g.M.Moves.seen mid group) (g.M.Moves.seen c.stop.new.moves group)
    c.in-Err.ensures.tried c.follow.ensures.way.stores c.in-Err.ensures.blame c.stop.ensures.told c.stop.ensures.back

pub cutover-requires-clause-incoming : goal.cutover-requires-clause-incoming
cutover-requires-clause-incoming g c =
    comes_in g.S.Store.state c.args.order.who (g.M.Moves.seen c.follow.new.moves c.args.order.group) c.follow.new.incoming c.in-Ok.ensures.moving

pub cutover-requires-clause-spared : goal.cutover-requires-clause-spared
cutover-requires-clause-spared g c = λ node sp.
    laws.steady_went g.S.Store.state node (arriving c.args.incoming) (arriving c.follow.new.incoming) c.follow.ensures.way.stores
    (c.requires.spared node (g.met.M.Moves.spared_back c.args.order.group c.args.moves.now c.follow.new.moves node c.follow.ensures.way.keeps sp))

pub stop-requires-in-Err-cutover-clause-stop : goal.stop-requires-in-Err-cutover-clause-stop
stop-requires-in-Err-cutover-clause-stop g c =
    let seen = g.M.Moves.seen in
    stops_after g.S.Store.state c.args.order.who (seen c.follow.new.moves c.args.order.group) (seen c.cutover.new.self c.args.order.group) c.follow.new.incoming c.in-Err-cutover.failed.incoming
    c.in-Err-cutover.ensures.mover c.in-Err-cutover.ensures.stores c.in-Err-cutover.ensures.room c.follow.ensures.way.stop

pub returns-in-Err-cutover-clause-keeps : goal.returns-in-Err-cutover-clause-keeps
returns-in-Err-cutover-clause-keeps g c =
    let group = c.args.order.group in
    let old = c.args.moves.now in
    let mid = c.follow.new.moves in
    let cut = c.cutover.new.self in
    let new = c.stop-in-Err-cutover.new.moves in
    g.met.M.Moves.keeps_twice group old cut new (g.met.M.Moves.keeps_twice group old mid cut c.follow.ensures.way.keeps c.cutover.ensures.keeps) c.stop-in-Err-cutover.ensures.keeps

pub returns-in-Err-cutover-clause-stops : goal.returns-in-Err-cutover-clause-stops
returns-in-Err-cutover-clause-stops g c =
    let state = g.S.Store.state in
    let who = c.args.order.who in
    let group = c.args.order.group in
    let old = c.args.moves.now in
    let mid = c.follow.new.moves in
    let cut = c.cutover.new.self in
    let comes = g.M.Moves.comes old who in
    let others = g.met.M.Moves.others old who in
    let s = g.M.Moves.seen old group in
    let u = g.M.Moves.seen cut group in
    let failed = c.in-Err-cutover.failed in
    let kept = g.met.M.Moves.keeps_twice group old mid cut c.follow.ensures.way.keeps c.cutover.ensures.keeps in
    laws.comes_to_stop state comes (g.M.Moves.comes cut who) who others (λ e k. g.met.M.Moves.comes_still group old cut who e kept k) failed.why (arriving c.args.incoming) (arriving failed.incoming) c.stop-in-Err-cutover.result s u
    (g.M.Moves.seen c.stop-in-Err-cutover.new.moves group)
    (laws.tries_cutover state comes (g.M.Moves.comes mid who) who others (λ e k. g.met.M.Moves.comes_still group old mid who e c.follow.ensures.way.keeps k) _ c.cutover.result failed s (g.M.Moves.seen mid group) u c.in-Err-cutover.is c.in-Ok.ensures.caught c.cutover.ensures.told)
    (go_on_twice state (arriving c.args.incoming) (arriving c.follow.new.incoming) (arriving failed.incoming) c.follow.ensures.way.stores c.in-Err-cutover.ensures.stores)
    (blames_later state failed.why (arriving c.args.incoming) (arriving c.follow.new.incoming) (arriving failed.incoming) c.follow.ensures.way.stores c.in-Err-cutover.ensures.blame)
    c.stop-in-Err-cutover.ensures.told c.stop-in-Err-cutover.ensures.back

pub returns-clause-keeps : goal.returns-clause-keeps
returns-clause-keeps g c = g.met.M.Moves.keeps_twice c.args.order.group c.args.moves.now c.follow.new.moves c.cutover.new.self c.follow.ensures.way.keeps c.cutover.ensures.keeps

pub returns-clause-ends : goal.returns-clause-ends
returns-clause-ends g c =
    let who = c.args.order.who in
    let group = c.args.order.group in
    let old = c.args.moves.now in
    let mid = c.follow.new.moves in
    laws.comes_to_end g.S.Store.state (g.M.Moves.comes old who) (g.M.Moves.comes mid who) who (g.met.M.Moves.others old who) (λ e k. g.met.M.Moves.comes_still group old mid who e c.follow.ensures.way.keeps k)
    c.args.incoming.due c.cutover.result c.in-Ok-cutover.exchanged _ (g.M.Moves.seen old group) (g.M.Moves.seen mid group) (g.M.Moves.seen c.cutover.new.self group) c.follow.new.incoming
    c.in-Ok-cutover.is c.in-Ok.ensures.copied refl refl c.in-Ok.ensures.caught c.follow.ensures.way.stays c.in-Ok.ensures.moving c.cutover.ensures.told

pub returns-clause-steady : goal.returns-clause-steady
returns-clause-steady g c = λ node all given.
    c.in-Ok-cutover.ensures.steady node (g.met.M.Moves.steady_on c.args.order.group c.args.moves.now c.follow.new.moves node c.follow.ensures.way.keeps c.follow.ensures.way.goes_on all)
    (laws.steady_went g.S.Store.state node (arriving c.args.incoming) (arriving c.follow.new.incoming) c.follow.ensures.way.stores given)

pub returns-in-Err-clause-goes_on : goal.returns-in-Err-clause-goes_on
returns-in-Err-clause-goes_on g c =
    g.met.M.Moves.goes_twice c.args.order.group c.args.moves.now c.follow.new.moves c.stop.new.moves c.follow.ensures.way.keeps c.follow.ensures.way.goes_on c.stop.ensures.goes_on

pub returns-in-Err-cutover-clause-goes_on : goal.returns-in-Err-cutover-clause-goes_on
returns-in-Err-cutover-clause-goes_on g c =
    let group = c.args.order.group in
    let old = c.args.moves.now in
    let mid = c.follow.new.moves in
    let cut = c.cutover.new.self in
    g.met.M.Moves.goes_twice group old cut c.stop-in-Err-cutover.new.moves (g.met.M.Moves.keeps_twice group old mid cut c.follow.ensures.way.keeps c.cutover.ensures.keeps)
    (g.met.M.Moves.goes_twice group old mid cut c.follow.ensures.way.keeps c.follow.ensures.way.goes_on c.in-Err-cutover.ensures.goes_on) c.stop-in-Err-cutover.ensures.goes_on
