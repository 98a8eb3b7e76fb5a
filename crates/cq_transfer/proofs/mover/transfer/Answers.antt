use Rattle.std.proofs.Common.{◌≡◌, ◌∙◌, ℕ, true, length, sym, ap}
use Rattle.std.specs.List.{AllZip}
use Rattle.cq_value.proofs.Lists.{if_ok}
use Rattle.cq_group.specs.Calls.{Lifted}
use Rattle.cq_group.specs.Incoming.{arriving}
use Rattle.cq_group.proofs.Zips.{on_err}
use Rattle.cq_move_calls.specs.Moving.{AreSteadyOn}
use Rattle.cq_move.specs.Outcomes.{IsTried}
use Rattle.cq_move.proofs.StoreLaws.{given_back, given_same, if_err}
use Rattle.cq_transfer.specs.Entering.{HasMoved}
use Rattle.cq_transfer.specs.Carrying.{AreOf, ComesToEnd, ComesToStop, IsGivenUp}
use Rattle.cq_transfer.proofs.EndLaws as laws
use Rattle.cq_transfer.proofs.mover.transfer.Goals as goal

pub finish-requires-clause-moving : goal.finish-requires-clause-moving
finish-requires-clause-moving g c κs within =
    let who = c.args.order.who in
    let old = c.args.moves.now in
    let mid = c.start.new.self in
    laws.begun_moving g.S.Store.state (g.M.Moves.comes old who) (g.M.Moves.comes mid who) who (g.met.M.Moves.others old who) (λ e k. g.met.M.Moves.comes_still c.args.order.group old mid who e c.start.ensures.keeps k)
    c.args.order.from c.args.order.to (g.M.Moves.seen old c.args.order.group) (g.M.Moves.seen mid c.args.order.group) c.start.result c.in-Ok.incoming c.in-Ok.is c.start.ensures.told c.in-Ok.ensures.mover c.in-Ok.ensures.incoming

pub finish-requires-clause-spared : goal.finish-requires-clause-spared
finish-requires-clause-spared g c κs within = λ node sp.
    laws.steady_adopted g.S.Store.state node c.args.stores.items (arriving c.in-Ok.incoming) c.in-Ok.ensures.stores
    (c.requires.spared node (g.met.M.Moves.spared_back c.args.order.group c.args.moves.now c.start.new.self node c.start.ensures.keeps sp))

pub returns-in-Ok-clause-keeps : goal.returns-in-Ok-clause-keeps
returns-in-Ok-clause-keeps g c =
    g.met.M.Moves.keeps_twice c.args.order.group c.args.moves.now c.start.new.self c.finish.new.moves c.start.ensures.keeps c.finish.ensures.keeps

pub returns-in-Ok-clause-moved : goal.returns-in-Ok-clause-moved
returns-in-Ok-clause-moved g c =
    let who = c.args.order.who in
    let group = c.args.order.group in
    let old = c.args.moves.now in
    let mid = c.start.new.self in
    let s = g.M.Moves.seen old group in
    let t = g.M.Moves.seen mid group in
    let u = g.M.Moves.seen c.finish.new.moves group in
    if_ok c.finish.result (λ m. ComesToEnd g.S.Store.state (g.M.Moves.comes mid who) who c.in-Ok.incoming.due m t u) (λ m. HasMoved (g.M.Moves.comes old who) who c.args.order.from c.args.order.to m.report s u)
    (λ m k. laws.ends_moved g.S.Store.state (g.M.Moves.comes old who) (g.M.Moves.comes mid who) who (g.met.M.Moves.others old who) (λ e h. g.met.M.Moves.comes_still group old mid who e c.start.ensures.keeps h)
    c.args.order.from c.args.order.to s t c.start.result c.in-Ok.incoming c.in-Ok.is c.start.ensures.told u m k)
    c.finish.ensures.ends

pub returns-in-Ok-clause-old : goal.returns-in-Ok-clause-old
returns-in-Ok-clause-old g c =
    let who = c.args.order.who in
    let group = c.args.order.group in
    let old = c.args.moves.now in
    let mid = c.start.new.self in
    let s = g.M.Moves.seen old group in
    let t = g.M.Moves.seen mid group in
    let u = g.M.Moves.seen c.finish.new.moves group in
    if_ok c.finish.result (λ m. ComesToEnd g.S.Store.state (g.M.Moves.comes mid who) who c.in-Ok.incoming.due m t u) (λ m. AreOf g.S.Store.state c.args.order.from (length c.args.stores.items) m.stores.items)
    (λ m k. laws.ends_old g.S.Store.state (g.M.Moves.comes old who) (g.M.Moves.comes mid who) who (g.met.M.Moves.others old who) (λ e h. g.met.M.Moves.comes_still group old mid who e c.start.ensures.keeps h)
    c.args.order.from c.args.order.to s t c.start.result c.in-Ok.incoming c.in-Ok.is c.start.ensures.told u m c.args.stores.items c.requires.one k)
    c.finish.ensures.ends

pub returns-in-Ok-clause-steady : goal.returns-in-Ok-clause-steady
returns-in-Ok-clause-steady g c =
    let state = g.S.Store.state in
    let group = c.args.order.group in
    let old = c.args.moves.now in
    let mid = c.start.new.self in
    let new = c.finish.new.moves in
    if_ok c.finish.result (λ m. (node : ℕ) → g.M.Moves.steady mid node → AreSteadyOn state node (arriving c.in-Ok.incoming) → g.M.Moves.steady new node × AreSteadyOn state node m.stores.items)
    (λ m. (node : ℕ) → g.M.Moves.steady old node → AreSteadyOn state node c.args.stores.items → g.M.Moves.steady new node × AreSteadyOn state node m.stores.items)
    (λ m k node all given. k node (g.met.M.Moves.steady_on group old mid node c.start.ensures.keeps c.start.ensures.goes_on all) (laws.steady_adopted state node c.args.stores.items (arriving c.in-Ok.incoming) c.in-Ok.ensures.stores given))
    c.finish.ensures.steady

pub returns-in-Ok-clause-refused : goal.returns-in-Ok-clause-refused
returns-in-Ok-clause-refused g c =
    let who = c.args.order.who in
    let group = c.args.order.group in
    let mid = c.start.new.self in
    if_err c.finish.result (λ e. ComesToStop g.S.Store.state (g.M.Moves.comes mid who) who (arriving c.in-Ok.incoming) e (g.M.Moves.seen mid group) (g.M.Moves.seen c.finish.new.moves group)) _
    (λ e k b. absurd (let begun = k.begun in cc (sym begun ∙ b))) c.finish.ensures.stops

pub returns-in-Ok-clause-stopped : goal.returns-in-Ok-clause-stopped
returns-in-Ok-clause-stopped g c =
    let who = c.args.order.who in
    let group = c.args.order.group in
    let old = c.args.moves.now in
    let mid = c.start.new.self in
    let s = g.M.Moves.seen old group in
    let t = g.M.Moves.seen mid group in
    let u = g.M.Moves.seen c.finish.new.moves group in
    let given = c.args.stores.items in
    if_err c.finish.result (λ e. ComesToStop g.S.Store.state (g.M.Moves.comes mid who) who (arriving c.in-Ok.incoming) e t u)
    (λ e. e.begun ≡ true → IsGivenUp g.S.Store.state (g.M.Moves.comes old who) who c.args.order.from c.args.order.to given e s u)
    (λ e k b. laws.ends_given_up g.S.Store.state (g.M.Moves.comes old who) (g.M.Moves.comes mid who) who (g.met.M.Moves.others old who) (λ e h. g.met.M.Moves.comes_still group old mid who e c.start.ensures.keeps h)
    c.args.order.from c.args.order.to s t c.start.result c.in-Ok.incoming c.in-Ok.is c.start.ensures.told u e given c.in-Ok.ensures.incoming c.in-Ok.ensures.stores k)
    c.finish.ensures.stops

pub returns-in-Ok-clause-back : goal.returns-in-Ok-clause-back
returns-in-Ok-clause-back g c =
    let who = c.args.order.who in
    let group = c.args.order.group in
    let mid = c.start.new.self in
    let given = c.args.stores.items in
    if_err c.finish.result (λ e. ComesToStop g.S.Store.state (g.M.Moves.comes mid who) who (arriving c.in-Ok.incoming) e (g.M.Moves.seen mid group) (g.M.Moves.seen c.finish.new.moves group))
    (λ e. AllZip (Lifted g.S.Store.state IsTried) given e.stores.items)
    (λ e k. given_back g.S.Store.state given (arriving c.in-Ok.incoming) e.stores.items c.in-Ok.ensures.stores k.stores) c.finish.ensures.stops

pub returns-in-Err-clause-refused : goal.returns-in-Err-clause-refused
returns-in-Err-clause-refused g c = λ b.
    let group = c.args.order.group in
    let old = c.args.moves.now in
    record {
      told = laws.refused_told g.S.Store.state (g.M.Moves.comes old c.args.order.who) (g.M.Moves.comes old c.args.order.who) c.args.order.who (g.met.M.Moves.others old c.args.order.who) (λ e h. h) c.args.order.from c.args.order.to
          (g.M.Moves.seen old group) (g.M.Moves.seen c.start.new.self group) c.start.result c.in-Err.field-0 c.in-Err.is c.start.ensures.told;
      failed = c.in-Err.ensures.failed;
      stores = ap (λ v. v.items) c.in-Err.ensures.back;
    }

pub returns-in-Err-clause-back : goal.returns-in-Err-clause-back
returns-in-Err-clause-back g c = given_same g.S.Store.state c.args.stores.items c.in-Err.field-0.stores.items (ap (λ v. v.items) c.in-Err.ensures.back)

pub returns-in-Ok-clause-goes_on : goal.returns-in-Ok-clause-goes_on
returns-in-Ok-clause-goes_on g c =
    let group = c.args.order.group in
    let old = c.args.moves.now in
    let mid = c.start.new.self in
    let new = c.finish.new.moves in
    on_err c.finish.result (g.M.Moves.goes_on group mid new) (g.M.Moves.goes_on group old new) (λ k. g.met.M.Moves.goes_twice group old mid new c.start.ensures.keeps c.start.ensures.goes_on k) c.finish.ensures.goes_on
