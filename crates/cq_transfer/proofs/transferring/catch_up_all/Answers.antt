use Rattle.std.proofs.Common.{rules, ◌≡◌, ◌<◌, ◌+◌, inr, List, refl, subst, sym}
use Rattle.cq_group.specs.Incoming.{arriving}
use Rattle.cq_group.proofs.TableLaws.{blames_later}
use Rattle.cq_history.specs.Journals.{Step}
use Rattle.cq_history.specs.Moves.{AreRounds}
use Rattle.cq_transfer.specs.Entering.{HasCaught}
use Rattle.cq_transfer.proofs.PassLaws.{any_told, err_of, stays_none, stays_twice}
use Rattle.cq_tree.specs.declared.journal.Entry.{Entry}
use Rattle.cq_reach.specs.Seen.{Seen}
use Rattle.cq_move.proofs.StoreLaws.{go_on_same, go_on_twice}
use Rattle.cq_transfer.proofs.LoopLaws as loop
use Rattle.cq_transfer.proofs.RoundLaws.{IsLoop, loop_begins}
use Rattle.cq_transfer.proofs.transferring.catch_up_all.Goals as goal

-- src/transferring.rt:75:5
pub loop-round-init : goal.loop-round-init
loop-round-init g c =
    let state = g.S.Store.state in
    let who = c.args.order.who in
    let s = g.M.Moves.seen c.args.moves.now c.args.order.group in
    let i = c.args.incoming.now in
    record {
      ready = c.requires.ready;
      keeps = g.met.M.Moves.keeps_none c.args.moves.now who c.args.order.group c.requires.ready;
      goes_on = g.met.M.Moves.goes_none c.args.moves.now who c.args.order.group c.requires.ready;
      stays = stays_none s;
      moving = c.requires.moving;
      settled = c.requires.settled;
      stores = go_on_same state (arriving i) (arriving i) refl;
      rounds = λ first b. loop_begins (g.M.Moves.comes c.args.moves.now who) who first s b;
    }

-- src/transferring.rt:77:23
pub returns-in_err-changes-clause-way : goal.returns-in_err-changes-clause-way
returns-in_err-changes-clause-way g c =
    let group = c.args.order.group in
    let seen : g.row.M.Denot → Seen = λ m. g.M.Moves.seen m group in
    let inv = c.loop-round.invariant in
    let way = c.catch_up_once.ensures.way in
    loop.then_way g.S.Store.state c.args.order.who _ _ _ _ _ (seen c.args.moves.now) (seen c.loop-round.moves) (seen c.catch_up_once.new.moves) c.args.incoming.now c.loop-round.incoming c.catch_up_once.new.incoming
    (g.met.M.Moves.keeps_twice group c.args.moves.now c.loop-round.moves c.catch_up_once.new.moves inv.keeps way.keeps)
    (g.met.M.Moves.goes_twice group c.args.moves.now c.loop-round.moves c.catch_up_once.new.moves inv.keeps inv.goes_on way.goes_on) inv.stays inv.stores way

-- src/transferring.rt:77:23
pub returns-in_err-changes-clause-tried : goal.returns-in_err-changes-clause-tried
returns-in_err-changes-clause-tried g c =
    let who = c.args.order.who in
    let group = c.args.order.group in
    let comes = g.M.Moves.comes c.args.moves.now who in
    let later = g.M.Moves.comes c.loop-round.moves who in
    let still : (e : Entry) → later e → comes e = λ e. g.met.M.Moves.comes_still group c.args.moves.now c.loop-round.moves who e c.loop-round.invariant.keeps in
    let others = g.met.M.Moves.others c.args.moves.now who in
    let seen : g.row.M.Denot → Seen = λ m. g.M.Moves.seen m group in
    let old = seen c.args.moves.now in
    let mid = seen c.loop-round.moves in
    let new = seen c.catch_up_once.new.moves in
    let low : c.loop-round.round < 8 = search rules in
    err_of c.from_residual.result _ (λ first b. loop.loop_tried comes who others first c.loop-round.caught c.loop-round.round old mid (c.loop-round.invariant.rounds first b) new low (loop.once_weaker later comes who still mid new c.in_err-changes.ensures.tried))

-- src/transferring.rt:77:23
pub returns-in_err-changes-clause-blame : goal.returns-in_err-changes-clause-blame
returns-in_err-changes-clause-blame g c =
    let state = g.S.Store.state in
    let blamed = blames_later state c.in_err-changes.field-0.0 (arriving c.args.incoming.now) (arriving c.loop-round.incoming) (arriving c.catch_up_once.new.incoming) c.loop-round.invariant.stores c.in_err-changes.ensures.blame in
    search rules

-- src/transferring.rt:79:18
pub returns-in_err-caught-clause-way : goal.returns-in_err-caught-clause-way
returns-in_err-caught-clause-way g c =
    let group = c.args.order.group in
    let seen : g.row.M.Denot → Seen = λ m. g.M.Moves.seen m group in
    let inv = c.loop-round.invariant in
    let way = c.catch_up_once.ensures.way in
    loop.then_way g.S.Store.state c.args.order.who _ _ _ _ _ (seen c.args.moves.now) (seen c.loop-round.moves) (seen c.catch_up_once.new.moves) c.args.incoming.now c.loop-round.incoming c.catch_up_once.new.incoming
    (g.met.M.Moves.keeps_twice group c.args.moves.now c.loop-round.moves c.catch_up_once.new.moves inv.keeps way.keeps)
    (g.met.M.Moves.goes_twice group c.args.moves.now c.loop-round.moves c.catch_up_once.new.moves inv.keeps inv.goes_on way.goes_on) inv.stays inv.stores way

-- src/transferring.rt:79:18
pub returns-in_err-caught-clause-tried : goal.returns-in_err-caught-clause-tried
returns-in_err-caught-clause-tried g c =
    let who = c.args.order.who in
    let group = c.args.order.group in
    let comes = g.M.Moves.comes c.args.moves.now who in
    let later = g.M.Moves.comes c.loop-round.moves who in
    let still : (e : Entry) → later e → comes e = λ e. g.met.M.Moves.comes_still group c.args.moves.now c.loop-round.moves who e c.loop-round.invariant.keeps in
    let others = g.met.M.Moves.others c.args.moves.now who in
    let seen : g.row.M.Denot → Seen = λ m. g.M.Moves.seen m group in
    let old = seen c.args.moves.now in
    let mid = seen c.loop-round.moves in
    let new = seen c.catch_up_once.new.moves in
    let low : c.loop-round.round < 8 = search rules in
    err_of c.from_residual-in_err-caught.result _ (λ first b. loop.loop_tried comes who others first c.loop-round.caught c.loop-round.round old mid (c.loop-round.invariant.rounds first b) new low
    (inr (any_told comes who c.in_ok-changes.changes mid new (loop.catches_weaker later comes who still c.in_ok-changes.changes mid new c.in_ok-changes.ensures.caught))))

-- src/transferring.rt:81:13
pub returns-then-changes-eq0-clause-way : goal.returns-then-changes-eq0-clause-way
returns-then-changes-eq0-clause-way g c =
    let group = c.args.order.group in
    let seen : g.row.M.Denot → Seen = λ m. g.M.Moves.seen m group in
    let inv = c.loop-round.invariant in
    let way = c.catch_up_once.ensures.way in
    loop.then_way g.S.Store.state c.args.order.who _ _ _ _ _ (seen c.args.moves.now) (seen c.loop-round.moves) (seen c.catch_up_once.new.moves) c.args.incoming.now c.loop-round.incoming c.catch_up_once.new.incoming
    (g.met.M.Moves.keeps_twice group c.args.moves.now c.loop-round.moves c.catch_up_once.new.moves inv.keeps way.keeps)
    (g.met.M.Moves.goes_twice group c.args.moves.now c.loop-round.moves c.catch_up_once.new.moves inv.keeps inv.goes_on way.goes_on) inv.stays inv.stores way

-- src/transferring.rt:81:13
pub returns-then-changes-eq0-clause-caught : goal.returns-then-changes-eq0-clause-caught
returns-then-changes-eq0-clause-caught g c first b =
    let who = c.args.order.who in
    let group = c.args.order.group in
    let comes = g.M.Moves.comes c.args.moves.now who in
    let later = g.M.Moves.comes c.loop-round.moves who in
    let still : (e : Entry) → later e → comes e = λ e. g.met.M.Moves.comes_still group c.args.moves.now c.loop-round.moves who e c.loop-round.invariant.keeps in
    let others = g.met.M.Moves.others c.args.moves.now who in
    let seen : g.row.M.Denot → Seen = λ m. g.M.Moves.seen m group in
    let old = seen c.args.moves.now in
    let mid = seen c.loop-round.moves in
    let new = seen c.catch_up_once.new.moves in
    let low : c.loop-round.round < 8 = search rules in
    let sum : c.in_ok-caught.caught ≡ c.loop-round.caught + c.in_ok-changes.changes = search rules in
    subst (λ n. (rounds : List Step) × HasCaught comes who first n rounds old new × AreRounds 1 first rounds) (sym sum)
    (loop.loop_ends comes who others first c.loop-round.caught c.loop-round.round old mid (c.loop-round.invariant.rounds first b) c.in_ok-changes.changes new c.loop-round.invariant.moving.last
    (loop.catches_weaker later comes who still c.in_ok-changes.changes mid new c.in_ok-changes.ensures.caught) c.if-changes-eq0.true low)

-- src/transferring.rt:75:5
pub loop-round-preserved : goal.loop-round-preserved
loop-round-preserved g c =
    let who = c.args.order.who in
    let group = c.args.order.group in
    let comes = g.M.Moves.comes c.args.moves.now who in
    let later = g.M.Moves.comes c.loop-round.moves who in
    let still : (e : Entry) → later e → comes e = λ e. g.met.M.Moves.comes_still group c.args.moves.now c.loop-round.moves who e c.loop-round.invariant.keeps in
    let others = g.met.M.Moves.others c.args.moves.now who in
    let seen : g.row.M.Denot → Seen = λ m. g.M.Moves.seen m group in
    let old = seen c.args.moves.now in
    let mid = seen c.loop-round.moves in
    let new = seen c.catch_up_once.new.moves in
    let way = c.catch_up_once.ensures.way in
    let inv = c.loop-round.invariant in
    let sum : c.in_ok-caught.caught ≡ c.loop-round.caught + c.in_ok-changes.changes = search rules in
    let some : 0 < c.in_ok-changes.changes = search rules in
    record {
      ready = way.ready;
      keeps = g.met.M.Moves.keeps_twice group c.args.moves.now c.loop-round.moves c.catch_up_once.new.moves inv.keeps way.keeps;
      goes_on = g.met.M.Moves.goes_twice group c.args.moves.now c.loop-round.moves c.catch_up_once.new.moves inv.keeps inv.goes_on way.goes_on;
      stays = stays_twice old mid new inv.stays way.stays;
      moving = c.in_ok-changes.ensures.moving;
      settled = c.in_ok-changes.ensures.settled;
      stores = go_on_twice g.S.Store.state (arriving c.args.incoming.now) (arriving c.loop-round.incoming) (arriving c.catch_up_once.new.incoming) inv.stores way.stores;
      rounds = λ first b. subst (λ n. IsLoop comes who first n (c.loop-round.round + 1) old new) (sym sum)
          (loop.loop_more comes who others first c.loop-round.caught c.loop-round.round old mid (inv.rounds first b) c.in_ok-changes.changes new inv.moving.last
          (loop.catches_weaker later comes who still c.in_ok-changes.changes mid new c.in_ok-changes.ensures.caught) some);
    }

-- src/transferring.rt:57:1
pub returns-clause-caught : goal.returns-clause-caught
returns-clause-caught g c first b =
    let who = c.args.order.who in
    let seen : g.row.M.Denot → Seen = λ m. g.M.Moves.seen m c.args.order.group in
    let all : c.loop-round.round ≡ 8 = search rules in
    loop.loop_full (g.M.Moves.comes c.args.moves.now who) who (g.met.M.Moves.others c.args.moves.now who) first c.loop-round.caught c.loop-round.round (seen c.args.moves.now) (seen c.loop-round.moves) (c.loop-round.invariant.rounds first b) all
