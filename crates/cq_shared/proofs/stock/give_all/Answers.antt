use Rattle.std.proofs.Common.{◌≡◌, ◌+◌, ◌∙◌, ◌++◌, ◌∷◌, [], ℕ, List, length, length-append, sym, ap, subst, arith}
use Rattle.std.specs.List.{AllByRecursion}
use Rattle.std.proofs.lemmas.List.Sums.{sum_by_push}
use Rattle.cq_value.proofs.Lists.{all_left, all_right}
use Rattle.cq_move_calls.specs.Moving.{AreSteadyOn}
use Rattle.cq_shared.specs.Errands.{gaves, owed, gave_in, owed_in, node_in, give_note, TellsNothing}
use Rattle.cq_shared.specs.Stocks.{SendsSome, give_notes}
use Rattle.cq_shared.proofs.Errands.{steady_same}
use Rattle.cq_shared.proofs.Stocks.{sends_none, sends_some, sends_then, give_more}
use Rattle.cq_shared.proofs.stock.give_all.Goals as goal

pub loop-store-init : goal.loop-store-init
loop-store-init g c = record {
  rests = c.requires.rests;
  stood = λ h. h;
  sends = (0, omega arith, sends_none c.args.pass.now);
  on = c.requires.on;
  steady = c.requires.steady;
  owed = c.requires.owed;
}

pub loop-store-preserved : goal.loop-store-preserved
loop-store-preserved g c =
    let state = g.S.Store.state in
    let terms = g.L.Legality.terms in
    let at = c.loop-store in
    let inv = at.invariant in
    let p = c.args.pass.now in
    let rest = c.pop.new.self.items in
    let x = c.in-Some.store in
    let split : ◌≡◌ {A = List g.row.S.Denot} at.stores.items (rest ++ x ∷ []) = c.in-Some.ensures.items in
    let one = length-append rest (x ∷ []) in
    let many = ap length split in
    let many_sent = inv.sends.1 in
    let s = c.give_one.ensures.sends in
    let low = inv.owed in
    let gave = ap gaves s.mine ∙ sum_by_push gave_in at.pass.me.0.mine (give_note c.args.who) in
    let owes = ap owed s.mine ∙ sum_by_push owed_in at.pass.me.0.mine (give_note c.args.who) in
    record {
      rests = c.give_one.ensures.rests;
      stood = λ h. c.give_one.ensures.stood;
      sends = (
        inv.sends.0 + 1,
        omega (arith, many_sent, many, one),
        subst (λ l. SendsSome p l c.give_one.new.pass) (give_more c.args.who inv.sends.0)
            (sends_then p at.pass c.give_one.new.pass (give_notes c.args.who inv.sends.0) (give_note c.args.who ∷ []) inv.sends.2 (sends_some at.pass c.give_one.new.pass (give_note c.args.who ∷ []) TellsNothing ((c.requires.own ∙ sym inv.sends.2.same.3), tt) s)),
      );
      on = all_left _ rest (x ∷ []) (subst (AllByRecursion (λ (z : g.row.S.Denot). (state z).node ≡ node_in p.me.0.origin)) split inv.on);
      steady = λ node is. all_left _ rest (x ∷ []) (subst (AreSteadyOn state node) split (inv.steady node is));
      owed = omega (arith, low, gave, owes, many, one);
    }

pub give_one-requires-clause-steady : goal.give_one-requires-clause-steady
give_one-requires-clause-steady g c =
    let state = g.S.Store.state in
    let inv = c.loop-store.invariant in
    let p = c.args.pass.now in
    let rest = c.pop.new.self.items in
    let x = c.in-Some.store in
    let split : ◌≡◌ {A = List g.row.S.Denot} c.loop-store.stores.items (rest ++ x ∷ []) = c.in-Some.ensures.items in
    λ node is. (all_right _ rest (x ∷ []) (subst (AreSteadyOn state node) split (inv.steady node (steady_same g.L.Legality.terms p c.loop-store.pass inv.sends.2.same node is)))).0

pub returns-clause-sends : goal.returns-clause-sends
returns-clause-sends g c =
    let at = c.loop-store in
    let all = at.invariant.sends in
    let none = c.in_default.ensures.cases.0 in
    let many = all.1 in
    let is : all.0 ≡ length c.args.stores.items = omega (arith, none, many, at.stores.ok.0) in
    subst (λ (n : ℕ). SendsSome c.args.pass.now (give_notes c.args.who n) at.pass) is all.2
