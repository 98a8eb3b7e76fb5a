use Rattle.std.proofs.Common.{◌≡◌, ◌++◌, ◌∷◌, [], ℕ, List, All, Some, length, length-append, refl, sym, ap, subst, ◌∙◌, arith}
use Rattle.std.proofs.lemmas.List.Elements.{All-pop, All-push}
use Rattle.cq_store.specs.Stores.{StoreState}
use Rattle.cq_cluster.specs.Cluster.{IsWaiting}
use Rattle.cq_cluster.specs.Steady.{AreSteady}
use Rattle.cq_cluster.specs.Steps.{IsStoreOf}
use Rattle.cq_cluster.proofs.SteadyLaws.{as_steady, joined_one, steady_behind, steady_front}
use Rattle.cq_cluster.proofs.worker.release_all.Goals as goal

pub loop-store-init : goal.loop-store-init
loop-store-init g c = record {
  node = refl;
  waiting = c.requires.waiting;
  stores = c.requires.stores;
  total = refl;
  free = refl;
  enough = c.requires.room;
  steady = λ node all given. (all, given);
}

pub loop-store-preserved : goal.loop-store-preserved
loop-store-preserved g c =
    let state = g.S.Store.state in
    let at = c.loop-store in
    let rest = c.pop.new.self.items in
    let x = c.in-Some.store in
    let y = c.release.new.self in
    let is = c.release.ensures.state in
    let split : ◌≡◌ {A = List g.row.S.Denot} at.stores.items (rest ++ x ∷ []) = c.in-Some.ensures.items in
    let on = All-pop (λ s. IsStoreOf c.args.worker.now.node (state s)) at.stores.items rest (Some x) split at.invariant.stores in
    let one = length-append rest (x ∷ []) in
    let more = length-append at.worker.stores.items (y ∷ []) in
    let waits : IsWaiting at.worker.node (state y) = record {
      spare = record { spare = ap (λ (s : StoreState). s.shard) is; empty = ap (λ (s : StoreState). s.rows) is; nothing = ap (λ (s : StoreState). s.staged) is };
      of_node = ap (λ (s : StoreState). s.node) is ∙ on.1 ∙ sym at.invariant.node;
    } in
    record {
      node = c.give.ensures.node ∙ at.invariant.node;
      waiting = subst (λ (node : ℕ). All (λ s. IsWaiting node (state s)) c.give.new.self.stores.items) (sym c.give.ensures.node)
          (subst (λ (xs : List g.row.S.Denot). All (λ s. IsWaiting at.worker.node (state s)) xs) (sym c.give.ensures.stores) (All-push (λ s. IsWaiting at.worker.node (state s)) at.worker.stores.items y at.invariant.waiting waits));
      stores = on.0;
      total = omega (arith, at.invariant.total, ap length split, one, ap length c.give.ensures.stores, more);
      free = omega (arith, at.invariant.free, c.give.ensures.room, ap length split, one);
      enough = at.invariant.enough;
      steady = λ node all given.
          let was = at.invariant.steady node all given in
          let both = subst (λ (xs : List g.row.S.Denot). AreSteady state node xs) split was.1 in (
            joined_one state node at.worker.stores.items c.give.new.self.stores.items y c.give.ensures.stores was.0
                (as_steady node (state x) (state y) (ap (λ (s : StoreState). s.node) is) (ap (λ (s : StoreState). s.steady) is) (steady_behind state node rest (x ∷ []) both).0),
            steady_front state node rest (x ∷ []) both,
          );
    }

pub returns-clause-steady : goal.returns-clause-steady
returns-clause-steady g c node all given = (c.loop-store.invariant.steady node all given).0
