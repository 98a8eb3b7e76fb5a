-- A session's hands as it comes to a group with the stores that it took, and what the move of a shard comes to.
use Rattle.std.proofs.Common.{◌≡◌, ◌≢◌, ◌⊎◌, inl, inr, ℕ, suc, ◌<◌, ◌≤◌, true, cond, List, [], ◌∷◌, length, refl, sym, ap, ◌∙◌, subst, arith, Some, None, slice_get, Result, Err}
use Rattle.std.specs.Prelude.{nat_eq, nat_lt, ◌||◌}
use Rattle.std.specs.List.{AllZip}
use Rattle.std.proofs.lemmas.Option.{same_Some}
use Rattle.atomic_table.specs.Seated.{TableId}
use Rattle.cq_value.proofs.Truths.{two_ways}
use Rattle.cq_tree.specs.declared.journal.Who.{Who}
use Rattle.cq_catalog.specs.Contents.{Contents}
use Rattle.cq_catalog.specs.Placement.{group_of_shard}
use Rattle.cq_answer.specs.declared.fault.Fault.{Fault}
use Rattle.cq_answer.specs.declared.fault.Fault.TheVariants as fault
use Rattle.cq_history.specs.Room.{stores_moved}
use Rattle.cq_store.specs.Stores.{StoreState}
use Rattle.cq_store.specs.declared.worker.Worker.{Worker}
use Rattle.cq_cluster.specs.Moving.{no_node}
use Rattle.cq_move.specs.declared.outcome.MoveReport.{MoveReport}
use Rattle.cq_desk.specs.Moving.{AreKept}
use Rattle.cq_shared.specs.Terms.{Terms}
use Rattle.cq_shared.specs.Errands.{WorkerPass}
use Rattle.cq_shared.specs.Seen.{Pass}
use Rattle.cq_cluster.specs.declared.retired.Retired.{Retired}
use Rattle.cq_block_laws.specs.Sessions.{Hands}
use Rattle.cq_shared.specs.declared.errand.Errand.{Errand}
use Rattle.cq_block_move.specs.Benches.{BenchesSend, Owes}
use Rattle.cq_block_move.specs.Hands.{IsBenchTo, AreHands, AreReady}
use Rattle.cq_block_move.specs.Moves.{ComesTo, MovesShard, TakesNone, TakesStores, exchanging}
use Rattle.cq_block_move.specs.Moving.{IsFitted}
use Rattle.cq_block_move.proofs.Taking.{owes_taken, owes_room}

-- ---- checks

no_fault : (f : Fault) → None ≡ Some f → ⊥
no_fault f e = cc

refused_by : (nodes to : ℕ) → (nat_eq to 0 || nat_lt nodes to) ≡ true → (to ≡ 0) ⊎ (nodes < to)
refused_by nodes to is = grind arith

-- a node that isn't one of the run's
pub node_refused : (nodes to : ℕ) (f : Fault) → no_node nodes to ≡ Some f → (f ≡ fault.NoNode to) × ((to ≡ 0) ⊎ (nodes < to))
node_refused nodes to f e = elim (two_ways (nat_eq to 0 || nat_lt nodes to)) [
  | inl y ↦ (sym (same_Some (fault.NoNode to) f (sym (ap (λ b. cond b (Some (fault.NoNode to)) None) y) ∙ e)), refused_by nodes to y)
  | inr n ↦ absurd (no_fault f (sym (ap (λ b. cond b (Some (fault.NoNode to)) None) n) ∙ e))
]

pub some_node : (node : ℕ) → 0 < node → node ≢ 0
some_node node low e = omega (arith, low, e)

-- ---- hands

-- passes to workers, and hands, by other names for the sessions and for the cells
pub ready_as : {X C : Type 0} {state : X → StoreState} {terms : C → Terms} {stalls : List TableId} {a b : List ℕ} {session : ℕ} {benches : List (WorkerPass X C)} → a ≡ b → AreReady state terms stalls a session benches → AreReady state terms stalls b session benches
ready_as {X} {C} {state} {terms} {stalls} {a} {b} {session} {benches} e h = subst (λ (ss : List ℕ). AreReady state terms stalls ss session benches) e h

pub hands_as : {X C : Type 0} {state : X → StoreState} {terms : C → Terms} {c : Contents} {nodes : ℕ} {cells a b : List TableId} {sessions : List ℕ} {session : ℕ} {h : Hands X C} → a ≡ b → AreHands state terms c nodes cells a sessions session h →
    AreHands state terms c nodes cells b sessions session h
hands_as {X} {C} {state} {terms} {c} {nodes} {cells} {a} {b} {sessions} {session} {h} e hands = subst (λ (zs : List TableId). AreHands state terms c nodes cells zs sessions session h) e hands

module _ {X C : Type 0} where
  -- the passes to workers are to those workers still
  pub benches_along : (rule : C) (ws : List (Worker X)) (old new : List (WorkerPass X C)) → AllZip (IsBenchTo rule) ws old → length new ≡ length old →
      ((at : ℕ) (p q : WorkerPass X C) → slice_get old at ≡ Some p → slice_get new at ≡ Some q → q.place.me.0.origin ≡ p.place.me.0.origin) → AllZip (IsBenchTo rule) ws new
  benches_along rule [] [] [] h e each = tt
  benches_along rule [] [] (q ∷ new) h e each = absurd (omega (arith, e))
  benches_along rule [] (p ∷ old) new h e each = absurd h
  benches_along rule (w ∷ ws) [] new h e each = absurd h
  benches_along rule (w ∷ ws) (p ∷ old) [] h e each = absurd (omega (arith, e))
  benches_along rule (w ∷ ws) (p ∷ old) (q ∷ new) h e each =
      (record { stock = h.0.stock; origin = each 0 p q refl refl ∙ h.0.origin; shared = h.0.shared }, benches_along rule ws old new h.1 (omega (arith, e)) (λ at a b f g. each (suc at) a b f g))

  module _ (state : X → StoreState) (terms : C → Terms) (c : Contents) (nodes : ℕ) (cells : List TableId) (sessions : List ℕ) (passes : List (Pass X C)) (retired : List (Retired X)) (old new : List (WorkerPass X C)) where
    -- a session's hands after calls for workers, whose cells may be read anew
    pub hands_after : (stalls now : List TableId) (session : ℕ) (ours : ℕ → List Errand) → AreHands state terms c nodes cells stalls sessions session (record { passes = passes; benches = old; retired = retired }) →
        AreReady state terms now sessions session new → BenchesSend ours old new → AreHands state terms c nodes cells now sessions session (record { passes = passes; benches = new; retired = retired })
    hands_after stalls now session ours hands ready sends = record {
      rule = hands.rule;
      opened = hands.opened;
      workers = hands.workers;
      ground = hands.ground;
      to = hands.to;
      to_workers = benches_along hands.rule hands.workers old new hands.to_workers sends.count (λ at p q e f. (sends.each at p q e f).same.2);
      passes = hands.passes;
      benches = ready;
    }

    -- a session that took stores for the move of a shard's group
    pub fitted : (stalls now : List TableId) (who : Who) (shard group from to n : ℕ) (stores : List X) → AreHands state terms c nodes cells stalls sessions who.session (record { passes = passes; benches = old; retired = retired }) →
        AreReady state terms now sessions who.session new → group_of_shard c shard ≡ Some group → 0 < to → to ≤ nodes → n ≡ stores_moved c (Some group) → TakesStores state terms who nodes n from to stores old new →
        IsFitted state terms c nodes cells now sessions who group from to (length stores) (record { passes = passes; benches = new; retired = retired })
    fitted stalls now who shard group from to n stores hands ready is low high one takes =
        let many = takes.many in record {
          hands = hands_after stalls now who.session _ hands ready takes.sends;
          shard = shard;
          is = is;
          low = low;
          high = high;
          one = many ∙ one;
          owed = subst (λ k. Owes to k new) (sym many) (owes_taken state terms stalls sessions who to takes.room n old new hands.benches takes.sends (λ (z : to ≡ 0). omega (arith, z, low)));
          back = λ some few.
              let made : takes.room ≡ from = takes.made some few in
              subst (λ k. Owes from k new) (sym many) (subst (λ node. Owes node n new) made (owes_room state terms stalls sessions who to takes.room n old new hands.benches takes.sends (λ (z : takes.room ≡ 0). omega (arith, z, made, some))));
        }

-- what was noted where no stores were taken
pub none_sends : {X C : Type 0} (who : Who) (n to : ℕ) (f : Fault) (old new : List (WorkerPass X C)) → TakesNone who n to f old new → (ours : ℕ → List Errand) × BenchesSend ours old new
none_sends who n to (fault.NoRoom node free needed) old new h = (λ at. [], h.4)
none_sends who n to fault.Memory old new h = elim h [ inl s ↦ (λ at. [], s) | inr s ↦ (exchanging who n to s.0 n to, s.1) ]
none_sends who n to f old new h = absurd h

-- ---- what a move comes to

module _ {X C : Type 0} (state : X → StoreState) (terms : C → Terms) (c : Contents) (nodes : ℕ) (sessions : List ℕ) (who : Who) (shard group from to : ℕ) (is : group_of_shard c shard ≡ Some group) (old : Hands X C) where
  -- the node isn't one of the run's
  pub away_from : (f : Fault) → no_node nodes to ≡ Some f → MovesShard state terms c nodes sessions who shard from to (Err f) old old
  away_from f e = let why = node_refused nodes to f e in inr (record { group = group; is = is; does = inl (record { same = (refl, refl); why = inl (why.0, why.1, refl) }) })

  module _ (low : 0 < to) (high : to ≤ nodes) (n : ℕ) (one : n ≡ stores_moved c (Some group)) where
    -- no stores were taken
    pub none_taken : (benches : List (WorkerPass X C)) (f : Fault) → TakesNone who n to f old.benches benches → MovesShard state terms c nodes sessions who shard from to (Err f) old (record old { benches = benches })
    none_taken benches f none =
        inr (record { group = group; is = is; does = inl (record { same = (refl, refl); why = inr (low, high, subst (λ k. TakesNone who k to f old.benches benches) one none) }) })

    -- the move came to its group
    pub reached : (benches : List (WorkerPass X C)) (stores : List X) (result : Result MoveReport Fault) (new : Hands X C) → TakesStores state terms who nodes n from to stores old.benches benches → AreKept group old.passes new.passes →
        ComesTo state terms sessions who group from to (length stores) result (record old { benches = benches }) new → MovesShard state terms c nodes sessions who shard from to result old new
    reached benches stores result new takes keeps comes =
        let mid : Hands X C = record old { benches = benches } in
        inr (record {
          group = group;
          is = is;
          does = inr (record {
            low = low;
            high = high;
            mid = mid;
            same = (refl, refl);
            stores = stores;
            takes = subst (λ k. TakesStores state terms who nodes k from to stores old.benches benches) one takes;
            keeps = keeps;
            comes = subst (λ k. ComesTo state terms sessions who group from to k result mid new) (takes.many ∙ one) comes;
          });
        })
