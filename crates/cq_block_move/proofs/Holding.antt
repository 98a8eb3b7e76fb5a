-- What a session holds, as the calls of a move use it, and as they leave it.
use Rattle.std.proofs.Common.{◌≡◌, inl, inr, ℕ, zero, suc, ◌-◌, List, [], ◌∷◌, length, refl, sym, ap, ◌∙◌, subst, arith, Some, slice_get}
use Rattle.std.proofs.lemmas.Bool.Decides.{eqb_tells}
use Rattle.std.proofs.lemmas.Option.{same_Some}
use Rattle.std.specs.List.{AllZip}
use Rattle.atomic_table.specs.Seated.{TableId}
use Rattle.cq_catalog.specs.Contents.{Contents}
use Rattle.cq_store.specs.Stores.{StoreState}
use Rattle.cq_store.specs.declared.worker.Worker.{Worker}
use Rattle.cq_group.specs.declared.group.GroupState.{GroupState}
use Rattle.cq_cluster.specs.declared.retired.Retired.{Retired}
use Rattle.cq_shared.specs.declared.errand.Errand.{Errand}
use Rattle.cq_shared.specs.declared.content.Shard.{Shard}
use Rattle.cq_shared.specs.declared.worker.Stock.{Stock}
use Rattle.cq_shared.specs.Terms.{Terms}
use Rattle.cq_shared.specs.Seen.{Pass, IsRuled}
use Rattle.cq_shared.specs.Errands.{WorkerPass, IsRuledAt}
use Rattle.cq_desk.specs.Desks.{IsReady}
use Rattle.cq_desk.specs.Moving.{AllReach, AllSteady, AreKept, IsSpared}
use Rattle.cq_block_laws.specs.Sessions.{Hands}
use Rattle.cq_block_move.specs.Hands.{IsPassTo, IsBenchTo, AreHands, AreReady}
use Rattle.cq_block_move.specs.Benches.{BenchesSend, IsThere, SteadyOn}

-- ---- lists

-- what is before the item at a place
record Beside {A B : Type 0} (R : A → B → Type 0) (y : B) : Type 0 where
  item : A
  holds : R item y

beside : {A B : Type 0} (R : A → B → Type 0) (xs : List A) (ys : List B) → AllZip R xs ys → (k : ℕ) (y : B) → slice_get ys k ≡ Some y → Beside R y
beside R [] [] h k y e = absurd (cc e)
beside R [] (b ∷ ys) h k y e = absurd h
beside R (a ∷ xs) [] h k y e = absurd h
beside R (a ∷ xs) (b ∷ ys) h zero y e = record { item = a; holds = subst (R a) (same_Some b y e) h.0 }
beside R (a ∷ xs) (b ∷ ys) h (suc k) y e = beside R xs ys h.1 k y e

-- a list in place of the second one, item by item
zip_on : {A B : Type 0} (R : A → B → Type 0) (xs : List A) (ys zs : List B) → AllZip R xs ys → length zs ≡ length ys → ((i : ℕ) (x : A) (y z : B) → slice_get ys i ≡ Some y → slice_get zs i ≡ Some z → R x y → R x z) → AllZip R xs zs
zip_on R [] [] [] h l f = tt
zip_on R [] [] (z ∷ zs) h l f = absurd (omega (arith, l))
zip_on R [] (y ∷ ys) zs h l f = absurd h
zip_on R (x ∷ xs) [] zs h l f = absurd h
zip_on R (x ∷ xs) (y ∷ ys) [] h l f = absurd (omega (arith, l))
zip_on R (x ∷ xs) (y ∷ ys) (z ∷ zs) h l f = (f 0 x y z refl refl h.0, zip_on R xs ys zs h.1 (omega (arith, l)) (λ i. f (suc i)))

module _ {X C : Type 0} (rule : C) where
  -- ---- the rules of a pass

  pass_rules : (g : GroupState X) (p : Pass X C) → IsPassTo rule g p → IsRuled p.place rule
  pass_rules g p to = (to.shard, to.origin, to.shared.1)

  pass_ruled : (g : GroupState X) (p : Pass X C) (c : C) → IsPassTo rule g p → IsRuled p.place c → rule ≡ c
  pass_ruled g p c to ruled =
      let same : to.shard ≡ ruled.0 = same_Some to.shard ruled.0 (sym to.origin ∙ ruled.1) in
      sym to.shared.1 ∙ (ap (λ (v : Shard X C). v.rules.value) same ∙ ruled.2)

  bench_rules : (w : Worker X) (p : WorkerPass X C) → IsBenchTo rule w p → IsRuledAt p.place rule
  bench_rules w p to = (to.stock, to.origin, to.shared.1)

  bench_ruled : (w : Worker X) (p : WorkerPass X C) (c : C) → IsBenchTo rule w p → IsRuledAt p.place c → rule ≡ c
  bench_ruled w p c to ruled =
      let same : to.stock ≡ ruled.0 = same_Some to.stock ruled.0 (sym to.origin ∙ ruled.1) in
      sym to.shared.1 ∙ (ap (λ (v : Stock X C). v.rules.value) same ∙ ruled.2)

  -- ---- a pass that goes on is to the same

  pass_still : (g : GroupState X) (p q : Pass X C) → q.place.me.0.origin ≡ p.place.me.0.origin → IsPassTo rule g p → IsPassTo rule g q
  pass_still g p q same to = record { shard = to.shard; origin = same ∙ to.origin; shared = to.shared }

  bench_still : (w : Worker X) (p q : WorkerPass X C) → q.place.me.0.origin ≡ p.place.me.0.origin → IsBenchTo rule w p → IsBenchTo rule w q
  bench_still w p q same to = record { stock = to.stock; origin = same ∙ to.origin; shared = to.shared }

-- ---- the same cells and sessions

module _ {X C : Type 0} (state : X → StoreState) (terms : C → Terms) (old new : List TableId) (cells : new ≡ old) (was now : List ℕ) (sessions : now ≡ was) (session : ℕ) where
  pub ready_as : (passes : List (Pass X C)) → IsReady state terms new now passes session → IsReady state terms old was passes session
  ready_as passes h = subst (λ (v : List TableId × List ℕ). IsReady state terms v.0 v.1 passes session) (λ i. (cells i, sessions i)) h

  pub stocked_as : (benches : List (WorkerPass X C)) → AreReady state terms new now session benches → AreReady state terms old was session benches
  stocked_as benches h = subst (λ (v : List TableId × List ℕ). AreReady state terms v.0 v.1 session benches) (λ i. (cells i, sessions i)) h

module _ {X C : Type 0} (state : X → StoreState) (terms : C → Terms) (c : Contents) (nodes : ℕ) (cells stalls : List TableId) (sessions : List ℕ) (session : ℕ) (h : Hands X C) (hands : AreHands state terms c nodes cells stalls sessions session h) where
  abbrev its : Terms
  its = terms hands.rule

  pub all_reach : (node : ℕ) → its.reaches node → AllReach terms h.passes node
  all_reach node reached g p e r ruled =
      let b = beside (IsPassTo hands.rule) hands.opened h.passes hands.to g p e in
      subst (λ (v : C). (terms v).reaches node) (pass_ruled hands.rule b.item p r b.holds ruled) reached

  pub all_steady : (node : ℕ) → its.steady node → AllSteady terms h.passes node
  all_steady node steady g p e r ruled =
      let b = beside (IsPassTo hands.rule) hands.opened h.passes hands.to g p e in
      subst (λ (v : C). (terms v).steady node) (pass_ruled hands.rule b.item p r b.holds ruled) steady

  pub spared_steady : (node : ℕ) → IsSpared terms h.passes node → its.steady node
  spared_steady node s =
      let b = beside (IsPassTo hands.rule) hands.opened h.passes hands.to s.group s.pass s.there in
      s.steady hands.rule (pass_rules hands.rule b.item s.pass b.holds)

  pub steady_there : (node k : ℕ) → its.steady k → SteadyOn terms node h.benches k
  steady_there node k steady p e r ruled =
      let b = beside (IsBenchTo hands.rule) hands.workers h.benches hands.to_workers (node - 1) p e in
      subst (λ (v : C). (terms v).steady k) (bench_ruled hands.rule b.item p r b.holds ruled) steady

  pub there_steady : (node k : ℕ) → IsThere node h.benches → SteadyOn terms node h.benches k → its.steady k
  there_steady node k is on =
      let b = beside (IsBenchTo hands.rule) hands.workers h.benches hands.to_workers (node - 1) is.pass is.there in
      on is.pass is.there hands.rule (bench_rules hands.rule b.item is.pass b.holds)

  -- the session's hands behind calls for one group and for workers
  module _ (group : ℕ) (passes : List (Pass X C)) (benches : List (WorkerPass X C)) (retired : List (Retired X)) (ours : ℕ → List Errand) (kept : AreKept group h.passes passes) (sends : BenchesSend ours h.benches benches) where
    same_pass : (at : ℕ) (p q : Pass X C) → slice_get h.passes at ≡ Some p → slice_get passes at ≡ Some q → q.place.me.0.origin ≡ p.place.me.0.origin
    same_pass at p q e f = elim (eqb_tells at group) [
      | inl y ↦ (kept.here p q (sym (ap (slice_get h.passes) y.1) ∙ e) (sym (ap (slice_get passes) y.1) ∙ f)).same.2
      | inr n ↦ ap (λ (v : Pass X C). v.place.me.0.origin) (same_Some q p (sym f ∙ (kept.others at n.1 ∙ e)))
    ]

    pub hands_again : IsReady state terms cells sessions passes session → AreReady state terms stalls sessions session benches → AreHands state terms c nodes cells stalls sessions session (record { passes = passes; benches = benches; retired = retired })
    hands_again ready stocked = record {
      rule = hands.rule;
      opened = hands.opened;
      workers = hands.workers;
      ground = hands.ground;
      to = zip_on (IsPassTo hands.rule) hands.opened h.passes passes hands.to kept.count (λ at g p q e f to. pass_still hands.rule g p q (same_pass at p q e f) to);
      to_workers = zip_on (IsBenchTo hands.rule) hands.workers h.benches benches hands.to_workers sends.count (λ at w p q e f to. bench_still hands.rule w p q (sends.each at p q e f).same.2 to);
      passes = ready;
      benches = stocked;
    }
