-- The stores that are given to a move, until they are given back.
use Rattle.std.proofs.Common.{◌≡◌, ◌∙◌, ◌⊎◌, inl, inr, ◌≤◌, ℕ, suc, IsTrue, List, [], ◌∷◌, ◌++◌, length, Result, Ok, Err, IfErr, refl, sym, ap, subst, arith}
use Rattle.std.specs.List.{AllByRecursion, AllZip, flat_map, Contains}
use Rattle.cq_value.specs.declared.change.Change.{Change}
use Rattle.cq_tree.specs.declared.failure.StoreFailure.{StoreFailure}
use Rattle.cq_tree.specs.declared.journal.Entry.{Entry}
use Rattle.cq_store.specs.Stores.{StoreState}
use Rattle.cq_group.specs.declared.group.GroupError.{GroupError}
use Rattle.cq_group.specs.declared.group.GroupError.TheVariants.{Worker, Memory}
use Rattle.cq_group.specs.declared.incoming.IncomingTable.{IncomingTable}
use Rattle.cq_group.specs.declared.start.MoveWhy.{MoveWhy}
use Rattle.cq_group.specs.Groups.{Outline}
use Rattle.cq_group.specs.Calls.{GoesOn, Failed, Lifted, Blames, SomeZip}
use Rattle.cq_group.specs.Incoming.{IsArriving, IsIncomingTable, Adopts, why_told}
use Rattle.cq_group.proofs.Zips.{zip_refl, zip_trans, some_before}
use Rattle.cq_group.proofs.Turns.{rests, rests_go_on, goes_on_more}
use Rattle.cq_move.specs.Outcomes.{IsToldBy, IsTried, Broke, EndsMove, KeepShards, shards_in}

tried : (old new : StoreState) → new.node ≡ old.node → new.steady ≡ old.steady → old.faults ≤ new.faults → (IsTrue old.steady → new.faults ≡ old.faults) → IsTried old new
tried old new node steady counts k =
    record { state = λ i. record { node = node i; shard = new.shard; rows = new.rows; staged = new.staged; faults = new.faults; steady = steady i }; counts = counts; steady = k }

tried_none : (s : StoreState) → IsTried s s
tried_none s = tried s s refl refl (omega arith) (λ k. refl)

-- a store was adopted, and went on
adopted_goes_on : (s t u : StoreState) → Adopts s t → GoesOn t u → IsTried s u
adopted_goes_on s t u h k = tried s u
    (ap (λ (x : StoreState). x.node) k.state ∙ ap (λ (x : StoreState). x.node) h.state)
    (ap (λ (x : StoreState). x.steady) k.state ∙ ap (λ (x : StoreState). x.steady) h.state)
    (omega (arith, h.counts, k.counts))
    (λ i. k.steady (subst IsTrue (sym (ap (λ (x : StoreState). x.steady) h.state)) i) ∙ h.steady i)

-- and failed meanwhile
adopted_broke : (failure : StoreFailure) (s t u : StoreState) → Adopts s t → Failed failure t u × GoesOn t u → Broke failure s u
adopted_broke failure s t u h k = record {
  of_node = ap (λ (x : StoreState). x.node) k.1.state ∙ k.0.of_node;
  of_shard = ap (λ (x : StoreState). x.shard) k.1.state ∙ k.0.of_shard;
  unsteady = ap (λ (x : StoreState). x.steady) k.1.state ∙ k.0.unsteady;
  from = omega (arith, h.counts, k.0.from);
  rose = k.0.rose;
  to = k.0.to;
}

-- two relations, where one holds at each place and the other at some
some_both : {X : Type 0} (R S : X → X → Type 0) (xs ys : List X) → AllZip R xs ys → SomeZip S xs ys → SomeZip (λ x y. S x y × R x y) xs ys
some_both R S [] ys h k = absurd k
some_both R S (x ∷ xs) [] h k = absurd k
some_both R S (x ∷ xs) (y ∷ ys) h (inl k) = inl (k, h.0)
some_both R S (x ∷ xs) (y ∷ ys) h (inr k) = inr (some_both R S xs ys h.1 k)

pub if_err : {T E : Type 0} (r : Result T E) (P Q : E → Type 0) → ((e : E) → P e → Q e) → IfErr r P → IfErr r Q
if_err (Ok x) P Q f h = tt
if_err (Err e) P Q f h = f e h

-- some element
abbrev SomeOf : {X : Type 0} → (X → Type 0) → List X → Type 0
SomeOf P [] = ⊥
SomeOf P (x ∷ xs) = P x ⊎ SomeOf P xs

some_first : {X : Type 0} (R : X → X → Type 0) (P : X → Type 0) → ((x y : X) → R x y → P x) → (xs ys : List X) → SomeZip R xs ys → SomeOf P xs
some_first R P f [] ys h = absurd h
some_first R P f (x ∷ xs) [] h = absurd h
some_first R P f (x ∷ xs) (y ∷ ys) (inl h) = inl (f x y h)
some_first R P f (x ∷ xs) (y ∷ ys) (inr h) = inr (some_first R P f xs ys h)

some_apart : {X : Type 0} (P : X → Type 0) (xs ys : List X) → SomeOf P (xs ++ ys) → SomeOf P xs ⊎ SomeOf P ys
some_apart P [] ys h = inr h
some_apart P (x ∷ xs) ys (inl h) = inl (inl h)
some_apart P (x ∷ xs) ys (inr h) = elim (some_apart P xs ys h) [ inl k ↦ inl (inr k) | inr k ↦ inr k ]

some_gives : {X : Type 0} (P Q : X → Type 0) (C : Type 0) → ((x : X) → Q x → P x → C) → (xs : List X) → AllByRecursion Q xs → SomeOf P xs → C
some_gives P Q C f [] h k = absurd k
some_gives P Q C f (x ∷ xs) h (inl k) = f x h.0 k
some_gives P Q C f (x ∷ xs) h (inr k) = some_gives P Q C f xs h.1 k

contains_later : (n : ℕ) (ns : List ℕ) (m : ℕ) → Contains ns m → Contains (n ∷ ns) m
contains_later n ns m h = (suc h.0, (let low = h.1 in omega (arith, low)), h.2)

module _ {X : Type 0} (state : X → StoreState) where
  -- a store that came in is on the node, under the shard id of one of the tables
  named_in : (node shard to : ℕ) (entries : List Entry) (os : List Outline) (ts : List (IncomingTable X)) → AllZip (IsIncomingTable state to entries) os ts →
      SomeOf (λ (x : X). ((state x).node ≡ node) × ((state x).shard ≡ shard)) (flat_map (λ (t : IncomingTable X). t.stores.items) ts) → (node ≡ to) × Contains (shards_in os) shard
  named_in node shard to entries [] [] h k = absurd k
  named_in node shard to entries [] (t ∷ ts) h k = absurd h
  named_in node shard to entries (o ∷ os) [] h k = absurd h
  named_in node shard to entries (o ∷ os) (t ∷ ts) h k =
      elim (some_apart (λ (x : X). ((state x).node ≡ node) × ((state x).shard ≡ shard)) t.stores.items (flat_map (λ (u : IncomingTable X). u.stores.items) ts) k) [
        | inl a ↦ some_gives (λ (x : X). ((state x).node ≡ node) × ((state x).shard ≡ shard)) (λ (x : X). IsArriving to entries o t.pending (state x)) ((node ≡ to) × Contains (shards_in (o ∷ os)) shard)
            (λ x q p. (sym p.0 ∙ q.of_node, (0, omega arith, sym q.of_shard ∙ p.1))) t.stores.items h.0.stores a
        | inr b ↦ (let rest = named_in node shard to entries os ts h.1 b in (rest.0, contains_later o.2 (shards_in os) shard rest.1))
      ]

  -- an error of a store that came in ends the move
  ends_by : (e : GroupError) (to : ℕ) (entries : List Entry) (os : List Outline) (ts : List (IncomingTable X)) (xs zs : List X) → AllZip (IsIncomingTable state to entries) os ts →
      AllZip (Lifted state Adopts) xs (flat_map (λ (t : IncomingTable X). t.stores.items) ts) → AllZip (Lifted state GoesOn) (flat_map (λ (t : IncomingTable X). t.stores.items) ts) zs →
      Blames state e (flat_map (λ (t : IncomingTable X). t.stores.items) ts) zs → EndsMove state os to (why_told e) xs zs
  ends_by Memory to entries os ts xs zs h a g b = tt
  ends_by (Worker failure) to entries os ts xs zs h a g b =
      let ys = flat_map (λ (t : IncomingTable X). t.stores.items) ts in
      let F : X → X → Type 0 = Lifted state (Failed failure) in
      let G : X → X → Type 0 = Lifted state GoesOn in
      let named = named_in failure.node failure.shard to entries os ts h (some_first F (λ (x : X). ((state x).node ≡ failure.node) × ((state x).shard ≡ failure.shard)) (λ x y f. (f.of_node, f.of_shard)) ys zs b) in
      record {
        there = named.0;
        of_table = named.1;
        broken = some_before (Lifted state Adopts) (λ x y. F x y × G x y) (Lifted state (Broke failure))
            (λ x y z. adopted_broke failure (state x) (state y) (state z)) xs ys zs a (some_both G F ys zs g b);
      }

  pub ends_told : (why : MoveWhy) (to : ℕ) (entries : List Entry) (os : List Outline) (ts : List (IncomingTable X)) (xs zs : List X) → AllZip (IsIncomingTable state to entries) os ts →
      AllZip (Lifted state Adopts) xs (flat_map (λ (t : IncomingTable X). t.stores.items) ts) → AllZip (Lifted state GoesOn) (flat_map (λ (t : IncomingTable X). t.stores.items) ts) zs →
      IsToldBy state why (flat_map (λ (t : IncomingTable X). t.stores.items) ts) zs → EndsMove state os to why xs zs
  ends_told why to entries os ts xs zs h a g k = subst (λ w. EndsMove state os to w xs zs) (sym k.told) (ends_by k.error to entries os ts xs zs h a g k.blames)

  -- stores that came in keep the shards of the tables as they go on
  table_keeps : (to : ℕ) (entries : List Entry) (o : Outline) (os : List Outline) (pending : List Change) (xs rest zs : List X) → length xs ≡ 1 → AllByRecursion (λ (x : X). IsArriving to entries o pending (state x)) xs →
      ((ws : List X) → AllZip (Lifted state GoesOn) rest ws → KeepShards state os ws) → AllZip (Lifted state GoesOn) (xs ++ rest) zs → KeepShards state (o ∷ os) zs
  table_keeps to entries o os pending [] rest zs one all more on = absurd (omega (arith, one))
  table_keeps to entries o os pending (x ∷ y ∷ xs) rest zs one all more on = absurd (omega (arith, one))
  table_keeps to entries o os pending (x ∷ []) rest [] one all more on = absurd on
  table_keeps to entries o os pending (x ∷ []) rest (z ∷ zs) one all more on = (ap (λ (s : StoreState). s.shard) on.0.state ∙ all.0.of_shard, more zs on.1)

  pub keep_shards : (to : ℕ) (entries : List Entry) (os : List Outline) (ts : List (IncomingTable X)) (zs : List X) → AllZip (IsIncomingTable state to entries) os ts →
      AllZip (Lifted state GoesOn) (flat_map (λ (t : IncomingTable X). t.stores.items) ts) zs → KeepShards state os zs
  keep_shards to entries [] [] [] h on = tt
  keep_shards to entries [] [] (z ∷ zs) h on = absurd on
  keep_shards to entries [] (t ∷ ts) zs h on = absurd h
  keep_shards to entries (o ∷ os) [] zs h on = absurd h
  keep_shards to entries (o ∷ os) (t ∷ ts) zs h on =
      table_keeps to entries o os t.pending t.stores.items (flat_map (λ (u : IncomingTable X). u.stores.items) ts) zs h.0.one h.0.stores (λ ws. keep_shards to entries os ts ws h.1) on

  pub given_back : (xs ys zs : List X) → AllZip (Lifted state Adopts) xs ys → AllZip (Lifted state GoesOn) ys zs → AllZip (Lifted state IsTried) xs zs
  given_back xs ys zs h k = zip_trans (Lifted state Adopts) (Lifted state GoesOn) (Lifted state IsTried) (λ x y z. adopted_goes_on (state x) (state y) (state z)) xs ys zs h k

  pub given_same : (xs ys : List X) → ys ≡ xs → AllZip (Lifted state IsTried) xs ys
  given_same xs ys e = subst (λ zs. AllZip (Lifted state IsTried) xs zs) (sym e) (zip_refl (Lifted state IsTried) (λ x. tried_none (state x)) xs)

  -- stores that stay, and stores that went on twice
  pub go_on_same : (xs ys : List X) → ys ≡ xs → AllZip (Lifted state GoesOn) xs ys
  go_on_same xs ys e = subst (λ zs. AllZip (Lifted state GoesOn) xs zs) (sym e) (zip_refl (Lifted state GoesOn) (λ x. rests_go_on (state x) (state x) (rests (state x))) xs)

  pub go_on_twice : (xs ys zs : List X) → AllZip (Lifted state GoesOn) xs ys → AllZip (Lifted state GoesOn) ys zs → AllZip (Lifted state GoesOn) xs zs
  go_on_twice xs ys zs h k = zip_trans (Lifted state GoesOn) (Lifted state GoesOn) (Lifted state GoesOn) (λ x y z. goes_on_more (state x) (state y) (state z)) xs ys zs h k
