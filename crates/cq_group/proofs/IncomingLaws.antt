-- What comes in: settled, fetched and handed back.
use Rattle.std.proofs.Common.{◌≡◌, ◌∙◌, ◌<◌, ◌≤◌, inl, inr, ℕ, zero, suc, IsTrue, List, [], ◌∷◌, ◌++◌, length, map, take, drop, get_or, refl, sym, ap, subst, vec_capacity, OnOk, OnErr, Result, Ok, Err, arith}
use Rattle.std.proofs.Math.ListN.{set}
use Rattle.std.specs.List.{AllByRecursion, AllZip, flat_map}
use Rattle.cq_value.specs.declared.change.Change.{Change}
use Rattle.cq_value.specs.Changes.{applied}
use Rattle.cq_tree.specs.declared.journal.Entry.{Entry}
use Rattle.cq_change.specs.declared.log.TableChange.{TableChange}
use Rattle.cq_store.specs.Stores.{StoreState}
use Rattle.cq_group.specs.declared.group.GroupError.{GroupError}
use Rattle.cq_group.specs.declared.group.GroupError.TheVariants.{Worker, Memory}
use Rattle.cq_group.specs.declared.incoming.IncomingTable.{IncomingTable}
use Rattle.cq_group.specs.declared.incoming.Incoming.{Incoming}
use Rattle.cq_group.specs.Groups.{Outline}
use Rattle.cq_group.specs.Calls.{Rests, Stages, Commits, GoesOn, Lifted, Blames, Takes, IsThrough, SomeZip, Failed}
use Rattle.cq_group.specs.Incoming.{IsArriving, IsIncomingTable, arriving, IsIncoming, CanSettle, Makes, IsSettledTable, IsWaitingTable, IsSettledOrWaits, with_due}
use Rattle.cq_group.proofs.Turns.{rests, rests_go_on}
use Rattle.cq_group.proofs.TableLaws.{blames_later}
use Rattle.cq_group.proofs.Through.{through_both}
use Rattle.cq_group.proofs.Zips.{zip_trans, zip_weaker, zip_set, zip_refl, zip_flat, some_flat, some_set, all_along}

pub makes : (changes : List Change) (s t u : StoreState) → Stages changes s t → Commits t u → Makes changes s u
makes changes s t u h k = record {
  state = λ i. record {
    node = (ap (λ (x : StoreState). x.node) k.state ∙ ap (λ (x : StoreState). x.node) h.state) i;
    shard = (ap (λ (x : StoreState). x.shard) k.state ∙ ap (λ (x : StoreState). x.shard) h.state) i;
    rows = (ap (λ (x : StoreState). x.rows) k.state ∙ ap (λ (x : StoreState). applied x.rows x.staged) h.state) i;
    staged = ap (λ (x : StoreState). x.staged) k.state i;
    faults = u.faults;
    steady = (ap (λ (x : StoreState). x.steady) k.state ∙ ap (λ (x : StoreState). x.steady) h.state) i;
  };
  counts = omega (arith, h.counts, k.counts);
  steady = λ i. k.steady (subst IsTrue (sym (ap (λ (x : StoreState). x.steady) h.state)) i) ∙ h.steady i;
}

pub makes_go_on : (changes : List Change) (s t : StoreState) → Makes changes s t → GoesOn s t
makes_go_on changes s t h = record {
  state = λ i. record {
    node = ap (λ (x : StoreState). x.node) h.state i;
    shard = ap (λ (x : StoreState). x.shard) h.state i;
    rows = t.rows;
    staged = t.staged;
    faults = t.faults;
    steady = ap (λ (x : StoreState). x.steady) h.state i;
  };
  counts = h.counts;
  steady = h.steady;
}

module _ {X : Type 0} (state : X → StoreState) where
  pub settled_stores : (changes : List Change) (xs ys zs : List X) → AllZip (Lifted state (Stages changes)) xs ys → AllZip (Lifted state Commits) ys zs → AllZip (Lifted state (Makes changes)) xs zs
  settled_stores changes xs ys zs h k = zip_trans (Lifted state (Stages changes)) (Lifted state Commits) (Lifted state (Makes changes)) (λ x y z. makes changes (state x) (state y) (state z)) xs ys zs h k

  -- what waits, waits
  pub waits : (t : IncomingTable X) → IsWaitingTable state t t
  waits t = record { table = refl; shard = refl; pending = refl; stores = zip_refl (Lifted state Rests) (λ x. rests (state x)) t.stores.items }

  -- tables that were settled, and one that failed
  pub half_settled : (n : ℕ) (ts us : List (IncomingTable X)) (u v : IncomingTable X) → IsThrough (IsSettledTable state) n ts us → n < length us → u ≡ get_or us n u → IsWaitingTable state u v →
      AllZip (IsSettledOrWaits state) ts (set us n v)
  half_settled n ts [] u v h low is w = absurd (omega (arith, low))
  half_settled zero [] (a ∷ us) u v h low is w = absurd (cc (h.rest))
  half_settled zero (t ∷ ts) (a ∷ us) u v h low is w =
      let same : a ∷ us ≡ t ∷ ts = h.rest in
      let first : u ≡ t = is ∙ (let e : a ≡ t = cc same in e) in
      let rest : us ≡ ts = cc same in
      (inr (subst (λ x. IsWaitingTable state x v) first w), subst (λ xs. AllZip (IsSettledOrWaits state) ts xs) (sym rest) (zip_refl (IsSettledOrWaits state) (λ x. inr (waits x)) ts))
  half_settled (suc n) [] (a ∷ us) u v h low is w = absurd (h.done)
  half_settled (suc n) (t ∷ ts) (a ∷ us) u v h low is w =
      (inl h.done.0, half_settled n ts us u v (record { done = h.done.1; rest = h.rest }) (omega (arith, low)) is w)

  settled_goes_on : (t u : IncomingTable X) → IsSettledOrWaits state t u → AllZip (Lifted state GoesOn) t.stores.items u.stores.items
  settled_goes_on t u (inl h) = zip_weaker (Lifted state (Makes t.pending)) (Lifted state GoesOn) (λ x y. makes_go_on t.pending (state x) (state y)) t.stores.items u.stores.items h.stores
  settled_goes_on t u (inr h) = zip_weaker (Lifted state Rests) (Lifted state GoesOn) (λ x y. rests_go_on (state x) (state y)) t.stores.items u.stores.items h.stores

  -- the stores that come in go on
  pub arriving_goes_on : (ts us : List (IncomingTable X)) → AllZip (IsSettledOrWaits state) ts us →
      AllZip (Lifted state GoesOn) (flat_map (λ (t : IncomingTable X). t.stores.items) ts) (flat_map (λ (t : IncomingTable X). t.stores.items) us)
  arriving_goes_on ts us h = zip_flat (Lifted state GoesOn) (λ t. t.stores.items) ts us (zip_weaker (IsSettledOrWaits state) (λ t u. AllZip (Lifted state GoesOn) t.stores.items u.stores.items) settled_goes_on ts us h)

  settled_arrives : (node : ℕ) (entries : List Entry) (o : Outline) (pending : List Change) (s t : StoreState) → IsArriving node entries o pending s → Makes pending s t → IsArriving node entries o [] t
  settled_arrives node entries o pending s t h k = record {
    of_node = ap (λ (x : StoreState). x.node) k.state ∙ h.of_node;
    of_shard = ap (λ (x : StoreState). x.shard) k.state ∙ h.of_shard;
    adopted = subst (λ n. 0 < n) (sym (ap (λ (x : StoreState). x.shard) k.state)) h.adopted;
    nothing = ap (λ (x : StoreState). x.staged) k.state;
    fit = tt;
    gives = ap (λ (x : StoreState). x.rows) k.state ∙ h.gives;
  }

  length_zip : {Y : Type 0} (R : Y → Y → Type 0) (xs ys : List Y) → AllZip R xs ys → length ys ≡ length xs
  length_zip R [] [] h = refl
  length_zip R [] (y ∷ ys) h = absurd h
  length_zip R (x ∷ xs) [] h = absurd h
  length_zip R (x ∷ xs) (y ∷ ys) h = let rest = length_zip R xs ys h.1 in omega (arith, rest)

  settled_table : (node : ℕ) (entries : List Entry) (o : Outline) (t u : IncomingTable X) → IsIncomingTable state node entries o t → IsSettledTable state t u → IsIncomingTable state node entries o u
  settled_table node entries o t u h k = record {
    table = k.table ∙ h.table;
    shard = k.shard ∙ h.shard;
    one = length_zip (Lifted state (Makes t.pending)) t.stores.items u.stores.items k.stores ∙ h.one;
    stores = subst (λ cs. AllByRecursion (λ (x : X). IsArriving node entries o cs (state x)) u.stores.items) (sym k.pending)
        (all_along (λ (x : X). IsArriving node entries o t.pending (state x)) (Lifted state (Makes t.pending)) (λ (x : X). IsArriving node entries o [] (state x))
        (λ x y. settled_arrives node entries o t.pending (state x) (state y)) t.stores.items u.stores.items h.stores k.stores);
  }

  settled_tables : (node : ℕ) (entries : List Entry) (os : List Outline) (ts us : List (IncomingTable X)) → AllZip (IsIncomingTable state node entries) os ts → AllZip (IsSettledTable state) ts us →
      AllZip (IsIncomingTable state node entries) os us
  settled_tables node entries [] [] [] h k = tt
  settled_tables node entries [] [] (u ∷ us) h k = absurd k
  settled_tables node entries [] (t ∷ ts) us h k = absurd h
  settled_tables node entries (o ∷ os) [] us h k = absurd h
  settled_tables node entries (o ∷ os) (t ∷ ts) [] h k = absurd k
  settled_tables node entries (o ∷ os) (t ∷ ts) (u ∷ us) h k = (settled_table node entries o t u h.0 k.0, settled_tables node entries os ts us h.1 k.1)

  pub settled_incoming : (node : ℕ) (entries : List Entry) (os : List Outline) (i j : Incoming X) → AllZip (IsSettledTable state) i.tables.items j.tables.items → j.room ≡ i.room →
      IsIncoming state node entries os i → IsIncoming state node entries os j
  settled_incoming node entries os i j s room h = record {
    tables = settled_tables node entries os i.tables.items j.tables.items h.tables s;
    room = subst (λ v. length (arriving j) ≤ vec_capacity v) (sym room)
        (subst (λ n. n ≤ vec_capacity i.room)
        (sym (length_zip (Lifted state GoesOn) (arriving i) (arriving j) (arriving_goes_on i.tables.items j.tables.items (zip_weaker (IsSettledTable state) (IsSettledOrWaits state) (λ t u k. inl k) i.tables.items j.tables.items s)))) h.room);
    unused = ap (λ v. v.items) room ∙ h.unused;
  }

  pub all_settled : (ts us : List (IncomingTable X)) → AllZip (IsSettledTable state) ts us → AllByRecursion (λ (t : IncomingTable X). t.pending ≡ []) us
  all_settled [] [] h = tt
  all_settled [] (u ∷ us) h = absurd h
  all_settled (t ∷ ts) [] h = absurd h
  all_settled (t ∷ ts) (u ∷ us) h = (h.0.pending, all_settled ts us h.1)

  -- the pending changes of what comes in can be made
  takes_table : (node : ℕ) (entries : List Entry) (o : Outline) (pending : List Change) (xs : List X) → AllByRecursion (λ (x : X). IsArriving node entries o pending (state x)) xs → AllByRecursion (λ (x : X). Takes pending (state x)) xs
  takes_table node entries o pending [] h = tt
  takes_table node entries o pending (x ∷ xs) h = (record { shard = h.0.adopted; nothing = h.0.nothing; fits = h.0.fit }, takes_table node entries o pending xs h.1)

  takes_tables : (node : ℕ) (entries : List Entry) (os : List Outline) (ts : List (IncomingTable X)) → AllZip (IsIncomingTable state node entries) os ts →
      AllByRecursion (λ (t : IncomingTable X). AllByRecursion (λ (x : X). Takes t.pending (state x)) t.stores.items) ts
  takes_tables node entries os [] h = tt
  takes_tables node entries [] (t ∷ ts) h = absurd h
  takes_tables node entries (o ∷ os) (t ∷ ts) h = (takes_table node entries o t.pending t.stores.items h.0.stores, takes_tables node entries os ts h.1)

  pub can_settle : (node : ℕ) (entries : List Entry) (os : List Outline) (i : Incoming X) → IsIncoming state node entries os i → CanSettle state i
  can_settle node entries os i h = takes_tables node entries os i.tables.items h.tables

-- fetched changes let go are none
pub cleared : {X : Type 0} (log : List TableChange) (ts : List (IncomingTable X)) (n : ℕ) → AllByRecursion (λ (t : IncomingTable X). t.pending ≡ []) ts →
    map (with_due []) (map (with_due log) (take n ts) ++ drop n ts) ≡ ts
cleared log [] zero h = refl
cleared log [] (suc n) h = refl
cleared log (t ∷ ts) zero h = λ i. record t { pending = sym h.0 i } ∷ cleared log ts zero h.1 i
cleared log (t ∷ ts) (suc n) h = λ i. record t { pending = sym h.0 i } ∷ cleared log ts n h.1 i

-- what held of each element when a walk began holds of the next one
pub through_next : {Y : Type 0} (R : Y → Y → Type 0) (P : Y → Type 0) (n : ℕ) (xs ys : List Y) (y : Y) → IsThrough R n xs ys → n < length ys → y ≡ get_or ys n y → AllByRecursion P xs → P y
through_next R P n xs [] y h low is all = absurd (omega (arith, low))
through_next R P zero [] (w ∷ ys) y h low is all = absurd (cc (h.rest))
through_next R P zero (x ∷ xs) (w ∷ ys) y h low is all =
    let same : w ∷ ys ≡ x ∷ xs = h.rest in
    let first : x ≡ w = cc same in
    subst P (sym is) (subst P first all.0)
through_next R P (suc n) [] (w ∷ ys) y h low is all = absurd (h.done)
through_next R P (suc n) (x ∷ xs) (w ∷ ys) y h low is all = through_next R P n xs ys y (record { done = h.done.1; rest = h.rest }) (omega (arith, low)) is all.1

module _ {X : Type 0} (state : X → StoreState) where
  -- an error of a store that comes in
  pub blames_arriving : (e : GroupError) (n : ℕ) (ts us : List (IncomingTable X)) (u v : IncomingTable X) → IsThrough (IsSettledTable state) n ts us → n < length us → u ≡ get_or us n u → IsWaitingTable state u v →
      Blames state e u.stores.items v.stores.items → Blames state e (flat_map (λ (t : IncomingTable X). t.stores.items) ts) (flat_map (λ (t : IncomingTable X). t.stores.items) (set us n v))
  blames_arriving Memory n ts us u v h low is w b = tt
  blames_arriving (Worker failure) n ts us u v h low is w b =
      let items : IncomingTable X → List X = λ t. t.stores.items in
      let G : X → X → Type 0 = Lifted state GoesOn in
      let F : X → X → Type 0 = Lifted state (Failed failure) in
      let stay : (t : IncomingTable X) → AllZip G (items t) (items t) = λ t. zip_refl G (λ x. rests_go_on (state x) (state x) (rests (state x))) (items t) in
      let now : AllZip (λ t r. AllZip G (items t) (items r)) us (set us n v) =
      zip_set (λ t r. AllZip G (items t) (items r)) stay us n u v low is (zip_weaker (Lifted state Rests) G (λ x y. rests_go_on (state x) (state y)) u.stores.items v.stores.items w.stores) in
      blames_later state (Worker failure) (flat_map items ts) (flat_map items us) (flat_map items (set us n v))
      (zip_flat G items ts us (through_both (IsSettledTable state) (λ t r. AllZip G (items t) (items r))
      (λ t r k. zip_weaker (Lifted state (Makes t.pending)) G (λ x y. makes_go_on t.pending (state x) (state y)) t.stores.items r.stores.items k.stores) stay n ts us h))
      (some_flat G F items us (set us n v) now (some_set (λ t r. SomeZip F (items t) (items r)) us n u v low is b))

-- a walk that is through
pub through_end : {Y : Type 0} (R : Y → Y → Type 0) (n : ℕ) (xs ys : List Y) → IsThrough R n xs ys → length ys ≤ n → AllZip R xs ys
through_end R zero xs [] h low = subst (λ zs. AllZip R zs []) (let same : [] ≡ xs = h.rest in same) tt
through_end R zero xs (y ∷ ys) h low = absurd (omega (arith, low))
through_end R (suc n) [] [] h low = tt
through_end R (suc n) [] (y ∷ ys) h low = absurd (h.done)
through_end R (suc n) (x ∷ xs) [] h low = absurd (h.done)
through_end R (suc n) (x ∷ xs) (y ∷ ys) h low = (h.done.0, through_end R n xs ys (record { done = h.done.1; rest = h.rest }) (omega (arith, low)))

module _ {X : Type 0} (state : X → StoreState) where
  pub same_arriving : (i j : Incoming X) → j.tables.items ≡ i.tables.items → AllZip (Lifted state GoesOn) (arriving i) (arriving j)
  same_arriving i j e = subst (λ ts. AllZip (Lifted state GoesOn) (arriving i) (flat_map (λ (t : IncomingTable X). t.stores.items) ts)) (sym e)
      (zip_refl (Lifted state GoesOn) (λ x. rests_go_on (state x) (state x) (rests (state x))) (arriving i))

  pub settled_either : {T E : Type 0} (r : Result T E) (ts us : List (IncomingTable X)) → OnOk r (AllZip (IsSettledTable state) ts us) → OnErr r (AllZip (IsSettledOrWaits state) ts us) → AllZip (IsSettledOrWaits state) ts us
  settled_either (Ok x) ts us h k = zip_weaker (IsSettledTable state) (IsSettledOrWaits state) (λ t u s. inl s) ts us h
  settled_either (Err e) ts us h k = k
