-- The stores of one table, call after call.
use Rattle.std.proofs.Common.{◌≡◌, ◌∙◌, ◌⊎◌, ℕ, ◌<◌, List, [], ◌∷◌, length, get_or, inl, inr, sym, ap, subst, true, arith}
use Rattle.std.proofs.Math.ListN.{set}
use Rattle.std.specs.List.{AllZip, AllByRecursion, HoldsAt}
use Rattle.cq_value.specs.declared.schema.Shape.{Shape}
use Rattle.cq_value.specs.declared.change.Change.{Change}
use Rattle.cq_value.specs.Tables.{Table}
use Rattle.cq_value.specs.Changes.{applied, Fit}
use Rattle.cq_tree.specs.declared.write.ShardOp.{ShardOp}
use Rattle.cq_tree.specs.declared.write.Reply.{Reply}
use Rattle.cq_tree.specs.declared.write.Reply.TheVariants.{Duplicate, OutOfRange}
use Rattle.cq_meaning.specs.Effects.{effect}
use Rattle.cq_engine.specs.declared.write.Effect.{Effect}
use Rattle.cq_engine.specs.WriteEffects.{IsEffect}
use Rattle.cq_journal.specs.Replies.{IsRefusal}
use Rattle.cq_journal.proofs.Replies.{refused}
use Rattle.cq_store.specs.Stores.{StoreState}
use Rattle.cq_group.specs.declared.group.GroupError.{GroupError}
use Rattle.cq_group.specs.declared.group.GroupError.TheVariants.{Worker, Memory}
use Rattle.cq_group.specs.declared.group.GroupTable.{GroupTable}
use Rattle.cq_group.specs.Groups.{IsStagedIn, IsTableQuiet}
use Rattle.cq_group.specs.Calls.{Rests, Stages, GoesOn, Failed, Lifted, Blames, Takes, IsRestingTable, AreAlike, first_rows}
use Rattle.cq_group.proofs.Zips.{zip_trans, zip_weaker, zip_set, all_along, some_set, some_before}
use Rattle.cq_group.proofs.Turns.{rests, rests_go_on, failed_later, stages_none}

pub table_trans : {X : Type 0} (R S T : X → X → Type 0) → ((x y z : X) → R x y → S y z → T x z) → (t u v : GroupTable X) → IsRestingTable R t u → IsRestingTable S u v → IsRestingTable T t v
table_trans R S T f t u v h k = record {
  same = record {
    table = k.same.table ∙ h.same.table;
    shape = k.same.shape ∙ h.same.shape;
    shard = k.same.shard ∙ h.same.shard;
    stores = zip_trans R S T f t.stores.items u.stores.items v.stores.items h.same.stores k.same.stores;
  };
  next = k.next ∙ h.next;
}

pub table_weaker : {X : Type 0} (R S : X → X → Type 0) → ((x y : X) → R x y → S x y) → (t u : GroupTable X) → IsRestingTable R t u → IsRestingTable S t u
table_weaker R S f t u h = record {
  same = record { table = h.same.table; shape = h.same.shape; shard = h.same.shard; stores = zip_weaker R S f t.stores.items u.stores.items h.same.stores };
  next = h.next;
}

pub is_refusal : (reply : Reply) → (reply ≡ Duplicate) ⊎ (reply ≡ OutOfRange) → IsRefusal reply
is_refusal reply (inl e) = subst IsRefusal (sym e) tt
is_refusal reply (inr e) = subst IsRefusal (sym e) tt

-- a refused write has no changes
pub refused_changes : (op : ShardOp) (t : Table) (shape : Shape) (made : Effect) → IsEffect op t shape made → IsRefusal made.reply → made.changes ≡ []
refused_changes op t shape made h refusal = h.listed ∙ (refused op t shape (subst IsRefusal h.replied refusal)).1

module _ {X : Type 0} (state : X → StoreState) where
  -- one store was called
  pub called : (xs : List X) (n : ℕ) (x y : X) → n < length xs → x ≡ get_or xs n x → Lifted state Rests x y → AllZip (Lifted state Rests) xs (set xs n y)
  called xs n x y low is k = zip_set (Lifted state Rests) (λ a. rests (state a)) xs n x y low is k

  pub blames_one : (e : GroupError) (xs : List X) (n : ℕ) (x y : X) → n < length xs → x ≡ get_or xs n x → Blames state e (x ∷ []) (y ∷ []) → Blames state e xs (set xs n y)
  blames_one Memory xs n x y low is h = tt
  blames_one (Worker failure) xs n x y low is (inl h) = some_set (Lifted state (Failed failure)) xs n x y low is h
  blames_one (Worker failure) xs n x y low is (inr h) = absurd h

  pub blames_later : (e : GroupError) (xs ys zs : List X) → AllZip (Lifted state GoesOn) xs ys → Blames state e ys zs → Blames state e xs zs
  blames_later Memory xs ys zs h k = tt
  blames_later (Worker failure) xs ys zs h k =
      some_before (Lifted state GoesOn) (Lifted state (Failed failure)) (Lifted state (Failed failure))
      (λ a b c. failed_later failure (state a) (state b) (state c)) xs ys zs h k

  pub rested_go_on : (xs ys : List X) → AllZip (Lifted state Rests) xs ys → AllZip (Lifted state GoesOn) xs ys
  rested_go_on xs ys h = zip_weaker (Lifted state Rests) (Lifted state GoesOn) (λ a b. rests_go_on (state a) (state b)) xs ys h

  -- what f gives of the rows of the store in the first place
  pub first_gives : {Y : Type 0} (f : Table → Y) (xs : List X) (y : Y) → 0 < length xs → HoldsAt (λ x. y ≡ f (state x).rows) xs 0 → y ≡ f (first_rows state xs)
  first_gives f [] y low h = absurd (omega arith)
  first_gives f (x ∷ xs) y low h = h x

  -- the changes fit each store, since its rows are those of the first
  takes_each : (changes : List Change) (t : Table) (xs ys : List X) → Fit t changes → AllByRecursion (λ (x : X). 0 < (state x).shard) xs → AllByRecursion (λ (x : X). (state x).rows ≡ t) xs →
      AllByRecursion (λ (x : X). (state x).staged ≡ []) xs → AllZip (Lifted state Rests) xs ys → AllByRecursion (λ (x : X). Takes changes (state x)) ys
  takes_each changes t [] [] f s r q k = tt
  takes_each changes t [] (y ∷ ys) f s r q k = absurd k
  takes_each changes t (x ∷ xs) [] f s r q k = absurd k
  takes_each changes t (x ∷ xs) (y ∷ ys) f s r q k = (
    record {
      shard = subst (λ n. 0 < n) (sym (ap (λ (z : StoreState). z.shard) k.0.state)) s.0;
      nothing = ap (λ (z : StoreState). z.staged) k.0.state ∙ q.0;
      fits = subst (λ u. Fit u changes) (sym (ap (λ (z : StoreState). z.rows) k.0.state ∙ r.0)) f;
    },
    takes_each changes t xs ys f s.1 r.1 q.1 k.1,
  )

  pub takes_all : (changes : List Change) (t u : GroupTable X) → AreAlike state t → Fit (first_rows state t.stores.items) changes → IsRestingTable (Lifted state Rests) t u →
      AllByRecursion (λ (x : X). Takes changes (state x)) u.stores.items
  takes_all changes t u h f k = takes_each changes (first_rows state t.stores.items) t.stores.items u.stores.items f h.shards h.rows h.nothing k.same.stores

  staged_each : (op : ShardOp) (shape : Shape) (changes : List Change) (t : Table) (xs ys : List X) → applied t changes ≡ effect op t shape → AllByRecursion (λ (x : X). (state x).rows ≡ t) xs →
      AllZip (Lifted state (Stages changes)) xs ys → AllByRecursion (λ (x : X). IsStagedIn true op shape (state x)) ys
  staged_each op shape changes t [] [] e r k = tt
  staged_each op shape changes t [] (y ∷ ys) e r k = absurd k
  staged_each op shape changes t (x ∷ xs) [] e r k = absurd k
  staged_each op shape changes t (x ∷ xs) (y ∷ ys) e r k = (
    let rows : (state y).rows ≡ t = ap (λ (z : StoreState). z.rows) k.0.state ∙ r.0 in
        let staged : (state y).staged ≡ changes = ap (λ (z : StoreState). z.staged) k.0.state in
        subst (λ u. applied u (state y).staged ≡ effect op u shape) (sym rows) (subst (λ c. applied t c ≡ effect op t shape) (sym staged) e),
    staged_each op shape changes t xs ys e r.1 k.1,
  )

  pub staged_all : (op : ShardOp) (changes : List Change) (t u : GroupTable X) → AreAlike state t → applied (first_rows state t.stores.items) changes ≡ effect op (first_rows state t.stores.items) t.shape →
      IsRestingTable (Lifted state (Stages changes)) t u → AllByRecursion (λ (x : X). IsStagedIn true op t.shape (state x)) u.stores.items
  staged_all op changes t u h e k = staged_each op t.shape changes (first_rows state t.stores.items) t.stores.items u.stores.items e h.rows k.same.stores

  -- no changes are staged
  pub stages_nothing : (changes : List Change) (xs : List X) → changes ≡ [] → AllByRecursion (λ (x : X). Takes changes (state x)) xs → AllZip (Lifted state (Stages changes)) xs xs
  stages_nothing changes [] e h = tt
  stages_nothing changes (x ∷ xs) e h = (stages_none changes (state x) h.0.nothing e, stages_nothing changes xs e h.1)

  pub quiet_staged : (changes : List Change) (t u : GroupTable X) → changes ≡ [] → IsRestingTable (Lifted state (Stages changes)) t u → IsTableQuiet state u
  quiet_staged changes t u e k = each t.stores.items u.stores.items k.same.stores
    where
      each : (xs ys : List X) → AllZip (Lifted state (Stages changes)) xs ys → AllByRecursion (λ (x : X). (state x).staged ≡ []) ys
      each [] [] h = tt
      each [] (y ∷ ys) h = absurd h
      each (x ∷ xs) [] h = absurd h
      each (x ∷ xs) (y ∷ ys) h = (ap (λ (z : StoreState). z.staged) h.0.state ∙ e, each xs ys h.1)

  pub quiet_rested : (t u : GroupTable X) → IsTableQuiet state t → IsRestingTable (Lifted state Rests) t u → IsTableQuiet state u
  quiet_rested t u q k = all_along (λ (x : X). (state x).staged ≡ []) (Lifted state Rests) (λ (x : X). (state x).staged ≡ []) (λ x y h r. ap (λ (z : StoreState). z.staged) r.state ∙ h)
      t.stores.items u.stores.items q k.same.stores
