-- A write that is staged in one table of a group.
use Rattle.std.proofs.Common.{◌≡◌, ◌∙◌, ◌+◌, ℕ, ◌<◌, ◌≤◌, true, false, nat_eq, IsSome, Some, List, [], ◌∷◌, length, get_or, map, refl, sym, ap, subst, eq-eqb, arith}
use Rattle.std.proofs.Math.ListN.{set}
use Rattle.std.specs.List.{AllByRecursion, AllZip}
use Rattle.cq_value.specs.declared.schema.Shape.{Shape}
use Rattle.cq_value.specs.Tables.{Table, IsAscending}
use Rattle.cq_tree.specs.declared.journal.Entry.{Entry}
use Rattle.cq_tree.specs.declared.write.Reply.{Reply}
use Rattle.cq_tree.specs.declared.write.ShardOp.{ShardOp}
use Rattle.cq_meaning.specs.Effects.{reply_of, table_of, inserts}
use Rattle.cq_journal.specs.Journals.{replay}
use Rattle.cq_store.specs.Stores.{StoreState}
use Rattle.cq_group.specs.declared.group.GroupTable.{GroupTable}
use Rattle.cq_group.specs.declared.group.GroupState.{GroupState}
use Rattle.cq_group.specs.Moves.{IsSameMove, KeepsChanges}
use Rattle.cq_group.specs.Groups.{entries_of, stores_of, outlines, shape_at, or_no_shape, shapes, copies_of, HasTable, AreReplicasFrom, IsTableKept, IsKept, IsTableQuiet, IsQuiet, IsStagedIn, IsTableStaged, IsReady}
use Rattle.cq_group.specs.Calls.{KeepsRows, Discards, GoesOn, Lifted, IsRestingTable, IsSameBut, AreAlike, first_rows, next_id, GroupGoesOn}
use Rattle.cq_group.proofs.Zips.{zip_set, zip_refl, zip_trans}
use Rattle.cq_group.proofs.Turns.{keeps, goes_on_more}
use Rattle.cq_group.proofs.PlaceLaws.{all_at, found_shape, set_where, table_refl}
use Rattle.cq_group.proofs.GroupLaws.{outlines_along}
use Rattle.cq_group.proofs.Ascending.{replay_ascends}

module _ {X : Type 0} (state : X → StoreState) where
  -- every store is quiet after its staged changes are dropped
  pub quiet_dropped : (ts us : List (GroupTable X)) → AllZip (IsRestingTable (Lifted state Discards)) ts us → AllByRecursion (IsTableQuiet state) us
  quiet_dropped [] [] h = tt
  quiet_dropped [] (u ∷ us) h = absurd h
  quiet_dropped (t ∷ ts) [] h = absurd h
  quiet_dropped (t ∷ ts) (u ∷ us) h = (each t.stores.items u.stores.items h.0.same.stores, quiet_dropped ts us h.1)
    where
      each : (xs ys : List X) → AllZip (Lifted state Discards) xs ys → AllByRecursion (λ (x : X). (state x).staged ≡ []) ys
      each [] [] k = tt
      each [] (y ∷ ys) k = absurd k
      each (x ∷ xs) [] k = absurd k
      each (x ∷ xs) (y ∷ ys) k = (ap (λ (s : StoreState). s.staged) k.0.state, each xs ys k.1)

  first_replica : (node : ℕ) (es : List Entry) (table : ℕ) (shape : Shape) (shard : ℕ) (xs : List X) → 0 < length xs → AreReplicasFrom 0 node es table shape shard (map state xs) →
      first_rows state xs ≡ replay table shape es
  first_replica node es table shape shard [] low h = absurd (omega arith)
  first_replica node es table shape shard (x ∷ xs) low h = h.0.holds

  replica_shards : (place node : ℕ) (es : List Entry) (table : ℕ) (shape : Shape) (shard : ℕ) (xs : List X) → 0 < shard → AreReplicasFrom place node es table shape shard (map state xs) →
      AllByRecursion (λ (x : X). 0 < (state x).shard) xs
  replica_shards place node es table shape shard [] low h = tt
  replica_shards place node es table shape shard (x ∷ xs) low h = (subst (λ n. 0 < n) (sym h.0.of_shard) low, replica_shards (place + 1) node es table shape shard xs low h.1)

  replica_tables : (place node : ℕ) (es : List Entry) (table : ℕ) (shape : Shape) (shard : ℕ) (t : Table) (xs : List X) → t ≡ replay table shape es → AreReplicasFrom place node es table shape shard (map state xs) →
      AllByRecursion (λ (x : X). (state x).rows ≡ t) xs
  replica_tables place node es table shape shard t [] e h = tt
  replica_tables place node es table shape shard t (x ∷ xs) e h = (h.0.holds ∙ sym e, replica_tables (place + 1) node es table shape shard t xs e h.1)

  -- the first store of a table holds the replay
  pub first_is : (node copies : ℕ) (es : List Entry) (t : GroupTable X) → IsTableKept state node copies es t → first_rows state t.stores.items ≡ replay t.table t.shape es
  first_is node copies es t h = first_replica node es t.table t.shape t.shard t.stores.items (omega (arith, h.some_store, h.complete)) h.replicas

  pub alike : (node copies : ℕ) (es : List Entry) (t : GroupTable X) → IsTableKept state node copies es t → IsTableQuiet state t → AreAlike state t
  alike node copies es t h q =
      let first = first_is node copies es t h in
      record {
        some_store = omega (arith, h.some_store, h.complete);
        numbered = h.numbered ∙ ap (λ (u : Table). u.next) (sym first);
        shards = replica_shards 0 node es t.table t.shape t.shard t.stores.items h.some_shard h.replicas;
        rows = replica_tables 0 node es t.table t.shape t.shard (first_rows state t.stores.items) t.stores.items first h.replicas;
        ascends = subst (λ (u : Table). IsAscending u.pairs u.next) (sym first) (replay_ascends t.table t.shape es);
        nothing = q;
      }

  -- a group whose tables are the same
  pub keeps_none : (g h : GroupState X) → h.node ≡ g.node → h.nodes ≡ g.nodes → h.room ≡ g.room → IsSameMove g.moving h.moving → h.tables ≡ g.tables → IsSameBut (Lifted state KeepsRows) g h
  keeps_none g h node nodes room moving tables = record {
    node = node;
    nodes = nodes;
    room = room;
    moving = moving;
    tables = subst (λ v. AllZip (IsRestingTable (Lifted state KeepsRows)) g.tables.items v.items) (sym tables)
        (zip_refl (IsRestingTable (Lifted state KeepsRows)) (λ t. table_refl (Lifted state KeepsRows) (λ x. keeps (state x)) t) g.tables.items);
  }

  -- one table of a group, by its place and its number
  module _ (g : GroupState X) (k : IsKept state g) (place number : ℕ) (t : GroupTable X) (within : place < length g.tables.items) (is : t ≡ get_or g.tables.items place t) (named : t.table ≡ number) where
    pub kept_at : IsTableKept state g.node (copies_of g) (entries_of g) t
    kept_at = all_at (IsTableKept state g.node (copies_of g) (entries_of g)) g.tables.items place t k.tables within is

    pub shape_found : shape_at (outlines g) number ≡ Some t.shape
    shape_found = found_shape g.tables.items place number t k.distinct within is named

    pub replay_found : replay number (shapes g number) (entries_of g) ≡ replay t.table t.shape (entries_of g)
    replay_found = λ i. replay (sym named i) (or_no_shape (shape_found i)) (entries_of g)

    pub next_found : t.next ≡ next_id g number
    next_found = kept_at.numbered ∙ ap (λ (u : Table). u.next) (sym replay_found)

    -- its first store holds what the entries leave
    pub rows_found : first_rows state t.stores.items ≡ replay number (shapes g number) (entries_of g)
    rows_found = first_is g.node (copies_of g) (entries_of g) t kept_at ∙ sym replay_found

    pub there : HasTable g number
    there = subst (λ o. IsSome o) (sym shape_found) refl

    -- the group where the table is replaced
    pub keeps_set : (u : GroupTable X) → IsRestingTable (Lifted state KeepsRows) t u → AllZip (IsRestingTable (Lifted state KeepsRows)) g.tables.items (set g.tables.items place u)
    keeps_set u h = zip_set (IsRestingTable (Lifted state KeepsRows)) (λ a. table_refl (Lifted state KeepsRows) (λ x. keeps (state x)) a) g.tables.items place t u within is h

    quiet_staged : (op : ShardOp) (v : GroupTable X) → nat_eq v.table (table_of op) ≡ false → IsTableQuiet state v → IsTableStaged state op v
    quiet_staged op v other q = subst (λ b. AllByRecursion (λ (x : X). IsStagedIn b op v.shape (state x)) v.stores.items) (sym other) q

    here_staged : (op : ShardOp) (u : GroupTable X) → table_of op ≡ number → IsRestingTable (Lifted state KeepsRows) t u → AllByRecursion (λ (x : X). IsStagedIn true op t.shape (state x)) u.stores.items →
        IsTableStaged state op u
    here_staged op u e h s =
        subst (λ b. AllByRecursion (λ (x : X). IsStagedIn b op u.shape (state x)) u.stores.items) (sym (eq-eqb u.table (table_of op) (h.same.table ∙ named ∙ sym e)))
        (subst (λ shape. AllByRecursion (λ (x : X). IsStagedIn true op shape (state x)) u.stores.items) (sym h.same.shape) s)

    pub staged_set : (op : ShardOp) (u : GroupTable X) → table_of op ≡ number → IsQuiet state g → IsRestingTable (Lifted state KeepsRows) t u →
        AllByRecursion (λ (x : X). IsStagedIn true op t.shape (state x)) u.stores.items → AllByRecursion (IsTableStaged state op) (set g.tables.items place u)
    staged_set op u e q h s =
        set_where (IsTableQuiet state) (IsTableStaged state op) number (λ v other quiet. quiet_staged op v (subst (λ n. nat_eq v.table n ≡ false) (sym e) other) quiet)
        g.tables.items place t u k.distinct within is named q (here_staged op u e h s)

    -- the staged write is ready
    pub ready : (h : GroupState X) (op : ShardOp) (u : GroupTable X) (reply : Reply) → table_of op ≡ number → IsQuiet state g → IsRestingTable (Lifted state KeepsRows) t u →
        AllByRecursion (λ (x : X). IsStagedIn true op t.shape (state x)) u.stores.items → reply ≡ reply_of op (first_rows state t.stores.items) t.shape →
        next_id g number + length (inserts op) ≤ 4294967296 → IsSameBut (Lifted state KeepsRows) g h → h.tables.items ≡ set g.tables.items place u → entries_of h ≡ entries_of g → 1 < h.journal.entries.room →
        KeepsChanges op (first_rows state t.stores.items) t.shape h.moving → IsReady state h op reply
    ready h op u reply e q r s replied ids same tables entries room logged =
        let os : outlines h ≡ outlines g = outlines_along state (Lifted state KeepsRows) g h same in
        let held : replay (table_of op) (shapes h (table_of op)) (entries_of h) ≡ replay number (shapes g number) (entries_of g) = λ i. replay (e i) (or_no_shape (shape_at (os i) (e i))) (entries i) in
        let moved : shape_at (outlines h) (table_of op) ≡ shape_at (outlines g) number = λ i. shape_at (os i) (e i) in
        let shape : shapes h (table_of op) ≡ t.shape = ap or_no_shape (moved ∙ shape_found) in
        let rows : first_rows state t.stores.items ≡ replay (table_of op) (shapes h (table_of op)) (entries_of h) =
        rows_found ∙ sym held in
        let expected : reply_of op (first_rows state t.stores.items) t.shape ≡ reply_of op (replay (table_of op) (shapes h (table_of op)) (entries_of h)) (shapes h (table_of op)) =
        λ i. reply_of op (rows i) (sym shape i) in
        record {
          room = room;
          there = subst (λ o. IsSome o) (sym moved) there;
          replied = replied ∙ expected;
          ids = subst (λ (v : Table). v.next + length (inserts op) ≤ 4294967296) (sym held) ids;
          staged = subst (λ ts. AllByRecursion (IsTableStaged state op) ts) (sym tables) (staged_set op u e q r s);
          logged = subst (λ v. KeepsChanges op v (shapes h (table_of op)) h.moving) rows (subst (λ v. KeepsChanges op (first_rows state t.stores.items) v h.moving) (sym shape) logged);
        }

  pub goes_on_twice : (f g h : GroupState X) → GroupGoesOn state f g → GroupGoesOn state g h → GroupGoesOn state f h
  goes_on_twice f g h a b = record {
    same = record {
      number = b.same.number ∙ a.same.number;
      opening = b.same.opening ∙ a.same.opening;
      node = b.same.node ∙ a.same.node;
      nodes = b.same.nodes ∙ a.same.nodes;
      tables = b.same.tables ∙ a.same.tables;
    };
    stores = zip_trans (Lifted state GoesOn) (Lifted state GoesOn) (Lifted state GoesOn) (λ x y z. goes_on_more (state x) (state y) (state z)) (stores_of f) (stores_of g) (stores_of h) a.stores b.stores;
    steady = λ s. b.steady (a.steady s);
  }
