-- A group, call after call.
use Rattle.std.proofs.Common.{◌≡◌, ◌∙◌, ◌+◌, ℕ, ◌<◌, ◌≤◌, IsTrue, List, [], ◌∷◌, ◌++◌, length, map, refl, sym, ap, subst, vec_capacity, cond, nat_eq, arith}
use Rattle.std.specs.List.{AllZip, AllByRecursion, flat_map}
use Rattle.std.proofs.lemmas.List.Elements.{length_all_zip}
use Rattle.cq_value.specs.declared.schema.Shape.{Shape}
use Rattle.cq_value.specs.Tables.{Table, rows_of}
use Rattle.cq_tree.specs.declared.journal.Entry.{Entry}
use Rattle.cq_tree.specs.declared.journal.Who.{Who}
use Rattle.cq_tree.specs.declared.journal.EntryKind.TheVariants.{Read}
use Rattle.cq_journal.specs.Journals.{replay, IsReplied, EachReplied}
use Rattle.cq_store.specs.Stores.{StoreState}
use Rattle.cq_group.specs.declared.group.GroupError.{GroupError}
use Rattle.cq_group.specs.declared.group.GroupError.TheVariants.{Worker, Memory}
use Rattle.cq_group.specs.declared.group.GroupTable.{GroupTable}
use Rattle.cq_group.specs.declared.group.GroupState.{GroupState}
use Rattle.cq_group.specs.Moves.{IsMoveKept, IsSameMove}
use Rattle.cq_group.proofs.MoveLaws.{same_move, same_more, move_along, move_read}
use Rattle.cq_group.specs.Groups.{entries_of, journal_of, Outline, stores_of, outline, outlines, shape_at, or_no_shape, shapes, copies_of, IsNamed, AreReplicasFrom, IsTableKept, IsKept, AreDistinct, IsTableQuiet, IsQuiet, IsSteady}
use Rattle.cq_group.specs.Calls.{Rests, KeepsRows, GoesOn, Failed, Lifted, Blames, IsSameTable, IsRestingTable, IsSameBut, GroupGoesOn, captured}
use Rattle.cq_group.proofs.Zips.{zip_trans, zip_weaker, zip_flat, all_along, some_not, all_weaker, all_push, all_append}
use Rattle.cq_group.proofs.TableLaws.{table_trans, table_weaker, quiet_rested}
use Rattle.cq_journal.proofs.Replays.{replay_more, replied_more}
use Rattle.std.proofs.lemmas.Bool.{false≢true}

pub outline_same : {X : Type 0} (R : X → X → Type 0) (t u : GroupTable X) → IsSameTable R t u → outline u ≡ outline t
outline_same R t u h = λ i. (h.table i, h.shape i, h.shard i, sym (length_all_zip R t.stores.items u.stores.items h.stores) i)

pub outlines_same : {X : Type 0} (R : X → X → Type 0) (ts us : List (GroupTable X)) → AllZip (IsSameTable R) ts us → map outline us ≡ map outline ts
outlines_same R [] [] h = refl
outlines_same R [] (u ∷ us) h = absurd h
outlines_same R (t ∷ ts) [] h = absurd h
outlines_same R (t ∷ ts) (u ∷ us) h = λ i. outline_same R t u h.0 i ∷ outlines_same R ts us h.1 i

pub resting_same : {X : Type 0} (R : X → X → Type 0) (ts us : List (GroupTable X)) → AllZip (IsRestingTable R) ts us → AllZip (IsSameTable R) ts us
resting_same R ts us h = zip_weaker (IsRestingTable R) (IsSameTable R) (λ t u k. k.same) ts us h

pub group_trans : {X : Type 0} (R S T : X → X → Type 0) → ((x y z : X) → R x y → S y z → T x z) → (f g h : GroupState X) → IsSameBut R f g → IsSameBut S g h → IsSameBut T f h
group_trans R S T k f g h a b = record {
  node = b.node ∙ a.node;
  nodes = b.nodes ∙ a.nodes;
  room = b.room ∙ a.room;
  moving = same_more f.moving g.moving h.moving a.moving b.moving;
  tables = zip_trans (IsRestingTable R) (IsRestingTable S) (IsRestingTable T) (λ t u v. table_trans R S T k t u v) f.tables.items g.tables.items h.tables.items a.tables b.tables;
}

pub group_weaker : {X : Type 0} (R S : X → X → Type 0) → ((x y : X) → R x y → S x y) → (g h : GroupState X) → IsSameBut R g h → IsSameBut S g h
group_weaker R S k g h a = record {
  node = a.node;
  nodes = a.nodes;
  room = a.room;
  moving = a.moving;
  tables = zip_weaker (IsRestingTable R) (IsRestingTable S) (λ t u. table_weaker R S k t u) g.tables.items h.tables.items a.tables;
}

-- the stores of all tables, one by one
pub stores_zip : {X : Type 0} (R : X → X → Type 0) (ts us : List (GroupTable X)) → AllZip (IsSameTable R) ts us →
    AllZip R (flat_map (λ (t : GroupTable X). t.stores.items) ts) (flat_map (λ (t : GroupTable X). t.stores.items) us)
stores_zip R ts us h = zip_flat R (λ t. t.stores.items) ts us (zip_weaker (IsSameTable R) (λ t u. AllZip R t.stores.items u.stores.items) (λ t u k. k.stores) ts us h)

-- the shapes of tables by their outlines
abbrev pub shapes_in : List Outline → ℕ → Shape
shapes_in os table = or_no_shape (shape_at os table)

module _ {X : Type 0} (state : X → StoreState) where
  replicas_along : (place node : ℕ) (es : List Entry) (table : ℕ) (shape : Shape) (shard : ℕ) (xs ys : List X) → AllZip (Lifted state KeepsRows) xs ys →
      AreReplicasFrom place node es table shape shard (map state xs) → AreReplicasFrom place node es table shape shard (map state ys)
  replicas_along place node es table shape shard [] [] h k = tt
  replicas_along place node es table shape shard [] (y ∷ ys) h k = absurd h
  replicas_along place node es table shape shard (x ∷ xs) [] h k = absurd h
  replicas_along place node es table shape shard (x ∷ xs) (y ∷ ys) h k = (
    record {
      of_node = ap (λ (s : StoreState). s.node) h.0.state ∙ k.0.of_node;
      of_shard = ap (λ (s : StoreState). s.shard) h.0.state ∙ k.0.of_shard;
      holds = ap (λ (s : StoreState). s.rows) h.0.state ∙ k.0.holds;
    },
    replicas_along (place + 1) node es table shape shard xs ys h.1 k.1,
  )

  pub table_kept : (node copies : ℕ) (es : List Entry) (t u : GroupTable X) → IsTableKept state node copies es t → IsRestingTable (Lifted state KeepsRows) t u → IsTableKept state node copies es u
  table_kept node copies es t u h k = record {
    numbered = subst (λ a. u.next ≡ (replay a u.shape es).next) (sym k.same.table) (subst (λ b. u.next ≡ (replay t.table b es).next) (sym k.same.shape) (k.next ∙ h.numbered));
    ids = subst (λ n. n ≤ 4294967296) (sym k.next) h.ids;
    some_shard = subst (λ n. 0 < n) (sym k.same.shard) h.some_shard;
    some_store = h.some_store;
    complete = sym (length_all_zip (Lifted state KeepsRows) t.stores.items u.stores.items k.same.stores) ∙ h.complete;
    replicas =
        subst (λ a. AreReplicasFrom 0 node es a u.shape u.shard (map state u.stores.items)) (sym k.same.table)
        (subst (λ b. AreReplicasFrom 0 node es t.table b u.shard (map state u.stores.items)) (sym k.same.shape)
        (subst (λ c. AreReplicasFrom 0 node es t.table t.shape c (map state u.stores.items)) (sym k.same.shard)
        (replicas_along 0 node es t.table t.shape t.shard t.stores.items u.stores.items k.same.stores h.replicas)));
  }

  pub copies_same : (g h : GroupState X) → h.node ≡ g.node → h.nodes ≡ g.nodes → copies_of h ≡ copies_of g
  copies_same g h a b = λ i. cond (nat_eq (a i) 0) (b i) 1

  -- a group whose stores keep their rows, and whose entries leave of each table what they left
  pub kept_along : (g h : GroupState X) → IsKept state g → IsSameBut (Lifted state KeepsRows) g h → entries_of h ≡ entries_of g → h.journal.opening ≡ g.journal.opening →
      g.journal.entries.room ≤ h.journal.entries.room → IsKept state h
  kept_along g h k s e opening slot =
      let same : outlines h ≡ outlines g = outlines_same (Lifted state KeepsRows) g.tables.items h.tables.items (resting_same (Lifted state KeepsRows) g.tables.items h.tables.items s.tables) in
      record {
        replied = subst (λ os. EachReplied (λ table. or_no_shape (shape_at os table)) (entries_of h)) (sym same)
            (subst (λ es. EachReplied (shapes g) es) (sym e) k.replied);
        named = subst (λ os. AllByRecursion (λ (x : Entry). IsNamed os x.kind) (entries_of h)) (sym same)
            (subst (λ es. AllByRecursion (λ (x : Entry). IsNamed (outlines g) x.kind) es) (sym e) k.named);
        tables =
            subst (λ n. AllByRecursion (IsTableKept state n (copies_of h) (entries_of h)) h.tables.items) (sym s.node)
            (subst (λ c. AllByRecursion (IsTableKept state g.node c (entries_of h)) h.tables.items) (sym (copies_same g h s.node s.nodes))
            (subst (λ es. AllByRecursion (IsTableKept state g.node (copies_of g) es) h.tables.items) (sym e)
            (all_along (IsTableKept state g.node (copies_of g) (entries_of g)) (IsRestingTable (Lifted state KeepsRows)) (IsTableKept state g.node (copies_of g) (entries_of g))
            (λ t u. table_kept g.node (copies_of g) (entries_of g) t u) g.tables.items h.tables.items k.tables s.tables)));
        distinct = subst AreDistinct (sym same) k.distinct;
        room = subst (λ n. n ≤ vec_capacity h.room) (length_all_zip (Lifted state KeepsRows) (stores_of g) (stores_of h)
            (stores_zip (Lifted state KeepsRows) g.tables.items h.tables.items (resting_same (Lifted state KeepsRows) g.tables.items h.tables.items s.tables)))
            (subst (λ v. length (stores_of g) ≤ vec_capacity v) (sym s.room) k.room);
        unused = ap (λ v. v.items) s.room ∙ k.unused;
        move = move_along (shapes g) (shapes h) (journal_of g) (journal_of h) g.node h.node g.journal.entries.room h.journal.entries.room g.moving h.moving
            (ap shapes_in same) opening e s.node slot s.moving k.move;
      }

  -- entries that leave the table as it was
  replicas_unmoved : (place node : ℕ) (es more : List Entry) (table : ℕ) (shape : Shape) (shard : ℕ) (ss : List StoreState) → replay table shape more ≡ replay table shape es →
      AreReplicasFrom place node es table shape shard ss → AreReplicasFrom place node more table shape shard ss
  replicas_unmoved place node es more table shape shard [] e h = tt
  replicas_unmoved place node es more table shape shard (s ∷ ss) e h =
      (record { of_node = h.0.of_node; of_shard = h.0.of_shard; holds = h.0.holds ∙ sym e }, replicas_unmoved (place + 1) node es more table shape shard ss e h.1)

  pub table_unmoved : (node copies : ℕ) (es more : List Entry) (t : GroupTable X) → replay t.table t.shape more ≡ replay t.table t.shape es → IsTableKept state node copies es t → IsTableKept state node copies more t
  table_unmoved node copies es more t e h = record {
    numbered = h.numbered ∙ ap (λ (u : Table). u.next) (sym e);
    ids = h.ids;
    some_shard = h.some_shard;
    some_store = h.some_store;
    complete = h.complete;
    replicas = replicas_unmoved 0 node es more t.table t.shape t.shard (map state t.stores.items) e h.replicas;
  }

  -- a group with one more entry, which its tables hold
  pub kept_more : (g h : GroupState X) (e : Entry) → IsKept state g → h.node ≡ g.node → h.nodes ≡ g.nodes → h.room ≡ g.room → outlines h ≡ outlines g → length (stores_of h) ≡ length (stores_of g) →
      entries_of h ≡ entries_of g ++ e ∷ [] → IsReplied (shapes g) (entries_of g) e.kind → IsNamed (outlines g) e.kind →
      AllByRecursion (IsTableKept state g.node (copies_of g) (entries_of g ++ e ∷ [])) h.tables.items →
      IsMoveKept (shapes h) (journal_of h) h.node h.journal.entries.room h.moving → IsKept state h
  kept_more g h e k a b r same long es replied named tables move = record {
    replied = subst (λ os. EachReplied (λ table. or_no_shape (shape_at os table)) (entries_of h)) (sym same)
        (subst (λ xs. EachReplied (shapes g) xs) (sym es) (replied_more (shapes g) (entries_of g) e k.replied replied));
    named = subst (λ os. AllByRecursion (λ (x : Entry). IsNamed os x.kind) (entries_of h)) (sym same)
        (subst (λ xs. AllByRecursion (λ (x : Entry). IsNamed (outlines g) x.kind) xs) (sym es)
        (all_push (λ (x : Entry). IsNamed (outlines g) x.kind) (entries_of g) e k.named named));
    tables =
        subst (λ n. AllByRecursion (IsTableKept state n (copies_of h) (entries_of h)) h.tables.items) (sym a)
        (subst (λ c. AllByRecursion (IsTableKept state g.node c (entries_of h)) h.tables.items) (sym (copies_same g h a b))
        (subst (λ xs. AllByRecursion (IsTableKept state g.node (copies_of g) xs) h.tables.items) (sym es) tables));
    distinct = subst AreDistinct (sym same) k.distinct;
    room = subst (λ n. n ≤ vec_capacity h.room) (sym long) (subst (λ v. length (stores_of g) ≤ vec_capacity v) (sym r) k.room);
    unused = ap (λ v. v.items) r ∙ k.unused;
    move = move;
  }

  -- a Read
  pub kept_read : (g h : GroupState X) (who : Who) → IsKept state g → h.node ≡ g.node → h.nodes ≡ g.nodes → h.room ≡ g.room → h.tables ≡ g.tables →
      entries_of h ≡ entries_of g ++ record { who = who; kind = Read } ∷ [] → h.journal.opening ≡ g.journal.opening → h.moving ≡ g.moving → 0 < h.journal.entries.room → IsKept state h
  kept_read g h who k a b r t es opening moving slot =
      let e : Entry = record { who = who; kind = Read } in
      kept_more g h e k a b r (ap (λ v. map outline v.items) t) (ap (λ v. length (flat_map (λ (u : GroupTable X). u.stores.items) v.items)) t) es tt tt
      (subst (λ v. AllByRecursion (IsTableKept state g.node (copies_of g) (entries_of g ++ e ∷ [])) v.items) (sym t)
      (all_weaker (IsTableKept state g.node (copies_of g) (entries_of g)) (IsTableKept state g.node (copies_of g) (entries_of g ++ e ∷ []))
      (λ u. table_unmoved g.node (copies_of g) (entries_of g) (entries_of g ++ e ∷ []) u (replay_more u.table u.shape (entries_of g) e)) g.tables.items k.tables))
      (move_along (shapes g) (shapes h) (record (journal_of g) { entries = entries_of g ++ e ∷ [] }) (journal_of h) g.node h.node h.journal.entries.room h.journal.entries.room g.moving h.moving
      (ap shapes_in (ap (λ v. map outline v.items) t)) opening es a (omega arith) (subst (λ m. IsSameMove g.moving m) (sym moving) (same_move g.moving))
      (move_read (shapes g) (journal_of g) g.node g.journal.entries.room h.journal.entries.room g.moving (entries_of g) who refl slot k.move))

  pub outlines_along : (R : X → X → Type 0) (g h : GroupState X) → IsSameBut R g h → outlines h ≡ outlines g
  outlines_along R g h s = outlines_same R g.tables.items h.tables.items (resting_same R g.tables.items h.tables.items s.tables)

  pub captured_along : (g h : GroupState X) (table : ℕ) → outlines h ≡ outlines g → entries_of h ≡ entries_of g → captured h table ≡ captured g table
  captured_along g h table o e = λ i. (table, rows_of (replay table (or_no_shape (shape_at (o i) table)) (e i)))

  -- the first call left a group as it was but for its stores, and the second but for its journal
  pub same_with : (R : X → X → Type 0) (f g h : GroupState X) → IsSameBut R f g → h ≡ record g { journal = h.journal } → IsSameBut R f h
  same_with R f g h s e = record {
    node = ap (λ (x : GroupState X). x.node) e ∙ s.node;
    nodes = ap (λ (x : GroupState X). x.nodes) e ∙ s.nodes;
    room = ap (λ (x : GroupState X). x.room) e ∙ s.room;
    moving = subst (λ m. IsSameMove f.moving m) (sym (ap (λ (x : GroupState X). x.moving) e)) s.moving;
    tables = subst (λ v. AllZip (IsRestingTable R) f.tables.items v.items) (sym (ap (λ (x : GroupState X). x.tables) e)) s.tables;
  }

  pub quiet_along : (g h : GroupState X) → IsQuiet state g → IsSameBut (Lifted state Rests) g h → IsQuiet state h
  quiet_along g h q s = all_along (IsTableQuiet state) (IsRestingTable (Lifted state Rests)) (IsTableQuiet state) (λ t u a b. quiet_rested state t u a b) g.tables.items h.tables.items q s.tables

  -- steady stores go on steady
  steady_tables : (ts us : List (GroupTable X)) → AllByRecursion (λ (t : GroupTable X). AllByRecursion (λ (x : X). IsTrue (state x).steady) t.stores.items) ts → AllZip (IsSameTable (Lifted state GoesOn)) ts us →
      AllByRecursion (λ (t : GroupTable X). AllByRecursion (λ (x : X). IsTrue (state x).steady) t.stores.items) us
  steady_tables ts us h k =
      all_along (λ t. AllByRecursion (λ (x : X). IsTrue (state x).steady) t.stores.items) (IsSameTable (Lifted state GoesOn)) (λ t. AllByRecursion (λ (x : X). IsTrue (state x).steady) t.stores.items)
      (λ t u a b. all_along (λ x. IsTrue (state x).steady) (Lifted state GoesOn) (λ x. IsTrue (state x).steady)
      (λ x y c d. subst IsTrue (sym (ap (λ (s : StoreState). s.steady) d.state)) c) t.stores.items u.stores.items a b.stores) ts us h k

  pub steady_along : (g h : GroupState X) → AllZip (IsSameTable (Lifted state GoesOn)) g.tables.items h.tables.items → IsSteady state g → IsSteady state h
  steady_along g h s k = steady_tables g.tables.items h.tables.items k s

  steady_stores : (ts : List (GroupTable X)) → AllByRecursion (λ (t : GroupTable X). AllByRecursion (λ (x : X). IsTrue (state x).steady) t.stores.items) ts →
      AllByRecursion (λ (x : X). IsTrue (state x).steady) (flat_map (λ (t : GroupTable X). t.stores.items) ts)
  steady_stores [] h = tt
  steady_stores (t ∷ ts) h = all_append (λ x. IsTrue (state x).steady) t.stores.items (flat_map (λ (u : GroupTable X). u.stores.items) ts) h.0 (steady_stores ts h.1)

  -- a steady group's error names no worker
  pub blames_none : (e : GroupError) (g : GroupState X) (ys : List X) → IsSteady state g → Blames state e (stores_of g) ys → e ≡ Memory
  blames_none Memory g ys s h = refl
  blames_none (Worker failure) g ys s h =
      absurd (some_not (λ (x : X). IsTrue (state x).steady) (Lifted state (Failed failure))
      (λ x y a b. false≢true (sym b.unsteady ∙ a)) (stores_of g) ys (steady_stores g.tables.items s) h)

  -- a group whose stores went on, and whose journal is that of the same group
  pub group_goes_on : (g h : GroupState X) → h.node ≡ g.node → h.nodes ≡ g.nodes → AllZip (IsSameTable (Lifted state GoesOn)) g.tables.items h.tables.items →
      h.journal.group ≡ g.journal.group → h.journal.opening ≡ g.journal.opening → GroupGoesOn state g h
  group_goes_on g h node nodes tables number opening = record {
    same = record { number = number; opening = opening; node = node; nodes = nodes; tables = outlines_same (Lifted state GoesOn) g.tables.items h.tables.items tables };
    stores = stores_zip (Lifted state GoesOn) g.tables.items h.tables.items tables;
    steady = steady_along g h tables;
  }

  pub goes_on_but : (R : StoreState → StoreState → Type 0) → ((s t : StoreState) → R s t → GoesOn s t) → (g h : GroupState X) → IsSameBut (Lifted state R) g h →
      h.journal.group ≡ g.journal.group → h.journal.opening ≡ g.journal.opening → GroupGoesOn state g h
  goes_on_but R f g h s number opening =
      group_goes_on g h s.node s.nodes
      (zip_weaker (IsRestingTable (Lifted state R)) (IsSameTable (Lifted state GoesOn))
      (λ t u k. record {
        table = k.same.table;
        shape = k.same.shape;
        shard = k.same.shard;
        stores = zip_weaker (Lifted state R) (Lifted state GoesOn) (λ x y. f (state x) (state y)) t.stores.items u.stores.items k.same.stores;
      })
      g.tables.items h.tables.items s.tables)
      number opening
