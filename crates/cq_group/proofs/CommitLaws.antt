-- A group whose staged write is made.
use Rattle.std.proofs.Common.{◌≡◌, ◌∙◌, ◌+◌, ℕ, ◌<◌, ◌≤◌, Bool, true, false, if◌then◌else◌, nat_eq, List, [], ◌∷◌, ◌++◌, length, get_or, map, refl, sym, ap, subst, eq-eqb, add-zero, arith}
use Rattle.std.proofs.Math.ListN.{set}
use Rattle.std.specs.Prelude.{filter}
use Rattle.std.specs.List.{AllByRecursion, AllZip}
use Rattle.std.proofs.lemmas.List.Elements.{length_all_zip}
use Rattle.cq_value.specs.declared.schema.Shape.{Shape}
use Rattle.cq_value.specs.Tables.{Table, rows_of}
use Rattle.cq_tree.specs.declared.journal.Who.{Who}
use Rattle.cq_tree.specs.declared.journal.Entry.{Entry}
use Rattle.cq_tree.specs.declared.journal.EntryKind.TheVariants.{Write}
use Rattle.cq_tree.specs.declared.write.Reply.{Reply}
use Rattle.cq_tree.specs.declared.write.Reply.TheVariants.{Count, Duplicate, OutOfRange}
use Rattle.cq_tree.specs.declared.write.ShardOp.{ShardOp}
use Rattle.cq_tree.specs.declared.write.ShardOp.TheVariants.{Insert, Update, Remove}
use Rattle.cq_meaning.specs.Effects.{effect, reply_of, repeats, table_of, inserts, with_rows, fit_kinds, updates, renewed, is_kept}
use Rattle.cq_journal.specs.Journals.{replay}
use Rattle.cq_store.specs.Stores.{StoreState}
use Rattle.cq_group.specs.declared.group.GroupTable.{GroupTable}
use Rattle.cq_group.specs.declared.group.GroupState.{GroupState}
use Rattle.cq_group.specs.Groups.{entries_of, journal_of, stores_of, or_no_shape, shapes, copies_of, AreReplicasFrom, IsTableKept, IsKept, IsTableQuiet, IsStagedIn, IsTableStaged, IsReady}
use Rattle.cq_group.specs.Calls.{Commits, GoesOn, Lifted, IsSameTable, GroupGoesOn, ids_taken}
use Rattle.cq_group.proofs.Zips.{zip_refl, zip_set, zip_weaker}
use Rattle.cq_group.proofs.Turns.{keeps, keeps_go_on, commits_go_on}
use Rattle.cq_journal.proofs.Replays.{replay_more}
use Rattle.cq_group.proofs.PlaceLaws.{all_at, set_where, not_same}
use Rattle.cq_group.specs.Moves.{Logs, rows_counted}
use Rattle.cq_group.proofs.MoveLaws.{same_move, move_along, move_write, changes_counted}
use Rattle.cq_group.proofs.GroupLaws.{shapes_in, outlines_same, stores_zip, table_unmoved, kept_more, group_goes_on}
use Rattle.cq_group.proofs.WriteLaws.{kept_at, shape_found, replay_found, next_found}

-- the rows that a reply counts are those that the write adds
effect_next : (op : ShardOp) (t : Table) (shape : Shape) → t.next + ids_taken op (reply_of op t shape) ≡ (effect op t shape).next
effect_next (Insert table rows) t shape = by_cases (repeats shape.key (rows_of t) rows)
  where
    by_cases : (b : Bool) → t.next + ids_taken (Insert table rows) (if b then Duplicate else Count (length rows)) ≡ (if b then t else with_rows t rows).next
    by_cases true = add-zero t.next
    by_cases false = refl
effect_next (Update table filter_ sets) t shape = by_cases (fit_kinds shape.kinds (updates filter_ sets t.pairs))
  where
    by_cases : (b : Bool) → t.next + ids_taken (Update table filter_ sets) (if b then Count (length (filter (is_kept filter_) t.pairs)) else OutOfRange)
        ≡ (if b then record { next = t.next; pairs = map (renewed filter_ sets) t.pairs } else t).next
    by_cases true = add-zero t.next
    by_cases false = add-zero t.next
effect_next (Remove table filter_) t shape = add-zero t.next

taken_low : (op : ShardOp) (reply : Reply) → ids_taken op reply ≤ length (inserts op)
taken_low op (Count n) = omega arith
taken_low op Duplicate = omega arith
taken_low op OutOfRange = omega arith

module _ {X : Type 0} (state : X → StoreState) (op : ShardOp) (reply : Reply) (who : Who) where
  abbrev pub entry : Entry
  entry = record { who = who; kind = Write op reply }

  replay_here : (es : List Entry) (t : GroupTable X) → t.table ≡ table_of op → replay t.table t.shape (es ++ entry ∷ []) ≡ effect op (replay t.table t.shape es) t.shape
  replay_here es t named = replay_more t.table t.shape es entry ∙ ap (λ b. if b then effect op (replay t.table t.shape es) t.shape else replay t.table t.shape es) (eq-eqb (table_of op) t.table (sym named))

  replay_there : (es : List Entry) (t : GroupTable X) → nat_eq t.table (table_of op) ≡ false → replay t.table t.shape (es ++ entry ∷ []) ≡ replay t.table t.shape es
  replay_there es t other = replay_more t.table t.shape es entry ∙ ap (λ b. if b then effect op (replay t.table t.shape es) t.shape else replay t.table t.shape es) (not_same t.table (table_of op) other)

  replicas_made : (place node : ℕ) (es more : List Entry) (table : ℕ) (shape : Shape) (shard : ℕ) (xs ys : List X) → replay table shape more ≡ effect op (replay table shape es) shape →
      AreReplicasFrom place node es table shape shard (map state xs) → AllByRecursion (λ (x : X). IsStagedIn true op shape (state x)) xs → AllZip (Lifted state Commits) xs ys →
      AreReplicasFrom place node more table shape shard (map state ys)
  replicas_made place node es more table shape shard [] [] e h s k = tt
  replicas_made place node es more table shape shard [] (y ∷ ys) e h s k = absurd k
  replicas_made place node es more table shape shard (x ∷ xs) [] e h s k = absurd k
  replicas_made place node es more table shape shard (x ∷ xs) (y ∷ ys) e h s k = (
    record {
      of_node = ap (λ (z : StoreState). z.node) k.0.state ∙ h.0.of_node;
      of_shard = ap (λ (z : StoreState). z.shard) k.0.state ∙ h.0.of_shard;
      holds = ap (λ (z : StoreState). z.rows) k.0.state ∙ s.0 ∙ ap (λ t. effect op t shape) h.0.holds ∙ sym e;
    },
    replicas_made (place + 1) node es more table shape shard xs ys e h.1 s.1 k.1,
  )

  table_made : (node copies : ℕ) (es : List Entry) (t u : GroupTable X) → IsTableKept state node copies es t → t.table ≡ table_of op →
      reply ≡ reply_of op (replay t.table t.shape es) t.shape → t.next + length (inserts op) ≤ 4294967296 → AllByRecursion (λ (x : X). IsStagedIn true op t.shape (state x)) t.stores.items →
      IsSameTable (Lifted state Commits) t u → u.next ≡ t.next + ids_taken op reply → IsTableKept state node copies (es ++ entry ∷ []) u
  table_made node copies es t u h named replied ids staged same next =
      let more = es ++ entry ∷ [] in
      let made : (replay t.table t.shape more).next ≡ u.next =
      ap (λ (v : Table). v.next) (replay_here es t named) ∙ sym (effect_next op (replay t.table t.shape es) t.shape)
      ∙ (λ i. sym h.numbered i + ids_taken op (sym replied i)) ∙ sym next in
      let low = taken_low op reply in
      record {
        numbered = sym (subst (λ a. (replay a u.shape more).next ≡ u.next) (sym same.table) (subst (λ b. (replay t.table b more).next ≡ u.next) (sym same.shape) made));
        ids = omega (arith, next, low, ids);
        some_shard = subst (λ n. 0 < n) (sym same.shard) h.some_shard;
        some_store = h.some_store;
        complete = sym (length_all_zip (Lifted state Commits) t.stores.items u.stores.items same.stores) ∙ h.complete;
        replicas =
            subst (λ a. AreReplicasFrom 0 node more a u.shape u.shard (map state u.stores.items)) (sym same.table)
            (subst (λ b. AreReplicasFrom 0 node more t.table b u.shard (map state u.stores.items)) (sym same.shape)
            (subst (λ c. AreReplicasFrom 0 node more t.table t.shape c (map state u.stores.items)) (sym same.shard)
            (replicas_made 0 node es more t.table t.shape t.shard t.stores.items u.stores.items (replay_here es t named) h.replicas staged same.stores)));
      }

  quiet_made : (t u : GroupTable X) → IsSameTable (Lifted state Commits) t u → IsTableQuiet state u
  quiet_made t u same = each t.stores.items u.stores.items same.stores
    where
      each : (xs ys : List X) → AllZip (Lifted state Commits) xs ys → AllByRecursion (λ (x : X). (state x).staged ≡ []) ys
      each [] [] h = tt
      each [] (y ∷ ys) h = absurd h
      each (x ∷ xs) [] h = absurd h
      each (x ∷ xs) (y ∷ ys) h = (ap (λ (z : StoreState). z.staged) h.0.state, each xs ys h.1)

  module _ (g : GroupState X) (k : IsKept state g) (r : IsReady state g op reply) (place : ℕ) (t : GroupTable X) (within : place < length g.tables.items) (is : t ≡ get_or g.tables.items place t)
      (named : t.table ≡ table_of op) where
    pub ids_here : t.next + length (inserts op) ≤ 4294967296
    ids_here = subst (λ n. n + length (inserts op) ≤ 4294967296) (sym (next_found state g k place (table_of op) t within is named)) r.ids

    replied_here : reply ≡ reply_of op (replay t.table t.shape (entries_of g)) t.shape
    replied_here =
        let moved : reply_of op (replay (table_of op) (shapes g (table_of op)) (entries_of g)) (shapes g (table_of op)) ≡ reply_of op (replay t.table t.shape (entries_of g)) t.shape =
        λ i. reply_of op (replay_found state g k place (table_of op) t within is named i) (or_no_shape (shape_found state g k place (table_of op) t within is named i)) in
        r.replied ∙ moved

    -- the next id stays within bounds
    pub counted : t.next + ids_taken op reply ≤ 4294967296
    counted =
        let low = taken_low op reply in
        omega (arith, low, ids_here)

    staged_here : AllByRecursion (λ (x : X). IsStagedIn true op t.shape (state x)) t.stores.items
    staged_here = subst (λ b. AllByRecursion (λ (x : X). IsStagedIn b op t.shape (state x)) t.stores.items) (eq-eqb t.table (table_of op) named)
        (all_at (IsTableStaged state op) g.tables.items place t r.staged within is)

    pub made_quiet : (u : GroupTable X) → IsSameTable (Lifted state Commits) t u → AllByRecursion (IsTableQuiet state) (set g.tables.items place u)
    made_quiet u same =
        set_where (IsTableStaged state op) (IsTableQuiet state) (table_of op)
        (λ v other staged. subst (λ b. AllByRecursion (λ (x : X). IsStagedIn b op v.shape (state x)) v.stores.items) other staged)
        g.tables.items place t u k.distinct within is named r.staged (quiet_made t u same)

    module _ (h : GroupState X) (u : GroupTable X) (same : IsSameTable (Lifted state Commits) t u) (next : u.next ≡ t.next + ids_taken op reply) (node : h.node ≡ g.node) (nodes : h.nodes ≡ g.nodes)
        (tables : h.tables.items ≡ set g.tables.items place u) where
      go_on : (x : X) → Lifted state GoesOn x x
      go_on x = keeps_go_on (state x) (state x) (keeps (state x))

      table_goes_on : (v : GroupTable X) → IsSameTable (Lifted state GoesOn) v v
      table_goes_on v = record { table = refl; shape = refl; shard = refl; stores = zip_refl (Lifted state GoesOn) go_on v.stores.items }

      went_on : AllZip (IsSameTable (Lifted state GoesOn)) g.tables.items h.tables.items
      went_on = subst (λ us. AllZip (IsSameTable (Lifted state GoesOn)) g.tables.items us) (sym tables)
          (zip_set (IsSameTable (Lifted state GoesOn)) table_goes_on g.tables.items place t u within is
          (record {
            table = same.table;
            shape = same.shape;
            shard = same.shard;
            stores = zip_weaker (Lifted state Commits) (Lifted state GoesOn) (λ x y. commits_go_on (state x) (state y)) t.stores.items u.stores.items same.stores;
          }))

      pub made_goes_on : h.journal.group ≡ g.journal.group → h.journal.opening ≡ g.journal.opening → GroupGoesOn state g h
      made_goes_on number opening = group_goes_on state g h node nodes went_on number opening

      pub made_kept : h.room ≡ g.room → entries_of h ≡ entries_of g ++ entry ∷ [] → h.journal.opening ≡ g.journal.opening → 0 < h.journal.entries.room →
          Logs (table_of op) r.logged.changes g.moving h.moving → IsKept state h
      made_kept room entries opening slot logs =
          kept_more state g h entry k node nodes room (outlines_same (Lifted state GoesOn) g.tables.items h.tables.items went_on)
          (sym (length_all_zip (Lifted state GoesOn) (stores_of g) (stores_of h) (stores_zip (Lifted state GoesOn) g.tables.items h.tables.items went_on)))
          entries r.replied r.there
          (subst (λ us. AllByRecursion (IsTableKept state g.node (copies_of g) (entries_of g ++ entry ∷ [])) us) (sym tables)
          (set_where (IsTableKept state g.node (copies_of g) (entries_of g)) (IsTableKept state g.node (copies_of g) (entries_of g ++ entry ∷ [])) (table_of op)
          (λ v other kept. table_unmoved state g.node (copies_of g) (entries_of g) (entries_of g ++ entry ∷ []) v (replay_there (entries_of g) v other) kept)
          g.tables.items place t u k.distinct within is named k.tables
          (table_made g.node (copies_of g) (entries_of g) t u (kept_at state g k place (table_of op) t within is named) named replied_here ids_here staged_here same next)))
          (move_along (shapes g) (shapes h) (record (journal_of g) { entries = entries_of g ++ entry ∷ [] }) (journal_of h) g.node h.node h.journal.entries.room h.journal.entries.room h.moving h.moving
          (ap shapes_in (outlines_same (Lifted state GoesOn) g.tables.items h.tables.items went_on)) opening entries node (omega arith) (same_move h.moving)
          (move_write (shapes g) (journal_of g) g.node g.journal.entries.room h.journal.entries.room g.moving h.moving (entries_of g) who op reply r.logged.changes refl slot
          r.logged.fitting r.logged.changed
          (ap length r.logged.listed ∙ changes_counted op (replay (table_of op) (shapes g (table_of op)) (entries_of g)) (shapes g (table_of op)) ∙ ap rows_counted (sym r.replied)) logs k.move))
