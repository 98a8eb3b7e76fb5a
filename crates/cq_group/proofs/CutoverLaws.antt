-- A move that catches up, and one that is cut over.
use Rattle.std.proofs.Common.{◌≡◌, ◌∙◌, ◌+◌, ◌<◌, ◌≤◌, ℕ, zero, suc, inl, inr, IsSome, IfSome, Option, Some, None, if◌then◌else◌, nat_eq, List, [], ◌∷◌, ◌++◌, length, map, take, drop, refl, sym, ap, subst, vec_capacity, length-append, get_or, add-one, eq-eqb, arith}
use Rattle.std.proofs.Math.ListN.{set}
use Rattle.std.specs.List.{AllByRecursion, AllZip, flat_map}
use Rattle.std.proofs.lemmas.Bool.Decides.{eqb_tells}
use Rattle.cq_value.specs.declared.schema.Shape.{Shape}
use Rattle.cq_value.specs.declared.change.Change.{Change}
use Rattle.cq_value.specs.Tables.{Table}
use Rattle.cq_value.specs.Changes.{applied, Fit}
use Rattle.cq_tree.specs.declared.journal.Who.{Who}
use Rattle.cq_tree.specs.declared.journal.Entry.{Entry}
use Rattle.cq_tree.specs.declared.journal.EntryKind.TheVariants.{Cutover}
use Rattle.cq_journal.specs.Journals.{replay, EachReplied}
use Rattle.cq_journal.specs.Records.{Journal}
use Rattle.cq_journal.specs.Stations.{Station, station_of, moving_of, node_of}
use Rattle.cq_journal.proofs.Replays.{replay_more, replied_more}
use Rattle.cq_change.specs.declared.log.TableChange.{TableChange}
use Rattle.cq_change.specs.Logs.{changes_in, Leads}
use Rattle.cq_store.specs.Stores.{StoreState}
use Rattle.cq_group.specs.declared.group.GroupTable.{GroupTable}
use Rattle.cq_group.specs.declared.group.GroupState.{GroupState}
use Rattle.cq_group.specs.declared.moving.Moving.{Moving}
use Rattle.cq_group.specs.declared.incoming.IncomingTable.{IncomingTable}
use Rattle.cq_group.specs.declared.incoming.Incoming.{Incoming}
use Rattle.cq_group.specs.Groups.{Outline, outline, outlines, shape_at, or_no_shape, shapes, entries_of, journal_of, stores_of, copies_of, node_at, AreDistinct, AreReplicasFrom, IsNamed, IsTableKept, IsKept, IsTableQuiet}
use Rattle.cq_group.specs.Resting.{IsResting}
use Rattle.cq_group.proofs.Zips.{all_push}
use Rattle.cq_group.proofs.MoveLaws.{station_push}
use Rattle.cq_group.proofs.GroupLaws.{table_unmoved}
use Rattle.cq_group.specs.Moves.{upto_move, changed_since, IsLogged, IsMoveKept}
use Rattle.cq_group.specs.Incoming.{IsArriving, IsIncomingTable, arriving, IsIncoming, IsSettled, with_due, with_stores, without_stores, move_log}

-- where a move is in flight by the journal, it is
pub in_flight : (shapes : ℕ → Shape) (j : Journal) (node room : ℕ) (o : Option Moving) (who : Who) → IsMoveKept shapes j node room o → moving_of j ≡ Some who → IsSome o
in_flight shapes j node room None who h e = absurd (let clash : moving_of j ≡ None = h in cc (clash, e))
in_flight shapes j node room (Some m) who h e = refl

-- its log
pub log_kept : (shapes : ℕ → Shape) (j : Journal) (node room : ℕ) (o : Option Moving) → IsMoveKept shapes j node room o → IsSome o → IsLogged shapes j.entries (move_log o)
log_kept shapes j node room None h s = absurd (cc s)
log_kept shapes j node room (Some m) h s = h.logged

-- each outline's shape is found by its number
shapes_found : (all os : List Outline) → AreDistinct os → ((table : ℕ) → IsSome (shape_at os table) → shape_at all table ≡ shape_at os table) → AllByRecursion (λ (o : Outline). shape_at all o.0 ≡ Some o.1) os
shapes_found all [] d f = tt
shapes_found all (o ∷ os) d f = (
  (let here : shape_at (o ∷ os) o.0 ≡ Some o.1 = ap (λ b. if b then Some o.1 else shape_at os o.0) (eq-eqb o.0 o.0 refl) in f o.0 (subst (λ s. IsSome s) (sym here) refl) ∙ here),
  shapes_found all os d.1 (λ table s. (let there = behind o os table d.0 s in f table (subst (λ x. IsSome x) (sym there) s) ∙ there)),
)
  where
    behind : (o : Outline) (os : List Outline) (table : ℕ) → shape_at os o.0 ≡ None → IsSome (shape_at os table) → shape_at (o ∷ os) table ≡ shape_at os table
    behind o os table none s = elim (eqb_tells o.0 table) [
      | inl p ↦ absurd (let clash : IsSome {T = Shape} None = subst (λ x. IsSome x) (ap (shape_at os) (sym p.1) ∙ none) s in cc clash)
      | inr p ↦ ap (λ b. if b then Some o.1 else shape_at os table) p.0
    ]

pub found_all : (os : List Outline) → AreDistinct os → AllByRecursion (λ (o : Outline). shape_at os o.0 ≡ Some o.1) os
found_all os d = shapes_found os os d (λ table s. refl)

node_here : (node : ℕ) → 0 < node → node_at node 0 ≡ node
node_here node some = elim (eqb_tells node 0) [ inl p ↦ absurd (let zero_node = p.1 in omega (arith, some, zero_node)) | inr p ↦ ap (λ b. if b then 0 + 1 else node) p.0 ]

module _ {X : Type 0} (state : X → StoreState) where
  -- what comes in, where the entries leave the same
  unmoved_table : (node : ℕ) (es more : List Entry) (o : Outline) (t : IncomingTable X) → replay o.0 o.1 more ≡ replay o.0 o.1 es → IsIncomingTable state node es o t → IsIncomingTable state node more o t
  unmoved_table node es more o t e h = record { table = h.table; shard = h.shard; one = h.one; stores = each t.stores.items h.stores }
    where
      each : (xs : List X) → AllByRecursion (λ (x : X). IsArriving node es o t.pending (state x)) xs → AllByRecursion (λ (x : X). IsArriving node more o t.pending (state x)) xs
      each [] k = tt
      each (x ∷ xs) k = (record { of_node = k.0.of_node; of_shard = k.0.of_shard; adopted = k.0.adopted; nothing = k.0.nothing; fit = k.0.fit; gives = k.0.gives ∙ sym e }, each xs k.1)

  unmoved_tables : (node : ℕ) (es more : List Entry) (os : List Outline) (ts : List (IncomingTable X)) → ((o : Outline) → replay o.0 o.1 more ≡ replay o.0 o.1 es) → AllZip (IsIncomingTable state node es) os ts →
      AllZip (IsIncomingTable state node more) os ts
  unmoved_tables node es more [] [] e h = tt
  unmoved_tables node es more [] (t ∷ ts) e h = absurd h
  unmoved_tables node es more (o ∷ os) [] e h = absurd h
  unmoved_tables node es more (o ∷ os) (t ∷ ts) e h = (unmoved_table node es more o t (e o) h.0, unmoved_tables node es more os ts e h.1)

  pub unmoved_incoming : (node : ℕ) (es more : List Entry) (os : List Outline) (i : Incoming X) → ((o : Outline) → replay o.0 o.1 more ≡ replay o.0 o.1 es) → IsIncoming state node es os i → IsIncoming state node more os i
  unmoved_incoming node es more os i e h = record { tables = unmoved_tables node es more os i.tables.items e h.tables; room = h.room; unused = h.unused }

  -- with the changes in the log it comes up to the entries since
  fetched_table : (node : ℕ) (es more : List Entry) (log : List TableChange) (o : Outline) (t : IncomingTable X) → Leads o.0 log (replay o.0 o.1 es) (replay o.0 o.1 more) → t.pending ≡ [] → IsIncomingTable state node es o t →
      IsIncomingTable state node more o (with_due log t)
  fetched_table node es more log o t l none h = record { table = h.table; shard = h.shard; one = h.one; stores = each t.stores.items h.stores }
    where
      each : (xs : List X) → AllByRecursion (λ (x : X). IsArriving node es o t.pending (state x)) xs → AllByRecursion (λ (x : X). IsArriving node more o (changes_in t.table log) (state x)) xs
      each [] k = tt
      each (x ∷ xs) k = (
        (let rows : (state x).rows ≡ replay o.0 o.1 es = subst (λ cs. applied (state x).rows cs ≡ replay o.0 o.1 es) none k.0.gives in
            record {
              of_node = k.0.of_node;
              of_shard = k.0.of_shard;
              adopted = k.0.adopted;
              nothing = k.0.nothing;
              fit = subst (λ n. Fit (state x).rows (changes_in n log)) (sym h.table) (subst (λ (v : Table). Fit v (changes_in o.0 log)) (sym rows) l.fit);
              gives = (λ i. applied (rows i) (changes_in (h.table i) log)) ∙ l.gives;
            }),
        each xs k.1,
      )

  fetched_tables : (node : ℕ) (es more : List Entry) (log : List TableChange) (os : List Outline) (ts : List (IncomingTable X)) → AllByRecursion (λ (o : Outline). Leads o.0 log (replay o.0 o.1 es) (replay o.0 o.1 more)) os →
      AllByRecursion (λ (t : IncomingTable X). t.pending ≡ []) ts → AllZip (IsIncomingTable state node es) os ts → AllZip (IsIncomingTable state node more) os (map (with_due log) ts)
  fetched_tables node es more log [] [] l none h = tt
  fetched_tables node es more log [] (t ∷ ts) l none h = absurd h
  fetched_tables node es more log (o ∷ os) [] l none h = absurd h
  fetched_tables node es more log (o ∷ os) (t ∷ ts) l none h = (fetched_table node es more log o t l.0 none.0 h.0, fetched_tables node es more log os ts l.1 none.1 h.1)

  leads_all : (f : ℕ → Shape) (es more : List Entry) (log : List TableChange) (os : List Outline) → ((table : ℕ) → Leads table log (replay table (f table) es) (replay table (f table) more)) →
      AllByRecursion (λ (o : Outline). f o.0 ≡ o.1) os → AllByRecursion (λ (o : Outline). Leads o.0 log (replay o.0 o.1 es) (replay o.0 o.1 more)) os
  leads_all f es more log [] l s = tt
  leads_all f es more log (o ∷ os) l s = (subst (λ x. Leads o.0 log (replay o.0 x es) (replay o.0 x more)) s.0 (l o.0), leads_all f es more log os l s.1)

  shaped : (all os : List Outline) → AllByRecursion (λ (o : Outline). shape_at all o.0 ≡ Some o.1) os → AllByRecursion (λ (o : Outline). or_no_shape (shape_at all o.0) ≡ o.1) os
  shaped all [] h = tt
  shaped all (o ∷ os) h = (ap or_no_shape h.0, shaped all os h.1)

  arriving_same : (log : List TableChange) (ts : List (IncomingTable X)) → flat_map (λ (t : IncomingTable X). t.stores.items) (map (with_due log) ts) ≡ flat_map (λ (t : IncomingTable X). t.stores.items) ts
  arriving_same log [] = refl
  arriving_same log (t ∷ ts) = ap (λ xs. t.stores.items ++ xs) (arriving_same log ts)

  pub stores_fetched : (log : List TableChange) (i j : Incoming X) → j.tables.items ≡ map (with_due log) i.tables.items → arriving j ≡ arriving i
  stores_fetched log i j e = ap (λ ts. flat_map (λ (t : IncomingTable X). t.stores.items) ts) e ∙ arriving_same log i.tables.items

  pub fetched_incoming : (g : GroupState X) (node : ℕ) (i j : Incoming X) → IsKept state g → IsSome g.moving → IsIncoming state node (upto_move (entries_of g)) (outlines g) i → IsSettled i →
      j.tables.items ≡ map (with_due (move_log g.moving)) i.tables.items → j.room ≡ i.room → IsIncoming state node (entries_of g) (outlines g) j
  fetched_incoming g node i j k s h none tables room =
      let log = move_log g.moving in
      let logged = log_kept (shapes g) (journal_of g) g.node g.journal.entries.room g.moving k.move s in
      record {
        tables = subst (λ ts. AllZip (IsIncomingTable state node (entries_of g)) (outlines g) ts) (sym tables)
            (fetched_tables node (upto_move (entries_of g)) (entries_of g) log (outlines g) i.tables.items
            (leads_all (shapes g) (upto_move (entries_of g)) (entries_of g) log (outlines g) logged.leads (shaped (outlines g) (outlines g) (found_all (outlines g) k.distinct))) none h.tables);
        room = subst (λ v. length (arriving j) ≤ vec_capacity v) (sym room) (subst (λ xs. length xs ≤ vec_capacity i.room) (sym (stores_fetched log i j tables)) h.room);
        unused = ap (λ v. v.items) room ∙ h.unused;
      }

  pub counted_log : (g : GroupState X) → IsKept state g → IsSome g.moving → length (move_log g.moving) ≡ changed_since (entries_of g)
  counted_log g k s = (log_kept (shapes g) (journal_of g) g.node g.journal.entries.room g.moving k.move s).counted

  -- tables with the stores that came in
  pub exchanged_outlines : (node : ℕ) (es : List Entry) (ts : List (GroupTable X)) (us : List (IncomingTable X)) → AllByRecursion (λ (t : GroupTable X). length t.stores.items ≡ 1) ts →
      AllZip (IsIncomingTable state node es) (map outline ts) us → map outline (with_stores ts us) ≡ map outline ts
  exchanged_outlines node es [] us one h = refl
  exchanged_outlines node es (t ∷ ts) [] one h = refl
  exchanged_outlines node es (t ∷ ts) (u ∷ us) one h = λ i. (t.table, t.shape, t.shard, (h.0.one ∙ sym one.0) i) ∷ exchanged_outlines node es ts us one.1 h.1 i

  pub exchanged_stores : (node : ℕ) (es : List Entry) (ts : List (GroupTable X)) (us : List (IncomingTable X)) → AllZip (IsIncomingTable state node es) (map outline ts) us →
      flat_map (λ (t : GroupTable X). t.stores.items) (with_stores ts us) ≡ flat_map (λ (u : IncomingTable X). u.stores.items) us
  exchanged_stores node es [] [] h = refl
  exchanged_stores node es [] (u ∷ us) h = absurd h
  exchanged_stores node es (t ∷ ts) [] h = absurd h
  exchanged_stores node es (t ∷ ts) (u ∷ us) h = ap (λ xs. u.stores.items ++ xs) (exchanged_stores node es ts us h.1)

  pub left_stores : (node : ℕ) (es : List Entry) (ts : List (GroupTable X)) (us : List (IncomingTable X)) → AllZip (IsIncomingTable state node es) (map outline ts) us →
      flat_map (λ (u : IncomingTable X). u.stores.items) (without_stores ts us) ≡ flat_map (λ (t : GroupTable X). t.stores.items) ts
  left_stores node es [] [] h = refl
  left_stores node es [] (u ∷ us) h = absurd h
  left_stores node es (t ∷ ts) [] h = absurd h
  left_stores node es (t ∷ ts) (u ∷ us) h = ap (λ xs. t.stores.items ++ xs) (left_stores node es ts us h.1)

  pub one_each : (node : ℕ) (es : List Entry) (ts : List (GroupTable X)) (us : List (IncomingTable X)) → AllByRecursion (λ (t : GroupTable X). length t.stores.items ≡ 1) ts → AllZip (IsIncomingTable state node es) (map outline ts) us →
      length (flat_map (λ (u : IncomingTable X). u.stores.items) us) ≡ length (flat_map (λ (t : GroupTable X). t.stores.items) ts)
  one_each node es [] [] one h = refl
  one_each node es [] (u ∷ us) one h = absurd h
  one_each node es (t ∷ ts) [] one h = absurd h
  one_each node es (t ∷ ts) (u ∷ us) one h =
      let a = length-append u.stores.items (flat_map (λ (v : IncomingTable X). v.stores.items) us) in
      let b = length-append t.stores.items (flat_map (λ (v : GroupTable X). v.stores.items) ts) in
      let c = h.0.one in
      let d = one.0 in
      let rest = one_each node es ts us one.1 h.1 in
      omega (arith, a, b, c, d, rest)

  settled_replica : (node : ℕ) (es : List Entry) (table : ℕ) (shape : Shape) (shard : ℕ) (count : ℕ) (pending : List Change) (xs : List X) → 0 < node → pending ≡ [] → length xs ≡ 1 →
      AllByRecursion (λ (x : X). IsArriving node es (table, shape, shard, count) pending (state x)) xs → AreReplicasFrom 0 node es table shape shard (map state xs)
  settled_replica node es table shape shard count pending [] some none one h = tt
  settled_replica node es table shape shard count pending (x ∷ []) some none one h = (
    record {
      of_node = h.0.of_node ∙ sym (node_here node some);
      of_shard = h.0.of_shard;
      holds = subst (λ cs. applied (state x).rows cs ≡ replay table shape es) none h.0.gives;
    },
    tt,
  )
  settled_replica node es table shape shard count pending (x ∷ (y ∷ xs)) some none one h = absurd (omega (arith, one))

  pub exchanged_kept : (old node copies : ℕ) (es : List Entry) (ts : List (GroupTable X)) (us : List (IncomingTable X)) → 0 < node → AllByRecursion (IsTableKept state old copies es) ts → AllByRecursion (λ (u : IncomingTable X). u.pending ≡ []) us →
      AllZip (IsIncomingTable state node es) (map outline ts) us → AllByRecursion (IsTableKept state node 1 es) (with_stores ts us)
  exchanged_kept old node copies es [] us some k none h = tt
  exchanged_kept old node copies es (t ∷ ts) [] some k none h = absurd h
  exchanged_kept old node copies es (t ∷ ts) (u ∷ us) some k none h = (
    record {
      numbered = k.0.numbered;
      ids = k.0.ids;
      some_shard = k.0.some_shard;
      some_store = omega arith;
      complete = h.0.one;
      replicas = settled_replica node es t.table t.shape t.shard (length t.stores.items) u.pending u.stores.items some none.0 h.0.one h.0.stores;
    },
    exchanged_kept old node copies es ts us some k.1 none.1 h.1,
  )

  pub exchanged_quiet : (node : ℕ) (es : List Entry) (ts : List (GroupTable X)) (us : List (IncomingTable X)) → AllZip (IsIncomingTable state node es) (map outline ts) us → AllByRecursion (IsTableQuiet state) (with_stores ts us)
  exchanged_quiet node es [] us h = tt
  exchanged_quiet node es (t ∷ ts) [] h = absurd h
  exchanged_quiet node es (t ∷ ts) (u ∷ us) h = (each u.stores.items h.0.stores, exchanged_quiet node es ts us h.1)
    where
      each : (xs : List X) → AllByRecursion (λ (x : X). IsArriving node es (outline t) u.pending (state x)) xs → AllByRecursion (λ (x : X). (state x).staged ≡ []) xs
      each [] k = tt
      each (x ∷ xs) k = (k.0.nothing, each xs k.1)

  pub one_store : (node copies : ℕ) (es : List Entry) (ts : List (GroupTable X)) → copies ≡ 1 → AllByRecursion (IsTableKept state node copies es) ts → AllByRecursion (λ (t : GroupTable X). length t.stores.items ≡ 1) ts
  one_store node copies es [] e k = tt
  one_store node copies es (t ∷ ts) e k = (k.0.complete ∙ e, one_store node copies es ts e k.1)

-- a move in flight is of a distributed group, to a node
pub record Flight (shapes : ℕ → Shape) (j : Journal) (node : ℕ) : Type 0 where
  pub distributed : 0 < node
  pub somewhere : 0 < (station_of j).target

pub flight : (shapes : ℕ → Shape) (j : Journal) (node room : ℕ) (o : Option Moving) → IsMoveKept shapes j node room o → IsSome o → Flight shapes j node
flight shapes j node room None h s = absurd (cc s)
flight shapes j node room (Some m) h s = record { distributed = h.distributed; somewhere = subst (λ n. 0 < n) (sym h.target) h.somewhere }

pub target_found : (shapes : ℕ → Shape) (j : Journal) (node room : ℕ) (o : Option Moving) (n : ℕ) → IsMoveKept shapes j node room o → IsSome o → IfSome o (λ (m : Moving). n ≡ m.to) → n ≡ (station_of j).target
target_found shapes j node room None n h s e = absurd (cc s)
target_found shapes j node room (Some m) n h s e = e ∙ sym h.target

pub one_copy : (node nodes : ℕ) → 0 < node → (if nat_eq node 0 then nodes else 1) ≡ 1
one_copy node nodes some = elim (eqb_tells node 0) [ inl p ↦ absurd (omega (arith, some, p.1)) | inr p ↦ ap (λ b. if b then nodes else 1) p.0 ]

module _ {X : Type 0} (state : X → StoreState) where
  tables_moved : (node copies : ℕ) (es more : List Entry) (ts : List (GroupTable X)) → ((table : ℕ) (shape : Shape) → replay table shape more ≡ replay table shape es) → AllByRecursion (IsTableKept state node copies es) ts →
      AllByRecursion (IsTableKept state node copies more) ts
  tables_moved node copies es more [] e k = tt
  tables_moved node copies es more (t ∷ ts) e k = (table_unmoved state node copies es more t (e t.table t.shape) k.0, tables_moved node copies es more ts e k.1)

  -- the group is whole on its new node
  pub exchanged_resting : (g h : GroupState X) (who : Who) (i : Incoming X) → IsResting state g → IsSome g.moving → IsIncoming state (station_of (journal_of g)).target (entries_of g) (outlines g) i → IsSettled i →
      h.tables.items ≡ with_stores g.tables.items i.tables.items → h.node ≡ (station_of (journal_of g)).target → h.nodes ≡ g.nodes → h.room ≡ g.room → entries_of h ≡ entries_of g ++ record { who = who; kind = Cutover } ∷ [] →
      h.journal.opening ≡ g.journal.opening → h.moving ≡ None → IsResting state h
  exchanged_resting g h who i r some inc none tables at nodes room entries opening moving =
      let k = r.kept in
      let e : Entry = record { who = who; kind = Cutover } in
      let node = (station_of (journal_of g)).target in
      let more = entries_of g ++ e ∷ [] in
      let f = flight (shapes g) (journal_of g) g.node g.journal.entries.room g.moving k.move some in
      let copies : copies_of g ≡ 1 = one_copy g.node g.nodes f.distributed in
      let one = one_store state g.node (copies_of g) (entries_of g) g.tables.items copies k.tables in
      let same : outlines h ≡ outlines g = ap (λ ts. map outline ts) tables ∙ exchanged_outlines state node (entries_of g) g.tables.items i.tables.items one inc.tables in
      let stay : (table : ℕ) (shape : Shape) → replay table shape more ≡ replay table shape (entries_of g) = λ table shape. replay_more table shape (entries_of g) e in
      let late = unmoved_incoming state node (entries_of g) more (outlines g) i (λ o. stay o.0 o.1) inc in
      let long : length (stores_of h) ≡ length (stores_of g) =
      ap (λ ts. length (flat_map (λ (t : GroupTable X). t.stores.items) ts)) tables ∙ ap length (exchanged_stores state node (entries_of g) g.tables.items i.tables.items inc.tables) ∙ one_each state node (entries_of g) g.tables.items i.tables.items one inc.tables in
      record {
        kept = record {
          replied = subst (λ os. EachReplied (λ table. or_no_shape (shape_at os table)) (entries_of h)) (sym same)
              (subst (λ xs. EachReplied (shapes g) xs) (sym entries) (replied_more (shapes g) (entries_of g) e k.replied tt));
          named = subst (λ os. AllByRecursion (λ (x : Entry). IsNamed os x.kind) (entries_of h)) (sym same)
              (subst (λ xs. AllByRecursion (λ (x : Entry). IsNamed (outlines g) x.kind) xs) (sym entries) (all_push (λ (x : Entry). IsNamed (outlines g) x.kind) (entries_of g) e k.named tt));
          tables =
              subst (λ n. AllByRecursion (IsTableKept state n (copies_of h) (entries_of h)) h.tables.items) (sym at)
              (subst (λ c. AllByRecursion (IsTableKept state node c (entries_of h)) h.tables.items) (sym (one_copy h.node h.nodes (subst (λ n. 0 < n) (sym at) f.somewhere)))
              (subst (λ xs. AllByRecursion (IsTableKept state node 1 xs) h.tables.items) (sym entries)
              (subst (λ ts. AllByRecursion (IsTableKept state node 1 more) ts) (sym tables)
              (exchanged_kept state g.node node (copies_of g) more g.tables.items i.tables.items f.somewhere (tables_moved g.node (copies_of g) (entries_of g) more g.tables.items stay k.tables) none late.tables))));
          distinct = subst AreDistinct (sym same) k.distinct;
          room = subst (λ n. n ≤ vec_capacity h.room) (sym long) (subst (λ v. length (stores_of g) ≤ vec_capacity v) (sym room) k.room);
          unused = ap (λ v. v.items) room ∙ k.unused;
          move = subst (λ o. IsMoveKept (shapes h) (journal_of h) h.node h.journal.entries.room o) (sym moving)
              ((λ j. moving_of (record { number = h.journal.group; opening = opening j; base = (journal_of h).base; entries = entries j })) ∙ ap (λ (s : Station). s.moving) (station_push (journal_of g) (entries_of g) e));
        };
        quiet = subst (λ ts. AllByRecursion (IsTableQuiet state) ts) (sym tables) (exchanged_quiet state node (entries_of g) g.tables.items i.tables.items inc.tables);
        placed = (λ j. node_of (record { number = h.journal.group; opening = opening j; base = (journal_of h).base; entries = entries j })) ∙ ap (λ (s : Station). s.node) (station_push (journal_of g) (entries_of g) e) ∙ sym at;
      }

-- one more table of the exchange
with_suc : {X : Type 0} (ts : List (GroupTable X)) (us : List (IncomingTable X)) (n : ℕ) (t : GroupTable X) (u : IncomingTable X) → length ts ≡ length us → n < length ts →
    t ≡ get_or (with_stores (take n ts) (take n us) ++ drop n ts) n t → u ≡ get_or (without_stores (take n ts) (take n us) ++ drop n us) n u →
    set (with_stores (take n ts) (take n us) ++ drop n ts) n (record t { stores = u.stores }) ≡ with_stores (take (suc n) ts) (take (suc n) us) ++ drop (suc n) ts
with_suc [] us n t u e low a b = absurd (omega (arith, low))
with_suc (v ∷ ts) [] n t u e low a b = absurd (omega (arith, e))
with_suc (v ∷ ts) (w ∷ us) zero t u e low a b = λ i. record (a i) { stores = (b i).stores } ∷ ts
with_suc (v ∷ ts) (w ∷ us) (suc n) t u e low a b = ap (λ rs. record v { stores = w.stores } ∷ rs) (with_suc ts us n t u (omega (arith, e)) (omega (arith, low)) a b)

without_suc : {X : Type 0} (ts : List (GroupTable X)) (us : List (IncomingTable X)) (n : ℕ) (t : GroupTable X) (u : IncomingTable X) → length ts ≡ length us → n < length ts →
    t ≡ get_or (with_stores (take n ts) (take n us) ++ drop n ts) n t → u ≡ get_or (without_stores (take n ts) (take n us) ++ drop n us) n u →
    set (without_stores (take n ts) (take n us) ++ drop n us) n (record u { stores = t.stores }) ≡ without_stores (take (suc n) ts) (take (suc n) us) ++ drop (suc n) us
without_suc [] us n t u e low a b = absurd (omega (arith, low))
without_suc (v ∷ ts) [] n t u e low a b = absurd (omega (arith, e))
without_suc (v ∷ ts) (w ∷ us) zero t u e low a b = λ i. record (b i) { stores = (a i).stores } ∷ us
without_suc (v ∷ ts) (w ∷ us) (suc n) t u e low a b = ap (λ rs. record w { stores = v.stores } ∷ rs) (without_suc ts us n t u (omega (arith, e)) (omega (arith, low)) a b)

pub with_more : {X : Type 0} (ts ts' : List (GroupTable X)) (us us' : List (IncomingTable X)) (n : ℕ) (t : GroupTable X) (u : IncomingTable X) → length ts ≡ length us → n < length ts →
    ts' ≡ with_stores (take n ts) (take n us) ++ drop n ts → us' ≡ without_stores (take n ts) (take n us) ++ drop n us → t ≡ get_or ts' n t → u ≡ get_or us' n u →
    set ts' n (record t { stores = u.stores }) ≡ with_stores (take (n + 1) ts) (take (n + 1) us) ++ drop (n + 1) ts
with_more ts ts' us us' n t u e low p q a b =
    rw add-one (ap (λ rs. set rs n (record t { stores = u.stores })) p ∙ with_suc ts us n t u e low (a ∙ ap (λ rs. get_or rs n t) p) (b ∙ ap (λ rs. get_or rs n u) q))

pub without_more : {X : Type 0} (ts ts' : List (GroupTable X)) (us us' : List (IncomingTable X)) (n : ℕ) (t : GroupTable X) (u : IncomingTable X) → length ts ≡ length us → n < length ts →
    ts' ≡ with_stores (take n ts) (take n us) ++ drop n ts → us' ≡ without_stores (take n ts) (take n us) ++ drop n us → t ≡ get_or ts' n t → u ≡ get_or us' n u →
    set us' n (record u { stores = t.stores }) ≡ without_stores (take (n + 1) ts) (take (n + 1) us) ++ drop (n + 1) us
without_more ts ts' us us' n t u e low p q a b =
    rw add-one (ap (λ rs. set rs n (record u { stores = t.stores })) q ∙ without_suc ts us n t u e low (a ∙ ap (λ rs. get_or rs n t) p) (b ∙ ap (λ rs. get_or rs n u) q))
