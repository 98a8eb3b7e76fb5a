-- A group with one more table, which no entry names.
use Rattle.std.proofs.Common.{◌≡◌, ◌≢◌, eq-eqb, ◌∙◌, ◌+◌, ℕ, zero, suc, ◌<◌, ◌≤◌, Bool, true, false, if◌then◌else◌, nat_eq, IsSome, Option, Some, None, List, [], ◌∷◌, ◌++◌, length, get_or, take, slice_get, map, refl, sym, ap, subst, vec_capacity, length-append, append-nil, arith}
use Rattle.std.specs.List.{AllByRecursion, flat_map}
use Rattle.std.proofs.lemmas.List.{map-append}
use Rattle.std.proofs.lemmas.Grind.{flat_map-append}
use Rattle.cq_value.specs.declared.schema.Shape.{Shape}
use Rattle.cq_value.specs.Tables.{Table, empty_table}
use Rattle.cq_tree.specs.declared.journal.Entry.{Entry}
use Rattle.cq_tree.specs.declared.journal.EntryKind.{EntryKind}
use Rattle.cq_tree.specs.declared.journal.EntryKind.TheVariants.{Read, Write, MoveStart, CatchUp, Cutover, MoveStop}
use Rattle.cq_meaning.specs.Effects.{table_of}
use Rattle.cq_journal.specs.Journals.{replay, IsReplied, EachReplied}
use Rattle.cq_journal.specs.Laws.{IsNoWriteOf}
use Rattle.cq_journal.proofs.Replays.{from_others}
use Rattle.cq_store.specs.Stores.{StoreState}
use Rattle.cq_group.specs.declared.group.GroupTable.{GroupTable}
use Rattle.cq_group.specs.declared.group.GroupState.{GroupState}
use Rattle.cq_group.specs.Groups.{entries_of, journal_of, shapes, stores_of, Outline, outline, outlines, shape_at, or_no_shape, copies_of, IsNamed, AreReplicasFrom, IsTableKept, IsKept, AreDistinct, IsTableQuiet, IsQuiet}
use Rattle.cq_group.specs.Opening.{AreFreshFrom, AreFresh, first_shard}
use Rattle.cq_group.proofs.Zips.{all_weaker, all_push}
use Rattle.cq_group.proofs.PlaceLaws.{not_same}
use Rattle.cq_journal.specs.declared.journal.Journal.{Journal}
use Rattle.cq_group.specs.Moves.{IsSameMove, upto_move}
use Rattle.cq_group.proofs.MoveLaws.{all_upto, same_move, move_along, move_shapes}
use Rattle.cq_group.proofs.GroupLaws.{shapes_in, copies_same}

-- a table that is found is found beside one more, and its shape is the same
pub found_more : (os : List Outline) (o : Outline) (table : ℕ) → IsSome (shape_at os table) → shape_at (os ++ o ∷ []) table ≡ shape_at os table
found_more [] o table h = absurd (cc h)
found_more (p ∷ os) o table h = by_cases (nat_eq p.0 table) h (found_more os o table)
  where
    by_cases : (b : Bool) → IsSome (if b then Some p.1 else shape_at os table) → (IsSome (shape_at os table) → shape_at (os ++ o ∷ []) table ≡ shape_at os table) →
        (if b then Some p.1 else shape_at (os ++ o ∷ []) table) ≡ (if b then Some p.1 else shape_at os table)
    by_cases true h f = refl
    by_cases false h f = f h

-- the new one is found
pub found_last : (os : List Outline) (o : Outline) → IsSome (shape_at (os ++ o ∷ []) o.0)
found_last [] o = rw (eq-eqb o.0 o.0 refl) refl
found_last (p ∷ os) o = by_cases (nat_eq p.0 o.0) (found_last os o)
  where
    by_cases : (b : Bool) → IsSome (shape_at (os ++ o ∷ []) o.0) → IsSome (if b then Some p.1 else shape_at (os ++ o ∷ []) o.0)
    by_cases true h = refl
    by_cases false h = h

-- no other table has the new one's number
apart : (os : List Outline) (table other : ℕ) → shape_at os table ≡ None → IsSome (shape_at os other) → other ≢ table
apart os table other none some same =
    let clash : IsSome {T = Shape} None = subst (λ s. IsSome s) (ap (λ n. shape_at os n) same ∙ none) some in
    absurd (cc clash)

unnamed : (os : List Outline) (table : ℕ) (kind : EntryKind) → shape_at os table ≡ None → IsNamed os kind → IsNoWriteOf table kind
unnamed os table Read none h = tt
unnamed os table (Write op reply) none h = apart os table (table_of op) none h
unnamed os table (MoveStart node) none h = tt
unnamed os table CatchUp none h = tt
unnamed os table Cutover none h = tt
unnamed os table MoveStop none h = tt

replay_unnamed : (os : List Outline) (table : ℕ) (shape : Shape) (es : List Entry) → shape_at os table ≡ None → AllByRecursion (λ (e : Entry). IsNamed os e.kind) es → replay table shape es ≡ empty_table
replay_unnamed os table shape es none h =
    from_others table shape empty_table es (all_weaker (λ (e : Entry). IsNamed os e.kind) (λ (e : Entry). IsNoWriteOf table e.kind) (λ e. unnamed os table e.kind none) es h)

-- one more table leaves what the entries leave of each
pub replay_beside : (os : List Outline) (o : Outline) (table : ℕ) (es : List Entry) → AllByRecursion (λ (e : Entry). IsNamed os e.kind) es →
    replay table (or_no_shape (shape_at (os ++ o ∷ []) table)) es ≡ replay table (or_no_shape (shape_at os table)) es
replay_beside os o table es named = by (shape_at os table) refl
  where
    by : (s : Option Shape) → shape_at os table ≡ s → replay table (or_no_shape (shape_at (os ++ o ∷ []) table)) es ≡ replay table (or_no_shape (shape_at os table)) es
    by None e = replay_unnamed os table (or_no_shape (shape_at (os ++ o ∷ []) table)) es e named ∙ sym (replay_unnamed os table (or_no_shape (shape_at os table)) es e named)
    by (Some s) e = ap (λ x. replay table (or_no_shape x) es) (found_more os o table (subst (λ x. IsSome x) (sym e) refl))

named_more : (os : List Outline) (o : Outline) (kind : EntryKind) → IsNamed os kind → IsNamed (os ++ o ∷ []) kind
named_more os o Read h = tt
named_more os o (Write op reply) h = subst (λ s. IsSome s) (sym (found_more os o (table_of op) h)) h
named_more os o (MoveStart node) h = tt
named_more os o CatchUp h = tt
named_more os o Cutover h = tt
named_more os o MoveStop h = tt

replied_beside : (os : List Outline) (o : Outline) (before : List Entry) (kind : EntryKind) → IsNamed os kind → IsReplied (λ table. or_no_shape (shape_at os table)) before kind →
    IsReplied (λ table. or_no_shape (shape_at (os ++ o ∷ []) table)) before kind
replied_beside os o before Read h r = tt
replied_beside os o before (Write op reply) h r = subst (λ s. IsReplied (λ table. or_no_shape s) before (Write op reply)) (sym (found_more os o (table_of op) h)) r
replied_beside os o before (MoveStart node) h r = tt
replied_beside os o before CatchUp h r = tt
replied_beside os o before Cutover h r = tt
replied_beside os o before MoveStop h r = tt

pub all_got : {X : Type 0} (P : X → Type 0) (xs : List X) (n : ℕ) (x : X) → AllByRecursion P xs → slice_get xs n ≡ Some x → P x
all_got P [] n x h is = absurd (cc is)
all_got P (y ∷ ys) zero x h is = subst P (let e : y ≡ x = cc in e) h.0
all_got P (y ∷ ys) (suc n) x h is = all_got P ys n x h.1 is

-- a table that isn't found isn't the first, nor found in the rest
pub none_first : (b : Bool) (x : Shape) (s : Option Shape) → (if b then Some x else s) ≡ None → (b ≡ false) × (s ≡ None)
none_first true x s e = absurd (cc e)
none_first false x s e = (refl, e)

none_more : (rs : List Outline) (o : Outline) (table : ℕ) → shape_at rs table ≡ None → nat_eq o.0 table ≡ false → shape_at (rs ++ o ∷ []) table ≡ None
none_more [] o table e other = ap (λ b. if b then Some o.1 else None) other
none_more (r ∷ rs) o table e other =
    let first = none_first (nat_eq r.0 table) r.1 (shape_at rs table) e in
    ap (λ b. if b then Some r.1 else shape_at (rs ++ o ∷ []) table) first.0 ∙ none_more rs o table first.1 other

distinct_more : (os : List Outline) (o : Outline) → AreDistinct os → shape_at os o.0 ≡ None → AreDistinct (os ++ o ∷ [])
distinct_more [] o h none = (refl, tt)
distinct_more (p ∷ os) o h none =
    let first = none_first (nat_eq p.0 o.0) p.1 (shape_at os o.0) none in
    (none_more os o p.0 h.0 (not_same p.0 o.0 first.0), distinct_more os o h.1 first.1)

module _ {X : Type 0} (state : X → StoreState) where
  fresh_replicas : (place node : ℕ) (es : List Entry) (table : ℕ) (shape : Shape) (shard : ℕ) (ss : List StoreState) → replay table shape es ≡ empty_table → AreFreshFrom place node shard ss →
      AreReplicasFrom place node es table shape shard ss
  fresh_replicas place node es table shape shard [] e h = tt
  fresh_replicas place node es table shape shard (s ∷ ss) e h =
      (record { of_node = h.0.of_node; of_shard = h.0.of_shard; holds = h.0.empty ∙ sym e }, fresh_replicas (place + 1) node es table shape shard ss e h.1)

  fresh_some : (xs : List X) → 0 < first_shard state xs → 0 < length xs
  fresh_some [] low = absurd (omega arith)
  fresh_some (x ∷ xs) low = omega arith

  pub fresh_quiet : (place node shard : ℕ) (xs : List X) → AreFreshFrom place node shard (map state xs) → AllByRecursion (λ (x : X). (state x).staged ≡ []) xs
  fresh_quiet place node shard [] h = tt
  fresh_quiet place node shard (x ∷ xs) h = (h.0.nothing, fresh_quiet (place + 1) node shard xs h.1)

  pub first_shard_at : (xs : List X) (x : X) → 0 < first_shard state xs → x ≡ get_or xs 0 x → (state x).shard ≡ first_shard state xs
  first_shard_at [] x low is = absurd (omega arith)
  first_shard_at (y ∷ ys) x low is = ap (λ z. (state z).shard) is

  fresh_kept : (g : GroupState X) (v : GroupTable X) → IsKept state g → shape_at (outlines g) v.table ≡ None → AreFresh state g.node (copies_of g) v.stores.items →
      v.shard ≡ first_shard state v.stores.items → v.next ≡ 0 → IsTableKept state g.node (copies_of g) (entries_of g) v
  fresh_kept g v k none fresh shard next =
      let e : replay v.table v.shape (entries_of g) ≡ empty_table = replay_unnamed (outlines g) v.table v.shape (entries_of g) none k.named in
      record {
        numbered = next ∙ ap (λ (t : Table). t.next) (sym e);
        ids = omega (arith, next);
        some_shard = subst (λ n. 0 < n) (sym shard) fresh.adopted;
        some_store = subst (λ n. 0 < n) fresh.complete (fresh_some v.stores.items fresh.adopted);
        complete = fresh.complete;
        replicas = subst (λ n. AreReplicasFrom 0 g.node (entries_of g) v.table v.shape n (map state v.stores.items)) (sym shard)
            (fresh_replicas 0 g.node (entries_of g) v.table v.shape (first_shard state v.stores.items) (map state v.stores.items) e fresh.each);
      }

  -- a group with one more table keeps what it did
  pub added : (g h : GroupState X) (v : GroupTable X) → IsKept state g → shape_at (outlines g) v.table ≡ None → AreFresh state g.node (copies_of g) v.stores.items →
      v.shard ≡ first_shard state v.stores.items → v.next ≡ 0 → h.node ≡ g.node → h.nodes ≡ g.nodes → h.journal ≡ g.journal → h.moving ≡ g.moving → h.tables.items ≡ g.tables.items ++ v ∷ [] →
      length (stores_of g) + length v.stores.items ≤ vec_capacity h.room → h.room.items ≡ [] → IsKept state h
  added g h v k none fresh shard next node nodes journal moving tables room unused =
      let entries : entries_of h ≡ entries_of g = ap (λ x. x.entries.list) journal in
      let os : outlines h ≡ outlines g ++ outline v ∷ [] = ap (λ ts. map outline ts) tables ∙ map-append outline g.tables.items (v ∷ []) in
      let more = outlines g ++ outline v ∷ [] in
      let items : GroupTable X → List X = λ t. t.stores.items in
      let stores : stores_of h ≡ stores_of g ++ (v.stores.items ++ []) = ap (λ ts. flat_map items ts) tables ∙ flat_map-append items g.tables.items (v ∷ []) in
      let long : length (stores_of h) ≡ length (stores_of g) + length v.stores.items =
      ap length stores ∙ length-append (stores_of g) (v.stores.items ++ []) ∙ ap (λ xs. length (stores_of g) + length xs) (append-nil v.stores.items) in
      record {
        replied = subst (λ rs. EachReplied (λ table. or_no_shape (shape_at rs table)) (entries_of h)) (sym os)
            (subst (λ es. EachReplied (λ table. or_no_shape (shape_at more table)) es) (sym entries)
            (λ place e is. replied_beside (outlines g) (outline v) (take place (entries_of g)) e.kind
            (all_got (λ (x : Entry). IsNamed (outlines g) x.kind) (entries_of g) place e k.named is) (k.replied place e is)));
        named = subst (λ rs. AllByRecursion (λ (x : Entry). IsNamed rs x.kind) (entries_of h)) (sym os)
            (subst (λ es. AllByRecursion (λ (x : Entry). IsNamed more x.kind) es) (sym entries)
            (all_weaker (λ (x : Entry). IsNamed (outlines g) x.kind) (λ (x : Entry). IsNamed more x.kind) (λ x named. named_more (outlines g) (outline v) x.kind named) (entries_of g) k.named));
        tables =
            subst (λ n. AllByRecursion (IsTableKept state n (copies_of h) (entries_of h)) h.tables.items) (sym node)
            (subst (λ c. AllByRecursion (IsTableKept state g.node c (entries_of h)) h.tables.items) (sym (copies_same state g h node nodes))
            (subst (λ es. AllByRecursion (IsTableKept state g.node (copies_of g) es) h.tables.items) (sym entries)
            (subst (λ ts. AllByRecursion (IsTableKept state g.node (copies_of g) (entries_of g)) ts) (sym tables)
            (all_push (IsTableKept state g.node (copies_of g) (entries_of g)) g.tables.items v k.tables (fresh_kept g v k none fresh shard next)))));
        distinct = subst AreDistinct (sym os) (distinct_more (outlines g) (outline v) k.distinct none);
        room = subst (λ n. n ≤ vec_capacity h.room) (sym long) room;
        unused = unused;
        move =
            move_along (λ table. or_no_shape (shape_at more table)) (shapes h) (journal_of g) (journal_of h) g.node h.node g.journal.entries.room h.journal.entries.room g.moving h.moving
            (ap shapes_in os) (ap (λ x. x.opening) journal) entries node (subst (λ (x : Journal). g.journal.entries.room ≤ x.entries.room) (sym journal) (omega arith))
            (subst (λ m. IsSameMove g.moving m) (sym moving) (same_move g.moving))
            (move_shapes (shapes g) (λ table. or_no_shape (shape_at more table)) (journal_of g) g.node g.journal.entries.room g.moving
            (λ table. replay_beside (outlines g) (outline v) table (entries_of g) k.named)
            (λ table. replay_beside (outlines g) (outline v) table (upto_move (entries_of g)) (all_upto (λ (x : Entry). IsNamed (outlines g) x.kind) (entries_of g) k.named))
            k.move);
      }

  pub quiet_added : (g : GroupState X) (us : List (GroupTable X)) (v : GroupTable X) → AreFresh state g.node (copies_of g) v.stores.items → us ≡ g.tables.items ++ v ∷ [] → IsQuiet state g →
      AllByRecursion (IsTableQuiet state) us
  quiet_added g us v fresh tables q = subst (λ ts. AllByRecursion (IsTableQuiet state) ts) (sym tables)
      (all_push (IsTableQuiet state) g.tables.items v q (fresh_quiet 0 g.node (first_shard state v.stores.items) v.stores.items fresh.each))
