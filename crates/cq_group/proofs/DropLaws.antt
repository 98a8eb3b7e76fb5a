-- A group without the table that was added last, of which no entry is a write.
use Rattle.std.proofs.Common.{◌≡◌, ◌∙◌, ◌+◌, ℕ, ◌≤◌, Bool, true, false, if◌then◌else◌, nat_eq, IsTrue, IsSome, None, Some, List, [], ◌∷◌, ◌++◌, length, take, map, refl, sym, ap, subst, vec_capacity, length-append, arith}
use Rattle.std.specs.List.{AllByRecursion, AllZip, flat_map}
use Rattle.std.proofs.lemmas.List.{map-append}
use Rattle.std.proofs.lemmas.Grind.{flat_map-append}
use Rattle.cq_value.proofs.Lists.{all_left, all_right}
use Rattle.cq_value.specs.declared.schema.Shape.{Shape}
use Rattle.cq_tree.specs.declared.journal.Entry.{Entry}
use Rattle.cq_tree.specs.declared.journal.EntryKind.{EntryKind}
use Rattle.cq_tree.specs.declared.journal.EntryKind.TheVariants.{Read, Write, MoveStart, CatchUp, Cutover, MoveStop}
use Rattle.cq_meaning.specs.Effects.{table_of}
use Rattle.cq_journal.specs.Journals.{IsReplied, EachReplied}
use Rattle.cq_journal.specs.Laws.{IsNoWriteOf}
use Rattle.cq_journal.proofs.Replays.{told_apart}
use Rattle.cq_store.specs.Stores.{StoreState}
use Rattle.cq_group.specs.declared.group.GroupTable.{GroupTable}
use Rattle.cq_group.specs.declared.group.GroupState.{GroupState}
use Rattle.cq_group.specs.Groups.{entries_of, journal_of, shapes, stores_of, Outline, outline, outlines, shape_at, or_no_shape, copies_of, IsNamed, AreReplicasFrom, IsTableKept, IsKept, AreDistinct, IsSteady}
use Rattle.cq_group.specs.Calls.{Lifted, Releases}
use Rattle.cq_group.specs.Opening.{EndsUnwritten, AreSpareFrom}
use Rattle.cq_group.proofs.Zips.{all_along}
use Rattle.cq_group.proofs.AddLaws.{found_more, all_got, none_first, replay_beside}
use Rattle.cq_journal.specs.declared.journal.Journal.{Journal}
use Rattle.cq_group.specs.Moves.{IsMoveKept, IsSameMove, upto_move}
use Rattle.cq_group.proofs.MoveLaws.{all_upto, same_move, move_along, move_shapes}
use Rattle.cq_group.proofs.GroupLaws.{shapes_in, copies_same}

-- lists with the same last element
pub last_split : {X : Type 0} (xs ys : List X) (x y : X) → xs ++ x ∷ [] ≡ ys ++ y ∷ [] → (xs ≡ ys) × (x ≡ y)
last_split [] [] x y e = (refl, let same : x ≡ y = cc in same)
last_split [] (b ∷ []) x y e = absurd (cc e)
last_split [] (b ∷ (c ∷ ys)) x y e = absurd (cc e)
last_split (a ∷ []) [] x y e = absurd (cc e)
last_split (a ∷ (c ∷ xs)) [] x y e = absurd (cc e)
last_split (a ∷ xs) (b ∷ ys) x y e =
    let head : a ≡ b = cc in
    let tail : xs ++ x ∷ [] ≡ ys ++ y ∷ [] = cc in
    let rest = last_split xs ys x y tail in
    (λ i. head i ∷ rest.0 i, rest.1)

-- what is found, and isn't the last, is found before it
found_less : (os : List Outline) (o : Outline) (table : ℕ) → IsSome (shape_at (os ++ o ∷ []) table) → nat_eq o.0 table ≡ false → IsSome (shape_at os table)
found_less [] o table h other =
    let clash : IsSome {T = Shape} None = subst (λ (b : Bool). IsSome (if b then Some o.1 else None)) other h in
    absurd (cc clash)
found_less (p ∷ os) o table h other = by_cases (nat_eq p.0 table) h (λ k. found_less os o table k other)
  where
    by_cases : (b : Bool) → IsSome (if b then Some p.1 else shape_at (os ++ o ∷ []) table) → (IsSome (shape_at (os ++ o ∷ []) table) → IsSome (shape_at os table)) →
        IsSome (if b then Some p.1 else shape_at os table)
    by_cases true h f = refl
    by_cases false h f = f h

named_less : (os : List Outline) (o : Outline) (kind : EntryKind) → IsNamed (os ++ o ∷ []) kind → IsNoWriteOf o.0 kind → IsNamed os kind
named_less os o Read h n = tt
named_less os o (Write op reply) h n = found_less os o (table_of op) h (told_apart o.0 (table_of op) (λ e. n (sym e)))
named_less os o (MoveStart node) h n = tt
named_less os o CatchUp h n = tt
named_less os o Cutover h n = tt
named_less os o MoveStop h n = tt

all_named : (os : List Outline) (o : Outline) (es : List Entry) → AllByRecursion (λ (e : Entry). IsNamed (os ++ o ∷ []) e.kind) es → AllByRecursion (λ (e : Entry). IsNoWriteOf o.0 e.kind) es →
    AllByRecursion (λ (e : Entry). IsNamed os e.kind) es
all_named os o [] h n = tt
all_named os o (e ∷ es) h n = (named_less os o e.kind h.0 n.0, all_named os o es h.1 n.1)

replied_less : (os : List Outline) (o : Outline) (before : List Entry) (kind : EntryKind) → IsNamed os kind → IsReplied (λ table. or_no_shape (shape_at (os ++ o ∷ []) table)) before kind →
    IsReplied (λ table. or_no_shape (shape_at os table)) before kind
replied_less os o before Read h r = tt
replied_less os o before (Write op reply) h r = subst (λ s. IsReplied (λ table. or_no_shape s) before (Write op reply)) (found_more os o (table_of op) h) r
replied_less os o before (MoveStart node) h r = tt
replied_less os o before CatchUp h r = tt
replied_less os o before Cutover h r = tt
replied_less os o before MoveStop h r = tt

none_less : (rs : List Outline) (o : Outline) (table : ℕ) → shape_at (rs ++ o ∷ []) table ≡ None → shape_at rs table ≡ None
none_less [] o table e = refl
none_less (r ∷ rs) o table e =
    let first = none_first (nat_eq r.0 table) r.1 (shape_at (rs ++ o ∷ []) table) e in
    ap (λ b. if b then Some r.1 else shape_at rs table) first.0 ∙ none_less rs o table first.1

distinct_less : (os : List Outline) (o : Outline) → AreDistinct (os ++ o ∷ []) → AreDistinct os
distinct_less [] o h = tt
distinct_less (p ∷ os) o h = (none_less os o p.0 h.0, distinct_less os o h.1)

module _ {X : Type 0} (state : X → StoreState) where
  -- the released stores of a table are spare on their nodes
  spare_from : (place node : ℕ) (es : List Entry) (table : ℕ) (shape : Shape) (shard : ℕ) (xs ys : List X) → AreReplicasFrom place node es table shape shard (map state xs) →
      AllZip (Lifted state Releases) xs ys → AreSpareFrom place node (map state ys)
  spare_from place node es table shape shard [] [] h k = tt
  spare_from place node es table shape shard [] (y ∷ ys) h k = absurd k
  spare_from place node es table shape shard (x ∷ xs) [] h k = absurd k
  spare_from place node es table shape shard (x ∷ xs) (y ∷ ys) h k = (
    record {
      spare = ap (λ (s : StoreState). s.shard) k.0.state;
      empty = ap (λ (s : StoreState). s.rows) k.0.state;
      nothing = ap (λ (s : StoreState). s.staged) k.0.state;
    },
    ap (λ (s : StoreState). s.node) k.0.state ∙ h.0.of_node,
    spare_from (place + 1) node es table shape shard xs ys h.1 k.1,
  )

  -- the tables of g are these and one more
  module _ (g : GroupState X) (ts : List (GroupTable X)) (t : GroupTable X) (tables : g.tables.items ≡ ts ++ t ∷ []) where
    last_kept : IsKept state g → IsTableKept state g.node (copies_of g) (entries_of g) t
    last_kept k =
        (all_right (IsTableKept state g.node (copies_of g) (entries_of g)) ts (t ∷ [])
        (subst (λ us. AllByRecursion (IsTableKept state g.node (copies_of g) (entries_of g)) us) tables k.tables)).0

    pub spare_last : (ys : List X) → IsKept state g → AllZip (Lifted state Releases) t.stores.items ys → AreSpareFrom 0 g.node (map state ys)
    spare_last ys k r = spare_from 0 g.node (entries_of g) t.table t.shape t.shard t.stores.items ys (last_kept k).replicas r

    pub steady_last : (ys : List X) → AllZip (Lifted state Releases) t.stores.items ys → IsSteady state g → AllByRecursion (λ (x : X). IsTrue (state x).steady) ys
    steady_last ys k s =
        let P : GroupTable X → Type 0 = λ u. AllByRecursion (λ (x : X). IsTrue (state x).steady) u.stores.items in
        all_along (λ (x : X). IsTrue (state x).steady) (Lifted state Releases) (λ (x : X). IsTrue (state x).steady) (λ x y a r. subst IsTrue (sym (ap (λ (z : StoreState). z.steady) r.state)) a) t.stores.items ys
        (all_right P ts (t ∷ []) (subst (λ us. AllByRecursion P us) tables s)).0 k

  -- a group without its last table keeps what it did
  pub dropped_kept : (g h : GroupState X) (t : GroupTable X) → g.tables.items ≡ h.tables.items ++ t ∷ [] → IsKept state g → EndsUnwritten g → h.node ≡ g.node → h.nodes ≡ g.nodes → h.room ≡ g.room →
      h.journal ≡ g.journal → h.moving ≡ g.moving → IsKept state h
  dropped_kept g h t tables k u node nodes room journal moving =
      let entries : entries_of h ≡ entries_of g = ap (λ x. x.entries.list) journal in
      let os = outlines h in
      let o = outline t in
      let split : outlines g ≡ os ++ o ∷ [] = ap (λ ts. map outline ts) tables ∙ map-append outline h.tables.items (t ∷ []) in
      let last : u.last ≡ o = (last_split u.others os u.last o (sym u.tables ∙ split)).1 in
      let unwritten : AllByRecursion (λ (e : Entry). IsNoWriteOf o.0 e.kind) (entries_of g) =
      subst (λ (p : Outline). AllByRecursion (λ (e : Entry). IsNoWriteOf p.0 e.kind) (entries_of g)) last u.unwritten in
      let named : AllByRecursion (λ (e : Entry). IsNamed os e.kind) (entries_of g) =
      all_named os o (entries_of g) (subst (λ ps. AllByRecursion (λ (e : Entry). IsNamed ps e.kind) (entries_of g)) split k.named) unwritten in
      let replied : EachReplied (λ table. or_no_shape (shape_at (os ++ o ∷ []) table)) (entries_of g) =
      subst (λ ps. EachReplied (λ table. or_no_shape (shape_at ps table)) (entries_of g)) split k.replied in
      let items : GroupTable X → List X = λ v. v.stores.items in
      let long : length (stores_of g) ≡ length (stores_of h) + length (t.stores.items ++ []) =
      ap (λ ts. length (flat_map items ts)) tables ∙ ap length (flat_map-append items h.tables.items (t ∷ [])) ∙ length-append (stores_of h) (t.stores.items ++ []) in
      let fits : length (stores_of g) ≤ vec_capacity h.room = subst (λ v. length (stores_of g) ≤ vec_capacity v) (sym room) k.room in
      record {
        replied = subst (λ es. EachReplied (λ table. or_no_shape (shape_at os table)) es) (sym entries)
            (λ place e is. replied_less os o (take place (entries_of g)) e.kind (all_got (λ (x : Entry). IsNamed os x.kind) (entries_of g) place e named is) (replied place e is));
        named = subst (λ es. AllByRecursion (λ (e : Entry). IsNamed os e.kind) es) (sym entries) named;
        tables =
            subst (λ n. AllByRecursion (IsTableKept state n (copies_of h) (entries_of h)) h.tables.items) (sym node)
            (subst (λ c. AllByRecursion (IsTableKept state g.node c (entries_of h)) h.tables.items) (sym (copies_same state g h node nodes))
            (subst (λ es. AllByRecursion (IsTableKept state g.node (copies_of g) es) h.tables.items) (sym entries)
            (all_left (IsTableKept state g.node (copies_of g) (entries_of g)) h.tables.items (t ∷ [])
            (subst (λ ts. AllByRecursion (IsTableKept state g.node (copies_of g) (entries_of g)) ts) tables k.tables))));
        distinct = distinct_less os o (subst AreDistinct split k.distinct);
        room = omega (arith, fits, long);
        unused = ap (λ v. v.items) room ∙ k.unused;
        move =
            move_along (λ table. or_no_shape (shape_at os table)) (shapes h) (journal_of g) (journal_of h) g.node h.node g.journal.entries.room h.journal.entries.room g.moving h.moving
            refl (ap (λ x. x.opening) journal) entries node (subst (λ (x : Journal). g.journal.entries.room ≤ x.entries.room) (sym journal) (omega arith))
            (subst (λ m. IsSameMove g.moving m) (sym moving) (same_move g.moving))
            (move_shapes (λ table. or_no_shape (shape_at (os ++ o ∷ []) table)) (λ table. or_no_shape (shape_at os table)) (journal_of g) g.node g.journal.entries.room g.moving
            (λ table. sym (replay_beside os o table (entries_of g) named))
            (λ table. sym (replay_beside os o table (upto_move (entries_of g)) (all_upto (λ (x : Entry). IsNamed os x.kind) (entries_of g) named)))
            (subst (λ f. IsMoveKept f (journal_of g) g.node g.journal.entries.room g.moving) (ap shapes_in split) k.move));
      }
