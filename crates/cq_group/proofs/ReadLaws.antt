-- Reads of a group's tables, one after another.
use Rattle.std.proofs.Common.{◌≡◌, ◌∙◌, ℕ, ◌+◌, ◌<◌, IsSome, List, [], ◌∷◌, ◌++◌, map, take, get_or, length, ap, subst, sym, refl, zero-add, ◌≤◌, arith}
use Rattle.std.proofs.lemmas.List.{map_more}
use Rattle.std.specs.List.{HoldsAt}
use Rattle.cq_value.specs.declared.value.Value.{Value}
use Rattle.cq_value.specs.Tables.{Table}
use Rattle.cq_meaning.specs.Values.{Row, Tables}
use Rattle.cq_demands.specs.Demands.{rows_with}
use Rattle.cq_demands.specs.JoinDemands.{Wants, wants_at, narrow}
use Rattle.cq_demands.proofs.Narrowed.{narrow_append}
use Rattle.cq_journal.specs.Journals.{replay}
use Rattle.cq_journal.specs.declared.journal.Journal.{Journal}
use Rattle.cq_store.specs.Stores.{StoreState}
use Rattle.cq_group.specs.declared.group.GroupError.{GroupError}
use Rattle.cq_group.specs.declared.group.GroupState.{GroupState}
use Rattle.cq_group.specs.declared.group.GroupTable.{GroupTable}
use Rattle.cq_group.specs.Groups.{stores_of, entries_of, copies_of, shapes, shape_at, or_no_shape, node_at, HasTable, IsKept, IsTableKept, IsQuiet}
use Rattle.cq_group.specs.Calls.{Rests, KeepsRows, Lifted, Blames, IsOn, IsSameBut, IsRestingTable, GroupGoesOn, captured}
use Rattle.cq_group.proofs.MoveLaws.{same_move}
use Rattle.cq_group.proofs.Zips.{zip_refl}
use Rattle.cq_group.proofs.Turns.{rests, rests_keep, rests_more, rests_go_on}
use Rattle.cq_group.proofs.TableLaws.{blames_later, rested_go_on}
use Rattle.cq_group.proofs.PlaceLaws.{table_refl, all_at, found_shape, replica_rows, replica_node}
use Rattle.cq_group.proofs.GroupLaws.{group_trans, group_weaker, kept_along, outlines_along, captured_along, stores_zip, resting_same, goes_on_but, same_with, quiet_along}

-- one more table was read
pub wanted_more : (wants : Wants) (f : ℕ → ℕ × List Row) (tables : List ℕ) (n : ℕ) (seen : Tables) (y : ℕ × List Row) → n < length tables → seen ≡ narrow wants (map f (take n tables)) →
    y ≡ ((f (get_or tables n 0)).0, rows_with (wants_at wants (f (get_or tables n 0)).0) (f (get_or tables n 0)).1) → seen ++ y ∷ [] ≡ narrow wants (map f (take (n + 1) tables))
wanted_more wants f tables n seen y low s is =
    (λ i. s i ++ is i ∷ []) ∙ sym (narrow_append wants (map f (take n tables)) (f (get_or tables n 0) ∷ [])) ∙ sym (ap (narrow wants) (map_more f tables n 0 low))

module _ {X : Type 0} (state : X → StoreState) where
  -- what f gives of the rows of a table's store, it gives of those that the entries leave of the table
  pub rows_found : (f : Table → List (List Value)) (g : GroupState X) (place table copy : ℕ) (t : GroupTable X) (rows : List (List Value)) → IsKept state g →
      place < length g.tables.items → t ≡ get_or g.tables.items place t → t.table ≡ table → copy < copies_of g →
      HoldsAt (λ x. rows ≡ f (state x).rows) t.stores.items copy → rows ≡ f (replay table (shapes g table) (entries_of g))
  rows_found f g place table copy t rows k low is number near h =
      let found = found_shape g.tables.items place table t k.distinct low is number in
      let kept = all_at (IsTableKept state g.node (copies_of g) (entries_of g)) g.tables.items place t k.tables low is in
      let here = replica_rows state f 0 g.node (entries_of g) t.table t.shape t.shard t.stores.items copy rows kept.replicas (subst (λ n. copy < n) (sym kept.complete) near) h in
      subst (λ shape. rows ≡ f (replay table shape (entries_of g))) (ap or_no_shape (sym found))
      (subst (λ n. rows ≡ f (replay n t.shape (entries_of g))) number here)

  -- an error of a table's store is on the node of the store's place
  pub node_found : (g : GroupState X) (place copy : ℕ) (t : GroupTable X) (e : GroupError) → IsKept state g → place < length g.tables.items → t ≡ get_or g.tables.items place t → copy < copies_of g →
      HoldsAt (λ x. IsOn (state x).node e) t.stores.items copy → IsOn (node_at g.node copy) e
  node_found g place copy t e k low is near h =
      let kept = all_at (IsTableKept state g.node (copies_of g) (entries_of g)) g.tables.items place t k.tables low is in
      subst (λ n. IsOn (node_at g.node n) e) (zero-add copy)
      (replica_node state 0 g.node (entries_of g) t.table t.shape t.shard t.stores.items copy e kept.replicas (subst (λ n. copy < n) (sym kept.complete) near) h)

  pub rested_none : (g : GroupState X) → IsSameBut (Lifted state Rests) g g
  rested_none g = record {
    node = refl;
    nodes = refl;
    room = refl;
    moving = same_move g.moving;
    tables = zip_refl (IsRestingTable (Lifted state Rests)) (λ t. table_refl (Lifted state Rests) (λ x. rests (state x)) t) g.tables.items;
  }

  pub rested_more : (f g h : GroupState X) → IsSameBut (Lifted state Rests) f g → IsSameBut (Lifted state Rests) g h → IsSameBut (Lifted state Rests) f h
  rested_more f g h a b = group_trans (Lifted state Rests) (Lifted state Rests) (Lifted state Rests) (λ x y z. rests_more (state x) (state y) (state z)) f g h a b

  pub rested_kept : (g h : GroupState X) → IsKept state g → h.journal ≡ g.journal → IsSameBut (Lifted state Rests) g h → IsKept state h
  rested_kept g h k j s = kept_along state g h k (group_weaker (Lifted state Rests) (Lifted state KeepsRows) (λ x y. rests_keep (state x) (state y)) g h s) (ap (λ x. x.entries.list) j) (ap (λ x. x.opening) j)
      (subst (λ (x : Journal). g.journal.entries.room ≤ x.entries.room) (sym j) (omega arith))

  pub rested_has : (g h : GroupState X) (table : ℕ) → IsSameBut (Lifted state Rests) g h → HasTable g table → HasTable h table
  rested_has g h table s k = subst (λ os. IsSome (shape_at os table)) (sym (outlines_along state (Lifted state Rests) g h s)) k

  pub rested_captured : (g h : GroupState X) (table : ℕ) → h.journal ≡ g.journal → IsSameBut (Lifted state Rests) g h → captured h table ≡ captured g table
  rested_captured g h table j s = captured_along state g h table (outlines_along state (Lifted state Rests) g h s) (ap (λ x. x.entries.list) j)

  pub rested_blames : (e : GroupError) (g h : GroupState X) (zs : List X) → IsSameBut (Lifted state Rests) g h → Blames state e (stores_of h) zs → Blames state e (stores_of g) zs
  rested_blames e g h zs s b = blames_later state e (stores_of g) (stores_of h) zs
      (rested_go_on state (stores_of g) (stores_of h) (stores_zip (Lifted state Rests) g.tables.items h.tables.items (resting_same (Lifted state Rests) g.tables.items h.tables.items s.tables))) b

  -- a group whose tables were read, and then perhaps its journal written, goes on and is as quiet as before
  pub rested_goes_on : (f g h : GroupState X) → IsSameBut (Lifted state Rests) f g → g.journal ≡ f.journal → h ≡ record g { journal = h.journal } →
      h.journal.group ≡ g.journal.group → h.journal.opening ≡ g.journal.opening → GroupGoesOn state f h
  rested_goes_on f g h s j e number opening =
      goes_on_but state Rests (λ a b. rests_go_on a b) f h (same_with state (Lifted state Rests) f g h s e) (number ∙ ap (λ x. x.group) j) (opening ∙ ap (λ x. x.opening) j)

  pub rested_quiet : (f g h : GroupState X) → IsQuiet state f → IsSameBut (Lifted state Rests) f g → h ≡ record g { journal = h.journal } → IsQuiet state h
  rested_quiet f g h q s e = quiet_along state f h q (same_with state (Lifted state Rests) f g h s e)
