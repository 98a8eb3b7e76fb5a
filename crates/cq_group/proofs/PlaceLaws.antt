-- One table of a group, by its place.
use Rattle.std.proofs.Common.{◌≡◌, ◌≢◌, ◌∙◌, ◌⊎◌, ◌+◌, ℕ, zero, suc, ◌<◌, true, false, nat_eq, List, [], ◌∷◌, length, get_or, map, Some, None, inl, inr, refl, sym, ap, subst, eq-eqb, add-zero, arith}
use Rattle.std.proofs.Math.ListN.{set}
use Rattle.std.specs.List.{AllZip, AllByRecursion, HoldsAt, flat_map}
use Rattle.std.proofs.lemmas.Bool.{false≢true}
use Rattle.std.proofs.lemmas.Bool.Decides.{eqb_tells}
use Rattle.cq_value.specs.declared.value.Value.{Value}
use Rattle.cq_value.specs.declared.schema.Shape.{Shape}
use Rattle.cq_value.specs.Tables.{Table}
use Rattle.cq_tree.specs.declared.journal.Entry.{Entry}
use Rattle.cq_journal.specs.Journals.{replay}
use Rattle.cq_store.specs.Stores.{StoreState}
use Rattle.cq_group.specs.declared.group.GroupError.{GroupError}
use Rattle.cq_group.specs.declared.group.GroupError.TheVariants.{Worker, Memory}
use Rattle.cq_group.specs.declared.group.GroupTable.{GroupTable}
use Rattle.cq_group.specs.Groups.{outline, shape_at, AreDistinct, AreReplicasFrom, node_at}
use Rattle.cq_group.specs.Calls.{GoesOn, Failed, Lifted, Blames, IsOn, SomeZip, IsRestingTable}
use Rattle.cq_group.proofs.Zips.{zip_refl, zip_set, some_set, some_flat}
use Rattle.cq_group.proofs.Turns.{keeps, keeps_go_on}

pub all_at : {X : Type 0} (P : X → Type 0) (xs : List X) (n : ℕ) (x : X) → AllByRecursion P xs → n < length xs → x ≡ get_or xs n x → P x
all_at P [] n x h low is = absurd (omega arith)
all_at P (y ∷ ys) zero x h low is = subst P (sym is) h.0
all_at P (y ∷ ys) (suc n) x h low is = all_at P ys n x h.1 (omega arith) is

pub all_get : {X : Type 0} (P : X → Type 0) (xs : List X) (n : ℕ) (d : X) → AllByRecursion P xs → n < length xs → P (get_or xs n d)
all_get P [] n d h low = absurd (omega arith)
all_get P (y ∷ ys) zero d h low = h.0
all_get P (y ∷ ys) (suc n) d h low = all_get P ys n d h.1 (omega arith)

pub not_same : (m n : ℕ) → nat_eq m n ≡ false → nat_eq n m ≡ false
not_same m n other = by_cases (eqb_tells n m)
  where
    by_cases : ((nat_eq n m ≡ true) × (n ≡ m)) ⊎ ((nat_eq n m ≡ false) × (n ≢ m)) → nat_eq n m ≡ false
    by_cases (inl same) = absurd (false≢true (sym other ∙ eq-eqb m n (sym same.1)))
    by_cases (inr apart) = apart.0

-- a table that isn't the one of this number
other_table : {X : Type 0} (u : GroupTable X) (us : List (GroupTable X)) (number : ℕ) (shape : Shape) → shape_at (map outline us) u.table ≡ None → shape_at (map outline us) number ≡ Some shape →
    nat_eq u.table number ≡ false
other_table u us number shape none some = by_cases (eqb_tells u.table number)
  where
    by_cases : ((nat_eq u.table number ≡ true) × (u.table ≡ number)) ⊎ ((nat_eq u.table number ≡ false) × (u.table ≢ number)) → nat_eq u.table number ≡ false
    by_cases (inl same) =
        let clash : None ≡ Some shape = sym none ∙ ap (λ n. shape_at (map outline us) n) same.1 ∙ some in
        absurd (cc clash)
    by_cases (inr other) = other.0

pub found_shape : {X : Type 0} (ts : List (GroupTable X)) (place number : ℕ) (t : GroupTable X) → AreDistinct (map outline ts) → place < length ts → t ≡ get_or ts place t → t.table ≡ number →
    shape_at (map outline ts) number ≡ Some t.shape
found_shape [] place number t d low is n = absurd (omega arith)
found_shape (u ∷ us) zero number t d low is n =
    let same : u.table ≡ number = sym (ap (λ x. x.table) is) ∙ n in
    rw (eq-eqb u.table number same) (ap (λ x. Some x.shape) (sym is))
found_shape (u ∷ us) (suc place) number t d low is n =
    let rest = found_shape us place number t d.1 (omega arith) is n in
    rw (other_table u us number t.shape d.0 rest) rest

-- no table has the number
none_here : {X : Type 0} (w : GroupTable X) (ws : List (GroupTable X)) (number : ℕ) → shape_at (map outline (w ∷ ws)) number ≡ None →
    (nat_eq w.table number ≡ false) × (shape_at (map outline ws) number ≡ None)
none_here w ws number none = by_cases (eqb_tells w.table number)
  where
    by_cases : ((nat_eq w.table number ≡ true) × (w.table ≡ number)) ⊎ ((nat_eq w.table number ≡ false) × (w.table ≢ number)) →
        (nat_eq w.table number ≡ false) × (shape_at (map outline ws) number ≡ None)
    by_cases (inl same) =
        let found : shape_at (map outline (w ∷ ws)) number ≡ Some w.shape = rw same.0 refl in
        let clash : None ≡ Some w.shape = sym none ∙ found in
        absurd (cc clash)
    by_cases (inr other) =
        let past : shape_at (map outline (w ∷ ws)) number ≡ shape_at (map outline ws) number = rw other.0 refl in
        (other.0, sym past ∙ none)

all_others : {X : Type 0} (P Q : GroupTable X → Type 0) (number : ℕ) → ((t : GroupTable X) → nat_eq t.table number ≡ false → P t → Q t) →
    (ts : List (GroupTable X)) → shape_at (map outline ts) number ≡ None → AllByRecursion P ts → AllByRecursion Q ts
all_others P Q number f [] none p = tt
all_others P Q number f (w ∷ ws) none p =
    let here = none_here w ws number none in
    (f w here.0 p.0, all_others P Q number f ws here.1 p.1)

-- the tables beside the one that is replaced have other numbers
pub set_where : {X : Type 0} (P Q : GroupTable X → Type 0) (number : ℕ) → ((t : GroupTable X) → nat_eq t.table number ≡ false → P t → Q t) →
    (ts : List (GroupTable X)) (place : ℕ) (t u : GroupTable X) → AreDistinct (map outline ts) → place < length ts → t ≡ get_or ts place t → t.table ≡ number →
    AllByRecursion P ts → Q u → AllByRecursion Q (set ts place u)
set_where P Q number f [] place t u d low is n p q = absurd (omega arith)
set_where P Q number f (v ∷ vs) zero t u d low is n p q =
    (q, all_others P Q number f vs (subst (λ m. shape_at (map outline vs) m ≡ None) (sym (ap (λ x. x.table) is) ∙ n) d.0) p.1)
set_where P Q number f (v ∷ vs) (suc place) t u d low is n p q =
    (f v (other_table v vs number t.shape d.0 (found_shape vs place number t d.1 (omega arith) is n)) p.0, set_where P Q number f vs place t u d.1 (omega arith) is n p.1 q)

pub table_refl : {X : Type 0} (R : X → X → Type 0) → ((x : X) → R x x) → (t : GroupTable X) → IsRestingTable R t t
table_refl R r t = record { same = record { table = refl; shape = refl; shard = refl; stores = zip_refl R r t.stores.items }; next = refl }

module _ {X : Type 0} (state : X → StoreState) where
  -- what f gives of the rows of a store of the table
  pub replica_rows : (f : Table → List (List Value)) (first node : ℕ) (es : List Entry) (table : ℕ) (shape : Shape) (shard : ℕ) (xs : List X) (place : ℕ) (rows : List (List Value)) →
      AreReplicasFrom first node es table shape shard (map state xs) → place < length xs → HoldsAt (λ x. rows ≡ f (state x).rows) xs place → rows ≡ f (replay table shape es)
  replica_rows f first node es table shape shard [] place rows h low k = absurd (omega arith)
  replica_rows f first node es table shape shard (x ∷ xs) zero rows h low k = k x ∙ ap f h.0.holds
  replica_rows f first node es table shape shard (x ∷ xs) (suc place) rows h low k = replica_rows f (first + 1) node es table shape shard xs place rows h.1 (omega arith) k

  go_on : (x : X) → Lifted state GoesOn x x
  go_on x = keeps_go_on (state x) (state x) (keeps (state x))

  -- an error of one store is on its node
  pub on_node : (e : GroupError) (x y : X) → Blames state e (x ∷ []) (y ∷ []) → IsOn (state x).node e
  on_node Memory x y h = tt
  on_node (Worker failure) x y (inl h) = sym h.of_node
  on_node (Worker failure) x y (inr h) = absurd h

  pub replica_node : (first node : ℕ) (es : List Entry) (table : ℕ) (shape : Shape) (shard : ℕ) (xs : List X) (place : ℕ) (e : GroupError) →
      AreReplicasFrom first node es table shape shard (map state xs) → place < length xs → HoldsAt (λ x. IsOn (state x).node e) xs place → IsOn (node_at node (first + place)) e
  replica_node first node es table shape shard [] place e h low k = absurd (omega arith)
  replica_node first node es table shape shard (x ∷ xs) zero e h low k = subst (λ n. IsOn n e) (h.0.of_node ∙ ap (λ p. node_at node p) (sym (add-zero first))) (k x)
  replica_node first node es table shape shard (x ∷ xs) (suc place) e h low k =
      let one : (first + 1) + place ≡ first + suc place = omega arith in
      subst (λ p. IsOn (node_at node p) e) one (replica_node (first + 1) node es table shape shard xs place e h.1 (omega arith) k)

  -- an error of a table's store is one of the group's
  pub blames_group : (e : GroupError) (ts : List (GroupTable X)) (place : ℕ) (t u : GroupTable X) → place < length ts → t ≡ get_or ts place t →
      AllZip (Lifted state GoesOn) t.stores.items u.stores.items → Blames state e t.stores.items u.stores.items →
      Blames state e (flat_map (λ (v : GroupTable X). v.stores.items) ts) (flat_map (λ (v : GroupTable X). v.stores.items) (set ts place u))
  blames_group Memory ts place t u low is h k = tt
  blames_group (Worker failure) ts place t u low is h k =
      let F : X → X → Type 0 = Lifted state (Failed failure) in
      let G : X → X → Type 0 = Lifted state GoesOn in
      let items : GroupTable X → List X = λ v. v.stores.items in
      some_flat G F items ts (set ts place u)
      (zip_set (λ a b. AllZip G (items a) (items b)) (λ a. zip_refl G go_on (items a)) ts place t u low is h)
      (some_set (λ a b. SomeZip F (items a) (items b)) ts place t u low is k)
