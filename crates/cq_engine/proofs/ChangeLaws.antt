-- The row changes of a write fit the table, and applied to it give the write's effect.
use Rattle.std.proofs.Common.{◌≡◌, ℕ, suc, ◌+◌, ◌^◌, ◌<◌, ◌≤◌, Bool, true, false, cond, List, [], ◌∷◌, ◌++◌, map, length, refl, sym, ap, ◌∙◌, subst, arith, append_assoc, append-nil, add-zero}
use Rattle.std.specs.Prelude.{filter, not, nat_eq, ⊤, ◌||◌}
use Rattle.std.specs.List.{AllByRecursion}
use Rattle.std.proofs.lemmas.List.Elements.{filter-append}
use Rattle.cq_value.proofs.Truths.{nat_eq_itself}
use Rattle.cq_value.specs.declared.schema.Shape.{Shape}
use Rattle.cq_value.specs.declared.change.Change.TheVariants.{Put, Drop}
use Rattle.cq_value.specs.Tables.{Table, Pair, IsAscending, rows_of, with_row}
use Rattle.cq_value.specs.Changes.{applied, Fit, has_id}
use Rattle.cq_tree.specs.declared.expression.Cond.{Cond}
use Rattle.cq_tree.specs.declared.write.Set.{Set}
use Rattle.cq_tree.specs.declared.write.ShardOp.{ShardOp}
use Rattle.cq_tree.specs.declared.write.ShardOp.TheVariants.{Insert, Update, Remove}
use Rattle.cq_tree.specs.declared.write.Reply.TheVariants.{Count, Duplicate, OutOfRange}
use Rattle.cq_meaning.specs.Values.{Row}
use Rattle.cq_meaning.specs.Effects.{numbered, with_rows, renewed, is_kept, updated, updates, fit_kinds, effect, adds, puts, drops, row_changes, repeats}
use Rattle.cq_meaning.proofs.MapLaws.{map_append}
use Rattle.cq_demands.specs.Demands.{demands, pairs_with}
use Rattle.cq_demands.proofs.Kept.{kept_of_pairs}
use Rattle.cq_engine.specs.declared.write.Effect.{Effect}
use Rattle.cq_engine.specs.WriteEffects.{inserted_by, made_by, IsEffect}

abbrev table : ℕ → List Pair → Table
table n pairs = record { next = n; pairs = pairs }

-- INSERT

adds_fit : (t : Table) (rows : List Row) → t.next + length rows ≤ 2 ^ 32 → Fit t (adds t.next rows)
adds_fit t [] h = tt
adds_fit t (row ∷ rows) h = ((omega arith, omega arith), adds_fit (with_row t t.next row) rows (omega arith))

adds_give : (t : Table) (rows : List Row) → applied t (adds t.next rows) ≡ with_rows t rows
adds_give t [] = rw (add-zero, append-nil)
adds_give t (row ∷ rows) =
    let e : (t.next + 1) + length rows ≡ t.next + suc (length rows) = omega arith in
    adds_give (with_row t t.next row) rows ∙ rw (e, append_assoc t.pairs ((t.next, row) ∷ []) (numbered (t.next + 1) rows))

-- no row of the list has the id
abbrev Lacks : List Pair → ℕ → Type 0
Lacks ps id = AllByRecursion (λ q. nat_eq q.0 id ≡ false) ps

-- no two rows have one id
abbrev IsApart : List Pair → Type 0
IsApart [] = ⊤
IsApart (p ∷ ps) = AllByRecursion (λ q. nat_eq q.0 p.0 ≡ false) ps × AllByRecursion (λ q. nat_eq p.0 q.0 ≡ false) ps × IsApart ps

above : (n : ℕ) (ps : List Pair) → AllByRecursion (λ q. n < q.0) ps → AllByRecursion (λ q. nat_eq q.0 n ≡ false) ps × AllByRecursion (λ q. nat_eq n q.0 ≡ false) ps
above n [] h = (tt, tt)
above n (p ∷ ps) h = let r = above n ps h.1 in ((grind (arith, h.0), r.0), (grind (arith, h.0), r.1))

-- where ids ascend, no two rows have one id
apart : (ps : List Pair) (next : ℕ) → IsAscending ps next → IsApart ps
apart [] next h = tt
apart (p ∷ ps) next h = let r = above p.0 ps h.1 in (r.0, r.1, apart ps next h.2)

put_lacks : (ps : List Pair) (id : ℕ) (row : Row) → Lacks ps id → map (λ q. cond (nat_eq q.0 id) (id, row) q) ps ≡ ps
put_lacks [] id row h = refl
put_lacks (p ∷ ps) id row h = rw h.0 (ap (λ qs. p ∷ qs) (put_lacks ps id row h.1))

drop_lacks : (ps : List Pair) (id : ℕ) → Lacks ps id → filter (λ q. not (nat_eq q.0 id)) ps ≡ ps
drop_lacks [] id h = refl
drop_lacks (p ∷ ps) id h = rw h.0 (ap (λ qs. p ∷ qs) (drop_lacks ps id h.1))

put_here : (done todo : List Pair) (p : Pair) (row : Row) → Lacks done p.0 → Lacks todo p.0 →
    map (λ q. cond (nat_eq q.0 p.0) (p.0, row) q) (done ++ p ∷ todo) ≡ done ++ (p.0, row) ∷ todo
put_here done todo p row a b =
    map_append (λ q. cond (nat_eq q.0 p.0) (p.0, row) q) done (p ∷ todo)
    ∙ (rw (put_lacks done p.0 row a, put_lacks todo p.0 row b, nat_eq_itself p.0))

drop_here : (done todo : List Pair) (p : Pair) → Lacks done p.0 → Lacks todo p.0 →
    filter (λ q. not (nat_eq q.0 p.0)) (done ++ p ∷ todo) ≡ done ++ todo
drop_here done todo p a b =
    filter-append (λ q. not (nat_eq q.0 p.0)) done (p ∷ todo)
    ∙ (rw (drop_lacks done p.0 a, drop_lacks todo p.0 b, nat_eq_itself p.0))

-- what is done lacks each id that is to come
abbrev Ready : List Pair → List Pair → Type 0
Ready done todo = AllByRecursion (λ p. Lacks done p.0) todo

lacks_more : (done : List Pair) (q : Pair) (id : ℕ) → Lacks done id → nat_eq q.0 id ≡ false → Lacks (done ++ q ∷ []) id
lacks_more [] q id a b = (b, tt)
lacks_more (p ∷ done) q id a b = (a.0, lacks_more done q id a.1 b)

ready_more : (done todo : List Pair) (q : Pair) → Ready done todo → AllByRecursion (λ r. nat_eq q.0 r.0 ≡ false) todo → Ready (done ++ q ∷ []) todo
ready_more done [] q a b = tt
ready_more done (p ∷ todo) q a b = (lacks_more done q p.0 a.0 b.0, ready_more done todo q a.1 b.1)

ready_none : (todo : List Pair) → Ready [] todo
ready_none [] = tt
ready_none (p ∷ todo) = (tt, ready_none todo)

-- the id of a row that is there
there : (n : ℕ) (done todo : List Pair) (p : Pair) → has_id (table n (done ++ p ∷ todo)) p.0 ≡ true
there n [] todo p = rw (nat_eq_itself p.0)
there n (q ∷ done) todo p = rw (there n done todo p) (elim (nat_eq q.0 p.0) as (λ b. (b || true) ≡ true) [ true ↦ refl | false ↦ refl ])

-- UPDATE and DELETE: the changes so far leave what is done before what is to come
module _ (n : ℕ) (c : Cond) (sets : List Set) where
  abbrev PutsWell : List Pair → List Pair → Type 0
  PutsWell done todo = Fit (table n (done ++ todo)) (puts c sets todo) × (applied (table n (done ++ todo)) (puts c sets todo) ≡ table n (done ++ map (renewed c sets) todo))

  puts_done : (done todo : List Pair) → Ready done todo → IsApart todo → PutsWell done todo
  puts_done done [] a b = (tt, refl)
  puts_done done (p ∷ todo) a b =
      let next : (q : Pair) → q.0 ≡ p.0 → PutsWell (done ++ q ∷ []) todo =
      λ q same. puts_done (done ++ q ∷ []) todo (ready_more done todo q a.1 (subst (λ i. AllByRecursion (λ r. nat_eq i r.0 ≡ false) todo) (sym same) b.1)) b.2 in
      let at : (q : Pair) → q.0 ≡ p.0 → Fit (table n (done ++ q ∷ todo)) (puts c sets todo) × (applied (table n (done ++ q ∷ todo)) (puts c sets todo) ≡ table n (done ++ q ∷ map (renewed c sets) todo)) =
      λ q same. (
        subst (λ xs. Fit (table n xs) (puts c sets todo)) (append_assoc done (q ∷ []) todo) (next q same).0,
        subst (λ xs. applied (table n xs) (puts c sets todo) ≡ table n (done ++ q ∷ map (renewed c sets) todo)) (append_assoc done (q ∷ []) todo)
            ((next q same).1 ∙ ap (λ xs. table n xs) (append_assoc done (q ∷ []) (map (renewed c sets) todo))),
      ) in
      elim (is_kept c p) as (λ k. Fit (table n (done ++ p ∷ todo)) (map (λ q. Put q.0 (updated sets q.1)) (cond k (p ∷ filter (is_kept c) todo) (filter (is_kept c) todo)))
      × (applied (table n (done ++ p ∷ todo)) (map (λ q. Put q.0 (updated sets q.1)) (cond k (p ∷ filter (is_kept c) todo) (filter (is_kept c) todo)))
      ≡ table n (done ++ cond k (p.0, updated sets p.1) p ∷ map (renewed c sets) todo))) [
        | true ↦ let new : Pair = (p.0, updated sets p.1) in (
          (there n done todo p, subst (λ xs. Fit (table n xs) (puts c sets todo)) (sym (put_here done todo p (updated sets p.1) a.0 b.0)) (at new refl).0),
          subst (λ xs. applied (table n xs) (puts c sets todo) ≡ table n (done ++ new ∷ map (renewed c sets) todo)) (sym (put_here done todo p (updated sets p.1) a.0 b.0)) (at new refl).1,
        )
        | false ↦ at p refl
      ]

  abbrev DropsWell : List Pair → List Pair → Type 0
  DropsWell done todo = Fit (table n (done ++ todo)) (drops c todo) × (applied (table n (done ++ todo)) (drops c todo) ≡ table n (done ++ filter (λ p. not (is_kept c p)) todo))

  drops_done : (done todo : List Pair) → Ready done todo → IsApart todo → DropsWell done todo
  drops_done done [] a b = (tt, refl)
  drops_done done (p ∷ todo) a b =
      let next : DropsWell (done ++ p ∷ []) todo = drops_done (done ++ p ∷ []) todo (ready_more done todo p a.1 b.1) b.2 in
      let gone : DropsWell done todo = drops_done done todo a.1 b.2 in
      elim (is_kept c p) as (λ k. Fit (table n (done ++ p ∷ todo)) (map (λ q. Drop q.0) (cond k (p ∷ filter (is_kept c) todo) (filter (is_kept c) todo)))
      × (applied (table n (done ++ p ∷ todo)) (map (λ q. Drop q.0) (cond k (p ∷ filter (is_kept c) todo) (filter (is_kept c) todo)))
      ≡ table n (done ++ cond (not k) (p ∷ filter (λ q. not (is_kept c q)) todo) (filter (λ q. not (is_kept c q)) todo)))) [
        | true ↦ (
          (there n done todo p, subst (λ xs. Fit (table n xs) (drops c todo)) (sym (drop_here done todo p a.0 b.0)) gone.0),
          subst (λ xs. applied (table n xs) (drops c todo) ≡ table n (done ++ filter (λ q. not (is_kept c q)) todo)) (sym (drop_here done todo p a.0 b.0)) gone.1,
        )
        | false ↦ (
          subst (λ xs. Fit (table n xs) (drops c todo)) (append_assoc done (p ∷ []) todo) next.0,
          subst (λ xs. applied (table n xs) (drops c todo) ≡ table n (done ++ p ∷ filter (λ q. not (is_kept c q)) todo)) (append_assoc done (p ∷ []) todo)
              (next.1 ∙ ap (λ xs. table n xs) (append_assoc done (p ∷ []) (filter (λ q. not (is_kept c q)) todo))),
        )
      ]

-- a write's changes, and the table after them
abbrev DoesWell : ShardOp → Table → Shape → Type 0
DoesWell op t shape = Fit t (row_changes op t shape) × (applied t (row_changes op t shape) ≡ effect op t shape)

inserts_well : (number : ℕ) (rows : List Row) (t : Table) (shape : Shape) → t.next + length rows ≤ 2 ^ 32 → DoesWell (Insert number rows) t shape
inserts_well number rows t shape room =
    elim (repeats shape.key (rows_of t) rows) as (λ b. Fit t (cond b [] (adds t.next rows)) × (applied t (cond b [] (adds t.next rows)) ≡ cond b t (with_rows t rows))) [
      | true ↦ (tt, refl)
      | false ↦ (adds_fit t rows room, adds_give t rows)
    ]

updates_well : (number : ℕ) (c : Cond) (sets : List Set) (t : Table) (shape : Shape) → IsAscending t.pairs t.next → DoesWell (Update number c sets) t shape
updates_well number c sets t shape up =
    elim (fit_kinds shape.kinds (updates c sets t.pairs)) as (λ b. Fit t (cond b (puts c sets t.pairs) []) × (applied t (cond b (puts c sets t.pairs) []) ≡ cond b (table t.next (map (renewed c sets) t.pairs)) t)) [
      | true ↦ puts_done t.next c sets [] t.pairs (ready_none t.pairs) (apart t.pairs t.next up)
      | false ↦ (tt, refl)
    ]

made_well : (op : ShardOp) (t : Table) (shape : Shape) → DoesWell op t shape → IsEffect op t shape (made_by op t shape)
made_well op t shape well = record { replied = refl; listed = refl; fitting = well.0; changed = well.1; counted = refl }

-- an INSERT depends on its table by two things alone
pub inserted_is : (number : ℕ) (rows : List Row) (t : Table) (shape : Shape) → inserted_by rows (repeats shape.key (rows_of t) rows) t.next ≡ made_by (Insert number rows) t shape
inserted_is number rows t shape =
    elim (repeats shape.key (rows_of t) rows) as (λ b. inserted_by rows b t.next
    ≡ record { reply = cond b Duplicate (Count (length rows)); changes = cond b [] (adds t.next rows); next = (cond b t (with_rows t rows)).next }) [ true ↦ refl | false ↦ refl ]

pub insertion_is : (rows : List Row) (b : Bool) (next : ℕ) (made : Effect) → next + length rows ≤ 2 ^ 32 → made ≡ inserted_by rows b next →
    (number : ℕ) (t : Table) (shape : Shape) → t.next ≡ next → repeats shape.key (rows_of t) rows ≡ b → IsEffect (Insert number rows) t shape made
insertion_is rows b next made room is number t shape counted known =
    let same : made ≡ made_by (Insert number rows) t shape = is ∙ (λ i. inserted_by rows (sym known i) (sym counted i)) ∙ inserted_is number rows t shape in
    subst (IsEffect (Insert number rows) t shape) (sym same) (made_well (Insert number rows) t shape (inserts_well number rows t shape (subst (λ n. n + length rows ≤ 2 ^ 32) (sym counted) room)))

-- what an UPDATE comes to, by the rows that its filter keeps
abbrev renewals : List Set → ℕ → Shape → List Pair → Effect
renewals sets next shape kept = cond (fit_kinds shape.kinds (map (λ (p : Pair). updated sets p.1) kept))
    (record { reply = Count (length kept); changes = map (λ (p : Pair). Put p.0 (updated sets p.1)) kept; next = next })
    (record { reply = OutOfRange; changes = []; next = next })

renewals_are : (number : ℕ) (c : Cond) (sets : List Set) (t : Table) (shape : Shape) → made_by (Update number c sets) t shape ≡ renewals sets t.next shape (filter (is_kept c) t.pairs)
renewals_are number c sets t shape =
    let kept : List Pair = filter (is_kept c) t.pairs in
    let all : Effect = record { reply = Count (length kept); changes = puts c sets t.pairs; next = t.next } in
    let none : Effect = record { reply = OutOfRange; changes = []; next = t.next } in
    elim (fit_kinds shape.kinds (updates c sets t.pairs)) as (λ b. record { reply = cond b (Count (length kept)) OutOfRange; changes = cond b (puts c sets t.pairs) []; next = (cond b (table t.next (map (renewed c sets) t.pairs)) t).next }
    ≡ cond b all none) [ true ↦ refl | false ↦ refl ]

-- an UPDATE depends on the rows alone that have what its WHERE demands
pub update_is : (number : ℕ) (c : Cond) (sets : List Set) (some : List Pair) (next : ℕ) (shape : Shape) (made : Effect) → made ≡ made_by (Update number c sets) (table next some) shape →
    (t : Table) → t.next ≡ next → IsAscending t.pairs t.next → some ≡ pairs_with (demands c) t.pairs → IsEffect (Update number c sets) t shape made
update_is number c sets some next shape made is t counted up has =
    let kept : filter (is_kept c) some ≡ filter (is_kept c) t.pairs = ap (filter (is_kept c)) has ∙ kept_of_pairs c t.pairs in
    let same : made ≡ made_by (Update number c sets) t shape =
    is ∙ renewals_are number c sets (table next some) shape ∙ (λ i. renewals sets (sym counted i) shape (kept i)) ∙ sym (renewals_are number c sets t shape) in
    subst (IsEffect (Update number c sets) t shape) (sym same) (made_well (Update number c sets) t shape (updates_well number c sets t shape up))

-- and so does a DELETE
pub removal_is : (number : ℕ) (c : Cond) (some : List Pair) (next : ℕ) (shape : Shape) (made : Effect) → made ≡ made_by (Remove number c) (table next some) shape →
    (t : Table) → t.next ≡ next → IsAscending t.pairs t.next → some ≡ pairs_with (demands c) t.pairs → IsEffect (Remove number c) t shape made
removal_is number c some next shape made is t counted up has =
    let kept : filter (is_kept c) some ≡ filter (is_kept c) t.pairs = ap (filter (is_kept c)) has ∙ kept_of_pairs c t.pairs in
    let removals : ℕ → List Pair → Effect = λ n ps. record { reply = Count (length ps); changes = map (λ (p : Pair). Drop p.0) ps; next = n } in
    let same : made ≡ made_by (Remove number c) t shape = is ∙ (λ i. removals (sym counted i) (kept i)) in
    subst (IsEffect (Remove number c) t shape) (sym same)
    (made_well (Remove number c) t shape (drops_done t.next c [] [] t.pairs (ready_none t.pairs) (apart t.pairs t.next up)))
