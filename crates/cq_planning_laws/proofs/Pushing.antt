-- The rows of a pushable subquery whose distribution column has one of some values are those of its kept rows that have it.
use Rattle.std.proofs.Common.{suc, zero, ◌≡◌, ◌<◌, ℕ, Bool, true, false, ◌&&◌, if◌then◌else◌, List, [], ◌∷◌, length, map, filter, take, refl, sym, ◌∙◌, ap, subst, arith, Some, None, Option, position}
use Rattle.std.specs.Prelude.{slice_index_or, nat_lt, is_none}
use Rattle.std.specs.Ordering.{is_lt}
use Rattle.std.proofs.lemmas.List.{length-map}
use Rattle.std.proofs.lemmas.List.Quantifiers.{position-Some}
use Rattle.cq_value.proofs.Truths.{and_both, same_number}
use Rattle.cq_value.proofs.Lists.{none_is, filter_map, filter_turned}
use Rattle.cq_value.specs.declared.value.Value.{Value}
use Rattle.cq_tree.specs.declared.expression.Cond.{Cond}
use Rattle.cq_tree.specs.declared.expression.Expr.{Expr, Column}
use Rattle.cq_tree.specs.declared.query.Agg.{Agg}
use Rattle.cq_tree.specs.declared.query.Key.{Key}
use Rattle.cq_tree.specs.declared.query.Query.{Query, Query'}
use Rattle.cq_meaning.specs.declared.Group.{Group}
use Rattle.cq_meaning.specs.Values.{Row, Tables, Results, column, same_row}
use Rattle.cq_meaning.specs.Expressions.{value_of, keeps, items_of}
use Rattle.cq_meaning.specs.Groups.{groups_of, group_row, aggregate, distinct_if}
use Rattle.cq_meaning.specs.Sorting.{keys_cmp, sorted, cut}
use Rattle.cq_meaning.specs.Queries.{item_rows, outputs_of, from_rows, meaning}
use Rattle.cq_meaning.proofs.KeyLaws.{keys_weak}
use Rattle.cq_catalog.specs.Contents.{Contents}
use Rattle.cq_planning.specs.Classes.{first_of_class}
use Rattle.cq_planning.specs.Components.{is_of_class}
use Rattle.cq_planning.specs.Conjuncts.{conjuncts_of, equalities, column_of}
use Rattle.cq_planning.specs.Pushable.{Pushable, column_behind, number_or_0, pushable_by, pushable_over, pushable, relations}
use Rattle.cq_planning.specs.Relations.{Distribution, Relation, distributions, is_left_in_block, is_plain}
use Rattle.cq_planning.specs.ValueSets.{has_value}
use Rattle.cq_planning_laws.proofs.SameRows.{is_given, SameKept, PushesThrough}
use Rattle.cq_planning_laws.proofs.Columns.{column_left, filter_twice}
use Rattle.cq_planning_laws.proofs.Tests.{sifted_same, all_sure, sort_sifted, distinct_if_sifted, groups_sifted}

-- ---- what is pushable

of_if : {X : Type 0} (b : Bool) (o : Option X) (p : X) → (if b then o else None) ≡ Some p → (b ≡ true) × (o ≡ Some p)
of_if true o p e = (refl, e)
of_if false o p e = cc

class_some : (first : ℕ → ℕ) (at : ℕ) (o : Option ℕ) → is_of_class first at o ≡ true → o ≡ Some (number_or_0 o)
class_some first at None e = cc
class_some first at (Some x) e = refl

pub record Facts (grouped : Bool) (keys outputs : List Expr) (limit : Option ℕ) (offset : ℕ) (p : Pushable) : Type 0 where
  pub unlimited : limit ≡ None
  pub from_start : offset ≡ 0
  pub within : p.output < length outputs
  pub behind : column_behind grouped keys (column_of (slice_index_or outputs p.output (Column 0))) ≡ Some p.column

output_facts : (l : Distribution) (first : ℕ → ℕ) (grouped : Bool) (keys outputs : List Expr) (limit : Option ℕ) (offset : ℕ) (p : Pushable) (o : Option ℕ) →
    position (λ e. is_of_class first l.column (column_behind grouped keys (column_of e))) outputs ≡ o → limit ≡ None → offset ≡ 0 → pushable_by l grouped keys outputs o ≡ Some p → Facts grouped keys outputs limit offset p
output_facts l first grouped keys outputs limit offset p None e ln oz h = cc
output_facts l first grouped keys outputs limit offset p (Some n) e ln oz h =
    let found = position-Some (λ e. is_of_class first l.column (column_behind grouped keys (column_of e))) outputs n (Column 0) e in
    let is : record { output = n; column = number_or_0 (column_behind grouped keys (column_of (slice_index_or outputs n (Column 0)))); colocation = l.colocation } ≡ p = cc in
    subst (Facts grouped keys outputs limit offset) is (record {
      unlimited = ln;
      from_start = oz;
      within = found.0;
      behind = class_some first l.column (column_behind grouped keys (column_of (slice_index_or outputs n (Column 0)))) found.1;
    })

first_facts : (first : ℕ → ℕ) (rels : List Relation) (ls ps : List Distribution) (grouped : Bool) (keys outputs : List Expr) (limit : Option ℕ) (offset : ℕ) (p : Pushable) →
    pushable_over first rels ls ps grouped keys outputs limit offset ≡ Some p → Facts grouped keys outputs limit offset p
first_facts first rels [] ps grouped keys outputs limit offset p h = cc
first_facts first rels (r ∷ rs) [] grouped keys outputs limit offset p h = cc
first_facts first rels (r ∷ rs) (q ∷ ps) grouped keys outputs limit offset p h =
    let f = of_if _ _ p h in
    let a = and_both _ _ f.0 in
    let b = and_both _ _ a.1 in
    let d = and_both _ _ b.1 in
    let e = and_both _ _ d.1 in
    output_facts r first grouped keys outputs limit offset p (position (λ e. is_of_class first r.column (column_behind grouped keys (column_of e))) outputs) refl (none_is limit d.0) (same_number offset 0 e.0) f.1

bare_is : (e : Expr) (x : ℕ) → column_of e ≡ Some x → e ≡ Column x
bare_is (Column y) x h = let f : y ≡ x = cc in ap Column f
bare_is _ x h = cc

pub record Behind (keys : List Expr) (o : Option ℕ) (x : ℕ) : Type 0 where
  pub key : ℕ
  pub is : o ≡ Some key
  pub within : key < length keys
  pub named : slice_index_or keys key (Column 0) ≡ Column x

behind_key : (keys : List Expr) (o : Option ℕ) (x : ℕ) → column_behind true keys o ≡ Some x → Behind keys o x
behind_key keys None x h = cc
behind_key keys (Some k) x h =
    let f = of_if (nat_lt k (length keys)) (column_of (slice_index_or keys k (Column 0))) x h in
    record { key = k; is = refl; within = below k (length keys) f.0; named = bare_is (slice_index_or keys k (Column 0)) x f.1 }
  where
    below : (k n : ℕ) → nat_lt k n ≡ true → k < n
    below k n e = grind arith

-- ---- columns of outputs

column_items : (es : List Expr) (n : ℕ) (rs : Results) (row : Row) → n < length es → column (items_of es rs row) n ≡ value_of (slice_index_or es n (Column 0)) row rs
column_items [] n rs row h = absurd (omega (arith, h))
column_items (e ∷ es) zero rs row h = refl
column_items (e ∷ es) (suc n) rs row h = column_items es n rs row (omega (arith, h))

column_take : (shown : ℕ) (row : Row) (n : ℕ) → n < shown → column (take shown row) n ≡ column row n
column_take zero row n h = absurd (omega (arith, h))
column_take (suc shown) [] n h = refl
column_take (suc shown) (v ∷ row) zero h = refl
column_take (suc shown) (v ∷ row) (suc n) h = column_take shown row n (omega (arith, h))

taken_at : (shown : ℕ) (items : List Expr) (n : ℕ) → n < length (take shown items) → (slice_index_or (take shown items) n (Column 0) ≡ slice_index_or items n (Column 0)) × (n < shown) × (n < length items)
taken_at zero items n h = absurd (omega (arith, h))
taken_at (suc shown) [] n h = absurd (omega (arith, h))
taken_at (suc shown) (e ∷ items) zero h = (refl, omega arith, omega arith)
taken_at (suc shown) (e ∷ items) (suc n) h = let r = taken_at shown items n (omega (arith, h)) in let a = r.1 in let b = r.2 in (r.0, omega (arith, a), omega (arith, b))

-- ---- the law

module _ (rs : Results) (vs : List Value) where
  -- whether a column of a row has one of the values
  abbrev has_at : ℕ → Row → Bool
  has_at n row = has_value (Some vs) (column row n)

  given_is : (inner : ℕ) (row : Row) → is_given ((inner, vs) ∷ []) row ≡ has_at inner row
  given_is inner row = last (has_at inner row)
    where
      last : (b : Bool) → (b && true) ≡ b
      last true = refl
      last false = refl

  module _ (filter_ : Cond) (keys : List Expr) (aggs : List Agg) (having : Cond) (items : List Expr) (output inner : ℕ) (xs ys : List Row) (within : output < length items)
      (same : filter (has_at inner) (filter (keeps filter_ rs) xs) ≡ filter (has_at inner) (filter (keeps filter_ rs) ys)) where
    abbrev us : List Row
    us = filter (keeps filter_ rs) xs

    abbrev ws : List Row
    ws = filter (keeps filter_ rs) ys

    rows_sifted : slice_index_or items output (Column 0) ≡ Column inner → filter (has_at output) (map (items_of items rs) us) ≡ filter (has_at output) (map (items_of items rs) ws)
    rows_sifted e = sift us ∙ ap (map (items_of items rs)) same ∙ sym (sift ws)
      where
        item : (row : Row) → has_at output (items_of items rs row) ≡ has_at inner row
        item row = ap (has_value (Some vs)) (column_items items output rs row within ∙ ap (λ x. value_of x row rs) e)

        sift : (zs : List Row) → filter (has_at output) (map (items_of items rs) zs) ≡ map (items_of items rs) (filter (has_at inner) zs)
        sift zs = filter_map (has_at output) (items_of items rs) zs
            ∙ ap (map (items_of items rs)) (sifted_same (λ row. has_at output (items_of items rs row)) (has_at inner) zs (all_sure (λ row. has_at output (items_of items rs row) ≡ has_at inner row) item zs))

    groups_pass : (k : ℕ) → k < length keys → slice_index_or keys k (Column 0) ≡ Column inner → slice_index_or items output (Column 0) ≡ Column k →
        filter (λ (g : Group). has_at k (group_row aggs rs g)) (groups_of keys rs us) ≡ filter (λ (g : Group). has_at k (group_row aggs rs g)) (groups_of keys rs ws)
    groups_pass k h ek ei = of_keys keys h ek
      where
        of_keys : (es : List Expr) → k < length es → slice_index_or es k (Column 0) ≡ Column inner →
            filter (λ (g : Group). has_at k (group_row aggs rs g)) (groups_of es rs us) ≡ filter (λ (g : Group). has_at k (group_row aggs rs g)) (groups_of es rs ws)
        of_keys [] h e = absurd (omega (arith, h))
        of_keys (x ∷ es) h e =
            groups_sifted (items_of (x ∷ es) rs) (has_at k) (length (x ∷ es)) (λ row. length-map (x ∷ es) (λ e. value_of e row rs)) us ws
            (key_rows us ∙ same ∙ sym (key_rows ws))
            (λ (g : Group). has_at k (group_row aggs rs g))
            (λ zs kk long. ap (has_value (Some vs)) (column_left kk (map (aggregate rs (filter (λ row. same_row kk (items_of (x ∷ es) rs row)) zs)) aggs) k (omega (arith, h, long))))
          where
            key_rows : (zs : List Row) → filter (λ row. has_at k (items_of (x ∷ es) rs row)) zs ≡ filter (has_at inner) zs
            key_rows zs = sifted_same (λ row. has_at k (items_of (x ∷ es) rs row)) (has_at inner) zs
                (all_sure (λ row. has_at k (items_of (x ∷ es) rs row) ≡ has_at inner row) (λ row. ap (has_value (Some vs)) (column_items (x ∷ es) k rs row h ∙ ap (λ z. value_of z row rs) e)) zs)

    groups_item_sifted : (k : ℕ) → k < length keys → slice_index_or keys k (Column 0) ≡ Column inner → slice_index_or items output (Column 0) ≡ Column k →
        filter (has_at output) (map (items_of items rs) (filter (keeps having rs) (map (group_row aggs rs) (groups_of keys rs us))))
        ≡ filter (has_at output) (map (items_of items rs) (filter (keeps having rs) (map (group_row aggs rs) (groups_of keys rs ws))))
    groups_item_sifted k h ek ei =
        sift (groups_of keys rs us)
        ∙ ap (λ gs. map (items_of items rs) (filter (keeps having rs) (map (group_row aggs rs) gs))) (groups_pass k h ek ei)
        ∙ sym (sift (groups_of keys rs ws))
      where
        item : (row : Row) → has_at output (items_of items rs row) ≡ has_at k row
        item row = ap (has_value (Some vs)) (column_items items output rs row within ∙ ap (λ x. value_of x row rs) ei)

        sift : (gs : List Group) → filter (has_at output) (map (items_of items rs) (filter (keeps having rs) (map (group_row aggs rs) gs)))
            ≡ map (items_of items rs) (filter (keeps having rs) (map (group_row aggs rs) (filter (λ (g : Group). has_at k (group_row aggs rs g)) gs)))
        sift gs =
            let made : List Row = filter (keeps having rs) (map (group_row aggs rs) gs) in
            filter_map (has_at output) (items_of items rs) made
            ∙ ap (map (items_of items rs)) (sifted_same (λ row. has_at output (items_of items rs row)) (has_at k) made (all_sure (λ row. has_at output (items_of items rs row) ≡ has_at k row) item made)
            ∙ filter_turned (has_at k) (keeps having rs) (map (group_row aggs rs) gs)
            ∙ ap (filter (keeps having rs)) (filter_map (has_at k) (group_row aggs rs) gs))

  items_sifted : (filter_ : Cond) (grouped : Bool) (keys : List Expr) (aggs : List Agg) (having : Cond) (items : List Expr) (output inner : ℕ) (xs ys : List Row) → output < length items →
      column_behind grouped keys (column_of (slice_index_or items output (Column 0))) ≡ Some inner →
      filter (has_at inner) (filter (keeps filter_ rs) xs) ≡ filter (has_at inner) (filter (keeps filter_ rs) ys) →
      filter (has_at output) (item_rows filter_ grouped keys aggs having items rs xs) ≡ filter (has_at output) (item_rows filter_ grouped keys aggs having items rs ys)
  items_sifted filter_ false keys aggs having items output inner xs ys within behind same =
      rows_sifted filter_ keys aggs having items output inner xs ys within same (bare_is (slice_index_or items output (Column 0)) inner behind)
  items_sifted filter_ true keys aggs having items output inner xs ys within behind same =
      let b = behind_key keys (column_of (slice_index_or items output (Column 0))) inner behind in
      groups_item_sifted filter_ keys aggs having items output inner xs ys within same b.key b.within b.named (bare_is (slice_index_or items output (Column 0)) b.key b.is)

  -- ORDER BY, and no cut
  ordered_sifted : (order : List Key) (shown output : ℕ) (distinct : Bool) (limit : Option ℕ) (offset : ℕ) (rows : List Row) → output < shown → limit ≡ None → offset ≡ 0 →
      filter (has_at output) (cut shown limit offset (sorted (keys_cmp order) (distinct_if distinct rows))) ≡ map (λ row. take shown row) (sorted (keys_cmp order) (distinct_if distinct (filter (has_at output) rows)))
  ordered_sifted order shown output distinct limit offset rows within none zero' =
      ap (λ (l : Option ℕ). filter (has_at output) (cut shown l offset made)) none
      ∙ ap (λ (n : ℕ). filter (has_at output) (cut shown None n made)) zero'
      ∙ filter_map (has_at output) (λ row. take shown row) made
      ∙ ap (map (λ row. take shown row)) (
      sifted_same (λ row. has_at output (take shown row)) (has_at output) made (all_sure (λ row. has_at output (take shown row) ≡ has_at output row) (λ row. ap (has_value (Some vs)) (column_take shown row output within)) made)
      ∙ sort_sifted (λ x y. is_lt (keys_cmp order x y)) (keys_weak order) (has_at output) (distinct_if distinct rows)
      ∙ ap (sorted (keys_cmp order)) (distinct_if_sifted (has_at output) distinct rows)
      )
    where
      made : List Row
      made = sorted (keys_cmp order) (distinct_if distinct rows)

through : (c : Contents) (q : Query) (p : Pushable) → pushable c q ≡ Some p →
    (p.output < outputs_of q) × ((db dn : Tables) (rs : Results) (vs : List Value) → SameKept q ((p.column, vs) ∷ []) db dn rs →
    filter (λ row. has_value (Some vs) (column row p.output)) (meaning q db rs) ≡ filter (λ row. has_value (Some vs) (column row p.output)) (meaning q dn rs))
through c (Query' cs ctes ss subs from filter_ grouped keys aggs having items shown distinct order limit offset names) p e =
    let rels : List Relation = relations c from 0 None in
    let f : Facts grouped keys (take shown items) limit offset p = first_facts (first_of_class (equalities (conjuncts_of filter_ from))) rels (distributions (is_left_in_block rels) rels) (distributions is_plain rels) grouped keys (take shown items) limit offset p e in
    let t = taken_at shown items p.output f.within in (
      t.1,
      λ db dn rs vs kept.
          (let ok : Row → Bool = has_at rs vs p.column in
          let kept_rows : (xs : List Row) → filter ok (filter (keeps filter_ rs) xs) ≡ filter (λ row. keeps filter_ rs row && is_given ((p.column, vs) ∷ []) row) xs = λ xs.
          filter_twice ok (keeps filter_ rs) xs
          ∙ sifted_same (λ row. keeps filter_ rs row && ok row) (λ row. keeps filter_ rs row && is_given ((p.column, vs) ∷ []) row) xs
          (all_sure (λ row. (keeps filter_ rs row && ok row) ≡ (keeps filter_ rs row && is_given ((p.column, vs) ∷ []) row)) (λ row. ap (λ b. keeps filter_ rs row && b) (sym (given_is rs vs p.column row))) xs) in
          let same : filter ok (filter (keeps filter_ rs) (from_rows from 0 db rs)) ≡ filter ok (filter (keeps filter_ rs) (from_rows from 0 dn rs)) =
          kept_rows (from_rows from 0 db rs) ∙ kept ∙ sym (kept_rows (from_rows from 0 dn rs)) in
          let behind : column_behind grouped keys (column_of (slice_index_or items p.output (Column 0))) ≡ Some p.column = ap (λ x. column_behind grouped keys (column_of x)) (sym t.0) ∙ f.behind in
          let rows = items_sifted rs vs filter_ grouped keys aggs having items p.output p.column (from_rows from 0 db rs) (from_rows from 0 dn rs) t.2 behind same in
          ordered_sifted rs vs order shown p.output distinct limit offset (item_rows filter_ grouped keys aggs having items rs (from_rows from 0 db rs)) t.1 f.unlimited f.from_start
          ∙ ap (λ rows. map (λ row. take shown row) (sorted (keys_cmp order) (distinct_if distinct rows))) rows
          ∙ sym (ordered_sifted rs vs order shown p.output distinct limit offset (item_rows filter_ grouped keys aggs having items rs (from_rows from 0 dn rs)) t.1 f.unlimited f.from_start)),
    )

pub pushes_through : (c : Contents) → PushesThrough c
pushes_through c = through c
