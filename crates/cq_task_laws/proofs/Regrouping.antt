-- Partial groups, grouped again, give the rows of the groups of all rows.
use Rattle.std.proofs.Common.{◌≡◌, ℕ, suc, ◌+◌, Bool, true, List, [], ◌∷◌, ◌++◌, map, length, refl, sym, ap, subst, ◌∙◌, inl}
use Rattle.std.specs.Prelude.{filter}
use Rattle.std.specs.List.{flat_map}
use Rattle.cq_tree.specs.declared.expression.Expr.{Expr}
use Rattle.cq_tree.specs.declared.query.Agg.{Agg}
use Rattle.cq_meaning.specs.Values.{Row, column, same_row}
use Rattle.cq_meaning.specs.Expressions.{value_of, items_of}
use Rattle.cq_meaning.specs.Groups.{distinct, aggregate, group_row, groups_by, group_with}
use Rattle.std.proofs.lemmas.List.{get_or-append-add}
use Rattle.cq_value.proofs.Lists.{length_map, filter_map, map_map}
use Rattle.cq_meaning.specs.Lists.{Has}
use Rattle.cq_task_laws.specs.Partial.{columns_from}
use Rattle.cq_task_laws.specs.Merging.{joined, all_combining}
use Rattle.cq_task_laws.specs.Gathering.{IsNonEmpty}
use Rattle.cq_meaning.proofs.RowLaws.{distinct_differ, has_distinct, distinct_has, filter_none, filter_same, filtered_has, has_filtered, same_is, same_from, not_true}
use Rattle.cq_meaning.proofs.MapLaws.{map_same, has_mapped}
use Rattle.cq_task_laws.proofs.PartLaws.{group_rows_are, map_of_flat_map, flat_map_filter, flat_map_same, distinct_of_parts, mapped_has}
use Rattle.cq_task_laws.proofs.GatherRows.{columns_are}
use Rattle.cq_task_laws.proofs.Combining.{all_combined, one_left}

past : (k row : Row) (j : ℕ) → column (k ++ row) (length k + j) ≡ column row j
past k row j = get_or-append-add k row j _

-- one list, where it isn't empty
abbrev pub if_some : {X : Type 0} → List X → List (List X)
if_some [] = []
if_some (x ∷ xs) = (x ∷ xs) ∷ []

pub joined_some : (f : List Row → List Row) (ps : List (List Row)) → joined (flat_map (λ p. if_some (f p)) ps) ≡ flat_map f ps
joined_some f [] = refl
joined_some f (p ∷ ps) = go (f p) (joined_some f ps)
  where
    go : (us : List Row) → joined (flat_map (λ p. if_some (f p)) ps) ≡ flat_map f ps → joined (if_some us ++ flat_map (λ p. if_some (f p)) ps) ≡ us ++ flat_map f ps
    go [] h = h
    go (u ∷ us) h = ap (λ vs. (u ∷ us) ++ vs) h

some_joined : (ps : List (List Row)) (r : Row) → Has (joined ps) r → IsNonEmpty ps
some_joined [] r h = absurd h
some_joined (p ∷ ps) r h = tt

-- parts give the keys, these aggregates and some more
module _ (rs : List (List Row)) (keys : List Expr) (aggs rest : List Agg) where
  abbrev key : Row → Row
  key = items_of keys rs

  abbrev first_key : Row → Row
  first_key = items_of (columns_from 0 (length keys)) rs

  abbrev part_aggs : List Agg
  part_aggs = aggs ++ rest

  abbrev sums : List Agg
  sums = all_combining (length keys) aggs

  -- a group's row of a part
  abbrev part_row : Row → List Row → Row
  part_row k rows = group_row part_aggs rs (record { keys = k; rows = rows })

  with_key : Row → Row → Bool
  with_key k r = same_row k (key r)

  key_width : (r : Row) → length (key r) ≡ length keys
  key_width r = length_map (λ e. value_of e r rs) keys

  key_of_part : (k : Row) (rows : List Row) → length k ≡ length keys → first_key (part_row k rows) ≡ k
  key_of_part k rows e = subst (λ n. items_of (columns_from 0 n) rs (part_row k rows) ≡ k) e (columns_are rs k (map (aggregate rs rows) part_aggs))

  -- the partial rows of a part's groups
  abbrev part_rows : List Row → List Row
  part_rows p = map (group_row part_aggs rs) (groups_by key p)

  pub width_in : (p : List Row) (k : Row) → Has (distinct (map key p)) k → length k ≡ length keys
  width_in p k h = let u : (r : Row) × Has p r × (key r ≡ k) = mapped_has key p k (distinct_has (map key p) k h) in subst (λ z. length z ≡ length keys) u.2 (key_width u.0)

  keys_of_part : (p : List Row) → map first_key (part_rows p) ≡ distinct (map key p)
  keys_of_part p =
      ap (λ us. map first_key us) (group_rows_are rs part_aggs key p)
      ∙ (map_map first_key (λ k. group_row part_aggs rs (group_with key p k)) (distinct (map key p))
      ∙ (map_same (λ k. first_key (group_row part_aggs rs (group_with key p k))) (λ k. k) (distinct (map key p)) (λ k h. key_of_part k (filter (λ r. same_row k (key r)) p) (width_in p k h))
      ∙ itself (distinct (map key p))))
    where
      itself : (xs : List Row) → map (λ r. r) xs ≡ xs
      itself [] = refl
      itself (x ∷ xs) = ap (λ us. x ∷ us) (itself xs)

  -- a key's partial rows in a part: one, where it has rows there
  pub one_part : (k : Row) (p : List Row) → filter (λ r. same_row k (first_key r)) (part_rows p) ≡ map (part_row k) (if_some (filter (λ r. same_row k (key r)) p))
  one_part k p =
      let make : Row → Row = λ j. group_row part_aggs rs (group_with key p j) in
      let ks : List Row = distinct (map key p) in
      let e : filter (λ r. same_row k (first_key r)) (part_rows p) ≡ map make (filter (same_row k) ks) =
      ap (λ us. filter (λ r. same_row k (first_key r)) us) (group_rows_are rs part_aggs key p)
      ∙ (filter_map (λ r. same_row k (first_key r)) make ks
      ∙ ap (λ us. map make us) (filter_same (λ j. same_row k (first_key (make j))) (same_row k) ks (λ j h. ap (same_row k) (key_of_part j (filter (λ r. same_row j (key r)) p) (width_in p j h))))) in
      e ∙ go (filter (λ r. same_row k (key r)) p) refl
    where
      go : (us : List Row) → filter (λ r. same_row k (key r)) p ≡ us → map (λ j. group_row part_aggs rs (group_with key p j)) (filter (same_row k) (distinct (map key p))) ≡ map (part_row k) (if_some us)
      go [] f = ap (λ us. map (λ j. group_row part_aggs rs (group_with key p j)) us) (filter_none (same_row k) (distinct (map key p)) (λ j h. not_true (same_row k j) (λ t. absent j h t)))
        where
          absent : (j : Row) → Has (distinct (map key p)) j → same_row k j ≡ true → ⊥
          absent j h t =
              let u : (r : Row) × Has p r × (key r ≡ j) = mapped_has key p j (distinct_has (map key p) j h) in
              subst (λ us. Has us u.0) f (filtered_has (λ r. same_row k (key r)) p u.0 u.1 (same_from k (key u.0) (same_is k j t ∙ sym u.2)))
      go (v ∷ vs) f =
          let n : Has p v × (same_row k (key v) ≡ true) = has_filtered (λ r. same_row k (key r)) p v (subst (λ us. Has us v) (sym f) (inl refl)) in
          let m : Has (distinct (map key p)) k = has_distinct (map key p) k (subst (λ z. Has (map key p) z) (sym (same_is k (key v) n.1)) (has_mapped key p v n.0)) in
          ap (λ us. map (λ j. group_row part_aggs rs (group_with key p j)) us) (one_left k (distinct (map key p)) (distinct_differ (map key p)) m)
          ∙ ap (λ us. part_row k us ∷ []) f

  -- the rows of a key in each part that has some
  abbrev pub some_of : Row → List (List Row) → List (List Row)
  some_of k parts = flat_map (λ p. if_some (filter (λ r. same_row k (key r)) p)) parts

  -- are all rows of the key
  pub some_whole : (k : Row) (parts : List (List Row)) → joined (some_of k parts) ≡ filter (λ r. same_row k (key r)) (joined parts)
  some_whole k parts = joined_some (filter (λ r. same_row k (key r))) parts ∙ sym (flat_map_filter (λ r. same_row k (key r)) (λ p. p) parts)

  -- and give one partial row each
  pub some_rows : (k : Row) (parts : List (List Row)) → filter (λ r. same_row k (first_key r)) (flat_map part_rows parts) ≡ map (part_row k) (some_of k parts)
  some_rows k parts =
      flat_map_filter (λ r. same_row k (first_key r)) part_rows parts
      ∙ (flat_map_same (λ p. filter (λ r. same_row k (first_key r)) (part_rows p)) (λ p. map (part_row k) (if_some (filter (λ r. same_row k (key r)) p))) parts (λ p m. one_part k p)
      ∙ sym (map_of_flat_map (part_row k) (λ p. if_some (filter (λ r. same_row k (key r)) p)) parts))

  -- a partial row's columns
  pub part_columns : (k : Row) → length k ≡ length keys → (p : List Row) (j : ℕ) → column (part_row k p) (length keys + j) ≡ column (map (aggregate rs p) part_aggs) j
  part_columns k e p j = subst (λ n. column (part_row k p) (n + j) ≡ column (map (aggregate rs p) part_aggs) j) e (past k (map (aggregate rs p) part_aggs) j)

  -- the partial groups of a key together
  one_group : (k : Row) (parts : List (List Row)) → length k ≡ length keys → Has (distinct (map key (joined parts))) k →
      group_row sums rs (group_with first_key (flat_map part_rows parts) k) ≡ group_row aggs rs (group_with key (joined parts) k)
  one_group k parts e h =
      let u : (r : Row) × Has (joined parts) r × (key r ≡ k) = mapped_has key (joined parts) k (distinct_has (map key (joined parts)) k h) in
      let full : IsNonEmpty (some_of k parts) = some_joined (some_of k parts) u.0 (subst (λ us. Has us u.0) (sym (some_whole k parts)) (filtered_has (λ r. same_row k (key r)) (joined parts) u.0 u.1 (same_from k (key u.0) (sym u.2)))) in
      ap (λ us. k ++ us)
      (ap (λ us. map (aggregate rs us) sums) (some_rows k parts)
      ∙ (all_combined rs (part_row k) (some_of k parts) full aggs rest (length keys) (part_columns k e)
      ∙ ap (λ us. map (aggregate rs us) aggs) (some_whole k parts)))

  pub same_keys : (parts : List (List Row)) → distinct (map first_key (flat_map part_rows parts)) ≡ distinct (map key (joined parts))
  same_keys parts =
      ap distinct (map_of_flat_map first_key part_rows parts ∙ flat_map_same (λ p. map first_key (part_rows p)) (λ p. distinct (map key p)) parts (λ p h. keys_of_part p))
      ∙ (distinct_of_parts (map key) parts ∙ ap distinct (sym (map_of_flat_map key (λ p. p) parts)))

  pub regrouped : (parts : List (List Row)) → map (group_row sums rs) (groups_by first_key (flat_map part_rows parts)) ≡ map (group_row aggs rs) (groups_by key (joined parts))
  regrouped parts =
      group_rows_are rs sums first_key (flat_map part_rows parts)
      ∙ (ap (λ us. map (λ k. group_row sums rs (group_with first_key (flat_map part_rows parts) k)) us) (same_keys parts)
      ∙ (map_same (λ k. group_row sums rs (group_with first_key (flat_map part_rows parts) k)) (λ k. group_row aggs rs (group_with key (joined parts) k)) (distinct (map key (joined parts)))
      (λ k h. one_group k parts (width_in (joined parts) k h) h)
      ∙ sym (group_rows_are rs aggs key (joined parts))))
