-- Partial aggregates, combined, are the aggregates of all rows.
use Rattle.std.proofs.Common.{◌≡◌, ℕ, pos, suc, ◌+◌, false, List, [], ◌∷◌, ◌++◌, map, length, refl, sym, ap, subst, ◌∙◌, length-append, inl, inr, arith, add-zero}
use Rattle.std.specs.Prelude.{filter, fold}
use Rattle.std.specs.List.{flat_map}
use Rattle.cq_value.proofs.Lists.{map_map}
use Rattle.cq_value.specs.declared.value.Value.{Value}
use Rattle.cq_value.specs.declared.value.Value.TheVariants.{Null, Int, Text}
use Rattle.cq_tree.specs.declared.expression.Expr.{Expr, Column}
use Rattle.cq_tree.specs.declared.query.Agg.{Agg}
use Rattle.cq_tree.specs.declared.query.Agg.TheVariants as agg
use Rattle.cq_meaning.specs.Values.{Row, column, same_row}
use Rattle.cq_meaning.specs.Expressions.{value_of}
use Rattle.cq_meaning.specs.Groups.{aggregate, known_values, is_known, added, sum_of, least, greatest, lesser_of, greater_of}
use Rattle.cq_meaning.specs.Lists.{Has}
use Rattle.cq_task_laws.specs.Merging.{joined, combining, all_combining}
use Rattle.cq_task_laws.specs.Gathering.{IsNonEmpty}
use Rattle.cq_meaning.proofs.RowLaws.{NoTwins, filter_none, same_from, differ_back}
use Rattle.cq_meaning.proofs.MapLaws.{map_same}
use Rattle.cq_meaning_laws.proofs.AggregateLaws.{added_joined, lesser_joined, greater_joined}
use Rattle.cq_task_laws.proofs.PartLaws.{fold_parts, map_of_flat_map, flat_map_filter}

fold_skip : (op : Value → Value → Value) → ((a : Value) → op a Null ≡ a) → (a : Value) (vs : List Value) → fold op a (filter is_known vs) ≡ fold op a vs
fold_skip op unit a [] = refl
fold_skip op unit a (Null ∷ vs) = fold_skip op unit a vs ∙ ap (λ b. fold op b vs) (sym (unit a))
fold_skip op unit a (Int x ∷ vs) = fold_skip op unit (op a (Int x)) vs
fold_skip op unit a (Text t ∷ vs) = fold_skip op unit (op a (Text t)) vs

greater_unit : (a : Value) → greater_of a Null ≡ a
greater_unit a = refl

lesser_unit : (a : Value) → lesser_of a Null ≡ a
lesser_unit a = refl

added_unit : (a : Value) → added a Null ≡ a
added_unit a = refl

counts_from : {X Y : Type 0} (g : X → List Y) (n : ℕ) (ps : List X) → fold added (Int (pos n)) (map (λ p. Int (pos (length (g p)))) ps) ≡ Int (pos (n + length (flat_map g ps)))
counts_from g n [] = ap (λ k. Int (pos k)) (sym (add-zero n))
counts_from g n (p ∷ ps) =
    counts_from g (n + length (g p)) ps ∙ ap (λ k. Int (pos k)) (total (length-append (g p) (flat_map g ps)))
  where
    total : length (g p ++ flat_map g ps) ≡ length (g p) + length (flat_map g ps) → (n + length (g p)) + length (flat_map g ps) ≡ n + length (g p ++ flat_map g ps)
    total e = omega arith

counts : {X Y : Type 0} (g : X → List Y) (ps : List X) → IsNonEmpty ps → fold added Null (map (λ p. Int (pos (length (g p)))) ps) ≡ Int (pos (length (flat_map g ps)))
counts g [] h = absurd h
counts g (p ∷ ps) h = counts_from g (length (g p)) ps ∙ ap (λ k. Int (pos k)) (sym (length-append (g p) (flat_map g ps)))

module _ (rs : List (List Row)) where
  values_parts : (e : Expr) (ps : List (List Row)) → flat_map (known_values e rs) ps ≡ known_values e rs (joined ps)
  values_parts e ps =
      sym (flat_map_filter is_known (λ p. map (λ r. value_of e r rs) p) ps)
      ∙ ap (λ us. filter is_known us) (sym (map_of_flat_map (λ r. value_of e r rs) (λ p. p) ps))

  module _ (make : List Row → Row) (ps : List (List Row)) (some : IsNonEmpty ps) where
    column_values : (at : ℕ) (a : Agg) → ((p : List Row) → column (make p) at ≡ aggregate rs p a) → known_values (Column at) rs (map make ps) ≡ filter is_known (map (λ p. aggregate rs p a) ps)
    column_values at a h = ap (λ us. filter is_known us) (map_map (λ r. value_of (Column at) r rs) make ps ∙ map_same (λ p. column (make p) at) (λ p. aggregate rs p a) ps (λ p k. h p))

    pub one : (at : ℕ) (a : Agg) → ((p : List Row) → column (make p) at ≡ aggregate rs p a) → aggregate rs (map make ps) (combining at a) ≡ aggregate rs (joined ps) a
    one at agg.CountAll h = ap sum_of (column_values at agg.CountAll h) ∙ (fold_skip added added_unit Null (map (λ p. aggregate rs p agg.CountAll) ps) ∙ counts (λ p. p) ps some)
    one at (agg.Count e) h = ap sum_of (column_values at (agg.Count e) h) ∙ (fold_skip added added_unit Null (map (λ p. aggregate rs p (agg.Count e)) ps)
        ∙ (counts (known_values e rs) ps some ∙ ap (λ us. Int (pos (length us))) (values_parts e ps)))
    one at (agg.Sum e) h = ap sum_of (column_values at (agg.Sum e) h) ∙ (fold_skip added added_unit Null (map (λ p. aggregate rs p (agg.Sum e)) ps)
        ∙ (fold_parts added added_unit added_joined (known_values e rs) Null ps ∙ ap sum_of (values_parts e ps)))
    one at (agg.Min e) h = ap least (column_values at (agg.Min e) h) ∙ (fold_skip lesser_of lesser_unit Null (map (λ p. aggregate rs p (agg.Min e)) ps)
        ∙ (fold_parts lesser_of lesser_unit lesser_joined (known_values e rs) Null ps ∙ ap least (values_parts e ps)))
    one at (agg.Max e) h = ap greatest (column_values at (agg.Max e) h) ∙ (fold_skip greater_of greater_unit Null (map (λ p. aggregate rs p (agg.Max e)) ps)
        ∙ (fold_parts greater_of greater_unit greater_joined (known_values e rs) Null ps ∙ ap greatest (values_parts e ps)))

    -- from a column on stand the partial values of these aggregates, in order
    pub all_combined : (aggs rest : List Agg) (at : ℕ) → ((p : List Row) (j : ℕ) → column (make p) (at + j) ≡ column (map (aggregate rs p) (aggs ++ rest)) j) →
        map (aggregate rs (map make ps)) (all_combining at aggs) ≡ map (aggregate rs (joined ps)) aggs
    all_combined [] rest at h = refl
    all_combined (a ∷ aggs) rest at h =
        let e : aggregate rs (map make ps) (combining at a) ≡ aggregate rs (joined ps) a = one at a (λ p. subst (λ k. column (make p) k ≡ aggregate rs p a) (add-zero at) (h p 0)) in
        let es : map (aggregate rs (map make ps)) (all_combining (suc at) aggs) ≡ map (aggregate rs (joined ps)) aggs =
        all_combined aggs rest (suc at) (λ p j. subst (λ k. column (make p) k ≡ column (map (aggregate rs p) (aggs ++ rest)) j) (next at j) (h p (suc j))) in
        cc
      where
        next : (at j : ℕ) → at + suc j ≡ suc at + j
        next at j = omega arith

-- a key among keys of which no two are the same
pub one_left : (k : Row) (xs : List Row) → NoTwins xs → Has xs k → filter (same_row k) xs ≡ k ∷ []
one_left k [] t h = absurd h
one_left k (y ∷ xs) t (inl e) =
    let f : filter (same_row k) xs ≡ [] = filter_none (same_row k) xs (λ x m. subst (λ z. same_row z x ≡ false) e (t.0 x m)) in
    rw (same_from k y (sym e), f) (ap (λ z. z ∷ []) e)
one_left k (y ∷ xs) t (inr h) = rw (differ_back y k (t.0 k h)) (one_left k xs t.1 h)
