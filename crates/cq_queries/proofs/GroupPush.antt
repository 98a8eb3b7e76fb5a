-- Each step of the loop that makes groups gives the groups of one row more.
use Rattle.std.proofs.Common.{◌≡◌, true, false, cond, List, [], ◌∷◌, ◌++◌, map, refl, sym, ap, subst, ◌∙◌, append-nil, inl, inr, length, arith}
use Rattle.std.specs.Prelude.{filter, ◌||◌, ◌≢◌}
use Rattle.std.specs.List.{list_any}
use Rattle.cq_tree.specs.declared.expression.Expr.{Expr}
use Rattle.cq_meaning.specs.Values.{Row, Results, same_row}
use Rattle.cq_meaning.specs.Expressions.{items_of}
use Rattle.cq_meaning.specs.Groups.{distinct, group_with, groups_by, groups_of}
use Rattle.cq_meaning.specs.Lists.{Has}
use Rattle.cq_meaning.proofs.RowLaws.{NoTwins, same_is, same_from, same_itself, not_true, true_not_false, differ_back, with_new, distinct_push, distinct_differ, has_distinct, filter_none}
use Rattle.cq_meaning.proofs.MapLaws.{map_push, map_same, filter_push, has_mapped}
use Rattle.cq_keys.specs.Keyed.{put_in_group}

module _ (key : Row → Row) (rows : List Row) (r : Row) where
  grown : (k : Row) → same_row k (key r) ≡ true → group_with key (rows ++ r ∷ []) k ≡ record { keys = k; rows = filter (λ s. same_row k (key s)) rows ++ r ∷ [] }
  grown k e = ap (λ us. record { keys = k; rows = us }) (filter_push (λ s. same_row k (key s)) rows r true e)

  stayed : (k : Row) → same_row k (key r) ≡ false → group_with key rows k ≡ group_with key (rows ++ r ∷ []) k
  stayed k e = ap (λ us. record { keys = k; rows = us }) (sym (filter_push (λ s. same_row k (key s)) rows r false e ∙ append-nil (filter (λ s. same_row k (key s)) rows)))

  new_last : (ks : List Row) (k : Row) → with_new (k ∷ ks) (key r) ≡ cond (same_row (key r) k) (k ∷ ks) (k ∷ with_new ks (key r))
  new_last ks k = elim (same_row (key r) k) as (λ b. cond (b || list_any (same_row (key r)) ks) (k ∷ ks) (k ∷ (ks ++ key r ∷ [])) ≡ cond b (k ∷ ks) (k ∷ with_new ks (key r))) [
    | true ↦ refl
    | false ↦ elim (list_any (same_row (key r)) ks) as (λ c. cond c (k ∷ ks) (k ∷ (ks ++ key r ∷ [])) ≡ k ∷ cond c ks (ks ++ key r ∷ [])) [ true ↦ refl | false ↦ refl ]
  ]

  put_step : (ks : List Row) → NoTwins ks → ((Has ks (key r) → ⊥) → filter (λ s. same_row (key r) (key s)) rows ≡ []) →
      put_in_group (key r) r (map (group_with key rows) ks) ≡ map (group_with key (rows ++ r ∷ [])) (with_new ks (key r))
  put_step [] differs fresh = ap (λ us. record { keys = key r; rows = us } ∷ [])
      (sym (filter_push (λ s. same_row (key r) (key s)) rows r true (same_itself (key r)) ∙ ap (λ us. us ++ r ∷ []) (fresh (λ h. h))))
  put_step (k ∷ ks) differs fresh =
      elim (same_row (key r) k) as (λ b. same_row (key r) k ≡ b →
      cond b (record { keys = k; rows = filter (λ s. same_row k (key s)) rows ++ r ∷ [] } ∷ map (group_with key rows) ks) (group_with key rows k ∷ put_in_group (key r) r (map (group_with key rows) ks))
      ≡ map (group_with key (rows ++ r ∷ [])) (cond b (k ∷ ks) (k ∷ with_new ks (key r)))) [
        | true ↦ (λ e.
            let p : key r ≡ k = same_is (key r) k e in
            let first : group_with key (rows ++ r ∷ []) k ≡ record { keys = k; rows = filter (λ s. same_row k (key s)) rows ++ r ∷ [] } = grown k (same_from k (key r) (sym p)) in
            let rest : map (group_with key rows) ks ≡ map (group_with key (rows ++ r ∷ [])) ks =
            map_same (group_with key rows) (group_with key (rows ++ r ∷ [])) ks (λ x h. stayed x (differ_back (key r) x (subst (λ z. same_row z x ≡ false) (sym p) (differs.0 x h)))) in
            cc)
        | false ↦ (λ e.
            let first : group_with key rows k ≡ group_with key (rows ++ r ∷ []) k = stayed k (differ_back (key r) k e) in
            let rest : put_in_group (key r) r (map (group_with key rows) ks) ≡ map (group_with key (rows ++ r ∷ [])) (with_new ks (key r)) =
            put_step ks differs.1 (λ h. fresh (λ i. elim i [ inl q ↦ true_not_false (same_row (key r) k) (same_from (key r) k (sym q)) e | inr j ↦ h j ])) in
            cc)
      ] refl
      ∙ ap (λ us. map (group_with key (rows ++ r ∷ [])) us) (sym (new_last ks k))

-- one row more
pub groups_push : (key : Row → Row) (rows : List Row) (r : Row) → groups_by key (rows ++ r ∷ []) ≡ put_in_group (key r) r (groups_by key rows)
groups_push key rows r = sym (
    put_step key rows r (distinct (map key rows)) (distinct_differ (map key rows))
    (λ fresh. filter_none (λ s. same_row (key r) (key s)) rows (λ s i. not_true (same_row (key r) (key s)) (λ t.
    fresh (subst (λ z. Has (distinct (map key rows)) z) (sym (same_is (key r) (key s) t)) (has_distinct (map key rows) (key s) (has_mapped key rows s i))))))
    ∙ (ap (λ ks. map (group_with key (rows ++ r ∷ [])) ks) (sym (distinct_push (map key rows) (key r)))
    ∙ ap (λ ks. map (group_with key (rows ++ r ∷ [])) (distinct ks)) (sym (map_push key rows r))))

-- with keys there is a group for each that occurs
pub by_keys : (es : List Expr) (results : Results) (rows : List Row) → length es ≢ 0 → groups_by (items_of es results) rows ≡ groups_of es results rows
by_keys [] results rows some = absurd (some refl)
by_keys (e ∷ es) results rows some = refl

-- and without there is one
pub no_keys : (es : List Expr) → length es ≡ 0 → es ≡ []
no_keys [] none = refl
no_keys (e ∷ es) none = absurd (omega (arith, none))
