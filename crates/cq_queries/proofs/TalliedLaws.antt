-- Groups that are found by their keys, and that keep their aggregates in place of their rows.
use Rattle.std.proofs.Common.{◌≡◌, ℕ, zero, suc, ◌+◌, ◌<◌, ◌≤◌, ◌^◌, Bool, true, false, cond, List, [], ◌∷◌, ◌++◌, map, length, get_or, set, refl, sym, ap, subst, ◌∙◌, arith, add-one, inl, inr}
use Rattle.std.specs.Prelude.{Option, None, Some, All, filter, nat_lt, ◌||◌}
use Rattle.std.specs.Option.{option_map}
use Rattle.std.specs.List.{list_any, AllByRecursion}
use Rattle.std.specs.Cmp.{IsEquivalence}
use Rattle.std.proofs.lemmas.Cmp.{eq_by_cmp_equiv}
use Rattle.std.proofs.lemmas.Bool.{ltb-false, le-ltb}
use Rattle.std.proofs.lemmas.List.{length-append}
use Rattle.std.proofs.lemmas.List.Elements.{filter-append, recursion_from_All}
use Rattle.cq_tree.specs.declared.query.Agg.{Agg}
use Rattle.cq_meaning.specs.declared.Group.{Group}
use Rattle.cq_meaning.specs.Values.{Row, Results, same_row}
use Rattle.cq_meaning.specs.Groups.{distinct, group_with, groups_by, group_row, aggregate}
use Rattle.cq_meaning.specs.Limits.{is_large_group}
use Rattle.cq_meaning.specs.Lists.{Has}
use Rattle.cq_meaning.specs.Safety.{IsSafeAggregate}
use Rattle.cq_meaning.proofs.RowLaws.{same_is, same_from, same_itself, not_true, true_not_false, has_right, has_distinct, filter_none}
use Rattle.cq_meaning.proofs.MapLaws.{has_mapped}
use Rattle.cq_keys.specs.KeyLaws.{row_cmp_total}
use Rattle.cq_keys.specs.Keyed.{put_in_group}
use Rattle.cq_queries.specs.declared.tallying.TalliedGroup.{TalliedGroup}
use Rattle.cq_queries.specs.Tallies.{Tally, tally_over, tally_with}
use Rattle.cq_queries.specs.Tallied.{tallied, unseen, grown, row_of_tallied, is_large_tallied, found_or, put_changed, place_of, CanGrow}
use Rattle.cq_queries.proofs.GroupPush.{groups_push}
use Rattle.cq_queries.proofs.TallyLaws.{tallies_more, can_tally, few}

laws : IsEquivalence same_row
laws = eq_by_cmp_equiv row_cmp_total

shift_none : (o : Option ℕ) → option_map (λ i. i + 1) o ≡ None → o ≡ None
shift_none None e = refl
shift_none (Some i) e = cc

later : (P : ℕ → Type 0) (o : Option ℕ) (i : ℕ) → ((j : ℕ) → o ≡ Some j → P (j + 1)) → option_map (λ i. i + 1) o ≡ Some i → P i
later P None i h e = cc
later P (Some j) i h e = subst P (some_is e) (h j refl)
  where
    some_is : {m n : ℕ} → Some m ≡ Some n → m ≡ n
    some_is e = cc

-- where no group has the keys, the new one comes last
pub put_missing : (change : TalliedGroup → TalliedGroup) (new : TalliedGroup) (gs : List TalliedGroup) → place_of new.keys gs ≡ None → put_changed change new gs ≡ gs ++ change new ∷ []
put_missing change new [] e = refl
put_missing change new (g ∷ gs) e =
    elim (same_row new.keys g.keys) as (λ b. cond b (Some 0) (option_map (λ i. i + 1) (place_of new.keys gs)) ≡ None →
    cond b (change g ∷ gs) (g ∷ put_changed change new gs) ≡ g ∷ (gs ++ change new ∷ [])) [
      | true ↦ (λ h. cc)
      | false ↦ (λ h. ap (λ us. g ∷ us) (put_missing change new gs (shift_none (place_of new.keys gs) h)))
    ] e

pub found_missing : (new : TalliedGroup) (gs : List TalliedGroup) → place_of new.keys gs ≡ None → found_or new gs ≡ new
found_missing new [] e = refl
found_missing new (g ∷ gs) e =
    elim (same_row new.keys g.keys) as (λ b. cond b (Some 0) (option_map (λ i. i + 1) (place_of new.keys gs)) ≡ None → cond b g (found_or new gs) ≡ new) [
      | true ↦ (λ h. cc)
      | false ↦ (λ h. found_missing new gs (shift_none (place_of new.keys gs) h))
    ] e

-- and its place is the last
pub place_of_new : (g : TalliedGroup) (gs : List TalliedGroup) → place_of g.keys gs ≡ None → (q : Row) → place_of q (gs ++ g ∷ []) ≡ cond (same_row g.keys q) (Some (length gs)) (place_of q gs)
place_of_new g [] e q = rw (laws.symm q g.keys) refl
place_of_new g (a ∷ gs) e q =
    elim (same_row g.keys a.keys) as (λ b. same_row g.keys a.keys ≡ b → cond b (Some 0) (option_map (λ i. i + 1) (place_of g.keys gs)) ≡ None →
    cond (same_row q a.keys) (Some 0) (option_map (λ i. i + 1) (place_of q (gs ++ g ∷ []))) ≡ cond (same_row g.keys q) (Some (suc (length gs))) (cond (same_row q a.keys) (Some 0) (option_map (λ i. i + 1) (place_of q gs)))) [
      | true ↦ (λ p h. cc)
      | false ↦ (λ p h.
          elim (same_row g.keys q) as (λ c. same_row g.keys q ≡ c →
          cond (same_row q a.keys) (Some 0) (option_map (λ i. i + 1) (place_of q (gs ++ g ∷ []))) ≡ cond c (Some (suc (length gs))) (cond (same_row q a.keys) (Some 0) (option_map (λ i. i + 1) (place_of q gs)))) [
            | true ↦ (λ s.
                let apart : same_row q a.keys ≡ false = sym (laws.congr g.keys q a.keys s) ∙ p in
                rw apart (ap (option_map (λ i. i + 1)) (place_of_new g gs (shift_none (place_of g.keys gs) h) q ∙ ap (λ c. cond c (Some (length gs)) (place_of q gs)) s) ∙ ap Some (omega arith)))
            | false ↦ (λ s.
                rw (place_of_new g gs (shift_none (place_of g.keys gs) h) q ∙ ap (λ c. cond c (Some (length gs)) (place_of q gs)) s) refl)
          ] refl)
    ] refl e

-- what stands at a place that is found
pub at_place : (new : TalliedGroup) (gs : List TalliedGroup) (i : ℕ) (d : TalliedGroup) → place_of new.keys gs ≡ Some i → (i < length gs) × (found_or new gs ≡ get_or gs i d)
at_place new [] i d e = cc
at_place new (g ∷ gs) i d e =
    let below : (j : ℕ) → place_of new.keys gs ≡ Some j → (j < length gs) × (found_or new gs ≡ get_or gs j d) = λ j p. at_place new gs j d p in
    elim (same_row new.keys g.keys) as (λ b. cond b (Some 0) (option_map (λ i. i + 1) (place_of new.keys gs)) ≡ Some i →
    (i < suc (length gs)) × (cond b g (found_or new gs) ≡ get_or (g ∷ gs) i d)) [
      | true ↦ (λ h. first i h)
      | false ↦ (λ h. later (λ k. (k < suc (length gs)) × (found_or new gs ≡ get_or (g ∷ gs) k d)) (place_of new.keys gs) i (λ j p. let b = (below j p).0 in rw (add-one) (omega (arith, b), (below j p).1)) h)
    ] e
  where
    first : (i : ℕ) → Some 0 ≡ Some i → (i < suc (length gs)) × (g ≡ get_or (g ∷ gs) i d)
    first zero h = (omega arith, refl)
    first (suc i) h = cc

-- it is the one that is changed
pub put_at_place : (change : TalliedGroup → TalliedGroup) (new : TalliedGroup) (gs : List TalliedGroup) (i : ℕ) (d : TalliedGroup) → place_of new.keys gs ≡ Some i → put_changed change new gs ≡ set gs i (change (get_or gs i d))
put_at_place change new [] i d e = cc
put_at_place change new (g ∷ gs) i d e =
    let below : (j : ℕ) → place_of new.keys gs ≡ Some j → put_changed change new gs ≡ set gs j (change (get_or gs j d)) = λ j p. put_at_place change new gs j d p in
    elim (same_row new.keys g.keys) as (λ b. cond b (Some 0) (option_map (λ i. i + 1) (place_of new.keys gs)) ≡ Some i →
    cond b (change g ∷ gs) (g ∷ put_changed change new gs) ≡ set (g ∷ gs) i (change (get_or (g ∷ gs) i d))) [
      | true ↦ (λ h. first i h)
      | false ↦ (λ h. later (λ k. g ∷ put_changed change new gs ≡ set (g ∷ gs) k (change (get_or (g ∷ gs) k d))) (place_of new.keys gs) i (λ j p. rw (add-one) (ap (λ us. g ∷ us) (below j p))) h)
    ] e
  where
    first : (i : ℕ) → Some 0 ≡ Some i → change g ∷ gs ≡ set (g ∷ gs) i (change (get_or (g ∷ gs) i d))
    first zero h = refl
    first (suc i) h = cc

-- a group that keeps its keys changes no place
pub set_places : (q : Row) (gs : List TalliedGroup) (i : ℕ) (d g : TalliedGroup) → g.keys ≡ (get_or gs i d).keys → place_of q gs ≡ place_of q (set gs i g)
set_places q [] i d g is = refl
set_places q (a ∷ gs) zero d g is = ap (λ k. cond (same_row q k) (Some 0) (option_map (λ i. i + 1) (place_of q gs))) (sym is)
set_places q (a ∷ gs) (suc i) d g is = ap (λ o. cond (same_row q a.keys) (Some 0) (option_map (λ i. i + 1) o)) (set_places q gs i d g is)

all_has : {X : Type 0} (P : X → Type 0) (xs : List X) (x : X) → AllByRecursion P xs → Has xs x → P x
all_has P [] x h has = absurd has
all_has P (y ∷ xs) x h (inl e) = subst P e h.0
all_has P (y ∷ xs) x h (inr has) = all_has P xs x h.1 has

module _ (results : Results) (aggs : List Agg) where
  grown_is : (k : Row) (rows : List Row) (r : Row) → tallied results aggs (record { keys = k; rows = rows ++ r ∷ [] }) ≡ grown results r (tallied results aggs (record { keys = k; rows = rows }))
  grown_is k rows r =
      let n : length (rows ++ r ∷ []) ≡ length rows + 1 = length-append rows (r ∷ []) in
      let ts : map (tally_with results r) (map (tally_over results rows) aggs) ≡ map (tally_over results (rows ++ r ∷ [])) aggs = tallies_more results rows r aggs in
      λ i. record { keys = k; rows = n i; tallies = (sym ts) i }

  tallied_put : (k r : Row) (gs : List Group) → map (tallied results aggs) (put_in_group k r gs) ≡ put_changed (grown results r) (unseen results aggs k) (map (tallied results aggs) gs)
  tallied_put k r [] = ap (λ g. g ∷ []) (grown_is k [] r)
  tallied_put k r (g ∷ gs) =
      elim (same_row k g.keys) as (λ b. map (tallied results aggs) (cond b (record { keys = g.keys; rows = g.rows ++ r ∷ [] } ∷ gs) (g ∷ put_in_group k r gs))
      ≡ cond b (grown results r (tallied results aggs g) ∷ map (tallied results aggs) gs) (tallied results aggs g ∷ put_changed (grown results r) (unseen results aggs k) (map (tallied results aggs) gs))) [
        | true ↦ ap (λ t. t ∷ map (tallied results aggs) gs) (grown_is g.keys g.rows r)
        | false ↦ ap (λ us. tallied results aggs g ∷ us) (tallied_put k r gs)
      ]

  -- what is kept of the groups of one row more
  pub groups_tallied : (key : Row → Row) (rows : List Row) (r : Row) → put_changed (grown results r) (unseen results aggs (key r)) (map (tallied results aggs) (groups_by key rows)) ≡ map (tallied results aggs) (groups_by key (rows ++ r ∷ []))
  groups_tallied key rows r = sym (ap (map (tallied results aggs)) (groups_push key rows r) ∙ tallied_put (key r) r (groups_by key rows))

  found_in : (key : Row → Row) (rows : List Row) (r : Row) (ks : List Row) → ((Has ks (key r) → ⊥) → filter (λ s. same_row (key r) (key s)) rows ≡ []) →
      found_or (unseen results aggs (key r)) (map (tallied results aggs) (map (group_with key rows) ks)) ≡ tallied results aggs (group_with key rows (key r))
  found_in key rows r [] fresh = ap (λ us. tallied results aggs (record { keys = key r; rows = us })) (sym (fresh (λ h. h)))
  found_in key rows r (k ∷ ks) fresh =
      elim (same_row (key r) k) as (λ b. same_row (key r) k ≡ b → cond b (tallied results aggs (group_with key rows k)) (found_or (unseen results aggs (key r)) (map (tallied results aggs) (map (group_with key rows) ks)))
      ≡ tallied results aggs (group_with key rows (key r))) [
        | true ↦ (λ e. ap (λ z. tallied results aggs (group_with key rows z)) (sym (same_is (key r) k e)))
        | false ↦ (λ e. found_in key rows r ks (λ h. fresh (λ i. elim i [ inl q ↦ true_not_false (same_row (key r) k) (same_from (key r) k (sym q)) e | inr j ↦ h j ])))
      ] refl

  -- what is kept of the group of a row's keys
  found_is : (key : Row → Row) (rows : List Row) (r : Row) → found_or (unseen results aggs (key r)) (map (tallied results aggs) (groups_by key rows)) ≡ tallied results aggs (group_with key rows (key r))
  found_is key rows r = found_in key rows r (distinct (map key rows))
      (λ fresh. filter_none (λ s. same_row (key r) (key s)) rows (λ s i. not_true (same_row (key r) (key s)) (λ t.
      fresh (subst (λ z. Has (distinct (map key rows)) z) (sym (same_is (key r) (key s) t)) (has_distinct (map key rows) (key s) (has_mapped key rows s i))))))

  -- what the groups of all rows need is enough for each row
  pub can_grow : (key : Row → Row) (done : List Row) (r : Row) (rest : List Row) → All (λ g. All (IsSafeAggregate results g.rows) aggs) (groups_by key (done ++ r ∷ rest)) → length (done ++ r ∷ rest) < 2 ^ 64 →
      CanGrow results r (found_or (unseen results aggs (key r)) (map (tallied results aggs) (groups_by key done)))
  can_grow key done r rest h small =
      let all : List Row = done ++ r ∷ rest in
      let p : Row → Bool = λ s. same_row (key r) (key s) in
      let has : Has (distinct (map key all)) (key r) = has_distinct (map key all) (key r) (has_mapped key all r (has_right done (r ∷ rest) r (inl refl))) in
      let safe : All (IsSafeAggregate results (filter p all)) aggs =
      all_has (λ (g : Group). All (IsSafeAggregate results g.rows) aggs) (groups_by key all) (group_with key all (key r))
      (recursion_from_All (λ (g : Group). All (IsSafeAggregate results g.rows) aggs) (groups_by key all) h) (has_mapped (group_with key all) (distinct (map key all)) (key r) has) in
      let parts : filter p all ≡ filter p done ++ r ∷ filter p rest = filter-append p done (r ∷ rest) ∙ ap (λ b. filter p done ++ cond b (r ∷ filter p rest) (filter p rest)) (same_itself (key r)) in
      let n : length all ≡ length done + suc (length rest) = length-append done (r ∷ rest) in
      let few_here : length (filter p done) ≤ length done = few p done in
      subst (CanGrow results r) (sym (found_is key done r)) (
        omega (arith, n, few_here, small),
        can_tally results (filter p done) r (filter p rest) aggs (subst (λ us. All (IsSafeAggregate results us) aggs) parts safe) (omega (arith, n, few_here, small)),
      )

  values_are : (rows : List Row) (xs : List Agg) → map (λ (t : Tally). t.1) (map (tally_over results rows) xs) ≡ map (aggregate results rows) xs
  values_are rows [] = refl
  values_are rows (a ∷ xs) = ap (λ us. aggregate results rows a ∷ us) (values_are rows xs)

  pub row_values : (keys : Row) (rows : List Row) → keys ++ map (λ (t : Tally). t.1) (map (tally_over results rows) aggs) ≡ keys ++ map (aggregate results rows) aggs
  row_values keys rows = ap (λ us. keys ++ us) (values_are rows aggs)

  pub rows_are : (gs : List Group) → map row_of_tallied (map (tallied results aggs) gs) ≡ map (group_row aggs results) gs
  rows_are [] = refl
  rows_are (g ∷ gs) =
      let e : row_of_tallied (tallied results aggs g) ≡ group_row aggs results g = row_values g.keys g.rows in
      let es : map row_of_tallied (map (tallied results aggs) gs) ≡ map (group_row aggs results) gs = rows_are gs in
      cc

  pub large_are : (gs : List Group) → list_any is_large_tallied (map (tallied results aggs) gs) ≡ list_any is_large_group gs
  large_are [] = refl
  large_are (g ∷ gs) = ap (λ b. is_large_group g || b) (large_are gs)

-- groups of few rows have few each
not_less : (a b c : ℕ) → nat_lt a b ≡ false → c ≤ b → nat_lt a c ≡ false
not_less a b c e h = let few_there : b ≤ a = ltb-false a b e in le-ltb a c (omega (arith, few_there, h))

pub none_large : (key : Row → Row) (rows : List Row) → nat_lt (2 ^ 31) (length rows) ≡ false → list_any is_large_group (groups_by key rows) ≡ false
none_large key rows e = over (distinct (map key rows))
  where
    over : (ks : List Row) → list_any is_large_group (map (group_with key rows) ks) ≡ false
    over [] = refl
    over (k ∷ ks) = ap (λ b. b || list_any is_large_group (map (group_with key rows) ks)) (not_less (2 ^ 31) (length rows) (length (filter (λ s. same_row k (key s)) rows)) e (few (λ s. same_row k (key s)) rows)) ∙ over ks
