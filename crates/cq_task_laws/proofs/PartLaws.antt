-- Rows in parts: folds, DISTINCT and groups over parts that are joined.
use Rattle.std.proofs.Common.{◌≡◌, Bool, List, [], ◌∷◌, ◌++◌, map, refl, sym, ap, ◌∙◌, append-nil, inl, inr}
use Rattle.std.specs.Prelude.{filter, fold, not}
use Rattle.std.specs.List.{flat_map, list_any}
use Rattle.std.proofs.lemmas.List.Elements.{filter-append}
use Rattle.std.proofs.lemmas.List.Sums.{fold-append}
use Rattle.cq_value.proofs.Lists.{map_map}
use Rattle.cq_value.specs.declared.value.Value.{Value}
use Rattle.cq_value.specs.declared.value.Value.TheVariants.{Null}
use Rattle.cq_tree.specs.declared.query.Agg.{Agg}
use Rattle.cq_meaning.specs.Values.{Row, same_row}
use Rattle.cq_meaning.specs.Groups.{distinct, differs, group_with, groups_by, group_row}
use Rattle.cq_meaning.proofs.Reorder.{Reordered, none, then, behind, before}
use Rattle.cq_meaning.specs.Lists.{Has}
use Rattle.cq_task_laws.specs.Merging.{joined}
use Rattle.cq_task_laws.specs.Gathering.{ShareNo}
use Rattle.cq_meaning.proofs.RowLaws.{with_new, first_rows_are, new_to, distinct_from, filter_all, filter_none, distinct_differ, distinct_has, any_has, not_true, same_is, NoTwins}
use Rattle.cq_meaning.proofs.MapLaws.{map_append, map_same}

-- lists of parts

pub map_joined : {X Y : Type 0} (f : X → Y) (g : X → List X) (xs : List X) → map f (flat_map g xs) ≡ flat_map (λ x. map f (g x)) xs
map_joined f g [] = refl
map_joined f g (x ∷ xs) = map_append f (g x) (flat_map g xs) ∙ ap (λ us. map f (g x) ++ us) (map_joined f g xs)

module _ {X Y : Type 0} where
  pub flat_map_map : (f : X → Y) (ps : List (List X)) → map f (flat_map (λ p. p) ps) ≡ flat_map (λ p. map f p) ps
  flat_map_map f [] = refl
  flat_map_map f (p ∷ ps) = map_append f p (flat_map (λ p. p) ps) ∙ ap (λ us. map f p ++ us) (flat_map_map f ps)

  pub flat_map_filter : (q : Y → Bool) (f : X → List Y) (ps : List X) → filter q (flat_map f ps) ≡ flat_map (λ p. filter q (f p)) ps
  flat_map_filter q f [] = refl
  flat_map_filter q f (p ∷ ps) = filter-append q (f p) (flat_map f ps) ∙ ap (λ us. filter q (f p) ++ us) (flat_map_filter q f ps)

  pub flat_map_same : (f g : X → List Y) (ps : List X) → ((p : X) → Has ps p → f p ≡ g p) → flat_map f ps ≡ flat_map g ps
  flat_map_same f g [] h = refl
  flat_map_same f g (p ∷ ps) h =
      let e : f p ≡ g p = h p (inl refl) in
      let es : flat_map f ps ≡ flat_map g ps = flat_map_same f g ps (λ q k. h q (inr k)) in
      cc

  pub flat_map_again : (f g : X → List Y) (ps : List X) → ((p : X) → Has ps p → Reordered (f p) (g p)) → Reordered (flat_map f ps) (flat_map g ps)
  flat_map_again f g [] h = none
  flat_map_again f g (p ∷ ps) h = then (before (flat_map f ps) (h p (inl refl))) (behind (g p) (flat_map_again f g ps (λ q k. h q (inr k))))

pub flat_map_of_map : {X Y Z : Type 0} (f : Y → List Z) (g : X → Y) (ps : List X) → flat_map f (map g ps) ≡ flat_map (λ p. f (g p)) ps
flat_map_of_map f g [] = refl
flat_map_of_map f g (p ∷ ps) = ap (λ us. f (g p) ++ us) (flat_map_of_map f g ps)

pub map_of_flat_map : {X Y Z : Type 0} (f : Y → Z) (g : X → List Y) (ps : List X) → map f (flat_map g ps) ≡ flat_map (λ p. map f (g p)) ps
map_of_flat_map f g [] = refl
map_of_flat_map f g (p ∷ ps) = map_append f (g p) (flat_map g ps) ∙ ap (λ us. map f (g p) ++ us) (map_of_flat_map f g ps)

-- a fold of the parts' folds
module _ (op : Value → Value → Value) (unit : (a : Value) → op a Null ≡ a) (joins : (a x y : Value) → op (op a x) y ≡ op a (op x y)) where
  fold_from : (a : Value) (xs : List Value) → fold op a xs ≡ op a (fold op Null xs)
  fold_from a [] = sym (unit a)
  fold_from a (x ∷ xs) =
      let f : Value = fold op Null xs in
      fold_from (op a x) xs
      ∙ (ap (λ b. op (op b x) f) (sym (unit a))
      ∙ (ap (λ b. op b f) (joins a Null x)
      ∙ (joins a (op Null x) f
      ∙ ap (λ b. op a b) (sym (fold_from (op Null x) xs)))))

  pub fold_parts : {X : Type 0} (values : X → List Value) (a : Value) (ps : List X) →
      fold op a (map (λ p. fold op Null (values p)) ps) ≡ fold op a (flat_map values ps)
  fold_parts values a [] = refl
  fold_parts values a (p ∷ ps) =
      ap (λ b. fold op b (map (λ p. fold op Null (values p)) ps)) (sym (fold_from a (values p)))
      ∙ (fold_parts values (fold op a (values p)) ps
      ∙ sym (fold-append op a (values p) (flat_map values ps)))

-- DISTINCT over parts

pub distinct_append : (xs ys : List Row) → distinct (xs ++ ys) ≡ distinct xs ++ filter (new_to (distinct xs)) (distinct ys)
distinct_append xs ys =
    sym (first_rows_are (xs ++ ys)) ∙ (fold-append with_new [] xs ys ∙ (ap (λ done. fold with_new done ys) (first_rows_are xs) ∙ distinct_from (distinct xs) ys))

twins_apart : (xs : List Row) → NoTwins xs → distinct xs ≡ xs
twins_apart [] h = refl
twins_apart (x ∷ xs) h =
    ap (λ us. x ∷ us) (ap (filter (differs x)) (twins_apart xs h.1) ∙ filter_all (differs x) xs (λ y k. ap not (h.0 y k)))

pub distinct_once : (xs : List Row) → distinct (distinct xs) ≡ distinct xs
distinct_once xs = twins_apart (distinct xs) (distinct_differ xs)

pub distinct_of_parts : {X : Type 0} (f : X → List Row) (ps : List X) → distinct (flat_map (λ p. distinct (f p)) ps) ≡ distinct (flat_map f ps)
distinct_of_parts f [] = refl
distinct_of_parts f (p ∷ ps) =
    distinct_append (distinct (f p)) (flat_map (λ p. distinct (f p)) ps)
    ∙ (ap (λ us. us ++ filter (new_to us) (distinct (flat_map (λ p. distinct (f p)) ps))) (distinct_once (f p))
    ∙ (ap (λ us. distinct (f p) ++ filter (new_to (distinct (f p))) us) (distinct_of_parts f ps)
    ∙ sym (distinct_append (f p) (flat_map f ps))))

-- of parts that share no row
pub distinct_joined_apart : (xs ys : List Row) → ((x y : Row) → Has xs x → Has ys y → x ≡ y → ⊥) → distinct (xs ++ ys) ≡ distinct xs ++ distinct ys
distinct_joined_apart xs ys h =
    distinct_append xs ys ∙ ap (λ us. distinct xs ++ us)
    (filter_all (new_to (distinct xs)) (distinct ys) (λ y k. ap not (not_true (list_any (same_row y) (distinct xs)) (λ t. h y y (distinct_has xs y (any_has y (distinct xs) t)) (distinct_has ys y k) refl))))

pub distinct_apart : (ps : List (List Row)) → ShareNo (λ r. r) ps → distinct (joined ps) ≡ flat_map distinct ps
distinct_apart [] h = refl
distinct_apart (p ∷ ps) h = distinct_joined_apart p (joined ps) h.0 ∙ ap (λ us. distinct p ++ us) (distinct_apart ps h.1)

-- groups over parts that share no key

pub mapped_has : {X Y : Type 0} (f : X → Y) (xs : List X) (y : Y) → Has (map f xs) y → (x : X) × Has xs x × (f x ≡ y)
mapped_has f [] y h = absurd h
mapped_has f (x ∷ xs) y (inl e) = (x, inl refl, e)
mapped_has f (x ∷ xs) y (inr h) = let r : (x : _) × Has xs x × (f x ≡ y) = mapped_has f xs y h in (r.0, inr r.1, r.2)

pub group_rows_are : (rs : List (List Row)) (aggs : List Agg) (key : Row → Row) (rows : List Row) →
    map (group_row aggs rs) (groups_by key rows) ≡ map (λ k. group_row aggs rs (group_with key rows k)) (distinct (map key rows))
group_rows_are rs aggs key rows = map_map (group_row aggs rs) (group_with key rows) (distinct (map key rows))

module _ (rs : List (List Row)) (aggs : List Agg) (key : Row → Row) where
  abbrev rows_for : List Row → Row → Row
  rows_for rows k = group_row aggs rs (group_with key rows k)

  two_parts : (xs ys : List Row) → ((x y : Row) → Has xs x → Has ys y → key x ≡ key y → ⊥) →
      map (group_row aggs rs) (groups_by key (xs ++ ys)) ≡ map (group_row aggs rs) (groups_by key xs) ++ map (group_row aggs rs) (groups_by key ys)
  two_parts xs ys h =
      group_rows_are rs aggs key (xs ++ ys)
      ∙ (ap (λ us. map (rows_for (xs ++ ys)) (distinct us)) (map_append key xs ys)
      ∙ (ap (λ us. map (rows_for (xs ++ ys)) us) (distinct_joined_apart (map key xs) (map key ys) apart_keys)
      ∙ (map_append (rows_for (xs ++ ys)) (distinct (map key xs)) (distinct (map key ys))
      ∙ ((λ i. map_same (rows_for (xs ++ ys)) (rows_for xs) (distinct (map key xs)) left i ++ map_same (rows_for (xs ++ ys)) (rows_for ys) (distinct (map key ys)) right i)
      ∙ (λ i. sym (group_rows_are rs aggs key xs) i ++ sym (group_rows_are rs aggs key ys) i)))))
    where
      apart_keys : (x y : Row) → Has (map key xs) x → Has (map key ys) y → x ≡ y → ⊥
      apart_keys x y a b e =
          let u : (r : Row) × Has xs r × (key r ≡ x) = mapped_has key xs x a in
          let v : (r : Row) × Has ys r × (key r ≡ y) = mapped_has key ys y b in
          h u.0 v.0 u.1 v.1 (u.2 ∙ (e ∙ sym v.2))

      none_in : (zs : List Row) (k : Row) → ((z : Row) → Has zs z → k ≡ key z → ⊥) → filter (λ r. same_row k (key r)) zs ≡ []
      none_in zs k differ = filter_none (λ r. same_row k (key r)) zs (λ z m. not_true (same_row k (key z)) (λ t. differ z m (same_is k (key z) t)))

      left : (k : Row) → Has (distinct (map key xs)) k → rows_for (xs ++ ys) k ≡ rows_for xs k
      left k m =
          let u : (r : Row) × Has xs r × (key r ≡ k) = mapped_has key xs k (distinct_has (map key xs) k m) in
          ap (λ us. group_row aggs rs (record { keys = k; rows = us }))
          (filter-append (λ r. same_row k (key r)) xs ys ∙ (ap (λ us. filter (λ r. same_row k (key r)) xs ++ us) (none_in ys k (λ z n e. h u.0 z u.1 n (u.2 ∙ e))) ∙ append-nil (filter (λ r. same_row k (key r)) xs)))

      right : (k : Row) → Has (distinct (map key ys)) k → rows_for (xs ++ ys) k ≡ rows_for ys k
      right k m =
          let v : (r : Row) × Has ys r × (key r ≡ k) = mapped_has key ys k (distinct_has (map key ys) k m) in
          ap (λ us. group_row aggs rs (record { keys = k; rows = us }))
          (filter-append (λ r. same_row k (key r)) xs ys ∙ ap (λ us. us ++ filter (λ r. same_row k (key r)) ys) (none_in xs k (λ z n e. h z v.0 n v.1 (sym (v.2 ∙ e)))))

  pub groups_apart : (ps : List (List Row)) → ShareNo key ps → map (group_row aggs rs) (groups_by key (joined ps)) ≡ flat_map (λ p. map (group_row aggs rs) (groups_by key p)) ps
  groups_apart [] h = refl
  groups_apart (p ∷ ps) h = two_parts p (joined ps) h.0 ∙ ap (λ us. map (group_row aggs rs) (groups_by key p) ++ us) (groups_apart ps h.1)
