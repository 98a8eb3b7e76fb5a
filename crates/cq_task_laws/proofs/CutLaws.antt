-- The kept rows of a FROM are those of the tasks' FROMs, joined.
use Rattle.std.proofs.Common.{◌≡◌, ℕ, ◌+◌, Bool, true, false, cond, List, [], ◌∷◌, ◌++◌, map, length, take, drop, replicate, length-append, refl, sym, ap, subst, ◌∙◌, append_assoc, inl, inr}
use Rattle.std.specs.Prelude.{filter, not, ◌⊎◌, ◌&&◌, ◌||◌, nat_eq}
use Rattle.std.specs.List.{flat_map}
use Rattle.std.proofs.lemmas.List.{length-replicate}
use Rattle.std.proofs.lemmas.Bool.{eqb-true, eq-eqb}
use Rattle.std.proofs.lemmas.List.Concat.{flat_map-append}
use Rattle.cq_value.proofs.Lists.{filter_map}
use Rattle.cq_value.proofs.Truths.{both_true, left_false, right_false}
use Rattle.cq_value.specs.declared.value.Value.TheVariants.{Null}
use Rattle.cq_meaning.specs.Values.{Row}
use Rattle.cq_meaning.specs.Joins.{product, left_join, or_else}
use Rattle.cq_meaning.proofs.Reorder.{Reordered, none, kept, turned, then, same, filtered, mapped, behind, before, swapped}
use Rattle.cq_meaning.specs.Lists.{Has}
use Rattle.cq_task_laws.specs.Gathering.{IsNonEmpty}
use Rattle.cq_task_laws.specs.Cutting.{Relation, Joins, only, inner, left, width_of, all_rows, rows_at, is_here, Fits, AllFit, IsChoice, stands, RightsStand, Located, AreDistinct}
use Rattle.cq_meaning.proofs.RowLaws.{has_either, has_filtered, filtered_has, has_again, not_true, true_not_false}
use Rattle.cq_meaning_laws.proofs.SortLaws.{back}
use Rattle.cq_task_laws.proofs.PartLaws.{flat_map_same, flat_map_again, mapped_has}
use Rattle.cq_meaning.proofs.MapLaws.{has_mapped}
use Rattle.cq_meaning_laws.proofs.Permuted.{reordered}
use Rattle.cq_meaning_laws.proofs.OrderFree.{or_else_again}

-- lists of lists

module _ {X Y : Type 0} where
  pub flat_map_moved : (f : X → List Y) {xs ys : List X} → Reordered xs ys → Reordered (flat_map f xs) (flat_map f ys)
  flat_map_moved f none = none
  flat_map_moved f (kept {x = x} r) = behind (f x) (flat_map_moved f r)
  flat_map_moved f (turned {x = x} {y = y} {xs = xs}) =
      subst (λ us. Reordered us (f y ++ (f x ++ flat_map f xs))) (append_assoc (f x) (f y) (flat_map f xs))
      (subst (λ us. Reordered ((f x ++ f y) ++ flat_map f xs) us) (append_assoc (f y) (f x) (flat_map f xs)) (before (flat_map f xs) (swapped (f x) (f y))))
  flat_map_moved f (then r s) = then (flat_map_moved f r) (flat_map_moved f s)

  pub flat_map_none : (f : X → List Y) (xs : List X) → ((x : X) → Has xs x → f x ≡ []) → flat_map f xs ≡ []
  flat_map_none f [] h = refl
  flat_map_none f (x ∷ xs) h = ap (λ us. us ++ flat_map f xs) (h x (inl refl)) ∙ flat_map_none f xs (λ y k. h y (inr k))

  -- the element that gives something
  flat_map_some : (f : X → List Y) (xs : List X) → IsNonEmpty (flat_map f xs) → (x : X) × Has xs x × IsNonEmpty (f x)
  flat_map_some f [] h = absurd h
  flat_map_some f (x ∷ xs) h = go (f x) refl h (flat_map_some f xs)
    where
      go : (us : List Y) → f x ≡ us → IsNonEmpty (us ++ flat_map f xs) → (IsNonEmpty (flat_map f xs) → (z : X) × Has xs z × IsNonEmpty (f z)) → (z : X) × Has (x ∷ xs) z × IsNonEmpty (f z)
      go [] e k rest = let r : (z : X) × Has xs z × IsNonEmpty (f z) = rest k in (r.0, inr r.1, r.2)
      go (u ∷ us) e k rest = (x, inl refl, subst IsNonEmpty (sym e) tt)

  flat_map_filtered : (p : X → Bool) (f : X → List Y) (xs : List X) → flat_map f (filter p xs) ≡ flat_map (λ x. cond (p x) (f x) []) xs
  flat_map_filtered p f [] = refl
  flat_map_filtered p f (x ∷ xs) = elim (p x) as (λ b. flat_map f (cond b (x ∷ filter p xs) (filter p xs)) ≡ cond b (f x) [] ++ flat_map (λ x. cond (p x) (f x) []) xs) [
    | true ↦ ap (λ us. f x ++ us) (flat_map_filtered p f xs)
    | false ↦ flat_map_filtered p f xs
  ]

  -- elements that give nothing can be left out
  sifted : (p : X → Bool) (f g : X → List Y) (xs : List X) → ((x : X) → Has xs x → p x ≡ true → Reordered (f x) (g x)) → ((x : X) → Has xs x → p x ≡ false → g x ≡ []) →
      Reordered (flat_map f (filter p xs)) (flat_map g xs)
  sifted p f g xs h k =
      subst (λ us. Reordered us (flat_map g xs)) (sym (flat_map_filtered p f xs))
      (flat_map_again (λ x. cond (p x) (f x) []) g xs (λ x m. go x m (p x) refl))
    where
      go : (x : X) → Has xs x → (b : Bool) → p x ≡ b → Reordered (cond (p x) (f x) []) (g x)
      go x m true e = subst (λ c. Reordered (cond c (f x) []) (g x)) (sym e) (h x m e)
      go x m false e = subst (λ c. Reordered (cond c (f x) []) (g x)) (sym e) (subst (λ us. Reordered [] us) (sym (k x m e)) none)

kept_is : {X : Type 0} (p : X → Bool) (xs : List X) → flat_map (λ x. cond (p x) (x ∷ []) []) xs ≡ filter p xs
kept_is p [] = refl
kept_is p (x ∷ xs) = elim (p x) as (λ b. cond b (x ∷ []) [] ++ flat_map (λ x. cond (p x) (x ∷ []) []) xs ≡ cond b (x ∷ filter p xs) (filter p xs)) [
  | true ↦ ap (λ us. x ∷ us) (kept_is p xs)
  | false ↦ kept_is p xs
]

flat_map_over : {X Y Z : Type 0} (f : Y → List Z) (g : X → Y) (ps : List X) → flat_map f (map g ps) ≡ flat_map (λ p. f (g p)) ps
flat_map_over f g [] = refl
flat_map_over f g (p ∷ ps) = ap (λ us. f (g p) ++ us) (flat_map_over f g ps)

product_each : (K : Row → List Row) (ls rs : List Row) → flat_map K (product ls rs) ≡ flat_map (λ l. flat_map (λ r. K (l ++ r)) rs) ls
product_each K [] rs = refl
product_each K (l ∷ ls) rs =
    flat_map-append K (map (λ r. l ++ r) rs) (product ls rs)
    ∙ (λ i. flat_map_over K (λ r. l ++ r) rs i ++ product_each K ls rs i)

-- what a left row gives
abbrev extended : (Row → Bool) → ℕ → List Row → Row → List Row
extended on width rs l = or_else (l ++ replicate width Null) (filter on (map (λ r. l ++ r) rs))

left_each : (K : Row → List Row) (on : Row → Bool) (width : ℕ) (ls rs : List Row) → flat_map K (left_join on width ls rs) ≡ flat_map (λ l. flat_map K (extended on width rs l)) ls
left_each K on width [] rs = refl
left_each K on width (l ∷ ls) rs =
    flat_map-append K (extended on width rs l) (left_join on width ls rs) ∙ ap (λ us. flat_map K (extended on width rs l) ++ us) (left_each K on width ls rs)

or_else_has : (nulls : Row) (rs : List Row) (x : Row) → Has (or_else nulls rs) x → (nulls ≡ x) ⊎ Has rs x
or_else_has nulls [] x (inl e) = inl e
or_else_has nulls [] x (inr h) = inr h
or_else_has nulls (r ∷ rs) x h = inr h

pub take_left : (l r : Row) (w : ℕ) → length l ≡ w → take w (l ++ r) ≡ l
take_left l r w e = subst (λ n. take n (l ++ r) ≡ l) e (go l)
  where
    go : (l : Row) → take (length l) (l ++ r) ≡ l
    go [] = refl
    go (v ∷ l) = ap (λ us. v ∷ us) (go l)

pub drop_left : (l r : Row) (w : ℕ) → length l ≡ w → drop w (l ++ r) ≡ r
drop_left l r w e = subst (λ n. drop n (l ++ r) ≡ r) e (go l)
  where
    go : (l : Row) → drop (length l) (l ++ r) ≡ r
    go [] = refl
    go (v ∷ l) = go l

product_has : (ls rs : List Row) (x : Row) → Has (product ls rs) x → (l : Row) × (y : Row) × Has ls l × Has rs y × (x ≡ l ++ y)
product_has [] rs x h = absurd h
product_has (l ∷ ls) rs x h = elim (has_either (map (λ r. l ++ r) rs) (product ls rs) x h) [
  | inl a ↦ (let u : (y : Row) × Has rs y × (l ++ y ≡ x) = mapped_has (λ r. l ++ r) rs x a in (l, u.0, inl refl, u.1, sym u.2))
  | inr b ↦ (let u : (m : Row) × (y : Row) × Has ls m × Has rs y × (x ≡ m ++ y) = product_has ls rs x b in (u.0, u.1, inr u.2, u.3, u.4))
]

left_has : (on : Row → Bool) (width : ℕ) (ls rs : List Row) (x : Row) → Has (left_join on width ls rs) x → (l : Row) × Has ls l × Has (extended on width rs l) x
left_has on width [] rs x h = absurd h
left_has on width (l ∷ ls) rs x h = elim (has_either (extended on width rs l) (left_join on width ls rs) x h) [
  | inl a ↦ (l, inl refl, a)
  | inr b ↦ (let u : (m : Row) × Has ls m × Has (extended on width rs m) x = left_has on width ls rs x b in (u.0, inr u.1, u.2))
]

-- what an extended row is
extended_choice : (on : Row → Bool) (a : Joins) (r : Relation) (l : Row) (rs : List Row) → IsChoice a l → ((y : Row) → Has rs y → Has r.rows y) → (x : Row) → Has (extended on r.width rs l) x → IsChoice (left on a r) x
extended_choice on a r l rs c within x h = elim (or_else_has (l ++ replicate r.width Null) (filter on (map (λ y. l ++ y) rs)) x h) [
  | inl e ↦ (l, replicate r.width Null, c, inl refl, sym e)
  | inr m ↦ (let f : Has (map (λ y. l ++ y) rs) x × (on x ≡ true) = has_filtered on (map (λ y. l ++ y) rs) x m in
      let u : (y : Row) × Has rs y × (l ++ y ≡ x) = mapped_has (λ y. l ++ y) rs x f.0 in
      (l, u.0, c, inr (within u.0 u.1, subst (λ z. on z ≡ true) (sym u.2) f.1), sym u.2))
]

pub choice_width : (f : Joins) (is : List ℕ) → AllFit f is → (x : Row) → IsChoice f x → length x ≡ width_of f
choice_width (only r) is fit x c = fit.0 x c
choice_width (inner on a b) is fit x (l, y, ca, cb, m, e) =
    ap length e ∙ (length-append l y ∙ (λ i. choice_width a is fit.0 l ca i + choice_width b is fit.1 y cb i))
choice_width (left on a r) is fit x (l, y, ca, w, e) =
    ap length e ∙ (length-append l y ∙ (λ i. choice_width a is fit.0 l ca i + right w i))
  where
    right : (y ≡ replicate r.width Null) ⊎ (Has r.rows y × (on (l ++ y) ≡ true)) → length y ≡ r.width
    right (inl q) = ap length q ∙ length-replicate r.width Null
    right (inr m) = fit.1.0 y m.0

moved_to : (r : Relation) (is : List ℕ) → Fits r is → (i : ℕ) → Has is i → Reordered (r.at i) (filter (is_here r i) r.rows)
moved_to r is fit i m = reordered (r.at i) (filter (is_here r i) r.rows) (fit.1 i m)

-- rows at an index are choices that stand there
fits_has : (r : Relation) (is : List ℕ) → Fits r is → (i : ℕ) → Has is i → (x : Row) → Has (r.at i) x → Has r.rows x × (is_here r i x ≡ true)
fits_has r is fit i m x h = has_filtered (is_here r i) r.rows x (has_again (moved_to r is fit i m) x h)

all_choice : (f : Joins) (x : Row) → Has (all_rows f) x → IsChoice f x
all_choice (only r) x h = h
all_choice (inner on a b) x h =
    let u : Has (product (all_rows a) (all_rows b)) x × (on x ≡ true) = has_filtered on (product (all_rows a) (all_rows b)) x h in
    let v : (l : Row) × (y : Row) × Has (all_rows a) l × Has (all_rows b) y × (x ≡ l ++ y) = product_has (all_rows a) (all_rows b) x u.0 in
    (v.0, v.1, all_choice a v.0 v.2, all_choice b v.1 v.3, subst (λ z. on z ≡ true) v.4 u.1, v.4)
all_choice (left on a r) x h =
    let u : (l : Row) × Has (all_rows a) l × Has (extended on r.width r.rows l) x = left_has on r.width (all_rows a) r.rows x h in
    extended_choice on a r u.0 r.rows (all_choice a u.0 u.1) (λ y k. k) x u.2

-- where a joined row stands
module _ (is : List ℕ) where
  inner_stands : (on : Row → Bool) (a b : Joins) → AllFit a is → (l y : Row) → IsChoice a l → (i : ℕ) → stands (inner on a b) i (l ++ y) ≡ (stands a i l && stands b i y)
  inner_stands on a b fit l y c i =
      let e : length l ≡ width_of a = choice_width a is fit l c in
      λ j. stands a i (take_left l y (width_of a) e j) && stands b i (drop_left l y (width_of a) e j)

  inner_rights : (on : Row → Bool) (a b : Joins) → AllFit a is → (l y : Row) → IsChoice a l → (i : ℕ) → RightsStand (inner on a b) i (l ++ y) → RightsStand a i l × RightsStand b i y
  inner_rights on a b fit l y c i h =
      let e : length l ≡ width_of a = choice_width a is fit l c in
      (subst (λ z. RightsStand a i z) (take_left l y (width_of a) e) h.0, subst (λ z. RightsStand b i z) (drop_left l y (width_of a) e) h.1)

  left_stands : (on : Row → Bool) (a : Joins) (r : Relation) → AllFit a is → (l y : Row) → IsChoice a l → (i : ℕ) → stands (left on a r) i (l ++ y) ≡ stands a i l
  left_stands on a r fit l y c i = ap (λ z. stands a i z) (take_left l y (width_of a) (choice_width a is fit l c))

  -- an extended row begins with its left row
  extended_begins : (on : Row → Bool) (w : ℕ) (rs : List Row) (l x : Row) → Has (extended on w rs l) x → (y : Row) × (x ≡ l ++ y)
  extended_begins on w rs l x h = elim (or_else_has (l ++ replicate w Null) (filter on (map (λ y. l ++ y) rs)) x h) [
    | inl e ↦ (replicate w Null, sym e)
    | inr m ↦ (let u : (y : Row) × Has rs y × (l ++ y ≡ x) = mapped_has (λ y. l ++ y) rs x (has_filtered on (map (λ y. l ++ y) rs) x m).0 in (u.0, sym u.2))
  ]

  pub rows_stand : (f : Joins) → AllFit f is → (i : ℕ) → Has is i → (x : Row) → Has (rows_at f i) x → IsChoice f x × (stands f i x ≡ true)
  rows_stand (only r) fit i m x h = fits_has r is fit i m x h
  rows_stand (inner on a b) fit i m x h =
      let u : Has (product (rows_at a i) (rows_at b i)) x × (on x ≡ true) = has_filtered on (product (rows_at a i) (rows_at b i)) x h in
      let v : (l : Row) × (y : Row) × Has (rows_at a i) l × Has (rows_at b i) y × (x ≡ l ++ y) = product_has (rows_at a i) (rows_at b i) x u.0 in
      let p : IsChoice a v.0 × (stands a i v.0 ≡ true) = rows_stand a fit.0 i m v.0 v.2 in
      let q : IsChoice b v.1 × (stands b i v.1 ≡ true) = rows_stand b fit.1 i m v.1 v.3 in (
        (v.0, v.1, p.0, q.0, subst (λ z. on z ≡ true) v.4 u.1, v.4),
        ap (λ z. stands (inner on a b) i z) v.4 ∙ (inner_stands on a b fit.0 v.0 v.1 p.0 i ∙ both_true (stands a i v.0) (stands b i v.1) p.1 q.1),
      )
  rows_stand (left on a r) fit i m x h =
      let u : (l : Row) × Has (rows_at a i) l × Has (extended on r.width (r.at i) l) x = left_has on r.width (rows_at a i) (r.at i) x h in
      let p : IsChoice a u.0 × (stands a i u.0 ≡ true) = rows_stand a fit.0 i m u.0 u.1 in
      let v : (y : Row) × (x ≡ u.0 ++ y) = extended_begins on r.width (r.at i) u.0 x u.2 in (
        extended_choice on a r u.0 (r.at i) p.0 (λ y k. (fits_has r is fit.1 i m y k).0) x u.2,
        ap (λ z. stands (left on a r) i z) v.1 ∙ (left_stands on a r fit.0 u.0 v.0 p.0 i ∙ p.1),
      )

  -- the law for the rows of one index, with what becomes of each row further on

  on_both : {us vs xs ys : List Row} → us ≡ xs → vs ≡ ys → Reordered xs ys → Reordered us vs
  on_both {us} {vs} {xs} {ys} p q r = subst (λ zs. Reordered zs vs) (sym p) (subst (λ zs. Reordered xs zs) (sym q) r)

  none_is : {xs ys : List Row} → Reordered xs ys → xs ≡ [] → ys ≡ []
  none_is none e = refl
  none_is (kept r) e = cc
  none_is turned e = cc
  none_is (then r s) e = none_is s (none_is r e)

  append_none : (us vs : List Row) → us ++ vs ≡ [] → (us ≡ []) × (vs ≡ [])
  append_none [] vs e = (refl, e)
  append_none (u ∷ us) vs e = cc

  each_none : (K : Row → List Row) (xs : List Row) → flat_map K xs ≡ [] → (x : Row) → Has xs x → K x ≡ []
  each_none K [] e x h = absurd h
  each_none K (y ∷ xs) e x (inl q) = subst (λ z. K z ≡ []) q (append_none (K y) (flat_map K xs) e).0
  each_none K (y ∷ xs) e x (inr h) = each_none K xs (append_none (K y) (flat_map K xs) e).1 x h

  filter_members : (p q : Row → Bool) (xs : List Row) → ((x : Row) → Has xs x → p x ≡ true → q x ≡ true) → filter p (filter q xs) ≡ filter p xs
  filter_members p q [] h = refl
  filter_members p q (x ∷ xs) h =
      elim (q x) as (λ b. q x ≡ b → filter p (cond b (x ∷ filter q xs) (filter q xs)) ≡ filter p (x ∷ xs)) [
        | true ↦ (λ e. ap (λ us. cond (p x) (x ∷ us) us) (filter_members p q xs (λ y k. h y (inr k))))
        | false ↦ (λ e. rw (not_true (p x) (λ t. true_not_false (q x) (h x (inl refl) t) e)) (filter_members p q xs (λ y k. h y (inr k))))
      ] refl

  -- the rows of one left row
  left_row : (on : Row → Bool) (a : Joins) (r : Relation) → AllFit a is → Fits r is → (l : Row) → IsChoice a l → (i : ℕ) → Has is i → (K L : Row → List Row) →
      ((y : Row) → IsChoice (left on a r) (l ++ y) → Reordered (K (l ++ y)) (L (l ++ y))) →
      ((y : Row) → IsChoice (left on a r) (l ++ y) → IsNonEmpty (K (l ++ y)) → RightsStand (left on a r) i (l ++ y)) →
      Reordered (flat_map K (extended on r.width (r.at i) l)) (flat_map L (extended on r.width r.rows l))
  left_row on a r fit fit_r l c i m K L alike rights = go (flat_map K choices) refl
    where
      nulls : Row
      nulls = l ++ replicate r.width Null

      choices : List Row
      choices = nulls ∷ filter on (map (λ y. l ++ y) r.rows)

      among : (rs : List Row) → ((y : Row) → Has rs y → Has r.rows y) → (x : Row) → Has (extended on r.width rs l) x → Has choices x
      among rs within x h = elim (or_else_has nulls (filter on (map (λ y. l ++ y) rs)) x h) [
        | inl e ↦ inl e
        | inr k ↦ (let f : Has (map (λ y. l ++ y) rs) x × (on x ≡ true) = has_filtered on (map (λ y. l ++ y) rs) x k in
            let u : (y : Row) × Has rs y × (l ++ y ≡ x) = mapped_has (λ y. l ++ y) rs x f.0 in
            inr (filtered_has on (map (λ y. l ++ y) r.rows) x (subst (λ z. Has (map (λ y. l ++ y) r.rows) z) u.2 (has_mapped (λ y. l ++ y) r.rows u.0 (within u.0 u.1))) f.1))
      ]

      here_all : (y : Row) → Has (r.at i) y → Has r.rows y
      here_all y k = (fits_has r is fit_r i m y k).0

      part : (x : Row) → Has choices x → (y : Row) × (x ≡ l ++ y) × IsChoice (left on a r) x
      part x (inl e) = (replicate r.width Null, sym e, (l, replicate r.width Null, c, inl refl, sym e))
      part x (inr h) =
          let f : Has (map (λ y. l ++ y) r.rows) x × (on x ≡ true) = has_filtered on (map (λ y. l ++ y) r.rows) x h in
          let u : (y : Row) × Has r.rows y × (l ++ y ≡ x) = mapped_has (λ y. l ++ y) r.rows x f.0 in
          (u.0, sym u.2, (l, u.0, c, inr (u.1, subst (λ z. on z ≡ true) (sym u.2) f.1), sym u.2))

      alike_at : (x : Row) → Has choices x → Reordered (K x) (L x)
      alike_at x h =
          let u : (y : Row) × (x ≡ l ++ y) × IsChoice (left on a r) x = part x h in
          subst (λ z. Reordered (K z) (L z)) (sym u.1) (alike u.0 (subst (λ z. IsChoice (left on a r) z) u.1 u.2))

      matched : (x : Row) → Has choices x → IsNonEmpty (K x) → (y : Row) → Has r.rows y → on (l ++ y) ≡ true → is_here r i y ≡ true
      matched x h some y k t = by_cut r.cut refl
        where
          by_cut : (b : Bool) → r.cut ≡ b → (not r.cut || nat_eq (r.home y) i) ≡ true
          by_cut false e = rw e
          by_cut true e =
              let u : (z : Row) × (x ≡ l ++ z) × IsChoice (left on a r) x = part x h in
              let s : RightsStand (left on a r) i (l ++ u.0) = rights u.0 (subst (λ z. IsChoice (left on a r) z) u.1 u.2) (subst (λ z. IsNonEmpty (K z)) u.1 some) in
              let t2 : on (take (width_of a) (l ++ u.0) ++ y) ≡ true = subst (λ z. on (z ++ y) ≡ true) (sym (take_left l u.0 (width_of a) (choice_width a is fit l c))) t in
              rw e (eq-eqb (r.home y) i (s.1 e y k t2))

      go : (us : List Row) → flat_map K choices ≡ us → Reordered (flat_map K (extended on r.width (r.at i) l)) (flat_map L (extended on r.width r.rows l))
      go [] e = on_both
          (flat_map_none K (extended on r.width (r.at i) l) (λ x h. each_none K choices e x (among (r.at i) here_all x h)))
          (flat_map_none L (extended on r.width r.rows l) (λ x h. none_is (alike_at x (among r.rows (λ y k. k) x h)) (each_none K choices e x (among r.rows (λ y k. k) x h))))
          none
      go (u ∷ us) e =
          let live : (x : Row) × Has choices x × IsNonEmpty (K x) = flat_map_some K choices (subst IsNonEmpty (sym e) tt) in
          let whole : filter on (map (λ y. l ++ y) (filter (is_here r i) r.rows)) ≡ filter on (map (λ y. l ++ y) r.rows) =
          filter_map on (λ y. l ++ y) (filter (is_here r i) r.rows)
          ∙ (ap (λ us. map (λ y. l ++ y) us) (filter_members (λ y. on (l ++ y)) (is_here r i) r.rows (λ y k t. matched live.0 live.1 live.2 y k t))
          ∙ sym (filter_map on (λ y. l ++ y) r.rows)) in
          let r1 : Reordered (extended on r.width (r.at i) l) (extended on r.width r.rows l) =
          subst (λ us. Reordered (extended on r.width (r.at i) l) (or_else nulls us)) whole (or_else_again nulls (filtered on (mapped (λ y. l ++ y) (moved_to r is fit_r i m)))) in
          then (flat_map_moved K r1) (flat_map_again K L (extended on r.width r.rows l) (λ x h. alike_at x (among r.rows (λ y k. k) x h)))

  if_true : (b : Bool) (us : List Row) → IsNonEmpty (cond b us []) → (b ≡ true) × IsNonEmpty us
  if_true true us h = (refl, h)
  if_true false us h = absurd h

  cond_again : (b : Bool) (us vs : List Row) → (b ≡ true → Reordered us vs) → Reordered (cond b us []) (cond b vs [])
  cond_again true us vs h = h refl
  cond_again false us vs h = none

  cond_none : (b : Bool) (us : List Row) → (b ≡ true → us ≡ []) → cond b us [] ≡ []
  cond_none true us h = h refl
  cond_none false us h = refl

  one_index : (f : Joins) → AllFit f is → (i : ℕ) → Has is i → (K L : Row → List Row) →
      ((x : Row) → IsChoice f x → stands f i x ≡ true → Reordered (K x) (L x)) →
      ((x : Row) → IsChoice f x → stands f i x ≡ false → L x ≡ []) →
      ((x : Row) → IsChoice f x → stands f i x ≡ true → IsNonEmpty (K x) → RightsStand f i x) →
      Reordered (flat_map K (rows_at f i)) (flat_map L (all_rows f))
  one_index (only r) fit i m K L alike gone rights =
      then (flat_map_moved K (moved_to r is fit i m)) (sifted (is_here r i) K L r.rows (λ x h e. alike x h e) (λ x h e. gone x h e))
  one_index (inner on a b) fit i m K L alike gone rights =
      let K2 : Row → List Row = λ x. cond (on x) (K x) [] in
      let L2 : Row → List Row = λ x. cond (on x) (L x) [] in
      let choice : (l y : Row) → IsChoice a l → IsChoice b y → on (l ++ y) ≡ true → IsChoice (inner on a b) (l ++ y) = λ l y c d t. (l, y, c, d, t, refl) in
      let there : (l y : Row) → IsChoice a l → stands a i l ≡ true → stands b i y ≡ true → stands (inner on a b) i (l ++ y) ≡ true =
      λ l y c s t. inner_stands on a b fit.0 l y c i ∙ both_true (stands a i l) (stands b i y) s t in
      on_both
      (flat_map_filtered on K (product (rows_at a i) (rows_at b i)) ∙ product_each K2 (rows_at a i) (rows_at b i))
      (flat_map_filtered on L (product (all_rows a) (all_rows b)) ∙ product_each L2 (all_rows a) (all_rows b))
      (one_index a fit.0 i m (λ l. flat_map (λ y. K2 (l ++ y)) (rows_at b i)) (λ l. flat_map (λ y. L2 (l ++ y)) (all_rows b))
      (λ l c s. one_index b fit.1 i m (λ y. K2 (l ++ y)) (λ y. L2 (l ++ y))
      (λ y d t. cond_again (on (l ++ y)) (K (l ++ y)) (L (l ++ y)) (λ o. alike (l ++ y) (choice l y c d o) (there l y c s t)))
      (λ y d t. cond_none (on (l ++ y)) (L (l ++ y)) (λ o. gone (l ++ y) (choice l y c d o) (inner_stands on a b fit.0 l y c i ∙ right_false (stands a i l) (stands b i y) t)))
      (λ y d t some. let k : (on (l ++ y) ≡ true) × IsNonEmpty (K (l ++ y)) = if_true (on (l ++ y)) (K (l ++ y)) some in
      (inner_rights on a b fit.0 l y c i (rights (l ++ y) (choice l y c d k.0) (there l y c s t) k.1)).1))
      (λ l c s. flat_map_none (λ y. L2 (l ++ y)) (all_rows b) (λ y h.
      cond_none (on (l ++ y)) (L (l ++ y)) (λ o. gone (l ++ y) (choice l y c (all_choice b y h) o) (inner_stands on a b fit.0 l y c i ∙ left_false (stands a i l) (stands b i y) s))))
      (λ l c s some.
      let u : (y : Row) × Has (rows_at b i) y × IsNonEmpty (K2 (l ++ y)) = flat_map_some (λ y. K2 (l ++ y)) (rows_at b i) some in
      let d : IsChoice b u.0 × (stands b i u.0 ≡ true) = rows_stand b fit.1 i m u.0 u.1 in
      let k : (on (l ++ u.0) ≡ true) × IsNonEmpty (K (l ++ u.0)) = if_true (on (l ++ u.0)) (K (l ++ u.0)) u.2 in
      (inner_rights on a b fit.0 l u.0 c i (rights (l ++ u.0) (choice l u.0 c d.0 k.0) (there l u.0 c s d.1) k.1)).0))
  one_index (left on a r) fit i m K L alike gone rights =
      on_both
      (left_each K on r.width (rows_at a i) (r.at i))
      (left_each L on r.width (all_rows a) r.rows)
      (one_index a fit.0 i m (λ l. flat_map K (extended on r.width (r.at i) l)) (λ l. flat_map L (extended on r.width r.rows l))
      (λ l c s. left_row on a r fit.0 fit.1 l c i m K L
      (λ y d. alike (l ++ y) d (left_stands on a r fit.0 l y c i ∙ s))
      (λ y d some. rights (l ++ y) d (left_stands on a r fit.0 l y c i ∙ s) some))
      (λ l c s. flat_map_none L (extended on r.width r.rows l) (λ x h.
      let v : (y : Row) × (x ≡ l ++ y) = extended_begins on r.width r.rows l x h in
      gone x (extended_choice on a r l r.rows c (λ y k. k) x h) (ap (λ z. stands (left on a r) i z) v.1 ∙ (left_stands on a r fit.0 l v.0 c i ∙ s))))
      (λ l c s some.
      let u : (x : Row) × Has (extended on r.width (r.at i) l) x × IsNonEmpty (K x) = flat_map_some K (extended on r.width (r.at i) l) some in
      let v : (y : Row) × (u.0 ≡ l ++ y) = extended_begins on r.width (r.at i) l u.0 u.1 in
      let d : IsChoice (left on a r) u.0 = extended_choice on a r l (r.at i) c (λ y k. (fits_has r is fit.1 i m y k).0) u.0 u.1 in
      let h : RightsStand (left on a r) i u.0 = rights u.0 d (ap (λ z. stands (left on a r) i z) v.1 ∙ (left_stands on a r fit.0 l v.0 c i ∙ s)) u.2 in
      subst (λ z. RightsStand a i z) (ap (λ z. take (width_of a) z) v.1 ∙ take_left l v.0 (width_of a) (choice_width a is fit.0 l c)) h.0))

  -- the kept rows at an index are the kept rows that stand there
  kept_at : (f : Joins) → AllFit f is → (keep : Row → Bool) → Located f keep is → (i : ℕ) → Has is i →
      Reordered (filter keep (rows_at f i)) (filter (λ x. keep x && stands f i x) (all_rows f))
  kept_at f fit keep located i m =
      on_both (sym (kept_is keep (rows_at f i))) (sym (kept_is (λ x. keep x && stands f i x) (all_rows f)))
      (one_index f fit i m (λ x. cond (keep x) (x ∷ []) []) (λ x. cond (keep x && stands f i x) (x ∷ []) [])
      (λ x c s. subst (λ b. Reordered (cond (keep x) (x ∷ []) []) (cond (keep x && b) (x ∷ []) [])) (sym s) (both_kept x (keep x)))
      (λ x c s. ap (λ b. cond b (x ∷ []) []) (right_false (keep x) (stands f i x) s))
      (λ x c s some.
      let k : (keep x ≡ true) × IsNonEmpty (x ∷ []) = if_true (keep x) (x ∷ []) some in
      let p : (j : ℕ) × Has is j × ((n : ℕ) → Has is n → stands f n x ≡ nat_eq n j) × RightsStand f j x = located x c k.0 in
      subst (λ n. RightsStand f n x) (sym (eqb-true i p.0 (sym (p.2 i m) ∙ s))) p.3))
    where
      both_kept : (x : Row) (b : Bool) → Reordered (cond b (x ∷ []) []) (cond (b && true) (x ∷ []) [])
      both_kept x true = same (x ∷ [])
      both_kept x false = none

-- rows of which each stands at exactly one of the indices

moved : {X : Type 0} (x : X) (xs ys : List X) → Reordered (x ∷ (xs ++ ys)) (xs ++ x ∷ ys)
moved x [] ys = same (x ∷ ys)
moved x (z ∷ xs) ys = then turned (kept (moved x xs ys))

pub other : (i j : ℕ) → (i ≡ j → ⊥) → nat_eq i j ≡ false
other i j h = not_true (nat_eq i j) (λ t. h (eqb-true i j t))

put_once : (x : Row) (s : ℕ → Bool) (g : ℕ → List Row) (is : List ℕ) → AreDistinct is → (i : ℕ) → Has is i → ((j : ℕ) → Has is j → s j ≡ nat_eq j i) →
    Reordered (x ∷ flat_map g is) (flat_map (λ j. cond (s j) (x ∷ g j) (g j)) is)
put_once x s g [] d i h e = absurd h
put_once x s g (j ∷ is) d i (inl q) e =
    let here : s j ≡ true = e j (inl refl) ∙ eq-eqb j i q in
    let rest : flat_map (λ k. cond (s k) (x ∷ g k) (g k)) is ≡ flat_map g is =
    flat_map_same (λ k. cond (s k) (x ∷ g k) (g k)) g is (λ k m. ap (λ b. cond b (x ∷ g k) (g k)) (e k (inr m) ∙ other k i (λ p. d.0 (subst (λ z. Has is z) (p ∙ sym q) m)))) in
    subst (λ us. Reordered (x ∷ (g j ++ flat_map g is)) us) (λ n. cond (sym here n) (x ∷ g j) (g j) ++ sym rest n) (same (x ∷ (g j ++ flat_map g is)))
put_once x s g (j ∷ is) d i (inr h) e =
    let away : s j ≡ false = e j (inl refl) ∙ other j i (λ p. d.0 (subst (λ z. Has is z) (sym p) h)) in
    subst (λ b. Reordered (x ∷ (g j ++ flat_map g is)) (cond b (x ∷ g j) (g j) ++ flat_map (λ k. cond (s k) (x ∷ g k) (g k)) is)) (sym away)
    (then (moved x (g j) (flat_map g is)) (behind (g j) (put_once x s g is d.1 i h (λ k m. e k (inr m)))))

parted : (keep : Row → Bool) (s : ℕ → Row → Bool) (is : List ℕ) → AreDistinct is → (xs : List Row) →
    ((x : Row) → Has xs x → keep x ≡ true → (i : ℕ) × Has is i × ((j : ℕ) → Has is j → s j x ≡ nat_eq j i)) →
    Reordered (filter keep xs) (flat_map (λ i. filter (λ x. keep x && s i x) xs) is)
parted keep s is d [] h = subst (λ us. Reordered [] us) (sym (flat_map_none (λ i. []) is (λ i m. refl))) none
parted keep s is d (x ∷ xs) h = go (keep x) refl (parted keep s is d xs (λ y k. h y (inr k)))
  where
    go : (b : Bool) → keep x ≡ b → Reordered (filter keep xs) (flat_map (λ i. filter (λ x. keep x && s i x) xs) is) →
        Reordered (cond (keep x) (x ∷ filter keep xs) (filter keep xs)) (flat_map (λ i. cond (keep x && s i x) (x ∷ filter (λ x. keep x && s i x) xs) (filter (λ x. keep x && s i x) xs)) is)
    go false e r = subst (λ b. Reordered (cond b (x ∷ filter keep xs) (filter keep xs)) (flat_map (λ i. cond (b && s i x) (x ∷ filter (λ x. keep x && s i x) xs) (filter (λ x. keep x && s i x) xs)) is)) (sym e) r
    go true e r =
        let p : (i : ℕ) × Has is i × ((j : ℕ) → Has is j → s j x ≡ nat_eq j i) = h x (inl refl) e in
        subst (λ b. Reordered (cond b (x ∷ filter keep xs) (filter keep xs)) (flat_map (λ i. cond (b && s i x) (x ∷ filter (λ x. keep x && s i x) xs) (filter (λ x. keep x && s i x) xs)) is)) (sym e)
        (then (kept r) (put_once x (λ i. s i x) (λ i. filter (λ x. keep x && s i x) xs) is d p.0 p.1 p.2))

-- the kept rows of a FROM are those of the tasks' FROMs, joined
pub cut_law : (f : Joins) (keep : Row → Bool) (indices : List ℕ) → AreDistinct indices → AllFit f indices → Located f keep indices →
    Reordered (filter keep (all_rows f)) (flat_map (λ i. filter keep (rows_at f i)) indices)
cut_law f keep indices distinct fit located =
    then (parted keep (stands f) indices distinct (all_rows f)
    (λ x h e. let p : (i : ℕ) × Has indices i × ((j : ℕ) → Has indices j → stands f j x ≡ nat_eq j i) × RightsStand f i x = located x (all_choice f x h) e in (p.0, p.1, p.2)))
    (flat_map_again (λ i. filter (λ x. keep x && stands f i x) (all_rows f)) (λ i. filter keep (rows_at f i)) indices
    (λ i m. back (kept_at indices f fit keep located i m)))
