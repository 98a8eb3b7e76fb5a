-- Equal rows, members of lists, filters, and the first of the rows that are the same.
use Rattle.std.proofs.Common.{◌≡◌, ◌↔◌, Bool, true, false, cond, List, [], ◌∷◌, ◌++◌, map, refl, sym, ap, subst, ◌∙◌, append_assoc, append-nil, inl, inr, Ordering, Less, Equal, Greater}
use Rattle.std.specs.Prelude.{filter, fold, not, ◌||◌, ◌&&◌, ⊤, ◌⊎◌}
use Rattle.std.specs.Ordering.{is_eq, ordering_then}
use Rattle.std.specs.List.{list_any}
use Rattle.std.proofs.lemmas.Cmp.{tied_itself}
use Rattle.std.proofs.lemmas.List.Sums.{fold_push}
use Rattle.std.proofs.lemmas.Map.Lookups.{exact_signed, exact_bytes}
use Rattle.cq_value.proofs.Truths.{not_true as not_is}
use Rattle.cq_value.specs.declared.value.Value.{Value}
use Rattle.cq_value.specs.declared.value.Value.TheVariants.{Null, Int, Text}
use Rattle.cq_value.specs.Order.{value_cmp}
use Rattle.cq_value.proofs.OrderLaws.{row_cmp_total}
use Rattle.cq_meaning.specs.Values.{Row, row_cmp, same_row}
use Rattle.cq_meaning.specs.Groups.{differs, distinct}
use Rattle.cq_meaning.specs.Lists.{Has}
use Rattle.cq_meaning.proofs.Reorder.{Reordered, none, kept, turned, then, same, filtered}

-- equal rows

pub value_exact : (x y : Value) → value_cmp x y ≡ Equal → x ≡ y
value_exact (Int x) (Int y) e = ap Int (exact_signed x y e)
value_exact (Int x) (Text t) e = cc
value_exact (Int x) Null e = cc
value_exact (Text s) (Int y) e = cc
value_exact (Text s) (Text t) e = ap Text (exact_bytes s t e)
value_exact (Text s) Null e = cc
value_exact Null (Int y) e = cc
value_exact Null (Text t) e = cc
value_exact Null Null e = refl

row_exact : (x y : Row) → row_cmp x y ≡ Equal → x ≡ y
row_exact [] [] e = refl
row_exact [] (y ∷ ys) e = cc
row_exact (x ∷ xs) [] e = cc
row_exact (x ∷ xs) (y ∷ ys) e = go (value_cmp x y) refl e (row_exact xs ys)
  where
    go : (o : Ordering) → value_cmp x y ≡ o → ordering_then o (row_cmp xs ys) ≡ Equal → (row_cmp xs ys ≡ Equal → xs ≡ ys) → x ∷ xs ≡ y ∷ ys
    go Less p q h = cc
    go Equal p q h =
        let heads : x ≡ y = value_exact x y p in
        let tails : xs ≡ ys = h q in
        cc
    go Greater p q h = cc

pub row_cmp_same : (x y : Row) → (row_cmp x y ≡ Equal) ↔ (x ≡ y)
row_cmp_same x y = (row_exact x y, λ e. subst (λ z. row_cmp x z ≡ Equal) e (tied_itself row_cmp_total x))

equal_from : (o : Ordering) → is_eq o ≡ true → o ≡ Equal
equal_from Less e = cc
equal_from Equal e = refl
equal_from Greater e = cc

pub same_is : (x y : Row) → same_row x y ≡ true → x ≡ y
same_is x y e = row_exact x y (equal_from (row_cmp x y) e)

pub same_itself : (x : Row) → same_row x x ≡ true
same_itself x = ap is_eq (tied_itself row_cmp_total x)

pub same_from : (x y : Row) → x ≡ y → same_row x y ≡ true
same_from x y e = subst (λ z. same_row x z ≡ true) e (same_itself x)

pub not_true : (b : Bool) → (b ≡ true → ⊥) → b ≡ false
not_true true h = absurd (h refl)
not_true false h = refl

pub true_not_false : (b : Bool) → b ≡ true → b ≡ false → ⊥
true_not_false b p q = cc

pub differ_back : (x y : Row) → same_row x y ≡ false → same_row y x ≡ false
differ_back x y e = not_true (same_row y x) (λ p. true_not_false (same_row x y) (same_from x y (sym (same_is y x p))) e)

-- members

module _ {X : Type 0} where
  pub has_left : (xs ys : List X) (x : X) → Has xs x → Has (xs ++ ys) x
  has_left [] ys x h = absurd h
  has_left (y ∷ xs) ys x (inl e) = inl e
  has_left (y ∷ xs) ys x (inr h) = inr (has_left xs ys x h)

  pub has_right : (xs ys : List X) (x : X) → Has ys x → Has (xs ++ ys) x
  has_right [] ys x h = h
  has_right (y ∷ xs) ys x h = inr (has_right xs ys x h)

  pub has_either : (xs ys : List X) (x : X) → Has (xs ++ ys) x → Has xs x ⊎ Has ys x
  has_either [] ys x h = inr h
  has_either (y ∷ xs) ys x (inl e) = inl (inl e)
  has_either (y ∷ xs) ys x (inr h) = elim (has_either xs ys x h) [ inl a ↦ inl (inr a) | inr b ↦ inr b ]

  pub has_again : {xs ys : List X} → Reordered xs ys → (x : X) → Has xs x → Has ys x
  has_again (kept r) x (inl e) = inl e
  has_again (kept r) x (inr h) = inr (has_again r x h)
  has_again turned x (inl e) = inr (inl e)
  has_again turned x (inr (inl e)) = inl e
  has_again turned x (inr (inr h)) = inr (inr h)
  has_again (then r s) x h = has_again s x (has_again r x h)
  has_again none x h = h

  pub has_filtered : (p : X → Bool) (xs : List X) (x : X) → Has (filter p xs) x → Has xs x × (p x ≡ true)
  has_filtered p [] x h = absurd h
  has_filtered p (y ∷ xs) x h =
      elim (p y) as (λ b. p y ≡ b → Has (cond b (y ∷ filter p xs) (filter p xs)) x → Has (y ∷ xs) x × (p x ≡ true)) [
        | true ↦ (λ e k. first (λ j. has_filtered p xs x j) e k)
        | false ↦ (λ e k. let r : Has xs x × (p x ≡ true) = has_filtered p xs x k in (inr r.0, r.1))
      ] refl h
    where
      first : (Has (filter p xs) x → Has xs x × (p x ≡ true)) → p y ≡ true → Has (y ∷ filter p xs) x → Has (y ∷ xs) x × (p x ≡ true)
      first rest e (inl q) = (inl q, subst (λ z. p z ≡ true) q e)
      first rest e (inr k) = let r : Has xs x × (p x ≡ true) = rest k in (inr r.0, r.1)

  pub filtered_has : (p : X → Bool) (xs : List X) (x : X) → Has xs x → p x ≡ true → Has (filter p xs) x
  filtered_has p [] x h t = absurd h
  filtered_has p (y ∷ xs) x (inl q) t = rw (subst (λ z. p z ≡ true) (sym q) t) (inl q)
  filtered_has p (y ∷ xs) x (inr h) t = elim (p y) as (λ b. Has (cond b (y ∷ filter p xs) (filter p xs)) x) [ true ↦ inr (filtered_has p xs x h t) | false ↦ filtered_has p xs x h t ]

  -- filters

  pub filter_within : (p q : X → Bool) → ((x : X) → p x ≡ true → q x ≡ true) → (xs : List X) → filter p (filter q xs) ≡ filter p xs
  filter_within p q h [] = refl
  filter_within p q h (x ∷ xs) =
      elim (q x) as (λ b. q x ≡ b → filter p (cond b (x ∷ filter q xs) (filter q xs)) ≡ filter p (x ∷ xs)) [
        | true ↦ (λ e. ap (λ us. cond (p x) (x ∷ us) us) (filter_within p q h xs))
        | false ↦ (λ e. rw (not_true (p x) (λ t. true_not_false (q x) (h x t) e)) (filter_within p q h xs))
      ] refl

  pub filter_turned : (p q : X → Bool) (xs : List X) → filter p (filter q xs) ≡ filter q (filter p xs)
  filter_turned p q [] = refl
  filter_turned p q (x ∷ xs) = go (p x) (q x) refl refl (filter_turned p q xs)
    where
      go : (a b : Bool) → p x ≡ a → q x ≡ b → filter p (filter q xs) ≡ filter q (filter p xs) → filter p (cond (q x) (x ∷ filter q xs) (filter q xs)) ≡ filter q (cond (p x) (x ∷ filter p xs) (filter p xs))
      go true true d e h = simp (d, e) (ap (λ us. x ∷ us) h)
      go true false d e h = simp (d, e) h
      go false true d e h = simp (d, e) h
      go false false d e h = simp (d, e) h

  pub filter_same : (p q : X → Bool) (xs : List X) → ((x : X) → Has xs x → p x ≡ q x) → filter p xs ≡ filter q xs
  filter_same p q [] h = refl
  filter_same p q (x ∷ xs) h = rw (h x (inl refl)) (ap (λ us. cond (q x) (x ∷ us) us) (filter_same p q xs (λ y k. h y (inr k))))

  pub filter_none : (p : X → Bool) (xs : List X) → ((x : X) → Has xs x → p x ≡ false) → filter p xs ≡ []
  filter_none p [] h = refl
  filter_none p (x ∷ xs) h = rw (h x (inl refl)) (filter_none p xs (λ y k. h y (inr k)))

  pub filter_all : (p : X → Bool) (xs : List X) → ((x : X) → Has xs x → p x ≡ true) → filter p xs ≡ xs
  filter_all p [] h = refl
  filter_all p (x ∷ xs) h = rw (h x (inl refl)) (ap (λ us. x ∷ us) (filter_all p xs (λ y k. h y (inr k))))

-- the first of the rows that are the same

-- a loop's step: the row goes last, where it isn't there
abbrev pub with_new : List Row → Row → List Row
with_new done row = cond (list_any (same_row row) done) done (done ++ row ∷ [])

abbrev pub new_to : List Row → Row → Bool
new_to done y = not (list_any (same_row y) done)

pub any_has : (y : Row) (done : List Row) → list_any (same_row y) done ≡ true → Has done y
any_has y [] e = cc
any_has y (d ∷ done) e = elim (same_row y d) as (λ b. same_row y d ≡ b → (b || list_any (same_row y) done) ≡ true → Has (d ∷ done) y) [
  | true ↦ (λ p q. inl (sym (same_is y d p)))
  | false ↦ (λ p q. inr (any_has y done q))
] refl e

pub has_any : (y : Row) (done : List Row) → Has done y → list_any (same_row y) done ≡ true
has_any y [] h = absurd h
has_any y (d ∷ done) (inl e) = rw (same_from y d (sym e))
has_any y (d ∷ done) (inr h) = elim (same_row y d) as (λ b. (b || list_any (same_row y) done) ≡ true) [ true ↦ refl | false ↦ has_any y done h ]

any_push : (y d : Row) (done : List Row) → list_any (same_row y) (done ++ d ∷ []) ≡ (list_any (same_row y) done || same_row y d)
any_push y d [] = elim (same_row y d) as (λ b. (b || false) ≡ (false || b)) [ true ↦ refl | false ↦ refl ]
any_push y d (c ∷ done) = elim (same_row y c) as (λ b. (b || list_any (same_row y) (done ++ d ∷ [])) ≡ ((b || list_any (same_row y) done) || same_row y d)) [ true ↦ refl | false ↦ any_push y d done ]

pub differs_is : (x y : Row) → differs x y ≡ true → same_row x y ≡ false
differs_is x y e = not_is (same_row x y) e

pub differs_from : (x y : Row) → same_row x y ≡ false → differs x y ≡ true
differs_from x y e = ap not e

pub same_turned : (x y : Row) → same_row x y ≡ same_row y x
same_turned x y = go (same_row x y) refl
  where
    go : (b : Bool) → same_row x y ≡ b → same_row x y ≡ same_row y x
    go true e = e ∙ sym (same_from y x (sym (same_is x y e)))
    go false e = e ∙ sym (differ_back x y e)

filter_two : {X : Type 0} (p q : X → Bool) (xs : List X) → filter p (filter q xs) ≡ filter (λ x. q x && p x) xs
filter_two p q [] = refl
filter_two p q (x ∷ xs) = elim (q x) as (λ b. filter p (cond b (x ∷ filter q xs) (filter q xs)) ≡ cond (b && p x) (x ∷ filter (λ x. q x && p x) xs) (filter (λ x. q x && p x) xs)) [
  | true ↦ ap (λ us. cond (p x) (x ∷ us) us) (filter_two p q xs)
  | false ↦ filter_two p q xs
]

old : (x : Row) (done : List Row) → list_any (same_row x) done ≡ true → (y : Row) → new_to done y ≡ true → differs x y ≡ true
old x done e y n = ap not (not_true (same_row x y) (λ t.
    true_not_false (list_any (same_row x) done) e (subst (λ z. list_any (same_row z) done ≡ false) (sym (same_is x y t)) (not_is (list_any (same_row y) done) n))))

neither : (a b c : Bool) → b ≡ c → not (a || b) ≡ (not c && not a)
neither true true c e = rw (← e)
neither true false c e = rw (← e)
neither false true c e = rw (← e)
neither false false c e = rw (← e)

pushed : (x : Row) (done ys : List Row) → filter (new_to (done ++ x ∷ [])) ys ≡ filter (new_to done) (filter (differs x) ys)
pushed x done ys =
    filter_same (new_to (done ++ x ∷ [])) (λ y. differs x y && new_to done y) ys (λ y h. ap not (any_push y x done) ∙ neither (list_any (same_row y) done) (same_row y x) (same_row x y) (same_turned y x))
    ∙ sym (filter_two (new_to done) (differs x) ys)

-- DISTINCT by these steps
pub distinct_from : (done xs : List Row) → fold with_new done xs ≡ done ++ filter (new_to done) (distinct xs)
distinct_from done [] = sym (append-nil done)
distinct_from done (x ∷ xs) =
    elim (list_any (same_row x) done) as (λ b. list_any (same_row x) done ≡ b →
    fold with_new (cond b done (done ++ x ∷ [])) xs ≡ done ++ cond (not b) (x ∷ filter (new_to done) (filter (differs x) (distinct xs))) (filter (new_to done) (filter (differs x) (distinct xs)))) [
      | true ↦ (λ e. distinct_from done xs ∙ ap (λ us. done ++ us) (sym (filter_within (new_to done) (differs x) (old x done e) (distinct xs))))
      | false ↦ (λ e. distinct_from (done ++ x ∷ []) xs
          ∙ (append_assoc done (x ∷ []) (filter (new_to (done ++ x ∷ [])) (distinct xs))
          ∙ ap (λ us. done ++ x ∷ us) (pushed x done (distinct xs))))
    ] refl

pub first_rows_are : (xs : List Row) → fold with_new [] xs ≡ distinct xs
first_rows_are xs = distinct_from [] xs ∙ filter_all (new_to []) (distinct xs) (λ x h. refl)

pub has_distinct : (xs : List Row) (x : Row) → Has xs x → Has (distinct xs) x
has_distinct [] x h = absurd h
has_distinct (y ∷ xs) x (inl e) = inl e
has_distinct (y ∷ xs) x (inr h) = elim (same_row y x) as (λ b. same_row y x ≡ b → Has (distinct (y ∷ xs)) x) [
  | true ↦ (λ e. inl (same_is y x e))
  | false ↦ (λ e. inr (filtered_has (differs y) (distinct xs) x (has_distinct xs x h) (differs_from y x e)))
] refl

pub distinct_has : (xs : List Row) (x : Row) → Has (distinct xs) x → Has xs x
distinct_has [] x h = absurd h
distinct_has (y ∷ xs) x (inl e) = inl e
distinct_has (y ∷ xs) x (inr h) = inr (distinct_has xs x (has_filtered (differs y) (distinct xs) x h).0)

abbrev pub NoTwins : List Row → Type 0
NoTwins [] = ⊤
NoTwins (k ∷ ks) = ((x : Row) → Has ks x → same_row k x ≡ false) × NoTwins ks

twins_filtered : (p : Row → Bool) (xs : List Row) → NoTwins xs → NoTwins (filter p xs)
twins_filtered p [] h = tt
twins_filtered p (x ∷ xs) h = elim (p x) as (λ b. NoTwins (cond b (x ∷ filter p xs) (filter p xs))) [
  | true ↦ ((λ y k. h.0 y (has_filtered p xs y k).0), twins_filtered p xs h.1)
  | false ↦ twins_filtered p xs h.1
]

pub distinct_differ : (xs : List Row) → NoTwins (distinct xs)
distinct_differ [] = tt
distinct_differ (x ∷ xs) = ((λ y h. differs_is x y (has_filtered (differs x) (distinct xs) y h).1), twins_filtered (differs x) (distinct xs) (distinct_differ xs))

-- reordered rows have reordered first rows
both_first : (x y : Row) (us vs : List Row) → us ≡ vs → (a b : Bool) → a ≡ true → b ≡ true → Reordered (x ∷ cond a (y ∷ us) us) (y ∷ cond b (x ∷ vs) vs)
both_first x y us vs e a b p q = rw (p, q, e) turned

pub distinct_again : {xs ys : List Row} → Reordered xs ys → Reordered (distinct xs) (distinct ys)
distinct_again none = none
distinct_again (kept {x = x} r) = kept (filtered (differs x) (distinct_again r))
distinct_again (turned {x = x} {y = y} {xs = xs}) = elim (same_row x y) as (λ b. same_row x y ≡ b → Reordered (distinct (x ∷ (y ∷ xs))) (distinct (y ∷ (x ∷ xs)))) [
  | true ↦ (λ e. subst (λ z. Reordered (distinct (x ∷ (z ∷ xs))) (distinct (z ∷ (x ∷ xs)))) (same_is x y e) (same (distinct (x ∷ (x ∷ xs)))))
  | false ↦ (λ e. both_first x y (filter (differs x) (filter (differs y) (distinct xs))) (filter (differs y) (filter (differs x) (distinct xs))) (filter_turned (differs x) (differs y) (distinct xs))
      (differs x y) (differs y x) (differs_from x y e) (differs_from y x (differ_back x y e)))
] refl
distinct_again (then r s) = then (distinct_again r) (distinct_again s)

-- one row more
pub distinct_push : (xs : List Row) (row : Row) → distinct (xs ++ row ∷ []) ≡ with_new (distinct xs) row
distinct_push xs row = sym (first_rows_are (xs ++ row ∷ [])) ∙ (fold_push with_new [] xs row ∙ ap (λ done. with_new done row) (first_rows_are xs))
