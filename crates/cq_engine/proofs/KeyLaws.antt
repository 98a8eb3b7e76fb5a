-- Which rows repeat a key: those of which two have one, or one has that of a row that is there.
use Rattle.std.proofs.Common.{◌≡◌, ◌≤◌, ℕ, List, [], ◌∷◌, ◌++◌, length, map, refl, sym, ap, ◌∙◌, arith, Bool, true, false, ◌||◌}
use Rattle.std.specs.List.{list_any}
use Rattle.std.specs.List.Sorted.{IsPermutation}
use Rattle.std.proofs.lemmas.List.Folds.{list_any-append}
use Rattle.cq_value.proofs.Truths.{or_false}
use Rattle.cq_meaning.specs.Values.{Row}
use Rattle.cq_meaning.specs.Effects.{same_key, repeats}
use Rattle.cq_engine.specs.Keys.{Numbered, numbered, are_tied, has_twins, meets}
use Rattle.cq_engine.proofs.TwinLaws.{twins-map, twins_moved}
use Rattle.cq_engine.proofs.KeyOrder.{same_key_laws, are_tied_laws, tied_same}

or_regroup : (a b c d : Bool) → (a || (d || (b || c))) ≡ ((b || d) || (a || c))
or_regroup true true c d = refl
or_regroup true false c true = refl
or_regroup true false c false = refl
or_regroup false true c true = refl
or_regroup false true c false = refl
or_regroup false false c true = refl
or_regroup false false c false = refl

or_exchange : (a b c d : Bool) → ((a || b) || (c || d)) ≡ ((b || c) || (a || d))
or_exchange true true c d = refl
or_exchange true false true d = refl
or_exchange true false false d = refl
or_exchange false true c d = refl
or_exchange false false c d = refl

none_any : {X : Type 0} (xs : List X) → list_any (λ x. false) xs ≡ false
none_any [] = refl
none_any (x ∷ xs) = none_any xs

any_or : {X : Type 0} (p q : X → Bool) (xs : List X) → list_any (λ x. p x || q x) xs ≡ (list_any q xs || list_any p xs)
any_or p q [] = refl
any_or p q (x ∷ xs) = ap (λ b. (p x || q x) || b) (any_or p q xs) ∙ or_exchange (p x) (q x) (list_any q xs) (list_any p xs)

-- one more row that is there is met by the rows that are the same as it
meets_more : (key : List ℕ) (there rows : List Row) (row : Row) → meets key (there ++ row ∷ []) rows ≡ (list_any (same_key key row) rows || meets key there rows)
meets_more key there rows row =
    let same : Row → Row → Bool = same_key key in
    let each : (r : Row) → list_any (same r) (there ++ row ∷ []) ≡ (list_any (same r) there || same row r) =
    λ r. list_any-append (same r) there (row ∷ []) ∙ ap (λ b. list_any (same r) there || b) (or_false (same r row) ∙ (same_key_laws key).symm r row) in
    ap (λ (p : Row → Bool). list_any p rows) (λ i r. each r i) ∙ any_or (λ r. list_any (same r) there) (same row) rows

-- with a key, rows repeat one where two of them have the same, or one of them has that of a row that is there
repeats_by : (place : ℕ) (key : List ℕ) (there rows : List Row) →
    repeats (place ∷ key) there rows ≡ (has_twins (same_key (place ∷ key)) rows || meets (place ∷ key) there rows)
repeats_by place key there [] = refl
repeats_by place key there (row ∷ rows) =
    let same : Row → Row → Bool = same_key (place ∷ key) in
    ap (λ b. list_any (same row) there || b) (repeats_by place key (there ++ row ∷ []) rows ∙ ap (λ b. has_twins same rows || b) (meets_more (place ∷ key) there rows row))
    ∙ or_regroup (list_any (same row) there) (list_any (same row) rows) (meets (place ∷ key) there rows) (has_twins same rows)

module _ (key : List ℕ) (rows : List Row) (some : 1 ≤ length key) where
  repeats_is : (key : List ℕ) (there : List Row) → 1 ≤ length key → repeats key there rows ≡ (has_twins (same_key key) rows || meets key there rows)
  repeats_is [] there low = absurd (omega (arith, low))
  repeats_is (place ∷ key) there low = repeats_by place key there rows

  -- where one of the rows meets a row that is there
  pub met_repeats : (there : List Row) → true ≡ meets key there rows → true ≡ repeats key there rows
  met_repeats there met = sym (repeats_is key there some ∙ ap (λ b. has_twins (same_key key) rows || b) (sym met) ∙ or_true (has_twins (same_key key) rows))
    where
      or_true : (a : Bool) → (a || true) ≡ true
      or_true true = refl
      or_true false = refl

  -- and where none does, by the rows with their numbers in another order
  pub twins_repeat : (sorted : List Numbered) → IsPermutation (map (numbered key) rows) sorted → (there : List Row) → false ≡ meets key there rows →
      has_twins (are_tied key) sorted ≡ repeats key there rows
  twins_repeat sorted moved there met =
      twins_moved (are_tied key) (are_tied_laws key) (map (numbered key) rows) sorted moved
      ∙ twins-map (are_tied key) (numbered key) rows
      ∙ ap (λ (same : Row → Row → Bool). has_twins same rows) (λ i x y. tied_same key x y i)
      ∙ sym (repeats_is key there some ∙ ap (λ b. has_twins (same_key key) rows || b) (sym met) ∙ or_false (has_twins (same_key key) rows))

-- without a key no row repeats one
pub none_repeats : (key : List ℕ) (there rows : List Row) → length key ≡ 0 → false ≡ repeats key there rows
none_repeats [] there [] none = refl
none_repeats [] there (row ∷ rows) none = none_repeats [] (there ++ row ∷ []) rows none
none_repeats (place ∷ key) there rows none = absurd (omega (arith, none))
