-- An aggregate over one row more, and what that needs.
use Rattle.std.proofs.Common.{◌≡◌, ℕ, suc, zero, ◌<◌, ◌≤◌, ◌^◌, pos, Bool, true, false, cond, List, [], ◌∷◌, ◌++◌, map, length, take, drop, get_or, refl, sym, ap, subst, ◌∙◌, arith, append-nil}
use Rattle.std.specs.Prelude.{All, filter, fold}
use Rattle.std.specs.List.{AllByRecursion}
use Rattle.std.proofs.lemmas.List.{length-append}
use Rattle.std.proofs.lemmas.List.Elements.{filter-append, recursion_from_All, All-map}
use Rattle.std.proofs.lemmas.List.Sums.{fold-append}
use Rattle.cq_value.specs.declared.value.Value.{Value}
use Rattle.cq_value.specs.declared.value.Value.TheVariants.{Null, Int, Text}
use Rattle.cq_tree.specs.declared.expression.Expr.{Expr}
use Rattle.cq_tree.specs.declared.query.Agg.{Agg}
use Rattle.cq_tree.specs.declared.query.Agg.TheVariants as agg
use Rattle.cq_meaning.specs.Values.{Row, Results}
use Rattle.cq_meaning.specs.Expressions.{value_of}
use Rattle.cq_meaning.specs.Groups.{is_known, known_values, added, sum_of, lesser_of, greater_of, least, greatest, aggregate}
use Rattle.cq_meaning.specs.Safety.{Fits, IsSafe, IsSafeAggregate}
use Rattle.cq_meaning.proofs.MapLaws.{map_push}
use Rattle.cq_queries.specs.Tallies.{tally_over, one_more, with_row, tally_with, CanTake, CanTally}

known_more : (results : Results) (rows : List Row) (row : Row) (e : Expr) → known_values e results (rows ++ row ∷ []) ≡ known_values e results rows ++ filter is_known (value_of e row results ∷ [])
known_more results rows row e =
    ap (filter is_known) (map_push (λ r. value_of e r results) rows row)
    ∙ filter-append is_known (map (λ r. value_of e r results) rows) (value_of e row results ∷ [])

folded : (f : Value → Value → Value) → ((v : Value) → f v Null ≡ v) → (vs : List Value) (v : Value) → fold f Null (vs ++ filter is_known (v ∷ [])) ≡ f (fold f Null vs) v
folded f same vs Null = ap (fold f Null) (append-nil vs) ∙ sym (same (fold f Null vs))
folded f same vs (Int x) = fold-append f Null vs (Int x ∷ [])
folded f same vs (Text t) = fold-append f Null vs (Text t ∷ [])

counted : (vs : List Value) (v : Value) → Int (pos (length (vs ++ filter is_known (v ∷ [])))) ≡ cond (is_known v) (one_more (Int (pos (length vs)))) (Int (pos (length vs)))
counted vs Null = ap (λ us. Int (pos (length us))) (append-nil vs)
counted vs (Int x) = ap (λ n. Int (pos n)) (length-append vs (Int x ∷ []))
counted vs (Text t) = ap (λ n. Int (pos n)) (length-append vs (Text t ∷ []))

pub one_row_more : (results : Results) (rows : List Row) (row : Row) (a : Agg) → aggregate results (rows ++ row ∷ []) a ≡ with_row results row a (aggregate results rows a)
one_row_more results rows row agg.CountAll = ap (λ n. Int (pos n)) (length-append rows (row ∷ []))
one_row_more results rows row (agg.Count e) = ap (λ vs. Int (pos (length vs))) (known_more results rows row e) ∙ counted (known_values e results rows) (value_of e row results)
one_row_more results rows row (agg.Sum e) = ap sum_of (known_more results rows row e) ∙ folded added (λ v. refl) (known_values e results rows) (value_of e row results)
one_row_more results rows row (agg.Min e) = ap least (known_more results rows row e) ∙ folded lesser_of (λ v. refl) (known_values e results rows) (value_of e row results)
one_row_more results rows row (agg.Max e) = ap greatest (known_more results rows row e) ∙ folded greater_of (λ v. refl) (known_values e results rows) (value_of e row results)

pub tallies_more : (results : Results) (rows : List Row) (row : Row) (aggs : List Agg) → map (tally_with results row) (map (tally_over results rows) aggs) ≡ map (tally_over results (rows ++ row ∷ [])) aggs
tallies_more results rows row [] = refl
tallies_more results rows row (a ∷ aggs) =
    let e : aggregate results (rows ++ row ∷ []) a ≡ with_row results row a (aggregate results rows a) = one_row_more results rows row a in
    let es : map (tally_with results row) (map (tally_over results rows) aggs) ≡ map (tally_over results (rows ++ row ∷ [])) aggs = tallies_more results rows row aggs in
    cc

-- a row among others

module _ {X : Type 0} where
  pub split_at : (xs : List X) (i : ℕ) (d : X) → i < length xs → take i xs ++ get_or xs i d ∷ drop (suc i) xs ≡ xs
  split_at [] i d h = absurd (omega (arith, h))
  split_at (x ∷ xs) zero d h = refl
  split_at (x ∷ xs) (suc i) d h = ap (λ us. x ∷ us) (split_at xs i d (omega (arith, h)))

  middle : (P : X → Type 0) (xs : List X) (y : X) (ys : List X) → AllByRecursion P (xs ++ y ∷ ys) → P y
  middle P [] y ys h = h.0
  middle P (x ∷ xs) y ys h = middle P xs y ys h.1

  taken : (xs : List X) (y : X) (ys : List X) → take (suc (length xs)) (xs ++ y ∷ ys) ≡ xs ++ y ∷ []
  taken [] y ys = refl
  taken (x ∷ xs) y ys = ap (λ us. x ∷ us) (taken xs y ys)

  pub few : (p : X → Bool) (xs : List X) → length (filter p xs) ≤ length xs
  few p [] = omega arith
  few p (x ∷ xs) =
      let h : length (filter p xs) ≤ length xs = few p xs in
      elim (p x) as (λ b. length (cond b (x ∷ filter p xs) (filter p xs)) ≤ suc (length xs)) [ true ↦ omega (arith, h) | false ↦ omega (arith, h) ]

few_known : (results : Results) (rows : List Row) (e : Expr) → length (known_values e results rows) ≤ length rows
few_known results [] e = omega arith
few_known results (row ∷ rows) e =
    let h : length (known_values e results rows) ≤ length rows = few_known results rows e in
    elim (is_known (value_of e row results)) as (λ b. length (cond b (value_of e row results ∷ known_values e results rows) (known_values e results rows)) ≤ suc (length rows)) [ true ↦ omega (arith, h) | false ↦ omega (arith, h) ]

count_fits : (n : ℕ) → n < 2 ^ 64 → Fits (one_more (Int (pos n)))
count_fits n h = omega (arith, h)

-- what an aggregate needs of all rows is enough for each of them
pub can_take : (results : Results) (before : List Row) (row : Row) (after : List Row) (a : Agg) → IsSafeAggregate results (before ++ row ∷ after) a → length before < 2 ^ 64 → CanTake results row a (aggregate results before a)
can_take results before row after agg.CountAll h small = count_fits (length before) small
can_take results before row after (agg.Count e) h small =
    let few = few_known results before e in
    (middle (λ r. IsSafe e r results) before row after (recursion_from_All (λ r. IsSafe e r results) (before ++ row ∷ after) h), count_fits (length (known_values e results before)) (omega (arith, few, small)))
can_take results before row after (agg.Sum e) h small = (
  middle (λ r. IsSafe e r results) before row after (recursion_from_All (λ r. IsSafe e r results) (before ++ row ∷ after) h.0),
  subst Fits (ap (λ rows. sum_of (known_values e results rows)) (taken before row after) ∙ one_row_more results before row (agg.Sum e)) (h.1 (suc (length before))),
)
can_take results before row after (agg.Min e) h small = middle (λ r. IsSafe e r results) before row after (recursion_from_All (λ r. IsSafe e r results) (before ++ row ∷ after) h)
can_take results before row after (agg.Max e) h small = middle (λ r. IsSafe e r results) before row after (recursion_from_All (λ r. IsSafe e r results) (before ++ row ∷ after) h)

pub can_tally : (results : Results) (before : List Row) (row : Row) (after : List Row) (aggs : List Agg) → All (IsSafeAggregate results (before ++ row ∷ after)) aggs → length before < 2 ^ 64 → All (CanTally results row) (map (tally_over results before) aggs)
can_tally results before row after aggs h small = All-map (CanTally results row) (tally_over results before) aggs (λ i d lt. can_take results before row after (get_or aggs i d) (h i d lt) small)
