-- One row more in a list of which each row stands once.
use Rattle.std.proofs.Common.{◌≡◌, Bool, true, false, cond, List, [], ◌∷◌, ◌++◌, refl, sym, ap, subst, ◌∙◌}
use Rattle.std.specs.Prelude.{not, ◌||◌}
use Rattle.std.specs.List.{list_any}
use Rattle.cq_meaning.specs.Values.{Row, same_row}
use Rattle.cq_meaning.specs.Groups.{distinct}
use Rattle.cq_meaning.proofs.RowLaws.{same_is, same_turned, distinct_push, with_new}

has_not : (b : Bool) → true ≡ not b → b ≡ false
has_not true e = cc
has_not false e = refl

has : (b : Bool) → false ≡ not b → b ≡ true
has true e = refl
has false e = cc

module _ (all yielded : List Row) (row : Row) (is : all ≡ distinct yielded) where
  step : distinct (yielded ++ row ∷ []) ≡ with_new all row
  step = distinct_push yielded row ∙ ap (λ done. with_new done row) (sym is)

  pub new_row : true ≡ not (list_any (same_row row) all) → all ++ row ∷ [] ≡ distinct (yielded ++ row ∷ [])
  new_row e = sym (step ∙ ap (λ b. cond b all (all ++ row ∷ [])) (has_not (list_any (same_row row) all) e))

  pub old_row : false ≡ not (list_any (same_row row) all) → all ≡ distinct (yielded ++ row ∷ [])
  old_row e = sym (step ∙ ap (λ b. cond b all (all ++ row ∷ [])) (has (list_any (same_row row) all) e))

-- whether a row is among them

pub new_seen : (q row : Row) (all : List Row) → (same_row row q || list_any (same_row q) all) ≡ list_any (same_row q) (all ++ row ∷ [])
new_seen q row [] = ap (λ b. b || false) (same_turned row q)
new_seen q row (r ∷ all) =
    elim (same_row q r) as (λ b. (same_row row q || (b || list_any (same_row q) all)) ≡ (b || list_any (same_row q) (all ++ row ∷ []))) [
      | true ↦ (elim (same_row row q) as (λ c. (c || true) ≡ true) [ true ↦ refl | false ↦ refl ])
      | false ↦ new_seen q row all
    ]

pub old_seen : (q row : Row) (all : List Row) → list_any (same_row row) all ≡ true → (same_row row q || list_any (same_row q) all) ≡ list_any (same_row q) all
old_seen q row all e =
    elim (same_row row q) as (λ b. same_row row q ≡ b → (b || list_any (same_row q) all) ≡ list_any (same_row q) all) [
      | true ↦ (λ h. sym (subst (λ z. list_any (same_row z) all ≡ true) (same_is row q h) e))
      | false ↦ (λ h. refl)
    ] refl

pub seen_before : (b : Bool) → false ≡ not b → b ≡ true
seen_before = has
