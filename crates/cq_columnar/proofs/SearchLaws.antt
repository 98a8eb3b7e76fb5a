-- What is found or met chunk by chunk, and in chunks that aren't looked at.
use Rattle.std.proofs.Common.{◌≡◌, ◌∙◌, ℕ, ◌+◌, ◌<◌, Bool, false, List, [], ◌∷◌, ◌++◌, length, drop, get_or, refl, sym, ap, append_assoc}
use Rattle.std.specs.Prelude.{filter}
use Rattle.std.specs.List.{AllByRecursion, list_any}
use Rattle.std.proofs.lemmas.List.Elements.{filter-append}
use Rattle.cq_value.specs.declared.value.Value.{Value}
use Rattle.cq_value.specs.Tables.{Pair}
use Rattle.cq_value.proofs.Lists.{filter_none}
use Rattle.cq_value.proofs.Truths.{or_neither}
use Rattle.cq_pages.specs.Pages.{pairs_of}
use Rattle.cq_store.specs.Stores.{has_values, values_at, meets_any}
use Rattle.cq_columnar.specs.Columns.{may_have_all}
use Rattle.cq_columnar.proofs.AddingLaws.{rest_at}
use Rattle.cq_columnar.proofs.ExtentLaws.{none_has_all}

pub found_rest : (q : Pair → Bool) (chunks : List (List Pair)) (i : ℕ) (d rows found : List Pair) → i < length chunks → rows ≡ get_or chunks i d →
    (found ++ filter q rows) ++ filter q (pairs_of (drop (i + 1) chunks)) ≡ found ++ filter q (pairs_of (drop i chunks))
found_rest q chunks i d rows found l e =
    append_assoc found (filter q rows) (filter q (pairs_of (drop (i + 1) chunks)))
    ∙ ap (λ ps. found ++ ps) (sym (ap (filter q) (rest_at chunks i d l ∙ ap (λ ps. ps ++ pairs_of (drop (i + 1) chunks)) (sym e)) ∙ filter-append q rows (pairs_of (drop (i + 1) chunks))))

pub none_found : (rows : List Pair) (wanted : List (ℕ × Value)) → may_have_all wanted rows ≡ false → filter (λ (p : Pair). has_values wanted p.1) rows ≡ []
none_found rows wanted out = filter_none (λ (p : Pair). has_values wanted p.1) rows (none_has_all rows wanted out)

none_any : (q : Pair → Bool) (rows : List Pair) → AllByRecursion (λ p. q p ≡ false) rows → list_any q rows ≡ false
none_any q [] h = refl
none_any q (p ∷ ps) h = rw h.0 (none_any q ps h.1)

pub none_met_in : (rows : List Pair) (key : List ℕ) (others : List (List Value)) → list_any (λ (other : List Value). may_have_all (values_at key other) rows) others ≡ false → meets_any rows key others ≡ false
none_met_in rows key [] out = refl
none_met_in rows key (other ∷ others) out =
    let both = or_neither (may_have_all (values_at key other) rows) (list_any (λ (o : List Value). may_have_all (values_at key o) rows) others) out in
    rw (none_any (λ (p : Pair). has_values (values_at key other) p.1) rows (none_has_all rows (values_at key other) both.0)) (none_met_in rows key others both.1)
