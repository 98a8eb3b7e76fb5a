-- One column, one aggregate, one task more.
use Rattle.std.proofs.Common.{◌≡◌, ℕ, zero, suc, ◌+◌, ◌<◌, List, [], ◌∷◌, ◌++◌, length, take, get_or, sym, ap, ◌∙◌, append-nil, add-zero, zero-add, add-one, arith}
use Rattle.std.proofs.lemmas.List.Concat.{flat_map-append}
use Rattle.cq_tree.specs.declared.expression.Expr.{Column}
use Rattle.cq_tree.specs.declared.query.Agg.{Agg}
use Rattle.cq_meaning.specs.Values.{Row}
use Rattle.cq_task_laws.specs.Partial.{columns_from}
use Rattle.cq_task_laws.specs.Merging.{combining, all_combining, joined}

further : (at n : ℕ) → suc at + n ≡ at + suc n
further at n = omega arith

columns_on : (at n : ℕ) → columns_from at (suc n) ≡ columns_from at n ++ Column (at + n) ∷ []
columns_on at zero = ap (λ k. Column k ∷ []) (sym (add-zero at))
columns_on at (suc n) = ap (λ es. Column at ∷ es) (columns_on (suc at) n ∙ ap (λ k. columns_from (suc at) n ++ Column k ∷ []) (further at n))

pub columns_push : (n : ℕ) → columns_from 0 (n + 1) ≡ columns_from 0 n ++ Column n ∷ []
columns_push n = ap (columns_from 0) (add-one n) ∙ (columns_on 0 n ∙ ap (λ k. columns_from 0 n ++ Column k ∷ []) (zero-add n))

pub combining_more : (at : ℕ) (aggs : List Agg) (i : ℕ) (d : Agg) → i < length aggs → all_combining at (take (i + 1) aggs) ≡ all_combining at (take i aggs) ++ combining (at + i) (get_or aggs i d) ∷ []
combining_more at [] i d h = absurd (omega arith)
combining_more at (a ∷ aggs) zero d h = ap (λ n. all_combining at (take n (a ∷ aggs))) (add-one 0) ∙ ap (λ k. combining k a ∷ []) (sym (add-zero at))
combining_more at (a ∷ aggs) (suc i) d h =
    let rest : all_combining (suc at) (take (i + 1) aggs) ≡ all_combining (suc at) (take i aggs) ++ combining (suc at + i) (get_or aggs i d) ∷ [] = combining_more (suc at) aggs i d (omega arith) in
    ap (λ n. all_combining at (take n (a ∷ aggs))) (add-one (suc i))
    ∙ ap (λ us. combining at a ∷ us) (ap (λ n. all_combining (suc at) (take n aggs)) (sym (add-one i)) ∙ (rest ∙ ap (λ k. all_combining (suc at) (take i aggs) ++ combining k (get_or aggs i d) ∷ []) (further at i)))

pub joined_push : (parts : List (List Row)) (part : List Row) → joined (parts ++ part ∷ []) ≡ joined parts ++ part
joined_push parts part = flat_map-append (λ p. p) parts (part ∷ []) ∙ ap (λ us. joined parts ++ us) (append-nil part)
