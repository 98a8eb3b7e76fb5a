-- Tables that are listed by their numbers, each with rows that its place gives.
use Rattle.std.proofs.Common.{suc, zero, ◌≡◌, ◌+◌, inl, inr, ℕ, List, [], ◌∷◌, refl, sym, ◌∙◌, ap, subst, arith, Some, None, Option, slice_get, eq-eqb}
use Rattle.std.proofs.lemmas.Bool.Decides.{eqb_tells}
use Rattle.cq_meaning.specs.Values.{Row, Tables, table_rows}
use Rattle.cq_catalog.specs.Contents.{place_in}
use Rattle.cq_catalog.specs.declared.info.Place.{Place}
use Rattle.cq_catalog.specs.declared.info.Place.TheVariants.{Local}
use Rattle.cq_catalog.specs.declared.info.TableInfo.{TableInfo}

module _ (at : ℕ → Place → List Row) where
  -- of which the first has the number `k`
  abbrev pub listed : ℕ → List TableInfo → Tables
  listed k [] = []
  listed k (t ∷ ts) = (k, at k t.place) ∷ listed (k + 1) ts

  looked_up : (k i : ℕ) (ts : List TableInfo) (t : TableInfo) → slice_get ts i ≡ Some t → table_rows (listed k ts) (k + i) ≡ at (k + i) t.place
  looked_up k i [] t s = cc
  looked_up k zero (u ∷ ts) t s =
      let here : k ≡ k + 0 = omega arith in
      let same : u ≡ t = cc in
      rw (eq-eqb k (k + 0) here) (ap (λ n. at n u.place) here ∙ ap (λ (v : TableInfo). at (k + 0) v.place) same)
  looked_up k (suc i) (u ∷ ts) t s =
      let next : k + suc i ≡ k + 1 + i = omega arith in
      elim (eqb_tells k (k + suc i)) [
        | inl same ↦ absurd (let e = same.1 in omega (arith, e))
        | inr other ↦ rw other.0 (subst (λ n. table_rows (listed (k + 1) ts) n ≡ at n t.place) (sym next) (looked_up (k + 1) i ts t s))
      ]

  past : (ts : List TableInfo) (k i : ℕ) → slice_get ts i ≡ None → table_rows (listed k ts) (k + i) ≡ []
  past [] k i e = refl
  past (t ∷ ts) k zero e = cc
  past (t ∷ ts) k (suc i) e =
      let next : k + 1 + i ≡ k + suc i = omega arith in
      elim (eqb_tells k (k + suc i)) [
        | inl same ↦ absurd (let q = same.1 in omega (arith, q))
        | inr other ↦ rw other.0 (subst (λ n. table_rows (listed (k + 1) ts) n ≡ []) next (past ts (k + 1) i e))
      ]

  -- a table that isn't there has no rows, as a local table
  pub listed_at : ((t : ℕ) → at t Local ≡ []) → (ts : List TableInfo) (table : ℕ) → table_rows (listed 0 ts) table ≡ at table (place_in (slice_get ts table))
  listed_at none ts table = pick (slice_get ts table) refl
    where
      here : 0 + table ≡ table
      here = omega arith

      pick : (o : Option TableInfo) → slice_get ts table ≡ o → table_rows (listed 0 ts) table ≡ at table (place_in (slice_get ts table))
      pick (Some t) s = subst (λ n. table_rows (listed 0 ts) n ≡ at n t.place) here (looked_up 0 table ts t s) ∙ ap (λ o. at table (place_in o)) (sym s)
      pick None s = subst (λ n. table_rows (listed 0 ts) n ≡ []) here (past ts 0 table s) ∙ sym (none table) ∙ ap (λ o. at table (place_in o)) (sym s)
