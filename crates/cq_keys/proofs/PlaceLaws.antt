-- Places of groups by their keys.
use Rattle.std.proofs.Common.{◌≡◌, ℕ, zero, suc, ◌+◌, ◌<◌, Bool, true, false, cond, List, [], ◌∷◌, ◌++◌, length, get_or, set, refl, sym, ap, subst, ◌∙◌, arith, add-one, append_assoc, append-nil}
use Rattle.cq_keys.specs.KeyLaws.{row_cmp_total, one_row}
use Rattle.std.specs.Prelude.{Option, None, Some, filter, fold}
use Rattle.std.specs.Option.{option_map}
use Rattle.std.specs.Cmp.{IsEquivalence}
use Rattle.std.proofs.lemmas.Cmp.{eq_by_cmp_equiv}
use Rattle.cq_meaning.specs.Values.{Row, same_row}
use Rattle.cq_meaning.specs.declared.Group.{Group}
use Rattle.cq_keys.specs.Keyed.{put_in_group, rows_with, place_with}

laws : IsEquivalence same_row
laws = eq_by_cmp_equiv row_cmp_total

shift_none : (o : Option ℕ) → option_map (λ i. i + 1) o ≡ None → o ≡ None
shift_none None e = refl
shift_none (Some i) e = cc

-- where no group has the keys, a new one comes last
pub put_new_group : (key row : Row) (gs : List Group) → place_with key gs ≡ None → put_in_group key row gs ≡ gs ++ record { keys = key; rows = row ∷ [] } ∷ []
put_new_group key row [] e = refl
put_new_group key row (g ∷ gs) e =
    elim (same_row key g.keys) as (λ b. cond b (Some 0) (option_map (λ i. i + 1) (place_with key gs)) ≡ None →
    cond b (record { keys = g.keys; rows = g.rows ++ row ∷ [] } ∷ gs) (g ∷ put_in_group key row gs) ≡ g ∷ (gs ++ record { keys = key; rows = row ∷ [] } ∷ [])) [
      | true ↦ (λ h. cc)
      | false ↦ (λ h. ap (λ us. g ∷ us) (put_new_group key row gs (shift_none (place_with key gs) h)))
    ] e

-- and its place is the last
pub place_of_new : (key : Row) (g : Group) (gs : List Group) → g.keys ≡ key → place_with key gs ≡ None → (q : Row) →
    place_with q (gs ++ g ∷ []) ≡ cond (same_row key q) (Some (length gs)) (place_with q gs)
place_of_new key g [] is e q = rw (is, laws.symm q key) refl
place_of_new key g (a ∷ gs) is e q =
    elim (same_row key a.keys) as (λ b. same_row key a.keys ≡ b → cond b (Some 0) (option_map (λ i. i + 1) (place_with key gs)) ≡ None →
    cond (same_row q a.keys) (Some 0) (option_map (λ i. i + 1) (place_with q (gs ++ g ∷ []))) ≡ cond (same_row key q) (Some (suc (length gs))) (cond (same_row q a.keys) (Some 0) (option_map (λ i. i + 1) (place_with q gs)))) [
      | true ↦ (λ p h. cc)
      | false ↦ (λ p h.
          elim (same_row key q) as (λ c. same_row key q ≡ c →
          cond (same_row q a.keys) (Some 0) (option_map (λ i. i + 1) (place_with q (gs ++ g ∷ []))) ≡ cond c (Some (suc (length gs))) (cond (same_row q a.keys) (Some 0) (option_map (λ i. i + 1) (place_with q gs)))) [
            | true ↦ (λ s.
                let apart : same_row q a.keys ≡ false = sym (laws.congr key q a.keys s) ∙ p in
                rw apart (ap (option_map (λ i. i + 1)) (place_of_new key g gs is (shift_none (place_with key gs) h) q ∙ ap (λ c. cond c (Some (length gs)) (place_with q gs)) s) ∙ ap Some (omega arith)))
            | false ↦ (λ s.
                rw (place_of_new key g gs is (shift_none (place_with key gs) h) q ∙ ap (λ c. cond c (Some (length gs)) (place_with q gs)) s) refl)
          ] refl)
    ] refl e

later : (gs : List Group) (P : ℕ → Type 0) (o : Option ℕ) (i : ℕ) → ((j : ℕ) → o ≡ Some j → P (j + 1)) → option_map (λ i. i + 1) o ≡ Some i → P i
later gs P None i h e = cc
later gs P (Some j) i h e = subst P (some_is e) (h j refl)
  where
    some_is : {m n : ℕ} → Some m ≡ Some n → m ≡ n
    some_is e = cc

-- what stands at a place that is found
pub at_place : (key : Row) (gs : List Group) (i : ℕ) (d : Group) → place_with key gs ≡ Some i → (i < length gs) × (rows_with key gs ≡ (get_or gs i d).rows)
at_place key [] i d e = cc
at_place key (g ∷ gs) i d e =
    let below : (j : ℕ) → place_with key gs ≡ Some j → (j < length gs) × (rows_with key gs ≡ (get_or gs j d).rows) = λ j p. at_place key gs j d p in
    elim (same_row key g.keys) as (λ b. cond b (Some 0) (option_map (λ i. i + 1) (place_with key gs)) ≡ Some i →
    (i < suc (length gs)) × (cond b g.rows (rows_with key gs) ≡ (get_or (g ∷ gs) i d).rows)) [
      | true ↦ (λ h. first i h)
      | false ↦ (λ h. later gs (λ k. (k < suc (length gs)) × (rows_with key gs ≡ (get_or (g ∷ gs) k d).rows)) (place_with key gs) i (λ j p. let b = (below j p).0 in rw (add-one) (omega (arith, b), (below j p).1)) h)
    ] e
  where
    first : (i : ℕ) → Some 0 ≡ Some i → (i < suc (length gs)) × (g.rows ≡ (get_or (g ∷ gs) i d).rows)
    first zero h = (omega arith, refl)
    first (suc i) h = cc

pub no_place : (key : Row) (gs : List Group) → place_with key gs ≡ None → rows_with key gs ≡ []
no_place key [] e = refl
no_place key (g ∷ gs) e =
    elim (same_row key g.keys) as (λ b. cond b (Some 0) (option_map (λ i. i + 1) (place_with key gs)) ≡ None → cond b g.rows (rows_with key gs) ≡ []) [
      | true ↦ (λ h. cc)
      | false ↦ (λ h. no_place key gs (shift_none (place_with key gs) h))
    ] e

-- a row more in the group at the place of its keys
pub put_at_place : (key row : Row) (gs : List Group) (i : ℕ) (d : Group) → place_with key gs ≡ Some i → d ≡ get_or gs i d →
    put_in_group key row gs ≡ set gs i (record { keys = d.keys; rows = d.rows ++ row ∷ [] })
put_at_place key row [] i d e is = cc
put_at_place key row (g ∷ gs) i d e is =
    let below : (j : ℕ) → place_with key gs ≡ Some j → d ≡ get_or gs j d → put_in_group key row gs ≡ set gs j (record { keys = d.keys; rows = d.rows ++ row ∷ [] }) = λ j p q. put_at_place key row gs j d p q in
    elim (same_row key g.keys) as (λ b. cond b (Some 0) (option_map (λ i. i + 1) (place_with key gs)) ≡ Some i →
    cond b (record { keys = g.keys; rows = g.rows ++ row ∷ [] } ∷ gs) (g ∷ put_in_group key row gs) ≡ set (g ∷ gs) i (record { keys = d.keys; rows = d.rows ++ row ∷ [] })) [
      | true ↦ (λ h. first i h is)
      | false ↦ (λ h. later gs (λ k. d ≡ get_or (g ∷ gs) k d → g ∷ put_in_group key row gs ≡ set (g ∷ gs) k (record { keys = d.keys; rows = d.rows ++ row ∷ [] })) (place_with key gs) i (λ j p. rw (add-one) (λ q. ap (λ us. g ∷ us) (below j p q))) h is)
    ] e
  where
    first : (i : ℕ) → Some 0 ≡ Some i → d ≡ get_or (g ∷ gs) i d → record { keys = g.keys; rows = g.rows ++ row ∷ [] } ∷ gs ≡ set (g ∷ gs) i (record { keys = d.keys; rows = d.rows ++ row ∷ [] })
    first zero h q = ap (λ (a : Group). record { keys = a.keys; rows = a.rows ++ row ∷ [] } ∷ gs) (sym q)
    first (suc i) h q = cc

-- other rows in a group change no place
pub set_places : (q : Row) (gs : List Group) (i : ℕ) (d : Group) (us : List Row) → d ≡ get_or gs i d → place_with q gs ≡ place_with q (set gs i (record { keys = d.keys; rows = us }))
set_places q [] i d us is = refl
set_places q (g ∷ gs) zero d us is = ap (λ (a : Group). cond (same_row q a.keys) (Some 0) (option_map (λ i. i + 1) (place_with q gs))) (sym is)
set_places q (g ∷ gs) (suc i) d us is = ap (λ o. cond (same_row q g.keys) (Some 0) (option_map (λ i. i + 1) o)) (set_places q gs i d us is)

-- one row more
with_one : (q k row : Row) (gs : List Group) → rows_with q (put_in_group k row gs) ≡ cond (same_row q k) (rows_with q gs ++ row ∷ []) (rows_with q gs)
with_one q k row [] = elim (same_row q k) as (λ b. cond b (row ∷ []) [] ≡ cond b (row ∷ []) []) [ true ↦ refl | false ↦ refl ]
with_one q k row (g ∷ gs) =
    elim (same_row k g.keys) as (λ b. same_row k g.keys ≡ b → rows_with q (cond b (record { keys = g.keys; rows = g.rows ++ row ∷ [] } ∷ gs) (g ∷ put_in_group k row gs))
    ≡ cond (same_row q k) (cond (same_row q g.keys) g.rows (rows_with q gs) ++ row ∷ []) (cond (same_row q g.keys) g.rows (rows_with q gs))) [
      | true ↦ (λ p.
          let same : k ≡ g.keys = one_row k g.keys p in
          rw (same)
          (elim (same_row q g.keys) as (λ c. cond c (g.rows ++ row ∷ []) (rows_with q gs) ≡ cond c (cond c g.rows (rows_with q gs) ++ row ∷ []) (cond c g.rows (rows_with q gs))) [ true ↦ refl | false ↦ refl ]))
      | false ↦ (λ p.
          elim (same_row q g.keys) as (λ c. same_row q g.keys ≡ c → cond c g.rows (rows_with q (put_in_group k row gs)) ≡ cond (same_row q k) (cond c g.rows (rows_with q gs) ++ row ∷ []) (cond c g.rows (rows_with q gs))) [
            | true ↦ (λ s. apart (same_row q k) refl s p)
            | false ↦ (λ s. with_one q k row gs)
          ] refl)
    ] refl
  where
    clash : {b : Bool} → b ≡ true → b ≡ false → ⊥
    clash u v = cc

    apart : (b : Bool) → same_row q k ≡ b → same_row q g.keys ≡ true → same_row k g.keys ≡ false → g.rows ≡ cond b (g.rows ++ row ∷ []) g.rows
    apart false u s p = refl
    apart true u s p = absurd (clash (sym (laws.congr q k g.keys u) ∙ s) p)

found_from : (f : Row → Row) (q : Row) (gs : List Group) (rs : List Row) → rows_with q (fold (λ gs r. put_in_group (f r) r gs) gs rs) ≡ rows_with q gs ++ filter (λ r. same_row q (f r)) rs
found_from f q gs [] = sym (append-nil (rows_with q gs))
found_from f q gs (r ∷ rs) =
    found_from f q (put_in_group (f r) r gs) rs
    ∙ (ap (λ us. us ++ filter (λ r. same_row q (f r)) rs) (with_one q (f r) r gs)
    ∙ elim (same_row q (f r)) as (λ b. cond b (rows_with q gs ++ r ∷ []) (rows_with q gs) ++ filter (λ r. same_row q (f r)) rs ≡ rows_with q gs ++ cond b (r ∷ filter (λ r. same_row q (f r)) rs) (filter (λ r. same_row q (f r)) rs)) [
      | true ↦ append_assoc (rows_with q gs) (r ∷ []) (filter (λ r. same_row q (f r)) rs)
      | false ↦ refl
    ])

-- the rows found under a key are those that have it
pub found_rows : (f : Row → Row) (q : Row) (rs : List Row) → rows_with q (fold (λ gs r. put_in_group (f r) r gs) [] rs) ≡ filter (λ r. same_row q (f r)) rs
found_rows f q rs = found_from f q [] rs
