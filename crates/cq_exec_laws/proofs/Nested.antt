-- A statement whose queries name only the results that they see has WITH before its outermost query alone, and each of its steps names results of steps before it.
use Rattle.std.proofs.Common.{◌≡◌, ◌+◌, ◌<◌, ◌≤◌, ℕ, List, [], ◌∷◌, ◌++◌, map, length, sym, ap, subst, ◌∙◌, ◌⊎◌, inl, inr, arith, refl}
use Rattle.std.specs.Prelude.{replicate}
use Rattle.std.proofs.lemmas.List.{map-append, length-set, length-replicate}
use Rattle.cq_tree.specs.declared.query.FromTree.{FromTree, Table, Result, Cross', Inner', Left', Sub', end_of-FromTree, more_of-FromTree, end_of-Query, more_of-Query}
use Rattle.cq_tree.specs.declared.query.Query.{Query, Query', Row_of-Query}
use Rattle.cq_tree.specs.declared.query.Query as query
use Rattle.cq_meaning.specs.Lists.{Has}
use Rattle.cq_meaning.specs.Queries.{meaning}
use Rattle.cq_meaning.specs.Values.{Results, Tables}
use Rattle.cq_meaning.specs.Results.{ins_in, ins_in_from, ins_in_all, ins_in_ctes, count_of, with_ctes, with_ins_from, results_of}
use Rattle.cq_meaning.proofs.RowLaws.{has_left, has_right}
use Rattle.cq_meaning_laws.specs.WholeRules.{Step, steps_in, steps_in_from, steps_in_all, steps_in_ctes, steps_of, no_results, with_step, with_steps}
use Rattle.cq_meaning_laws.proofs.WholeLaws.{from_in_steps, all_in_steps, ctes_in_steps, results_in_steps}
use Rattle.cq_plan_laws.specs.Scoping.{FromNames, QueryNames, AreScoped}
use Rattle.cq_plan_laws.specs.Nested.{numbers_from, IsNested, FromIsNested, AreNested, CtesAreNested, IsNestedBehind}
use Rattle.cq_plan_laws.specs.Touching.{HasNoCtes, FromHasNone, EachHasNone}
use Rattle.cq_exec_laws.specs.Ordering.{NestedIsScoped, NestedIsOutermost}
use Rattle.cq_exec_laws.proofs.Growing.{cond_grows, clauses_grow, query_grows}

-- ---- WITH

module _ (P : ℕ → Type 0) where
  mutual
    no_ctes : (k : ℕ) (q : Query) → IsNested P k q → HasNoCtes q
    no_ctes k (Query' cs ctes ss subs from filter_ grouped keys aggs having items shown distinct order limit offset names) h =
        (h.0, none_in (numbers_from (k + ins_in_from from) subs) k from h.1, none_below (k + ins_in_from from) subs h.2)

    none_in : (own : List ℕ) (k : ℕ) (f : FromTree) → FromIsNested P (λ i. P i ⊎ Has own i) k f → FromHasNone f
    none_in own k (Table t n) h = tt
    none_in own k (Sub' p (more_of-Query q end_of-Query)) h = no_ctes k q h
    none_in own k (Result i n) h = tt
    none_in own k (Cross' p (more_of-FromTree a end_of-FromTree) q (more_of-FromTree b end_of-FromTree)) h = (none_in own k a h.0, none_in own (k + ins_in_from a) b h.1)
    none_in own k (Inner' p (more_of-FromTree a end_of-FromTree) q (more_of-FromTree b end_of-FromTree) on) h = (none_in own k a h.0, none_in own (k + ins_in_from a) b h.1)
    none_in own k (Left' p (more_of-FromTree a end_of-FromTree) q (more_of-FromTree b end_of-FromTree) on) h = (none_in own k a h.0, none_in own (k + ins_in_from a) b h.1)

    none_below : (k : ℕ) {n : _} (qs : Row_of-Query n) → AreNested P k qs → EachHasNone qs
    none_below k query.end_of-Query h = tt
    none_below k (query.more_of-Query q more) h = (no_ctes (k + 1) q h.0, none_below (k + 1 + ins_in q) more h.1)

none_in_ctes : (i k : ℕ) {n : _} (qs : Row_of-Query n) → CtesAreNested i k qs → EachHasNone qs
none_in_ctes i k query.end_of-Query h = tt
none_in_ctes i k (query.more_of-Query q more) h = (no_ctes (λ j. j < i) k q h.0, none_in_ctes (i + 1) (k + ins_in q) more h.1)

pub nested_is_outermost : NestedIsOutermost
nested_is_outermost (Query' cs ctes ss subs from filter_ grouped keys aggs having items shown distinct order limit offset names) h =
    let P : ℕ → Type 0 = λ j. j < count_of ctes in
    let m : ℕ = count_of ctes + ins_in_ctes ctes in
    (none_in_ctes 0 (count_of ctes) ctes h.0, none_in P (numbers_from (m + ins_in_from from) subs) m from h.1.0, none_below P (m + ins_in_from from) subs h.1.1)

-- ---- how many steps there are

length_after : (db : Tables) (rs : Results) (steps : List Step) → length (with_steps db rs steps) ≡ length rs
length_after db rs [] = refl
length_after db rs (s ∷ more) = length_after db (with_step db rs s) more ∙ length-set rs s.number (meaning s.query db rs)

abbrev pub count_in : Query → ℕ
count_in (Query' cs ctes ss subs from filter_ grouped keys aggs having items shown distinct order limit offset names) =
    count_of ctes + ins_in_ctes ctes + ins_in_from from + ins_in_all subs

length_results : (q : Query) → length (results_of q []) ≡ count_in q
length_results (Query' cs ctes ss subs from filter_ grouped keys aggs having items shown distinct order limit offset names) =
    let n : ℕ = count_of ctes in
    let m : ℕ = n + ins_in_ctes ctes in
    let rs : Results = replicate (m + ins_in_from from + ins_in_all subs) [] in
    let us : Results = with_ctes ctes [] 0 n rs in
    let vs : Results = with_ins_from from [] m us in
    ap length (all_in_steps [] subs (m + ins_in_from from) vs) ∙ length_after [] vs (steps_in_all (m + ins_in_from from) subs)
    ∙ (ap length (from_in_steps [] from m us) ∙ length_after [] us (steps_in_from m from)
    ∙ (ap length (ctes_in_steps [] ctes 0 n rs) ∙ length_after [] rs (steps_in_ctes 0 n ctes) ∙ length-replicate (m + ins_in_from from + ins_in_all subs) []))

pub length_of : (q : Query) → length (steps_of q) ≡ count_in q
length_of q =
    sym (length-replicate (length (steps_of q)) [])
    ∙ (sym (length_after [] (no_results q) (steps_of q)) ∙ (ap length (sym (results_in_steps [] q)) ∙ length_results q))

-- ---- numbers of steps

abbrev numbers_of : List Step → List ℕ
numbers_of steps = map (λ (s : Step). s.number) steps

left : (xs ys : List Step) (i : ℕ) → Has (numbers_of xs) i → Has (numbers_of (xs ++ ys)) i
left xs ys i h = subst (λ (us : List ℕ). Has us i) (sym (map-append (λ (s : Step). s.number) xs ys)) (has_left (numbers_of xs) (numbers_of ys) i h)

right : (xs ys : List Step) (i : ℕ) → Has (numbers_of ys) i → Has (numbers_of (xs ++ ys)) i
right xs ys i h = subst (λ (us : List ℕ). Has us i) (sym (map-append (λ (s : Step). s.number) xs ys)) (has_right (numbers_of xs) (numbers_of ys) i h)

-- those of the IN subqueries that stand in a query itself
own_numbers : (k : ℕ) {n : _} (qs : Row_of-Query n) (i : ℕ) → Has (numbers_from k qs) i → Has (numbers_of (steps_in_all k qs)) i
own_numbers k query.end_of-Query i h = h
own_numbers k (query.more_of-Query q more) i (inl e) = right (steps_in (k + 1) q) (record { number = k; query = q } ∷ steps_in_all (k + 1 + ins_in q) more) i (inl e)
own_numbers k (query.more_of-Query q more) i (inr h) =
    right (steps_in (k + 1) q) (record { number = k; query = q } ∷ steps_in_all (k + 1 + ins_in q) more) i (inr (own_numbers (k + 1 + ins_in q) more i h))

-- each CTE has one
cte_numbers : (i k : ℕ) {n : _} (qs : Row_of-Query n) (j : ℕ) → i ≤ j → j < i + count_of qs → Has (numbers_of (steps_in_ctes i k qs)) j
cte_numbers i k query.end_of-Query j low high = absurd (omega (arith, low, high))
cte_numbers i k (query.more_of-Query q more) j low high =
    right (steps_in k q) (record { number = i; query = q } ∷ steps_in_ctes (i + 1) (k + ins_in q) more) j (elim (first_or_later i j low) [
      | inl e ↦ inl e
      | inr later ↦ inr (cte_numbers (i + 1) (k + ins_in q) more j later (omega (arith, high)))
    ])
  where
    first_or_later : (i j : ℕ) → i ≤ j → (i ≡ j) ⊎ (i + 1 ≤ j)
    first_or_later i j low = grind arith

-- ---- what is named

-- below the outermost query the same holds as behind its WITH
pub behind : (P : ℕ → Type 0) (k : ℕ) (q : Query) → IsNested P k q → IsNestedBehind P k q
behind P k (Query' cs ctes ss subs from filter_ grouped keys aggs having items shown distinct order limit offset names) h = (h.1, h.2, h.3, h.4, h.5, h.6, h.7)

module _ (P R : ℕ → Type 0) (outside : (i : ℕ) → P i → R i) where
  pub sees : (own : List ℕ) → ((i : ℕ) → Has own i → R i) → (i : ℕ) → P i ⊎ Has own i → R i
  sees own named i (inl p) = outside i p
  sees own named i (inr h) = named i h

  mutual
    query_named : (k : ℕ) (q : Query) → IsNestedBehind P k q → ((i : ℕ) → Has (numbers_of (steps_in k q)) i → R i) → QueryNames R q
    query_named k (Query' cs ctes ss subs from filter_ grouped keys aggs having items shown distinct order limit offset names) h named =
        let own : List ℕ = numbers_from (k + ins_in_from from) subs in
        let xs : List Step = steps_in_from k from in
        let ys : List Step = steps_in_all (k + ins_in_from from) subs in
        let known : (i : ℕ) → Has own i → R i = λ i g. named i (right xs ys i (own_numbers (k + ins_in_from from) subs i g)) in
        clauses_grow (λ i. P i ⊎ Has own i) R (sees own known) from filter_ keys aggs having items (from_named own known k from h.0 (λ i g. named i (left xs ys i g))) h.2 h.3 h.4 h.5 h.6

    from_named : (own : List ℕ) → ((i : ℕ) → Has own i → R i) → (k : ℕ) (f : FromTree) → FromIsNested P (λ i. P i ⊎ Has own i) k f → ((i : ℕ) → Has (numbers_of (steps_in_from k f)) i → R i) → FromNames R f
    from_named own known k (Table t n) h named = tt
    from_named own known k (Sub' p (more_of-Query q end_of-Query)) h named = query_named k q (behind P k q h) named
    from_named own known k (Result i n) h named = outside i h
    from_named own known k (Cross' p (more_of-FromTree a end_of-FromTree) q (more_of-FromTree b end_of-FromTree)) h named = (
      from_named own known k a h.0 (λ i g. named i (left (steps_in_from k a) (steps_in_from (k + ins_in_from a) b) i g)),
      from_named own known (k + ins_in_from a) b h.1 (λ i g. named i (right (steps_in_from k a) (steps_in_from (k + ins_in_from a) b) i g)),
    )
    from_named own known k (Inner' p (more_of-FromTree a end_of-FromTree) q (more_of-FromTree b end_of-FromTree) on) h named = (
      from_named own known k a h.0 (λ i g. named i (left (steps_in_from k a) (steps_in_from (k + ins_in_from a) b) i g)),
      from_named own known (k + ins_in_from a) b h.1 (λ i g. named i (right (steps_in_from k a) (steps_in_from (k + ins_in_from a) b) i g)),
      cond_grows (λ i. P i ⊎ Has own i) R (sees own known) on h.2,
    )
    from_named own known k (Left' p (more_of-FromTree a end_of-FromTree) q (more_of-FromTree b end_of-FromTree) on) h named = (
      from_named own known k a h.0 (λ i g. named i (left (steps_in_from k a) (steps_in_from (k + ins_in_from a) b) i g)),
      from_named own known (k + ins_in_from a) b h.1 (λ i g. named i (right (steps_in_from k a) (steps_in_from (k + ins_in_from a) b) i g)),
      cond_grows (λ i. P i ⊎ Has own i) R (sees own known) on h.2,
    )

-- ---- steps, one after the other

module _ (n : ℕ) where
  scoped_grows : (P R : ℕ → Type 0) → ((i : ℕ) → P i → R i) → (xs : List Step) → AreScoped n P xs → AreScoped n R xs
  scoped_grows P R more [] h = tt
  scoped_grows P R more (s ∷ xs) h = (query_grows P R more s.query h.0, h.1, scoped_grows (λ i. P i ⊎ (i ≡ s.number)) (λ i. R i ⊎ (i ≡ s.number)) next xs h.2)
    where
      next : (i : ℕ) → P i ⊎ (i ≡ s.number) → R i ⊎ (i ≡ s.number)
      next i (inl p) = inl (more i p)
      next i (inr e) = inr e

  scoped_append : (P : ℕ → Type 0) (xs ys : List Step) → AreScoped n P xs → AreScoped n (λ i. P i ⊎ Has (numbers_of xs) i) ys → AreScoped n P (xs ++ ys)
  scoped_append P [] ys h k = scoped_grows (λ i. P i ⊎ Has (numbers_of []) i) P none ys k
    where
      none : (i : ℕ) → P i ⊎ Has (numbers_of []) i → P i
      none i (inl p) = p
      none i (inr h) = absurd h
  scoped_append P (s ∷ xs) ys h k =
      (h.0, h.1, scoped_append (λ i. P i ⊎ (i ≡ s.number)) xs ys h.2 (scoped_grows (λ i. P i ⊎ Has (numbers_of (s ∷ xs)) i) (λ i. (P i ⊎ (i ≡ s.number)) ⊎ Has (numbers_of xs) i) turn ys k))
    where
      turn : (i : ℕ) → P i ⊎ Has (numbers_of (s ∷ xs)) i → (P i ⊎ (i ≡ s.number)) ⊎ Has (numbers_of xs) i
      turn i (inl p) = inl (inl p)
      turn i (inr (inl e)) = inl (inr (sym e))
      turn i (inr (inr h)) = inr h

  module _ (P : ℕ → Type 0) where
    mutual
      scoped_in : (R : ℕ → Type 0) → ((i : ℕ) → P i → R i) → (k : ℕ) (q : Query) → IsNestedBehind P k q → k + ins_in q ≤ n → AreScoped n R (steps_in k q)
      scoped_in R out k (Query' cs ctes ss subs from filter_ grouped keys aggs having items shown distinct order limit offset names) h within =
          let xs : List Step = steps_in_from k from in
          scoped_append R xs (steps_in_all (k + ins_in_from from) subs) (scoped_from R out (numbers_from (k + ins_in_from from) subs) k from h.0 (omega (arith, within)))
          (scoped_all (λ i. R i ⊎ Has (numbers_of xs) i) (λ i p. inl (out i p)) (k + ins_in_from from) subs h.1 (omega (arith, within)))

      scoped_from : (R : ℕ → Type 0) → ((i : ℕ) → P i → R i) → (own : List ℕ) (k : ℕ) (f : FromTree) → FromIsNested P (λ i. P i ⊎ Has own i) k f → k + ins_in_from f ≤ n → AreScoped n R (steps_in_from k f)
      scoped_from R out own k (Table t w) h within = tt
      scoped_from R out own k (Sub' p (more_of-Query q end_of-Query)) h within = scoped_in R out k q (behind P k q h) within
      scoped_from R out own k (Result i w) h within = tt
      scoped_from R out own k (Cross' p (more_of-FromTree a end_of-FromTree) q (more_of-FromTree b end_of-FromTree)) h within =
          scoped_append R (steps_in_from k a) (steps_in_from (k + ins_in_from a) b) (scoped_from R out own k a h.0 (omega (arith, within)))
          (scoped_from (λ i. R i ⊎ Has (numbers_of (steps_in_from k a)) i) (λ i p. inl (out i p)) own (k + ins_in_from a) b h.1 (omega (arith, within)))
      scoped_from R out own k (Inner' p (more_of-FromTree a end_of-FromTree) q (more_of-FromTree b end_of-FromTree) on) h within =
          scoped_append R (steps_in_from k a) (steps_in_from (k + ins_in_from a) b) (scoped_from R out own k a h.0 (omega (arith, within)))
          (scoped_from (λ i. R i ⊎ Has (numbers_of (steps_in_from k a)) i) (λ i p. inl (out i p)) own (k + ins_in_from a) b h.1 (omega (arith, within)))
      scoped_from R out own k (Left' p (more_of-FromTree a end_of-FromTree) q (more_of-FromTree b end_of-FromTree) on) h within =
          scoped_append R (steps_in_from k a) (steps_in_from (k + ins_in_from a) b) (scoped_from R out own k a h.0 (omega (arith, within)))
          (scoped_from (λ i. R i ⊎ Has (numbers_of (steps_in_from k a)) i) (λ i p. inl (out i p)) own (k + ins_in_from a) b h.1 (omega (arith, within)))

      scoped_all : (R : ℕ → Type 0) → ((i : ℕ) → P i → R i) → (k : ℕ) {m : _} (qs : Row_of-Query m) → AreNested P k qs → k + ins_in_all qs ≤ n → AreScoped n R (steps_in_all k qs)
      scoped_all R out k query.end_of-Query h within = tt
      scoped_all R out k (query.more_of-Query q more) h within =
          let xs : List Step = steps_in (k + 1) q in
          let S : ℕ → Type 0 = λ i. R i ⊎ Has (numbers_of xs) i in
          let nested : IsNestedBehind P (k + 1) q = behind P (k + 1) q h.0 in
          scoped_append R xs (record { number = k; query = q } ∷ steps_in_all (k + 1 + ins_in q) more) (scoped_in R out (k + 1) q nested (omega (arith, within))) (
            query_named P S (λ i p. inl (out i p)) (k + 1) q nested (λ i g. inr g),
            omega (arith, within),
            scoped_all (λ i. S i ⊎ (i ≡ k)) (λ i p. inl (inl (out i p))) (k + 1 + ins_in q) more h.1 (omega (arith, within)),
          )

  scoped_ctes : (R : ℕ → Type 0) (i k : ℕ) {m : _} (qs : Row_of-Query m) → ((j : ℕ) → j < i → R j) → CtesAreNested i k qs → i + count_of qs ≤ n → k + ins_in_ctes qs ≤ n → AreScoped n R (steps_in_ctes i k qs)
  scoped_ctes R i k query.end_of-Query out h few within = tt
  scoped_ctes R i k (query.more_of-Query q more) out h few within =
      let P : ℕ → Type 0 = λ j. j < i in
      let xs : List Step = steps_in k q in
      let S : ℕ → Type 0 = λ j. R j ⊎ Has (numbers_of xs) j in
      let nested : IsNestedBehind P k q = behind P k q h.0 in
      scoped_append R xs (record { number = i; query = q } ∷ steps_in_ctes (i + 1) (k + ins_in q) more) (scoped_in P R out k q nested (omega (arith, within))) (
        query_named P S (λ j p. inl (out j p)) k q nested (λ j g. inr g),
        omega (arith, few),
        scoped_ctes (λ j. S j ⊎ (j ≡ i)) (i + 1) (k + ins_in q) more (λ j low. next j (first_or_before j low)) h.1 (omega (arith, few)) (omega (arith, within)),
      )
    where
      first_or_before : (j : ℕ) → j < i + 1 → (j < i) ⊎ (j ≡ i)
      first_or_before j low = grind arith

      next : (j : ℕ) → (j < i) ⊎ (j ≡ i) → (R j ⊎ Has (numbers_of (steps_in k q)) j) ⊎ (j ≡ i)
      next j (inl before) = inl (inl (out j before))
      next j (inr e) = inr e

pub nested_is_scoped : NestedIsScoped
nested_is_scoped (Query' cs ctes ss subs from filter_ grouped keys aggs having items shown distinct order limit offset names) h =
    let q : Query = Query' cs ctes ss subs from filter_ grouped keys aggs having items shown distinct order limit offset names in
    let n : ℕ = count_of ctes in
    let m : ℕ = n + ins_in_ctes ctes in
    let count : ℕ = length (steps_of q) in
    let e : count ≡ n + ins_in_ctes ctes + ins_in_from from + ins_in_all subs = length_of q in
    let xs : List Step = steps_in_ctes 0 n ctes in
    let ys : List Step = steps_in m q in
    let out : (j : ℕ) → j < n → Has (numbers_of xs) j = λ j low. cte_numbers 0 n ctes j (omega arith) (omega (arith, low)) in (
      scoped_append count (λ i. ⊥) xs ys (scoped_ctes count (λ i. ⊥) 0 n ctes (λ j low. absurd (omega (arith, low))) h.0 (omega (arith, e)) (omega (arith, e)))
          (scoped_in count (λ j. j < n) (λ i. ⊥ ⊎ Has (numbers_of xs) i) (λ j low. inr (out j low)) m q h.1 (omega (arith, e))),
      query_named (λ j. j < n) (λ i. Has (numbers_of (xs ++ ys)) i) (λ j low. left xs ys j (out j low)) m q h.1 (λ i g. right xs ys i g),
    )
