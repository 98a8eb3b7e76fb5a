-- The steps of a whole statement keep its results within their widths.
use Rattle.std.proofs.Common.{◌≡◌, ℕ, zero, suc, ◌+◌, List, [], ◌∷◌, ◌++◌, length, replicate, refl, sym, ap, subst, ◌∙◌, false, arith, length-append}
use Rattle.std.specs.Prelude.{slice_set, slice_index_or}
use Rattle.std.specs.List.{AllByRecursion}
use Rattle.std.proofs.lemmas.List.{length-set, length-replicate}
use Rattle.cq_value.proofs.Truths.{or_neither}
use Rattle.cq_tree.specs.declared.query.FromTree.{FromTree, Table, Sub', Result, Cross', Inner', Left', more_of-FromTree, end_of-FromTree}
use Rattle.cq_tree.specs.declared.query.Query.{Query, Query', Row_of-Query, end_of-Query, more_of-Query}
use Rattle.cq_meaning.specs.declared.Columns.{Columns}
use Rattle.cq_meaning.specs.Values.{Row, Results, Tables, result_at}
use Rattle.cq_meaning.specs.Queries.{meaning}
use Rattle.cq_meaning.specs.Limits.{is_large}
use Rattle.cq_meaning.specs.Results.{ins_in, ins_in_from, ins_in_all, ins_in_ctes, count_of, with_ins, with_ins_from, with_ins_all, with_ctes, results_of}
use Rattle.cq_meaning.specs.Widths.{AllWithin, Holds}
use Rattle.cq_meaning_laws.specs.WholeRules.{Step, steps_in, steps_in_from, steps_in_all, steps_in_ctes, steps_of, no_results, with_step, with_steps, has_large_step, AreSafeSteps, IsBoundStep, IsBoundStatement, IsSafeTogether, AreTablesWithin, ResultsInSteps, StatementsFit}
use Rattle.cq_meaning_laws.proofs.SafeLaws.{safe_query, query_fits, safe_together, together_weaker}

-- the results of a statement are those of its steps

module _ (db : Tables) where
  pub steps_append : (results : Results) (xs ys : List Step) → with_steps db results (xs ++ ys) ≡ with_steps db (with_steps db results xs) ys
  steps_append results [] ys = refl
  steps_append results (x ∷ xs) ys = steps_append (with_step db results x) xs ys

  -- two runs of steps, one behind the other
  two : (results : Results) (xs ys : List Step) (us vs : Results) → us ≡ with_steps db results xs → vs ≡ with_steps db us ys → vs ≡ with_steps db results (xs ++ ys)
  two results xs ys us vs e f = let g = steps_append results xs ys in rw (g, ← e) f

  mutual
    pub ins_in_steps : (q : Query) (k : ℕ) (rs : Results) → with_ins q db k rs ≡ with_steps db rs (steps_in k q)
    ins_in_steps (Query' cs ctes ss subs from filter_ grouped keys aggs having items shown distinct order limit offset names) k rs =
        two rs (steps_in_from k from) (steps_in_all (k + ins_in_from from) subs) (with_ins_from from db k rs) (with_ins_all subs db (k + ins_in_from from) (with_ins_from from db k rs))
        (from_in_steps from k rs) (all_in_steps subs (k + ins_in_from from) (with_ins_from from db k rs))

    pub from_in_steps : (f : FromTree) (k : ℕ) (rs : Results) → with_ins_from f db k rs ≡ with_steps db rs (steps_in_from k f)
    from_in_steps (Table t n) k rs = refl
    from_in_steps (Sub' p (more_of-Query q end_of-Query)) k rs = ins_in_steps q k rs
    from_in_steps (Result i n) k rs = refl
    from_in_steps (Cross' p (more_of-FromTree a end_of-FromTree) q (more_of-FromTree b end_of-FromTree)) k rs =
        two rs (steps_in_from k a) (steps_in_from (k + ins_in_from a) b) (with_ins_from a db k rs) (with_ins_from b db (k + ins_in_from a) (with_ins_from a db k rs))
        (from_in_steps a k rs) (from_in_steps b (k + ins_in_from a) (with_ins_from a db k rs))
    from_in_steps (Inner' p (more_of-FromTree a end_of-FromTree) q (more_of-FromTree b end_of-FromTree) on) k rs =
        two rs (steps_in_from k a) (steps_in_from (k + ins_in_from a) b) (with_ins_from a db k rs) (with_ins_from b db (k + ins_in_from a) (with_ins_from a db k rs))
        (from_in_steps a k rs) (from_in_steps b (k + ins_in_from a) (with_ins_from a db k rs))
    from_in_steps (Left' p (more_of-FromTree a end_of-FromTree) q (more_of-FromTree b end_of-FromTree) on) k rs =
        two rs (steps_in_from k a) (steps_in_from (k + ins_in_from a) b) (with_ins_from a db k rs) (with_ins_from b db (k + ins_in_from a) (with_ins_from a db k rs))
        (from_in_steps a k rs) (from_in_steps b (k + ins_in_from a) (with_ins_from a db k rs))

    pub all_in_steps : {n : _} (qs : Row_of-Query n) (k : ℕ) (rs : Results) → with_ins_all qs db k rs ≡ with_steps db rs (steps_in_all k qs)
    all_in_steps end_of-Query k rs = refl
    all_in_steps (more_of-Query q more) k rs =
        let us : Results = with_ins q db (k + 1) rs in
        let vs : Results = slice_set us k (meaning q db us) in
        two rs (steps_in (k + 1) q) (record { number = k; query = q } ∷ steps_in_all (k + 1 + ins_in q) more) us (with_ins_all more db (k + 1 + ins_in q) vs)
        (ins_in_steps q (k + 1) rs) (all_in_steps more (k + 1 + ins_in q) vs)

  pub ctes_in_steps : {n : _} (qs : Row_of-Query n) (i k : ℕ) (rs : Results) → with_ctes qs db i k rs ≡ with_steps db rs (steps_in_ctes i k qs)
  ctes_in_steps end_of-Query i k rs = refl
  ctes_in_steps (more_of-Query q more) i k rs =
      let us : Results = with_ins q db k rs in
      let vs : Results = slice_set us i (meaning q db us) in
      two rs (steps_in k q) (record { number = i; query = q } ∷ steps_in_ctes (i + 1) (k + ins_in q) more) us (with_ctes more db (i + 1) (k + ins_in q) vs)
      (ins_in_steps q k rs) (ctes_in_steps more (i + 1) (k + ins_in q) vs)

-- how many steps there are

both : (xs ys : List Step) (m n : ℕ) → length xs ≡ m → length ys ≡ n → length (xs ++ ys) ≡ m + n
both xs ys m n e f = omega (arith, length-append xs ys, e, f)

behind : (xs : List Step) (s : Step) (ys : List Step) (m n : ℕ) → length xs ≡ m → length ys ≡ n → length (xs ++ (s ∷ ys)) ≡ 1 + m + n
behind xs s ys m n e f = omega (arith, length-append xs (s ∷ ys), e, f)

mutual
  length_in : (q : Query) (k : ℕ) → length (steps_in k q) ≡ ins_in q
  length_in (Query' cs ctes ss subs from filter_ grouped keys aggs having items shown distinct order limit offset names) k =
      both (steps_in_from k from) (steps_in_all (k + ins_in_from from) subs) (ins_in_from from) (ins_in_all subs) (length_from from k) (length_all subs (k + ins_in_from from))

  length_from : (f : FromTree) (k : ℕ) → length (steps_in_from k f) ≡ ins_in_from f
  length_from (Table t n) k = refl
  length_from (Sub' p (more_of-Query q end_of-Query)) k = length_in q k
  length_from (Result i n) k = refl
  length_from (Cross' p (more_of-FromTree a end_of-FromTree) q (more_of-FromTree b end_of-FromTree)) k =
      both (steps_in_from k a) (steps_in_from (k + ins_in_from a) b) (ins_in_from a) (ins_in_from b) (length_from a k) (length_from b (k + ins_in_from a))
  length_from (Inner' p (more_of-FromTree a end_of-FromTree) q (more_of-FromTree b end_of-FromTree) on) k =
      both (steps_in_from k a) (steps_in_from (k + ins_in_from a) b) (ins_in_from a) (ins_in_from b) (length_from a k) (length_from b (k + ins_in_from a))
  length_from (Left' p (more_of-FromTree a end_of-FromTree) q (more_of-FromTree b end_of-FromTree) on) k =
      both (steps_in_from k a) (steps_in_from (k + ins_in_from a) b) (ins_in_from a) (ins_in_from b) (length_from a k) (length_from b (k + ins_in_from a))

  length_all : {n : _} (qs : Row_of-Query n) (k : ℕ) → length (steps_in_all k qs) ≡ ins_in_all qs
  length_all end_of-Query k = refl
  length_all (more_of-Query q more) k = behind (steps_in (k + 1) q) (record { number = k; query = q }) (steps_in_all (k + 1 + ins_in q) more) (ins_in q) (ins_in_all more) (length_in q (k + 1)) (length_all more (k + 1 + ins_in q))

length_ctes : {n : _} (qs : Row_of-Query n) (i k : ℕ) → length (steps_in_ctes i k qs) ≡ count_of qs + ins_in_ctes qs
length_ctes end_of-Query i k = refl
length_ctes (more_of-Query q more) i k =
    let e = behind (steps_in k q) (record { number = i; query = q }) (steps_in_ctes (i + 1) (k + ins_in q) more) (ins_in q) (count_of more + ins_in_ctes more) (length_in q k) (length_ctes more (i + 1) (k + ins_in q)) in
    omega (arith, e)

-- how many results a statement has
abbrev count_in : Query → ℕ
count_in (Query' cs ctes ss subs from filter_ grouped keys aggs having items shown distinct order limit offset names) =
    count_of ctes + ins_in_ctes ctes + ins_in_from from + ins_in_all subs

length_of : (q : Query) → length (steps_of q) ≡ count_in q
length_of (Query' cs ctes ss subs from filter_ grouped keys aggs having items shown distinct order limit offset names) =
    let n : ℕ = count_of ctes in
    let m : ℕ = n + ins_in_ctes ctes in
    let xs : List Step = steps_in_ctes 0 n ctes in
    let ys : List Step = steps_in_from m from in
    let zs : List Step = steps_in_all (m + ins_in_from from) subs in
    omega (arith, length-append xs (ys ++ zs), length-append ys zs, length_ctes ctes 0 n, length_from from m, length_all subs (m + ins_in_from from))

pub results_in_steps : ResultsInSteps
results_in_steps db (Query' cs ctes ss subs from filter_ grouped keys aggs having items shown distinct order limit offset names) =
    let q : Query = Query' cs ctes ss subs from filter_ grouped keys aggs having items shown distinct order limit offset names in
    let n : ℕ = count_of ctes in
    let m : ℕ = n + ins_in_ctes ctes in
    let rs : Results = replicate (count_in q) [] in
    let us : Results = with_ctes ctes db 0 n rs in
    let vs : Results = with_ins_from from db m us in
    let ws : Results = with_ins_all subs db (m + ins_in_from from) vs in
    let xs : List Step = steps_in_ctes 0 n ctes in
    let ys : List Step = steps_in_from m from in
    let zs : List Step = steps_in_all (m + ins_in_from from) subs in
    subst (λ c. ws ≡ with_steps db (replicate c []) (xs ++ (ys ++ zs))) (sym (length_of q))
    (two db rs xs (ys ++ zs) us ws (ctes_in_steps db ctes 0 n rs)
    (two db us ys zs vs ws (from_in_steps db from m us) (all_in_steps db subs (m + ins_in_from from) vs)))

-- a result is replaced by rows within its widths

within_set : (bits : List (List ℕ)) (rs : Results) (k : ℕ) (rows : List Row) → AllWithin (slice_index_or bits k []) rows →
    ((i : ℕ) → AllWithin (slice_index_or bits i []) (result_at rs i)) → (i : ℕ) → AllWithin (slice_index_or bits i []) (result_at (slice_set rs k rows) i)
within_set bits [] k rows h w i = w i
within_set [] (r ∷ rs) zero rows h w zero = h
within_set (b ∷ bits) (r ∷ rs) zero rows h w zero = h
within_set bits (r ∷ rs) zero rows h w (suc i) = w (suc i)
within_set bits (r ∷ rs) (suc k) rows h w zero = w zero
within_set [] (r ∷ rs) (suc k) rows h w (suc i) = within_set [] rs k rows h (λ j. w (suc j)) i
within_set (b ∷ bits) (r ∷ rs) (suc k) rows h w (suc i) = within_set bits rs k rows h (λ j. w (suc j)) i

no_row : (n i : ℕ) → result_at (replicate n []) i ≡ []
no_row zero i = refl
no_row (suc n) zero = refl
no_row (suc n) (suc i) = no_row n i

module _ (cs : Columns) (db : Tables) where
  pub holds_at_first : AreTablesWithin cs db → (n : ℕ) → length cs.results ≡ n → Holds cs db (replicate n [])
  holds_at_first tables n e = record {
    in_tables = tables;
    in_results = λ i. subst (AllWithin (slice_index_or cs.results i [])) (sym (no_row n i)) tt;
    counted = length-replicate n [] ∙ sym e;
  }

  pub holds_with_step : (rs : Results) (s : Step) → Holds cs db rs → IsBoundStep cs s → is_large s.query db rs ≡ false → Holds cs db (with_step db rs s)
  holds_with_step rs s h b small = record {
    in_tables = h.in_tables;
    in_results = within_set cs.results rs s.number (meaning s.query db rs) (subst (λ ks. AllWithin ks (meaning s.query db rs)) (sym b.1) (query_fits cs db rs h s.query b.0 small)) h.in_results;
    counted = length-set rs s.number (meaning s.query db rs) ∙ h.counted;
  }

  pub holds_with_steps : (rs : Results) (steps : List Step) → Holds cs db rs → AllByRecursion (IsBoundStep cs) steps → has_large_step db rs steps ≡ false → Holds cs db (with_steps db rs steps)
  holds_with_steps rs [] h b small = h
  holds_with_steps rs (s ∷ more) h b small =
      let e = or_neither (is_large s.query db rs) (has_large_step db (with_step db rs s) more) small in
      holds_with_steps (with_step db rs s) more (holds_with_step rs s h b.0 e.0) b.1 e.1

  pub safe_steps : (rs : Results) (steps : List Step) → Holds cs db rs → AllByRecursion (IsBoundStep cs) steps → AreSafeSteps db rs steps
  safe_steps rs [] h b = tt
  safe_steps rs (s ∷ more) h b = (safe_query cs db rs h s.query b.0.0, λ small. safe_steps (with_step db rs s) more (holds_with_step rs s h b.0 small) b.1)

-- a statement without CTEs and IN subqueries is safe over the rows of several databases
pub fit_together : (cs : Columns) (q : Query) → IsBoundStatement cs q → steps_of q ≡ [] → (dbs : List Tables) → IsSafeTogether (AreTablesWithin cs) q [] dbs
fit_together cs q b simple dbs =
    let none : length cs.results ≡ 0 = b.2 ∙ ap length simple in
    together_weaker (λ db. Holds cs db []) (AreTablesWithin cs) (λ db tables. holds_at_first cs db tables 0 none) q [] dbs (safe_together cs q [] dbs b.0 (sym none))

pub statements_fit : StatementsFit
statements_fit cs db q tables b =
    let h : Holds cs db (no_results q) = holds_at_first cs db tables (length (steps_of q)) b.2 in (
      safe_steps cs db (no_results q) (steps_of q) h b.1,
      λ small.
          let w : Holds cs db (results_of q db) = subst (Holds cs db) (sym (results_in_steps db q)) (holds_with_steps cs db (no_results q) (steps_of q) h b.1 small) in
          (w, safe_query cs db (results_of q db) w q b.0, query_fits cs db (results_of q db) w q b.0),
    )
