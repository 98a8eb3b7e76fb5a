-- The numbers of a statement's steps are below their count, and what stands in its schedule.
use Rattle.std.proofs.Common.{◌≡◌, ℕ, ◌+◌, ◌<◌, ◌≤◌, List, [], ◌∷◌, ◌++◌, length, replicate, refl, sym, ap, subst, ◌∙◌, arith}
use Rattle.std.specs.List.{AllByRecursion}
use Rattle.std.proofs.lemmas.List.{length-set, length-replicate}
use Rattle.cq_tree.specs.declared.query.FromTree.{FromTree, Table, Sub', Result, Cross', Inner', Left', more_of-FromTree, end_of-FromTree}
use Rattle.cq_tree.specs.declared.query.Query.{Query, Query', out-Query, Row_of-Query, end_of-Query, more_of-Query}
use Rattle.cq_meaning.specs.Values.{Results, Tables}
use Rattle.cq_meaning.specs.Queries.{meaning}
use Rattle.cq_meaning.specs.Results.{ins_in, ins_in_from, ins_in_all, ins_in_ctes, count_of, with_ins_from, with_ctes, results_of}
use Rattle.cq_meaning_laws.specs.WholeRules.{Step, steps_in, steps_in_from, steps_in_all, steps_in_ctes, steps_of, no_results, with_step, with_steps, has_large_step, AreSafeSteps}
use Rattle.cq_meaning_laws.proofs.WholeLaws.{from_in_steps, all_in_steps, ctes_in_steps, results_in_steps}
use Rattle.cq_whole.specs.StepLists.{ins_in_cte_list, steps_in_cte_list}
use Rattle.cq_whole.proofs.Nodes.{count_in, count_whole, steps_whole}

-- the number of a step is among so many
abbrev pub IsPlaced : ℕ → Step → Type 0
IsPlaced n s = s.number < n

placed_both : (n : ℕ) (xs ys : List Step) → AllByRecursion (IsPlaced n) xs → AllByRecursion (IsPlaced n) ys → AllByRecursion (IsPlaced n) (xs ++ ys)
placed_both n [] ys p q = q
placed_both n (x ∷ xs) ys p q = (p.0, placed_both n xs ys p.1 q)

mutual
  placed_in : (n k : ℕ) (q : Query) → k + ins_in q ≤ n → AllByRecursion (IsPlaced n) (steps_in k q)
  placed_in n k (Query' cs ctes ss subs from filter_ grouped keys aggs having items shown distinct order limit offset names) h =
      let f : k + ins_in_from from ≤ n = omega (arith, h) in
      let s : k + ins_in_from from + ins_in_all subs ≤ n = omega (arith, h) in
      placed_both n (steps_in_from k from) (steps_in_all (k + ins_in_from from) subs) (placed_from n k from f) (placed_all n (k + ins_in_from from) subs s)

  placed_from : (n k : ℕ) (f : FromTree) → k + ins_in_from f ≤ n → AllByRecursion (IsPlaced n) (steps_in_from k f)
  placed_from n k (Table t c) h = tt
  placed_from n k (Sub' p (more_of-Query q end_of-Query)) h = placed_in n k q h
  placed_from n k (Result i c) h = tt
  placed_from n k (Cross' p (more_of-FromTree a end_of-FromTree) q (more_of-FromTree b end_of-FromTree)) h =
      let l : k + ins_in_from a ≤ n = omega (arith, h) in
      let r : k + ins_in_from a + ins_in_from b ≤ n = omega (arith, h) in
      placed_both n (steps_in_from k a) (steps_in_from (k + ins_in_from a) b) (placed_from n k a l) (placed_from n (k + ins_in_from a) b r)
  placed_from n k (Inner' p (more_of-FromTree a end_of-FromTree) q (more_of-FromTree b end_of-FromTree) on) h =
      let l : k + ins_in_from a ≤ n = omega (arith, h) in
      let r : k + ins_in_from a + ins_in_from b ≤ n = omega (arith, h) in
      placed_both n (steps_in_from k a) (steps_in_from (k + ins_in_from a) b) (placed_from n k a l) (placed_from n (k + ins_in_from a) b r)
  placed_from n k (Left' p (more_of-FromTree a end_of-FromTree) q (more_of-FromTree b end_of-FromTree) on) h =
      let l : k + ins_in_from a ≤ n = omega (arith, h) in
      let r : k + ins_in_from a + ins_in_from b ≤ n = omega (arith, h) in
      placed_both n (steps_in_from k a) (steps_in_from (k + ins_in_from a) b) (placed_from n k a l) (placed_from n (k + ins_in_from a) b r)

  placed_all : (n k : ℕ) {m : _} (qs : Row_of-Query m) → k + ins_in_all qs ≤ n → AllByRecursion (IsPlaced n) (steps_in_all k qs)
  placed_all n k end_of-Query h = tt
  placed_all n k (more_of-Query q more) h =
      let here : k < n = omega (arith, h) in
      let l : k + 1 + ins_in q ≤ n = omega (arith, h) in
      let r : k + 1 + ins_in q + ins_in_all more ≤ n = omega (arith, h) in
      placed_both n (steps_in (k + 1) q) (record { number = k; query = q } ∷ steps_in_all (k + 1 + ins_in q) more) (placed_in n (k + 1) q l) (here, placed_all n (k + 1 + ins_in q) more r)

placed_ctes : (n i k : ℕ) {m : _} (qs : Row_of-Query m) → i + count_of qs ≤ n → k + ins_in_ctes qs ≤ n → AllByRecursion (IsPlaced n) (steps_in_ctes i k qs)
placed_ctes n i k end_of-Query g h = tt
placed_ctes n i k (more_of-Query q more) g h =
    let here : i < n = omega (arith, g) in
    let next : i + 1 + count_of more ≤ n = omega (arith, g) in
    let l : k + ins_in q ≤ n = omega (arith, h) in
    let r : k + ins_in q + ins_in_ctes more ≤ n = omega (arith, h) in
    placed_both n (steps_in k q) (record { number = i; query = q } ∷ steps_in_ctes (i + 1) (k + ins_in q) more) (placed_in n k q l) (here, placed_ctes n (i + 1) (k + ins_in q) more next r)

-- steps leave the count of results
length_after : (db : Tables) (rs : Results) (steps : List Step) → length (with_steps db rs steps) ≡ length rs
length_after db rs [] = refl
length_after db rs (s ∷ more) = length_after db (with_step db rs s) more ∙ length-set rs s.number (meaning s.query db rs)

length_results : (q : Query) → length (results_of q []) ≡ count_in q
length_results (Query' cs ctes ss subs from filter_ grouped keys aggs having items shown distinct order limit offset names) =
    let n : ℕ = count_of ctes in
    let m : ℕ = n + ins_in_ctes ctes in
    let rs : Results = replicate (m + ins_in_from from + ins_in_all subs) [] in
    let us : Results = with_ctes ctes [] 0 n rs in
    let vs : Results = with_ins_from from [] m us in
    ap length (all_in_steps [] subs (m + ins_in_from from) vs) ∙ length_after [] vs (steps_in_all (m + ins_in_from from) subs)
    ∙ (ap length (from_in_steps [] from m us) ∙ length_after [] us (steps_in_from m from)
    ∙ (ap length (ctes_in_steps [] ctes 0 n rs) ∙ length_after [] rs (steps_in_ctes 0 n ctes) ∙ length-replicate (m + ins_in_from from + ins_in_all subs) []))

pub length_of : (q : Query) → length (steps_of q) ≡ count_in q
length_of q =
    sym (length-replicate (length (steps_of q)) [])
    ∙ (sym (length_after [] (no_results q) (steps_of q)) ∙ (ap length (sym (results_in_steps [] q)) ∙ length_results q))

pub placed_of : (q : Query) → AllByRecursion (IsPlaced (length (no_results q))) (steps_of q)
placed_of q = subst (λ n. AllByRecursion (IsPlaced n) (steps_of q)) (sym (length_of q) ∙ sym (length-replicate (length (steps_of q)) [])) (counted q)
  where
    counted : (q : Query) → AllByRecursion (IsPlaced (count_in q)) (steps_of q)
    counted (Query' cs ctes ss subs from filter_ grouped keys aggs having items shown distinct order limit offset names) =
        let n : ℕ = count_of ctes in
        let m : ℕ = n + ins_in_ctes ctes in
        let all : ℕ = m + ins_in_from from + ins_in_all subs in
        let c : 0 + n ≤ all = omega arith in
        let i : m ≤ all = omega arith in
        let f : m + ins_in_from from ≤ all = omega arith in
        let s : m + ins_in_from from + ins_in_all subs ≤ all = omega arith in
        placed_both all (steps_in_ctes 0 n ctes) (steps_in_from m from ++ steps_in_all (m + ins_in_from from) subs) (placed_ctes all 0 n ctes c i)
        (placed_both all (steps_in_from m from) (steps_in_all (m + ins_in_from from) subs) (placed_from all m from f) (placed_all all (m + ins_in_from from) subs s))

-- ---- what is put into the schedule

pub schedule_steps : (q : Query) (s1 s2 : List Step) (n1 n2 : ℕ) → n1 ≡ length (out-Query q).ctes → s1 ≡ steps_in_cte_list 0 n1 (out-Query q).ctes →
    n2 ≡ n1 + ins_in_cte_list (out-Query q).ctes → s2 ≡ s1 ++ steps_in n2 q → s2 ≡ steps_of q
schedule_steps q s1 s2 n1 n2 e1 f1 e2 f2 =
    let n : ℕ = length (out-Query q).ctes in
    let m2 : n2 ≡ n + ins_in_cte_list (out-Query q).ctes = omega (arith, e1, e2) in
    f2
    ∙ (ap (λ (us : List Step). us ++ steps_in n2 q) (f1 ∙ ap (λ k. steps_in_cte_list 0 k (out-Query q).ctes) e1)
    ∙ (ap (λ k. steps_in_cte_list 0 n (out-Query q).ctes ++ steps_in k q) m2 ∙ sym (steps_whole q)))

pub schedule_count : (q : Query) (n1 n2 n3 : ℕ) → n1 ≡ length (out-Query q).ctes → n2 ≡ n1 + ins_in_cte_list (out-Query q).ctes → n3 ≡ n2 + ins_in q → n3 ≡ length (steps_of q)
schedule_count q n1 n2 n3 e1 e2 e3 = omega (arith, e1, e2, e3, count_whole q, length_of q)

-- ---- what is computed over it

module _ (db : Tables) (q : Query) (steps : List Step) (places : Results) (e : steps ≡ steps_of q) (f : places ≡ no_results q) where
  pub schedule_safe : AreSafeSteps db (no_results q) (steps_of q) → AreSafeSteps db places steps
  schedule_safe h = subst (λ (us : List Step). AreSafeSteps db places us) (sym e) (subst (λ (rs : Results). AreSafeSteps db rs (steps_of q)) (sym f) h)

  pub schedule_placed : AllByRecursion (IsPlaced (length places)) steps
  schedule_placed = subst (λ (us : List Step). AllByRecursion (IsPlaced (length places)) us) (sym e) (subst (λ (rs : Results). AllByRecursion (IsPlaced (length rs)) (steps_of q)) (sym f) (placed_of q))

  pub schedule_results : (rs : Results) → rs ≡ with_steps db places steps → rs ≡ results_of q db
  schedule_results rs g = g ∙ ((λ i. with_steps db (f i) (e i)) ∙ sym (results_in_steps db q))

  pub schedule_large : has_large_step db (no_results q) (steps_of q) ≡ has_large_step db places steps
  schedule_large = sym (λ i. has_large_step db (f i) (e i))
