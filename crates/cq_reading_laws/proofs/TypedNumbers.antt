-- The numbers of IN subqueries are those by which they are computed.
use Rattle.std.proofs.Common.{◌≡◌, ℕ, ◌+◌, List, [], ◌∷◌, ◌++◌, length, refl, subst, arith}
use Rattle.std.specs.List.{AllByRecursion}
use Rattle.cq_value.proofs.Lists.{all_append}
use Rattle.cq_tree.specs.declared.query.FromTree.{FromTree, Table, Sub', Result, Cross', Inner', Left', more_of-FromTree, end_of-FromTree}
use Rattle.cq_tree.specs.declared.query.Query.{Query, Query', Row_of-Query, end_of-Query, more_of-Query}
use Rattle.cq_meaning.specs.Results.{ins_in, ins_in_from, ins_in_all}
use Rattle.cq_meaning_laws.specs.WholeRules.{Step, steps_in, steps_in_from, steps_in_all}
use Rattle.cq_reading.specs.Widths.{ValueType}
use Rattle.cq_reading_laws.specs.TypedQueries.{Types, results_in, results_in_from, results_in_row, HaveResults}
use Rattle.cq_reading_laws.specs.TypingLaws.{HasResult, ResultsNumbered}
use Rattle.cq_reading_laws.proofs.TypedKeeping.{append_length, have_first, have_rest}

module _ (cs : Types) where
  added : (xs ys : List (List ValueType)) (m n : ℕ) → length xs ≡ m → length ys ≡ n → length (xs ++ ys) ≡ m + n
  added xs ys m n e f = let l = append_length xs ys in omega (arith, l, e, f)

  mutual
    count_in : (q : Query) → length (results_in cs q) ≡ ins_in q
    count_in (Query' ts ctes ss subs from filter_ grouped keys aggs having items shown distinct order limit offset names) =
        added (results_in_from cs from) (results_in_row cs subs) (ins_in_from from) (ins_in_all subs) (count_from from) (count_row subs)

    count_from : (f : FromTree) → length (results_in_from cs f) ≡ ins_in_from f
    count_from (Table t n) = refl
    count_from (Sub' p (more_of-Query q end_of-Query)) = count_in q
    count_from (Result i n) = refl
    count_from (Cross' p (more_of-FromTree a end_of-FromTree) q (more_of-FromTree b end_of-FromTree)) = added (results_in_from cs a) (results_in_from cs b) (ins_in_from a) (ins_in_from b) (count_from a) (count_from b)
    count_from (Inner' p (more_of-FromTree a end_of-FromTree) q (more_of-FromTree b end_of-FromTree) on) = added (results_in_from cs a) (results_in_from cs b) (ins_in_from a) (ins_in_from b) (count_from a) (count_from b)
    count_from (Left' p (more_of-FromTree a end_of-FromTree) q (more_of-FromTree b end_of-FromTree) on) = added (results_in_from cs a) (results_in_from cs b) (ins_in_from a) (ins_in_from b) (count_from a) (count_from b)

    count_row : {n : _} (qs : Row_of-Query n) → length (results_in_row cs qs) ≡ ins_in_all qs
    count_row end_of-Query = refl
    count_row (more_of-Query q more) =
        let e = added (results_in cs q) (results_in_row cs more) (ins_in q) (ins_in_all more) (count_in q) (count_row more) in
        omega (arith, e)

  -- the one, and behind it the other
  two : (k : ℕ) (xs ys : List (List ValueType)) (m : ℕ) (us vs : List Step) → length xs ≡ m → HaveResults cs k (xs ++ ys) → (HaveResults cs k xs → AllByRecursion (HasResult cs) us)
      → (HaveResults cs (k + m) ys → AllByRecursion (HasResult cs) vs) → AllByRecursion (HasResult cs) (us ++ vs)
  two k xs ys m us vs e h f g = all_append (HasResult cs) us vs (f (have_first cs k xs ys h)) (g (subst (λ n. HaveResults cs (k + n) ys) e (have_rest cs k xs ys h)))

  mutual
    pub steps_have : (q : Query) (k : ℕ) → HaveResults cs k (results_in cs q) → AllByRecursion (HasResult cs) (steps_in k q)
    steps_have (Query' ts ctes ss subs from filter_ grouped keys aggs having items shown distinct order limit offset names) k h =
        two k (results_in_from cs from) (results_in_row cs subs) (ins_in_from from) (steps_in_from k from) (steps_in_all (k + ins_in_from from) subs) (count_from from) h (from_have from k) (row_have subs (k + ins_in_from from))

    from_have : (f : FromTree) (k : ℕ) → HaveResults cs k (results_in_from cs f) → AllByRecursion (HasResult cs) (steps_in_from k f)
    from_have (Table t n) k h = tt
    from_have (Sub' p (more_of-Query q end_of-Query)) k h = steps_have q k h
    from_have (Result i n) k h = tt
    from_have (Cross' p (more_of-FromTree a end_of-FromTree) q (more_of-FromTree b end_of-FromTree)) k h =
        two k (results_in_from cs a) (results_in_from cs b) (ins_in_from a) (steps_in_from k a) (steps_in_from (k + ins_in_from a) b) (count_from a) h (from_have a k) (from_have b (k + ins_in_from a))
    from_have (Inner' p (more_of-FromTree a end_of-FromTree) q (more_of-FromTree b end_of-FromTree) on) k h =
        two k (results_in_from cs a) (results_in_from cs b) (ins_in_from a) (steps_in_from k a) (steps_in_from (k + ins_in_from a) b) (count_from a) h (from_have a k) (from_have b (k + ins_in_from a))
    from_have (Left' p (more_of-FromTree a end_of-FromTree) q (more_of-FromTree b end_of-FromTree) on) k h =
        two k (results_in_from cs a) (results_in_from cs b) (ins_in_from a) (steps_in_from k a) (steps_in_from (k + ins_in_from a) b) (count_from a) h (from_have a k) (from_have b (k + ins_in_from a))

    row_have : {n : _} (qs : Row_of-Query n) (k : ℕ) → HaveResults cs k (results_in_row cs qs) → AllByRecursion (HasResult cs) (steps_in_all k qs)
    row_have end_of-Query k h = tt
    row_have (more_of-Query q more) k h =
        two (k + 1) (results_in cs q) (results_in_row cs more) (ins_in q) (steps_in (k + 1) q) (record { number = k; query = q } ∷ steps_in_all (k + 1 + ins_in q) more) (count_in q) h.1
        (steps_have q (k + 1)) (λ g. (h.0, row_have more (k + 1 + ins_in q) g))

pub results_numbered : ResultsNumbered
results_numbered cs k q = steps_have cs q k
