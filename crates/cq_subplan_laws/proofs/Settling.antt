-- Each step of a statement that is settled is settled.
use Rattle.std.proofs.Common.{ℕ, ◌+◌, List, [], ◌∷◌, ◌++◌}
use Rattle.std.specs.List.{AllByRecursion}
use Rattle.cq_tree.specs.declared.query.FromTree.{FromTree, Table, Sub', Result, Cross', Inner', Left', more_of-FromTree, end_of-FromTree}
use Rattle.cq_tree.specs.declared.query.Query.{Query, Query', Row_of-Query, end_of-Query, more_of-Query}
use Rattle.cq_meaning.specs.Results.{ins_in, ins_in_from, ins_in_ctes, count_of}
use Rattle.cq_meaning_laws.specs.Settled.{IsSettled, IsSettledBelow, AreSettledIns, AreSettledInsFrom, AreSettledInsAll, AllSettled}
use Rattle.cq_meaning_laws.specs.WholeRules.{Step, steps_in, steps_in_from, steps_in_all, steps_in_ctes, steps_of}

abbrev pub AreSettled : List Step → Type 0
AreSettled steps = AllByRecursion (λ s. IsSettled s.query) steps

both : (xs ys : List Step) → AreSettled xs → AreSettled ys → AreSettled (xs ++ ys)
both [] ys h k = k
both (x ∷ xs) ys h k = (h.0, both xs ys h.1 k)

mutual
  in_query : (q : Query) → AreSettledIns q → (k : ℕ) → AreSettled (steps_in k q)
  in_query (Query' cs ctes ss subs from filter_ grouped keys aggs having items shown distinct order limit offset names) h k =
      both (steps_in_from k from) (steps_in_all (k + ins_in_from from) subs) (in_from from h.0 k) (in_all subs h.1 (k + ins_in_from from))

  in_from : (f : FromTree) → AreSettledInsFrom f → (k : ℕ) → AreSettled (steps_in_from k f)
  in_from (Table t n) h k = tt
  in_from (Sub' p (more_of-Query q end_of-Query)) h k = in_query q h k
  in_from (Result i n) h k = tt
  in_from (Cross' p (more_of-FromTree a end_of-FromTree) q (more_of-FromTree b end_of-FromTree)) h k = both (steps_in_from k a) (steps_in_from (k + ins_in_from a) b) (in_from a h.0 k) (in_from b h.1 (k + ins_in_from a))
  in_from (Inner' p (more_of-FromTree a end_of-FromTree) q (more_of-FromTree b end_of-FromTree) on) h k = both (steps_in_from k a) (steps_in_from (k + ins_in_from a) b) (in_from a h.0 k) (in_from b h.1 (k + ins_in_from a))
  in_from (Left' p (more_of-FromTree a end_of-FromTree) q (more_of-FromTree b end_of-FromTree) on) h k = both (steps_in_from k a) (steps_in_from (k + ins_in_from a) b) (in_from a h.0 k) (in_from b h.1 (k + ins_in_from a))

  in_all : {n : _} (qs : Row_of-Query n) → AreSettledInsAll qs → (k : ℕ) → AreSettled (steps_in_all k qs)
  in_all end_of-Query h k = tt
  in_all (more_of-Query q more) h k = both (steps_in (k + 1) q) (record { number = k; query = q } ∷ steps_in_all (k + 1 + ins_in q) more) (in_query q h.0 (k + 1)) (h.1, in_all more h.2 (k + 1 + ins_in q))

in_ctes : {n : _} (qs : Row_of-Query n) → AreSettledInsAll qs → (i k : ℕ) → AreSettled (steps_in_ctes i k qs)
in_ctes end_of-Query h i k = tt
in_ctes (more_of-Query q more) h i k = both (steps_in k q) (record { number = i; query = q } ∷ steps_in_ctes (i + 1) (k + ins_in q) more) (in_query q h.0 k) (h.1, in_ctes more h.2 (i + 1) (k + ins_in q))

pub settled_steps : (q : Query) → AllSettled q → AreSettled (steps_of q)
settled_steps (Query' cs ctes ss subs from filter_ grouped keys aggs having items shown distinct order limit offset names) h =
    let n : ℕ = count_of ctes in
    let m : ℕ = n + ins_in_ctes ctes in
    both (steps_in_ctes 0 n ctes) (steps_in_from m from ++ steps_in_all (m + ins_in_from from) subs) (in_ctes ctes h.0 0 n)
    (both (steps_in_from m from) (steps_in_all (m + ins_in_from from) subs) (in_from from h.1 m) (in_all subs h.2 (m + ins_in_from from)))

pub below : (q : Query) → IsSettled q → IsSettledBelow q
below (Query' cs ctes ss subs from filter_ grouped keys aggs having items shown distinct order limit offset names) h = h.1

pub settled_below : (q : Query) → AllSettled q → IsSettledBelow q
settled_below (Query' cs ctes ss subs from filter_ grouped keys aggs having items shown distinct order limit offset names) h = h.3
