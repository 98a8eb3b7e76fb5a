-- What holds of each block of a statement holds of the query of each of its steps.
use Rattle.std.specs.Prelude.{ℕ, ◌+◌, ◌∷◌, ◌++◌}
use Rattle.std.specs.List.{AllByRecursion}
use Rattle.cq_value.proofs.Lists.{all_append, all_left, all_right}
use Rattle.cq_tree.specs.declared.query.FromTree.{FromTree, Table, Sub', Result, Cross', Inner', Left', more_of-FromTree, end_of-FromTree}
use Rattle.cq_tree.specs.declared.query.Query.{Query, Query', Row_of-Query, end_of-Query, more_of-Query}
use Rattle.cq_meaning.specs.Results.{ins_in, ins_in_from, ins_in_ctes, count_of}
use Rattle.cq_meaning_laws.specs.WholeRules.{Step, steps_in, steps_in_from, steps_in_all, steps_in_ctes, steps_of}
use Rattle.cq_planning.specs.Occurrences.{ins_of, ins_of_from, ins_of_all, with_ins, all_with_ins, blocks_of}

module _ (P : Query → Type 0) where
  abbrev OfStep : Step → Type 0
  OfStep s = P s.query

  mutual
    in_steps : (k : ℕ) (q : Query) → AllByRecursion P (ins_of q) → AllByRecursion OfStep (steps_in k q)
    in_steps k (Query' cs ctes ss subs from filter_ grouped keys aggs having items shown distinct order limit offset names) h =
        all_append OfStep (steps_in_from k from) (steps_in_all (k + ins_in_from from) subs)
        (in_from k from (all_left P (ins_of_from from) (ins_of_all subs) h)) (in_all (k + ins_in_from from) subs (all_right P (ins_of_from from) (ins_of_all subs) h))

    in_from : (k : ℕ) (f : FromTree) → AllByRecursion P (ins_of_from f) → AllByRecursion OfStep (steps_in_from k f)
    in_from k (Table t n) h = tt
    in_from k (Sub' p (more_of-Query q end_of-Query)) h = in_steps k q h
    in_from k (Result i n) h = tt
    in_from k (Cross' p (more_of-FromTree a end_of-FromTree) q (more_of-FromTree b end_of-FromTree)) h =
        all_append OfStep (steps_in_from k a) (steps_in_from (k + ins_in_from a) b) (in_from k a (all_left P (ins_of_from a) (ins_of_from b) h)) (in_from (k + ins_in_from a) b (all_right P (ins_of_from a) (ins_of_from b) h))
    in_from k (Inner' p (more_of-FromTree a end_of-FromTree) q (more_of-FromTree b end_of-FromTree) on) h =
        all_append OfStep (steps_in_from k a) (steps_in_from (k + ins_in_from a) b) (in_from k a (all_left P (ins_of_from a) (ins_of_from b) h)) (in_from (k + ins_in_from a) b (all_right P (ins_of_from a) (ins_of_from b) h))
    in_from k (Left' p (more_of-FromTree a end_of-FromTree) q (more_of-FromTree b end_of-FromTree) on) h =
        all_append OfStep (steps_in_from k a) (steps_in_from (k + ins_in_from a) b) (in_from k a (all_left P (ins_of_from a) (ins_of_from b) h)) (in_from (k + ins_in_from a) b (all_right P (ins_of_from a) (ins_of_from b) h))

    in_all : {n : _} (k : ℕ) (subs : Row_of-Query n) → AllByRecursion P (ins_of_all subs) → AllByRecursion OfStep (steps_in_all k subs)
    in_all k end_of-Query h = tt
    in_all k (more_of-Query q more) h =
        all_append OfStep (steps_in (k + 1) q) (record { number = k; query = q } ∷ steps_in_all (k + 1 + ins_in q) more)
        (in_steps (k + 1) q (all_left P (ins_of q) (ins_of_all more) h.1)) (h.0, in_all (k + 1 + ins_in q) more (all_right P (ins_of q) (ins_of_all more) h.1))

  in_ctes : {n : _} (i k : ℕ) (ctes : Row_of-Query n) → AllByRecursion P (all_with_ins ctes) → AllByRecursion OfStep (steps_in_ctes i k ctes)
  in_ctes i k end_of-Query h = tt
  in_ctes i k (more_of-Query q more) h =
      all_append OfStep (steps_in k q) (record { number = i; query = q } ∷ steps_in_ctes (i + 1) (k + ins_in q) more)
      (in_steps k q (all_left P (ins_of q) (all_with_ins more) h.1)) (h.0, in_ctes (i + 1) (k + ins_in q) more (all_right P (ins_of q) (all_with_ins more) h.1))

  pub in_statement : (q : Query) → AllByRecursion P (blocks_of q) → P q × AllByRecursion OfStep (steps_of q)
  in_statement (Query' cs ctes ss subs from filter_ grouped keys aggs having items shown distinct order limit offset names) h =
      let own = all_right P (all_with_ins ctes) (with_ins (Query' cs ctes ss subs from filter_ grouped keys aggs having items shown distinct order limit offset names)) h in
      let n : ℕ = count_of ctes in
      let m : ℕ = n + ins_in_ctes ctes in (
        own.0,
        all_append OfStep (steps_in_ctes 0 n ctes) (steps_in_from m from ++ steps_in_all (m + ins_in_from from) subs)
            (in_ctes 0 n ctes (all_left P (all_with_ins ctes) (with_ins (Query' cs ctes ss subs from filter_ grouped keys aggs having items shown distinct order limit offset names)) h))
            (all_append OfStep (steps_in_from m from) (steps_in_all (m + ins_in_from from) subs)
            (in_from m from (all_left P (ins_of_from from) (ins_of_all subs) own.1)) (in_all (m + ins_in_from from) subs (all_right P (ins_of_from from) (ins_of_all subs) own.1))),
      )
