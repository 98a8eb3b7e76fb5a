-- L1 for a whole statement: the results of its CTEs and IN subqueries, and so its answers.
use Rattle.std.proofs.Common.{ℕ, zero, suc, ◌+◌, List, [], ◌∷◌, replicate}
use Rattle.std.specs.Prelude.{slice_set, ⊤}
use Rattle.cq_tree.specs.declared.query.FromTree.{FromTree, Table, Sub', Result, Cross', Inner', Left', more_of-FromTree, end_of-FromTree}
use Rattle.cq_tree.specs.declared.query.Query.{Query, Query', Row_of-Query, end_of-Query, more_of-Query}
use Rattle.cq_meaning.specs.Values.{Row, Tables, Results}
use Rattle.cq_meaning.specs.Queries.{meaning}
use Rattle.cq_meaning.specs.Results.{ins_in, ins_in_from, ins_in_all, with_ins, with_ins_from, with_ins_all, with_ctes, results_of, count_of, ins_in_ctes, Answers}
use Rattle.cq_meaning.proofs.Reorder.{Reordered, none, same}
use Rattle.cq_meaning_laws.specs.Settled.{AreSettledIns, AreSettledInsFrom, AreSettledInsAll, AllSettled}
use Rattle.cq_meaning_laws.proofs.ResultLaws.{SameResults}
use Rattle.cq_meaning_laws.proofs.OrderFree.{SameTables, mean_again, answers_again}

-- result by result the same rows, in some order
abbrev pub Alike : Results → Results → Type 0
Alike [] [] = ⊤
Alike [] (v ∷ vs) = ⊥
Alike (u ∷ us) [] = ⊥
Alike (u ∷ us) (v ∷ vs) = Reordered u v × Alike us vs

pub alike_at : (us vs : Results) → Alike us vs → SameResults us vs
alike_at [] [] h i = none
alike_at [] (v ∷ vs) h i = absurd h
alike_at (u ∷ us) [] h i = absurd h
alike_at (u ∷ us) (v ∷ vs) h zero = h.0
alike_at (u ∷ us) (v ∷ vs) h (suc i) = alike_at us vs h.1 i

alike_set : (us vs : Results) (k : ℕ) (u v : List Row) → Alike us vs → Reordered u v → Alike (slice_set us k u) (slice_set vs k v)
alike_set [] [] k u v h r = tt
alike_set [] (b ∷ vs) k u v h r = absurd h
alike_set (a ∷ us) [] k u v h r = absurd h
alike_set (a ∷ us) (b ∷ vs) zero u v h r = (r, h.1)
alike_set (a ∷ us) (b ∷ vs) (suc k) u v h r = (h.0, alike_set us vs k u v h.1 r)

alike_itself : (us : Results) → Alike us us
alike_itself [] = tt
alike_itself (u ∷ us) = (same u, alike_itself us)

module _ (db dc : Tables) (tables : SameTables db dc) where
  mutual
    ins_again : (q : Query) → AreSettledIns q → (k : ℕ) (rs ss : Results) → Alike rs ss → Alike (with_ins q db k rs) (with_ins q dc k ss)
    ins_again (Query' cs ctes sc subs from filter_ grouped keys aggs having items shown distinct order limit offset names) h k rs ss a =
        ins_all_again subs h.1 (k + ins_in_from from) (with_ins_from from db k rs) (with_ins_from from dc k ss) (ins_from_again from h.0 k rs ss a)

    ins_from_again : (f : FromTree) → AreSettledInsFrom f → (k : ℕ) (rs ss : Results) → Alike rs ss → Alike (with_ins_from f db k rs) (with_ins_from f dc k ss)
    ins_from_again (Table t n) h k rs ss r = r
    ins_from_again (Sub' p (more_of-Query q end_of-Query)) h k rs ss r = ins_again q h k rs ss r
    ins_from_again (Result i n) h k rs ss r = r
    ins_from_again (Cross' p (more_of-FromTree a end_of-FromTree) q (more_of-FromTree b end_of-FromTree)) h k rs ss r = ins_from_again b h.1 (k + ins_in_from a) (with_ins_from a db k rs) (with_ins_from a dc k ss) (ins_from_again a h.0 k rs ss r)
    ins_from_again (Inner' p (more_of-FromTree a end_of-FromTree) q (more_of-FromTree b end_of-FromTree) on) h k rs ss r = ins_from_again b h.1 (k + ins_in_from a) (with_ins_from a db k rs) (with_ins_from a dc k ss) (ins_from_again a h.0 k rs ss r)
    ins_from_again (Left' p (more_of-FromTree a end_of-FromTree) q (more_of-FromTree b end_of-FromTree) on) h k rs ss r = ins_from_again b h.1 (k + ins_in_from a) (with_ins_from a db k rs) (with_ins_from a dc k ss) (ins_from_again a h.0 k rs ss r)

    ins_all_again : {n : _} (qs : Row_of-Query n) → AreSettledInsAll qs → (k : ℕ) (rs ss : Results) → Alike rs ss → Alike (with_ins_all qs db k rs) (with_ins_all qs dc k ss)
    ins_all_again end_of-Query h k rs ss a = a
    ins_all_again (more_of-Query q more) h k rs ss a =
        let us : Results = with_ins q db (k + 1) rs in
        let vs : Results = with_ins q dc (k + 1) ss in
        let b : Alike us vs = ins_again q h.0 (k + 1) rs ss a in
        ins_all_again more h.2 (k + 1 + ins_in q) (slice_set us k (meaning q db us)) (slice_set vs k (meaning q dc vs))
        (alike_set us vs k (meaning q db us) (meaning q dc vs) b (mean_again db dc us vs tables (alike_at us vs b) q h.1))

  ctes_again : {n : _} (qs : Row_of-Query n) → AreSettledInsAll qs → (i k : ℕ) (rs ss : Results) → Alike rs ss → Alike (with_ctes qs db i k rs) (with_ctes qs dc i k ss)
  ctes_again end_of-Query h i k rs ss a = a
  ctes_again (more_of-Query q more) h i k rs ss a =
      let us : Results = with_ins q db k rs in
      let vs : Results = with_ins q dc k ss in
      let b : Alike us vs = ins_again q h.0 k rs ss a in
      ctes_again more h.2 (i + 1) (k + ins_in q) (slice_set us i (meaning q db us)) (slice_set vs i (meaning q dc vs))
      (alike_set us vs i (meaning q db us) (meaning q dc vs) b (mean_again db dc us vs tables (alike_at us vs b) q h.1))

  results_again : (q : Query) → AllSettled q → Alike (results_of q db) (results_of q dc)
  results_again (Query' cs ctes sc subs from filter_ grouped keys aggs having items shown distinct order limit offset names) h =
      let n : ℕ = count_of ctes in
      let m : ℕ = n + ins_in_ctes ctes in
      let rs : Results = replicate (m + ins_in_from from + ins_in_all subs) [] in
      let us : Results = with_ctes ctes db 0 n rs in
      let vs : Results = with_ctes ctes dc 0 n rs in
      ins_all_again subs h.2 (m + ins_in_from from) (with_ins_from from db m us) (with_ins_from from dc m vs)
      (ins_from_again from h.1 m us vs (ctes_again ctes h.0 0 n rs rs (alike_itself rs)))

  -- L1
  pub order_free : (q : Query) → AllSettled q → (rows : List Row) → Answers q dc rows → Answers q db rows
  order_free (Query' cs ctes sc subs from filter_ grouped keys aggs having items shown distinct order limit offset names) h rows a =
      let q : Query = Query' cs ctes sc subs from filter_ grouped keys aggs having items shown distinct order limit offset names in
      answers_again db dc (results_of q db) (results_of q dc) tables (alike_at (results_of q db) (results_of q dc) (results_again q h)) q h.3 rows a
