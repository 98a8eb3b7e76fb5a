-- What the binder lets through has leaves of the right numbers of columns.
use Rattle.std.proofs.Common.{◌≡◌, ℕ, List, [], ◌∷◌, length, map, sym, ◌∙◌, ap, subst, arith}
use Rattle.std.specs.Prelude.{slice_index_or}
use Rattle.std.specs.List.{AllByRecursion}
use Rattle.std.proofs.lemmas.List.{length-map, length-take-le}
use Rattle.cq_tree.specs.declared.query.FromTree.{FromTree, Table, Sub', Result, Cross', Inner', Left', end_of-FromTree, more_of-FromTree, end_of-Query, more_of-Query}
use Rattle.cq_tree.specs.declared.query.Query.{Query, Query'}
use Rattle.cq_meaning.specs.declared.Columns.{Columns}
use Rattle.cq_meaning.specs.Queries.{outputs_of}
use Rattle.cq_meaning.specs.Widths.{bits, input_bits, table_bits, from_bits, output_bits, IsBoundFrom, IsBoundQuery}
use Rattle.cq_meaning_laws.specs.WholeRules.{Step, steps_of, IsBoundStep}
use Rattle.cq_catalog.specs.Contents.{Contents}
use Rattle.cq_catalog.specs.Placement.{place_at}
use Rattle.cq_planning.specs.Database.{shape_in}
use Rattle.cq_planning_laws.specs.Laid.{IsColumnOf, IsLaidFrom, IsLaid, IsLaidStep}
use Rattle.cq_planning_laws.specs.Laws.{BoundIsLaid}

module _ (cs : Columns) (c : Contents) (same : (t : ℕ) → length (table_bits cs.tables t) ≡ length (shape_in c t).kinds) (columns : (t : ℕ) → IsColumnOf (length (shape_in c t).kinds) (place_at c t)) where
  abbrev widths : ℕ → ℕ
  widths i = length (slice_index_or cs.results i [])

  mutual
    laid_from : (f : FromTree) (ahead : List ℕ) → IsBoundFrom cs ahead f → IsLaidFrom c widths f
    laid_from (Table t n) ahead h = (sym (h ∙ same t), subst (λ m. IsColumnOf m (place_at c t)) (sym (h ∙ same t)) (columns t))
    laid_from (Sub' p (more_of-Query q end_of-Query)) ahead h = laid q h
    laid_from (Result i n) ahead h = sym h
    laid_from (Cross' p (more_of-FromTree a end_of-FromTree) q (more_of-FromTree b end_of-FromTree)) ahead h = (laid_from a ahead h.0, laid_from b _ h.1)
    laid_from (Inner' p (more_of-FromTree a end_of-FromTree) q (more_of-FromTree b end_of-FromTree) on) ahead h = (laid_from a ahead h.0, laid_from b _ h.1)
    laid_from (Left' p (more_of-FromTree a end_of-FromTree) q (more_of-FromTree b end_of-FromTree) on) ahead h = (laid_from a ahead h.0, laid_from b _ h.1)

    laid : (q : Query) → IsBoundQuery cs q → IsLaid c widths q
    laid (Query' ts ctes ss subs from filter_ grouped keys aggs having items shown distinct order limit offset names) h = (laid_from from [] h.0, h.2)

  outputs_long : (q : Query) → IsBoundQuery cs q → length (output_bits cs q) ≡ outputs_of q
  outputs_long (Query' ts ctes ss subs from filter_ grouped keys aggs having items shown distinct order limit offset names) h =
      let ks : List ℕ = input_bits (from_bits cs from) grouped keys aggs in
      let long : length (map (bits ks) items) ≡ length items = length-map items (bits ks) in
      let few = h.2 in
      length-take-le shown (map (bits ks) items) (omega (arith, long, few))

  steps_laid : (steps : List Step) → AllByRecursion (IsBoundStep cs) steps → AllByRecursion (IsLaidStep c widths) steps
  steps_laid [] h = tt
  steps_laid (s ∷ steps) h = ((laid s.query h.0.0, ap length h.0.1 ∙ outputs_long s.query h.0.0), steps_laid steps h.1)

pub bound_is_laid : BoundIsLaid
bound_is_laid cs c q same columns h = (laid cs c same columns q h.0, steps_laid cs c same columns (steps_of q) h.1)
