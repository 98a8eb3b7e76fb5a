-- A statement's query that is read is what the engine asks for, with all its steps, and there are widths for their results.
use Rattle.std.proofs.Common.{◌≡◌, ℕ, zero, suc, ◌+◌, ◌≤◌, List, [], ◌∷◌, ◌++◌, length, sym, ap, ◌∙◌, subst, arith, Option, None, Some}
use Rattle.std.specs.Prelude.{⊤, slice_get, slice_index_or}
use Rattle.std.specs.List.{AllByRecursion}
use Rattle.cq_value.proofs.Lists.{all_left, all_right}
use Rattle.cq_catalog.specs.declared.info.TableInfo.{TableInfo}
use Rattle.cq_tree.specs.declared.query.FromTree.{FromTree}
use Rattle.cq_tree.specs.declared.query.FromTree.TheOpen.{Query-F}
use Rattle.cq_tree.specs.declared.query.Query.{Query, roll-Query}
use Rattle.cq_meaning.specs.declared.Columns.{Columns}
use Rattle.cq_meaning.specs.Results.{ins_in, ins_in_from}
use Rattle.cq_meaning.specs.Widths.{output_bits}
use Rattle.cq_meaning_laws.specs.WholeRules.{Step, steps_in, steps_in_from, steps_of, IsBoundStep, IsBoundStatement}
use Rattle.cq_reading_laws.specs.Worlds.{WorldFits}
use Rattle.cq_reading_laws.specs.QueryLaws.{HaveResults}
use Rattle.cq_reading_laws.specs.WriteLaws.{TablesFit}
use Rattle.cq_reading_laws.specs.StepLaws.{HaveWidths, StatementsBound, WidthsAreThere}
use Rattle.cq_reading_laws.proofs.FineQueries.{IsNone}
use Rattle.cq_reading_laws.proofs.StepRows.{steps_all, ins_ctes, steps_ctes, steps_statement, all_as}
use Rattle.cq_reading_laws.proofs.StepSubs.{Depends, Right, AreRight}
use Rattle.cq_reading_laws.proofs.StepCtes.{world, Whole, query_whole}
use Rattle.cq_reading_laws.proofs.StepWidths.{length_statement, rs, each_has, as_many}

-- what holds of all steps holds of each CTE
of_cte : (P : Step → Type 0) (i k : ℕ) (qs : List Query) → AllByRecursion P (steps_ctes i k qs) → (j : ℕ) (q : Query) → slice_get qs j ≡ Some q → P (record { number = i + j; query = q })
of_cte P i k [] h j q is = absurd (subst (λ o. IsNone o) is tt)
of_cte P i k (p ∷ more) h zero q is =
    let e : i ≡ i + 0 = omega arith in
    let mine : P (record { number = i; query = p }) = (all_right P (steps_in k p) (record { number = i; query = p } ∷ steps_ctes (i + 1) (k + ins_in p) more) h).0 in
    let there : P (record { number = i; query = q }) = subst (λ o. IfSome (λ q. P (record { number = i; query = q })) o) is mine in
    subst (λ n. P (record { number = n; query = q })) e there
  where
    IfSome : (Query → Type 0) → Option Query → Type 0
    IfSome Q None = ⊤
    IfSome Q (Some q) = Q q
of_cte P i k (p ∷ more) h (suc j) q is =
    let e : i + 1 + j ≡ i + suc j = omega arith in
    subst (λ n. P (record { number = n; query = q })) e (of_cte P (i + 1) (k + ins_in p) more (all_right P (steps_in k p) (record { number = i; query = p } ∷ steps_ctes (i + 1) (k + ins_in p) more) h).1 j q is)

module _ (cs : Columns) (tables : List TableInfo) (fit : TablesFit cs tables) (q : Query) (m : ℕ) (whole : Whole tables q m) (have : HaveWidths cs q) where
  abbrev Has : Step → Type 0
  Has s = slice_index_or cs.results s.number [] ≡ output_bits cs s.query

  abbrev x : Query-F FromTree Query
  x = whole.opened

  abbrev others : List Step
  others = steps_in_from (length x.ctes + ins_ctes x.ctes) x.from ++ steps_all (length x.ctes + ins_ctes x.ctes + ins_in_from x.from) x.subs

  of_steps : AllByRecursion Has (steps_ctes 0 (length x.ctes) x.ctes ++ others)
  of_steps = subst (AllByRecursion Has) (ap steps_of whole.is ∙ steps_statement x) have.0

  results : HaveResults cs x.ctes
  results j c is =
      let e : 0 + j ≡ j = omega arith in
      subst (λ n. slice_index_or cs.results n [] ≡ output_bits cs c) e (of_cte Has 0 (length x.ctes) x.ctes (all_left Has (steps_ctes 0 (length x.ctes) x.ctes) others of_steps) j c is)

  few : m ≤ length cs.results
  few = let e : length (steps_of q) ≡ length (steps_of (roll-Query x)) = ap (λ q. length (steps_of q)) whole.is in omega (arith, whole.total, have.1, e, length_statement x)

  steps_bound : (w : WorldFits cs (world tables whole.commons)) (ss : List Step) → AreRight (world tables whole.commons) m ss → AllByRecursion Has ss → AllByRecursion (IsBoundStep cs) ss
  steps_bound w [] r h = tt
  steps_bound w (s ∷ ss) r h = ((r.0.bound cs w few, h.0), steps_bound w ss r.1 h.1)

  statement_bound : IsBoundStatement cs q
  statement_bound = let b = whole.bound cs fit results few in (b.1, steps_bound b.0 (steps_of q) whole.steps have.0, have.1)

pub statements_bound : StatementsBound
statements_bound cs tables x new q fit v w is have = statement_bound cs tables fit q new.results (query_whole tables x new q v w is) have

-- there are widths for a whole statement that is read
whole_widths : (columns : List (ℕ × List ℕ)) (tables : List TableInfo) (q : Query) (m : ℕ) → Whole tables q m → (results : List (List ℕ)) × HaveWidths (record { tables = columns; results = results }) q
whole_widths columns tables q m whole =
    let x = whole.opened in
    let right : AreRight (world tables whole.commons) m (steps_of (roll-Query x)) = subst (λ q. AreRight (world tables whole.commons) m (steps_of q)) whole.is whole.steps in
    let all : AllByRecursion (λ (s : Step). Depends (length x.ctes) s.query) (steps_of (roll-Query x)) =
    all_as (λ (s : Step). Right (world tables whole.commons) m s.query) (λ (s : Step). Depends (length x.ctes) s.query) (steps_of (roll-Query x)) (λ s r. subst (λ n. Depends n s.query) whole.number r.same) right in
    let found : List (List ℕ) = rs columns x whole.each all in
    (found, subst (λ q. HaveWidths (record { tables = columns; results = found }) q) (sym whole.is) (each_has columns x whole.each all, as_many columns x whole.each all))

pub widths_are_there : WidthsAreThere
widths_are_there columns tables x new q v w is = whole_widths columns tables q new.results (query_whole tables x new q v w is)
