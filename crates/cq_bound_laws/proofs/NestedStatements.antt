-- What a text is read as is nested: its CTEs, and its own SELECT behind them.
use Rattle.std.proofs.Common.{◌≡◌, ℕ, ◌+◌, ◌≤◌, ◌<◌, min, Bool, true, false, not, List, [], ◌∷◌, length, refl, sym, ap, ◌∙◌, subst, arith, Result, Ok, Err}
use Rattle.std.specs.Prelude.{⊤}
use Rattle.cq_catalog.specs.declared.info.TableInfo.{TableInfo}
use Rattle.cq_grammar.specs.declared.query.Query as written
use Rattle.cq_grammar.specs.declared.query.CommonTable.{CommonTable}
use Rattle.cq_grammar.specs.declared.statement.Ast.{Ast}
use Rattle.cq_grammar.specs.declared.statement.Ast.TheVariants as ast
use Rattle.cq_tree.specs.declared.query.FromTree.{FromTree}
use Rattle.cq_tree.specs.declared.query.FromTree.TheOpen.{Query-F}
use Rattle.cq_tree.specs.declared.query.Query.{Query, roll-Query, out-Query, roll-out-Query}
use Rattle.cq_tree.specs.declared.statement.Statement.{Statement}
use Rattle.cq_tree.specs.declared.statement.Statement.TheVariants as statement
use Rattle.cq_reading.specs.declared.bound.Found.{Found}
use Rattle.cq_reading.specs.declared.bound.Common.{Common}
use Rattle.cq_reading.specs.declared.bound.Block.{Block}
use Rattle.cq_reading.specs.declared.error.BindError.{BindError}
use Rattle.cq_reading.specs.declared.error.BindError.TheVariants as error
use Rattle.cq_reading.specs.Steps.{Reading, give, provided, follow, ◌then◌, through}
use Rattle.cq_reading.specs.Scopes.{World}
use Rattle.cq_reading.specs.Walk.{select_of}
use Rattle.cq_reading.specs.Statements as st
use Rattle.cq_reading_laws.specs.StepLaws.{start_of}
use Rattle.cq_reading_laws.proofs.FineQueries.{length_more}
use Rattle.cq_reading_laws.proofs.StepRows.{ins_ctes, ins_ctes_last}
use Rattle.cq_reading_laws.proofs.WrittenEndings.{IsKindOf, kind_of}
use Rattle.cq_plan_laws.specs.Nested.{IsNested, IsNestedBehind, IsNestedStatement}
use Rattle.cq_bound_laws.specs.Laws.{TextsAreNested, ExplainedAreNested}
use Rattle.cq_bound_laws.proofs.NamedParts.{Outside, BlockIf}
use Rattle.cq_bound_laws.proofs.NestedRows.{nested_behind, AllCtesNested, ctes_last, nested_statement}
use Rattle.cq_bound_laws.proofs.NestedTree.{select_reads}

module _ (tables : List TableInfo) where
  abbrev world : List Common → World
  world commons = st.among tables commons

  -- so many CTEs are read, behind n results that have their numbers
  record Ctes (n count : ℕ) (p : st.Ctes) (f : Found) : Type 0 where
    counted : length p.1 ≡ count
    number : length p.0 ≡ length p.1
    results : f.results ≡ n + ins_ctes p.1
    blocks : length p.1 ≤ f.blocks
    most : length p.1 ≤ 64
    nested : AllCtesNested 0 n p.1

  abbrev CtesIf : ℕ → ℕ → Result (st.Ctes × Found) BindError → Type 0
  CtesIf n count (Ok p) = Ctes n count p.0 p.1
  CtesIf n count (Err e) = ⊤

  -- one more CTE
  with_block : (n count : ℕ) (p : st.Ctes) (name : List ℕ) (f : Found) (o : Result (Block × Found) BindError) → Ctes n count p f → BlockIf (world p.0) f o → CtesIf n (count + 1) (follow o (λ b. give (st.one_more_cte p name b)))
  with_block n count p name f (Ok b) h k =
      let q : Query = b.0.query in
      let e = length_more p.1 q in
      let m = ins_ctes_last p.1 q in
      let at : length p.0 ≡ 0 + length p.1 = omega (arith, h.number) in
      record {
        counted = e ∙ ap (λ j. j + 1) h.counted;
        number = length_more p.0 (st.common_of_block name b.0) ∙ (ap (λ j. j + 1) h.number ∙ sym e);
        results = omega (arith, k.results, h.results, m);
        blocks = omega (arith, h.blocks, k.blocks, e);
        most = omega (arith, h.blocks, k.room, e);
        nested = ctes_last 0 n p.1 q h.nested (subst (λ m. IsNested (λ j. j < m) (n + ins_ctes p.1) q) at (subst (λ i. IsNested (Outside (world p.0)) i q) h.results k.nested));
      }
  with_block n count p name f (Err e) h k = tt

  where_free : (n count : ℕ) (t : Bool) (e : BindError) (r : Reading st.Ctes) (f : Found) → CtesIf n count (r f) → CtesIf n count (provided t e r f)
  where_free n count true e r f h = h
  where_free n count false e r f h = tt

  step : (n count : ℕ) (p : st.Ctes) (c : CommonTable) (f : Found) → Ctes n count p f → CtesIf n (count + 1) (st.with_cte tables p c f)
  step n count p c f h =
      where_free n (count + 1) (not (st.is_common c.name.text p.0)) (error.NameTaken c.name.text) (select_of c.select (world p.0) then (λ b. give (st.one_more_cte p c.name.text b))) f
      (with_block n count p c.name.text f (select_of c.select (world p.0) f) h (select_reads c.select (world p.0) f))

  after_step : (n count most : ℕ) (o : Result (st.Ctes × Found) BindError) (next : st.Ctes → Reading st.Ctes) → CtesIf n count o → ((p : st.Ctes) (f : Found) → Ctes n count p f → CtesIf n most (next p f))
      → CtesIf n most (follow o next)
  after_step n count most (Ok p) next h k = k p.0 p.1 h
  after_step n count most (Err e) next h k = tt

  all_ctes : (n count : ℕ) (ctes : List CommonTable) (p : st.Ctes) (f : Found) → Ctes n count p f → CtesIf n (count + length ctes) (through (st.with_cte tables) ctes p f)
  all_ctes n count [] p f h = let e : count ≡ count + 0 = omega arith in subst (λ j. Ctes n j p f) e h
  all_ctes n count (c ∷ more) p f h =
      let e : count + 1 + length more ≡ count + length (c ∷ more) = omega arith in
      after_step n (count + 1) (count + length (c ∷ more)) (st.with_cte tables p c f) (through (st.with_cte tables) more) (step n count p c f h)
      (λ q g k. subst (λ j. CtesIf n j (through (st.with_cte tables) more q g)) e (all_ctes n (count + 1) more q g k))

  -- ---- the query behind them

  abbrev QueryIf : Result (Query × Found) BindError → Type 0
  QueryIf (Ok p) = IsNestedStatement p.0
  QueryIf (Err e) = ⊤

  of_block : (n : ℕ) (p : st.Ctes) (f : Found) (o : Result (Block × Found) BindError) → Ctes n n p f → BlockIf (world p.0) f o → QueryIf (follow o (λ b. give (st.with_ctes b.query p.1)))
  of_block n p f (Ok b) h k =
      let old : Query-F FromTree Query = out-Query b.0.query in
      let x : Query-F FromTree Query = record old { ctes = p.1 } in
      let O = Outside (world p.0) in
      let at : f.results ≡ length p.1 + ins_ctes p.1 = h.results ∙ ap (λ i. i + ins_ctes p.1) (sym h.counted) in
      let behind : IsNestedBehind O f.results (roll-Query x) = nested_behind O f.results old p.1 (subst (IsNested O f.results) (sym (roll-out-Query b.0.query)) k.nested) in
      nested_statement x (subst (λ i. AllCtesNested 0 i p.1) (sym h.counted) h.nested)
      (subst (λ m. IsNestedBehind (λ j. j < m) (length p.1 + ins_ctes p.1) (roll-Query x)) h.number (subst (λ i. IsNestedBehind O i (roll-Query x)) at behind))
  of_block n p f (Err e) h k = tt

  -- so many CTEs are no more than have their numbers
  few_enough : (n : ℕ) (p : st.Ctes) (f : Found) → Ctes (min n 64) n p f → Ctes n n p f
  few_enough n p f h = let e : min n 64 ≡ n = omega (arith, h.counted, h.most) in subst (λ i. Ctes i n p f) e h

  of_ctes : (x : written.Query) (o : Result (st.Ctes × Found) BindError) → CtesIf (min (length x.tables) 64) (length x.tables) o → QueryIf (follow o (λ p. select_of x.select (world p.0) then (λ b. give (st.with_ctes b.query p.1))))
  of_ctes x (Ok p) h = of_block (length x.tables) p.0 p.1 (select_of x.select (world p.0.0) p.1) (few_enough (length x.tables) p.0 p.1 h) (select_reads x.select (world p.0.0) p.1)
  of_ctes x (Err e) h = tt

  query_nested : (x : written.Query) → QueryIf (st.query_of tables x (start_of x))
  query_nested x =
      let n : ℕ = min (length x.tables) 64 in
      let none : Ctes n 0 ([], []) (start_of x) = record { counted = refl; number = refl; results = omega arith; blocks = omega arith; most = omega arith; nested = tt } in
      let ctes = through (st.with_cte tables) x.tables ([], []) (start_of x) in
      let e : 0 + length x.tables ≡ length x.tables = omega arith in
      of_ctes x ctes (subst (λ i. CtesIf n i ctes) e (all_ctes n 0 x.tables ([], []) (start_of x) none))

  -- ---- statements

  asked : (make : Query → Statement) → ((p q : Query) → make p ≡ make q → p ≡ q) → (o : Result (Query × Found) BindError) (q : Query) → QueryIf o → st.outcome (follow o (λ bound. give (make bound))) ≡ Ok (make q) → IsNestedStatement q
  asked make same (Ok p) q h is = let e : make p.0 ≡ make q = cc is in subst IsNestedStatement (same p.0 q e) h
  asked make same (Err e) q h is = absurd (cc is)

  same_select : (p q : Query) → statement.Select p ≡ statement.Select q → p ≡ q
  same_select p q e = cc e

  same_explain : (p q : Query) → statement.Explain p ≡ statement.Explain q → p ≡ q
  same_explain p q e = cc e

  selected : (a : Ast) (q : Query) → IsKindOf a (statement.Select q) → st.reading tables a ≡ Ok (statement.Select q) → IsNestedStatement q
  selected (ast.Query x) q k is = asked statement.Select same_select (st.query_of tables x (start_of x)) q (query_nested x) is
  selected (ast.Create name columns key at) q k is = absurd k
  selected (ast.Insert table columns rows at) q k is = absurd k
  selected (ast.Update table sets filter at) q k is = absurd k
  selected (ast.Delete table filter at) q k is = absurd k
  selected (ast.Copy table columns spelled opts at) q k is = absurd k
  selected (ast.Set space name spelled v at) q k is = absurd k
  selected (ast.Explain x at) q k is = absurd k
  selected (ast.Call function arguments at) q k is = absurd k

  explained : (a : Ast) (q : Query) → IsKindOf a (statement.Explain q) → st.reading tables a ≡ Ok (statement.Explain q) → IsNestedStatement q
  explained (ast.Explain x at) q k is = asked statement.Explain same_explain (st.query_of tables x (start_of x)) q (query_nested x) is
  explained (ast.Create name columns key at) q k is = absurd k
  explained (ast.Insert table columns rows at) q k is = absurd k
  explained (ast.Update table sets filter at) q k is = absurd k
  explained (ast.Delete table filter at) q k is = absurd k
  explained (ast.Copy table columns spelled opts at) q k is = absurd k
  explained (ast.Set space name spelled v at) q k is = absurd k
  explained (ast.Query x) q k is = absurd k
  explained (ast.Call function arguments at) q k is = absurd k

pub texts_nested : TextsAreNested
texts_nested tables a q is = selected tables a q (kind_of tables a (statement.Select q) is) is

pub explained_nested : ExplainedAreNested
explained_nested tables a q is = explained tables a q (kind_of tables a (statement.Explain q) is) is
