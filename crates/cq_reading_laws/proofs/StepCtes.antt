-- The steps of a whole statement: those in its CTEs, each of which sees the CTEs before it, and those in its own SELECT.
use Rattle.std.proofs.Common.{◌≡◌, ℕ, ◌+◌, ◌≤◌, min, Bool, true, false, not, List, [], ◌∷◌, ◌++◌, length, refl, sym, ap, ◌∙◌, subst, arith, Result, Ok, Err}
use Rattle.std.specs.Prelude.{⊤, slice_index_or}
use Rattle.cq_value.proofs.Lists.{all_append}
use Rattle.cq_value.proofs.Truths.{and_left, and_right}
use Rattle.cq_catalog.specs.declared.info.TableInfo.{TableInfo}
use Rattle.cq_grammar.specs.declared.query.Query as written
use Rattle.cq_grammar.specs.declared.query.CommonTable.{CommonTable}
use Rattle.cq_tree.specs.declared.query.FromTree.{FromTree}
use Rattle.cq_tree.specs.declared.query.FromTree.TheOpen.{Query-F}
use Rattle.cq_tree.specs.declared.query.Query.{Query, roll-Query, out-Query, roll-out-Query}
use Rattle.cq_meaning.specs.declared.Columns.{Columns}
use Rattle.cq_meaning.specs.Results.{ins_in, ins_in_from}
use Rattle.cq_meaning.specs.Widths.{output_bits, IsBoundQuery}
use Rattle.cq_meaning_laws.specs.WholeRules.{Step, steps_in, steps_in_from, steps_of}
use Rattle.cq_reading.specs.declared.bound.Found.{Found}
use Rattle.cq_reading.specs.declared.bound.Common.{Common}
use Rattle.cq_reading.specs.declared.bound.Block.{Block}
use Rattle.cq_reading.specs.declared.error.BindError.{BindError}
use Rattle.cq_reading.specs.declared.error.BindError.TheVariants as error
use Rattle.cq_reading.specs.Steps.{Reading, give, provided, follow, ◌then◌, through}
use Rattle.cq_reading.specs.Scopes.{World}
use Rattle.cq_reading.specs.Walk.{select_of}
use Rattle.cq_reading.specs.Statements as st
use Rattle.cq_reading_laws.specs.Worlds.{OutputsFit, WorldFits, BlockStands}
use Rattle.cq_reading_laws.specs.Written.{written_select}
use Rattle.cq_reading_laws.specs.QueryLaws.{written_tables, HaveResults}
use Rattle.cq_reading_laws.specs.WriteLaws.{TablesFit}
use Rattle.cq_reading_laws.specs.StepLaws.{start_of}
use Rattle.cq_reading_laws.proofs.FineJoins.{FineBlockIf}
use Rattle.cq_reading_laws.proofs.FineTree.{select_stands}
use Rattle.cq_reading_laws.proofs.FineQueries.{IsNone, before_last, at_last, with_last, length_more, with_ctes_bound}
use Rattle.cq_reading_laws.proofs.StepRows.{ins_all, steps_all, ins_ctes, steps_ctes, ins_query, steps_query, ins_ctes_last, steps_ctes_last, steps_statement, all_as}
use Rattle.cq_reading_laws.proofs.StepSubs.{Depends, Right, AreRight, right_later, BlockSteps, BlockIf}
use Rattle.cq_reading_laws.proofs.StepTree.{select_steps}

-- the widths of each hang on the results of those before it, of which there are i before the first
abbrev pub DependEach : ℕ → List Query → Type 0
DependEach i [] = ⊤
DependEach i (q ∷ more) = Depends i q × DependEach (i + 1) more

each_last : (i : ℕ) (qs : List Query) (q : Query) → DependEach i qs → Depends (i + length qs) q → DependEach i (qs ++ q ∷ [])
each_last i [] q h k = let e : i + 0 ≡ i = omega arith in (subst (λ j. Depends j q) e k, tt)
each_last i (p ∷ ps) q h k = let e : i + length (p ∷ ps) ≡ i + 1 + length ps = omega arith in (h.0, each_last (i + 1) ps q h.1 (subst (λ j. Depends j q) e k))

module _ (tables : List TableInfo) where
  abbrev pub world : List Common → World
  world commons = st.among tables commons

  right_more : (commons : List Common) (c : Common) (m : ℕ) (q : Query) → Right (world commons) m q → Right (world (commons ++ c ∷ [])) m q
  right_more commons c m q r = record {
    bound = λ cs fit few. r.bound cs (record { tables = fit.tables; commons = λ i x is. fit.commons i x (before_last commons c i x is) }) few;
    same = λ cs ds a. let e = length_more commons c in r.same cs ds (record { tables = a.tables; results = λ i l. a.results i (omega (arith, l, e)) });
  }

  are_more : (commons : List Common) (c : Common) (m n : ℕ) (steps : List Step) → m ≤ n → AreRight (world commons) m steps → AreRight (world (commons ++ c ∷ [])) n steps
  are_more commons c m n steps l h =
      right_later (world (commons ++ c ∷ [])) m n steps l (all_as (λ (s : Step). Right (world commons) m s.query) (λ (s : Step). Right (world (commons ++ c ∷ [])) m s.query) steps (λ s r. right_more commons c m s.query r) h)

  -- so many CTEs are read, behind n results that have their numbers
  pub record Ctes (n count : ℕ) (p : st.Ctes) (f : Found) : Type 0 where
    pub counted : length p.1 ≡ count
    pub number : length p.0 ≡ length p.1
    pub results : f.results ≡ n + ins_ctes p.1
    pub blocks : length p.1 ≤ f.blocks
    pub most : length p.1 ≤ 64
    pub steps : AreRight (world p.0) f.results (steps_ctes 0 n p.1)
    pub fits : (cs : Columns) → TablesFit cs tables → HaveResults cs p.1 → f.results ≤ length cs.results → WorldFits cs (world p.0)
    pub each : DependEach 0 p.1

  abbrev CtesIf : ℕ → ℕ → Result (st.Ctes × Found) BindError → Type 0
  CtesIf n count (Ok p) = Ctes n count p.0 p.1
  CtesIf n count (Err e) = ⊤

  -- one more CTE
  with_block : (n count : ℕ) (p : st.Ctes) (name : List ℕ) (f : Found) (b : Block) (g : Found) → Ctes n count p f → BlockSteps (world p.0) f b g → ((cs : Columns) → WorldFits cs (world p.0) → BlockStands cs f b g)
      → Ctes n (count + 1) (st.one_more_cte p name b) g
  with_block n count p name f b g h k l =
      let q : Query = b.query in
      let c : Common = st.common_of_block name b in
      let m = ins_ctes_last p.1 q in
      let e = length_more p.1 q in
      let last : Step = record { number = 0 + length p.1; query = q } in
      let at : length p.0 ≡ 0 + length p.1 = omega (arith, h.number) in
      let fits : (cs : Columns) → TablesFit cs tables → HaveResults cs (p.1 ++ q ∷ []) → g.results ≤ length cs.results → WorldFits cs (world p.0) = (λ cs fit have few.
      h.fits cs fit (λ i x is. have i x (before_last p.1 q i x is)) (omega (arith, k.results, few))) in
      record {
        counted = e ∙ ap (λ j. j + 1) h.counted;
        number = length_more p.0 c ∙ (ap (λ j. j + 1) h.number ∙ sym e);
        results = omega (arith, k.results, h.results, m);
        blocks = omega (arith, h.blocks, k.blocks, e);
        most = omega (arith, h.blocks, k.room, e);
        steps = subst (AreRight (world (p.0 ++ c ∷ [])) g.results) (sym (steps_ctes_last 0 n p.1 q))
            (all_append (λ (s : Step). Right (world (p.0 ++ c ∷ [])) g.results s.query) (steps_ctes 0 n p.1) (steps_in (n + ins_ctes p.1) q ++ last ∷ [])
            (are_more p.0 c f.results g.results (steps_ctes 0 n p.1) (omega (arith, k.results)) h.steps)
            (are_more p.0 c g.results g.results (steps_in (n + ins_ctes p.1) q ++ last ∷ []) (omega arith)
            (all_append (λ (s : Step). Right (world p.0) g.results s.query) (steps_in (n + ins_ctes p.1) q) (last ∷ [])
            (subst (λ i. AreRight (world p.0) g.results (steps_in i q)) h.results k.steps)
            (record { bound = λ cs fit few. (l cs fit).bound few; same = k.same }, tt))));
        fits = λ cs fit have few.
            let old = fits cs fit have few in
            let mine : slice_index_or cs.results (length p.0) [] ≡ output_bits cs q = ap (λ i. slice_index_or cs.results i []) h.number ∙ have (length p.1) q (at_last p.1 q) in
            record {
              tables = old.tables;
              commons = with_last (λ i c. OutputsFit (slice_index_or cs.results i []) c.outputs) p.0 c old.commons (subst (λ js. OutputsFit js b.outputs) (sym mine) (l cs old).outputs);
            };
        each = each_last 0 p.1 q h.each (subst (λ i. Depends i q) at k.same);
      }

  after_block : (n count : ℕ) (p : st.Ctes) (name : List ℕ) (f : Found) (o : Result (Block × Found) BindError) → Ctes n count p f → BlockIf (world p.0) f o → ((cs : Columns) → WorldFits cs (world p.0) → FineBlockIf cs f o)
      → CtesIf n (count + 1) (follow o (λ b. give (st.one_more_cte p name b)))
  after_block n count p name f (Ok b) h k l = with_block n count p name f b.0 b.1 h k l
  after_block n count p name f (Err e) h k l = tt

  where_free : (n count : ℕ) (t : Bool) (e : BindError) (r : Reading st.Ctes) (f : Found) → CtesIf n count (r f) → CtesIf n count (provided t e r f)
  where_free n count true e r f h = h
  where_free n count false e r f h = tt

  step : (n count : ℕ) (p : st.Ctes) (c : CommonTable) (f : Found) → written_select c.select ≡ true → Ctes n count p f → CtesIf n (count + 1) (st.with_cte tables p c f)
  step n count p c f w h =
      where_free n (count + 1) (not (st.is_common c.name.text p.0)) (error.NameTaken c.name.text) (select_of c.select (world p.0) then (λ b. give (st.one_more_cte p c.name.text b))) f
      (after_block n count p c.name.text f (select_of c.select (world p.0) f) h (select_steps c.select w (world p.0) f) (λ cs fit. select_stands c.select w cs (world p.0) fit f))

  after_step : (n count most : ℕ) (o : Result (st.Ctes × Found) BindError) (next : st.Ctes → Reading st.Ctes) → CtesIf n count o → ((p : st.Ctes) (f : Found) → Ctes n count p f → CtesIf n most (next p f))
      → CtesIf n most (follow o next)
  after_step n count most (Ok p) next h k = k p.0 p.1 h
  after_step n count most (Err e) next h k = tt

  all_ctes : (n count : ℕ) (ctes : List CommonTable) (p : st.Ctes) (f : Found) → written_tables ctes ≡ true → Ctes n count p f → CtesIf n (count + length ctes) (through (st.with_cte tables) ctes p f)
  all_ctes n count [] p f w h = let e : count ≡ count + 0 = omega arith in subst (λ j. Ctes n j p f) e h
  all_ctes n count (c ∷ more) p f w h =
      let e : count + 1 + length more ≡ count + length (c ∷ more) = omega arith in
      after_step n (count + 1) (count + length (c ∷ more)) (st.with_cte tables p c f) (through (st.with_cte tables) more) (step n count p c f (and_left _ _ w) h)
      (λ q g k. subst (λ j. CtesIf n j (through (st.with_cte tables) more q g)) e (all_ctes n (count + 1) more q g (and_right _ _ w) k))

  -- ---- the query over them

  -- what is read of a whole statement: its query over its CTEs, and how many results there are then
  pub record Whole (q : Query) (m : ℕ) : Type 0 where
    pub opened : Query-F FromTree Query
    pub is : q ≡ roll-Query opened
    pub commons : List Common
    pub number : length commons ≡ length opened.ctes
    pub total : m ≡ length opened.ctes + (ins_ctes opened.ctes + (ins_in_from opened.from + ins_all opened.subs))
    pub steps : AreRight (world commons) m (steps_of q)
    pub bound : (cs : Columns) → TablesFit cs tables → HaveResults cs opened.ctes → m ≤ length cs.results → WorldFits cs (world commons) × IsBoundQuery cs q
    pub each : DependEach 0 opened.ctes

  whole : (n : ℕ) (p : st.Ctes) (f : Found) (b : Block) (g : Found) → Ctes n n p f → BlockSteps (world p.0) f b g → ((cs : Columns) → WorldFits cs (world p.0) → BlockStands cs f b g) → Whole (st.with_ctes b.query p.1) g.results
  whole n p f b g h k l =
      let old : Query-F FromTree Query = out-Query b.query in
      let x : Query-F FromTree Query = record old { ctes = p.1 } in
      let again : roll-Query old ≡ b.query = roll-out-Query b.query in
      let ins : ins_in b.query ≡ ins_in_from x.from + ins_all x.subs = ap ins_in (sym again) ∙ ins_query old in
      let same : steps_in f.results b.query ≡ steps_in_from f.results x.from ++ steps_all (f.results + ins_in_from x.from) x.subs = ap (λ q. steps_in f.results q) (sym again) ∙ steps_query old f.results in
      let at : f.results ≡ length p.1 + ins_ctes p.1 = h.results ∙ ap (λ i. i + ins_ctes p.1) (sym h.counted) in
      let fits : (cs : Columns) → TablesFit cs tables → HaveResults cs p.1 → g.results ≤ length cs.results → WorldFits cs (world p.0) = (λ cs fit have few. h.fits cs fit have (omega (arith, k.results, few))) in
      record {
        opened = x;
        is = refl;
        commons = p.0;
        number = h.number;
        total = omega (arith, k.results, at, ins);
        steps = subst (AreRight (world p.0) g.results) (sym (steps_statement x))
            (all_append (λ (s : Step). Right (world p.0) g.results s.query) (steps_ctes 0 (length p.1) p.1) (steps_in_from (length p.1 + ins_ctes p.1) x.from ++ steps_all (length p.1 + ins_ctes p.1 + ins_in_from x.from) x.subs)
            (subst (λ i. AreRight (world p.0) g.results (steps_ctes 0 i p.1)) (sym h.counted) (right_later (world p.0) f.results g.results (steps_ctes 0 n p.1) (omega (arith, k.results)) h.steps))
            (subst (λ i. AreRight (world p.0) g.results (steps_in_from i x.from ++ steps_all (i + ins_in_from x.from) x.subs)) at (subst (AreRight (world p.0) g.results) same k.steps)));
        bound = λ cs fit have few. let w = fits cs fit have few in (w, with_ctes_bound cs tables b.query p.1 ((l cs w).bound few));
        each = h.each;
      }

  abbrev WholeIf : Result (Query × Found) BindError → Type 0
  WholeIf (Ok p) = Whole p.0 p.1.results
  WholeIf (Err e) = ⊤

  of_block : (n : ℕ) (p : st.Ctes) (f : Found) (o : Result (Block × Found) BindError) → Ctes n n p f → BlockIf (world p.0) f o → ((cs : Columns) → WorldFits cs (world p.0) → FineBlockIf cs f o)
      → WholeIf (follow o (λ b. give (st.with_ctes b.query p.1)))
  of_block n p f (Ok b) h k l = whole n p f b.0 b.1 h k l
  of_block n p f (Err e) h k l = tt

  -- so many CTEs are no more than have their numbers
  few_enough : (n : ℕ) (p : st.Ctes) (f : Found) → Ctes (min n 64) n p f → Ctes n n p f
  few_enough n p f h = let e : min n 64 ≡ n = omega (arith, h.counted, h.most) in subst (λ i. Ctes i n p f) e h

  of_ctes : (x : written.Query) (o : Result (st.Ctes × Found) BindError) → written_select x.select ≡ true → CtesIf (min (length x.tables) 64) (length x.tables) o
      → WholeIf (follow o (λ p. select_of x.select (world p.0) then (λ b. give (st.with_ctes b.query p.1))))
  of_ctes x (Ok p) w h =
      of_block (length x.tables) p.0 p.1 (select_of x.select (world p.0.0) p.1) (few_enough (length x.tables) p.0 p.1 h) (select_steps x.select w (world p.0.0) p.1) (λ cs fit. select_stands x.select w cs (world p.0.0) fit p.1)
  of_ctes x (Err e) w h = tt

  pub query_whole : (x : written.Query) (new : Found) (q : Query) → written_tables x.tables ≡ true → written_select x.select ≡ true → st.query_of tables x (start_of x) ≡ Ok (q, new) → Whole q new.results
  query_whole x new q v w is =
      let n : ℕ = min (length x.tables) 64 in
      let none : Ctes n 0 ([], []) (start_of x) = record {
        counted = refl;
        number = refl;
        results = omega arith;
        blocks = omega arith;
        most = omega arith;
        steps = tt;
        fits = λ cs fit have few. record { tables = fit; commons = λ i c is. absurd (subst (λ o. IsNone o) is tt) };
        each = tt;
      } in
      let ctes = through (st.with_cte tables) x.tables ([], []) (start_of x) in
      let e : 0 + length x.tables ≡ length x.tables = omega arith in
      subst WholeIf is (of_ctes x ctes w (subst (λ i. CtesIf n i ctes) e (all_ctes n 0 x.tables ([], []) (start_of x) v none)))
