-- The query of a statement, behind its CTEs, is what the engine asks for.
use Rattle.std.proofs.Common.{◌≡◌, ℕ, zero, suc, ◌+◌, ◌≤◌, Bool, true, false, not, List, [], ◌∷◌, ◌++◌, length, refl, sym, ap, ◌∙◌, subst, arith, Option, None, Some, Result, Ok, Err}
use Rattle.std.specs.Prelude.{⊤, slice_get, slice_index_or}
use Rattle.std.specs.List.{AllByRecursion}
use Rattle.cq_value.proofs.Truths.{and_left, and_right}
use Rattle.cq_value.proofs.Lists.{all_more}
use Rattle.cq_catalog.specs.declared.info.TableInfo.{TableInfo}
use Rattle.cq_grammar.specs.declared.query.Select.{Select}
use Rattle.cq_grammar.specs.declared.query.Query as written
use Rattle.cq_grammar.specs.declared.query.CommonTable.{CommonTable}
use Rattle.cq_tree.specs.declared.query.FromTree.{FromTree}
use Rattle.cq_tree.specs.declared.query.FromTree.TheOpen.{Query-F}
use Rattle.cq_tree.specs.declared.query.Query.{Query, Query', out-Query, out-roll-Query}
use Rattle.cq_meaning.specs.declared.Columns.{Columns}
use Rattle.cq_meaning.specs.Widths.{output_bits, from_bits, IsBoundFrom, AreBoundItems, IsBoundQuery}
use Rattle.cq_reading.specs.declared.bound.Found.{Found}
use Rattle.cq_reading.specs.declared.bound.Block.{Block}
use Rattle.cq_reading.specs.declared.error.BindError.{BindError}
use Rattle.cq_reading.specs.declared.error.BindError.TheVariants as error
use Rattle.cq_reading.specs.Steps.{Reading, give, provided, follow, ◌then◌, through}
use Rattle.cq_reading.specs.Scopes.{World}
use Rattle.cq_reading.specs.Walk.{select_of}
use Rattle.cq_reading.specs.Statements as st
use Rattle.cq_reading_laws.specs.Worlds.{OutputsFit, WorldFits, BlockStands}
use Rattle.cq_reading_laws.specs.Written.{written_select}
use Rattle.cq_reading_laws.specs.QueryLaws.{written_tables, HaveResults, QueriesBound}
use Rattle.cq_reading_laws.proofs.Carrying.{Carries}
use Rattle.cq_reading_laws.proofs.Growth.{Grew}
use Rattle.cq_reading_laws.proofs.GrowthWalk.{select_grows}
use Rattle.cq_reading_laws.proofs.FineJoins.{FineBlockIf}
use Rattle.cq_reading_laws.proofs.FineTree.{select_stands}
use Rattle.cq_reading_laws.proofs.Trees.{bound_query}

abbrev pub IsNone : {A : Type 0} → Option A → Type 0
IsNone None = ⊤
IsNone (Some a) = ⊥

abbrev IfSome : {A : Type 0} → (A → Type 0) → Option A → Type 0
IfSome P None = ⊤
IfSome P (Some a) = P a

-- one more behind a list, where it can be found
pub before_last : {A : Type 0} (xs : List A) (y : A) (i : ℕ) (x : A) → slice_get xs i ≡ Some x → slice_get (xs ++ y ∷ []) i ≡ Some x
before_last [] y i x is = absurd (subst (λ o. IsNone o) is tt)
before_last (a ∷ xs) y zero x is = is
before_last (a ∷ xs) y (suc i) x is = before_last xs y i x is

pub at_last : {A : Type 0} (xs : List A) (y : A) → slice_get (xs ++ y ∷ []) (length xs) ≡ Some y
at_last [] y = refl
at_last (x ∷ xs) y = at_last xs y

pub with_last : {A : Type 0} (P : ℕ → A → Type 0) (xs : List A) (y : A) → ((i : ℕ) (x : A) → slice_get xs i ≡ Some x → P i x) → P (length xs) y → (i : ℕ) (x : A) → slice_get (xs ++ y ∷ []) i ≡ Some x → P i x
with_last P [] y h k zero x is = subst (λ o. IfSome (P 0) o) is k
with_last P [] y h k (suc i) x is = absurd (subst (λ o. IsNone o) is tt)
with_last P (a ∷ xs) y h k zero x is = h zero x is
with_last P (a ∷ xs) y h k (suc i) x is = with_last (λ i x. P (suc i) x) xs y (λ i x is. h (suc i) x is) k i x is

pub length_more : {A : Type 0} (xs : List A) (y : A) → length (xs ++ y ∷ []) ≡ length xs + 1
length_more [] y = refl
length_more (x ∷ xs) y = let e = length_more xs y in omega (arith, e)

grew : (x : Select) (w : World) (f : Found) → Grew true f (select_of x w f)
unfolding Carries
grew x w f = (select_grows x w).0 f

module _ (cs : Columns) (tables : List TableInfo) where
  -- CTEs so far
  pub record Commons (p : st.Ctes) (f : Found) : Type 0 where
    pub number : length p.0 ≡ length p.1
    pub stand : HaveResults cs p.1 → f.results ≤ length cs.results → WorldFits cs (st.among tables p.0) × AllByRecursion (IsBoundQuery cs) p.1

  abbrev CommonsIf : Result (st.Ctes × Found) BindError → Type 0
  CommonsIf (Ok p) = Commons p.0 p.1
  CommonsIf (Err e) = ⊤

  after_select : (p : st.Ctes) (c : CommonTable) (f : Found) (o : Result (Block × Found) BindError) → Commons p f → Grew true f o → (WorldFits cs (st.among tables p.0) → FineBlockIf cs f o)
      → CommonsIf (follow o (λ b. give (st.one_more_cte p c.name.text b)))
  after_select p c f (Err e) h g k = tt
  after_select p c f (Ok b) h g k = record {
    number = length_more p.0 (st.common_of_block c.name.text b.0) ∙ (ap (λ n. n + 1) h.number ∙ sym (length_more p.1 b.0.query));
    stand = λ have few.
        let old = h.stand (λ i c is. have i c (before_last p.1 b.0.query i c is)) (omega (arith, g.0.more, few)) in
        let s : BlockStands cs f b.0 b.1 = k old.0 in
        let mine : slice_index_or cs.results (length p.0) [] ≡ output_bits cs b.0.query = ap (λ n. slice_index_or cs.results n []) h.number ∙ have (length p.1) b.0.query (at_last p.1 b.0.query) in (
          record {
            tables = old.0.tables;
            commons = with_last (λ i c. OutputsFit (slice_index_or cs.results i []) c.outputs) p.0 (st.common_of_block c.name.text b.0) old.0.commons (subst (λ js. OutputsFit js b.0.outputs) (sym mine) s.outputs);
          },
          all_more (IsBoundQuery cs) p.1 b.0.query old.1 (s.bound few),
        );
  }

  where_free : (t : Bool) (e : BindError) (r : Reading st.Ctes) (f : Found) → CommonsIf (r f) → CommonsIf (provided t e r f)
  where_free true e r f h = h
  where_free false e r f h = tt

  step : (p : st.Ctes) (c : CommonTable) (f : Found) → written_select c.select ≡ true → Commons p f → CommonsIf (st.with_cte tables p c f)
  step p c f w h = where_free (not (st.is_common c.name.text p.0)) (error.NameTaken c.name.text) (select_of c.select (st.among tables p.0) then (λ b. give (st.one_more_cte p c.name.text b))) f
      (after_select p c f (select_of c.select (st.among tables p.0) f) h (grew c.select (st.among tables p.0) f) (λ fit. select_stands c.select w cs (st.among tables p.0) fit f))

  after_step : (o : Result (st.Ctes × Found) BindError) (next : st.Ctes → Reading st.Ctes) → CommonsIf o → ((p : st.Ctes) (f : Found) → Commons p f → CommonsIf (next p f)) → CommonsIf (follow o next)
  after_step (Ok p) next h k = k p.0 p.1 h
  after_step (Err e) next h k = tt

  all_commons : (ctes : List CommonTable) (p : st.Ctes) (f : Found) → written_tables ctes ≡ true → Commons p f → CommonsIf (through (st.with_cte tables) ctes p f)
  all_commons [] p f w h = h
  all_commons (c ∷ more) p f w h = after_step (st.with_cte tables p c f) (through (st.with_cte tables) more) (step p c f (and_left _ _ w) h) (λ q g k. all_commons more q g (and_right _ _ w) k)

  -- ---- the query over them

  opened : (q : Query) → IsBoundQuery cs q → (let x = out-Query q in IsBoundFrom cs [] x.from × AreBoundItems (from_bits cs x.from) (length cs.results) x.filter x.grouped x.keys x.aggs x.having x.items × (x.shown ≤ length x.items))
  unfolding out-Query denote.Hole.Carrier.out
  opened (Query' ts ctes ss subs from filter_ grouped keys aggs having items shown distinct order limit offset names) h = h

  pub with_ctes_bound : (q : Query) (ctes : List Query) → IsBoundQuery cs q → IsBoundQuery cs (st.with_ctes q ctes)
  with_ctes_bound q ctes h = let k = opened q h in bound_query cs (record (out-Query q) { ctes = ctes }) k.0 k.1 k.2

  abbrev QueryIf : Result (Query × Found) BindError → Type 0
  QueryIf (Ok p) = HaveResults cs (out-Query p.0).ctes → p.1.results ≤ length cs.results → IsBoundQuery cs p.0 × AllByRecursion (IsBoundQuery cs) (out-Query p.0).ctes
  QueryIf (Err e) = ⊤

  of_last : (p : st.Ctes) (f : Found) (o : Result (Block × Found) BindError) → Commons p f → Grew true f o → (WorldFits cs (st.among tables p.0) → FineBlockIf cs f o) → QueryIf (follow o (λ b. give (st.with_ctes b.query p.1)))
  of_last p f (Err e) h g k = tt
  of_last p f (Ok b) h g k = λ have few.
      let e : (out-Query (st.with_ctes b.0.query p.1)).ctes ≡ p.1 = ap (λ (x : Query-F FromTree Query). x.ctes) (out-roll-Query (record (out-Query b.0.query) { ctes = p.1 })) in
      let old = h.stand (subst (HaveResults cs) e have) (omega (arith, g.0.more, few)) in
      let s : BlockStands cs f b.0 b.1 = k old.0 in
      (with_ctes_bound b.0.query p.1 (s.bound few), subst (λ qs. AllByRecursion (IsBoundQuery cs) qs) (sym e) old.1)

  of_commons : (x : written.Query) (o : Result (st.Ctes × Found) BindError) → written_select x.select ≡ true → CommonsIf o → QueryIf (follow o (λ p. select_of x.select (st.among tables p.0) then (λ b. give (st.with_ctes b.query p.1))))
  of_commons x (Err e) w h = tt
  of_commons x (Ok p) w h = of_last p.0 p.1 (select_of x.select (st.among tables p.0.0) p.1) h (grew x.select (st.among tables p.0.0) p.1) (λ fit. select_stands x.select w cs (st.among tables p.0.0) fit p.1)

pub queries_bound : QueriesBound
queries_bound cs tables x found new q fit v w is =
    let start : Commons cs tables ([], []) found = record { number = refl; stand = λ have few. (record { tables = fit; commons = λ i c none. absurd (subst (λ o. IsNone o) none tt) }, tt) } in
    subst (QueryIf cs tables) is (of_commons cs tables x (through (st.with_cte tables) x.tables ([], []) found) w (all_commons cs tables x.tables ([], []) found v start))
