-- The query of a statement, behind its CTEs, is well typed.
use Rattle.std.proofs.Common.{◌≡◌, ℕ, zero, suc, ◌+◌, Bool, true, false, not, List, [], ◌∷◌, ◌++◌, length, refl, sym, ap, ◌∙◌, subst, arith, Option, None, Some, Result, Ok, Err}
use Rattle.std.specs.Prelude.{⊤, slice_get}
use Rattle.std.specs.List.{AllByRecursion}
use Rattle.cq_value.proofs.Truths.{and_left, and_right}
use Rattle.cq_value.proofs.Lists.{append_nil, all_more}
use Rattle.cq_catalog.specs.declared.info.TableInfo.{TableInfo}
use Rattle.cq_grammar.specs.declared.query.Query as written
use Rattle.cq_grammar.specs.declared.query.CommonTable.{CommonTable}
use Rattle.cq_tree.specs.declared.query.FromTree.{FromTree}
use Rattle.cq_tree.specs.declared.query.FromTree.TheOpen.{Query-F}
use Rattle.cq_tree.specs.declared.query.Query.{Query, out-Query, out-roll-Query}
use Rattle.cq_reading.specs.declared.bound.Found.{Found}
use Rattle.cq_reading.specs.declared.bound.Block.{Block}
use Rattle.cq_reading.specs.declared.error.BindError.{BindError}
use Rattle.cq_reading.specs.declared.error.BindError.TheVariants as error
use Rattle.cq_reading.specs.Steps.{Reading, give, provided, follow, ◌then◌, through}
use Rattle.cq_reading.specs.Walk.{select_of}
use Rattle.cq_reading.specs.Statements as st
use Rattle.cq_reading_laws.proofs.Onwards.{append_all}
use Rattle.cq_reading_laws.specs.Typing.{AllFit}
use Rattle.cq_reading_laws.specs.TypedQueries.{Types, result_types, output_types, results_in, results_in_all, HaveResults, IsTypedQuery}
use Rattle.cq_reading_laws.specs.Reach.{kinds_of, WorldTyped, BlockTyped}
use Rattle.cq_reading_laws.specs.Written.{written_select}
use Rattle.cq_reading_laws.specs.QueryLaws.{written_tables}
use Rattle.cq_reading_laws.specs.TypingLaws.{HaveCtes, QueriesTyped}
use Rattle.cq_reading_laws.proofs.TypedKeeping.{append_length, have_first, have_rest}
use Rattle.cq_reading_laws.proofs.TypedFurtherParts.{BlockIf}
use Rattle.cq_reading_laws.proofs.TypedTree.{select_typed}
use Rattle.cq_reading_laws.proofs.TypedTrees.{opened, typed_query, results_in_of, results_in_out}

abbrev pub IsNone : {A : Type 0} → Option A → Type 0
IsNone None = ⊤
IsNone (Some a) = ⊥

abbrev pub IfSome : {A : Type 0} → (A → Type 0) → Option A → Type 0
IfSome P None = ⊤
IfSome P (Some a) = P a

-- one more behind a list, where it can be found
before_last : {A : Type 0} (xs : List A) (y : A) (i : ℕ) (x : A) → slice_get xs i ≡ Some x → slice_get (xs ++ y ∷ []) i ≡ Some x
before_last [] y i x is = absurd (subst (λ o. IsNone o) is tt)
before_last (a ∷ xs) y zero x is = is
before_last (a ∷ xs) y (suc i) x is = before_last xs y i x is

at_last : {A : Type 0} (xs : List A) (y : A) → slice_get (xs ++ y ∷ []) (length xs) ≡ Some y
at_last [] y = refl
at_last (x ∷ xs) y = at_last xs y

pub with_last : {A : Type 0} (P : ℕ → A → Type 0) (xs : List A) (y : A) → ((i : ℕ) (x : A) → slice_get xs i ≡ Some x → P i x) → P (length xs) y → (i : ℕ) (x : A) → slice_get (xs ++ y ∷ []) i ≡ Some x → P i x
with_last P [] y h k zero x is = subst (λ o. IfSome (P 0) o) is k
with_last P [] y h k (suc i) x is = absurd (subst (λ o. IsNone o) is tt)
with_last P (a ∷ xs) y h k zero x is = h zero x is
with_last P (a ∷ xs) y h k (suc i) x is = with_last (λ i x. P (suc i) x) xs y (λ i x is. h (suc i) x is) k i x is

pub length_more : {A : Type 0} (xs : List A) (y : A) → length (xs ++ y ∷ []) ≡ length xs + 1
length_more [] y = refl
length_more (x ∷ xs) y = let e = length_more xs y in omega (arith, e)

module _ (cs : Types) (tables : List TableInfo) (start : ℕ) where
  all_in_more : (qs : List Query) (q : Query) → results_in_all cs (qs ++ q ∷ []) ≡ results_in_all cs qs ++ results_in cs q
  all_in_more [] q = append_nil (results_in cs q)
  all_in_more (p ∷ qs) q = ap (λ rs. results_in cs p ++ rs) (all_in_more qs q) ∙ sym (append_all (results_in cs p) (results_in_all cs qs) (results_in cs q))

  -- over the results of the CTEs so far
  pub record Stands (p : st.Ctes) (f : Found) : Type 0 where
    pub count : f.results ≡ start + length (results_in_all cs p.1)
    pub world : WorldTyped cs (st.among tables p.0)
    pub typed : HaveResults cs start (results_in_all cs p.1) → AllByRecursion (IsTypedQuery cs) p.1

  -- CTEs so far
  pub record Commons (p : st.Ctes) (f : Found) : Type 0 where
    pub number : length p.0 ≡ length p.1
    pub stand : HaveCtes cs p.1 → Stands p f

  abbrev CommonsIf : Result (st.Ctes × Found) BindError → Type 0
  CommonsIf (Ok p) = Commons p.0 p.1
  CommonsIf (Err e) = ⊤

  -- the results in one behind those in the CTEs before it
  in_one : (qs : List Query) (q : Query) (f : Found) → f.results ≡ start + length (results_in_all cs qs) → HaveResults cs start (results_in_all cs qs ++ results_in cs q) → HaveResults cs f.results (results_in cs q)
  in_one qs q f count h = subst (λ n. HaveResults cs n (results_in cs q)) (sym count) (have_rest cs start (results_in_all cs qs) (results_in cs q) h)

  after_select : (p : st.Ctes) (c : CommonTable) (f : Found) (o : Result (Block × Found) BindError) → Commons p f → (WorldTyped cs (st.among tables p.0) → BlockIf cs (length p.0) f o)
      → CommonsIf (follow o (λ b. give (st.one_more_cte p c.name.text b)))
  after_select p c f (Err e) h k = tt
  after_select p c f (Ok b) h k = record {
    number = length_more p.0 (st.common_of_block c.name.text b.0) ∙ (ap (λ n. n + 1) h.number ∙ sym (length_more p.1 b.0.query));
    stand = λ have.
        let q = b.0.query in
        let old = h.stand (λ i c is. have i c (before_last p.1 q i c is)) in
        let s : BlockTyped cs f b.0 b.1 = (k old.world).0 in
        let more = all_in_more p.1 q in
        let mine : result_types cs (length p.0) ≡ output_types cs q = ap (λ n. result_types cs n) h.number ∙ have (length p.1) q (at_last p.1 q) in
        record {
          count = let e = ap length more in let l = append_length (results_in_all cs p.1) (results_in cs q) in omega (arith, e, l, s.results, old.count);
          world = record {
            tables = old.world.tables;
            commons = with_last (λ i c. AllFit (result_types cs i) (kinds_of c.outputs)) p.0 (st.common_of_block c.name.text b.0) old.world.commons (subst (λ ts. AllFit ts (kinds_of b.0.outputs)) (sym mine) s.outputs);
          };
          typed = λ given.
              let all = subst (HaveResults cs start) more given in
              all_more (IsTypedQuery cs) p.1 q (old.typed (have_first cs start (results_in_all cs p.1) (results_in cs q) all)) (s.typed (in_one p.1 q f old.count all));
        };
  }

  where_free : (t : Bool) (e : BindError) (r : Reading st.Ctes) (f : Found) → CommonsIf (r f) → CommonsIf (provided t e r f)
  where_free true e r f h = h
  where_free false e r f h = tt

  step : (p : st.Ctes) (c : CommonTable) (f : Found) → written_select c.select ≡ true → Commons p f → CommonsIf (st.with_cte tables p c f)
  step p c f w h = where_free (not (st.is_common c.name.text p.0)) (error.NameTaken c.name.text) (select_of c.select (st.among tables p.0) then (λ b. give (st.one_more_cte p c.name.text b))) f
      (after_select p c f (select_of c.select (st.among tables p.0) f) h (λ fit. select_typed c.select w cs (st.among tables p.0) fit f))

  after_step : (o : Result (st.Ctes × Found) BindError) (next : st.Ctes → Reading st.Ctes) → CommonsIf o → ((p : st.Ctes) (f : Found) → Commons p f → CommonsIf (next p f)) → CommonsIf (follow o next)
  after_step (Ok p) next h k = k p.0 p.1 h
  after_step (Err e) next h k = tt

  all_commons : (ctes : List CommonTable) (p : st.Ctes) (f : Found) → written_tables ctes ≡ true → Commons p f → CommonsIf (through (st.with_cte tables) ctes p f)
  all_commons [] p f w h = h
  all_commons (c ∷ more) p f w h = after_step (st.with_cte tables p c f) (through (st.with_cte tables) more) (step p c f (and_left _ _ w) h) (λ q g k. all_commons more q g (and_right _ _ w) k)

  -- ---- the query over them

  with_ctes_typed : (q : Query) (ctes : List Query) → IsTypedQuery cs q → IsTypedQuery cs (st.with_ctes q ctes)
  with_ctes_typed q ctes h = typed_query cs (record (out-Query q) { ctes = ctes }) (opened cs q h)

  pub with_ctes_results : (q : Query) (ctes : List Query) → results_in cs (st.with_ctes q ctes) ≡ results_in cs q
  with_ctes_results q ctes = results_in_of cs (record (out-Query q) { ctes = ctes }) ∙ sym (results_in_out cs q)

  abbrev QueryIf : Result (Query × Found) BindError → Type 0
  QueryIf (Ok p) = HaveCtes cs (out-Query p.0).ctes → HaveResults cs start (results_in_all cs (out-Query p.0).ctes ++ results_in cs p.0) → IsTypedQuery cs p.0 × AllByRecursion (IsTypedQuery cs) (out-Query p.0).ctes
  QueryIf (Err e) = ⊤

  of_last : (p : st.Ctes) (f : Found) (o : Result (Block × Found) BindError) → Commons p f → (WorldTyped cs (st.among tables p.0) → BlockIf cs (length p.0) f o) → QueryIf (follow o (λ b. give (st.with_ctes b.query p.1)))
  of_last p f (Err e) h k = tt
  of_last p f (Ok b) h k = λ have given.
      let q = b.0.query in
      let e : (out-Query (st.with_ctes q p.1)).ctes ≡ p.1 = ap (λ (x : Query-F FromTree Query). x.ctes) (out-roll-Query (record (out-Query q) { ctes = p.1 })) in
      let old = h.stand (subst (HaveCtes cs) e have) in
      let s : BlockTyped cs f b.0 b.1 = (k old.world).0 in
      let all : HaveResults cs start (results_in_all cs p.1 ++ results_in cs q) = subst (λ rs. HaveResults cs start (results_in_all cs p.1 ++ rs)) (with_ctes_results q p.1)
      (subst (λ qs. HaveResults cs start (results_in_all cs qs ++ results_in cs (st.with_ctes q p.1))) e given) in (
        with_ctes_typed q p.1 (s.typed (in_one p.1 q f old.count all)),
        subst (λ qs. AllByRecursion (IsTypedQuery cs) qs) (sym e) (old.typed (have_first cs start (results_in_all cs p.1) (results_in cs q) all)),
      )

  of_commons : (x : written.Query) (o : Result (st.Ctes × Found) BindError) → written_select x.select ≡ true → CommonsIf o → QueryIf
      (follow o (λ p. select_of x.select (st.among tables p.0) then (λ b. give (st.with_ctes b.query p.1))))
  of_commons x (Err e) w h = tt
  of_commons x (Ok p) w h = of_last p.0 p.1 (select_of x.select (st.among tables p.0.0) p.1) h (λ fit. select_typed x.select w cs (st.among tables p.0.0) fit p.1)

pub queries_typed : QueriesTyped
queries_typed cs tables x found new q fit v w is =
    let none : Commons cs tables found.results ([], []) found = record {
      number = refl;
      stand = λ have. record { count = omega arith; world = record { tables = fit; commons = λ i c none. absurd (subst (λ o. IsNone o) none tt) }; typed = λ given. tt };
    } in
    subst (QueryIf cs tables found.results) is (of_commons cs tables found.results x (through (st.with_cte tables) x.tables ([], []) found) w (all_commons cs tables found.results x.tables ([], []) found v none))
