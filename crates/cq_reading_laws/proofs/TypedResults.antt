-- There are types of results over which the query of a statement is well typed.
use Rattle.std.proofs.Common.{◌≡◌, ℕ, zero, suc, ◌+◌, ◌<◌, Bool, true, false, not, List, [], ◌∷◌, ◌++◌, length, refl, sym, ap, ◌∙◌, subst, arith, Some, Result, Ok, Err}
use Rattle.std.specs.Prelude.{⊤, slice_get, slice_index_or}
use Rattle.std.specs.List.{AllByRecursion}
use Rattle.cq_value.proofs.Lists.{all_more}
use Rattle.cq_value.proofs.Truths.{and_left, and_right}
use Rattle.cq_catalog.specs.declared.info.TableInfo.{TableInfo}
use Rattle.cq_grammar.specs.declared.query.Query as written
use Rattle.cq_grammar.specs.declared.query.CommonTable.{CommonTable}
use Rattle.cq_tree.specs.declared.query.FromTree.{FromTree}
use Rattle.cq_tree.specs.declared.query.FromTree.TheOpen.{Query-F}
use Rattle.cq_tree.specs.declared.query.Query.{Query, out-Query, out-roll-Query}
use Rattle.cq_reading.specs.declared.bound.Found.{Found}
use Rattle.cq_reading.specs.declared.bound.Block.{Block}
use Rattle.cq_reading.specs.declared.error.BindError.{BindError}
use Rattle.cq_reading.specs.declared.error.BindError.TheVariants as error
use Rattle.cq_reading.specs.Steps.{Reading, give, provided, follow, ◌then◌, through}
use Rattle.cq_reading.specs.Widths.{ValueType}
use Rattle.cq_reading.specs.Walk.{select_of}
use Rattle.cq_reading.specs.Statements as st
use Rattle.cq_reading_laws.specs.Written.{written_select}
use Rattle.cq_reading_laws.specs.QueryLaws.{written_tables}
use Rattle.cq_reading_laws.proofs.Onwards.{append_all}
use Rattle.cq_reading_laws.specs.Typing.{AllFit}
use Rattle.cq_reading_laws.specs.TypedQueries.{Types, over, result_types, output_types, results_in, results_in_all, HaveResults}
use Rattle.cq_reading_laws.specs.Reach.{kinds_of, TablesTyped, WorldTyped, BlockTyped}
use Rattle.cq_reading_laws.specs.TypingLaws.{HaveCtes, ResultsThere}
use Rattle.cq_reading_laws.proofs.TypedKeeping.{SameBefore, Steady}
use Rattle.cq_reading_laws.proofs.TypedFurtherParts.{BlockIf}
use Rattle.cq_reading_laws.proofs.TypedFrom.{is_below}
use Rattle.cq_reading_laws.proofs.TypedTree.{select_typed}
use Rattle.cq_reading_laws.proofs.TypedStatements.{IsNone, IfSome, with_last, length_more, with_ctes_results}

-- ---- lists of results

at_first : (rs more : List (List ValueType)) (i : ℕ) → i < length rs → slice_index_or rs i [] ≡ slice_index_or (rs ++ more) i []
at_first [] more i l = absurd (omega (arith, l))
at_first (r ∷ rs) more zero l = refl
at_first (r ∷ rs) more (suc i) l = at_first rs more i (omega (arith, l))

at_next : (rs more : List (List ValueType)) (r : List ValueType) → slice_index_or (rs ++ r ∷ more) (length rs) [] ≡ r
at_next [] more r = refl
at_next (s ∷ rs) more r = at_next rs more r

all_at : {A : Type 0} (P : A → Type 0) (xs : List A) → AllByRecursion P xs → (i : ℕ) (x : A) → slice_get xs i ≡ Some x → P x
all_at P [] h i x is = absurd (subst (λ o. IsNone o) is tt)
all_at P (a ∷ xs) h zero x is = subst (λ o. IfSome P o) is h.0
all_at P (a ∷ xs) h (suc i) x is = all_at P xs h.1 i x is

module _ (kinds : List (List ValueType)) where
  abbrev T : List (List ValueType) → Types
  T rs = over kinds rs

  grown : (rs more : List (List ValueType)) → SameBefore (length rs) (T rs) (T (rs ++ more))
  grown rs more = record { tables = refl; results = λ i l. at_first rs more i l }

  have_behind : (rs more : List (List ValueType)) → HaveResults (T (rs ++ more)) (length rs) more
  have_behind rs [] = tt
  have_behind rs (r ∷ more) = (
    at_next rs more r,
    subst (λ n. HaveResults (T (rs ++ r ∷ more)) n more) (length_more rs r) (subst (λ ss. HaveResults (T ss) (length (rs ++ r ∷ [])) more) (append_all rs (r ∷ []) more) (have_behind (rs ++ r ∷ []) more)),
  )

  -- what hangs on the first results alone does so behind one more
  steady_on : (rs : List (List ValueType)) (r : List ValueType) (q : Query) → Steady (length rs) (T rs) q → Steady (length (rs ++ r ∷ [])) (T (rs ++ r ∷ [])) q
  steady_on rs r q h ds s =
      let a = h (T (rs ++ r ∷ [])) (grown rs (r ∷ [])) in
      let l = length_more rs r in
      let b = h ds (record { tables = s.tables; results = λ i below. at_first rs (r ∷ []) i below ∙ s.results i (omega (arith, below, l)) }) in
      (sym a.0 ∙ b.0, sym a.1 ∙ b.1)

  all_steady_on : (rs : List (List ValueType)) (r : List ValueType) (qs : List Query) → AllByRecursion (Steady (length rs) (T rs)) qs → AllByRecursion (Steady (length (rs ++ r ∷ [])) (T (rs ++ r ∷ []))) qs
  all_steady_on rs r [] h = tt
  all_steady_on rs r (q ∷ qs) h = (steady_on rs r q h.0, all_steady_on rs r qs h.1)

  steady_in_all : (rs more : List (List ValueType)) (qs : List Query) → AllByRecursion (Steady (length rs) (T rs)) qs → results_in_all (T rs) qs ≡ results_in_all (T (rs ++ more)) qs
  steady_in_all rs more [] h = refl
  steady_in_all rs more (q ∷ qs) h =
      ap (λ us. us ++ results_in_all (T rs) qs) (h.0 (T (rs ++ more)) (grown rs more)).1 ∙ ap (λ us. results_in (T (rs ++ more)) q ++ us) (steady_in_all rs more qs h.1)

  -- the CTEs' results have the types of their outputs, also before further results
  ctes_before : (rs more : List (List ValueType)) (qs : List Query) → length qs ≡ length rs → HaveCtes (T rs) qs → AllByRecursion (Steady (length rs) (T rs)) qs → HaveCtes (T (rs ++ more)) qs
  ctes_before rs more qs count have steady i c is =
      let below = is_below qs i c is in
      sym (at_first rs more i (omega (arith, below, count))) ∙ (have i c is ∙ (all_at (Steady (length rs) (T rs)) qs steady i c is (T (rs ++ more)) (grown rs more)).0)

  module _ (tables : List TableInfo) (fit : TablesTyped (T []) tables) where
    -- CTEs so far, whose results have these types
    record Sized (p : st.Ctes) (rs : List (List ValueType)) : Type 0 where
      number : length p.0 ≡ length rs
      count : length p.1 ≡ length rs
      world : WorldTyped (T rs) (st.among tables p.0)
      ctes : HaveCtes (T rs) p.1
      steady : AllByRecursion (Steady (length rs) (T rs)) p.1

    abbrev SizedIf : ℕ → Result (st.Ctes × Found) BindError → Type 0
    SizedIf n (Ok p) = (rs : List (List ValueType)) × Sized p.0 rs × (length rs ≡ n)
    SizedIf n (Err e) = ⊤

    one_more : (p : st.Ctes) (name : List ℕ) (f : Found) (b : Block) (g : Found) (rs : List (List ValueType)) → Sized p rs → BlockTyped (T rs) f b g → Steady (length rs) (T rs) b.query
        → Sized (st.one_more_cte p name b) (rs ++ output_types (T rs) b.query ∷ [])
    one_more p name f b g rs h s steady =
        let q = b.query in
        let r = output_types (T rs) q in
        let next = rs ++ r ∷ [] in
        let l = length_more rs r in
        record {
          number = length_more p.0 (st.common_of_block name b) ∙ (ap (λ n. n + 1) h.number ∙ sym l);
          count = length_more p.1 q ∙ (ap (λ n. n + 1) h.count ∙ sym l);
          world = record {
            tables = fit;
            commons = with_last (λ i c. AllFit (result_types (T next) i) (kinds_of c.outputs)) p.0 (st.common_of_block name b)
                (λ i c is. let below = is_below p.0 i c is in subst (λ ts. AllFit ts (kinds_of c.outputs)) (at_first rs (r ∷ []) i (omega (arith, below, h.number))) (h.world.commons i c is))
                (subst (λ ts. AllFit ts (kinds_of b.outputs)) (sym (ap (λ n. result_types (T next) n) h.number ∙ at_next rs [] r)) s.outputs);
          };
          ctes = with_last (λ i c. result_types (T next) i ≡ output_types (T next) c) p.1 q (ctes_before rs (r ∷ []) p.1 h.count h.ctes h.steady)
              (ap (λ n. result_types (T next) n) h.count ∙ (at_next rs [] r ∙ (steady (T next) (grown rs (r ∷ []))).0));
          steady = all_more (Steady (length next) (T next)) p.1 q (all_steady_on rs r p.1 h.steady) (steady_on rs r q steady);
        }

    after_select : (p : st.Ctes) (c : CommonTable) (f : Found) (rs : List (List ValueType)) → Sized p rs → (o : Result (Block × Found) BindError) → BlockIf (T rs) (length p.0) f o
        → SizedIf (length rs + 1) (follow o (λ b. give (st.one_more_cte p c.name.text b)))
    after_select p c f rs h (Err e) k = tt
    after_select p c f rs h (Ok b) k =
        let r = output_types (T rs) b.0.query in
        (rs ++ r ∷ [], one_more p c.name.text f b.0 b.1 rs h k.0 (subst (λ n. Steady n (T rs) b.0.query) h.number k.1), length_more rs r)

    where_free : (n : ℕ) (t : Bool) (e : BindError) (r : Reading st.Ctes) (f : Found) → SizedIf n (r f) → SizedIf n (provided t e r f)
    where_free n true e r f h = h
    where_free n false e r f h = tt

    step : (p : st.Ctes) (c : CommonTable) (f : Found) (rs : List (List ValueType)) → written_select c.select ≡ true → Sized p rs → SizedIf (length rs + 1) (st.with_cte tables p c f)
    step p c f rs w h = where_free (length rs + 1) (not (st.is_common c.name.text p.0)) (error.NameTaken c.name.text) (select_of c.select (st.among tables p.0) then (λ b. give (st.one_more_cte p c.name.text b))) f
        (after_select p c f rs h (select_of c.select (st.among tables p.0) f) (select_typed c.select w (T rs) (st.among tables p.0) h.world f))

    after_step : (n m : ℕ) (o : Result (st.Ctes × Found) BindError) (next : st.Ctes → Reading st.Ctes) → SizedIf n o →
        ((p : st.Ctes) (f : Found) (rs : List (List ValueType)) → Sized p rs → length rs ≡ n → SizedIf m (next p f)) → SizedIf m (follow o next)
    after_step n m (Ok p) next h k = k p.0 p.1 h.0 h.1 h.2
    after_step n m (Err e) next h k = tt

    all_sized : (ctes : List CommonTable) (p : st.Ctes) (f : Found) (rs : List (List ValueType)) (n : ℕ) → written_tables ctes ≡ true → Sized p rs → length rs + length ctes ≡ n → SizedIf n (through (st.with_cte tables) ctes p f)
    all_sized [] p f rs n w h e = (rs, h, omega (arith, e))
    all_sized (c ∷ more) p f rs n w h e = after_step (length rs + 1) n (st.with_cte tables p c f) (through (st.with_cte tables) more) (step p c f rs (and_left _ _ w) h)
        (λ q g ss k is. all_sized more q g ss n (and_right _ _ w) k (omega (arith, e, is)))

    -- ---- the query over them

    abbrev ThereIf : ℕ → Result (Query × Found) BindError → Type 0
    ThereIf n (Ok p) = (rs : List (List ValueType)) × HaveCtes (T rs) (out-Query p.0).ctes × HaveResults (T rs) n (results_in_all (T rs) (out-Query p.0).ctes ++ results_in (T rs) p.0)
    ThereIf n (Err e) = ⊤

    of_last : (n : ℕ) (p : st.Ctes) (f : Found) (rs : List (List ValueType)) → Sized p rs → length rs ≡ n → (o : Result (Block × Found) BindError) → BlockIf (T rs) (length p.0) f o → ThereIf n
        (follow o (λ b. give (st.with_ctes b.query p.1)))
    of_last n p f rs h is (Err e) k = tt
    of_last n p f rs h is (Ok b) k =
        let q = b.0.query in
        let e : (out-Query (st.with_ctes q p.1)).ctes ≡ p.1 = ap (λ (x : Query-F FromTree Query). x.ctes) (out-roll-Query (record (out-Query q) { ctes = p.1 })) in
        let ins = results_in_all (T rs) p.1 ++ results_in (T rs) q in
        let all = rs ++ ins in
        let steady : Steady (length rs) (T rs) q = subst (λ m. Steady m (T rs) q) h.number k.1 in
        let one : results_in (T rs) q ≡ results_in (T all) (st.with_ctes q p.1) = (steady (T all) (grown rs ins)).1 ∙ sym (with_ctes_results (T all) tables n q p.1) in
        let same : ins ≡ results_in_all (T all) p.1 ++ results_in (T all) (st.with_ctes q p.1) =
        ap (λ us. us ++ results_in (T rs) q) (steady_in_all rs ins p.1 h.steady) ∙ ap (λ us. results_in_all (T all) p.1 ++ us) one in
        let there : HaveResults (T all) n (results_in_all (T all) p.1 ++ results_in (T all) (st.with_ctes q p.1)) = subst (HaveResults (T all) n) same (subst (λ m. HaveResults (T all) m ins) is (have_behind rs ins)) in (
          all,
          subst (HaveCtes (T all)) (sym e) (ctes_before rs ins p.1 h.count h.ctes h.steady),
          subst (λ qs. HaveResults (T all) n (results_in_all (T all) qs ++ results_in (T all) (st.with_ctes q p.1))) (sym e) there,
        )

    of_ctes : (n : ℕ) (x : written.Query) (o : Result (st.Ctes × Found) BindError) → written_select x.select ≡ true → SizedIf n o → ThereIf n
        (follow o (λ p. select_of x.select (st.among tables p.0) then (λ b. give (st.with_ctes b.query p.1))))
    of_ctes n x (Err e) w h = tt
    of_ctes n x (Ok p) w h = of_last n p.0 p.1 h.0 h.1 h.2 (select_of x.select (st.among tables p.0.0) p.1) (select_typed x.select w (T h.0) (st.among tables p.0.0) h.1.world p.1)

    no_ctes : Sized ([], []) []
    no_ctes = record {
      number = refl;
      count = refl;
      world = record { tables = fit; commons = λ i c none. absurd (subst (λ o. IsNone o) none tt) };
      ctes = λ i c none. absurd (subst (λ o. IsNone o) none tt);
      steady = tt;
    }

pub results_there : ResultsThere
results_there kinds tables x found new q fit v w is behind =
    subst (ThereIf kinds tables fit found.results) is
    (of_ctes kinds tables fit found.results x (through (st.with_cte tables) x.tables ([], []) found) w
    (all_sized kinds tables fit x.tables ([], []) found [] found.results v (no_ctes kinds tables fit) (omega (arith, behind))))
