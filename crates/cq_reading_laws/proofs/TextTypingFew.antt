-- A statement that is read has no more CTEs than have their numbers.
use Rattle.std.proofs.Common.{◌≡◌, ℕ, ◌+◌, ◌≤◌, Bool, true, false, not, List, [], ◌∷◌, length, refl, ap, ◌∙◌, subst, arith, Result, Ok, Err}
use Rattle.std.specs.Prelude.{⊤}
use Rattle.cq_value.proofs.Truths.{and_left, and_right}
use Rattle.cq_catalog.specs.declared.info.TableInfo.{TableInfo}
use Rattle.cq_grammar.specs.declared.query.Query as written
use Rattle.cq_grammar.specs.declared.query.CommonTable.{CommonTable}
use Rattle.cq_tree.specs.declared.query.Query.{Query}
use Rattle.cq_reading.specs.declared.bound.Found.{Found}
use Rattle.cq_reading.specs.declared.bound.Block.{Block}
use Rattle.cq_reading.specs.declared.error.BindError.{BindError}
use Rattle.cq_reading.specs.declared.error.BindError.TheVariants as error
use Rattle.cq_reading.specs.Steps.{Reading, give, provided, follow, ◌then◌, through}
use Rattle.cq_reading.specs.Walk.{select_of}
use Rattle.cq_reading.specs.Statements as st
use Rattle.cq_reading_laws.specs.Written.{written_select}
use Rattle.cq_reading_laws.specs.QueryLaws.{written_tables}
use Rattle.cq_reading_laws.specs.StepLaws.{start_of}
use Rattle.cq_reading_laws.proofs.FineQueries.{length_more}
use Rattle.cq_reading_laws.proofs.StepSubs.{BlockIf}
use Rattle.cq_reading_laws.proofs.StepTree.{select_steps}

module _ (tables : List TableInfo) where
  -- so many CTEs are read, and each has a SELECT of its own
  record Counted (count : ℕ) (p : st.Ctes) (f : Found) : Type 0 where
    pub counted : length p.1 ≡ count
    pub blocks : count ≤ f.blocks
    pub most : count ≤ 64

  abbrev CountedIf : ℕ → Result (st.Ctes × Found) BindError → Type 0
  CountedIf count (Ok p) = Counted count p.0 p.1
  CountedIf count (Err e) = ⊤

  after_block : (count : ℕ) (p : st.Ctes) (name : List ℕ) (f : Found) (o : Result (Block × Found) BindError) → Counted count p f → BlockIf (st.among tables p.0) f o
      → CountedIf (count + 1) (follow o (λ b. give (st.one_more_cte p name b)))
  after_block count p name f (Ok b) h k = record {
    counted = length_more p.1 b.0.query ∙ ap (λ j. j + 1) h.counted;
    blocks = omega (arith, h.blocks, k.blocks);
    most = omega (arith, h.blocks, k.room);
  }
  after_block count p name f (Err e) h k = tt

  where_free : (count : ℕ) (t : Bool) (e : BindError) (r : Reading st.Ctes) (f : Found) → CountedIf count (r f) → CountedIf count (provided t e r f)
  where_free count true e r f h = h
  where_free count false e r f h = tt

  step : (count : ℕ) (p : st.Ctes) (c : CommonTable) (f : Found) → written_select c.select ≡ true → Counted count p f → CountedIf (count + 1) (st.with_cte tables p c f)
  step count p c f w h =
      where_free (count + 1) (not (st.is_common c.name.text p.0)) (error.NameTaken c.name.text) (select_of c.select (st.among tables p.0) then (λ b. give (st.one_more_cte p c.name.text b))) f
      (after_block count p c.name.text f (select_of c.select (st.among tables p.0) f) h (select_steps c.select w (st.among tables p.0) f))

  after_step : (count most : ℕ) (o : Result (st.Ctes × Found) BindError) (next : st.Ctes → Reading st.Ctes) → CountedIf count o → ((p : st.Ctes) (f : Found) → Counted count p f → CountedIf most (next p f)) → CountedIf most (follow o next)
  after_step count most (Ok p) next h k = k p.0 p.1 h
  after_step count most (Err e) next h k = tt

  all_counted : (count : ℕ) (ctes : List CommonTable) (p : st.Ctes) (f : Found) → written_tables ctes ≡ true → Counted count p f → CountedIf (count + length ctes) (through (st.with_cte tables) ctes p f)
  all_counted count [] p f w h = let e : count ≡ count + 0 = omega arith in subst (λ j. Counted j p f) e h
  all_counted count (c ∷ more) p f w h =
      let e : count + 1 + length more ≡ count + length (c ∷ more) = omega arith in
      after_step (count + 1) (count + length (c ∷ more)) (st.with_cte tables p c f) (through (st.with_cte tables) more) (step count p c f (and_left _ _ w) h)
      (λ q g k. subst (λ j. CountedIf j (through (st.with_cte tables) more q g)) e (all_counted (count + 1) more q g (and_right _ _ w) k))

  abbrev FewIf : ℕ → Result (Query × Found) BindError → Type 0
  FewIf n (Ok p) = n ≤ 64
  FewIf n (Err e) = ⊤

  of_block : (n : ℕ) (ctes : List Query) (o : Result (Block × Found) BindError) → n ≤ 64 → FewIf n (follow o (λ b. give (st.with_ctes b.query ctes)))
  of_block n ctes (Ok b) h = h
  of_block n ctes (Err e) h = tt

  of_ctes : (n : ℕ) (x : written.Query) (o : Result (st.Ctes × Found) BindError) → CountedIf n o → FewIf n (follow o (λ p. select_of x.select (st.among tables p.0) then (λ b. give (st.with_ctes b.query p.1))))
  of_ctes n x (Ok p) h = of_block n p.0.1 (select_of x.select (st.among tables p.0.0) p.1) h.most
  of_ctes n x (Err e) h = tt

  pub few : (x : written.Query) (new : Found) (q : Query) → written_tables x.tables ≡ true → st.query_of tables x (start_of x) ≡ Ok (q, new) → length x.tables ≤ 64
  few x new q w is =
      let none : Counted 0 ([], []) (start_of x) = record { counted = refl; blocks = omega arith; most = omega arith } in
      let ctes = through (st.with_cte tables) x.tables ([], []) (start_of x) in
      let e : 0 + length x.tables ≡ length x.tables = omega arith in
      subst (FewIf (length x.tables)) is (of_ctes (length x.tables) x ctes (subst (λ i. CountedIf i ctes) e (all_counted 0 x.tables ([], []) (start_of x) w none)))
