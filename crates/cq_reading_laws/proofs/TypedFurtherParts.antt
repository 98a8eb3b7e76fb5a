-- The nodes of expressions over parts that are well typed: CASE, columns, aggregates, signs and IN subqueries.
use Rattle.std.proofs.Common.{◌≡◌, ℕ, ◌+◌, Bool, true, false, List, [], ◌∷◌, ◌++◌, length, refl, sym, ap, ◌∙◌, subst, arith, Option, None, Some, Result, Ok, Err}
use Rattle.std.specs.Prelude.{⊤}
use Rattle.std.specs.List.{AllByRecursion}
use Rattle.cq_value.proofs.Lists.{append_nil, all_more}
use Rattle.cq_tree.specs.declared.expression.Cond.{InResult}
use Rattle.cq_tree.specs.declared.query.Query.{Query}
use Rattle.cq_grammar.specs.declared.expr.AddOperator.{AddOperator}
use Rattle.cq_grammar.specs.declared.expr.Aggregate.{Aggregate}
use Rattle.cq_grammar.specs.declared.name.Name.{Name}
use Rattle.cq_reading.specs.declared.bound.Found.{Found}
use Rattle.cq_reading.specs.declared.bound.Block.{Block}
use Rattle.cq_reading.specs.declared.bound.Bound.{Bound}
use Rattle.cq_reading.specs.declared.bound.Output.{Output}
use Rattle.cq_reading.specs.declared.error.BindError.{BindError}
use Rattle.cq_reading.specs.declared.bound.Bound.TheVariants.{Value, Truth}
use Rattle.cq_reading.specs.declared.error.BindError.TheVariants as error
use Rattle.cq_reading.specs.Steps.{Reading, give, follow, provided, each}
use Rattle.cq_reading.specs.Widths.{ValueType, expr_of, are_alike, null_width}
use Rattle.cq_reading.specs.Scopes.{World, Context, plain}
use Rattle.cq_reading.specs.Titles as title
use Rattle.cq_reading.specs.Titles.{Form}
use Rattle.cq_reading.specs.Rules as rule
use Rattle.cq_reading.specs.Parts.{Part, ArmPart, SelectPart}
use Rattle.cq_reading.specs.Expressions as e
use Rattle.cq_reading.specs.Expressions.{reads}
use Rattle.cq_reading_laws.specs.Bounds.{MayStand}
use Rattle.cq_reading_laws.proofs.Onwards.{append_all}
use Rattle.cq_reading_laws.proofs.Standing.{no_truth}
use Rattle.cq_reading_laws.proofs.FineParts.{AnyOf, first_may, second_may}
use Rattle.cq_reading_laws.proofs.CarryingParts.{IfPart}
use Rattle.cq_reading_laws.specs.Typing.{AreAlike, IsOneAlike, AllFit, type_over, IsTypedAggregate}
use Rattle.cq_reading_laws.specs.TypedQueries.{Types, result_types, output_types, results_in, results_of, HaveResults, IsTypedQuery}
use Rattle.cq_reading_laws.specs.Reach.{WorldTyped, BlockTyped, kinds_of, types_in, Onward}
use Rattle.cq_reading_laws.proofs.TypedForms.{OfType, alike_below}
use Rattle.cq_reading_laws.proofs.TypedNodes.{sound_truth, sound_null, typed_negated}
use Rattle.cq_reading_laws.proofs.TypedKeeping.{Steady, Setting, Given, Good, Later, Run, RunIf, Fine, on, lasts, given_on, gives, onwards, each_one, weaken, append_length, results_append, have_first, have_rest}
use Rattle.cq_reading_laws.proofs.TypedRules.{signed_fine, chosen_fine, ArmsFine}
use Rattle.cq_reading_laws.proofs.TypedNames.{Plain, named_fine, named_of_fine, summed_fine}
use Rattle.cq_reading_laws.proofs.TypedParts.{Reached, PartTyped, plainly}

abbrev pub ArmTyped : ArmPart → Type 0
ArmTyped a = PartTyped a.condition × PartTyped a.result

-- what the walk gives of a SELECT behind so many CTEs
abbrev pub BlockIf : Types → ℕ → Found → Result (Block × Found) BindError → Type 0
BlockIf cs n found (Ok p) = BlockTyped cs found p.0 p.1 × Steady n cs p.0.query
BlockIf cs n found (Err e) = ⊤

abbrev pub SelectTyped : SelectPart → Type 0
SelectTyped s = (cs : Types) (w : World) → WorldTyped cs w → (found : Found) → BlockIf cs (length w.commons) found (s w found)

module _ (z : Setting) (cx : Context) (have : Reached z cx) where
  abbrev F : Found → Bound → Type 0
  F found b = Later (Fine z cx) found b

  -- ---- CASE

  abbrev PairFine : Found → rule.Pair → Type 0
  PairFine later p = Fine z cx later p.0 × Fine z cx later p.1

  arm_steps : (arms : List ArmPart) (rest : List Part) → AllByRecursion ArmTyped arms → MayStand cx (AnyOf (e.parts_of_arms arms ++ rest)) → (mid : Found) → AllByRecursion
      (λ a. (f : Found) → Onward mid f → Run z cx (Later PairFine) f (e.read_arm cx a f)) arms
  arm_steps [] rest h may mid = tt
  arm_steps (a ∷ more) rest h may mid = (
    (λ f l. onwards z cx F (Later PairFine) f (reads a.condition cx f) _ (h.0.0 z cx have (first_may cx a.condition.aggregates _ may) f) (λ c end m g.
        onwards z cx F (Later PairFine) end (reads a.result cx end) (λ r. give (c, r)) (h.0.1 z cx have (first_may cx a.result.aggregates _ (second_may cx a.condition.aggregates _ may)) end) (λ r last n k.
        gives z cx (Later PairFine) last (c, r) (λ later o. (g later (on end last later n o), k later o))))),
    arm_steps more rest h.1 (second_may cx a.result.aggregates _ (second_may cx a.condition.aggregates _ may)) mid,
  )

  else_may : (arms : List ArmPart) (p : Part) → MayStand cx (AnyOf (e.parts_of_arms arms ++ p ∷ [])) → MayStand cx p.aggregates
  else_may [] p may = first_may cx p.aggregates false may
  else_may (a ∷ more) p may = else_may more p (second_may cx a.result.aggregates _ (second_may cx a.condition.aggregates _ may))

  else_typed : (arms : List ArmPart) (p : Option Part) → IfPart PartTyped p → MayStand cx (AnyOf (e.parts_of_arms arms ++ e.parts_of_else p)) → (found : Found) → Run z cx F found (e.read_else cx p found)
  else_typed arms None h may found = gives z cx F found rule.null (λ later l. sound_null _ _ _ null_width)
  else_typed arms (Some p) h may found = h z cx have (else_may arms p may) found

  pub case_typed : (arms : List ArmPart) (otherwise : Option Part) (at : ℕ) → AllByRecursion ArmTyped arms → IfPart PartTyped otherwise → MayStand cx (AnyOf (e.parts_of_arms arms ++ e.parts_of_else otherwise)) →
      (found : Found) → Run z cx F found (e.case_reading arms otherwise at cx found)
  case_typed arms otherwise at h k may found =
      onwards z cx (Later (ArmsFine z cx found)) F found (each (e.read_arm cx) arms found) _ (each_one z cx PairFine (e.read_arm cx) arms found (arm_steps arms (e.parts_of_else otherwise) h may found)) (λ pairs mid l g.
      onwards z cx F F mid (e.read_else cx otherwise mid) (λ other. rule.chosen pairs other at) (else_typed arms otherwise k may mid) (λ other end m f.
      chosen_fine z cx end pairs other at (lasts (ArmsFine z cx found) mid end pairs m g) f))

  -- ---- columns, aggregates and signs

  pub column_typed : (column : Name) (found : Found) → Run z cx F found (e.column_reading column cx found)
  column_typed column found = named_fine z cx have.columns found column.text column.at column.at

  pub column_of_typed : (relation column : Name) (found : Found) → Run z cx F found (e.column_of_reading relation column cx found)
  column_of_typed relation column found = named_of_fine z cx have.columns found relation.text column.text relation.at relation.at

  pub aggregate_typed : (function : Aggregate) (argument : Part) (at : ℕ) → PartTyped argument → MayStand cx true → (found : Found) → Run z cx F found (e.aggregate_reading function argument at cx found)
  aggregate_typed function argument at h may found =
      onwards z cx (Later (Plain z)) F found (reads argument (plain cx) found) (λ a. rule.summed cx function a at)
      (weaken z cx (plain cx) (Later (Plain z)) found (reads argument (plain cx) found) (λ e. refl) (λ e. e) (h z (plain cx) (plainly z cx have) (λ a b. absurd (no_truth b)) found))
      (λ a mid l g. summed_fine z cx mid function a at (may refl) g)

  pub signed_typed : (sign : AddOperator) (inner : Part) (form : Form) (at : ℕ) → PartTyped inner → MayStand cx (AnyOf (inner ∷ [])) → (found : Found) → Run z cx F found (e.signed_reading sign inner form at cx found)
  signed_typed sign inner (title.Number n) at h may found = gives z cx F found (rule.signed_number sign n) (λ later l. record { of = refl; expression = λ g. tt; condition = λ g. tt })
  signed_typed sign inner (title.Signed s n) at h may found =
      onwards z cx F F found (reads inner cx found) (λ a. rule.signed sign a at) (h z cx have (first_may cx inner.aggregates false may) found) (λ a mid l g. signed_fine z cx mid sign a at g)
  signed_typed sign inner (title.Name name) at h may found =
      onwards z cx F F found (reads inner cx found) (λ a. rule.signed sign a at) (h z cx have (first_may cx inner.aggregates false may) found) (λ a mid l g. signed_fine z cx mid sign a at g)
  signed_typed sign inner title.Other at h may found =
      onwards z cx F F found (reads inner cx found) (λ a. rule.signed sign a at) (h z cx have (first_may cx inner.aggregates false may) found) (λ a mid l g. signed_fine z cx mid sign a at g)

-- ---- IN subqueries

-- a result of these types, of which the one output is alike with x
one_alike : (ts : List ValueType) (x : Bound) (rs : List ValueType) (outputs : List Output) → OfType ts x → AllFit rs (kinds_of outputs) → e.is_one outputs ≡ true → are_alike x (e.output_bound outputs) ≡ true → IsOneAlike
    (type_over ts (expr_of x)) rs
one_alike ts x [] [] of fit one alike = absurd (no_truth one)
one_alike ts x (r ∷ rs) [] of fit one alike = absurd fit
one_alike ts x [] (o ∷ os) of fit one alike = absurd fit
one_alike ts x (r ∷ []) (o ∷ []) of fit one alike = by_bound x of alike
  where
    by_bound : (x : Bound) → OfType ts x → are_alike x (e.output_bound (o ∷ [])) ≡ true → AreAlike (type_over ts (expr_of x)) r
    by_bound (Value y t w) of alike = alike_below (type_over ts y) r t o.kind of fit.0 alike
    by_bound (Truth c) of alike = absurd (no_truth alike)
one_alike ts x (r ∷ s ∷ rs) (o ∷ []) of fit one alike = absurd fit.1
one_alike ts x (r ∷ rs) (o ∷ p ∷ os) of fit one alike = absurd (no_truth one)

-- the result behind those that were there
result_behind : (cs : Types) (k : ℕ) (qs more : List Query) (q : Query) → HaveResults cs k (results_of cs (qs ++ q ∷ more)) → result_types cs (k + length (results_of cs qs)) ≡ output_types cs q
result_behind cs k qs more q h = (have_rest cs k (results_of cs qs) (results_of cs (q ∷ more)) (subst (HaveResults cs k) (results_append cs qs (q ∷ more)) h)).0

module _ (z : Setting) (cx : Context) (x : Bound) (found : Found) (good : Good z found) (fine : Later (Fine z cx) found x) (block : Block) (g : Found) where
  abbrev cs : Types
  cs = z.types

  abbrev began : Found
  began = record found { results = found.results + 1 }

  abbrev end : Found
  end = e.with_sub block.query g

  module _ (b : BlockTyped cs began block g) (steady : Steady z.reach cs block.query) where
    subs_are : end.subs ≡ found.subs ++ block.query ∷ []
    subs_are = ap (λ qs. qs ++ block.query ∷ []) b.subs

    goes : Onward found end
    goes = record { aggs = ([], b.aggs ∙ sym (append_nil found.aggs)); subs = (block.query ∷ [], subs_are) }

    -- the results in it come behind its own
    in_it : Given z end → HaveResults cs began.results (results_in cs block.query)
    in_it h =
        let qs = results_of cs found.subs in
        let rest = have_rest cs z.base qs (results_of cs (block.query ∷ [])) (subst (HaveResults cs z.base) (ap (results_of cs) subs_are ∙ results_append cs found.subs (block.query ∷ [])) h) in
        let e : z.base + length qs + 1 ≡ found.results + 1 = ap (λ n. n + 1) (sym good.typed.numbered) in
        subst (λ n. HaveResults cs n (results_in cs block.query)) e (have_first cs (z.base + length qs + 1) (results_in cs block.query) [] rest.1)

    end_good : Good z end
    end_good = record {
      typed = record {
        numbered =
            let e : results_of cs end.subs ≡ results_of cs found.subs ++ results_of cs (block.query ∷ []) = ap (results_of cs) subs_are ∙ results_append cs found.subs (block.query ∷ []) in
            let l = append_length (results_of cs found.subs) (results_of cs (block.query ∷ [])) in
            let m = append_length (results_in cs block.query) [] in
            let n : length (results_of cs end.subs) ≡ length (results_of cs found.subs) + (1 + length (results_in cs block.query)) = ap length e ∙ omega (arith, l, m) in
            omega (arith, n, good.typed.numbered, b.results);
        subs = λ h. subst (λ qs. AllByRecursion (IsTypedQuery cs) qs) (sym subs_are) (all_more (IsTypedQuery cs) found.subs block.query (good.typed.subs (given_on z found end goes h)) (b.typed (in_it h)));
        aggs = λ h. subst (λ xs. AllByRecursion (IsTypedAggregate z.columns cs.results) xs) (sym b.aggs) (good.typed.aggs (given_on z found end goes h));
      };
      steady = λ e. subst (λ qs. AllByRecursion (Steady z.reach cs) qs) (sym subs_are) (all_more (Steady z.reach cs) found.subs block.query (good.steady e) steady);
    }

    result_fine : (negate : Bool) → e.is_one block.outputs ≡ true → are_alike x (e.output_bound block.outputs) ≡ true → Later (Fine z cx) end (Truth (rule.negated_if negate (InResult (expr_of x) found.results)))
    result_fine negate one alike later l =
        let f = fine later (on found end later goes l) in
        sound_truth _ _ _ _ (λ h.
        let is : later.subs ≡ found.subs ++ (block.query ∷ l.subs.0) = l.subs.1 ∙ ap (λ qs. qs ++ l.subs.0) subs_are ∙ append_all found.subs (block.query ∷ []) l.subs.0 in
        let r : result_types cs found.results ≡ output_types cs block.query = ap (result_types cs) good.typed.numbered ∙ result_behind cs z.base found.subs l.subs.0 block.query
        (subst (λ qs. HaveResults cs z.base (results_of cs qs)) is h) in
        typed_negated (Given z later) _ _ negate (InResult (expr_of x) found.results) (
          f.expression h,
          subst (λ ts. IsOneAlike (type_over (types_in z.columns cx later.aggs) (expr_of x)) ts) (sym r) (one_alike (types_in z.columns cx later.aggs) x (output_types cs block.query) block.outputs f.of b.outputs one alike),
        ))

    abbrev last : Bool → Reading Bound
    last negate = λ f. Ok (Truth (rule.negated_if negate (InResult (expr_of x) found.results)), e.with_sub block.query f)

    among_by : (negate s o a : Bool) (at : ℕ) → cx.may_select ≡ s → e.is_one block.outputs ≡ o → are_alike x (e.output_bound block.outputs) ≡ a
        → RunIf z cx (Later (Fine z cx)) found (provided s (error.Subquery at) (provided o (error.WrongCount at) (provided a (error.Type at) (last negate))) g)
    among_by negate true true true at may one alike = (
      end_good,
      record { onward = goes; no_aggs = λ e. b.aggs; no_subs = λ e. absurd (no_truth (sym e ∙ may)) },
      result_fine negate one alike,
    )
    among_by negate true true false at may one alike = tt
    among_by negate true false a at may one alike = tt
    among_by negate false o a at may one alike = tt

of_select : (z : Setting) (cx : Context) (x : Bound) (negate : Bool) (at : ℕ) (found : Found) → Good z found → Later (Fine z cx) found x → (o : Result (Block × Found) BindError)
    → BlockIf z.types z.reach (record found { results = found.results + 1 }) o → RunIf z cx (Later (Fine z cx)) found (follow o (λ block. e.among cx x negate at found.results block))
of_select z cx x negate at found good fine (Ok p) h = among_by z cx x found good fine p.0 p.1 h.0 h.1 negate cx.may_select (e.is_one p.0.outputs) (are_alike x (e.output_bound p.0.outputs)) at refl refl refl
of_select z cx x negate at found good fine (Err y) h = tt

pub in_select_typed : (z : Setting) (cx : Context) → Reached z cx → (select : SelectPart) → SelectTyped select → (x : Bound) (negate : Bool) (at : ℕ) (found : Found) → Later (Fine z cx) found x → Run z cx
    (Later (Fine z cx)) found (e.in_select_reading select cx x negate at found)
in_select_typed z cx have select h x negate at found fine good =
    of_select z cx x negate at found good fine (select cx.world (record found {
      results =
          found.results + 1;
    })) (subst (λ n. BlockIf z.types n (record found { results = found.results + 1 }) (select cx.world (record found { results = found.results + 1 }))) have.reach
    (h z.types cx.world have.world (record found { results = found.results + 1 })))
