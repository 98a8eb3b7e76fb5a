-- The nodes of expressions over parts that stand: CASE, COALESCE, columns, aggregates, signs and IN subqueries.
use Rattle.std.proofs.Common.{ℕ, ◌+◌, ◌≤◌, ◌<◌, Bool, true, false, List, [], ◌∷◌, ◌++◌, length, refl, arith, Option, None, Some, Result, Ok, Err}
use Rattle.std.specs.Prelude.{⊤, ◌^◌}
use Rattle.std.specs.List.{AllByRecursion}
use Rattle.cq_tree.specs.declared.expression.Cond.{InResult}
use Rattle.cq_grammar.specs.declared.expr.AddOperator.{AddOperator}
use Rattle.cq_grammar.specs.declared.expr.Aggregate.{Aggregate}
use Rattle.cq_grammar.specs.declared.name.Name.{Name}
use Rattle.cq_reading.specs.declared.bound.Found.{Found}
use Rattle.cq_reading.specs.declared.bound.Block.{Block}
use Rattle.cq_reading.specs.declared.bound.Bound.{Bound}
use Rattle.cq_reading.specs.declared.error.BindError.{BindError}
use Rattle.cq_reading.specs.declared.bound.Bound.TheVariants.{Truth}
use Rattle.cq_reading.specs.declared.bound.Type.TheVariants as type
use Rattle.cq_reading.specs.declared.error.BindError.TheVariants as error
use Rattle.cq_reading.specs.Steps.{Reading, give, provided, through, with_next, each}
use Rattle.cq_reading.specs.Widths.{expr_of, are_alike}
use Rattle.cq_reading.specs.Scopes.{Context, plain}
use Rattle.cq_reading.specs.Titles as title
use Rattle.cq_reading.specs.Titles.{Form}
use Rattle.cq_reading.specs.Rules as rule
use Rattle.cq_reading.specs.Parts.{Part, ArmPart, SelectPart}
use Rattle.cq_reading.specs.Expressions as e
use Rattle.cq_reading.specs.Expressions.{reads}
use Rattle.cq_reading_laws.specs.Bounds.{HaveBits, MayStand, Onward}
use Rattle.cq_reading_laws.proofs.Onwards.{Later, Kept, Fine, now, on, more_results, lasts, gives, where_fit, onwards, through_all, each_one}
use Rattle.cq_reading_laws.proofs.Standing.{no_truth, stands_null, stands_truth, bound_negated}
use Rattle.cq_reading_laws.proofs.Digits.{stands_signed}
use Rattle.cq_reading_laws.proofs.Growth.{Grew, Grows}
use Rattle.cq_reading_laws.proofs.Carrying.{Carries}
use Rattle.cq_reading_laws.proofs.CarryingParts.{IfPart}
use Rattle.cq_reading_laws.proofs.GrowthParts.{SelectGrows, SameAggs}
use Rattle.cq_reading_laws.proofs.FineRules.{signed_fine, coalesced_fine, chosen_fine, ArmsFine}
use Rattle.cq_reading_laws.proofs.FineNames.{Plain, named_fine, named_of_fine, summed_fine}
use Rattle.cq_reading_laws.proofs.FineParts.{PartStands, AnyOf, first_may, second_may}

-- a number is one of 64 bits
abbrev pub FormFits : Form → Type 0
FormFits (title.Number n) = n < 2 ^ 64
FormFits (title.Signed sign n) = ⊤
FormFits (title.Name name) = ⊤
FormFits title.Other = ⊤

abbrev pub ArmStands : ArmPart → Type 0
ArmStands a = PartStands a.condition × PartStands a.result

some_more : {B : Type 0} (P : B → Type 0) (bs : List B) (b : B) → AllByRecursion P bs → P b → AllByRecursion P (bs ++ b ∷ []) × (1 ≤ length (bs ++ b ∷ []))
some_more P [] b h p = ((p, tt), omega arith)
some_more P (c ∷ bs) b h p = let k = some_more P bs b h.1 p in ((h.0, k.0), omega (arith, k.1))

-- a SELECT leaves the aggregates
select_onward : (ks : List ℕ) (found : Found) (o : Result (Block × Found) BindError) → Grew true found o → SameAggs found o → Kept ks (λ later block. ⊤) found o
select_onward ks found (Ok p) h same = (more_results ks found p.1 h.0.more same, λ later l. tt)
select_onward ks found (Err x) h same = tt

grew : {A : Type 0} (r : Reading A) (found : Found) → Grows true r → Grew true found (r found)
unfolding Carries
grew r found h = h found

module _ (ks : List ℕ) (cx : Context) (have : HaveBits ks cx) where
  -- ---- COALESCE

  abbrev SomeFine : Found → List Bound → Type 0
  SomeFine later bs = AllByRecursion (Fine ks cx later) bs × (1 ≤ length bs)

  some_next : (p : Part) (bs : List Bound) (f : Found) → PartStands p → MayStand cx p.aggregates → Later ks (λ later bs. AllByRecursion (Fine ks cx later) bs) f bs → Kept ks SomeFine f (with_next (λ p. reads p cx) bs p f)
  some_next p bs f h may g = onwards ks (Fine ks cx) SomeFine f (reads p cx f) (λ b. give (bs ++ b ∷ [])) (h ks cx have may f)
      (λ b end l k. gives ks SomeFine end (bs ++ b ∷ []) (λ later m. some_more (Fine ks cx later) bs b (g later (on ks f end later l m)) (k later m)))

  some_steps : (ps : List Part) → AllByRecursion PartStands ps → MayStand cx (AnyOf ps) → (mid : Found) → AllByRecursion (λ p. (bs : List Bound) (f : Found) → Onward ks mid f → Later ks SomeFine f bs → Kept ks SomeFine f (with_next (λ p. reads p cx) bs p f)) ps
  some_steps [] h may mid = tt
  some_steps (p ∷ more) h may mid = ((λ bs f l g. some_next p bs f h.0 (first_may cx p.aggregates _ may) (λ later m. (g later m).0)), some_steps more h.1 (second_may cx p.aggregates _ may) mid)

  coalesced_some : (bs : List Bound) (at : ℕ) (found : Found) → Later ks SomeFine found bs → Kept ks (Fine ks cx) found (rule.coalesced bs at found)
  coalesced_some [] at found h = absurd (nothing (h found (now ks found)).1)
    where
      nothing : 1 ≤ 0 → ⊥
      nothing l = omega (arith, l)
  coalesced_some (b ∷ bs) at found h = coalesced_fine ks cx found b bs at (λ later l. (h later l).0)

  pub coalesce_stands : (p : Part) (more : List Part) (at : ℕ) → PartStands p → AllByRecursion PartStands more → MayStand cx (AnyOf (p ∷ more)) → (found : Found) → Kept ks (Fine ks cx) found (e.coalesce_reading (p ∷ more) at cx found)
  coalesce_stands p more at h k may found =
      onwards ks SomeFine (Fine ks cx) found (each (λ p. reads p cx) (p ∷ more) found) (λ bs. rule.coalesced bs at)
      (onwards ks SomeFine SomeFine found (with_next (λ p. reads p cx) [] p found) (through (with_next (λ p. reads p cx)) more) (some_next p [] found h (first_may cx p.aggregates _ may) (λ later l. tt))
      (λ bs mid l g. through_all ks SomeFine (with_next (λ p. reads p cx)) more bs mid (some_steps more k (second_may cx p.aggregates _ may) mid) g))
      (λ bs end l g. coalesced_some bs at end g)

  -- ---- CASE

  abbrev PairFine : Found → rule.Pair → Type 0
  PairFine later p = Fine ks cx later p.0 × Fine ks cx later p.1

  arm_steps : (arms : List ArmPart) (rest : List Part) → AllByRecursion ArmStands arms → MayStand cx (AnyOf (e.parts_of_arms arms ++ rest)) → (mid : Found) → AllByRecursion (λ a. (f : Found) → Onward ks mid f → Kept ks PairFine f (e.read_arm cx a f)) arms
  arm_steps [] rest h may mid = tt
  arm_steps (a ∷ more) rest h may mid = (
    (λ f l. onwards ks (Fine ks cx) PairFine f (reads a.condition cx f) _ (h.0.0 ks cx have (first_may cx a.condition.aggregates _ may) f) (λ c end m g.
        onwards ks (Fine ks cx) PairFine end (reads a.result cx end) (λ r. give (c, r)) (h.0.1 ks cx have (first_may cx a.result.aggregates _ (second_may cx a.condition.aggregates _ may)) end) (λ r last n k.
        gives ks PairFine last (c, r) (λ later o. (g later (on ks end last later n o), k later o))))),
    arm_steps more rest h.1 (second_may cx a.result.aggregates _ (second_may cx a.condition.aggregates _ may)) mid,
  )

  else_may : (arms : List ArmPart) (p : Part) → MayStand cx (AnyOf (e.parts_of_arms arms ++ p ∷ [])) → MayStand cx p.aggregates
  else_may [] p may = first_may cx p.aggregates false may
  else_may (a ∷ more) p may = else_may more p (second_may cx a.result.aggregates _ (second_may cx a.condition.aggregates _ may))

  else_stands : (arms : List ArmPart) (p : Option Part) → IfPart PartStands p → MayStand cx (AnyOf (e.parts_of_arms arms ++ e.parts_of_else p)) → (found : Found) → Kept ks (Fine ks cx) found (e.read_else cx p found)
  else_stands arms None h may found = gives ks (Fine ks cx) found rule.null (λ later l. stands_null _ _ type.Null)
  else_stands arms (Some p) h may found = h ks cx have (else_may arms p may) found

  pub case_stands : (arms : List ArmPart) (otherwise : Option Part) (at : ℕ) → AllByRecursion ArmStands arms → IfPart PartStands otherwise → MayStand cx (AnyOf (e.parts_of_arms arms ++ e.parts_of_else otherwise)) → (found : Found) → Kept ks (Fine ks cx) found (e.case_reading arms otherwise at cx found)
  case_stands arms otherwise at h k may found =
      onwards ks (ArmsFine ks cx found) (Fine ks cx) found (each (e.read_arm cx) arms found) _ (each_one ks PairFine (e.read_arm cx) arms found (arm_steps arms (e.parts_of_else otherwise) h may found)) (λ pairs mid l g.
      onwards ks (Fine ks cx) (Fine ks cx) mid (e.read_else cx otherwise mid) (λ other. rule.chosen pairs other at) (else_stands arms otherwise k may mid) (λ other end m f.
      chosen_fine ks cx end pairs other at (lasts ks (ArmsFine ks cx found) mid end pairs m g) f))

  -- ---- columns, aggregates and signs

  pub column_stands : (column : Name) (found : Found) → Kept ks (Fine ks cx) found (e.column_reading column cx found)
  column_stands column found = named_fine ks cx have found column.text column.at column.at

  pub column_of_stands : (relation column : Name) (found : Found) → Kept ks (Fine ks cx) found (e.column_of_reading relation column cx found)
  column_of_stands relation column found = named_of_fine ks cx have found relation.text column.text relation.at relation.at

  pub aggregate_stands : (function : Aggregate) (argument : Part) (at : ℕ) → PartStands argument → MayStand cx true → (found : Found) → Kept ks (Fine ks cx) found (e.aggregate_reading function argument at cx found)
  aggregate_stands function argument at h may found =
      onwards ks (Plain ks) (Fine ks cx) found (reads argument (plain cx) found) (λ a. rule.summed cx function a at) (h ks (plain cx) have (λ a b. absurd (no_truth b)) found) (λ a mid l g. summed_fine ks cx mid function a at (may refl) g)

  pub signed_stands : (sign : AddOperator) (inner : Part) (form : Form) (at : ℕ) → PartStands inner → FormFits form → MayStand cx (AnyOf (inner ∷ [])) → (found : Found) → Kept ks (Fine ks cx) found (e.signed_reading sign inner form at cx found)
  signed_stands sign inner (title.Number n) at h k may found = gives ks (Fine ks cx) found (rule.signed_number sign n) (λ later l. stands_signed _ _ n sign k)
  signed_stands sign inner (title.Signed s n) at h k may found = onwards ks (Fine ks cx) (Fine ks cx) found (reads inner cx found) (λ a. rule.signed sign a at) (h ks cx have (first_may cx inner.aggregates false may) found) (λ a mid l g. signed_fine ks cx mid sign a at g)
  signed_stands sign inner (title.Name name) at h k may found = onwards ks (Fine ks cx) (Fine ks cx) found (reads inner cx found) (λ a. rule.signed sign a at) (h ks cx have (first_may cx inner.aggregates false may) found) (λ a mid l g. signed_fine ks cx mid sign a at g)
  signed_stands sign inner title.Other at h k may found = onwards ks (Fine ks cx) (Fine ks cx) found (reads inner cx found) (λ a. rule.signed sign a at) (h ks cx have (first_may cx inner.aggregates false may) found) (λ a mid l g. signed_fine ks cx mid sign a at g)

  -- ---- IN subqueries

  among_stands : (x : Bound) (negate : Bool) (at k : ℕ) (block : Block) (found : Found) → Later ks (Fine ks cx) found x → k < found.results → Kept ks (Fine ks cx) found (e.among cx x negate at k block found)
  among_stands x negate at k block found h below =
      let c = rule.negated_if negate (InResult (expr_of x) k) in
      let last = λ (f : Found). Ok (Truth c, e.with_sub block.query f) in
      let third = provided (are_alike x (e.output_bound block.outputs)) (error.Type at) last in
      where_fit ks (Fine ks cx) found cx.may_select (error.Subquery at) (provided (e.is_one block.outputs) (error.WrongCount at) third) (λ t.
      where_fit ks (Fine ks cx) found (e.is_one block.outputs) (error.WrongCount at) third (λ u.
      where_fit ks (Fine ks cx) found (are_alike x (e.output_bound block.outputs)) (error.Type at) last (λ v.
      let goes = more_results ks found (e.with_sub block.query found) (omega arith) refl in
      (goes, λ later l. stands_truth _ _ c (bound_negated _ _ negate (InResult (expr_of x) k) ((h later (on ks found (e.with_sub block.query found) later goes l)).expression, omega (arith, below, l.results)))))))

  pub in_select_stands : (select : SelectPart) → SelectGrows select → (x : Bound) (negate : Bool) (at : ℕ) (found : Found) → Later ks (Fine ks cx) found x → Kept ks (Fine ks cx) found (e.in_select_reading select cx x negate at found)
  in_select_stands select h x negate at found g =
      let next : Found = record found { results = found.results + 1 } in
      let goes = more_results ks found next (omega arith) refl in
      onwards ks (λ later k. k < later.results) (Fine ks cx) found (e.numbered found) _ (goes, λ later l. omega (arith, l.results)) (λ k mid l below.
      onwards ks (λ later block. ⊤) (Fine ks cx) mid (select cx.world mid) (λ block. e.among cx x negate at k block) (select_onward ks mid (select cx.world mid) (grew (select cx.world) mid (h cx.world).0) ((h cx.world).1 mid)) (λ block end m tt.
      among_stands x negate at k block end (lasts ks (Fine ks cx) found end x (on ks found mid end l m) g) (below end m)))
