-- What an expression is read as stands: the steps of the induction.
use Rattle.std.proofs.Common.{◌≡◌, ℕ, ◌<◌, Bool, true, false, List, [], ◌∷◌, map, None, Some, arith}
use Rattle.std.specs.Prelude.{◌^◌, nat_lt}
use Rattle.std.specs.List.{AllByRecursion}
use Rattle.cq_grammar.specs.declared.expr.Expr.TheOpen.{Expr-F, Test-F}
use Rattle.cq_reading.specs.declared.bound.Found.{Found}
use Rattle.cq_reading.specs.declared.bound.Bound.{Bound}
use Rattle.cq_reading.specs.declared.bound.Type.TheVariants as type
use Rattle.cq_reading.specs.Parts.{Part, TestPart, ItemPart, JoinPart, RelationPart, FromPart, GroupPart, HavingPart, OrderPart, SelectPart}
use Rattle.cq_reading.specs.Scopes.{Context}
use Rattle.cq_reading.specs.Titles as title
use Rattle.cq_reading.specs.Titles.{Form}
use Rattle.cq_grammar.specs.declared.expr.AddOperator.{AddOperator}
use Rattle.std.proofs.Common.{refl}
use Rattle.cq_value.proofs.Truths.{and_left, and_right}
use Rattle.cq_reading.specs.Rules as rule
use Rattle.cq_reading.specs.Expressions as e
use Rattle.cq_reading.specs.Expressions.{reads}
use Rattle.cq_reading.specs.Walk.{part_of, test_part, added_part, arm_part, later_part, multiplied_part, select_of}
use Rattle.cq_reading_laws.specs.Bounds.{HaveBits, MayStand}
use Rattle.cq_reading_laws.specs.Written.{all, written_expr, written_added, written_arm, written_chained, written_multiplied}
use Rattle.cq_reading_laws.proofs.Induction as tree
use Rattle.cq_reading_laws.proofs.GrowthWalk.{select_grows}
use Rattle.cq_reading_laws.proofs.Onwards.{Later, Kept, Fine, gives}
use Rattle.cq_reading_laws.proofs.Standing.{no_truth, stands_null}
use Rattle.cq_reading_laws.proofs.Digits.{stands_number, stands_quoted}
use Rattle.cq_reading_laws.proofs.FineNames.{counted_fine}
use Rattle.cq_reading_laws.proofs.FineParts.{Stand, PartStands, behind_stands, first_may, second_may, not_stands, compare_stands, tested_stands, chain_stands, is_stands, sum_stands, product_stands, list_stands, between_stands}
use Rattle.cq_reading_laws.proofs.FineNodes.{FormFits, ArmStands, coalesce_stands, case_stands, column_stands, column_of_stands, aggregate_stands, signed_stands, in_select_stands}

abbrev pub ExprStands : Part → Type 0
ExprStands p = PartStands p × FormFits p.form

abbrev pub TestStands : TestPart → Type 0
TestStands t = (ks : List ℕ) (cx : Context) → HaveBits ks cx → MayStand cx t.aggregates → (x : Bound) (negate : Bool) (at : ℕ) (found : Found) → Later ks (Fine ks cx) found x → Kept ks (Fine ks cx) found (t.tests cx x negate at found)

pub all_stand : {A P : Type 0} (W : A → Bool) (f : A → P) (Q : P → Type 0) (xs : List ((a : A) × (W a ≡ true → Q (f a)))) → all (map W (map (λ e. e.0) xs)) ≡ true → AllByRecursion Q (map f (map (λ e. e.0) xs))
all_stand W f Q [] h = tt
all_stand W f Q (x ∷ xs) h = (x.1 (and_left _ _ h), all_stand W f Q xs (and_right _ _ h))

firsts : (ps : List Part) → AllByRecursion ExprStands ps → AllByRecursion PartStands ps
firsts [] h = tt
firsts (p ∷ ps) h = (h.0.0, firsts ps h.1)

whole : (p : Part) → Stand p.aggregates p.node → PartStands p
whole p h = behind_stands p.selects p.aggregates p.node h

small : (n : ℕ) → nat_lt n (2 ^ 64) ≡ true → n < 2 ^ 64
small n h = grind (arith, h)

signed_fits : (sign : AddOperator) (form : Form) → FormFits (e.signed_form sign form)
signed_fits sign (title.Number n) = tt
signed_fits sign (title.Signed s n) = tt
signed_fits sign (title.Name name) = tt
signed_fits sign title.Other = tt

module _ (Q3 : Bool → ItemPart → Type 0) (Q4 : Bool → JoinPart → Type 0) (Q5 : Bool → RelationPart → Type 0) (Q10 : Bool → FromPart → Type 0) (Q11 : Bool → GroupPart → Type 0) (Q12 : Bool → HavingPart → Type 0) (Q13 : Bool → OrderPart → Type 0) (Q14 : Bool → SelectPart → Type 0) where
  pub expressions : tree.KeepsExpr (λ w p. w ≡ true → ExprStands p) (λ w t. w ≡ true → TestStands t) Q3 Q4 Q5 (λ w a. w ≡ true → PartStands a.part) (λ w a. w ≡ true → ArmStands a) (λ w l. w ≡ true → PartStands l.part) (λ w m. w ≡ true → PartStands m.part) Q10 Q11 Q12 Q13 Q14
  expressions (Expr-F.Or first rest) h = (whole (e.chain true (part_of first.0) (map later_part (map (λ e. e.0) rest))) (λ ks cx have may found. chain_stands ks cx have true (part_of first.0) (map later_part (map (λ e. e.0) rest)) (first.1 (and_left _ _ h)).0 (all_stand written_chained later_part (λ l. PartStands l.part) rest (and_right _ _ h)) may found), tt)
  expressions (Expr-F.And first rest) h = (whole (e.chain false (part_of first.0) (map later_part (map (λ e. e.0) rest))) (λ ks cx have may found. chain_stands ks cx have false (part_of first.0) (map later_part (map (λ e. e.0) rest)) (first.1 (and_left _ _ h)).0 (all_stand written_chained later_part (λ l. PartStands l.part) rest (and_right _ _ h)) may found), tt)
  expressions (Expr-F.Not inner at) h = (whole (e.expr_step (Expr-F.Not (part_of inner.0) at)) (λ ks cx have may found. not_stands ks cx have (part_of inner.0) at (inner.1 h).0 may found), tt)
  expressions (Expr-F.Is first rest) h = (whole (e.expr_step (Expr-F.Is (part_of first.0) rest)) (λ ks cx have may found. is_stands ks cx have (part_of first.0) rest (first.1 h).0 may found), tt)
  expressions (Expr-F.Compare left operator right at) h = (whole (e.expr_step (Expr-F.Compare (part_of left.0) operator (part_of right.0) at)) (λ ks cx have may found. compare_stands ks cx have (part_of left.0) operator (part_of right.0) at (left.1 (and_left _ _ h)).0 (right.1 (and_right _ _ h)).0 may found), tt)
  expressions (Expr-F.Tested operand negated test at) h = (whole (e.expr_step (Expr-F.Tested (part_of operand.0) negated (test_part test.0) at)) (λ ks cx have may found. tested_stands ks cx have (part_of operand.0) negated (test_part test.0) at (operand.1 (and_left _ _ h)).0 (λ x mid g. test.1 (and_right _ _ h) ks cx have (second_may cx (part_of operand.0).aggregates _ may) x negated at mid g) (first_may cx (part_of operand.0).aggregates _ may) found), tt)
  expressions (Expr-F.Sum first rest) h = (whole (e.expr_step (Expr-F.Sum (part_of first.0) (map added_part (map (λ e. e.0) rest)))) (λ ks cx have may found. sum_stands ks cx have (part_of first.0) (map added_part (map (λ e. e.0) rest)) (first.1 (and_left _ _ h)).0 (all_stand written_added added_part (λ a. PartStands a.part) rest (and_right _ _ h)) may found), tt)
  expressions (Expr-F.Product first rest) h = (whole (e.expr_step (Expr-F.Product (part_of first.0) (map multiplied_part (map (λ e. e.0) rest)))) (λ ks cx have may found. product_stands ks cx have (part_of first.0) (map multiplied_part (map (λ e. e.0) rest)) (first.1 (and_left _ _ h)).0 (all_stand written_multiplied multiplied_part (λ m. PartStands m.part) rest (and_right _ _ h)) may found), tt)
  expressions (Expr-F.Signed sign inner at) h = (whole (e.expr_step (Expr-F.Signed sign (part_of inner.0) at)) (λ ks cx have may found. signed_stands ks cx have sign (part_of inner.0) (part_of inner.0).form at (inner.1 h).0 (inner.1 h).1 may found), signed_fits sign (part_of inner.0).form)
  expressions (Expr-F.Number value at) h = (whole (e.expr_step (Expr-F.Number value at)) (λ ks cx have may found. gives ks (Fine ks cx) found (rule.number value) (λ later l. stands_number _ _ value (small value h))), small value h)
  expressions (Expr-F.Quoted text at) h = (whole (e.expr_step (Expr-F.Quoted text at)) (λ ks cx have may found. gives ks (Fine ks cx) found (rule.quoted text) (λ later l. stands_quoted _ _ text)), tt)
  expressions (Expr-F.Null at) h = (whole (e.expr_step (Expr-F.Null at)) (λ ks cx have may found. gives ks (Fine ks cx) found rule.null (λ later l. stands_null _ _ type.Null)), tt)
  expressions (Expr-F.Column column) h = (whole (e.expr_step (Expr-F.Column column)) (λ ks cx have may found. column_stands ks cx have column found), tt)
  expressions (Expr-F.ColumnOf relation column) h = (whole (e.expr_step (Expr-F.ColumnOf relation column)) (λ ks cx have may found. column_of_stands ks cx have relation column found), tt)
  expressions (Expr-F.Group inner at) h = (whole (e.expr_step (Expr-F.Group (part_of inner.0) at)) (λ ks cx have may found. (inner.1 h).0 ks cx have (first_may cx (part_of inner.0).aggregates false may) found), tt)
  expressions (Expr-F.Case arms None at) h = (whole (e.expr_step (Expr-F.Case (map arm_part (map (λ e. e.0) arms)) None at)) (λ ks cx have may found. case_stands ks cx have (map arm_part (map (λ e. e.0) arms)) None at (all_stand written_arm arm_part ArmStands arms (and_left _ _ h)) tt may found), tt)
  expressions (Expr-F.Case arms (Some other) at) h = (whole (e.expr_step (Expr-F.Case (map arm_part (map (λ e. e.0) arms)) (Some (part_of other.0)) at)) (λ ks cx have may found. case_stands ks cx have (map arm_part (map (λ e. e.0) arms)) (Some (part_of other.0)) at (all_stand written_arm arm_part ArmStands arms (and_left _ _ h)) (other.1 (and_right _ _ h)).0 may found), tt)
  expressions (Expr-F.Coalesce [] at) h = absurd (no_truth h)
  expressions (Expr-F.Coalesce (i ∷ items) at) h = (whole (e.expr_step (Expr-F.Coalesce ((part_of i.0) ∷ (map part_of (map (λ e. e.0) items))) at)) (λ ks cx have may found. coalesce_stands ks cx have (part_of i.0) (map part_of (map (λ e. e.0) items)) at (i.1 (and_left (written_expr i.0) (all (map written_expr (map (λ e. e.0) items))) h)).0 (firsts (map part_of (map (λ e. e.0) items)) (all_stand written_expr part_of ExprStands items (and_right (written_expr i.0) (all (map written_expr (map (λ e. e.0) items))) h))) may found), tt)
  expressions (Expr-F.CountAll at) h = (whole (e.expr_step (Expr-F.CountAll at)) (λ ks cx have may found. counted_fine ks cx found at (may refl)), tt)
  expressions (Expr-F.Aggregate function argument at) h = (whole (e.expr_step (Expr-F.Aggregate function (part_of argument.0) at)) (λ ks cx have may found. aggregate_stands ks cx have function (part_of argument.0) at (argument.1 h).0 may found), tt)

  pub tests : tree.KeepsTest (λ w p. w ≡ true → ExprStands p) (λ w t. w ≡ true → TestStands t) Q3 Q4 Q5 (λ w a. w ≡ true → PartStands a.part) (λ w a. w ≡ true → ArmStands a) (λ w l. w ≡ true → PartStands l.part) (λ w m. w ≡ true → PartStands m.part) Q10 Q11 Q12 Q13 Q14
  tests (Test-F.InSelect select) h = λ ks cx have may x negate at found g. in_select_stands ks cx have (select_of select.0) (select_grows select.0) x negate at found g
  tests (Test-F.InList items) h = λ ks cx have may x negate at found g. list_stands ks cx have (map part_of (map (λ e. e.0) items)) (firsts (map part_of (map (λ e. e.0) items)) (all_stand written_expr part_of ExprStands items h)) may x negate at found g
  tests (Test-F.Between low high) h = λ ks cx have may x negate at found g. between_stands ks cx have (part_of low.0) (part_of high.0) (low.1 (and_left _ _ h)).0 (high.1 (and_right _ _ h)).0 may x negate at found g

  pub addeds : tree.KeepsAdded (λ w p. w ≡ true → ExprStands p) (λ w t. w ≡ true → TestStands t) Q3 Q4 Q5 (λ w a. w ≡ true → PartStands a.part) (λ w a. w ≡ true → ArmStands a) (λ w l. w ≡ true → PartStands l.part) (λ w m. w ≡ true → PartStands m.part) Q10 Q11 Q12 Q13 Q14
  addeds a h = (a.term.1 h).0

  pub arms : tree.KeepsArm (λ w p. w ≡ true → ExprStands p) (λ w t. w ≡ true → TestStands t) Q3 Q4 Q5 (λ w a. w ≡ true → PartStands a.part) (λ w a. w ≡ true → ArmStands a) (λ w l. w ≡ true → PartStands l.part) (λ w m. w ≡ true → PartStands m.part) Q10 Q11 Q12 Q13 Q14
  arms a h = ((a.condition.1 (and_left _ _ h)).0, (a.result.1 (and_right _ _ h)).0)

  pub chaineds : tree.KeepsChained (λ w p. w ≡ true → ExprStands p) (λ w t. w ≡ true → TestStands t) Q3 Q4 Q5 (λ w a. w ≡ true → PartStands a.part) (λ w a. w ≡ true → ArmStands a) (λ w l. w ≡ true → PartStands l.part) (λ w m. w ≡ true → PartStands m.part) Q10 Q11 Q12 Q13 Q14
  chaineds c h = (c.part.1 h).0

  pub multiplieds : tree.KeepsMultiplied (λ w p. w ≡ true → ExprStands p) (λ w t. w ≡ true → TestStands t) Q3 Q4 Q5 (λ w a. w ≡ true → PartStands a.part) (λ w a. w ≡ true → ArmStands a) (λ w l. w ≡ true → PartStands l.part) (λ w m. w ≡ true → PartStands m.part) Q10 Q11 Q12 Q13 Q14
  multiplieds m h = (m.factor.1 h).0
