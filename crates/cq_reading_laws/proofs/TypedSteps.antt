-- What an expression is read as is well typed: the steps of the induction.
use Rattle.std.proofs.Common.{◌≡◌, Bool, true, false, [], ◌∷◌, map, None, Some, refl}
use Rattle.cq_value.proofs.Truths.{and_left, and_right}
use Rattle.cq_grammar.specs.declared.expr.Expr.TheOpen.{Expr-F, Test-F}
use Rattle.cq_reading.specs.declared.bound.Found.{Found}
use Rattle.cq_reading.specs.declared.bound.Bound.{Bound}
use Rattle.cq_reading.specs.Scopes.{Context}
use Rattle.cq_reading.specs.Parts.{Part, TestPart, ItemPart, JoinPart, RelationPart, AddedPart, ArmPart, LaterPart, MultipliedPart, FromPart, GroupPart, HavingPart, OrderPart, SelectPart}
use Rattle.cq_reading.specs.Rules as rule
use Rattle.cq_reading.specs.Widths.{null_width}
use Rattle.cq_reading.specs.Expressions as e
use Rattle.cq_reading.specs.Walk.{part_of, test_part, added_part, arm_part, later_part, multiplied_part, select_of}
use Rattle.cq_reading_laws.specs.Bounds.{MayStand}
use Rattle.cq_reading_laws.specs.Written.{all, written_expr, written_added, written_arm, written_chained, written_multiplied}
use Rattle.cq_reading_laws.proofs.Induction as tree
use Rattle.cq_reading_laws.proofs.Standing.{no_truth}
use Rattle.cq_reading_laws.proofs.FineParts.{first_may, second_may}
use Rattle.cq_reading_laws.proofs.FineSteps.{all_stand}
use Rattle.cq_reading_laws.proofs.TypedNodes.{sound_null}
use Rattle.cq_reading_laws.proofs.TypedKeeping.{Setting, Later, Run, Fine, gives}
use Rattle.cq_reading_laws.proofs.TypedNames.{counted_fine}
use Rattle.cq_reading_laws.proofs.TypedParts.{Reached, Reads, PartTyped, behind_typed, not_typed, compare_typed, tested_typed, chain_typed, is_typed, sum_typed, product_typed, list_typed, between_typed, coalesce_typed}
use Rattle.cq_reading_laws.proofs.TypedFurtherParts.{ArmTyped, SelectTyped, case_typed, column_typed, column_of_typed, aggregate_typed, signed_typed, in_select_typed}

abbrev pub TestTyped : TestPart → Type 0
TestTyped t =
    (z : Setting) (cx : Context) → Reached z cx → MayStand cx t.aggregates → (x : Bound) (negate : Bool) (at : _) (found : Found) → Later (Fine z cx) found x → Run z cx (Later (Fine z cx)) found (t.tests cx x negate at found)

-- what holds of the parts of a tree as the grammar gives it
abbrev pub Q1 : Bool → Part → Type 0
Q1 w p = w ≡ true → PartTyped p

abbrev pub Q2 : Bool → TestPart → Type 0
Q2 w t = w ≡ true → TestTyped t

abbrev pub Q6 : Bool → AddedPart → Type 0
Q6 w a = w ≡ true → PartTyped a.part

abbrev pub Q7 : Bool → ArmPart → Type 0
Q7 w a = w ≡ true → ArmTyped a

abbrev pub Q8 : Bool → LaterPart → Type 0
Q8 w l = w ≡ true → PartTyped l.part

abbrev pub Q9 : Bool → MultipliedPart → Type 0
Q9 w m = w ≡ true → PartTyped m.part

abbrev pub Q14 : Bool → SelectPart → Type 0
Q14 w s = w ≡ true → SelectTyped s

whole : (p : Part) → Reads p.aggregates p.node → PartTyped p
whole p h = behind_typed p.selects p.aggregates p.node h

module _ (Q3 : Bool → ItemPart → Type 0) (Q4 : Bool → JoinPart → Type 0) (Q5 : Bool → RelationPart → Type 0) (Q10 : Bool → FromPart → Type 0) (Q11 : Bool → GroupPart → Type 0) (Q12 : Bool → HavingPart → Type 0)
    (Q13 : Bool → OrderPart → Type 0) where
  pub expressions : tree.KeepsExpr Q1 Q2 Q3 Q4 Q5 Q6 Q7 Q8 Q9 Q10 Q11 Q12 Q13 Q14
  expressions (Expr-F.Or first rest) h =
      whole (e.chain true (part_of first.0) (map later_part (map (λ e. e.0) rest))) (λ z cx have may found. chain_typed z cx have true (part_of first.0) (map later_part (map (λ e. e.0) rest)) (first.1 (and_left _ _ h))
      (all_stand written_chained later_part (λ l. PartTyped l.part) rest (and_right _ _ h)) may found)
  expressions (Expr-F.And first rest) h =
      whole (e.chain false (part_of first.0) (map later_part (map (λ e. e.0) rest))) (λ z cx have may found. chain_typed z cx have false (part_of first.0) (map later_part (map (λ e. e.0) rest)) (first.1 (and_left _ _ h))
      (all_stand written_chained later_part (λ l. PartTyped l.part) rest (and_right _ _ h)) may found)
  expressions (Expr-F.Not inner at) h = whole (e.expr_step (Expr-F.Not (part_of inner.0) at)) (λ z cx have may found. not_typed z cx have (part_of inner.0) at (inner.1 h) may found)
  expressions (Expr-F.Is first rest) h = whole (e.expr_step (Expr-F.Is (part_of first.0) rest)) (λ z cx have may found. is_typed z cx have (part_of first.0) rest (first.1 h) may found)
  expressions (Expr-F.Compare left operator right at) h =
      whole (e.expr_step (Expr-F.Compare (part_of left.0) operator (part_of right.0) at)) (λ z cx have may found. compare_typed z cx have (part_of left.0) operator (part_of right.0) at (left.1 (and_left _ _ h))
      (right.1 (and_right _ _ h)) may found)
  expressions (Expr-F.Tested operand negated test at) h =
      whole (e.expr_step (Expr-F.Tested (part_of operand.0) negated (test_part test.0) at))
      (λ z cx have may found. tested_typed z cx have (part_of operand.0) negated (test_part test.0) at (operand.1 (and_left _ _ h))
      (λ x mid g. test.1 (and_right _ _ h) z cx have (second_may cx (part_of operand.0).aggregates _ may) x negated at mid g) (first_may cx (part_of operand.0).aggregates _ may) found)
  expressions (Expr-F.Sum first rest) h =
      whole (e.expr_step (Expr-F.Sum (part_of first.0) (map added_part (map (λ e. e.0) rest))))
      (λ z cx have may found. sum_typed z cx have (part_of first.0) (map added_part (map (λ e. e.0) rest)) (first.1 (and_left _ _ h))
      (all_stand written_added added_part (λ a. PartTyped a.part) rest (and_right _ _ h)) may found)
  expressions (Expr-F.Product first rest) h =
      whole (e.expr_step (Expr-F.Product (part_of first.0) (map multiplied_part (map (λ e. e.0) rest))))
      (λ z cx have may found. product_typed z cx have (part_of first.0) (map multiplied_part (map (λ e. e.0) rest)) (first.1 (and_left _ _ h))
      (all_stand written_multiplied multiplied_part (λ m. PartTyped m.part) rest (and_right _ _ h)) may found)
  expressions (Expr-F.Signed sign inner at) h = whole (e.expr_step (Expr-F.Signed sign (part_of inner.0) at)) (λ z cx have may found. signed_typed z cx have sign (part_of inner.0) (part_of inner.0).form at (inner.1 h) may found)
  expressions (Expr-F.Number value at) h =
      whole (e.expr_step (Expr-F.Number value at)) (λ z cx have may found. gives z cx (Later (Fine z cx)) found (rule.number value) (λ later l. record { of = refl; expression = λ g. tt; condition = λ g. tt }))
  expressions (Expr-F.Quoted text at) h =
      whole (e.expr_step (Expr-F.Quoted text at)) (λ z cx have may found. gives z cx (Later (Fine z cx)) found (rule.quoted text) (λ later l. record { of = refl; expression = λ g. tt; condition = λ g. tt }))
  expressions (Expr-F.Null at) h = whole (e.expr_step (Expr-F.Null at)) (λ z cx have may found. gives z cx (Later (Fine z cx)) found rule.null (λ later l. sound_null _ _ _ null_width))
  expressions (Expr-F.Column column) h = whole (e.expr_step (Expr-F.Column column)) (λ z cx have may found. column_typed z cx have column found)
  expressions (Expr-F.ColumnOf relation column) h = whole (e.expr_step (Expr-F.ColumnOf relation column)) (λ z cx have may found. column_of_typed z cx have relation column found)
  expressions (Expr-F.Group inner at) h = whole (e.expr_step (Expr-F.Group (part_of inner.0) at)) (λ z cx have may found. inner.1 h z cx have (first_may cx (part_of inner.0).aggregates false may) found)
  expressions (Expr-F.Case arms None at) h =
      whole (e.expr_step (Expr-F.Case (map arm_part (map (λ e. e.0) arms)) None at)) (λ z cx have may found. case_typed z cx have (map arm_part (map (λ e. e.0) arms)) None at
      (all_stand written_arm arm_part ArmTyped arms (and_left _ _ h)) tt may found)
  expressions (Expr-F.Case arms (Some other) at) h =
      whole (e.expr_step (Expr-F.Case (map arm_part (map (λ e. e.0) arms)) (Some (part_of other.0)) at))
      (λ z cx have may found. case_typed z cx have (map arm_part (map (λ e. e.0) arms)) (Some (part_of other.0)) at (all_stand written_arm arm_part ArmTyped arms (and_left _ _ h)) (other.1 (and_right _ _ h)) may found)
  expressions (Expr-F.Coalesce [] at) h = absurd (no_truth h)
  expressions (Expr-F.Coalesce (i ∷ items) at) h =
      whole (e.expr_step (Expr-F.Coalesce ((part_of i.0) ∷ (map part_of (map (λ e. e.0) items))) at))
      (λ z cx have may found. coalesce_typed z cx have ((part_of i.0) ∷ (map part_of (map (λ e. e.0) items))) at (
        i.1 (and_left (written_expr i.0) (all (map written_expr (map (λ e. e.0) items))) h),
        all_stand written_expr part_of PartTyped items
            (and_right (written_expr i.0) (all (map written_expr (map (λ e. e.0) items))) h),
      ) may found)
  expressions (Expr-F.CountAll at) h = whole (e.expr_step (Expr-F.CountAll at)) (λ z cx have may found. counted_fine z cx found at (may refl))
  expressions (Expr-F.Aggregate function argument at) h =
      whole (e.expr_step (Expr-F.Aggregate function (part_of argument.0) at)) (λ z cx have may found. aggregate_typed z cx have function (part_of argument.0) at (argument.1 h) may found)

  pub tests : tree.KeepsTest Q1 Q2 Q3 Q4 Q5 Q6 Q7 Q8 Q9 Q10 Q11 Q12 Q13 Q14
  tests (Test-F.InSelect select) h = λ z cx have may x negate at found g. in_select_typed z cx have (select_of select.0) (select.1 h) x negate at found g
  tests (Test-F.InList items) h = λ z cx have may x negate at found g. list_typed z cx have (map part_of (map (λ e. e.0) items)) (all_stand written_expr part_of PartTyped items h) may x negate at found g
  tests (Test-F.Between low high) h = λ z cx have may x negate at found g. between_typed z cx have (part_of low.0) (part_of high.0) (low.1 (and_left _ _ h)) (high.1 (and_right _ _ h)) may x negate at found g

  pub addeds : tree.KeepsAdded Q1 Q2 Q3 Q4 Q5 Q6 Q7 Q8 Q9 Q10 Q11 Q12 Q13 Q14
  addeds a h = a.term.1 h

  pub arms : tree.KeepsArm Q1 Q2 Q3 Q4 Q5 Q6 Q7 Q8 Q9 Q10 Q11 Q12 Q13 Q14
  arms a h = (a.condition.1 (and_left _ _ h), a.result.1 (and_right _ _ h))

  pub chaineds : tree.KeepsChained Q1 Q2 Q3 Q4 Q5 Q6 Q7 Q8 Q9 Q10 Q11 Q12 Q13 Q14
  chaineds c h = c.part.1 h

  pub multiplieds : tree.KeepsMultiplied Q1 Q2 Q3 Q4 Q5 Q6 Q7 Q8 Q9 Q10 Q11 Q12 Q13 Q14
  multiplieds m h = m.factor.1 h
