-- What an expression is read as stands.
use Rattle.std.proofs.Common.{◌≡◌, true, subst, sym, refl, ◌∙◌}
use Rattle.std.specs.Prelude.{⊤}
use Rattle.cq_meaning.specs.Widths.{input_bits}
use Rattle.cq_grammar.specs.declared.expr.Expr.{Expr}
use Rattle.cq_reading.specs.declared.bound.Found.{Found}
use Rattle.cq_reading.specs.Scopes.{Context}
use Rattle.cq_reading.specs.Expressions.{reads}
use Rattle.cq_reading.specs.Walk.{part_of}
use Rattle.cq_reading_laws.specs.Bounds.{Stands}
use Rattle.cq_reading_laws.specs.Written.{written_expr}
use Rattle.cq_reading_laws.specs.ExpressionLaws.{ResultsGrow, ExpressionsBound, GroupedBound}
use Rattle.cq_reading_laws.proofs.Induction as tree
use Rattle.cq_reading_laws.proofs.Carrying.{Carries}
use Rattle.cq_reading_laws.proofs.CarryingParts.{reads_carry}
use Rattle.cq_reading_laws.proofs.Growth.{Grew, growing_in, same_growing}
use Rattle.cq_reading_laws.proofs.GrowthWalk.{expression_grows}
use Rattle.cq_reading_laws.proofs.Standing.{no_truth}
use Rattle.cq_reading_laws.proofs.Onwards.{Kept, Fine, more_results}
use Rattle.cq_reading_laws.proofs.FineParts.{PartStands}
use Rattle.cq_reading_laws.proofs.FineNodes.{ArmStands}
use Rattle.cq_reading_laws.proofs.FineSteps as step
use Rattle.cq_reading_laws.proofs.FineSteps.{ExprStands, TestStands}

expression_stands : (x : Expr) → written_expr x ≡ true → ExprStands (part_of x)
expression_stands = tree.of_expression (λ w p. w ≡ true → ExprStands p) (λ w t. w ≡ true → TestStands t) (λ w x. ⊤) (λ w x. ⊤) (λ w x. ⊤) (λ w a. w ≡ true → PartStands a.part) (λ w a. w ≡ true → ArmStands a) (λ w l. w ≡ true → PartStands l.part) (λ w m. w ≡ true → PartStands m.part) (λ w x. ⊤) (λ w x. ⊤) (λ w x. ⊤) (λ w x. ⊤) (λ w x. ⊤) (step.expressions (λ w x. ⊤) (λ w x. ⊤) (λ w x. ⊤) (λ w x. ⊤) (λ w x. ⊤) (λ w x. ⊤) (λ w x. ⊤) (λ w x. ⊤)) (step.tests (λ w x. ⊤) (λ w x. ⊤) (λ w x. ⊤) (λ w x. ⊤) (λ w x. ⊤) (λ w x. ⊤) (λ w x. ⊤) (λ w x. ⊤)) (λ y. tt) (λ y. tt) (λ y. tt) (step.addeds (λ w x. ⊤) (λ w x. ⊤) (λ w x. ⊤) (λ w x. ⊤) (λ w x. ⊤) (λ w x. ⊤) (λ w x. ⊤) (λ w x. ⊤)) (step.arms (λ w x. ⊤) (λ w x. ⊤) (λ w x. ⊤) (λ w x. ⊤) (λ w x. ⊤) (λ w x. ⊤) (λ w x. ⊤) (λ w x. ⊤)) (step.chaineds (λ w x. ⊤) (λ w x. ⊤) (λ w x. ⊤) (λ w x. ⊤) (λ w x. ⊤) (λ w x. ⊤) (λ w x. ⊤) (λ w x. ⊤)) (step.multiplieds (λ w x. ⊤) (λ w x. ⊤) (λ w x. ⊤) (λ w x. ⊤) (λ w x. ⊤) (λ w x. ⊤) (λ w x. ⊤) (λ w x. ⊤)) (λ y. tt) (λ y. tt) (λ y. tt) (λ y. tt) (λ y. tt)

pub grouped_bound : GroupedBound
grouped_bound ks cx x found new b written have may is = subst (λ o. Kept ks (Fine ks cx) found o) is ((expression_stands x written).0 ks cx have may found)

pub expressions_bound : ExpressionsBound
expressions_bound ks cx x found new b n written have plain refused is more =
    let last : Found = record new { results = n } in
    let h = grouped_bound ks cx x found new b written have (λ a m. absurd (no_truth (sym refused ∙ m))) is in
    subst (λ g. Stands (input_bits ks g cx.keys new.aggs) n b) plain (h.1 last (more_results ks new last more refl))

grown : (cx : Context) (x : Expr) (found : Found) → Grew cx.may_select found (reads (part_of x) cx found)
unfolding Carries
grown cx x found = reads_carry growing_in same_growing (part_of x) cx (expression_grows x) found

pub results_grow : ResultsGrow
results_grow cx x found new b is = let g = subst (λ o. Grew cx.may_select found o) is (grown cx x found) in (g.0.more, g.0.same)
