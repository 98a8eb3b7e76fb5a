-- A SELECT that groups reads one relation: the induction over the tree.
use Rattle.std.proofs.Common.{◌≡◌, ℕ, Bool, true, false, List, [], ◌∷◌, map, None, Some, refl, subst}
use Rattle.std.specs.Prelude.{⊤}
use Rattle.std.specs.List.{AllByRecursion}
use Rattle.cq_grammar.specs.declared.expr.AddOperator.{AddOperator}
use Rattle.cq_grammar.specs.declared.query.Select.{Select}
use Rattle.cq_grammar.specs.declared.expr.Expr.TheOpen.{Expr-F, Test-F, Item-F}
use Rattle.cq_grammar.specs.declared.expr.Expr.TheFolds.{map-Select}
use Rattle.cq_reading.specs.declared.bound.Found.{Found}
use Rattle.cq_reading.specs.declared.bound.Bound.{Bound}
use Rattle.cq_reading.specs.Steps.{each}
use Rattle.cq_reading.specs.Titles as title
use Rattle.cq_reading.specs.Titles.{Form}
use Rattle.cq_reading.specs.Rules as rule
use Rattle.cq_reading.specs.Scopes.{World, Context, plain}
use Rattle.cq_reading.specs.Parts.{Part, TestPart, ArmPart, SelectPart}
use Rattle.cq_reading.specs.Expressions as e
use Rattle.cq_reading.specs.Expressions.{reads}
use Rattle.cq_reading.specs.Walk.{part_of, test_part, item_part, join_part, relation_part, added_part, arm_part, later_part, multiplied_part, from_part, group_part, having_part, order_part, select_of}
use Rattle.cq_reading_laws.specs.SelectLaws.{GroupsAlone}
use Rattle.cq_reading_laws.proofs.Induction as tree
use Rattle.cq_reading_laws.proofs.Standing.{no_truth}
use Rattle.cq_reading_laws.proofs.Refusals.{Refuses, refuses_then, refuses_behind, or_cases, FormPlain, PartRefuses, reads_refuse, list_refuses, chain_refuses, sum_refuses, product_refuses, first_refuses, group_refuses, two_refuse, pair_refuses, signed_refuses, counted_refuses, summed_refuses, case_refuses}
use Rattle.cq_reading_laws.proofs.RefusalSelects.{ItemRefuses, OrderRefuses, AloneIf, select_alone}

abbrev ExprRefuses : Part → Type 0
ExprRefuses p = PartRefuses p × FormPlain p.form p.aggregates

abbrev TestRefuses : TestPart → Type 0
TestRefuses t = t.aggregates ≡ true → (cx : Context) → cx.joined ≡ true → (x : Bound) (negate : Bool) (at : ℕ) → Refuses (t.tests cx x negate at)

abbrev ArmRefusing : ArmPart → Type 0
ArmRefusing a = PartRefuses a.condition × PartRefuses a.result

abbrev SelectAlone : SelectPart → Type 0
SelectAlone s = (w : World) (found : Found) → AloneIf (s w found)

all_parts : {A P : Type 0} (Q : P → Type 0) (f : A → P) (xs : List ((a : A) × Q (f a))) → AllByRecursion Q (map f (map (λ e. e.0) xs))
all_parts Q f [] = tt
all_parts Q f (e ∷ xs) = (e.1, all_parts Q f xs)

firsts : (ps : List Part) → AllByRecursion ExprRefuses ps → AllByRecursion PartRefuses ps
firsts [] h = tt
firsts (p ∷ ps) h = (h.0.0, firsts ps h.1)

signed_plain : (sign : AddOperator) (form : Form) (a : Bool) → FormPlain (e.signed_form sign form) a
signed_plain sign (title.Number n) a = tt
signed_plain sign (title.Signed s n) a = tt
signed_plain sign (title.Name name) a = tt
signed_plain sign title.Other a = tt

expressions : tree.KeepsExpr (λ w p. ExprRefuses p) (λ w t. TestRefuses t) (λ w i. ItemRefuses i) (λ w j. ⊤) (λ w r. ⊤) (λ w a. PartRefuses a.part) (λ w a. ArmRefusing a) (λ w l. PartRefuses l.part) (λ w m. PartRefuses m.part) (λ w f. ⊤) (λ w g. ⊤) (λ w h. ⊤) (λ w o. OrderRefuses o) (λ w s. SelectAlone s)
expressions (Expr-F.Or first rest) = ((λ is cx j. chain_refuses cx j true (part_of first.0) (map later_part (map (λ e. e.0) rest)) first.1.0 (all_parts (λ l. PartRefuses l.part) later_part rest) is), tt)
expressions (Expr-F.And first rest) = ((λ is cx j. chain_refuses cx j false (part_of first.0) (map later_part (map (λ e. e.0) rest)) first.1.0 (all_parts (λ l. PartRefuses l.part) later_part rest) is), tt)
expressions (Expr-F.Not inner at) = ((λ is cx j. first_refuses cx j (part_of inner.0) (λ a. rule.negated a at) inner.1.0 is), tt)
expressions (Expr-F.Is first rest) = ((λ is cx j. first_refuses cx j (part_of first.0) (e.null_tests rest) first.1.0 is), tt)
expressions (Expr-F.Compare left operator right at) = ((λ is cx j. pair_refuses cx j (part_of left.0) (part_of right.0) (λ a b. rule.compared operator a b at) left.1.0 right.1.0 is), tt)
expressions (Expr-F.Tested operand negated test at) = ((λ is cx j. or_cases (part_of operand.0).aggregates (test_part test.0).aggregates is (λ s. refuses_then (reads (part_of operand.0) cx) (λ x. (test_part test.0).tests cx x negated at) (reads_refuse (part_of operand.0) cx operand.1.0 s j)) (λ s. refuses_behind (reads (part_of operand.0) cx) (λ x. (test_part test.0).tests cx x negated at) (λ x. test.1 s cx j x negated at))), tt)
expressions (Expr-F.Sum first rest) = ((λ is cx j. sum_refuses cx j (part_of first.0) (map added_part (map (λ e. e.0) rest)) first.1.0 (all_parts (λ a. PartRefuses a.part) added_part rest) is), tt)
expressions (Expr-F.Product first rest) = ((λ is cx j. product_refuses cx j (part_of first.0) (map multiplied_part (map (λ e. e.0) rest)) first.1.0 (all_parts (λ m. PartRefuses m.part) multiplied_part rest) is), tt)
expressions (Expr-F.Signed sign inner at) = ((λ is cx j. signed_refuses cx j sign (part_of inner.0) (part_of inner.0).form at inner.1.1 inner.1.0 is), signed_plain sign (part_of inner.0).form _)
expressions (Expr-F.Number value at) = ((λ is. absurd (no_truth is)), refl)
expressions (Expr-F.Quoted text at) = ((λ is. absurd (no_truth is)), tt)
expressions (Expr-F.Null at) = ((λ is. absurd (no_truth is)), tt)
expressions (Expr-F.Column column) = ((λ is. absurd (no_truth is)), refl)
expressions (Expr-F.ColumnOf relation column) = ((λ is. absurd (no_truth is)), tt)
expressions (Expr-F.Group inner at) = ((λ is cx j. group_refuses cx j (part_of inner.0) inner.1.0 is), tt)
expressions (Expr-F.Case arms None at) = ((λ is cx j. case_refuses cx j (map arm_part (map (λ e. e.0) arms)) None at (all_parts ArmRefusing arm_part arms) tt is), tt)
expressions (Expr-F.Case arms (Some other) at) = ((λ is cx j. case_refuses cx j (map arm_part (map (λ e. e.0) arms)) (Some (part_of other.0)) at (all_parts ArmRefusing arm_part arms) other.1.0 is), tt)
expressions (Expr-F.Coalesce items at) = ((λ is cx j. refuses_then (each (λ p. reads p cx) (map part_of (map (λ e. e.0) items))) (λ bs. rule.coalesced bs at) (list_refuses cx j (map part_of (map (λ e. e.0) items)) (firsts (map part_of (map (λ e. e.0) items)) (all_parts ExprRefuses part_of items)) is)), tt)
expressions (Expr-F.CountAll at) = ((λ is cx j. counted_refuses cx j at), tt)
expressions (Expr-F.Aggregate function argument at) = ((λ is cx j. refuses_behind (reads (part_of argument.0) (plain cx)) (λ a. rule.summed cx function a at) (λ a. summed_refuses cx j function a at)), tt)

tests : tree.KeepsTest (λ w p. ExprRefuses p) (λ w t. TestRefuses t) (λ w i. ItemRefuses i) (λ w j. ⊤) (λ w r. ⊤) (λ w a. PartRefuses a.part) (λ w a. ArmRefusing a) (λ w l. PartRefuses l.part) (λ w m. PartRefuses m.part) (λ w f. ⊤) (λ w g. ⊤) (λ w h. ⊤) (λ w o. OrderRefuses o) (λ w s. SelectAlone s)
tests (Test-F.InSelect select) = λ is. absurd (no_truth is)
tests (Test-F.InList items) = λ is cx j x negate at. refuses_then (each (λ p. reads p cx) (map part_of (map (λ e. e.0) items))) (λ bs. rule.listed negate x bs at) (list_refuses cx j (map part_of (map (λ e. e.0) items)) (firsts (map part_of (map (λ e. e.0) items)) (all_parts ExprRefuses part_of items)) is)
tests (Test-F.Between low high) = λ is cx j x negate at. two_refuse cx j (part_of low.0) (part_of high.0) (λ a b. rule.between negate x a b at) low.1.0 high.1.0 is

items : tree.KeepsItem (λ w p. ExprRefuses p) (λ w t. TestRefuses t) (λ w i. ItemRefuses i) (λ w j. ⊤) (λ w r. ⊤) (λ w a. PartRefuses a.part) (λ w a. ArmRefusing a) (λ w l. PartRefuses l.part) (λ w m. PartRefuses m.part) (λ w f. ⊤) (λ w g. ⊤) (λ w h. ⊤) (λ w o. OrderRefuses o) (λ w s. SelectAlone s)
items (Item-F.All at) = tt
items (Item-F.AllOf relation) = tt
items (Item-F.Value value None) = value.1.0
items (Item-F.Value value (Some name)) = value.1.0

addeds : tree.KeepsAdded (λ w p. ExprRefuses p) (λ w t. TestRefuses t) (λ w i. ItemRefuses i) (λ w j. ⊤) (λ w r. ⊤) (λ w a. PartRefuses a.part) (λ w a. ArmRefusing a) (λ w l. PartRefuses l.part) (λ w m. PartRefuses m.part) (λ w f. ⊤) (λ w g. ⊤) (λ w h. ⊤) (λ w o. OrderRefuses o) (λ w s. SelectAlone s)
addeds a = a.term.1.0

arms : tree.KeepsArm (λ w p. ExprRefuses p) (λ w t. TestRefuses t) (λ w i. ItemRefuses i) (λ w j. ⊤) (λ w r. ⊤) (λ w a. PartRefuses a.part) (λ w a. ArmRefusing a) (λ w l. PartRefuses l.part) (λ w m. PartRefuses m.part) (λ w f. ⊤) (λ w g. ⊤) (λ w h. ⊤) (λ w o. OrderRefuses o) (λ w s. SelectAlone s)
arms a = (a.condition.1.0, a.result.1.0)

chaineds : tree.KeepsChained (λ w p. ExprRefuses p) (λ w t. TestRefuses t) (λ w i. ItemRefuses i) (λ w j. ⊤) (λ w r. ⊤) (λ w a. PartRefuses a.part) (λ w a. ArmRefusing a) (λ w l. PartRefuses l.part) (λ w m. PartRefuses m.part) (λ w f. ⊤) (λ w g. ⊤) (λ w h. ⊤) (λ w o. OrderRefuses o) (λ w s. SelectAlone s)
chaineds c = c.part.1.0

multiplieds : tree.KeepsMultiplied (λ w p. ExprRefuses p) (λ w t. TestRefuses t) (λ w i. ItemRefuses i) (λ w j. ⊤) (λ w r. ⊤) (λ w a. PartRefuses a.part) (λ w a. ArmRefusing a) (λ w l. PartRefuses l.part) (λ w m. PartRefuses m.part) (λ w f. ⊤) (λ w g. ⊤) (λ w h. ⊤) (λ w o. OrderRefuses o) (λ w s. SelectAlone s)
multiplieds m = m.factor.1.0

orders : tree.KeepsOrderKey (λ w p. ExprRefuses p) (λ w t. TestRefuses t) (λ w i. ItemRefuses i) (λ w j. ⊤) (λ w r. ⊤) (λ w a. PartRefuses a.part) (λ w a. ArmRefusing a) (λ w l. PartRefuses l.part) (λ w m. PartRefuses m.part) (λ w f. ⊤) (λ w g. ⊤) (λ w h. ⊤) (λ w o. OrderRefuses o) (λ w s. SelectAlone s)
orders x = x.key.1

selects : tree.KeepsSelect (λ w p. ExprRefuses p) (λ w t. TestRefuses t) (λ w i. ItemRefuses i) (λ w j. ⊤) (λ w r. ⊤) (λ w a. PartRefuses a.part) (λ w a. ArmRefusing a) (λ w l. PartRefuses l.part) (λ w m. PartRefuses m.part) (λ w f. ⊤) (λ w g. ⊤) (λ w h. ⊤) (λ w o. OrderRefuses o) (λ w s. SelectAlone s)
selects q = λ w found. select_alone (map-Select _ _ _ _ _ _ _ _ _ _ _ _ _ _ _ _ _ _ _ _ _ _ _ _ _ _ _ _ part_of test_part item_part join_part relation_part added_part arm_part later_part multiplied_part from_part group_part having_part order_part select_of (map-Select _ _ _ _ _ _ _ _ _ _ _ _ _ _ _ _ _ _ _ _ _ _ _ _ _ _ _ _ (λ e. e.0) (λ e. e.0) (λ e. e.0) (λ e. e.0) (λ e. e.0) (λ e. e.0) (λ e. e.0) (λ e. e.0) (λ e. e.0) (λ e. e.0) (λ e. e.0) (λ e. e.0) (λ e. e.0) (λ e. e.0) q)) w (all_parts ItemRefuses item_part q.items) (all_parts OrderRefuses order_part q.order) found

alone : (x : Select) → SelectAlone (select_of x)
alone = tree.of_select (λ w p. ExprRefuses p) (λ w t. TestRefuses t) (λ w i. ItemRefuses i) (λ w j. ⊤) (λ w r. ⊤) (λ w a. PartRefuses a.part) (λ w a. ArmRefusing a) (λ w l. PartRefuses l.part) (λ w m. PartRefuses m.part) (λ w f. ⊤) (λ w g. ⊤) (λ w h. ⊤) (λ w o. OrderRefuses o) (λ w s. SelectAlone s) expressions tests items (λ y. tt) (λ y. tt) addeds arms chaineds multiplieds (λ y. tt) (λ y. tt) (λ y. tt) orders selects

pub groups_alone : GroupsAlone
groups_alone w x found new block is = subst AloneIf is (alone x w found)
