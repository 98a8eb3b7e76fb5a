-- What stands in an expression, by what stands in its parts.
use Rattle.std.proofs.Common.{◌≡◌, ℕ, Bool, true, false, ◌||◌, List, [], ◌∷◌, ◌++◌, map, None, Some, refl, ap, sym, ◌∙◌}
use Rattle.std.specs.List.{list_any}
use Rattle.cq_grammar.specs.declared.expr.AddOperator.{AddOperator}
use Rattle.cq_grammar.specs.declared.expr.Comparison.{Comparison}
use Rattle.cq_grammar.specs.declared.expr.Aggregate.{Aggregate}
use Rattle.cq_grammar.specs.declared.expr.NullTest.{NullTest}
use Rattle.cq_grammar.specs.declared.name.Name.{Name}
use Rattle.cq_grammar.specs.declared.expr.Expr.{Expr}
use Rattle.cq_grammar.specs.declared.expr.Test.{Test}
use Rattle.cq_grammar.specs.declared.query.Select.{Select}
use Rattle.cq_grammar.specs.declared.expr.Added.{Added, out-Added}
use Rattle.cq_grammar.specs.declared.expr.Multiplied.{Multiplied, out-Multiplied}
use Rattle.cq_grammar.specs.declared.expr.Chained.{Chained, out-Chained}
use Rattle.cq_grammar.specs.declared.expr.Arm.{Arm, out-Arm}
use Rattle.cq_grammar.specs.declared.expr.Expr.TheOpen.{Expr-F}
use Rattle.cq_grammar.specs.declared.expr.Expr.TheVariants as e
use Rattle.cq_grammar.specs.declared.expr.Test.TheVariants as tests
use Rattle.cq_reading.specs.Parts.{Part}
use Rattle.cq_reading.specs.Expressions.{parts_of_arms}
use Rattle.cq_reading.specs.Walk.{part_of, later_part, added_part, multiplied_part, arm_part}
use Rattle.cq_bind_looks.specs.declared.marks.Mark.{Mark}
use Rattle.cq_bind_looks.specs.declared.marks.Mark.TheVariants as mark
use Rattle.cq_bind_looks.specs.Marks.{is_aggregate, is_subquery, bears, test_bears, chained_bear, added_bear, multiplied_bear, arms_bear, items_bear, else_bears}
use Rattle.cq_bind_looks.proofs.Looks.{node_Or, node_And, node_Not, node_Is, node_Compare, node_Tested, node_Sum, node_Product, node_Signed, node_Number, node_Quoted, node_Null, node_Column, node_ColumnOf, node_Group, node_Case, node_CaseElse, node_Coalesce, node_CountAll, node_Aggregate, test_InSelect, test_InList, test_Between, later_part_is, added_part_is, multiplied_part_is, arm_part_is}

or_none : (b : Bool) → (b || false) ≡ b
or_none true = refl
or_none false = refl

or_behind : (a b c : Bool) → (a || (b || c)) ≡ ((a || b) || c)
or_behind true b c = refl
or_behind false b c = refl

-- ---- lists

chained_bear_aggregates : (rest : List Chained) → list_any (λ p. p.aggregates) (map (λ l. l.part) (map later_part rest)) ≡ chained_bear mark.Aggregate rest
unfolding chained_bear bears
chained_bear_aggregates [] = refl
chained_bear_aggregates (l ∷ more) = ap (λ p. p.part.aggregates || list_any (λ p. p.aggregates) (map (λ l. l.part) (map later_part more))) (later_part_is l) ∙ ap (λ b. (part_of (out-Chained l).part).aggregates || b) (chained_bear_aggregates more)

added_bear_aggregates : (rest : List Added) → list_any (λ p. p.aggregates) (map (λ l. l.part) (map added_part rest)) ≡ added_bear mark.Aggregate rest
unfolding added_bear bears
added_bear_aggregates [] = refl
added_bear_aggregates (l ∷ more) = ap (λ p. p.part.aggregates || list_any (λ p. p.aggregates) (map (λ l. l.part) (map added_part more))) (added_part_is l) ∙ ap (λ b. (part_of (out-Added l).term).aggregates || b) (added_bear_aggregates more)

multiplied_bear_aggregates : (rest : List Multiplied) → list_any (λ p. p.aggregates) (map (λ l. l.part) (map multiplied_part rest)) ≡ multiplied_bear mark.Aggregate rest
unfolding multiplied_bear bears
multiplied_bear_aggregates [] = refl
multiplied_bear_aggregates (l ∷ more) = ap (λ p. p.part.aggregates || list_any (λ p. p.aggregates) (map (λ l. l.part) (map multiplied_part more))) (multiplied_part_is l) ∙ ap (λ b. (part_of (out-Multiplied l).factor).aggregates || b) (multiplied_bear_aggregates more)

items_bear_aggregates : (items : List Expr) → list_any (λ p. p.aggregates) (map part_of items) ≡ items_bear mark.Aggregate items
unfolding items_bear bears
items_bear_aggregates [] = refl
items_bear_aggregates (e ∷ more) = ap (λ b. (part_of e).aggregates || b) (items_bear_aggregates more)

chained_bear_selects : (rest : List Chained) → list_any (λ p. p.selects) (map (λ l. l.part) (map later_part rest)) ≡ chained_bear mark.Subquery rest
unfolding chained_bear bears
chained_bear_selects [] = refl
chained_bear_selects (l ∷ more) = ap (λ p. p.part.selects || list_any (λ p. p.selects) (map (λ l. l.part) (map later_part more))) (later_part_is l) ∙ ap (λ b. (part_of (out-Chained l).part).selects || b) (chained_bear_selects more)

added_bear_selects : (rest : List Added) → list_any (λ p. p.selects) (map (λ l. l.part) (map added_part rest)) ≡ added_bear mark.Subquery rest
unfolding added_bear bears
added_bear_selects [] = refl
added_bear_selects (l ∷ more) = ap (λ p. p.part.selects || list_any (λ p. p.selects) (map (λ l. l.part) (map added_part more))) (added_part_is l) ∙ ap (λ b. (part_of (out-Added l).term).selects || b) (added_bear_selects more)

multiplied_bear_selects : (rest : List Multiplied) → list_any (λ p. p.selects) (map (λ l. l.part) (map multiplied_part rest)) ≡ multiplied_bear mark.Subquery rest
unfolding multiplied_bear bears
multiplied_bear_selects [] = refl
multiplied_bear_selects (l ∷ more) = ap (λ p. p.part.selects || list_any (λ p. p.selects) (map (λ l. l.part) (map multiplied_part more))) (multiplied_part_is l) ∙ ap (λ b. (part_of (out-Multiplied l).factor).selects || b) (multiplied_bear_selects more)

items_bear_selects : (items : List Expr) → list_any (λ p. p.selects) (map part_of items) ≡ items_bear mark.Subquery items
unfolding items_bear bears
items_bear_selects [] = refl
items_bear_selects (e ∷ more) = ap (λ b. (part_of e).selects || b) (items_bear_selects more)

arms_bear_aggregates : (arms : List Arm) (tail : List Part) → list_any (λ p. p.aggregates) (parts_of_arms (map arm_part arms) ++ tail) ≡ (arms_bear mark.Aggregate arms || list_any (λ p. p.aggregates) tail)
unfolding arms_bear bears
arms_bear_aggregates [] tail = refl
arms_bear_aggregates (a ∷ more) tail =
    let c = (part_of (out-Arm a).condition).aggregates in
    let r = (part_of (out-Arm a).result).aggregates in
    ap (λ p. p.condition.aggregates || (p.result.aggregates || list_any (λ p. p.aggregates) (parts_of_arms (map arm_part more) ++ tail))) (arm_part_is a)
    ∙ ap (λ b. c || (r || b)) (arms_bear_aggregates more tail)
    ∙ or_behind c r (arms_bear mark.Aggregate more || list_any (λ p. p.aggregates) tail)
    ∙ or_behind (c || r) (arms_bear mark.Aggregate more) (list_any (λ p. p.aggregates) tail)

arms_bear_selects : (arms : List Arm) (tail : List Part) → list_any (λ p. p.selects) (parts_of_arms (map arm_part arms) ++ tail) ≡ (arms_bear mark.Subquery arms || list_any (λ p. p.selects) tail)
unfolding arms_bear bears
arms_bear_selects [] tail = refl
arms_bear_selects (a ∷ more) tail =
    let c = (part_of (out-Arm a).condition).selects in
    let r = (part_of (out-Arm a).result).selects in
    ap (λ p. p.condition.selects || (p.result.selects || list_any (λ p. p.selects) (parts_of_arms (map arm_part more) ++ tail))) (arm_part_is a)
    ∙ ap (λ b. c || (r || b)) (arms_bear_selects more tail)
    ∙ or_behind c r (arms_bear mark.Subquery more || list_any (λ p. p.selects) tail)
    ∙ or_behind (c || r) (arms_bear mark.Subquery more) (list_any (λ p. p.selects) tail)

-- ---- the nodes

pub bears_Or : (m : Mark) (first : Expr) (rest : List Chained) → bears m (e.Or first rest) ≡ (bears m first || chained_bear m rest)
unfolding bears
bears_Or mark.Aggregate first rest = ap (λ p. p.aggregates) (node_Or first rest) ∙ ap (λ b. (part_of first).aggregates || b) (chained_bear_aggregates rest)
bears_Or mark.Subquery first rest = ap (λ p. p.selects) (node_Or first rest) ∙ ap (λ b. (part_of first).selects || b) (chained_bear_selects rest)

pub bears_And : (m : Mark) (first : Expr) (rest : List Chained) → bears m (e.And first rest) ≡ (bears m first || chained_bear m rest)
unfolding bears
bears_And mark.Aggregate first rest = ap (λ p. p.aggregates) (node_And first rest) ∙ ap (λ b. (part_of first).aggregates || b) (chained_bear_aggregates rest)
bears_And mark.Subquery first rest = ap (λ p. p.selects) (node_And first rest) ∙ ap (λ b. (part_of first).selects || b) (chained_bear_selects rest)

pub bears_Not : (m : Mark) (inner : Expr) (at : ℕ) → bears m (e.Not inner at) ≡ bears m inner
unfolding bears
bears_Not mark.Aggregate inner at = ap (λ p. p.aggregates) (node_Not inner at) ∙ or_none _
bears_Not mark.Subquery inner at = ap (λ p. p.selects) (node_Not inner at) ∙ or_none _

pub bears_Is : (m : Mark) (first : Expr) (rest : List NullTest) → bears m (e.Is first rest) ≡ bears m first
unfolding bears
bears_Is mark.Aggregate first rest = ap (λ p. p.aggregates) (node_Is first rest) ∙ or_none _
bears_Is mark.Subquery first rest = ap (λ p. p.selects) (node_Is first rest) ∙ or_none _

pub bears_Compare : (m : Mark) (left : Expr) (operator : Comparison) (right : Expr) (at : ℕ) → bears m (e.Compare left operator right at) ≡ (bears m left || bears m right)
unfolding bears
bears_Compare mark.Aggregate left operator right at = ap (λ p. p.aggregates) (node_Compare left operator right at) ∙ ap (λ b. (part_of left).aggregates || b) (or_none _)
bears_Compare mark.Subquery left operator right at = ap (λ p. p.selects) (node_Compare left operator right at) ∙ ap (λ b. (part_of left).selects || b) (or_none _)

pub bears_Tested : (m : Mark) (operand : Expr) (negated : Bool) (test : Test) (at : ℕ) → bears m (e.Tested operand negated test at) ≡ (bears m operand || test_bears m test)
unfolding bears test_bears
bears_Tested mark.Aggregate operand negated test at = ap (λ p. p.aggregates) (node_Tested operand negated test at)
bears_Tested mark.Subquery operand negated test at = ap (λ p. p.selects) (node_Tested operand negated test at)

pub bears_Sum : (m : Mark) (first : Expr) (rest : List Added) → bears m (e.Sum first rest) ≡ (bears m first || added_bear m rest)
unfolding bears
bears_Sum mark.Aggregate first rest = ap (λ p. p.aggregates) (node_Sum first rest) ∙ ap (λ b. (part_of first).aggregates || b) (added_bear_aggregates rest)
bears_Sum mark.Subquery first rest = ap (λ p. p.selects) (node_Sum first rest) ∙ ap (λ b. (part_of first).selects || b) (added_bear_selects rest)

pub bears_Product : (m : Mark) (first : Expr) (rest : List Multiplied) → bears m (e.Product first rest) ≡ (bears m first || multiplied_bear m rest)
unfolding bears
bears_Product mark.Aggregate first rest = ap (λ p. p.aggregates) (node_Product first rest) ∙ ap (λ b. (part_of first).aggregates || b) (multiplied_bear_aggregates rest)
bears_Product mark.Subquery first rest = ap (λ p. p.selects) (node_Product first rest) ∙ ap (λ b. (part_of first).selects || b) (multiplied_bear_selects rest)

pub bears_Signed : (m : Mark) (sign : AddOperator) (inner : Expr) (at : ℕ) → bears m (e.Signed sign inner at) ≡ bears m inner
unfolding bears
bears_Signed mark.Aggregate sign inner at = ap (λ p. p.aggregates) (node_Signed sign inner at) ∙ or_none _
bears_Signed mark.Subquery sign inner at = ap (λ p. p.selects) (node_Signed sign inner at) ∙ or_none _

pub bears_Number : (m : Mark) (value at : ℕ) → bears m (e.Number value at) ≡ false
unfolding bears
bears_Number mark.Aggregate value at = ap (λ p. p.aggregates) (node_Number value at)
bears_Number mark.Subquery value at = ap (λ p. p.selects) (node_Number value at)

pub bears_Quoted : (m : Mark) (text : List ℕ) (at : ℕ) → bears m (e.Quoted text at) ≡ false
unfolding bears
bears_Quoted mark.Aggregate text at = ap (λ p. p.aggregates) (node_Quoted text at)
bears_Quoted mark.Subquery text at = ap (λ p. p.selects) (node_Quoted text at)

pub bears_Null : (m : Mark) (at : ℕ) → bears m (e.Null at) ≡ false
unfolding bears
bears_Null mark.Aggregate at = ap (λ p. p.aggregates) (node_Null at)
bears_Null mark.Subquery at = ap (λ p. p.selects) (node_Null at)

pub bears_Column : (m : Mark) (column : Name) → bears m (e.Column column) ≡ false
unfolding bears
bears_Column mark.Aggregate column = ap (λ p. p.aggregates) (node_Column column)
bears_Column mark.Subquery column = ap (λ p. p.selects) (node_Column column)

pub bears_ColumnOf : (m : Mark) (relation column : Name) → bears m (e.ColumnOf relation column) ≡ false
unfolding bears
bears_ColumnOf mark.Aggregate relation column = ap (λ p. p.aggregates) (node_ColumnOf relation column)
bears_ColumnOf mark.Subquery relation column = ap (λ p. p.selects) (node_ColumnOf relation column)

pub bears_Group : (m : Mark) (inner : Expr) (at : ℕ) → bears m (e.Group inner at) ≡ bears m inner
unfolding bears
bears_Group mark.Aggregate inner at = ap (λ p. p.aggregates) (node_Group inner at) ∙ or_none _
bears_Group mark.Subquery inner at = ap (λ p. p.selects) (node_Group inner at) ∙ or_none _

pub bears_Case : (m : Mark) (arms : List Arm) (at : ℕ) → bears m (e.Case arms None at) ≡ (arms_bear m arms || else_bears m None)
unfolding bears else_bears
bears_Case mark.Aggregate arms at = ap (λ p. p.aggregates) (node_Case arms at) ∙ arms_bear_aggregates arms []
bears_Case mark.Subquery arms at = ap (λ p. p.selects) (node_Case arms at) ∙ arms_bear_selects arms []

pub bears_CaseElse : (m : Mark) (arms : List Arm) (other : Expr) (at : ℕ) → bears m (e.Case arms (Some other) at) ≡ (arms_bear m arms || else_bears m (Some other))
unfolding bears else_bears
bears_CaseElse mark.Aggregate arms other at = ap (λ p. p.aggregates) (node_CaseElse arms other at) ∙ arms_bear_aggregates arms (part_of other ∷ []) ∙ ap (λ b. arms_bear mark.Aggregate arms || b) (or_none _)
bears_CaseElse mark.Subquery arms other at = ap (λ p. p.selects) (node_CaseElse arms other at) ∙ arms_bear_selects arms (part_of other ∷ []) ∙ ap (λ b. arms_bear mark.Subquery arms || b) (or_none _)

pub bears_Coalesce : (m : Mark) (items : List Expr) (at : ℕ) → bears m (e.Coalesce items at) ≡ items_bear m items
unfolding bears
bears_Coalesce mark.Aggregate items at = ap (λ p. p.aggregates) (node_Coalesce items at) ∙ items_bear_aggregates items
bears_Coalesce mark.Subquery items at = ap (λ p. p.selects) (node_Coalesce items at) ∙ items_bear_selects items

pub bears_CountAll : (m : Mark) (at : ℕ) → bears m (e.CountAll at) ≡ is_aggregate m
unfolding bears
bears_CountAll mark.Aggregate at = ap (λ p. p.aggregates) (node_CountAll at)
bears_CountAll mark.Subquery at = ap (λ p. p.selects) (node_CountAll at)

pub bears_Aggregate : (m : Mark) (function : Aggregate) (argument : Expr) (at : ℕ) → bears m (e.Aggregate function argument at) ≡ (is_aggregate m || bears m argument)
unfolding bears
bears_Aggregate mark.Aggregate function argument at = ap (λ p. p.aggregates) (node_Aggregate function argument at)
bears_Aggregate mark.Subquery function argument at = ap (λ p. p.selects) (node_Aggregate function argument at) ∙ or_none _

-- ---- IN and BETWEEN

pub test_bears_InSelect : (m : Mark) (select : Select) → test_bears m (tests.InSelect select) ≡ is_subquery m
unfolding bears test_bears
test_bears_InSelect mark.Aggregate select = ap (λ p. p.aggregates) (test_InSelect select)
test_bears_InSelect mark.Subquery select = ap (λ p. p.selects) (test_InSelect select)

pub test_bears_InList : (m : Mark) (items : List Expr) → test_bears m (tests.InList items) ≡ items_bear m items
unfolding bears test_bears
test_bears_InList mark.Aggregate items = ap (λ p. p.aggregates) (test_InList items) ∙ items_bear_aggregates items
test_bears_InList mark.Subquery items = ap (λ p. p.selects) (test_InList items) ∙ items_bear_selects items

pub test_bears_Between : (m : Mark) (low high : Expr) → test_bears m (tests.Between low high) ≡ (bears m low || bears m high)
unfolding bears test_bears
test_bears_Between mark.Aggregate low high = ap (λ p. p.aggregates) (test_Between low high)
test_bears_Between mark.Subquery low high = ap (λ p. p.selects) (test_Between low high)

pub ruleset marks = (bears_Or, bears_And, bears_Not, bears_Is, bears_Compare, bears_Tested, bears_Sum, bears_Product, bears_Signed, bears_Number, bears_Quoted, bears_Null, bears_Column, bears_ColumnOf, bears_Group, bears_Case, bears_CaseElse, bears_Coalesce, bears_CountAll, bears_Aggregate, test_bears_InSelect, test_bears_InList, test_bears_Between)
