-- What stands in an expression: an aggregate, or an IN subquery.
use Rattle.std.specs.Prelude.{Bool, true, false, ◌||◌, List, Option, None, Some}
use Rattle.std.specs.List.{list_any}
use Rattle.cq_grammar.specs.declared.expr.Expr.{Expr}
use Rattle.cq_grammar.specs.declared.expr.Test.{Test}
use Rattle.cq_grammar.specs.declared.expr.Added.{Added, out-Added}
use Rattle.cq_grammar.specs.declared.expr.Multiplied.{Multiplied, out-Multiplied}
use Rattle.cq_grammar.specs.declared.expr.Chained.{Chained, out-Chained}
use Rattle.cq_grammar.specs.declared.expr.Arm.{Arm, out-Arm}
use Rattle.cq_grammar.specs.declared.query.Item.{Item}
use Rattle.cq_grammar.specs.declared.query.OrderKey.{OrderKey, out-OrderKey}
use Rattle.cq_reading.specs.Selects.{has_aggregate}
use Rattle.cq_reading.specs.Parts.{Part, TestPart}
use Rattle.cq_reading.specs.Walk.{part_of, test_part, item_part}
use Rattle.cq_bind_looks.specs.declared.marks.Mark.{Mark}
use Rattle.cq_bind_looks.specs.declared.marks.Mark.TheVariants as mark

abbrev pub mark_of : Mark → Part → Bool
mark_of mark.Aggregate p = p.aggregates
mark_of mark.Subquery p = p.selects

abbrev pub test_mark : Mark → TestPart → Bool
test_mark mark.Aggregate p = p.aggregates
test_mark mark.Subquery p = p.selects

abbrev pub is_aggregate : Mark → Bool
is_aggregate mark.Aggregate = true
is_aggregate mark.Subquery = false

abbrev pub is_subquery : Mark → Bool
is_subquery mark.Aggregate = false
is_subquery mark.Subquery = true

-- whether it stands in an expression, in one of several, and in what is asked of an operand
unfoldable pub bears : Mark → Expr → Bool
bears m e = mark_of m (part_of e)

unfoldable pub test_bears : Mark → Test → Bool
test_bears m t = test_mark m (test_part t)

unfoldable pub chained_bear : Mark → List Chained → Bool
chained_bear m rest = list_any (λ c. bears m (out-Chained c).part) rest

unfoldable pub added_bear : Mark → List Added → Bool
added_bear m rest = list_any (λ a. bears m (out-Added a).term) rest

unfoldable pub multiplied_bear : Mark → List Multiplied → Bool
multiplied_bear m rest = list_any (λ f. bears m (out-Multiplied f).factor) rest

unfoldable pub arms_bear : Mark → List Arm → Bool
arms_bear m arms = list_any (λ a. bears m (out-Arm a).condition || bears m (out-Arm a).result) arms

unfoldable pub items_bear : Mark → List Expr → Bool
items_bear m items = list_any (bears m) items

unfoldable pub else_bears : Mark → Option Expr → Bool
else_bears m None = false
else_bears m (Some e) = bears m e

-- whether an aggregate stands in an item of a select list, and in a key of ORDER BY
unfoldable pub items_aggregate : List Item → Bool
items_aggregate items = list_any (λ i. has_aggregate (item_part i)) items

unfoldable pub keys_aggregate : List OrderKey → Bool
keys_aggregate keys = list_any (λ o. (part_of (out-OrderKey o).key).aggregates) keys
