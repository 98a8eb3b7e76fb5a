use Rattle.std.proofs.Common.{sym, ap, ◌∙◌}
use Rattle.cq_demands.specs.JoinDemands.{is_plain}
use Rattle.cq_demands.proofs.Nodes.{plain_cross, plain_inner, plain_left, both_plain, first_not}
use Rattle.cq_demands.proofs.joins.+is_plain.Goals as goal

pub returns-then-is_plain : goal.returns-then-is_plain
returns-then-is_plain t c =
    both_plain c.is_plain.result (is_plain c.in-Cross.a) (is_plain c.in-Cross.b) c.is_plain-then-is_plain.result (rw c.get.ensures at c.is_plain.ensures) c.if-is_plain.true (rw c.get-then-is_plain.ensures at c.is_plain-then-is_plain.ensures)
    ∙ sym (ap is_plain c.in-Cross.is ∙ plain_cross c.in-Cross.a c.in-Cross.b)

pub returns-else-is_plain : goal.returns-else-is_plain
returns-else-is_plain t c =
    first_not c.is_plain.result (is_plain c.in-Cross.a) (is_plain c.in-Cross.b) (rw c.get.ensures at c.is_plain.ensures) c.if-is_plain.false
    ∙ sym (ap is_plain c.in-Cross.is ∙ plain_cross c.in-Cross.a c.in-Cross.b)

pub returns-then-is_plain-2 : goal.returns-then-is_plain-2
returns-then-is_plain-2 t c =
    both_plain c.is_plain-in-Inner.result (is_plain c.in-Inner.a) (is_plain c.in-Inner.b) c.is_plain-then-is_plain-2.result (rw c.get-in-Inner.ensures at c.is_plain-in-Inner.ensures) c.if-is_plain-2.true (rw c.get-then-is_plain-2.ensures at c.is_plain-then-is_plain-2.ensures)
    ∙ sym (ap is_plain c.in-Inner.is ∙ plain_inner c.in-Inner.a c.in-Inner.b c.in-Inner.field-2)

pub returns-else-is_plain-2 : goal.returns-else-is_plain-2
returns-else-is_plain-2 t c =
    first_not c.is_plain-in-Inner.result (is_plain c.in-Inner.a) (is_plain c.in-Inner.b) (rw c.get-in-Inner.ensures at c.is_plain-in-Inner.ensures) c.if-is_plain-2.false
    ∙ sym (ap is_plain c.in-Inner.is ∙ plain_inner c.in-Inner.a c.in-Inner.b c.in-Inner.field-2)

pub returns-then-is_plain-3 : goal.returns-then-is_plain-3
returns-then-is_plain-3 t c =
    both_plain c.is_plain-in-Left.result (is_plain c.in-Left.a) (is_plain c.in-Left.b) c.is_plain-then-is_plain-3.result (rw c.get-in-Left.ensures at c.is_plain-in-Left.ensures) c.if-is_plain-3.true (rw c.get-then-is_plain-3.ensures at c.is_plain-then-is_plain-3.ensures)
    ∙ sym (ap is_plain c.in-Left.is ∙ plain_left c.in-Left.a c.in-Left.b c.in-Left.field-2)

pub returns-else-is_plain-3 : goal.returns-else-is_plain-3
returns-else-is_plain-3 t c =
    first_not c.is_plain-in-Left.result (is_plain c.in-Left.a) (is_plain c.in-Left.b) (rw c.get-in-Left.ensures at c.is_plain-in-Left.ensures) c.if-is_plain-3.false
    ∙ sym (ap is_plain c.in-Left.is ∙ plain_left c.in-Left.a c.in-Left.b c.in-Left.field-2)
