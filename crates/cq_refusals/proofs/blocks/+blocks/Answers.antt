use Rattle.std.proofs.Common.{rules, append_assoc, ◌≡◌, ◌++◌, OnOk, subst}
use Rattle.cq_refusals.proofs.BlockLaws.{within_is, inside_is, inside_is_below, within_is_below, below_cross, below_inner, below_left}
use Rattle.cq_refusals.proofs.blocks.+blocks.Goals as goal

pub put_block-returns : goal.put_block-returns
put_block-returns t c = rw within_is (search (rules, append_assoc))

pub put_inside-returns : goal.put_inside-returns
put_inside-returns t c = rw inside_is (search (rules, append_assoc))

pub put_below-returns-in_ok-put_below-in-Cross : goal.put_below-returns-in_ok-put_below-in-Cross
put_below-returns-in_ok-put_below-in-Cross t c = rw (c.in-Cross.is, below_cross) (search (rules, append_assoc))

pub put_below-returns-in_ok-put_below-in-Inner : goal.put_below-returns-in_ok-put_below-in-Inner
put_below-returns-in_ok-put_below-in-Inner t c = rw (c.in-Inner.is, below_inner) (search (rules, append_assoc))

pub put_below-returns-in_ok-put_below-in-Left : goal.put_below-returns-in_ok-put_below-in-Left
put_below-returns-in_ok-put_below-in-Left t c = rw (c.in-Left.is, below_left) (search (rules, append_assoc))

pub put_below-returns-then-branch : goal.put_below-returns-then-branch
put_below-returns-then-branch t c =
    subst (λ fs. OnOk c.put_inside.result (c.put_inside.new.found ≡ c.args.found.now ++ fs))
    (inside_is_below c.args.repartition c.args.catalog.now c.args.whole c.args.from.now c.in-Sub.q _ _ c.in_ok-stays-in-Sub.field-0 c.in-Sub.is c.get.ensures c.get-then-branch.ensures c.in_ok-stays-in-Sub.ensures c.if-branch.true)
    c.put_inside.ensures

pub put_below-returns-else-branch : goal.put_below-returns-else-branch
put_below-returns-else-branch t c =
    subst (λ fs. OnOk c.put_block.result (c.put_block.new.found ≡ c.args.found.now ++ fs))
    (within_is_below c.args.repartition c.args.catalog.now c.args.whole c.args.from.now c.in-Sub.q _ _ c.in_ok-stays-in-Sub.field-0 c.in-Sub.is c.get.ensures c.get-else-branch.ensures c.in_ok-stays-in-Sub.ensures c.if-branch.false)
    c.put_block.ensures
