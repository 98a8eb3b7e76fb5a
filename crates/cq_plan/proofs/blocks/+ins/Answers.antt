use Rattle.std.proofs.Common.{rules, append_assoc, arith}
use Rattle.cq_plan.proofs.BlockLaws.{touched_ins, touched_ins_sub, touched_ins_cross, touched_ins_inner, touched_ins_left, one_more_found}
use Rattle.cq_plan.proofs.blocks.+ins.Goals as goal

pub put_ins-returns : goal.put_ins-returns
put_ins-returns t c = rw touched_ins (search (rules, append_assoc))

pub put_ins_below-returns-in-Sub : goal.put_ins_below-returns-in-Sub
put_ins_below-returns-in-Sub t c = rw (c.in-Sub.is, touched_ins_sub) (search rules)

pub put_ins_below-returns-in_ok-put_ins_below-in-Cross : goal.put_ins_below-returns-in_ok-put_ins_below-in-Cross
put_ins_below-returns-in_ok-put_ins_below-in-Cross t c = rw (c.in-Cross.is, touched_ins_cross) (search (rules, append_assoc))

pub put_ins_below-returns-in_ok-put_ins_below-in-Inner : goal.put_ins_below-returns-in_ok-put_ins_below-in-Inner
put_ins_below-returns-in_ok-put_ins_below-in-Inner t c = rw (c.in-Inner.is, touched_ins_inner) (search (rules, append_assoc))

pub put_ins_below-returns-in_ok-put_ins_below-in-Left : goal.put_ins_below-returns-in_ok-put_ins_below-in-Left
put_ins_below-returns-in_ok-put_ins_below-in-Left t c = rw (c.in-Left.is, touched_ins_left) (search (rules, append_assoc))

pub put_blocks-loop-q-preserved : goal.put_blocks-loop-q-preserved
put_blocks-loop-q-preserved t c =
    one_more_found c.args.catalog.now c.args.found.now c.loop-q.found c.put_alone.new.found c.put_ins.new.found c.args.queries.now c.loop-q.q-index c.q-item.result (omega arith) c.q-item.is c.loop-q.invariant c.in_ok-put_alone.ensures c.in_ok-put_ins.ensures
