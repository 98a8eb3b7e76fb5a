use Rattle.std.proofs.Common.{rules, append_assoc}
use Rattle.cq_whole.proofs.Nodes.{ins_query, steps_query, ins_sub, steps_sub, ins_cross, steps_cross, ins_inner, steps_inner, ins_left, steps_left}
use Rattle.cq_whole.proofs.steps.+steps.Goals as goal

pub put_ins-returns-clause-steps : goal.put_ins-returns-clause-steps
put_ins-returns-clause-steps t c = rw steps_query (search (rules, append_assoc))

pub put_ins-returns-clause-numbers : goal.put_ins-returns-clause-numbers
put_ins-returns-clause-numbers t c = rw ins_query (search rules)

pub put_ins_below-returns-in-Sub-clause-steps : goal.put_ins_below-returns-in-Sub-clause-steps
put_ins_below-returns-in-Sub-clause-steps t c = rw (c.in-Sub.is, steps_sub) (search rules)

pub put_ins_below-returns-in-Sub-clause-numbers : goal.put_ins_below-returns-in-Sub-clause-numbers
put_ins_below-returns-in-Sub-clause-numbers t c = rw (c.in-Sub.is, ins_sub) (search rules)

pub put_ins_below-returns-in_ok-put_ins_below-in-Cross-clause-steps : goal.put_ins_below-returns-in_ok-put_ins_below-in-Cross-clause-steps
put_ins_below-returns-in_ok-put_ins_below-in-Cross-clause-steps t c = rw (c.in-Cross.is, steps_cross) (search (rules, append_assoc))

pub put_ins_below-returns-in_ok-put_ins_below-in-Cross-clause-numbers : goal.put_ins_below-returns-in_ok-put_ins_below-in-Cross-clause-numbers
put_ins_below-returns-in_ok-put_ins_below-in-Cross-clause-numbers t c = rw (c.in-Cross.is, ins_cross) (search rules)

pub put_ins_below-returns-in_ok-put_ins_below-in-Inner-clause-steps : goal.put_ins_below-returns-in_ok-put_ins_below-in-Inner-clause-steps
put_ins_below-returns-in_ok-put_ins_below-in-Inner-clause-steps t c = rw (c.in-Inner.is, steps_inner) (search (rules, append_assoc))

pub put_ins_below-returns-in_ok-put_ins_below-in-Inner-clause-numbers : goal.put_ins_below-returns-in_ok-put_ins_below-in-Inner-clause-numbers
put_ins_below-returns-in_ok-put_ins_below-in-Inner-clause-numbers t c = rw (c.in-Inner.is, ins_inner) (search rules)

pub put_ins_below-returns-in_ok-put_ins_below-in-Left-clause-steps : goal.put_ins_below-returns-in_ok-put_ins_below-in-Left-clause-steps
put_ins_below-returns-in_ok-put_ins_below-in-Left-clause-steps t c = rw (c.in-Left.is, steps_left) (search (rules, append_assoc))

pub put_ins_below-returns-in_ok-put_ins_below-in-Left-clause-numbers : goal.put_ins_below-returns-in_ok-put_ins_below-in-Left-clause-numbers
put_ins_below-returns-in_ok-put_ins_below-in-Left-clause-numbers t c = rw (c.in-Left.is, ins_left) (search rules)
