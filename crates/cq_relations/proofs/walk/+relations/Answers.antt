use Rattle.std.proofs.Common.{rules, append_assoc}
use Rattle.cq_relations.proofs.FromNodes.{relations_cross, relations_inner, relations_left, relations_sub}
use Rattle.cq_relations.proofs.walk.+relations.Goals as goal

pub put_relations-returns-in_ok-distribution-in-Sub : goal.put_relations-returns-in_ok-distribution-in-Sub
put_relations-returns-in_ok-distribution-in-Sub t c = rw (c.in-Sub.is, relations_sub) (search rules)

pub put_relations-returns-in_ok-behind-in-Cross : goal.put_relations-returns-in_ok-behind-in-Cross
put_relations-returns-in_ok-behind-in-Cross t c = rw (c.in-Cross.is, relations_cross) (search (rules, append_assoc))

pub put_relations-returns-in_ok-behind-in-Inner : goal.put_relations-returns-in_ok-behind-in-Inner
put_relations-returns-in_ok-behind-in-Inner t c = rw (c.in-Inner.is, relations_inner) (search (rules, append_assoc))

pub put_relations-returns-in_ok-join-in-Left : goal.put_relations-returns-in_ok-join-in-Left
put_relations-returns-in_ok-join-in-Left t c = rw (c.in-Left.is, relations_left) (search (rules, append_assoc))
