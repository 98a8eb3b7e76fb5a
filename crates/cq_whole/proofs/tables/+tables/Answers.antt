use Rattle.std.proofs.Common.{rules, append_assoc}
use Rattle.cq_whole.proofs.Nodes.{tables_query, tables_sub, tables_cross, tables_inner, tables_left}
use Rattle.cq_whole.proofs.tables.+tables.Goals as goal

pub put_tables_in-returns : goal.put_tables_in-returns
put_tables_in-returns t c = rw tables_query (search rules)

pub put_tables_from-returns-in-Sub : goal.put_tables_from-returns-in-Sub
put_tables_from-returns-in-Sub t c = rw (c.in-Sub.is, tables_sub) (search rules)

pub put_tables_from-returns-in_ok-put_tables_from-in-Cross : goal.put_tables_from-returns-in_ok-put_tables_from-in-Cross
put_tables_from-returns-in_ok-put_tables_from-in-Cross t c = rw (c.in-Cross.is, tables_cross) (search (rules, append_assoc))

pub put_tables_from-returns-in_ok-put_tables_from-in-Inner : goal.put_tables_from-returns-in_ok-put_tables_from-in-Inner
put_tables_from-returns-in_ok-put_tables_from-in-Inner t c = rw (c.in-Inner.is, tables_inner) (search (rules, append_assoc))

pub put_tables_from-returns-in_ok-put_tables_from-in-Left : goal.put_tables_from-returns-in_ok-put_tables_from-in-Left
put_tables_from-returns-in_ok-put_tables_from-in-Left t c = rw (c.in-Left.is, tables_left) (search (rules, append_assoc))
