use Rattle.std.proofs.Common.{rules}
use Rattle.cq_tree.specs.declared.expression.Expr.{the_lemmas}
use Rattle.cq_meaning.proofs.Nodes.{value_neg, value_add, value_sub, value_mul, value_div, value_rem, safe_neg, safe_add, safe_sub, safe_mul, safe_div, safe_rem, truth_and, truth_or, truth_not, safe_and, safe_or, safe_not}
use Rattle.cq_queries.proofs.TreeRows.{value_of_case, value_of_coalesce, case_arms, case_other, coalesce_all}
use Rattle.cq_queries.proofs.expression.+eval.Goals as goal

pub look-look-requires : goal.look-look-requires
look-look-requires t c = (search (rules, the_lemmas, c.in-Neg.is), rw c.get.ensures (safe_neg _ _ c.in-Neg.a (rw c.in-Neg.is at c.requires)).0)

pub look-negate-requires : goal.look-negate-requires
look-negate-requires t c = rw (c.look.ensures, c.get.ensures) (safe_neg _ _ c.in-Neg.a (rw c.in-Neg.is at c.requires)).1

pub look-returns-in-Neg : goal.look-returns-in-Neg
look-returns-in-Neg t c = rw (c.in-Neg.is, value_neg) (search rules)

pub look-look-requires-in-Add : goal.look-look-requires-in-Add
look-look-requires-in-Add t c = (search (rules, the_lemmas, c.in-Add.is), rw c.get-in-Add.ensures (safe_add _ _ c.in-Add.a c.in-Add.b (rw c.in-Add.is at c.requires)).0)

pub look-look-requires-in-Add-2 : goal.look-look-requires-in-Add-2
look-look-requires-in-Add-2 t c = (search (rules, the_lemmas, c.in-Add.is), rw c.get-in-Add-2.ensures (safe_add _ _ c.in-Add.a c.in-Add.b (rw c.in-Add.is at c.requires)).1)

pub look-add-requires : goal.look-add-requires
look-add-requires t c = rw (c.look-in-Add.ensures, c.get-in-Add.ensures, c.look-in-Add-2.ensures, c.get-in-Add-2.ensures) (safe_add _ _ c.in-Add.a c.in-Add.b (rw c.in-Add.is at c.requires)).2

pub look-returns-in-Add : goal.look-returns-in-Add
look-returns-in-Add t c = rw (c.in-Add.is, value_add) (search rules)

pub look-look-requires-in-Sub : goal.look-look-requires-in-Sub
look-look-requires-in-Sub t c = (search (rules, the_lemmas, c.in-Sub.is), rw c.get-in-Sub.ensures (safe_sub _ _ c.in-Sub.a c.in-Sub.b (rw c.in-Sub.is at c.requires)).0)

pub look-look-requires-in-Sub-2 : goal.look-look-requires-in-Sub-2
look-look-requires-in-Sub-2 t c = (search (rules, the_lemmas, c.in-Sub.is), rw c.get-in-Sub-2.ensures (safe_sub _ _ c.in-Sub.a c.in-Sub.b (rw c.in-Sub.is at c.requires)).1)

pub look-subtract-requires : goal.look-subtract-requires
look-subtract-requires t c = rw (c.look-in-Sub.ensures, c.get-in-Sub.ensures, c.look-in-Sub-2.ensures, c.get-in-Sub-2.ensures) (safe_sub _ _ c.in-Sub.a c.in-Sub.b (rw c.in-Sub.is at c.requires)).2

pub look-returns-in-Sub : goal.look-returns-in-Sub
look-returns-in-Sub t c = rw (c.in-Sub.is, value_sub) (search rules)

pub look-look-requires-in-Mul : goal.look-look-requires-in-Mul
look-look-requires-in-Mul t c = (search (rules, the_lemmas, c.in-Mul.is), rw c.get-in-Mul.ensures (safe_mul _ _ c.in-Mul.a c.in-Mul.b (rw c.in-Mul.is at c.requires)).0)

pub look-look-requires-in-Mul-2 : goal.look-look-requires-in-Mul-2
look-look-requires-in-Mul-2 t c = (search (rules, the_lemmas, c.in-Mul.is), rw c.get-in-Mul-2.ensures (safe_mul _ _ c.in-Mul.a c.in-Mul.b (rw c.in-Mul.is at c.requires)).1)

pub look-multiply-requires : goal.look-multiply-requires
look-multiply-requires t c = rw (c.look-in-Mul.ensures, c.get-in-Mul.ensures, c.look-in-Mul-2.ensures, c.get-in-Mul-2.ensures) (safe_mul _ _ c.in-Mul.a c.in-Mul.b (rw c.in-Mul.is at c.requires)).2

pub look-returns-in-Mul : goal.look-returns-in-Mul
look-returns-in-Mul t c = rw (c.in-Mul.is, value_mul) (search rules)

pub look-look-requires-in-Div : goal.look-look-requires-in-Div
look-look-requires-in-Div t c = (search (rules, the_lemmas, c.in-Div.is), rw c.get-in-Div.ensures (safe_div _ _ c.in-Div.a _ (rw c.in-Div.is at c.requires)).0)

pub look-divide-requires-clause-fits : goal.look-divide-requires-clause-fits
look-divide-requires-clause-fits t c = let h = (safe_div _ _ c.in-Div.a _ (rw c.in-Div.is at c.requires)) in rw (c.look-in-Div.ensures, c.get-in-Div.ensures) (search (rules, h.1))

pub look-divide-requires-clause-divisor : goal.look-divide-requires-clause-divisor
look-divide-requires-clause-divisor t c = let h = (safe_div _ _ c.in-Div.a _ (rw c.in-Div.is at c.requires)) in search (rules, h.2)

pub look-returns-in-Div : goal.look-returns-in-Div
look-returns-in-Div t c = rw (c.in-Div.is, value_div) (search rules)

pub look-look-requires-in-Rem : goal.look-look-requires-in-Rem
look-look-requires-in-Rem t c = (search (rules, the_lemmas, c.in-Rem.is), rw c.get-in-Rem.ensures (safe_rem _ _ c.in-Rem.a _ (rw c.in-Rem.is at c.requires)).0)

pub look-remainder-requires-clause-fits : goal.look-remainder-requires-clause-fits
look-remainder-requires-clause-fits t c = let h = (safe_rem _ _ c.in-Rem.a _ (rw c.in-Rem.is at c.requires)) in rw (c.look-in-Rem.ensures, c.get-in-Rem.ensures) (search (rules, h.1))

pub look-remainder-requires-clause-divisor : goal.look-remainder-requires-clause-divisor
look-remainder-requires-clause-divisor t c = let h = (safe_rem _ _ c.in-Rem.a _ (rw c.in-Rem.is at c.requires)) in search (rules, h.2)

pub look-returns-in-Rem : goal.look-returns-in-Rem
look-returns-in-Rem t c = rw (c.in-Rem.is, value_rem) (search rules)

pub look-look_arms-requires : goal.look-look_arms-requires
look-look_arms-requires t c = (search (rules, the_lemmas, c.in-Case.is), rw c.as_slice.ensures (case_arms _ _ c.in-Case.arms c.in-Case.other (rw c.in-Case.is at c.requires)))

pub look-look-requires-in-None : goal.look-look-requires-in-None
look-look-requires-in-None t c = (search (rules, the_lemmas, c.in-Case.is), rw c.get-in-None.ensures (case_other _ _ c.in-Case.arms c.in-Case.other (rw c.in-Case.is at c.requires)))

pub look-look_first-requires : goal.look-look_first-requires
look-look_first-requires t c = (search (rules, the_lemmas, c.in-Coalesce.is), rw c.as_slice-in-Coalesce.ensures (coalesce_all _ _ c.in-Coalesce.es (rw c.in-Coalesce.is at c.requires)))

pub look-returns-in-Some : goal.look-returns-in-Some
look-returns-in-Some t c = rw (c.in-Case.is, value_of_case) (search rules)

pub look-returns-in-None : goal.look-returns-in-None
look-returns-in-None t c = rw (c.in-Case.is, value_of_case) (search rules)

pub look-returns-in-Coalesce : goal.look-returns-in-Coalesce
look-returns-in-Coalesce t c = rw (c.in-Coalesce.is, value_of_coalesce) (search rules)

pub judge-judge-requires : goal.judge-judge-requires
judge-judge-requires t c = (search (rules, the_lemmas, c.in-And.is), rw c.get.ensures (safe_and _ _ c.in-And.a c.in-And.b (rw c.in-And.is at c.requires)).0)

pub judge-judge-requires-in-And : goal.judge-judge-requires-in-And
judge-judge-requires-in-And t c = (search (rules, the_lemmas, c.in-And.is), rw c.get-in-And.ensures (safe_and _ _ c.in-And.a c.in-And.b (rw c.in-And.is at c.requires)).1)

pub judge-returns-in-And : goal.judge-returns-in-And
judge-returns-in-And t c = rw (c.in-And.is, truth_and) (search rules)

pub judge-judge-requires-in-Or : goal.judge-judge-requires-in-Or
judge-judge-requires-in-Or t c = (search (rules, the_lemmas, c.in-Or.is), rw c.get-in-Or.ensures (safe_or _ _ c.in-Or.a c.in-Or.b (rw c.in-Or.is at c.requires)).0)

pub judge-judge-requires-in-Or-2 : goal.judge-judge-requires-in-Or-2
judge-judge-requires-in-Or-2 t c = (search (rules, the_lemmas, c.in-Or.is), rw c.get-in-Or-2.ensures (safe_or _ _ c.in-Or.a c.in-Or.b (rw c.in-Or.is at c.requires)).1)

pub judge-returns-in-Or : goal.judge-returns-in-Or
judge-returns-in-Or t c = rw (c.in-Or.is, truth_or) (search rules)

pub judge-judge-requires-in-Not : goal.judge-judge-requires-in-Not
judge-judge-requires-in-Not t c = (search (rules, the_lemmas, c.in-Not.is), rw c.get-in-Not.ensures (safe_not _ _ c.in-Not.a (rw c.in-Not.is at c.requires)))

pub judge-returns-in-Not : goal.judge-returns-in-Not
judge-returns-in-Not t c = rw (c.in-Not.is, truth_not) (search rules)
