use Rattle.cq_bind_operands.proofs.literals.+digits_in.Given as goal

abbrev pub decreases-digits_in : goal.decreases-digits_in
decreases-digits_in l = l.most
