use Rattle.cq_parse_expressions.proofs.digits.+digits.Given as goal

abbrev pub decreases-digits : goal.decreases-digits
decreases-digits l = l.n
