use Rattle.std.proofs.Common.{arith}
use Rattle.std.proofs.lemmas.List.{take_rest}
use Rattle.std.proofs.lemmas.Bool.{ne_eqb}
use Rattle.cq_copy.proofs.TextLaws.{text_escaped, text_last, text_plain}
use Rattle.cq_copy.proofs.texts.first_byte.Goals as goal
use Rattle.cq_copy.proofs.texts.first_byte.Goals.{then-first-eq92+in_default, else-first-eq92}

pub returns-in-len1-up-clause-value : goal.returns-in-len1-up-clause-value
returns-in-len1-up-clause-value c =
    rw (take_rest, c.if-first-eq92.true, c.escaped.ensures) (text_escaped c.args.rest.now c.in-len1-up.len_at_least)

pub returns-clause-value : goal.returns-clause-value
returns-clause-value c =
    rw c.plain.ensures (elim c.if-first-eq92.branch [ then-first-eq92+in_default w ↦ text_last c.args.first c.args.rest.now (omega arith) | else-first-eq92 w ↦ text_plain c.args.first c.args.rest.now (ne_eqb c.args.first 92 w.if-first-eq92.false) ])
