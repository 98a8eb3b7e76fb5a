use Rattle.std.proofs.lemmas.Bool.{ne_eqb}
use Rattle.cq_script.proofs.RunLaws.{line_start, line_within}
use Rattle.cq_script.proofs.cutter.line_behind_data.Goals as goal

pub returns-then-last-eq10 : goal.returns-then-last-eq10
returns-then-last-eq10 c = line_start c.args.line c.args.run.now c.in-len1-up.len_at_least c.if-last-eq10.true

pub returns-else-last-eq10 : goal.returns-else-last-eq10
returns-else-last-eq10 c = line_within c.args.line c.args.run.now c.in-len1-up.len_at_least (ne_eqb _ 10 c.if-last-eq10.false)
