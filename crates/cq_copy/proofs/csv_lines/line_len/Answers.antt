use Rattle.cq_copy.proofs.LineLaws.{found_end, no_end}
use Rattle.cq_copy.proofs.csv_lines.line_len.Goals as goal

pub returns-in-Some-clause-value : goal.returns-in-Some-clause-value
returns-in-Some-clause-value c = found_end c.args.bytes.now _ c.in-Some.ensures.0 c.in-Some.ensures.1

pub returns-in-None-clause-value : goal.returns-in-None-clause-value
returns-in-None-clause-value c = no_end c.args.bytes.now c.in-None.ensures
