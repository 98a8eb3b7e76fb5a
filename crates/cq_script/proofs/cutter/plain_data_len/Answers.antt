use Rattle.cq_script.proofs.RunLaws.{found_at, found_none}
use Rattle.cq_script.proofs.cutter.plain_data_len.Goals as goal

pub returns-in-Some-clause-value : goal.returns-in-Some-clause-value
returns-in-Some-clause-value c = found_at 92 c.args.bytes.now _ c.in-Some.ensures.0 c.in-Some.ensures.1

pub returns-in-None-clause-value : goal.returns-in-None-clause-value
returns-in-None-clause-value c = found_none 92 c.args.bytes.now c.in-None.ensures
