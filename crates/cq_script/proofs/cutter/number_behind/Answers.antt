use Rattle.std.proofs.Common.{rules, arith}
use Rattle.cq_script.proofs.RunLaws.{number_by}
use Rattle.cq_script.proofs.cutter.number_behind.Goals as goal

pub returns : goal.returns
returns c = rw (number_by c.args.number c.args.bytes.now (omega arith)) (search rules)
