use Rattle.std.proofs.Common.{rules, arith, ◌-◌}
use Rattle.cq_planning.specs.Touched.{numbers}
use Rattle.cq_strategies.proofs.NumberLaws.{one_put, all_put}
use Rattle.cq_strategies.proofs.component.columns_between.Goals as goal

pub loop-column-preserved : goal.loop-column-preserved
loop-column-preserved c = one_put c.loop-column.column c.args.end c.loop-column.columns c.put.new.self (numbers c.args.start (c.args.end - c.args.start)) (omega arith) (search rules) c.loop-column.invariant

pub returns : goal.returns
returns c = all_put c.loop-column.column c.args.end c.loop-column.columns (numbers c.args.start (c.args.end - c.args.start)) (omega arith) c.loop-column.invariant
