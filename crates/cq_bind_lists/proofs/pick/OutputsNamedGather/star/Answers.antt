use Rattle.cq_reading.specs.Selects.{star_column}
use Rattle.cq_bind_lists.proofs.Picks.{titled_so, titled_not}
use Rattle.cq_bind_lists.proofs.pick.OutputsNamedGather.star.Goals as goal

pub returns-then-is_titled : goal.returns-then-is_titled
returns-then-is_titled g c = titled_so c.args.scope.now c.args.self.now.name.now c.args.before (star_column c.args.at c.args.place c.args.column.now) _ _ c.is_titled.ensures c.if-is_titled.true c.star_behind.ensures

pub returns-else-is_titled : goal.returns-else-is_titled
returns-else-is_titled g c = titled_not c.args.scope.now c.args.self.now.name.now c.args.before (star_column c.args.at c.args.place c.args.column.now) _ c.is_titled.ensures c.if-is_titled.false
