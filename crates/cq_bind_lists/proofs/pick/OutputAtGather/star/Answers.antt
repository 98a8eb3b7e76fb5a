use Rattle.std.proofs.Common.{rules}
use Rattle.cq_reading.specs.Selects.{star_column}
use Rattle.cq_bind_lists.proofs.Picks.{picked_first}
use Rattle.cq_bind_lists.proofs.pick.OutputAtGather.star.Goals as goal

pub returns-in-Skip-eq0 : goal.returns-in-Skip-eq0
returns-in-Skip-eq0 g c = picked_first c.args.scope.now (star_column c.args.at c.args.place c.args.column.now) c.args.before c.in-Skip-eq0.field-0 _ (search rules) (search rules) c.first_star.ensures
