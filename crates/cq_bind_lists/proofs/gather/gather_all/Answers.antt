use Rattle.std.proofs.Common.{refl}
use Rattle.cq_reading.specs.Walk.{item_part}
use Rattle.cq_bind_lists.proofs.Targets.{binds_items}
use Rattle.cq_bind_lists.proofs.gather.gather_all.Goals as goal

pub returns : goal.returns
returns g c = binds_items (g.G.Gather.step c.args.gather.now c.args.scope.now) c.args.scope.now.columns item_part c.args.items.now c.args.first c.args.first c.args.found.now _ c.through_of.new.found refl c.through_of.ensures
