use Rattle.std.proofs.Common.{sym, ◌∙◌}
use Rattle.cq_plan.proofs.PlaceLaws.{colocation_there}
use Rattle.cq_plan.proofs.groups.groups_there.Goals as goal

pub all_groups-requires : goal.all_groups-requires
all_groups-requires c = colocation_there c.args.catalog.now c.args.table _ c.in-Distributed.colocation _ c.place_of.ensures.whole (sym c.place_of.ensures.place ∙ c.in-Distributed.is)
