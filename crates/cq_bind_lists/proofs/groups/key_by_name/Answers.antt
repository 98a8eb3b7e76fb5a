use Rattle.std.proofs.Common.{map}
use Rattle.cq_reading.specs.Selects.{targets}
use Rattle.cq_reading.specs.Walk.{part_of, item_part}
use Rattle.cq_bind_lists.proofs.Picks.{by_input, by_output}
use Rattle.cq_bind_lists.proofs.groups.key_by_name.Goals as goal

pub returns-in-Some : goal.returns-in-Some
returns-in-Some g c = by_input c.args.scope.now (targets c.args.scope.now.columns (map item_part c.args.items.now)) (part_of c.args.key.now) c.args.name.now c.args.found.now _ c.expr.new.found _ c.in-Some.ensures c.expr.ensures

pub returns-in-None : goal.returns-in-None
returns-in-None g c = by_output c.args.scope.now (targets c.args.scope.now.columns (map item_part c.args.items.now)) (part_of c.args.key.now) c.args.name.now c.args.found.now _ c.key_by_title.new.found _ c.place.ensures c.in-None.ensures c.key_by_title.ensures
