use Rattle.std.proofs.Common.{rules, [], map}
use Rattle.cq_reading.specs.Selects.{targets}
use Rattle.cq_reading.specs.Walk.{item_part}
use Rattle.cq_bind_lists.specs.Stars.{with_output}
use Rattle.cq_bind_lists.proofs.Targets.{binds_from}
use Rattle.cq_bind_lists.proofs.outputs.select_list.Goals as goal

pub returns : goal.returns
returns g c =
    binds_from (with_output c.args.scope.now) (targets c.args.scope.now.columns (map item_part c.args.items.now)) _ [] c.args.found.now c.gather_all.result c.gather_all.new.found (search rules) c.gather_all.ensures
