use Rattle.cq_reading.specs.Selects.{with_order_key}
use Rattle.cq_reading.specs.Walk.{order_part}
use Rattle.cq_bind_calls.proofs.Loops.{binds_parts}
use Rattle.cq_bind_lists.proofs.orders.order_keys.Goals as goal

pub returns : goal.returns
returns g c =
    binds_parts (with_order_key c.args.scope.now c.args.outputs.now c.args.distinct) order_part c.args.keys.now c.args.order c.args.found.now _ c.through_of.new.found c.through_of.ensures
