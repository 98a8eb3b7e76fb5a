use Rattle.cq_bind_lists.proofs.Ordering.{by_value}
use Rattle.cq_bind_lists.proofs.orders.OrderKeys.by_expression.Goals as goal

pub returns : goal.returns
returns g c = by_value c.args.key.now c.args.self.now.scope.now c.args.self.now.outputs.now c.args.self.now.distinct c.args.order c.args.found.now c.value.new.found c.in_ok-b.b _ _ c.key_by_value.result c.in_ok-b.ensures c.descends-descending.ensures c.place.ensures c.key_by_value.ensures
