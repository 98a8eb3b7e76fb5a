use Rattle.cq_bind_names.proofs.Readings.{by_expression}
use Rattle.cq_bind_names.proofs.orders.key_by_value.Goals as goal

pub returns : goal.returns
returns c = by_expression c.args.shown _ _ _ _ c.args.b _ _ c.key_at.result c.expr_of-e.ensures c.place_in-place.ensures c.key_at.ensures
