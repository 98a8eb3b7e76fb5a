use Rattle.cq_bind_walk.specs.Blocks.{layer_of, shape_reading, with_shape}
use Rattle.cq_bind_walk.proofs.Made.{binds_pair}
use Rattle.cq_bind_walk.proofs.selects.parts.Goals as goal

pub returns : goal.returns
returns g c = binds_pair (shape_reading (layer_of c.args.q.now) c.args.world.now c.args.grouped) with_shape _ _ _ _ _ _ c.in_ok-rows.ensures c.read_shape-shape.ensures c.beside.ensures
