use Rattle.cq_reading.specs.Relations.{with_product}
use Rattle.cq_reading.specs.Walk.{from_part}
use Rattle.cq_bind_calls.proofs.Loops.{first_and_parts}
use Rattle.cq_bind_relations.proofs.relations.froms.Goals as goal

pub returns : goal.returns
returns g c = first_and_parts (with_product c.args.world.now) from_part _ _ _ _ _ _ c.in_ok-first.ensures c.through_all.ensures
