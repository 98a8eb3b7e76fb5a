use Rattle.cq_place_laws.proofs.PlacingLaws.{block_places, block_nodes_used, block_movers}
use Rattle.cq_place_laws.proofs.placing_laws.Goals as goal

pub returns : goal.returns
returns c = record { places = block_places; used = block_nodes_used; movers = block_movers }
