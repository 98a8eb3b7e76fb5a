use Rattle.std.proofs.Common.{◌≡◌, take, filter_map}
use Rattle.cq_planning.specs.Relations.{partner_of}
use Rattle.cq_relations.proofs.components.partners_in.Given as goal

abbrev pub invariant-loop-pair : goal.invariant-loop-pair
invariant-loop-pair l = l.found ≡ filter_map (partner_of l.outer.left l.start l.y) (take l.pair-index l.pair-items)
