use Rattle.std.proofs.Common.{◌≡◌, take}
use Rattle.cq_planning.specs.Relations.{is_left_in_block, distributions}
use Rattle.cq_relations.proofs.components.staying.Given as goal

abbrev pub invariant-loop-relation : goal.invariant-loop-relation
invariant-loop-relation l = l.found ≡ distributions (is_left_in_block l.relations) (take l.relation-index l.relations)
