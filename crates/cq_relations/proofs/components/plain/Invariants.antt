use Rattle.std.proofs.Common.{◌≡◌, take}
use Rattle.cq_planning.specs.Relations.{is_plain, distributions}
use Rattle.cq_relations.proofs.components.plain.Given as goal

abbrev pub invariant-loop-relation : goal.invariant-loop-relation
invariant-loop-relation l = l.found ≡ distributions is_plain (take l.relation-index l.relations)
