use Rattle.std.proofs.Common.{◌≡◌, take}
use Rattle.cq_bind_names.proofs.relations.all_names.Given as goal

abbrev pub invariant-loop-name : goal.invariant-loop-name
invariant-loop-name l = l.all ≡ take l.name-index l.names
