use Rattle.std.proofs.Common.{◌≡◌, take}
use Rattle.cq_bind_names.proofs.relations.copy_sources.Given as goal

abbrev pub invariant-loop-source : goal.invariant-loop-source
invariant-loop-source l = l.all ≡ take l.source-index l.sources
