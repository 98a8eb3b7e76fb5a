use Rattle.std.proofs.Common.{◌≡◌, take, map}
use Rattle.cq_reading.specs.Scopes.{output_source}
use Rattle.cq_bind_names.proofs.relations.output_sources.Given as goal

abbrev pub invariant-loop-output : goal.invariant-loop-output
invariant-loop-output l = l.sources ≡ map (output_source l.relation) (take l.output-index l.outputs)
