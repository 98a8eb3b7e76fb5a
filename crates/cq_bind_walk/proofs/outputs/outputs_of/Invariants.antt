use Rattle.std.proofs.Common.{◌≡◌, map}
use Rattle.cq_reading.specs.Selects.{output_of}
use Rattle.cq_bind_walk.proofs.outputs.outputs_of.Given as goal

abbrev pub invariant-loop-shown : goal.invariant-loop-shown
invariant-loop-shown l = l.all ≡ map output_of l.yielded
