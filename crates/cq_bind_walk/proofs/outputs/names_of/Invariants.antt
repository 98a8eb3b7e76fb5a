use Rattle.std.proofs.Common.{◌≡◌, take, map}
use Rattle.cq_reading.specs.declared.bound.Shown.{Shown}
use Rattle.cq_bind_walk.proofs.outputs.names_of.Given as goal

abbrev pub invariant-loop-shown : goal.invariant-loop-shown
invariant-loop-shown l = l.names ≡ map (λ (s : Shown). s.title) (take l.shown-index l.outputs)
