use Rattle.std.proofs.Common.{◌≡◌, drop}
use Rattle.cq_reading.specs.Steps.{through}
use Rattle.cq_bind_calls.proofs.items.through_all.Given as goal

abbrev pub invariant-items : goal.invariant-items
invariant-items g l = through (g.P.Step.reading l.step) l.fn.items l.fn.first l.fn.found ≡ through (g.P.Step.reading l.step) (drop l.item-index l.items) l.state l.found
