use Rattle.std.proofs.Common.{◌≡◌, drop}
use Rattle.cq_reading.specs.declared.bound.Found.{Found}
use Rattle.cq_reading.specs.Steps.{through}
use Rattle.cq_reading.specs.Selects.{star_columns}
use Rattle.cq_bind_lists.specs.Stars.{meant}
use Rattle.cq_bind_lists.proofs.gather.stars_among.Given as goal

abbrev pub invariant-columns : goal.invariant-columns
invariant-columns g l = (f : Found)
    → through (g.G.Gather.step l.gather l.scope) (star_columns l.at (meant l.fn.star) 0 l.columns) l.fn.before f ≡ through (g.G.Gather.step l.gather l.scope) (star_columns l.at (meant l.fn.star) l.place (drop l.place l.columns)) l.state f
