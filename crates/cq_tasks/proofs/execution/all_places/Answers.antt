use Rattle.std.proofs.Common.{◌++◌, ◌∷◌, [], sym, ap, ◌∙◌}
use Rattle.cq_tasks.proofs.Parts.{range_more}
use Rattle.cq_tasks.proofs.execution.all_places.Goals as goal

pub loop-place-preserved : goal.loop-place-preserved
loop-place-preserved c = c.in_ok-put.ensures.ok ∙ (ap (λ ps. ps ++ c.loop-place.place ∷ []) c.loop-place.invariant ∙ sym (range_more c.loop-place.place))
