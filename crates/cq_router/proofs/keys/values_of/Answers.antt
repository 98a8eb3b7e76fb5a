use Rattle.std.proofs.Common.{◌≡◌, [], IfOk, ap, subst, ◌∙◌}
use Rattle.cq_planning.specs.Conjuncts.{conjuncts_of}
use Rattle.cq_planning.specs.ValueSets.{ValueSet, value_set}
use Rattle.cq_shape.specs.Labels.{label}
use Rattle.cq_router.proofs.KeyLaws.{set_is}
use Rattle.cq_router.proofs.keys.values_of.Goals as goal

pub returns : goal.returns
returns c =
    subst (λ (set : ValueSet). IfOk c.class_set.result (λ s. s ≡ set))
    (set_is (label c.as_slice.result.now) c.as_slice-2.result.now (conjuncts_of c.args.filter.now c.args.from.now) c.from.result
    (ap label c.as_slice.ensures ∙ c.in_ok-labels.ensures) (c.as_slice-2.ensures ∙ (rw c.new-said.ensures at c.in_ok-put_all_said.ensures))
    ∙ ap (value_set [] (conjuncts_of c.args.filter.now c.args.from.now)) c.from.ensures) c.class_set.ensures
