use Rattle.std.proofs.Common.{[], sym, subst, ◌∙◌}
use Rattle.cq_value.specs.declared.value.Value.{Value}
use Rattle.cq_meaning.specs.Values.{Row, Results}
use Rattle.cq_meaning.specs.Safety.{IsSafe}
use Rattle.cq_bind.proofs.rows.value_of.Goals as goal

pub eval-requires : goal.eval-requires
eval-requires c =
    subst (λ (row : Row). IsSafe c.args.e.now row c.new-in-Some.result) (sym (c.from_values-row.ensures ∙ c.new.ensures))
    (subst (λ (results : Results). IsSafe c.args.e.now [] results) (sym c.new-in-Some.ensures) (c.width_laws.ensures.expressions [] [] [] c.args.e.now tt c.in-Some.ensures.1).0)
