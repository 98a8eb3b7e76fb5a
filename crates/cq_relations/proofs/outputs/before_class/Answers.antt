use Rattle.std.proofs.Common.{arith, sym, length}
use Rattle.std.proofs.lemmas.Grind.{common_steps}
use Rattle.std.proofs.lemmas.List.Sums.{position_or_len_is}
use Rattle.cq_tree.specs.declared.expression.Expr.{Column}
use Rattle.cq_planning.specs.Conjuncts.{column_of}
use Rattle.cq_planning.specs.Components.{is_of_class}
use Rattle.cq_planning.specs.Pushable.{column_behind}
use Rattle.cq_shape.specs.Labels.{label}
use Rattle.cq_relations.proofs.outputs.before_class.Goals as goal

pub returns-then-is_output_of_class : goal.returns-then-is_output_of_class
returns-then-is_output_of_class c =
    sym (position_or_len_is (λ e. is_of_class (label c.args.labels.now) c.args.at (column_behind c.args.grouped c.args.keys.now (column_of e))) c.args.outputs.now c.loop-place.place (Column 0) (omega arith) c.loop-place.invariant (λ h. grind (arith, common_steps)))

pub returns : goal.returns
returns c =
    sym (position_or_len_is (λ e. is_of_class (label c.args.labels.now) c.args.at (column_behind c.args.grouped c.args.keys.now (column_of e))) c.args.outputs.now (length c.args.outputs.now) (Column 0) (omega arith) (λ k h. c.loop-place.invariant k (omega arith)) (λ h. absurd (omega arith)))
