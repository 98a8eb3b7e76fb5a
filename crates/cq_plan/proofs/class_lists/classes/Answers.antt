use Rattle.std.proofs.Common.{◌≡◌, ap, sym, subst, ◌∙◌}
use Rattle.std.specs.Prelude.{IfOk}
use Rattle.cq_tree.specs.declared.query.Query.{out-Query}
use Rattle.cq_meaning.specs.Queries.{columns_in}
use Rattle.cq_planning.specs.Conjuncts.{conjuncts_of, equalities}
use Rattle.cq_planning.specs.Classes.{first_of_class}
use Rattle.cq_shape.specs.Labels.{label}
use Rattle.cq_plan.specs.ClassLists.{classes_by}
use Rattle.cq_plan.proofs.ClassLaws.{classes_is}
use Rattle.cq_plan.proofs.class_lists.classes.Goals as goal

pub returns : goal.returns
returns c =
    let same : label c.as_slice.result.now ≡ first_of_class (equalities (conjuncts_of (out-Query c.args.q.now).filter (out-Query c.args.q.now).from)) = ap label c.as_slice.ensures ∙ c.in_ok-labels.ensures in
    let count : c.in_ok-count.count ≡ columns_in (out-Query c.args.q.now).from = c.in_ok-count.ensures ∙ c.in_ok-count_columns.ensures in
    subst (λ u. IfOk c.classes_with.result (λ v. v ≡ u))
    (ap (λ first. classes_by first c.in_ok-count.count) same ∙ (ap (classes_by (first_of_class (equalities (conjuncts_of (out-Query c.args.q.now).filter (out-Query c.args.q.now).from)))) count ∙ sym (classes_is c.args.q.now)))
    c.classes_with.ensures
