use Rattle.std.proofs.Common.{◌≡◌, ℕ, ◌+◌, ◌++◌, ◌∷◌, [], map, None, Some, IfOk, OnOk, ap, subst, ◌∙◌}
use Rattle.cq_tree.specs.declared.query.Query.{out-Query}
use Rattle.cq_tree.specs.declared.query.FromTree.{Sub}
use Rattle.cq_outline.specs.Leaving.{inside}
use Rattle.cq_one_plan.specs.Stays.{query_staying}
use Rattle.cq_planning.specs.ValueSets.{class_set}
use Rattle.cq_planning.specs.Pushable.{pushable, relations}
use Rattle.cq_planning.specs.Narrowing.{distribution_in}
use Rattle.cq_shape.specs.Labels.{label}
use Rattle.cq_plan.specs.Begun.{set_at, sets_under, seen}
use Rattle.cq_plan.specs.Touches.{as_one}
use Rattle.cq_plan.proofs.FromNodes.{distribution_cross, distribution_inner, distribution_left}
use Rattle.cq_plan.proofs.WalkLaws.{free, no_key}
use Rattle.cq_planner.specs.Sides.{outer_by, first_set}
use Rattle.cq_one_plan.specs.declared.plan.Part.TheVariants.{Leaves, Asks}
use Rattle.cq_one_plan.specs.Plans.{plan_of, parts_inside}
use Rattle.cq_planner.specs.declared.tables.Start.{Start}
use Rattle.cq_planner.specs.Counting.{counts_among}
use Rattle.cq_planner.specs.Walks.{alone, behind, cte_plan_list, in_plan_list}
use Rattle.cq_planner.proofs.WalkLaws.{Is, join_by, cross_arm, inner_arm, left_arm, result_arm, sub_arm, alone_place, alone_parts, within_place, within_parts, lone_arm, plan_arm, inside_arm}
use Rattle.cq_planner.proofs.walk.+planner.Goals as goal

-- where a FROM begins whose relations have these numbers
abbrev starts_at : ℕ → ℕ → Start
starts_at ins relations = record { column = 0; ins = ins; relations = relations }

pub plan_of-returns : goal.plan_of-returns
plan_of-returns t c =
    subst (λ x. IfOk c.plan_by.result (λ p. p ≡ x))
    (plan_arm c.args.catalog.now c.args.q.now c.args.number c.args.first_in_ctes c.args.next c.in_ok-strategy.strategy c.leaving_by.result c.in_ok-ctes.ctes c.put_inside.new.found c.in_ok-query.query
    c.in_ok-strategy.ensures (c.in_ok-ctes.ensures ∙ ap (cte_plan_list c.args.catalog.now 0 c.args.first_in_ctes c.args.next.relations) c.as_slice.ensures) c.leaving_by.ensures
    (rw (c.new-parts.ensures, c.new.ensures) at c.in_ok-query.ensures.1) c.in_ok-query.ensures.0)
    c.plan_by.ensures

pub put_inside-returns : goal.put_inside-returns
put_inside-returns t c =
    let found : c.put_relations.new.found ≡ relations c.args.catalog.now (out-Query c.args.q.now).from 0 None = rw c.new-relations.ensures at c.in_ok-put_relations.ensures in
    inside_arm c.args.catalog.now c.args.leaving c.args.q.now c.as_slice.result.now c.as_slice-2.result.now c.args.outside c.as_slice-3.result.now c.nothing.result.relations.now c.nothing.result.low c.nothing.result.pairs.now
    c.in_ok-ctes.ctes c.args.next (record { column = 0; ins = c.args.next.ins; relations = c.in_ok-first.first }) c.in_ok-end.end c.in_ok-walked.walked c.in_ok-stays.stays c.args.found.now c.walk.new.found c.put_asked.new.found
    (c.as_slice.ensures ∙ found) (ap label c.as_slice-2.ensures ∙ c.in_ok-labels.ensures) (c.as_slice-3.ensures ∙ c.in_ok-put_all_said.ensures) c.nothing.ensures
    (c.in_ok-ctes.ensures ∙ ap counts_among c.as_slice-4.ensures) (ap (starts_at c.args.next.ins) c.in_ok-first.ensures) c.in_ok-end.ensures c.in_ok-walked.ensures
    (c.in_ok-put_asked.ensures ∙ ap (λ qs. c.walk.new.found ++ map Asks (in_plan_list c.args.catalog.now c.in_ok-end.end.ins c.in_ok-end.end.relations qs)) c.as_slice-5.ensures) c.in_ok-stays.ensures

pub walk-returns-in_ok-relations-in-Result : goal.walk-returns-in_ok-relations-in-Result
walk-returns-in_ok-relations-in-Result t c =
    rw c.in-Result.is (result_arm c.args.frame.catalog.now c.args.frame.leaving c.args.frame.relations.now _ c.in-Result.number c.in-Result.columns c.args.start _ c.in_ok-relations-in-Result.relations c.args.found.now c.in_ok-relations-in-Result.ensures)

pub walk-returns-in-Table : goal.walk-returns-in-Table
walk-returns-in-Table t c = rw c.in-Table.is c.put_table.ensures

pub walk-returns-in_ok-stays-in-Sub : goal.walk-returns-in_ok-stays-in-Sub
walk-returns-in_ok-stays-in-Sub t c =
    rw c.in-Sub.is (sub_arm c.args.frame.catalog.now c.args.frame.leaving c.args.frame.relations.now (class_set (label c.args.frame.labels.now) c.args.frame.said.now) (set_at (class_set (label c.args.frame.labels.now) c.args.frame.said.now) c.args.right.relations.now)
    c.args.right.low c.args.right.pairs.now c.in-Sub.q c.args.start (outer_by c.args.is_right c.args.right.low c.args.right.pairs.now) c.in_ok-given-in-Sub.given c.in_ok-given-in-Sub.relations c.in_ok-stays-in-Sub.stays c.args.found.now c.put_subquery.new.found
    (rw c.get.ensures at c.in_ok-given-in-Sub.ensures.0) (rw c.get.ensures at c.in_ok-given-in-Sub.ensures.1)
    (rw (c.get-in-Sub.ensures, c.in_ok-outer-in-Sub.ensures) at c.in_ok-stays-in-Sub.ensures.stays) (rw (c.get-in-Sub.ensures, c.in_ok-outer-in-Sub.ensures, c.as_slice.ensures) at c.in_ok-stays-in-Sub.ensures.parts))

pub walk-returns-in_ok-both-in-Cross : goal.walk-returns-in_ok-both-in-Cross
walk-returns-in_ok-both-in-Cross t c =
    let p : Is c.args.frame.catalog.now c.args.frame.leaving c.args.frame.relations.now (seen c.args.frame.catalog.now c.args.frame.labels.now c.args.frame.said.now c.nothing.result.relations.now c.nothing.result.low c.nothing.result.pairs.now c.in-Cross.a c.args.start.column) c.in-Cross.a c.args.start None c.in_ok-near-in-Cross.near c.args.found.now c.walk.new.found
    = rw c.get-in-Cross-2.ensures at c.in_ok-near-in-Cross.ensures in
    let q : Is c.args.frame.catalog.now c.args.frame.leaving c.args.frame.relations.now (seen c.args.frame.catalog.now c.args.frame.labels.now c.args.frame.said.now c.nothing-in-Cross.result.relations.now c.nothing-in-Cross.result.low c.nothing-in-Cross.result.pairs.now c.in-Cross.b c.in_ok-end-in-Cross.end.column) c.in-Cross.b c.in_ok-end-in-Cross.end None c.in_ok-far-in-Cross.far c.walk.new.found c.walk-in-Cross.new.found
    = rw c.get-in-Cross-3.ensures at c.in_ok-far-in-Cross.ensures in
    rw c.in-Cross.is (cross_arm c.args.frame.catalog.now c.args.frame.leaving c.args.frame.relations.now (class_set (label c.args.frame.labels.now) c.args.frame.said.now) _ _ _ c.in-Cross.a c.in-Cross.b c.args.start c.in_ok-end-in-Cross.end (outer_by c.args.is_right c.args.right.low c.args.right.pairs.now) c.in_ok-near-in-Cross.near c.in_ok-far-in-Cross.far c.in_ok-both-in-Cross.both c.args.found.now c.walk.new.found c.walk-in-Cross.new.found
    (no_key (class_set (label c.args.frame.labels.now) c.args.frame.said.now) (set_at (class_set (label c.args.frame.labels.now) c.args.frame.said.now) c.args.right.relations.now) c.args.right.low c.args.right.pairs.now _ c.args.start.column (distribution_cross c.args.frame.catalog.now c.args.start.column c.in-Cross.a c.in-Cross.b))
    (free (class_set (label c.args.frame.labels.now) c.args.frame.said.now) (set_at (class_set (label c.args.frame.labels.now) c.args.frame.said.now) c.nothing.result.relations.now) c.nothing.result.low c.nothing.result.pairs.now (distribution_in c.args.frame.catalog.now c.in-Cross.a c.args.start.column) c.args.start.column c.nothing.ensures)
    (free (class_set (label c.args.frame.labels.now) c.args.frame.said.now) (set_at (class_set (label c.args.frame.labels.now) c.args.frame.said.now) c.nothing-in-Cross.result.relations.now) c.nothing-in-Cross.result.low c.nothing-in-Cross.result.pairs.now (distribution_in c.args.frame.catalog.now c.in-Cross.b c.in_ok-end-in-Cross.end.column) c.in_ok-end-in-Cross.end.column c.nothing-in-Cross.ensures)
    (c.in_ok-end-in-Cross.ensures ∙ ap (behind c.args.start) c.get-in-Cross.ensures) p q c.in_ok-both-in-Cross.ensures)

pub walk-returns-in_ok-both-in-Inner : goal.walk-returns-in_ok-both-in-Inner
walk-returns-in_ok-both-in-Inner t c =
    let p : Is c.args.frame.catalog.now c.args.frame.leaving c.args.frame.relations.now (seen c.args.frame.catalog.now c.args.frame.labels.now c.args.frame.said.now c.nothing-in-Inner.result.relations.now c.nothing-in-Inner.result.low c.nothing-in-Inner.result.pairs.now c.in-Inner.a c.args.start.column) c.in-Inner.a c.args.start None c.in_ok-near-in-Inner.near c.args.found.now c.walk-in-Inner.new.found
    = rw c.get-in-Inner-2.ensures at c.in_ok-near-in-Inner.ensures in
    let q : Is c.args.frame.catalog.now c.args.frame.leaving c.args.frame.relations.now (seen c.args.frame.catalog.now c.args.frame.labels.now c.args.frame.said.now c.nothing-in-Inner-2.result.relations.now c.nothing-in-Inner-2.result.low c.nothing-in-Inner-2.result.pairs.now c.in-Inner.b c.in_ok-end-in-Inner.end.column) c.in-Inner.b c.in_ok-end-in-Inner.end None c.in_ok-far-in-Inner.far c.walk-in-Inner.new.found c.walk-in-Inner-2.new.found
    = rw c.get-in-Inner-3.ensures at c.in_ok-far-in-Inner.ensures in
    rw c.in-Inner.is (inner_arm c.args.frame.catalog.now c.args.frame.leaving c.args.frame.relations.now (class_set (label c.args.frame.labels.now) c.args.frame.said.now) _ _ _ c.in-Inner.a c.in-Inner.b c.in-Inner.on c.args.start c.in_ok-end-in-Inner.end (outer_by c.args.is_right c.args.right.low c.args.right.pairs.now) c.in_ok-near-in-Inner.near c.in_ok-far-in-Inner.far c.in_ok-both-in-Inner.both c.args.found.now c.walk-in-Inner.new.found c.walk-in-Inner-2.new.found
    (no_key (class_set (label c.args.frame.labels.now) c.args.frame.said.now) (set_at (class_set (label c.args.frame.labels.now) c.args.frame.said.now) c.args.right.relations.now) c.args.right.low c.args.right.pairs.now _ c.args.start.column (distribution_inner c.args.frame.catalog.now c.args.start.column c.in-Inner.a c.in-Inner.b c.in-Inner.on))
    (free (class_set (label c.args.frame.labels.now) c.args.frame.said.now) (set_at (class_set (label c.args.frame.labels.now) c.args.frame.said.now) c.nothing-in-Inner.result.relations.now) c.nothing-in-Inner.result.low c.nothing-in-Inner.result.pairs.now (distribution_in c.args.frame.catalog.now c.in-Inner.a c.args.start.column) c.args.start.column c.nothing-in-Inner.ensures)
    (free (class_set (label c.args.frame.labels.now) c.args.frame.said.now) (set_at (class_set (label c.args.frame.labels.now) c.args.frame.said.now) c.nothing-in-Inner-2.result.relations.now) c.nothing-in-Inner-2.result.low c.nothing-in-Inner-2.result.pairs.now (distribution_in c.args.frame.catalog.now c.in-Inner.b c.in_ok-end-in-Inner.end.column) c.in_ok-end-in-Inner.end.column c.nothing-in-Inner-2.ensures)
    (c.in_ok-end-in-Inner.ensures ∙ ap (behind c.args.start) c.get-in-Inner.ensures) p q c.in_ok-both-in-Inner.ensures)

pub walk-returns-in_ok-both-in-Left : goal.walk-returns-in_ok-both-in-Left
walk-returns-in_ok-both-in-Left t c =
    let p : Is c.args.frame.catalog.now c.args.frame.leaving c.args.frame.relations.now (seen c.args.frame.catalog.now c.args.frame.labels.now c.args.frame.said.now c.nothing-in-Left.result.relations.now c.nothing-in-Left.result.low c.nothing-in-Left.result.pairs.now c.in-Left.a c.args.start.column) c.in-Left.a c.args.start None c.in_ok-near-in-Left.near c.args.found.now c.walk-in-Left.new.found
    = rw c.get-in-Left-2.ensures at c.in_ok-near-in-Left.ensures in
    let q : Is c.args.frame.catalog.now c.args.frame.leaving c.args.frame.relations.now (seen c.args.frame.catalog.now c.args.frame.labels.now c.args.frame.said.now c.as_slice-in-Left.result.now c.args.start.column c.as_slice-in-Left-2.result.now c.in-Left.b c.in_ok-end-in-Left.end.column) c.in-Left.b c.in_ok-end-in-Left.end (join_by c.args.start.column c.as_slice-in-Left-2.result.now) c.in_ok-far-in-Left.far c.walk-in-Left.new.found c.walk-in-Left-2.new.found
    = rw c.get-in-Left-3.ensures at c.in_ok-far-in-Left.ensures in
    rw c.in-Left.is (left_arm c.args.frame.catalog.now c.args.frame.leaving c.args.frame.relations.now (class_set (label c.args.frame.labels.now) c.args.frame.said.now) _ _ _ c.in-Left.a c.in-Left.b c.in-Left.on c.args.start c.in_ok-end-in-Left.end (outer_by c.args.is_right c.args.right.low c.args.right.pairs.now) c.in_ok-near-in-Left.near c.in_ok-far-in-Left.far c.in_ok-both-in-Left.both c.as_slice-in-Left-2.result.now c.args.found.now c.walk-in-Left.new.found c.walk-in-Left-2.new.found
    (no_key (class_set (label c.args.frame.labels.now) c.args.frame.said.now) (set_at (class_set (label c.args.frame.labels.now) c.args.frame.said.now) c.args.right.relations.now) c.args.right.low c.args.right.pairs.now _ c.args.start.column (distribution_left c.args.frame.catalog.now c.args.start.column c.in-Left.a c.in-Left.b c.in-Left.on))
    (free (class_set (label c.args.frame.labels.now) c.args.frame.said.now) (set_at (class_set (label c.args.frame.labels.now) c.args.frame.said.now) c.nothing-in-Left.result.relations.now) c.nothing-in-Left.result.low c.nothing-in-Left.result.pairs.now (distribution_in c.args.frame.catalog.now c.in-Left.a c.args.start.column) c.args.start.column c.nothing-in-Left.ensures)
    (c.in_ok-end-in-Left.ensures ∙ ap (behind c.args.start) c.get-in-Left.ensures) p (c.as_slice-in-Left-2.ensures ∙ c.in_ok-pairs-in-Left.ensures)
    (ap (λ l. sets_under (class_set (label c.args.frame.labels.now) c.args.frame.said.now) (set_at (class_set (label c.args.frame.labels.now) c.args.frame.said.now) l) c.args.start.column c.as_slice-in-Left-2.result.now (distribution_in c.args.frame.catalog.now c.in-Left.b c.in_ok-end-in-Left.end.column) c.in_ok-end-in-Left.end.column) c.as_slice-in-Left.ensures)
    q (rw c.get-in-Left-4.ensures at c.in_ok-both-in-Left.ensures))

pub lone_subquery-returns : goal.lone_subquery-returns
lone_subquery-returns t c =
    subst (λ x. IfOk c.lone_plan.result (λ p. p ≡ x))
    (lone_arm c.args.frame.catalog.now c.args.q.now c.args.number c.args.next c.args.output c.args.given c.in_ok-said.said c.in_ok-set.set (first_set c.args.begun.now) c.in_ok-planner.planner c.leaving_by-leaving.result c.in_ok-column.column
    c.put_inside.new.found c.in_ok-stays.stays c.in_ok-query.query c.in_ok-from.from
    (c.in_ok-said.ensures ∙ c.as_slice.ensures) c.in_ok-planner.ensures c.in_ok-set.ensures c.in_ok-column.ensures c.leaving_by-leaving.ensures c.in_ok-stays.ensures.0 (rw c.new-parts.ensures at c.in_ok-stays.ensures.1)
    c.in_ok-from.ensures c.in_ok-query.ensures)
    c.lone_plan.ensures

pub put_subquery-returns-then-leaves-clause-stays : goal.put_subquery-returns-then-leaves-clause-stays
put_subquery-returns-then-leaves-clause-stays t c =
    subst (λ x. IfOk c.put_alone.result (λ f. f ≡ x)) (alone_place c.args.frame.catalog.now c.args.frame.leaving c.args.frame.relations.now c.args.q.now c.args.start c.args.outer c.args.given (first_set c.args.begun.now) c.in_ok-leaves.leaves c.in_ok-leaves.ensures c.if-leaves.true) c.put_alone.ensures.stays

pub put_subquery-returns-then-leaves-clause-parts : goal.put_subquery-returns-then-leaves-clause-parts
put_subquery-returns-then-leaves-clause-parts t c =
    subst (λ x. OnOk c.put_alone.result (c.put_alone.new.found ≡ c.args.found.now ++ x)) (alone_parts c.args.frame.catalog.now c.args.frame.leaving c.args.frame.relations.now c.args.q.now c.args.start c.args.outer c.args.given (first_set c.args.begun.now) c.in_ok-leaves.leaves c.in_ok-leaves.ensures c.if-leaves.true)
    (subst (λ n. OnOk c.put_alone.result (c.put_alone.new.found ≡ c.args.found.now ++ Leaves (alone c.args.frame.catalog.now c.args.q.now c.args.start.relations (record { ins = c.args.start.ins; relations = n }) (pushable c.args.frame.catalog.now c.args.q.now) c.args.given (first_set c.args.begun.now)) ∷ []))
    c.in_ok-second.ensures c.put_alone.ensures.parts)

pub put_subquery-returns-else-leaves-clause-stays : goal.put_subquery-returns-else-leaves-clause-stays
put_subquery-returns-else-leaves-clause-stays t c =
    subst (λ x. IfOk c.put_within.result (λ f. f ≡ x)) (within_place c.args.frame.catalog.now c.args.frame.leaving c.args.frame.relations.now c.args.q.now c.args.start c.args.outer c.args.given (first_set c.args.begun.now) c.in_ok-leaves.leaves c.in_ok-leaves.ensures c.if-leaves.false)
    (subst (λ n. IfOk c.put_within.result (λ f. f ≡ Sub (query_staying c.args.frame.catalog.now (inside c.args.frame.leaving) c.args.q.now n))) c.in_ok-second.ensures c.put_within.ensures.stays)

pub put_subquery-returns-else-leaves-clause-parts : goal.put_subquery-returns-else-leaves-clause-parts
put_subquery-returns-else-leaves-clause-parts t c =
    subst (λ x. OnOk c.put_within.result (c.put_within.new.found ≡ c.args.found.now ++ x)) (within_parts c.args.frame.catalog.now c.args.frame.leaving c.args.frame.relations.now c.args.q.now c.args.start c.args.outer c.args.given (first_set c.args.begun.now) c.in_ok-leaves.leaves c.in_ok-leaves.ensures c.if-leaves.false)
    (subst (λ n. OnOk c.put_within.result (c.put_within.new.found ≡ c.args.found.now ++ parts_inside c.args.frame.catalog.now (inside c.args.frame.leaving) c.args.q.now c.args.given c.args.start.ins n)) c.in_ok-second.ensures c.put_within.ensures.parts)
