use Rattle.std.proofs.Common.{◌+◌, ap, ◌∙◌}
use Rattle.cq_meaning.specs.Queries.{columns_in}
use Rattle.cq_planning.specs.ValueSets.{class_set}
use Rattle.cq_planning.specs.Narrowing.{distribution_in}
use Rattle.cq_shape.specs.Labels.{label}
use Rattle.cq_plan.specs.Begun.{set_at, sets_under, seen}
use Rattle.cq_plan.specs.Touches.{as_one}
use Rattle.cq_plan.proofs.FromNodes.{distribution_cross, distribution_inner, distribution_left}
use Rattle.cq_plan.proofs.WalkLaws.{Walked, free, no_key, cross_arm, inner_arm, left_arm, sub_arm, query_arm}
use Rattle.cq_plan.proofs.walk.+walk.Goals as goal

pub put_query-returns : goal.put_query-returns
put_query-returns t c =
    query_arm c.args.catalog.now c.args.q.now c.as_slice.result.now c.args.outside c.as_slice-2.result.now c.nothing.result.relations.now c.nothing.result.low c.nothing.result.pairs.now c.args.found.now c.walk.new.found
    (ap label c.as_slice.ensures ∙ c.in_ok-labels.ensures) (c.as_slice-2.ensures ∙ c.in_ok-put_all_said.ensures) c.nothing.ensures c.in_ok-walk.ensures.1

pub walk-returns-in_ok-put_query-in-Sub : goal.walk-returns-in_ok-put_query-in-Sub
walk-returns-in_ok-put_query-in-Sub t c =
    rw c.in-Sub.is (sub_arm c.args.catalog.now (class_set (label c.args.base.labels.now) c.args.base.said.now) (set_at (class_set (label c.args.base.labels.now) c.args.base.said.now) c.args.right.relations.now)
    c.args.right.low c.args.right.pairs.now c.in-Sub.q c.args.start c.in_ok-said-in-Sub.said c.in_ok-said-in-Sub.list c.args.found.now c.put_query.new.found
    (rw c.get.ensures at c.in_ok-said-in-Sub.ensures.0) (rw c.get.ensures at c.in_ok-said-in-Sub.ensures.1) (rw c.get-in-Sub.ensures at c.in_ok-put_query-in-Sub.ensures))

pub walk-returns-in_ok-all-in-Cross : goal.walk-returns-in_ok-all-in-Cross
walk-returns-in_ok-all-in-Cross t c =
    let p : Walked c.args.catalog.now (seen c.args.catalog.now c.args.base.labels.now c.args.base.said.now c.nothing.result.relations.now c.nothing.result.low c.nothing.result.pairs.now c.in-Cross.a c.args.start) c.in-Cross.a c.args.start c.in_ok-list-in-Cross.list c.args.found.now c.walk.new.found
    = rw c.get-in-Cross.ensures at c.in_ok-list-in-Cross.ensures in
    let q : Walked c.args.catalog.now (seen c.args.catalog.now c.args.base.labels.now c.args.base.said.now c.nothing-in-Cross.result.relations.now c.nothing-in-Cross.result.low c.nothing-in-Cross.result.pairs.now c.in-Cross.b c.in_ok-behind-in-Cross.behind) c.in-Cross.b c.in_ok-behind-in-Cross.behind c.in_ok-more-in-Cross.more c.walk.new.found c.walk-in-Cross.new.found
    = rw c.get-in-Cross-3.ensures at c.in_ok-more-in-Cross.ensures in
    rw c.in-Cross.is (cross_arm c.args.catalog.now (class_set (label c.args.base.labels.now) c.args.base.said.now) _ _ _ c.in-Cross.a c.in-Cross.b c.args.start c.in_ok-behind-in-Cross.behind c.in_ok-list-in-Cross.list c.in_ok-more-in-Cross.more c.in_ok-all-in-Cross.all c.args.found.now c.walk.new.found c.walk-in-Cross.new.found
    (no_key (class_set (label c.args.base.labels.now) c.args.base.said.now) (set_at (class_set (label c.args.base.labels.now) c.args.base.said.now) c.args.right.relations.now) c.args.right.low c.args.right.pairs.now _ c.args.start (distribution_cross c.args.catalog.now c.args.start c.in-Cross.a c.in-Cross.b))
    (free (class_set (label c.args.base.labels.now) c.args.base.said.now) (set_at (class_set (label c.args.base.labels.now) c.args.base.said.now) c.nothing.result.relations.now) c.nothing.result.low c.nothing.result.pairs.now (distribution_in c.args.catalog.now c.in-Cross.a c.args.start) c.args.start c.nothing.ensures)
    (free (class_set (label c.args.base.labels.now) c.args.base.said.now) (set_at (class_set (label c.args.base.labels.now) c.args.base.said.now) c.nothing-in-Cross.result.relations.now) c.nothing-in-Cross.result.low c.nothing-in-Cross.result.pairs.now (distribution_in c.args.catalog.now c.in-Cross.b c.in_ok-behind-in-Cross.behind) c.in_ok-behind-in-Cross.behind c.nothing-in-Cross.ensures)
    (c.in_ok-behind-in-Cross.ensures ∙ ap (λ n. c.args.start + n) (c.in_ok-count_columns-in-Cross.ensures ∙ ap columns_in c.get-in-Cross-2.ensures))
    p q c.in_ok-all-in-Cross.ensures)

pub walk-returns-in_ok-all-in-Inner : goal.walk-returns-in_ok-all-in-Inner
walk-returns-in_ok-all-in-Inner t c =
    let p : Walked c.args.catalog.now (seen c.args.catalog.now c.args.base.labels.now c.args.base.said.now c.nothing-in-Inner.result.relations.now c.nothing-in-Inner.result.low c.nothing-in-Inner.result.pairs.now c.in-Inner.a c.args.start) c.in-Inner.a c.args.start c.in_ok-list-in-Inner.list c.args.found.now c.walk-in-Inner.new.found
    = rw c.get-in-Inner.ensures at c.in_ok-list-in-Inner.ensures in
    let q : Walked c.args.catalog.now (seen c.args.catalog.now c.args.base.labels.now c.args.base.said.now c.nothing-in-Inner-2.result.relations.now c.nothing-in-Inner-2.result.low c.nothing-in-Inner-2.result.pairs.now c.in-Inner.b c.in_ok-behind-in-Inner.behind) c.in-Inner.b c.in_ok-behind-in-Inner.behind c.in_ok-more-in-Inner.more c.walk-in-Inner.new.found c.walk-in-Inner-2.new.found
    = rw c.get-in-Inner-3.ensures at c.in_ok-more-in-Inner.ensures in
    rw c.in-Inner.is (inner_arm c.args.catalog.now (class_set (label c.args.base.labels.now) c.args.base.said.now) _ _ _ c.in-Inner.a c.in-Inner.b c.in-Inner.field-2 c.args.start c.in_ok-behind-in-Inner.behind c.in_ok-list-in-Inner.list c.in_ok-more-in-Inner.more c.in_ok-all-in-Inner.all c.args.found.now c.walk-in-Inner.new.found c.walk-in-Inner-2.new.found
    (no_key (class_set (label c.args.base.labels.now) c.args.base.said.now) (set_at (class_set (label c.args.base.labels.now) c.args.base.said.now) c.args.right.relations.now) c.args.right.low c.args.right.pairs.now _ c.args.start (distribution_inner c.args.catalog.now c.args.start c.in-Inner.a c.in-Inner.b c.in-Inner.field-2))
    (free (class_set (label c.args.base.labels.now) c.args.base.said.now) (set_at (class_set (label c.args.base.labels.now) c.args.base.said.now) c.nothing-in-Inner.result.relations.now) c.nothing-in-Inner.result.low c.nothing-in-Inner.result.pairs.now (distribution_in c.args.catalog.now c.in-Inner.a c.args.start) c.args.start c.nothing-in-Inner.ensures)
    (free (class_set (label c.args.base.labels.now) c.args.base.said.now) (set_at (class_set (label c.args.base.labels.now) c.args.base.said.now) c.nothing-in-Inner-2.result.relations.now) c.nothing-in-Inner-2.result.low c.nothing-in-Inner-2.result.pairs.now (distribution_in c.args.catalog.now c.in-Inner.b c.in_ok-behind-in-Inner.behind) c.in_ok-behind-in-Inner.behind c.nothing-in-Inner-2.ensures)
    (c.in_ok-behind-in-Inner.ensures ∙ ap (λ n. c.args.start + n) (c.in_ok-count_columns-in-Inner.ensures ∙ ap columns_in c.get-in-Inner-2.ensures))
    p q c.in_ok-all-in-Inner.ensures)

pub walk-returns-in_ok-all-in-Left : goal.walk-returns-in_ok-all-in-Left
walk-returns-in_ok-all-in-Left t c =
    let p : Walked c.args.catalog.now (seen c.args.catalog.now c.args.base.labels.now c.args.base.said.now c.nothing-in-Left.result.relations.now c.nothing-in-Left.result.low c.nothing-in-Left.result.pairs.now c.in-Left.a c.args.start) c.in-Left.a c.args.start c.in_ok-list-in-Left.list c.args.found.now c.walk-in-Left.new.found
    = rw c.get-in-Left.ensures at c.in_ok-list-in-Left.ensures in
    let q : Walked c.args.catalog.now (seen c.args.catalog.now c.args.base.labels.now c.args.base.said.now c.as_slice.result.now c.args.start c.as_slice-in-Left.result.now c.in-Left.b c.in_ok-behind-in-Left.behind) c.in-Left.b c.in_ok-behind-in-Left.behind c.in_ok-side-in-Left.side c.walk-in-Left.new.found c.walk-in-Left-2.new.found
    = rw c.get-in-Left-3.ensures at c.in_ok-side-in-Left.ensures in
    rw c.in-Left.is (left_arm c.args.catalog.now (class_set (label c.args.base.labels.now) c.args.base.said.now) _ _ _ c.in-Left.a c.in-Left.b c.in-Left.on c.args.start c.in_ok-behind-in-Left.behind c.in_ok-list-in-Left.list c.in_ok-side-in-Left.side c.in_ok-more-in-Left.more c.in_ok-all-in-Left.all c.as_slice-in-Left.result.now c.args.found.now c.walk-in-Left.new.found c.walk-in-Left-2.new.found
    (no_key (class_set (label c.args.base.labels.now) c.args.base.said.now) (set_at (class_set (label c.args.base.labels.now) c.args.base.said.now) c.args.right.relations.now) c.args.right.low c.args.right.pairs.now _ c.args.start (distribution_left c.args.catalog.now c.args.start c.in-Left.a c.in-Left.b c.in-Left.on))
    (free (class_set (label c.args.base.labels.now) c.args.base.said.now) (set_at (class_set (label c.args.base.labels.now) c.args.base.said.now) c.nothing-in-Left.result.relations.now) c.nothing-in-Left.result.low c.nothing-in-Left.result.pairs.now (distribution_in c.args.catalog.now c.in-Left.a c.args.start) c.args.start c.nothing-in-Left.ensures)
    (c.in_ok-behind-in-Left.ensures ∙ ap (λ n. c.args.start + n) (c.in_ok-count_columns-in-Left.ensures ∙ ap columns_in c.get-in-Left-2.ensures))
    p (c.as_slice-in-Left.ensures ∙ c.in_ok-pairs-in-Left.ensures)
    (ap (λ l. sets_under (class_set (label c.args.base.labels.now) c.args.base.said.now) (set_at (class_set (label c.args.base.labels.now) c.args.base.said.now) l) c.args.start c.as_slice-in-Left.result.now (distribution_in c.args.catalog.now c.in-Left.b c.in_ok-behind-in-Left.behind) c.in_ok-behind-in-Left.behind) c.as_slice.ensures)
    q (c.in_ok-more-in-Left.ensures ∙ ap (λ x. as_one x c.in_ok-behind-in-Left.behind c.in_ok-side-in-Left.side) c.get-in-Left-4.ensures) c.in_ok-all-in-Left.ensures)
