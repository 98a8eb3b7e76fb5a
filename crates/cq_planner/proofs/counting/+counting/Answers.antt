use Rattle.std.proofs.Common.{◌≡◌, IfOk, sym, ap, subst, ◌∙◌}
use Rattle.cq_planner.specs.Counting.{counts_in, counts_of, counts_among}
use Rattle.cq_planner.proofs.CountLaws.{query_found, sub_found, cross_found, inner_found, left_found}
use Rattle.cq_planner.proofs.counting.+counting.Goals as goal

pub count_from-returns-in_ok-count_query-in-Sub : goal.count_from-returns-in_ok-count_query-in-Sub
count_from-returns-in_ok-count_query-in-Sub t c =
    subst (λ x. IfOk c.sum.result (λ n. n ≡ x))
    (sub_found c.in-Sub.q c.one_relation.result c.in_ok-count_query-in-Sub.field-0 c.one_relation.ensures (c.in_ok-count_query-in-Sub.ensures ∙ ap counts_of c.get.ensures) ∙ ap counts_in (sym c.in-Sub.is))
    c.sum.ensures

pub count_from-returns-in_ok-count_from-in-Cross-2 : goal.count_from-returns-in_ok-count_from-in-Cross-2
count_from-returns-in_ok-count_from-in-Cross-2 t c =
    subst (λ x. IfOk c.sum-in-Cross.result (λ n. n ≡ x))
    (cross_found c.in-Cross.a c.in-Cross.b c.in_ok-count_from-in-Cross.field-0 c.in_ok-count_from-in-Cross-2.field-0 (c.in_ok-count_from-in-Cross.ensures ∙ ap counts_in c.get-in-Cross.ensures) (c.in_ok-count_from-in-Cross-2.ensures ∙ ap counts_in c.get-in-Cross-2.ensures)
    ∙ ap counts_in (sym c.in-Cross.is))
    c.sum-in-Cross.ensures

pub count_from-returns-in_ok-count_from-in-Inner-2 : goal.count_from-returns-in_ok-count_from-in-Inner-2
count_from-returns-in_ok-count_from-in-Inner-2 t c =
    subst (λ x. IfOk c.sum-in-Inner.result (λ n. n ≡ x))
    (inner_found c.in-Inner.a c.in-Inner.b c.in-Inner.field-2 c.in_ok-count_from-in-Inner.field-0 c.in_ok-count_from-in-Inner-2.field-0 (c.in_ok-count_from-in-Inner.ensures ∙ ap counts_in c.get-in-Inner.ensures) (c.in_ok-count_from-in-Inner-2.ensures ∙ ap counts_in c.get-in-Inner-2.ensures)
    ∙ ap counts_in (sym c.in-Inner.is))
    c.sum-in-Inner.ensures

pub count_from-returns-in_ok-count_from-in-Left-2 : goal.count_from-returns-in_ok-count_from-in-Left-2
count_from-returns-in_ok-count_from-in-Left-2 t c =
    subst (λ x. IfOk c.sum-in-Left.result (λ n. n ≡ x))
    (left_found c.in-Left.a c.in-Left.b c.in-Left.field-2 c.in_ok-count_from-in-Left.field-0 c.in_ok-count_from-in-Left-2.field-0 (c.in_ok-count_from-in-Left.ensures ∙ ap counts_in c.get-in-Left.ensures) (c.in_ok-count_from-in-Left-2.ensures ∙ ap counts_in c.get-in-Left-2.ensures)
    ∙ ap counts_in (sym c.in-Left.is))
    c.sum-in-Left.ensures

pub count_query-returns : goal.count_query-returns
count_query-returns t c =
    query_found c.args.q.now c.in_ok-ctes.ctes c.in_ok-from.from c.in_ok-subs.subs c.len.result c.in_ok-plus.field-0 c.in_ok-plus-2.field-0 c.in_ok-plus-3.field-0 c.in_ok-plus-4.field-0
    (c.in_ok-ctes.ensures ∙ ap counts_among c.as_slice.ensures) c.in_ok-from.ensures (c.in_ok-subs.ensures ∙ ap counts_among c.as_slice-2.ensures)
    c.len.ensures c.in_ok-plus.ensures c.in_ok-plus-2.ensures c.in_ok-plus-3.ensures c.in_ok-plus-4.ensures
