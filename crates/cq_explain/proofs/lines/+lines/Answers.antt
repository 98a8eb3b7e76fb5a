use Rattle.std.proofs.Common.{rules, arith, ap, ◌+◌, ◌++◌, ◌∙◌}
use Rattle.cq_outline.specs.Texts.{subplans_in, lines_from}
use Rattle.cq_one_plan.specs.Reading.{outline_in}
use Rattle.cq_explain.specs.Subplans.{nodes_by}
use Rattle.cq_explain.proofs.LineLaws.{count_is, plan_lines, one_more, count_more}
use Rattle.cq_explain.proofs.lines.+lines.Goals as goal

pub put_plan-returns-clause-lines : goal.put_plan-returns-clause-lines
put_plan-returns-clause-lines t c =
    plan_lines c.args.site.catalog.now (nodes_by c.args.site.nodes.now) c.args.depth c.in_ok-inner.inner c.args.number c.args.plan.now c.planner_words.result.now c.combine_words.result.now
    c.as_slice.result.now c.as_slice-2.result.now c.args.lines.now c.put.new.lines c.put-2.new.lines c.put_steps.new.lines c.put_subplans.new.lines c.put-3.new.lines c.put_tasks.new.lines
    c.in_ok-inner.ensures c.planner_words.ensures c.combine_words.ensures c.as_slice.ensures c.as_slice-2.ensures c.in_ok-put.ensures c.in_ok-put-2.ensures c.in_ok-put_steps.ensures c.in_ok-next.ensures.lines c.in_ok-put-3.ensures c.in_ok-put_tasks.ensures

pub put_plan-returns-clause-next : goal.put_plan-returns-clause-next
put_plan-returns-clause-next t c = rw count_is (search rules)

pub put_subplans-subplans-preserved : goal.put_subplans-subplans-preserved
put_subplans-subplans-preserved t c = record {
  written =
      one_more c.args.site.catalog.now (nodes_by c.args.site.nodes.now) c.args.depth c.in_ok-inner.inner c.args.subplans.now c.subplans.subplan-index c.subplan-item.result c.subplans.next c.in_ok-next.next
      c.subplans.lines c.put_number.new.lines c.put_plan.new.lines _ (omega arith) c.subplan-item.is c.in_ok-inner.ensures c.in_ok-put_number.ensures
      (c.in_ok-next.ensures.lines ∙ ap (λ n. c.put_number.new.lines ++ lines_from c.args.site.catalog.now (nodes_by c.args.site.nodes.now) c.in_ok-inner.inner n (outline_in c.subplan-item.result)) c.in_ok-plus.ensures)
      (c.in_ok-next.ensures.next ∙ ap (λ n. n + subplans_in (outline_in c.subplan-item.result)) c.in_ok-plus.ensures) c.subplans.invariant.written;
  counted =
      count_more c.args.subplans.now c.subplans.subplan-index c.subplan-item.result c.subplans.next c.in_ok-next.next _ (omega arith) c.subplan-item.is
      (c.in_ok-next.ensures.next ∙ ap (λ n. n + subplans_in (outline_in c.subplan-item.result)) c.in_ok-plus.ensures) c.subplans.invariant.counted;
}
