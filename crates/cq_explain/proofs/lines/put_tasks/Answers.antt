use Rattle.std.proofs.Common.{◌≡◌, subst}
use Rattle.std.specs.Prelude.{OnOk}
use Rattle.cq_one_plan.specs.declared.plan.Plan.{out-Plan}
use Rattle.cq_explain.specs.Subplans.{nodes_by, tables_in}
use Rattle.cq_explain.proofs.LineLaws.{none_put, first_put}
use Rattle.cq_explain.proofs.lines.put_tasks.Goals as goal

pub returns-in_ok-put_shown-in-Some : goal.returns-in_ok-put_shown-in-Some
returns-in_ok-put_shown-in-Some c =
    subst (λ lines. OnOk c.put_task.result (c.put_task.new.lines ≡ lines))
    (first_put c.args.site.catalog.now (nodes_by c.args.site.nodes.now) (out-Plan c.args.plan.now).planner (tables_in (out-Plan c.args.plan.now).touches) c.args.depth (out-Plan c.args.plan.now).tasks
    c.in-Some.first.now c.len-count.result c.args.lines.now c.put_number.new.lines c.put_shown.new.lines
    c.in-Some.ensures.value c.len-count.ensures c.in_ok-put_number.ensures c.in_ok-put_shown-in-Some.ensures)
    c.put_task.ensures

pub returns-in-None : goal.returns-in-None
returns-in-None c =
    none_put c.args.site.catalog.now (nodes_by c.args.site.nodes.now) (out-Plan c.args.plan.now).planner (tables_in (out-Plan c.args.plan.now).touches) c.args.depth (out-Plan c.args.plan.now).tasks
    c.len-count.result c.args.lines.now c.put_number.new.lines c.in-None.ensures.value c.len-count.ensures c.in_ok-put_number.ensures
