use Rattle.std.proofs.Common.{◌≡◌, IfOk, sym, ap, ◌∙◌, subst}
use Rattle.cq_tree.specs.declared.query.Query.{Query, out-Query}
use Rattle.cq_one_plan.specs.Yields.{opened}
use Rattle.cq_planner.specs.Made.{with_from}
use Rattle.cq_exec.proofs.SpreadNodes.{opened_query_is}
use Rattle.cq_exec.proofs.spread.opened_query.Goals as goal

pub returns : goal.returns
returns c =
    let q = c.args.query.now in
    let catalog = c.args.catalog.now in
    subst (λ (x : Query). IfOk c.with_from.result (λ r. r ≡ x))
    (ap (with_from q) (c.in_ok-from.ensures.from ∙ ap (λ n. opened catalog n (out-Query q).from) (c.from-next.ensures ∙ c.tables.ensures.tables)) ∙ sym (opened_query_is catalog q))
    c.with_from.ensures
