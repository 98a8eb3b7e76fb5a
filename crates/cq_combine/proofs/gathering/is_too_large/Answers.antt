use Rattle.std.proofs.Common.{rules, ◌≡◌, true, false, subst, ap, ◌∙◌}
use Rattle.std.specs.List.{list_any}
use Rattle.cq_meaning.specs.Values.{column, table_rows}
use Rattle.cq_meaning.specs.Queries.{meaning}
use Rattle.cq_meaning.specs.Limits.{is_large}
use Rattle.cq_task_laws.specs.Merging.{is_above_limit, has_large_groups}
use Rattle.cq_task_laws.specs.Counting.{counting}
use Rattle.cq_combine.proofs.LargeLaws.{counting_tells, counting_too_large}
use Rattle.cq_combine.proofs.gathering.is_too_large.Goals as goal

pub returns-clause-ok : goal.returns-clause-ok
returns-clause-ok c =
    let q : c.in_ok-counting.counting ≡ counting c.args.query.now = search rules in
    c.has_large.ensures
    ∙ (ap (list_any (λ row. is_above_limit (column row 0))) (c.as_slice.ensures ∙ (c.in_ok-rows.ensures.ok.0 ∙ ap (λ p. meaning p c.args.tables.now c.args.results.now) q))
    ∙ counting_tells c.args.query.now c.args.tables.now c.args.results.now (subst (λ p. is_large p c.args.tables.now c.args.results.now ≡ false) q c.in_ok-rows.ensures.ok.1))

pub returns-in_err-rows-clause-err : goal.returns-in_err-rows-clause-err
returns-in_err-rows-clause-err c =
    let q : c.in_ok-counting.counting ≡ counting c.args.query.now = search rules in
    let h : is_large c.in_ok-counting.counting c.args.tables.now c.args.results.now ≡ true → has_large_groups c.args.query.now c.args.results.now (table_rows c.args.tables.now 0) ≡ true =
    λ e. counting_too_large c.args.query.now c.args.tables.now c.args.results.now (subst (λ p. is_large p c.args.tables.now c.args.results.now ≡ true) q e) in
    search (rules, h)
