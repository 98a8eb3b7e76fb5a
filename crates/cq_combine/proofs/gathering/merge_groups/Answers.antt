use Rattle.std.proofs.Common.{rules, ◌≡◌, true, subst}
use Rattle.std.proofs.lemmas.Result.{IfErr-weaker}
use Rattle.cq_meaning.specs.Limits.{is_large}
use Rattle.cq_task_laws.specs.Merging.{merging_groups, joined, as_table}
use Rattle.cq_combine.proofs.LargeLaws.{merging_too_large}
use Rattle.cq_combine.proofs.gathering.merge_groups.Goals as goal

pub returns-clause-err : goal.returns-clause-err
returns-clause-err c =
    let q : c.in_ok-merging.merging ≡ merging_groups c.args.query.now = search rules in
    let t : c.in_ok-tables.tables ≡ as_table (joined c.args.parts) = search rules in
    let same : is_large c.in_ok-merging.merging c.in_ok-tables.tables c.args.results.now ≡ is_large (merging_groups c.args.query.now) (as_table (joined c.args.parts)) c.args.results.now = λ i. is_large (q i) (t i) c.args.results.now in
    rw c.requires.grouped
    (IfErr-weaker c.run_once.result _ _ (λ e h r. merging_too_large c.args.query.now (as_table (joined c.args.parts)) c.args.results.now (subst (λ b. b ≡ true) same (h r))) c.run_once.ensures.err)
