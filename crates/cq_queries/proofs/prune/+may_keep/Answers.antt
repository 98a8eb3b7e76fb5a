use Rattle.std.proofs.Common.{sym, ap, ◌∙◌}
use Rattle.cq_queries.specs.Pruned.{may_keep}
use Rattle.cq_queries.proofs.PruneLaws.{keep_and, both_may, first_not}
use Rattle.cq_queries.proofs.prune.+may_keep.Goals as goal

pub returns-then-may_keep : goal.returns-then-may_keep
returns-then-may_keep t c =
    both_may c.may_keep.result (may_keep c.in-And.a c.args.row.now) (may_keep c.in-And.b c.args.row.now) c.may_keep-then-may_keep.result (rw c.get.ensures at c.may_keep.ensures) c.if-may_keep.true (rw c.get-then-may_keep.ensures at c.may_keep-then-may_keep.ensures)
    ∙ sym (ap (λ d. may_keep d c.args.row.now) c.in-And.is ∙ keep_and c.in-And.a c.in-And.b c.args.row.now)

pub returns-else-may_keep : goal.returns-else-may_keep
returns-else-may_keep t c =
    first_not c.may_keep.result (may_keep c.in-And.a c.args.row.now) (may_keep c.in-And.b c.args.row.now) (rw c.get.ensures at c.may_keep.ensures) c.if-may_keep.false
    ∙ sym (ap (λ d. may_keep d c.args.row.now) c.in-And.is ∙ keep_and c.in-And.a c.in-And.b c.args.row.now)
