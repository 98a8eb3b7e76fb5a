use Rattle.std.proofs.Common.{◌≡◌, sym, ap, ◌∙◌}
use Rattle.std.specs.Prelude.{◌||◌}
use Rattle.cq_queries.specs.Pruned.{may_drop}
use Rattle.cq_queries.proofs.PruneLaws.{drop_and}
use Rattle.cq_queries.proofs.prune.+may_drop.Goals as goal

pub returns-then-may_drop : goal.returns-then-may_drop
returns-then-may_drop t c =
    let first : c.may_drop.result ≡ may_drop c.in-And.a = rw c.get.ensures at c.may_drop.ensures in
    c.if-may_drop.true ∙ sym (ap (λ d. may_drop d) c.in-And.is ∙ drop_and c.in-And.a c.in-And.b ∙ ap (λ x. x || may_drop c.in-And.b) (sym first ∙ c.if-may_drop.true))

pub returns-else-may_drop : goal.returns-else-may_drop
returns-else-may_drop t c =
    let first : c.may_drop.result ≡ may_drop c.in-And.a = rw c.get.ensures at c.may_drop.ensures in
    let second : c.may_drop-else-may_drop.result ≡ may_drop c.in-And.b = rw c.get-else-may_drop.ensures at c.may_drop-else-may_drop.ensures in
    second ∙ sym (ap (λ d. may_drop d) c.in-And.is ∙ drop_and c.in-And.a c.in-And.b ∙ ap (λ x. x || may_drop c.in-And.b) (sym first ∙ c.if-may_drop.false))
