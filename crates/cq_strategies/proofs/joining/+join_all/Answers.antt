use Rattle.std.proofs.Common.{◌≡◌, Option, IfOk, sym, ap, ◌∙◌, subst, arith}
use Rattle.cq_shape.specs.Labels.{label}
use Rattle.cq_outline.specs.declared.joining.Joined.{Joined}
use Rattle.cq_outline.specs.Joining.{next_of}
use Rattle.cq_strategies.specs.declared.next.Candidate.{Candidate}
use Rattle.cq_strategies.specs.Choices.{choice}
use Rattle.cq_strategies.proofs.JoinLaws.{chosen_there, join_more}
use Rattle.cq_strategies.proofs.joining.+join_all.Goals as goal

pub joined_with-requires : goal.joined_with-requires
joined_with-requires t c =
    (chosen_there (label c.args.labels.now) c.args.catalog.now c.as_slice.result.now c.args.components c.in_ok-next.field-0.others c.in-Some.field-0 c.requires
    (sym (ap (λ (o : Option Candidate). choice o c.in_ok-next.field-0.others) c.in-Some.is) ∙ c.in_ok-next.ensures)).0

pub join_all-requires : goal.join_all-requires
join_all-requires t c = (
  omega (arith, c.decreases, c.if-more-eq0.false),
  (chosen_there (label c.args.labels.now) c.args.catalog.now c.as_slice.result.now c.args.components c.in_ok-next.field-0.others c.in-Some.field-0 c.requires
      (sym (ap (λ (o : Option Candidate). choice o c.in_ok-next.field-0.others) c.in-Some.is) ∙ c.in_ok-next.ensures)).1,
)

pub returns-in_ok-wider-in-Some : goal.returns-in_ok-wider-in-Some
returns-in_ok-wider-in-Some t c =
    subst (λ (k : Joined). IfOk c.join_all.result (λ (j : Joined). j ≡ k))
    (join_more (label c.args.labels.now) c.args.catalog.now c.args.more c.args.joined c.in_ok-wider-in-Some.wider c.args.components c.in_ok-next.field-0.others c.in-Some.field-0 c.if-more-eq0.false
    (sym (ap (λ (o : Option Candidate). choice o c.in_ok-next.field-0.others) c.in-Some.is) ∙ (c.in_ok-next.ensures ∙ ap (λ xs. next_of (label c.args.labels.now) xs c.args.components) c.as_slice.ensures))
    c.in_ok-wider-in-Some.ensures)
    c.join_all.ensures
