use Rattle.std.proofs.Common.{refl, sym, subst, Some}
use Rattle.cq_answer.specs.declared.answer.Answer.TheVariants as answer
use Rattle.cq_history.specs.Refusals.{rules}
use Rattle.cq_reach.specs.Outlook.{still}
use Rattle.cq_reach.specs.Seen.{journals_in}
use Rattle.cq_groups.specs.Looking.{environment_at}
use Rattle.cq_coordinator.proofs.Naming.{none_named}
use Rattle.cq_session.specs.Shared.{CanAnswer, IsAnsweredOver}
use Rattle.cq_session.proofs.Naming.{reading_names_none}
use Rattle.cq_session.proofs.SharedLaws.{tagged_over, unread_in}
use Rattle.cq_session.proofs.shared.respond_over.Goals as goal

pub returns-in-Ok-clause-answered : goal.returns-in-Ok-clause-answered
returns-in-Ok-clause-answered g c =
    let s = c.args.scene.now in
    let r = c.in-Ok.reading in
    let old = g.V.Groups.outlook c.args.groups.now c.args.who in
    let new = g.V.Groups.outlook c.answer_over-answer.new.groups c.args.who in
    subst (IsAnsweredOver s.catalog.now s.nodes s.settings c.args.who old new (Some r.statement)) (sym c.tagged.ensures)
    (tagged_over s.catalog.now s.nodes s.settings c.args.who old new r.statement r.is_copy c.answer_over-answer.result (subst (CanAnswer s.catalog.now) c.in-Ok.is c.requires.can) c.answer_over-answer.ensures.answered)

pub returns-in-Err-clause-answered : goal.returns-in-Err-clause-answered
returns-in-Err-clause-answered g c = λ p may run retired workers.
    let s = c.args.scene.now in
    unread_in rules run (environment_at s.catalog.now s.settings retired) p c.args.who (journals_in (g.V.Groups.outlook c.args.groups.now c.args.who).known) c.in-Err.fault (subst (CanAnswer s.catalog.now) c.in-Err.is c.requires.can)

pub returns-in-Err-clause-kept : goal.returns-in-Err-clause-kept
returns-in-Err-clause-kept g c = record {
  still = c.requires.ready;
  count = refl;
  steps = still;
  blamed = λ f e. absurd (none_named (answer.Failed c.in-Err.fault) c.in-Err.fault refl (reading_names_none c.in-Err.fault (subst (CanAnswer c.args.scene.now.catalog.now) c.in-Err.is c.requires.can)) f e);
}
