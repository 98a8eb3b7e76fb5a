use Rattle.std.proofs.Common.{refl, sym, ◌∙◌}
use Rattle.cq_history.specs.Refusals.{rules}
use Rattle.cq_reach.specs.Outlook.{still}
use Rattle.cq_reach.specs.Seen.{journals_in}
use Rattle.cq_groups.specs.Looking.{environment_at}
use Rattle.cq_coordinator.proofs.RefusalAnswers.{unsupported}
use Rattle.cq_session.proofs.SharedLaws.{no_memory_in, unsupported_in}
use Rattle.cq_session.proofs.shared.answer_over.Goals as goal

pub returns-in_default-clause-answered : goal.returns-in_default-clause-answered
returns-in_default-clause-answered g c = λ p may run retired workers.
    let s = c.args.scene.now in
    no_memory_in rules run (environment_at s.catalog.now s.settings retired) p c.args.who (journals_in (g.V.Groups.outlook c.args.groups.now c.args.who).known) c.args.statement.now c.requires.runs

pub returns-in_default-clause-kept : goal.returns-in_default-clause-kept
returns-in_default-clause-kept g c = record { still = c.requires.ready; count = refl; steps = still; blamed = λ f e. cc }

pub returns-in-Some-clause-answered : goal.returns-in-Some-clause-answered
returns-in-Some-clause-answered g c = λ p may run retired workers.
    let s = c.args.scene.now in
    let e = environment_at s.catalog.now s.settings retired in
    unsupported_in rules run e p c.args.who (journals_in (g.V.Groups.outlook c.args.groups.now c.args.who).known) c.args.statement.now c.in-Some.why c.requires.runs
    (unsupported e c.args.statement.now c.in-Some.why (sym c.in-Ok.ensures ∙ c.in-Some.is))

pub returns-in-Some-clause-kept : goal.returns-in-Some-clause-kept
returns-in-Some-clause-kept g c = record { still = c.requires.ready; count = refl; steps = still; blamed = λ f e. cc }
