use Rattle.std.proofs.Common.{refl, subst, sym, ◌∙◌, Some}
use Rattle.std.specs.Prelude.{Bool}
use Rattle.cq_answer.specs.declared.answer.Answer.{Answer}
use Rattle.cq_history.specs.Refusals.{rules}
use Rattle.cq_history.specs.Log.{IsAnswered}
use Rattle.cq_history.proofs.Answering.{refusal_is_answered}
use Rattle.cq_cluster.specs.Cluster.{run_of}
use Rattle.cq_cluster.proofs.AnswerLaws.{other_is_accounted}
use Rattle.cq_cluster.specs.Accounts.{Retires}
use Rattle.cq_coordinator.proofs.Naming.{none_retired}
use Rattle.cq_session.proofs.Naming.{unread_named, unread_names_none}
use Rattle.cq_session.proofs.Copies.{answered_with, accounted_with, retires_with, spares_with, tagged_is, failed_is_tagged}
use Rattle.cq_session.proofs.ReadingLaws.{bound_ok, bound_err}
use Rattle.cq_session.specs.Responses.{tagged, is_copy, reading_for, reading_with, IsTagged}
use Rattle.cq_cluster.specs.Steady.{SparesSteady}
use Rattle.cq_cluster.proofs.SteadyLaws.{spares_none}
use Rattle.cq_coordinator.specs.Coordination.{environment, journals}
use Rattle.cq_session.proofs.texts.respond.Goals as goal

pub answer-answer-requires-clause-computable : goal.answer-answer-requires-clause-computable
answer-answer-requires-clause-computable g c = λ lifetimes outlive. (c.in-Ok.ensures.computable c.requires.sound.whole c.requires.columns).0

pub answer-answer-requires-clause-no_data : goal.answer-answer-requires-clause-no_data
answer-answer-requires-clause-no_data g c = λ lifetimes outlive. (c.in-Ok.ensures.computable c.requires.sound.whole c.requires.columns).1

pub returns-in-Ok-clause-answered : goal.returns-in-Ok-clause-answered
returns-in-Ok-clause-answered g c = λ initial entry are.
    let old = c.args.coordinator.now in
    let new = c.answer-answer.new.self in
    let run = run_of old.cluster.nodes initial entry in
    let tables = old.cluster.catalog.tables in
    subst (λ (a : Answer). IsAnswered rules run (environment old) (environment new) c.args.who (journals old) (journals new) (Some c.in-Ok.reading.statement) a) (sym c.tagged.ensures)
    (answered_with rules run (environment old) (environment new) c.args.who (journals old) (journals new) c.args.copied.now tables (reading_for c.args.who.session c.args.text.now tables) c.in-Ok.reading.statement c.in-Ok.reading.is_copy c.answer-answer.result
    c.in-Ok.ensures.reads.ok c.in-Ok.ensures.reads.copy (c.answer-answer.ensures.answered initial entry are))

pub returns-in-Ok-clause-reads : goal.returns-in-Ok-clause-reads
returns-in-Ok-clause-reads g c =
    let tables = c.args.coordinator.now.cluster.catalog.tables in
    let own = tagged_is c.in-Ok.reading.is_copy c.answer-answer.result c.answer-answer.ensures.tag in
    record {
      read = reading_for c.args.who.session c.args.text.now tables;
      means = c.read.ensures.reads.means;
      is_bound = bound_ok c.tagged.result c.in-Ok.reading.statement (reading_with c.args.who.session c.args.text.now c.args.copied.now tables) c.in-Ok.ensures.reads.ok;
      is_tagged = subst (IsTagged (is_copy (reading_for c.args.who.session c.args.text.now tables))) (sym c.tagged.ensures)
          (subst (λ (b : Bool). IsTagged b (tagged c.in-Ok.reading.is_copy c.answer-answer.result)) c.in-Ok.ensures.reads.copy own);
    }

pub returns-in-Ok-clause-allowed : goal.returns-in-Ok-clause-allowed
returns-in-Ok-clause-allowed g c = c.in-Ok.ensures.allowed

pub returns-in-Ok-clause-accounted : goal.returns-in-Ok-clause-accounted
returns-in-Ok-clause-accounted g c = λ answers a is next all.
    let new = c.answer-answer.new.self in
    accounted_with g.S.Store.state new.cluster.catalog answers a c.in-Ok.reading.is_copy c.answer-answer.result new.cluster.groups.items (is ∙ c.tagged.ensures)
    (c.answer-answer.ensures.accounted answers (record a { answer = c.answer-answer.result }) refl (record { is = next.is; answered = next.answered; phases = next.phases }) all)

pub returns-in-Ok-clause-retires : goal.returns-in-Ok-clause-retires
returns-in-Ok-clause-retires g c = subst (λ (a : Answer). Retires c.args.who a c.args.coordinator.now.cluster.retired.items c.answer-answer.new.self.cluster.retired.items) (sym c.tagged.ensures)
    (retires_with c.args.who c.in-Ok.reading.is_copy c.answer-answer.result _ _ c.answer-answer.ensures.retires)

pub returns-in-Err-clause-answered : goal.returns-in-Err-clause-answered
returns-in-Err-clause-answered g c = λ initial entry are. (refusal_is_answered rules (run_of c.args.coordinator.now.cluster.nodes initial entry) (environment c.args.coordinator.now) c.args.who (journals c.args.coordinator.now) c.in-Err.fault).0
    c.in-Err.ensures.fault

pub returns-in-Err-clause-reads : goal.returns-in-Err-clause-reads
returns-in-Err-clause-reads g c =
    let tables = c.args.coordinator.now.cluster.catalog.tables in
    record {
      read = reading_for c.args.who.session c.args.text.now tables;
      means = c.read.ensures.reads.means;
      is_bound = bound_err c.in-Err.fault (reading_with c.args.who.session c.args.text.now c.args.copied.now tables) c.in-Err.ensures.reads.err;
      is_tagged = failed_is_tagged (is_copy (reading_for c.args.who.session c.args.text.now tables)) c.in-Err.fault;
    }

pub returns-in-Err-clause-allowed : goal.returns-in-Err-clause-allowed
returns-in-Err-clause-allowed g c = λ low. tt

pub returns-in-Err-clause-accounted : goal.returns-in-Err-clause-accounted
returns-in-Err-clause-accounted g c = λ answers a is next all.
    other_is_accounted g.S.Store.state c.args.coordinator.now.cluster.catalog c.args.coordinator.now.cluster.groups.items c.args.who answers a
    (unread_named a.answer c.in-Err.fault c.args.who.session c.args.text.now c.args.copied.now c.args.coordinator.now.cluster.catalog.tables is c.in-Err.ensures.reads.err) next all

pub returns-in-Err-clause-retires : goal.returns-in-Err-clause-retires
returns-in-Err-clause-retires g c =
    none_retired c.args.who c.in-Err.fault _ _ refl (unread_names_none c.in-Err.fault c.args.who.session c.args.text.now c.args.copied.now c.args.coordinator.now.cluster.catalog.tables c.in-Err.ensures.reads.err)

pub returns-in-Ok-clause-means : goal.returns-in-Ok-clause-means
returns-in-Ok-clause-means g c = c.read.ensures.reads.means

pub returns-in-Ok-clause-sound : goal.returns-in-Ok-clause-sound
returns-in-Ok-clause-sound g c = c.answer-answer.ensures.sound

pub returns-in-Ok-clause-stores : goal.returns-in-Ok-clause-stores
returns-in-Ok-clause-stores g c = c.answer-answer.ensures.stores

pub returns-in-Err-clause-means : goal.returns-in-Err-clause-means
returns-in-Err-clause-means g c = c.read.ensures.reads.means

pub returns-in-Err-clause-sound : goal.returns-in-Err-clause-sound
returns-in-Err-clause-sound g c = c.requires.sound

pub returns-in-Ok-clause-steady : goal.returns-in-Ok-clause-steady
returns-in-Ok-clause-steady g c =
    let old = c.args.coordinator.now.cluster in
    let new = c.answer-answer.new.self.cluster in
    subst (λ (a : Answer). SparesSteady g.S.Store.state a old new) (sym c.tagged.ensures) (spares_with g.S.Store.state c.in-Ok.reading.is_copy c.answer-answer.result old new c.answer-answer.ensures.steady)

pub returns-in-Err-clause-steady : goal.returns-in-Err-clause-steady
returns-in-Err-clause-steady g c =
    spares_none g.S.Store.state c.args.coordinator.now.cluster c.in-Err.fault (unread_names_none c.in-Err.fault c.args.who.session c.args.text.now c.args.copied.now c.args.coordinator.now.cluster.catalog.tables c.in-Err.ensures.reads.err)
