use Rattle.std.proofs.Common.{refl, sym, ◌∙◌, subst, Err}
use Rattle.cq_answer.specs.declared.answer.Answer.{Answer}
use Rattle.cq_tree.specs.declared.failure.StoreFailure.{StoreFailure}
use Rattle.cq_tree.specs.declared.statement.Statement.TheVariants as statement
use Rattle.cq_history.specs.Refusals.{rules}
use Rattle.cq_history.proofs.Answering.{write_lacks_memory}
use Rattle.cq_reach.specs.Seen.{journals_in}
use Rattle.cq_reach.specs.declared.error.WriteError.TheVariants.{Memory}
use Rattle.cq_reach.specs.Outlook.{still, more}
use Rattle.cq_groups.specs.Looking.{environment_at}
use Rattle.cq_groups.specs.Served.{IsAnsweredBy}
use Rattle.cq_groups.proofs.FoundLaws.{known_may}
use Rattle.cq_groups.proofs.PhaseLaws.{found_come, write_behind}
use Rattle.cq_groups.proofs.Judging.{ascending, can_take_all}
use Rattle.cq_groups.proofs.Answering.{write_is_answered, write_blames}
use Rattle.cq_groups.proofs.writes.answer_write.Goals as goal

pub write-requires-clause-ascending : goal.write-requires-clause-ascending
write-requires-clause-ascending g c = ascending c.args.catalog.now c.args.op.now c.requires.writable c.in-Ok.divided c.in-Ok.ensures

pub write-requires-clause-takes : goal.write-requires-clause-takes
write-requires-clause-takes g c = can_take_all c.args.catalog.now c.args.op.now c.requires.writable (g.V.Groups.outlook c.args.groups.now c.args.who) c.requires.whole c.requires.may c.in-Ok.divided c.in-Ok.ensures

pub returns-in_default-clause-answered : goal.returns-in_default-clause-answered
returns-in_default-clause-answered g c = λ p may run settings retired workers runs.
    let o = g.V.Groups.outlook c.args.groups.now c.args.who in
    write_behind p c.args.who o.comes may (journals_in o.known) (journals_in o.known) (journals_in o.known) (found_come o o.known (known_may o)) rules run (environment_at c.args.catalog.now settings retired) c.args.op.now _
    (write_lacks_memory rules run (environment_at c.args.catalog.now settings retired) c.args.who (journals_in o.known) c.args.op.now runs)

pub returns-in_default-clause-kept : goal.returns-in_default-clause-kept
returns-in_default-clause-kept g c = record { still = c.requires.ready; count = refl; steps = still; blamed = λ f e. cc }

pub returns-clause-answered : goal.returns-clause-answered
returns-clause-answered g c = λ p may.
    let o = g.V.Groups.outlook c.args.groups.now c.args.who in
    let n = g.V.Groups.outlook c.write.new.self c.args.who in
    let w = c.write.ensures.written in
    subst (λ (a : Answer). IsAnsweredBy c.args.catalog.now c.args.nodes p c.args.who (statement.Write c.args.op.now) a o.known n.known) (sym c.answer_of.ensures) (λ run settings retired workers runs.
    write_behind p c.args.who o.comes may (journals_in o.known) (journals_in w.0) (journals_in n.known) (found_come o w.0 w.1) rules run (environment_at c.args.catalog.now settings retired) c.args.op.now _
    (write_is_answered run (environment_at c.args.catalog.now settings retired) c.args.who c.args.op.now w.0 n.known runs c.requires.keyed c.requires.writable (c.requires.whole w.0 w.1).shaped workers (c.write.ensures.count ∙ sym w.1.count) c.write.result c.in-Ok.divided c.in-Ok.ensures w.2))

pub returns-in_default-clause-form : goal.returns-in_default-clause-form
returns-in_default-clause-form g c = (Err Memory, refl)

pub returns-clause-form : goal.returns-clause-form
returns-clause-form g c = (c.write.result, c.answer_of.ensures)

pub returns-clause-kept : goal.returns-clause-kept
returns-clause-kept g c = record {
  still = c.write.ensures.ready;
  count = c.write.ensures.count;
  steps = more still c.write.ensures.goes_on;
  blamed = λ f e.
      let b = write_blames _ c.args.op.now c.write.result c.write.ensures.failed f (sym c.answer_of.ensures ∙ e) in
      record { before = c.args.groups.now; steps = still; group = b.0; fails = b.1 };
}
