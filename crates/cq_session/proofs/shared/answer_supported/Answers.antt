use Rattle.std.proofs.Common.{sym, ◌∙◌, ap, subst, []}
use Rattle.cq_tree.specs.declared.statement.Statement.TheVariants as statement
use Rattle.cq_meaning.specs.Effects.{table_of}
use Rattle.cq_groups.specs.Looking.{environment_at}
use Rattle.cq_session.specs.Shared.{CanRun}
use Rattle.cq_session.proofs.SharedLaws.{runs_by, parts_are_legal, query_is_no_copy, query_retires_none}
use Rattle.cq_session.proofs.shared.answer_supported.Goals as goal

pub answer_write-requires-clause-may : goal.answer_write-requires-clause-may
answer_write-requires-clause-may g c = λ k m reply.
    let s = c.args.scene.now in
    let op = c.in-Write.op in
    c.requires.serve.may k _
    (parts_are_legal (environment_at s.catalog.now s.settings []) op (runs_by s.catalog.now s.settings c.args.statement.now (statement.Write op) c.in-Write.is c.requires.supported) (c.requires.serve.keyed (table_of op))
    (subst (CanRun s.catalog.now) c.in-Write.is c.requires.runs) k m reply)

pub returns-in-Select-clause-tag : goal.returns-in-Select-clause-tag
returns-in-Select-clause-tag g c =
    let s = c.args.scene.now in
    let old = g.V.Groups.outlook c.args.groups.now c.args.who in
    let new = g.V.Groups.outlook c.answer_query.new.groups c.args.who in
    query_is_no_copy s.catalog.now s.nodes s.settings c.args.who old new c.requires.serve c.get.result.now c.answer_query.result
    (runs_by s.catalog.now s.settings c.args.statement.now (statement.Select c.get.result.now) (c.in-Select.is ∙ ap statement.Select (sym c.get.ensures)) c.requires.supported) c.answer_query.ensures.answered

pub returns-in-Select-clause-retires : goal.returns-in-Select-clause-retires
returns-in-Select-clause-retires g c =
    let s = c.args.scene.now in
    let old = g.V.Groups.outlook c.args.groups.now c.args.who in
    let new = g.V.Groups.outlook c.answer_query.new.groups c.args.who in
    query_retires_none s.catalog.now s.nodes s.settings c.args.who old new c.requires.serve c.get.result.now c.answer_query.result
    (runs_by s.catalog.now s.settings c.args.statement.now (statement.Select c.get.result.now) (c.in-Select.is ∙ ap statement.Select (sym c.get.ensures)) c.requires.supported) c.answer_query.ensures.answered
