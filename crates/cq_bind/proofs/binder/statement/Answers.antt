use Rattle.std.proofs.Common.{List, sym, subst}
use Rattle.cq_grammar.specs.declared.statement.Ast.{Ast}
use Rattle.cq_grammar.specs.declared.name.Name.{Name}
use Rattle.cq_grammar.specs.declared.statement.CopyOption.{CopyOption}
use Rattle.cq_reading.specs.Outcomes.{Binds, Judges}
use Rattle.cq_reading.specs.Statements.{statement_of, copying}
use Rattle.cq_bind.proofs.binder.statement.Goals as goal

pub returns-in-Create : goal.returns-in-Create
returns-in-Create c = subst (λ (a : Ast). Binds (statement_of c.args.catalog.now.tables a c.args.found.now) c.creation.result c.args.found.now) (sym c.in-Create.is) (c.creation.ensures c.args.found.now)

pub returns-in-Insert : goal.returns-in-Insert
returns-in-Insert c = subst (λ (a : Ast). Binds (statement_of c.args.catalog.now.tables a c.args.found.now) c.insertion.result c.insertion.new.found) (sym c.in-Insert.is) c.insertion.ensures

pub returns-in-Update : goal.returns-in-Update
returns-in-Update c = subst (λ (a : Ast). Binds (statement_of c.args.catalog.now.tables a c.args.found.now) c.update.result c.update.new.found) (sym c.in-Update.is) c.update.ensures

pub returns-in-Delete : goal.returns-in-Delete
returns-in-Delete c = subst (λ (a : Ast). Binds (statement_of c.args.catalog.now.tables a c.args.found.now) c.deletion.result c.deletion.new.found) (sym c.in-Delete.is) c.deletion.ensures

pub returns-in-Copy : goal.returns-in-Copy
returns-in-Copy c =
    subst (λ (a : Ast). Binds (statement_of c.args.catalog.now.tables a c.args.found.now) c.copying.result c.args.found.now) (sym c.in-Copy.is)
    (subst (λ (z : List Name). Judges (copying c.args.catalog.now.tables c.in-Copy.table z c.in-Copy.options) c.copying.result) c.as_slice.ensures
    (subst (λ (z : List CopyOption). Judges (copying c.args.catalog.now.tables c.in-Copy.table c.as_slice.result.now z) c.copying.result) c.as_slice-in-Copy.ensures c.copying.ensures) c.args.found.now)

pub returns-in-Set : goal.returns-in-Set
returns-in-Set c = subst (λ (a : Ast). Binds (statement_of c.args.catalog.now.tables a c.args.found.now) c.setting.result c.args.found.now) (sym c.in-Set.is) (c.setting.ensures c.args.found.now)

pub returns-in-Explain : goal.returns-in-Explain
returns-in-Explain c = subst (λ (a : Ast). Binds (statement_of c.args.catalog.now.tables a c.args.found.now) c.explain.result c.explain.new.found) (sym c.in-Explain.is) c.explain.ensures

pub returns-in-Call : goal.returns-in-Call
returns-in-Call c = subst (λ (a : Ast). Binds (statement_of c.args.catalog.now.tables a c.args.found.now) c.call.result c.args.found.now) (sym c.in-Call.is) (c.call.ensures c.args.found.now)
