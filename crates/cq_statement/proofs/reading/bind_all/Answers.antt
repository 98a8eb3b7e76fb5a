use Rattle.std.proofs.Common.{sym, subst, Err}
use Rattle.cq_reading.specs.Statements.{reading}
use Rattle.cq_answer.specs.declared.fault.Fault.{Fault}
use Rattle.cq_statement.specs.Finding.{Reads}
use Rattle.cq_statement.specs.Reading.{of_reading}
use Rattle.cq_statement.proofs.ParsingLaws.{bound_err}
use Rattle.cq_statement.proofs.reading.bind_all.Goals as goal

pub returns-in-Err : goal.returns-in-Err
returns-in-Err c =
    let r = reading c.args.catalog.now.tables c.args.tree.now in
    subst (λ (f : Fault). Reads (of_reading r) (Err f)) (sym c.from.ensures) (bound_err r c.in-Err.refusal c.in-Err.ensures)
