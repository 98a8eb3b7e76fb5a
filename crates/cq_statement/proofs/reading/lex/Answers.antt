use Rattle.std.proofs.Common.{sym, subst, Err}
use Rattle.cq_answer.specs.declared.fault.Fault.{Fault}
use Rattle.cq_statement.specs.Finding.{Reads}
use Rattle.cq_statement.specs.Reading.{tree_of}
use Rattle.cq_statement.proofs.ParsingLaws.{lexed_err}
use Rattle.cq_statement.proofs.reading.lex.Goals as goal

pub returns-in-Err-clause-err : goal.returns-in-Err-clause-err
returns-in-Err-clause-err c = subst (λ (f : Fault). Reads (tree_of c.args.text.now) (Err f)) (sym c.from.ensures) (lexed_err c.args.text.now c.in-Err.error c.in-Err.ensures.value)
