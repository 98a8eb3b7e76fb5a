use Rattle.std.proofs.Common.{sym, subst, Err}
use Rattle.cq_answer.specs.declared.fault.Fault.{Fault}
use Rattle.cq_statement.specs.Finding.{Reads}
use Rattle.cq_statement.specs.Reading.{tree_of}
use Rattle.cq_statement.proofs.ParsingLaws.{parsed_ok, parsed_err}
use Rattle.cq_statement.proofs.reading.parse_all.Goals as goal

pub returns-in-Ok : goal.returns-in-Ok
returns-in-Ok c = λ lexed. parsed_ok c.args.text.now c.args.tokens.now c.in-Ok.tree lexed c.in-Ok.ensures.reads

pub returns-in-Err : goal.returns-in-Err
returns-in-Err c = λ lexed.
    subst (λ (f : Fault). Reads (tree_of c.args.text.now) (Err f)) (sym c.fault_of_parsing.ensures) (parsed_err c.args.text.now c.args.tokens.now c.in-Err.error lexed c.in-Err.ensures.reads)
