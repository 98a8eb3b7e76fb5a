use Rattle.std.proofs.Common.{rules, ◌≡◌, map, IfOk, sym, subst}
use Rattle.cq_token.specs.Printed.{printed}
use Rattle.cq_grammar.specs.Spelling.{spelling}
use Rattle.cq_print.specs.Cases.{word_of}
use Rattle.cq_print.proofs.ReadAgain.{ReadAgain, read_again, if_ok}
use Rattle.cq_print.proofs.print.print_ast.Goals as goal

pub returns-clause-again : goal.returns-clause-again
returns-clause-again c ts accepted all =
    let a = c.args.statement.now in
    let written : IfOk c.into_text.result (λ text. text ≡ printed (map word_of (spelling a))) = search rules in
    if_ok c.into_text.result (λ text e. subst (ReadAgain a) (sym e) (read_again a ts accepted all)) written
