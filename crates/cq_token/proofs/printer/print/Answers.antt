use Rattle.cq_token.proofs.Again.{printed_kinds}
use Rattle.cq_token.proofs.printer.print.Goals as goal

pub returns-clause-again : goal.returns-clause-again
returns-clause-again c = printed_kinds c.args.words.now
