use Rattle.cq_token.proofs.Again.{read}
use Rattle.cq_token.proofs.printer.spell.Goals as goal

pub returns-clause-again : goal.returns-clause-again
returns-clause-again c = read c.args.word.now.upper c.args.word.now.kind
