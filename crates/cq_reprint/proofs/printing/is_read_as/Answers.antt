use Rattle.cq_statement.specs.Reading.{reading_of}
use Rattle.cq_reprint.proofs.Again.{read_again, read_spells}
use Rattle.cq_reprint.proofs.printing.is_read_as.Goals as goal

pub returns-clause-again : goal.returns-clause-again
returns-clause-again c =
    read_again (reading_of c.args.text.now c.args.catalog.now.tables) c.read_statement.result c.args.statement.now c.is_statement.result
    c.read_statement.ensures.reading c.is_statement.ensures.ok c.is_statement.ensures.named

pub returns-clause-spells : goal.returns-clause-spells
returns-clause-spells c =
    read_spells c.args.text.now c.args.catalog.now.tables c.args.statement.now c.is_statement.result c.read_statement.ensures.means (returns-clause-again c)
