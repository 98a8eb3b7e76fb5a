use Rattle.cq_journal.proofs.Replies.{known, refused}
use Rattle.cq_journal.proofs.laws.reply_laws.Goals as goal

pub returns-clause-known : goal.returns-clause-known
returns-clause-known c = known

pub returns-clause-refused : goal.returns-clause-refused
returns-clause-refused c = refused
