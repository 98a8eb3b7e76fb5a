use Rattle.cq_value.specs.Tables.{empty_table}
use Rattle.cq_journal.proofs.Replays.{from_more, replied_more, replay_others}
use Rattle.cq_journal.proofs.laws.replay_laws.Goals as goal

pub returns-clause-goes_on : goal.returns-clause-goes_on
returns-clause-goes_on c table shape es more = from_more table shape empty_table es more

pub returns-clause-replied : goal.returns-clause-replied
returns-clause-replied c = replied_more

pub returns-clause-others : goal.returns-clause-others
returns-clause-others c = replay_others
