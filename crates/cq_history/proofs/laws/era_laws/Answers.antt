use Rattle.cq_history.proofs.Eras.{eras_begin, era_closes, eras_are_whole, eras_go_on}
use Rattle.cq_history.proofs.Script.{eras_answer}
use Rattle.cq_history.proofs.laws.era_laws.Goals as goal

pub returns-clause-begin : goal.returns-clause-begin
returns-clause-begin c = eras_begin

pub returns-clause-closes : goal.returns-clause-closes
returns-clause-closes c = era_closes

pub returns-clause-whole : goal.returns-clause-whole
returns-clause-whole c = eras_are_whole

pub returns-clause-goes_on : goal.returns-clause-goes_on
returns-clause-goes_on c = eras_go_on

pub returns-clause-answer : goal.returns-clause-answer
returns-clause-answer c = eras_answer
