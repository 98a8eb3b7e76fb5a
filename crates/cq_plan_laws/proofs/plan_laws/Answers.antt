use Rattle.cq_plan_laws.proofs.Standing.{subqueries_stand, right_sides_stand, frames_answer, answers_long, lengths_again}
use Rattle.cq_plan_laws.proofs.Explaining.{plans_explain}
use Rattle.cq_plan_laws.proofs.Blocks.{one_task_serves, no_task_serves, group_tasks_serve}
use Rattle.cq_plan_laws.proofs.SplitServing.{splits_serve, buckets_by_value}
use Rattle.cq_plan_laws.proofs.Composing.{plans_answer}
use Rattle.cq_plan_laws.proofs.Scoping.{statements_answer}
use Rattle.cq_plan_laws.proofs.Yielding.{blocks_serve, plans_yield}
use Rattle.cq_plan_laws.proofs.Opening.{opened_answers, repartitions_serve}
use Rattle.cq_plan_laws.proofs.Touching.{plans_touch}
use Rattle.cq_plan_laws.proofs.Reaching.{plans_reach}
use Rattle.cq_plan_laws.proofs.Refusing.{plans_refuse}
use Rattle.cq_plan_laws.proofs.plan_laws.Goals as goal

pub returns-clause-subqueries : goal.returns-clause-subqueries
returns-clause-subqueries c = subqueries_stand

pub returns-clause-rights : goal.returns-clause-rights
returns-clause-rights c = right_sides_stand

pub returns-clause-frames : goal.returns-clause-frames
returns-clause-frames c = frames_answer

pub returns-clause-explain : goal.returns-clause-explain
returns-clause-explain c = plans_explain

pub returns-clause-long : goal.returns-clause-long
returns-clause-long c = answers_long

pub returns-clause-one_task : goal.returns-clause-one_task
returns-clause-one_task c = one_task_serves

pub returns-clause-no_task : goal.returns-clause-no_task
returns-clause-no_task c = no_task_serves

pub returns-clause-group_tasks : goal.returns-clause-group_tasks
returns-clause-group_tasks c = group_tasks_serve

pub returns-clause-splits : goal.returns-clause-splits
returns-clause-splits c = splits_serve

pub returns-clause-answer : goal.returns-clause-answer
returns-clause-answer c = plans_answer

pub returns-clause-statements : goal.returns-clause-statements
returns-clause-statements c = statements_answer

pub returns-clause-blocks : goal.returns-clause-blocks
returns-clause-blocks c = blocks_serve

pub returns-clause-yield_ : goal.returns-clause-yield_
returns-clause-yield_ c = plans_yield

pub returns-clause-opened : goal.returns-clause-opened
returns-clause-opened c = opened_answers

pub returns-clause-repartitions : goal.returns-clause-repartitions
returns-clause-repartitions c = repartitions_serve

pub returns-clause-long_again : goal.returns-clause-long_again
returns-clause-long_again c = lengths_again

pub returns-clause-buckets : goal.returns-clause-buckets
returns-clause-buckets c = buckets_by_value

pub returns-clause-touch : goal.returns-clause-touch
returns-clause-touch c = plans_touch

pub returns-clause-refuse : goal.returns-clause-refuse
returns-clause-refuse c = plans_refuse

pub returns-clause-reach : goal.returns-clause-reach
returns-clause-reach c = plans_reach
