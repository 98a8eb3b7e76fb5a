use Rattle.cq_block_plans.proofs.Staying.{relations_stay, stays_are_pushed}
use Rattle.cq_block_plans.proofs.Covering.{inside_stays}
use Rattle.cq_block_plans.proofs.Taking.{blocks_are_taken}
use Rattle.cq_block_plans.proofs.Apart.{reaches_cover}
use Rattle.cq_block_plans.proofs.Serving.{taken_serve}
use Rattle.cq_block_plans.proofs.block_plan_laws.Goals as goal

pub returns-clause-relations : goal.returns-clause-relations
returns-clause-relations c = relations_stay

pub returns-clause-pushed : goal.returns-clause-pushed
returns-clause-pushed c = stays_are_pushed

pub returns-clause-touch : goal.returns-clause-touch
returns-clause-touch c = inside_stays

pub returns-clause-taken : goal.returns-clause-taken
returns-clause-taken c = blocks_are_taken

pub returns-clause-cover : goal.returns-clause-cover
returns-clause-cover c = reaches_cover

pub returns-clause-serve : goal.returns-clause-serve
returns-clause-serve c = taken_serve
