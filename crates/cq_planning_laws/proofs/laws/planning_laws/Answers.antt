use Rattle.cq_planning_laws.proofs.Ascends.{sets_ascend}
use Rattle.cq_planning.proofs.Ascending.{ascends, ascending_has, has_ascending}
use Rattle.cq_planning_laws.proofs.Laid.{bound_is_laid}
use Rattle.cq_planning_laws.proofs.InLists.{ins_are_exact}
use Rattle.cq_planning_laws.proofs.Classes.{classes_connect}
use Rattle.cq_planning_laws.proofs.Statements.{queries_narrow, large_narrow, untouched_free}
use Rattle.cq_planning_laws.proofs.Writes.{writes_touch}
use Rattle.cq_planning_laws.proofs.laws.planning_laws.Goals as goal

pub returns-clause-writes : goal.returns-clause-writes
returns-clause-writes c = writes_touch

pub returns-clause-queries : goal.returns-clause-queries
returns-clause-queries c = queries_narrow

pub returns-clause-large : goal.returns-clause-large
returns-clause-large c = large_narrow

pub returns-clause-classes : goal.returns-clause-classes
returns-clause-classes c = classes_connect

pub returns-clause-ins : goal.returns-clause-ins
returns-clause-ins c = ins_are_exact

pub returns-clause-laid : goal.returns-clause-laid
returns-clause-laid c = bound_is_laid

pub returns-clause-ascending : goal.returns-clause-ascending
returns-clause-ascending c vs = (ascends vs, λ v. (ascending_has v vs, has_ascending v vs))

pub returns-clause-sets : goal.returns-clause-sets
returns-clause-sets c = sets_ascend

pub returns-clause-untouched : goal.returns-clause-untouched
returns-clause-untouched c = untouched_free
