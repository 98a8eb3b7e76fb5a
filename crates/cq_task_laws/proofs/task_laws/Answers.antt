use Rattle.std.specs.List.{flat_map}
use Rattle.cq_meaning.proofs.Reorder.{permuted}
use Rattle.cq_meaning_laws.proofs.Permuted.{reordered}
use Rattle.cq_task_laws.specs.Gathering.{kept_of}
use Rattle.cq_task_laws.proofs.CutLaws.{cut_law}
use Rattle.cq_task_laws.proofs.GatherLaws.{gather}
use Rattle.cq_task_laws.proofs.OneTable.{safe_task, safe_merge}
use Rattle.cq_task_laws.proofs.TaskLaws.{tasks_answer, one_table}
use Rattle.cq_task_laws.proofs.LargeLaws.{large_task, large_together}
use Rattle.cq_task_laws.proofs.task_laws.Goals as goal

pub returns-clause-cut : goal.returns-clause-cut
returns-clause-cut c f keep indices d fit located = permuted (cut_law f keep indices d fit located)

pub returns-clause-gather : goal.returns-clause-gather
returns-clause-gather c kind q rs parts answers whole rows p serves given gathers =
    gather kind q rs parts answers whole rows (reordered (kept_of q rs whole) (flat_map (kept_of q rs) parts) p) serves given gathers

pub returns-clause-tasks : goal.returns-clause-tasks
returns-clause-tasks c = tasks_answer

pub returns-clause-one_table : goal.returns-clause-one_table
returns-clause-one_table c = one_table

pub returns-clause-large_task : goal.returns-clause-large_task
returns-clause-large_task c kind q rs parts whole part p has large = large_task kind q rs parts whole part (reordered (kept_of q rs whole) (flat_map (kept_of q rs) parts) p) has large

pub returns-clause-large_together : goal.returns-clause-large_together
returns-clause-large_together c kind q rs parts answers whole p some few given large =
    large_together kind q rs parts answers whole (reordered (kept_of q rs whole) (flat_map (kept_of q rs) parts) p) some few given large

pub returns-clause-safe_task : goal.returns-clause-safe_task
returns-clause-safe_task c = safe_task

pub returns-clause-safe_merge : goal.returns-clause-safe_merge
returns-clause-safe_merge c = safe_merge
