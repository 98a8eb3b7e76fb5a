use Rattle.std.proofs.Common.{rules, append_assoc}
use Rattle.cq_exec.proofs.BlockLaws.{blocks_is}
use Rattle.cq_exec.proofs.blocks.+blocks.Goals as goal

pub put_blocks-returns : goal.put_blocks-returns
put_blocks-returns t c = rw blocks_is (search (rules, append_assoc))
