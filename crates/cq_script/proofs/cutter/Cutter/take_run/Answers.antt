use Rattle.cq_script.proofs.RunLaws.{cut_run}
use Rattle.cq_script.proofs.cutter.Cutter.take_run.Goals as goal

pub returns-clause-same : goal.returns-clause-same
returns-clause-same c = rw (c.in_ok-put_run.ensures, c.split_at.ensures.front, c.split_at.ensures.back, c.run_len.ensures.value) (cut_run c.args.self.now c.args.bytes.now)
