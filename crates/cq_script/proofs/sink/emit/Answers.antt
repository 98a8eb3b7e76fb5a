use Rattle.std.proofs.Common.{arith}
use Rattle.std.proofs.lemmas.Grind.{common_steps}
use Rattle.cq_script.proofs.WritingLaws.{wrote_more}
use Rattle.cq_script.proofs.sink.emit.Goals as goal

pub loop-at-preserved : goal.loop-at-preserved
loop-at-preserved g c = record {
  wrote = wrote_more _ _ _ c.args.bytes.now c.loop-at.at c.in_ok-at.field-0 c.loop-at.invariant.wrote c.in_ok-at.ensures.wrote;
  within = (let h = c.in_ok-at.ensures.within in grind (arith, common_steps));
}
