use Rattle.std.proofs.Common.{◌≡◌, drop}
use Rattle.cq_meaning.specs.Values.{Results}
use Rattle.cq_exec.specs.Executing.{Leave, HaveLarge, CanLeave}
use Rattle.cq_exec.proofs.execution.run_blocks.Given as goal

abbrev pub invariant-loop-block : goal.invariant-loop-block
invariant-loop-block l = record {
  can : CanLeave l.catalog l.read l.results (drop l.block-index l.blocks);
  lent : l.read ≡ l.fn.read;
  left : (after : Results) → Leave l.catalog l.read l.results (drop l.block-index l.blocks) after → Leave l.catalog l.fn.read l.fn.results l.blocks after;
  large : HaveLarge l.catalog l.read l.results (drop l.block-index l.blocks) → HaveLarge l.catalog l.fn.read l.fn.results l.blocks;
}
