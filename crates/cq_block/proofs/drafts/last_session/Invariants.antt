use Rattle.std.proofs.Common.{◌≤◌, take}
use Rattle.std.specs.List.{AllByRecursion}
use Rattle.cq_script.specs.declared.reader.Placed.{Placed}
use Rattle.cq_block.proofs.drafts.last_session.Given as goal

abbrev pub invariant-loop-placed : goal.invariant-loop-placed
invariant-loop-placed l = record {
  few : l.last ≤ 8;
  last : AllByRecursion (λ (p : Placed). p.session ≤ l.last) (take l.placed-index l.block);
}
