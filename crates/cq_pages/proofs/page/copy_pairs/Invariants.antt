use Rattle.std.proofs.Common.{◌≡◌, take}
use Rattle.cq_pages.proofs.page.copy_pairs.Given as goal

abbrev pub invariant-loop-id : goal.invariant-loop-id
invariant-loop-id l = l.copy.items ≡ take l.id-index l.pairs
