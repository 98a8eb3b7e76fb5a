use Rattle.std.proofs.Common.{◌≡◌, take}
use Rattle.cq_copies.proofs.copies.ItemsCopyTree.copy.Given as goal

abbrev pub invariant-loop-tree : goal.invariant-loop-tree
invariant-loop-tree g l = l.copies ≡ take l.tree-index l.tree-items
