use Rattle.std.proofs.Common.{◌≡◌, ◌++◌, map, take}
use Rattle.cq_columnar.specs.Chunks.{tag_of, column}
use Rattle.cq_columnar.proofs.writing.push_tags.Given as goal

abbrev pub invariant-loop-row : goal.invariant-loop-row
invariant-loop-row l = l.out.items ≡ l.fn.out.items ++ map tag_of (column (take l.row-index l.rows) l.place)
