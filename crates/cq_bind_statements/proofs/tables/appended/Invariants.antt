use Rattle.std.proofs.Common.{◌≡◌, ◌++◌, take}
use Rattle.cq_bind_statements.proofs.tables.appended.Given as goal

abbrev pub invariant-loop-place : goal.invariant-loop-place
invariant-loop-place l = l.before ≡ l.fn.before ++ take l.place-index l.more
