use Rattle.std.proofs.Common.{◌≡◌, ◌++◌, drop}
use Rattle.cq_print.proofs.writer.Writer.append.Given as goal

abbrev pub invariant-kinds : goal.invariant-kinds
invariant-kinds l = l.initial.self ++ l.kind-items ≡ l.self ++ drop l.kind-index l.kind-items
