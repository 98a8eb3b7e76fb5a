use Rattle.std.proofs.Common.{◌≡◌, ◌++◌}
use Rattle.cq_pages.proofs.shared.SharedRows.append.Given as goal

abbrev pub invariant-loop-part : goal.invariant-loop-part
invariant-loop-part l = record {
  first : l.self-inside.first ≡ l.initial.self-inside.first;
  parts : l.self-inside.parts ≡ l.initial.self-inside.parts ++ l.yielded;
}
