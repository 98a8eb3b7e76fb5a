use Rattle.std.proofs.Common.{◌≡◌, ◌++◌}
use Rattle.cq_script.specs.Generating.{customers}
use Rattle.cq_script.proofs.generator.push_customers.Given as goal

abbrev pub invariant-loop-id : goal.invariant-loop-id
invariant-loop-id l = (l.draws.x ≡ (customers l.fn.draws.x l.id).x) × (l.out.items ≡ l.fn.out.items ++ (customers l.fn.draws.x l.id).lines)
