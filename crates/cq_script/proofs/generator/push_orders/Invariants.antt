use Rattle.std.proofs.Common.{◌≡◌, ◌++◌}
use Rattle.cq_script.specs.Generating.{orders}
use Rattle.cq_script.proofs.generator.push_orders.Given as goal

abbrev pub invariant-loop-id : goal.invariant-loop-id
invariant-loop-id l = (l.draws.x ≡ (orders l.customers l.fn.draws.x l.id).x) × (l.out.items ≡ l.fn.out.items ++ (orders l.customers l.fn.draws.x l.id).lines)
