use Rattle.std.proofs.Common.{◌≡◌, ◌-◌, nat_eq}
use Rattle.std.specs.List.{list_any, list_all}
use Rattle.cq_planning.specs.Touched.{numbers}
use Rattle.cq_planning.specs.Refusals.{orders_all}
use Rattle.cq_refusals.proofs.cuts.orders_all.Given as goal

abbrev pub invariant-loop-output : goal.invariant-loop-output
invariant-loop-output l = list_all (λ at. list_any (λ k. nat_eq k.item at) l.order) (numbers l.output (l.shown - l.output)) ≡ orders_all l.order l.shown
