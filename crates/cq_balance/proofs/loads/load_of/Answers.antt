use Rattle.std.proofs.Common.{◌≡◌, ◌≤◌, Bool, true, false, nat_eq, if◌then◌else◌, ap, ◌∙◌, arith}
use Rattle.std.proofs.lemmas.List.{take_all}
use Rattle.std.proofs.lemmas.List.Sums.{sum_by_more_le_part}
use Rattle.cq_balance.specs.declared.load.Load.{Load}
use Rattle.cq_balance.specs.Greedy.{load_of}
use Rattle.cq_balance.proofs.Sizes.{load_low}
use Rattle.cq_balance.proofs.loads.load_of.Goals as goal

pub overflow_add-sum : goal.overflow_add-sum
overflow_add-sum c =
    let n = c.args.node in
    let low = sum_by_more_le_part (λ (l : Load). if nat_eq l.node n then l.size else 0) (λ (l : Load). l.size) c.args.loads.now c.loop-load.load-index (record { group = 0; node = 0; size = 0 })
    (omega arith) part in
    omega (arith, low, c.loop-load.invariant, c.requires)
  where
    part : (l : Load) → (if nat_eq l.node c.args.node then l.size else 0) ≤ l.size
    part l = by (nat_eq l.node c.args.node)
      where
        by : (b : Bool) → (if b then l.size else 0) ≤ l.size
        by true = omega arith
        by false = omega arith

pub returns-clause-low : goal.returns-clause-low
returns-clause-low c =
    let low = load_low c.args.loads.now c.args.node in
    let same : c.loop-load.sum ≡ load_of c.args.loads.now c.args.node = c.loop-load.invariant ∙ ap (λ ls. load_of ls c.args.node) (take_all c.loop-load.load-index c.args.loads.now (omega arith)) in
    omega (arith, low, same, c.requires)
