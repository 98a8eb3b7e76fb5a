use Rattle.std.proofs.Common.{◌≡◌, ◌+◌, ◌≤◌, ℕ, length}
use Rattle.std.specs.List.{AllByRecursion}
use Rattle.cq_cell.specs.Turn.{Rests}
use Rattle.cq_move_calls.specs.Moving.{AreSteadyOn}
use Rattle.cq_shared.specs.Errands.{HasKept, SteadyAt, node_in, owed, gaves}
use Rattle.cq_shared.specs.Stocks.{SendsSome, give_notes}
use Rattle.cq_shared.proofs.stock.give_all.Given as goal

abbrev pub invariant-loop-store : goal.invariant-loop-store
invariant-loop-store g l = record {
  rests : Rests l.pass;
  stood : HasKept g.S.Store.state g.L.Legality.terms l.initial.pass → HasKept g.S.Store.state g.L.Legality.terms l.pass;
  sends : (n : ℕ) × (n + length l.stores.items ≡ length l.initial.stores.items) × SendsSome l.initial.pass (give_notes l.who n) l.pass;
  on : AllByRecursion (λ s. (g.S.Store.state s).node ≡ node_in l.initial.pass.me.0.origin) l.stores.items;
  steady : (node : ℕ) → SteadyAt g.L.Legality.terms l.initial.pass node → AreSteadyOn g.S.Store.state node l.stores.items;
  owed : gaves l.pass.me.0.mine + length l.stores.items ≤ owed l.pass.me.0.mine;
}

abbrev pub decreases-loop-store : goal.decreases-loop-store
decreases-loop-store g l = length l.stores.items
