use Rattle.std.proofs.Common.{◌≡◌, List, ℕ, Bor, drop, map}
use Rattle.cq_copy.specs.Rows.{filled, blank}
use Rattle.cq_copy.proofs.frame.Frame.filled.Given as goal

abbrev pub invariant-loop-at : goal.invariant-loop-at
invariant-loop-at l = filled l.fn.self.format l.fn.self.table.now l.fn.row (drop l.at l.fn.self.listed.now) (drop l.at (map (λ (f : Bor (List ℕ)). f.now) l.fn.fields)) l.values
    ≡ filled l.fn.self.format l.fn.self.table.now l.fn.row l.fn.self.listed.now (map (λ (f : Bor (List ℕ)). f.now) l.fn.fields) (blank l.fn.self.table.now)
