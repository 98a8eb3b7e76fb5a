-- The laws of the greedy plan.
use Rattle.std.specs.Prelude.{◌≡◌, ◌≢◌, ◌≤◌, ◌<◌, ◌+◌, ⊤, ℕ, Some, None, List, [], ◌∷◌}
use Rattle.std.specs.List.{AllByRecursion}
use Rattle.cq_balance.specs.declared.load.Load.{Load}
use Rattle.cq_balance.specs.declared.load.Move.{Move}
use Rattle.cq_balance.specs.Greedy.{load_of, next_move, moved, moved_all, squares, greedy}

-- no two have one group
abbrev pub AreDistinct : List Load → Type 0
AreDistinct [] = ⊤
AreDistinct (l ∷ ls) = AllByRecursion (λ (k : Load). k.group ≢ l.group) ls × AreDistinct ls

-- each move lowers the sum of the squares of the nodes' loads
abbrev pub MovesLowerSquares : Type 0
MovesLowerSquares = (loads : List Load) (nodes : ℕ) (m : Move) → AreDistinct loads → next_move loads nodes ≡ Some m → squares (moved loads m) nodes < squares loads nodes

-- so the plan ends: after its moves none is left
abbrev pub GreedyEnds : Type 0
GreedyEnds = (loads : List Load) (nodes : ℕ) → AreDistinct loads → next_move (moved_all loads (greedy loads nodes)) nodes ≡ None

-- where each group counts 1, no node ends with more than one group above another
abbrev pub CountsAreEven : Type 0
CountsAreEven = (loads : List Load) (nodes fuller emptier : ℕ) → AreDistinct loads → AllByRecursion (λ (l : Load). l.size ≡ 1) loads →
    0 < fuller → fuller ≤ nodes → 0 < emptier → emptier ≤ nodes →
    load_of (moved_all loads (greedy loads nodes)) fuller ≤ load_of (moved_all loads (greedy loads nodes)) emptier + 1
