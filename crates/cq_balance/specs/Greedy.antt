-- The greedy plan of a rebalance: the largest group that fits goes from the node of greatest load to that of least load, again and again.
use Rattle.std.specs.Prelude.{ℕ, zero, suc, ◌+◌, ◌-◌, ◌*◌, Bool, ◌&&◌, ◌||◌, nat_eq, nat_lt, if◌then◌else◌, Option, Some, None, List, [], ◌∷◌, map, filter, fold}
use Rattle.std.specs.List.{sum_by}
use Rattle.cq_balance.specs.declared.load.Load.{Load}
use Rattle.cq_balance.specs.declared.load.Move.{Move}

-- a node's load: the sizes of the groups on it, summed
abbrev pub load_of : List Load → ℕ → ℕ
load_of loads node = sum_by (λ (l : Load). if nat_eq l.node node then l.size else 0) loads

-- of the nodes from 1 to a number the one of greatest load, and of these the lowest
abbrev pub fullest : List Load → ℕ → ℕ
fullest loads zero = 1
fullest loads (suc n) = if nat_lt (load_of loads (fullest loads n)) (load_of loads (suc n)) then suc n else fullest loads n

-- the one of least load, and of these the lowest
abbrev pub emptiest : List Load → ℕ → ℕ
emptiest loads zero = 1
emptiest loads (suc n) = if nat_lt (load_of loads (suc n)) (load_of loads (emptiest loads n)) then suc n else emptiest loads n

-- a group can go from a node to another: it is there, it isn't empty, and its size is below the difference of the loads
abbrev pub can_move : List Load → ℕ → ℕ → Load → Bool
can_move loads from to l = nat_eq l.node from && (nat_lt 0 l.size && nat_lt l.size (load_of loads from - load_of loads to))

-- a group goes before another: it is larger, or as large and of a lower number
abbrev pub goes_before : Load → Load → Bool
goes_before l other = nat_lt other.size l.size || (nat_eq l.size other.size && nat_lt l.group other.group)

abbrev pub first_of : Option Load → Load → Option Load
first_of None l = Some l
first_of (Some best) l = if goes_before l best then Some l else Some best

-- of the groups that can go from a node to another the one that goes before the others
abbrev pub chosen : List Load → ℕ → ℕ → Option Load
chosen loads from to = fold first_of None (filter (can_move loads from to) loads)

abbrev pub moving : ℕ → ℕ → Option Load → Option Move
moving from to None = None
moving from to (Some l) = Some (record { group = l.group; from = from; to = to; size = l.size })

-- the move that is made next: from the fullest node to the emptiest
abbrev pub next_move : List Load → ℕ → Option Move
next_move loads nodes = moving (fullest loads nodes) (emptiest loads nodes) (chosen loads (fullest loads nodes) (emptiest loads nodes))

-- the groups after a move
abbrev pub placed : Move → Load → Load
placed m l = if nat_eq l.group m.group then record l { node = m.to } else l

abbrev pub moved : List Load → Move → List Load
moved loads m = map (placed m) loads

abbrev pub moved_all : List Load → List Move → List Load
moved_all loads moves = fold moved loads moves

-- the first so many moves, fewer where no further is left
abbrev pub first_moves : ℕ → List Load → ℕ → List Move
first_moves zero loads nodes = []
first_moves (suc n) loads nodes = elim (next_move loads nodes) [ None ↦ [] | Some m ↦ m ∷ first_moves n (moved loads m) nodes ]

-- the squares of the loads of the nodes from 1 to a number, summed
abbrev pub squares : List Load → ℕ → ℕ
squares loads zero = 0
squares loads (suc n) = squares loads n + load_of loads (suc n) * load_of loads (suc n)

-- the moves until none is left: each lowers the sum of the squares, so there are at most that many
abbrev pub greedy : List Load → ℕ → List Move
greedy loads nodes = first_moves (squares loads nodes) loads nodes
