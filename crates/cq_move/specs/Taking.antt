-- Which store is taken out of a list as broken, and what is left.
use Rattle.std.specs.Prelude.{ℕ, Bool, ◌&&◌, List, [], ◌∷◌, nat_eq, nat_le, if◌then◌else◌}
use Rattle.cq_store.specs.Stores.{StoreState}

-- whether a store keeps this shard, and its count of faults is at least this
abbrev pub is_broken : ℕ → ℕ → StoreState → Bool
is_broken shard after s = nat_eq s.shard shard && nat_le after s.faults

-- the list without the first element that passes a test
abbrev pub without_first : {X : Type 0} → (X → Bool) → List X → List X
without_first test [] = []
without_first test (x ∷ xs) = if test x then xs else (x ∷ without_first test xs)
