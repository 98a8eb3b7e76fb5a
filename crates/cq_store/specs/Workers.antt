-- A worker's list of stores: which of them are spare, what is taken of those, and what stays.
use Rattle.std.specs.Prelude.{◌≡◌, ◌-◌, ◌<◌, ◌≤◌, ℕ, zero, suc, Bool, List, [], ◌∷◌, take, nat_eq, if◌then◌else◌, vec_len, vec_capacity}
use Rattle.std.specs.List.{filter}
use Rattle.std.specs.declared.vec.Vec.{Vec}
use Rattle.cq_store.specs.Stores.{StoreState}
use Rattle.cq_store.specs.declared.worker.TakeError.{TakeError}
use Rattle.cq_store.specs.declared.worker.TakeError.TheVariants.{NoRoom, Memory}

abbrev pub keeps_no_shard : StoreState → Bool
keeps_no_shard s = nat_eq s.shard 0

-- the stores that keep no shard
abbrev pub spares : List StoreState → List StoreState
spares stores = filter keeps_no_shard stores

-- the first n spare stores
abbrev pub taken : ℕ → List StoreState → List StoreState
taken n stores = take n (spares stores)

-- the list without the first n spare stores
abbrev pub kept : ℕ → List StoreState → List StoreState
kept zero stores = stores
kept (suc n) [] = []
kept (suc n) (s ∷ stores) = if keeps_no_shard s then kept n stores else (s ∷ kept (suc n) stores)

-- why n stores aren't taken of so many spare ones: they are fewer than n, or there is no memory
abbrev pub RefusesTake : TakeError → ℕ → ℕ → Type 0
RefusesTake (NoRoom free needed) n spare = (free ≡ spare) × (needed ≡ n) × (spare < n)
RefusesTake Memory n spare = n ≤ spare

-- how many more stores a list takes without memory
abbrev pub room : {S Z : Type 0} → Vec S Z → ℕ
room stores = vec_capacity stores - vec_len stores
