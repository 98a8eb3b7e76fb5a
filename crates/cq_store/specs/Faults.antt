-- A store whose scans, picks, looks for keys and stages are counted together, from 1, and of these calls those with given numbers fail.
use Rattle.std.specs.Prelude.{◌≡◌, ◌+◌, ℕ, Bool, true, false, List, length, min, nat_eq}
use Rattle.std.specs.List.{list_any}
use Rattle.cq_value.specs.declared.change.Change.{Change}
use Rattle.cq_value.specs.Tables.{Table}
use Rattle.cq_store.specs.Stores.{StoreState, Rose}
use Rattle.cq_store.specs.declared.store.StoreError.{StoreError}
use Rattle.cq_store.specs.declared.store.StoreError.TheVariants.{Failed, Memory}

-- beside what a store holds: the numbers of the calls that fail, and how many calls were counted
pub record FaultState : Type 0 where
  pub node : ℕ
  pub shard : ℕ
  pub rows : Table
  pub staged : List Change
  pub faults : ℕ
  pub fails : List ℕ
  pub calls : ℕ

-- the store never fails where no call is to
abbrev pub held : FaultState → StoreState
held s = record { node = s.node; shard = s.shard; rows = s.rows; staged = s.staged; faults = s.faults; steady = nat_eq (length s.fails) 0 }

-- one more, up to the last u64
abbrev pub one_more : ℕ → ℕ
one_more n = min (n + 1) 18446744073709551615

-- whether the next call is to fail
abbrev pub fails_next : FaultState → Bool
fails_next s = list_any (λ number. nat_eq number (one_more s.calls)) s.fails

-- after a call that failed
abbrev pub failed : FaultState → FaultState
failed s = record s { faults = one_more s.faults; calls = one_more s.calls }

-- after another call
abbrev pub counted : FaultState → FaultState
counted s = record s { calls = one_more s.calls }

-- what an error tells: a call whose number is listed failed, or another found no memory
abbrev pub RefusesCall : StoreError → FaultState → FaultState → Type 0
RefusesCall Failed old new = (fails_next old ≡ true) × (new ≡ failed old) × Rose old.faults new.faults
RefusesCall Memory old new = (fails_next old ≡ false) × (new ≡ counted old)
