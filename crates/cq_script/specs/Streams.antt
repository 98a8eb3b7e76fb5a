-- What sources and sinks are seen as, and what each call of them does.
use Rattle.std.specs.Prelude.{◌≡◌, ◌+◌, ◌<◌, ◌≤◌, ◌⊎◌, ◌↔◌, ℕ, Bool, IsTrue, Option, Some, None, List, [], ◌++◌, take, drop, length, min, option_map}
use Rattle.cq_script.specs.declared.sink.SinkError.{SinkError}
use Rattle.cq_script.specs.declared.sink.SinkError.TheVariants as errors

-- the bytes left, where they are told; the faults so far; whether there is never one
pub record SourceState : Type 0 where
  pub left : Option (List ℕ)
  pub faults : ℕ
  pub steady : Bool

-- the bytes written, where they are told; the faults so far; whether there is never one
pub record SinkState : Type 0 where
  pub written : Option (List ℕ)
  pub faults : ℕ
  pub steady : Bool

-- a count of 64 bits went up, or stays at the last number
abbrev pub Rose : ℕ → ℕ → Type 0
Rose before after = (before < after) ⊎ ((before ≡ 18446744073709551615) × (after ≡ 18446744073709551615))

-- a count of 64 bits, one higher, or the last number
abbrev pub counted : ℕ → ℕ
counted n = min (n + 1) 18446744073709551615

-- n bytes went from the front of what was left into the room, and none only at the end
abbrev pub Moved : Option (List ℕ) → Option (List ℕ) → ℕ → List ℕ → Type 0
Moved None new n room = new ≡ None
Moved (Some left) new n room = (new ≡ Some (drop n left)) × (n ≤ length left) × (take n room ≡ take n left) × ((n ≡ 0) ↔ (left ≡ []))

-- a call that took n bytes
pub record Took (old new : SourceState) (n : ℕ) (room : List ℕ) : Type 0 where
  pub moved : Moved old.left new.left n room
  pub counts : old.faults ≤ new.faults
  pub steady : new.steady ≡ old.steady
  pub calm : IsTrue old.steady → new.faults ≡ old.faults

-- a call that failed: no byte is gone, and the count rose
pub record TakeFailed (old new : SourceState) : Type 0 where
  pub left : new.left ≡ old.left
  pub rose : Rose old.faults new.faults
  pub steady : new.steady ≡ old.steady
  pub never : IsTrue old.steady → ⊥

-- these bytes were written after those before
pub record Wrote (old new : SinkState) (bytes : List ℕ) : Type 0 where
  pub written : new.written ≡ option_map (λ w. w ++ bytes) old.written
  pub counts : old.faults ≤ new.faults
  pub steady : new.steady ≡ old.steady
  pub calm : IsTrue old.steady → new.faults ≡ old.faults

-- no byte was written
pub record Kept (old new : SinkState) : Type 0 where
  pub written : new.written ≡ old.written
  pub counts : old.faults ≤ new.faults
  pub steady : new.steady ≡ old.steady
  pub calm : IsTrue old.steady → new.faults ≡ old.faults

-- some of the bytes at the front were written, and not all
abbrev pub WrotePart : SinkState → SinkState → List ℕ → Type 0
WrotePart old new bytes = (n : ℕ) × (n < length bytes) × Wrote old new (take n bytes)

-- a call that put n bytes of the piece
pub record PutSome (old new : SinkState) (n : ℕ) (piece : List ℕ) : Type 0 where
  pub wrote : Wrote old new (take n piece)
  pub some : 0 < n
  pub within : n ≤ length piece

-- a call that failed: nothing is written, and the count rose
pub record PutFailed (old new : SinkState) : Type 0 where
  pub written : new.written ≡ old.written
  pub rose : Rose old.faults new.faults
  pub steady : new.steady ≡ old.steady
  pub never : IsTrue old.steady → ⊥

-- a call that put nothing: for want of memory it leaves all as it was
abbrev pub PutRefused : SinkState → SinkState → SinkError → Type 0
PutRefused old new errors.Failed = PutFailed old new
PutRefused old new errors.Memory = new ≡ old
