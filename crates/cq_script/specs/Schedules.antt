-- Sources and sinks of which given calls fail, and those that don't tell their bytes.
use Rattle.std.specs.Prelude.{◌≡◌, ℕ, false, Some, None, List, length, nat_eq, Contains}
use Rattle.cq_script.specs.declared.schedule.Schedule.{Schedule}
use Rattle.cq_script.specs.Streams.{SourceState, SinkState, counted}

-- a call that went well: its number isn't listed
pub record Passes (old new : Schedule) : Type 0 where
  pub number : new.calls ≡ counted old.calls
  pub listed : new.fails ≡ old.fails
  pub faults : new.faults ≡ old.faults
  pub free : ¬ Contains old.fails.items new.calls

-- a call that failed: its number is listed, and it is counted
pub record Fails (old new : Schedule) : Type 0 where
  pub number : new.calls ≡ counted old.calls
  pub listed : new.fails ≡ old.fails
  pub faults : new.faults ≡ counted old.faults
  pub due : Contains old.fails.items new.calls

-- a source or a sink that tells its bytes, steady where no call is to fail
abbrev pub source_of : List ℕ → Schedule → SourceState
source_of left schedule = record { left = Some left; faults = schedule.faults; steady = nat_eq (length schedule.fails.items) 0 }

abbrev pub sink_of : List ℕ → Schedule → SinkState
sink_of written schedule = record { written = Some written; faults = schedule.faults; steady = nat_eq (length schedule.fails.items) 0 }

-- a source or a sink that tells its faults alone
abbrev pub untold : ℕ → SourceState
untold faults = record { left = None; faults = faults; steady = false }

abbrev pub unshown : ℕ → SinkState
unshown faults = record { written = None; faults = faults; steady = false }
