-- What a call of the binder promises of a reading: what it gives and what is found by then, unless memory fails.
use Rattle.std.specs.Prelude.{◌≡◌, ◌≢◌, Result, Ok, Err}
use Rattle.cq_reading.specs.declared.bound.Found.{Found}
use Rattle.cq_reading.specs.declared.error.BindError.{BindError}
use Rattle.cq_reading.specs.declared.error.BindError.TheVariants.{Memory}
use Rattle.cq_reading.specs.Steps.{Reading}

-- `new` is what is found afterwards
abbrev pub Binds : {A : Type 0} → Result (A × Found) BindError → Result A BindError → Found → Type 0
Binds o (Ok a) new = o ≡ Ok (a, new)
Binds o (Err e) new = e ≢ Memory → o ≡ Err e

-- of a reading that finds nothing more
abbrev pub Judges : {A : Type 0} → Reading A → Result A BindError → Type 0
Judges r result = (found : Found) → Binds (r found) result found

-- of a whole statement
abbrev pub Gives : {A : Type 0} → Result A BindError → Result A BindError → Type 0
Gives o (Ok a) = o ≡ Ok a
Gives o (Err e) = e ≢ Memory → o ≡ Err e
