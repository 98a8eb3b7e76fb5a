-- What a check promises: its test holds, or this is the refusal.
use Rattle.std.specs.Prelude.{◌≡◌, Bool, true, false, Result, Ok, Err}
use Rattle.cq_reading.specs.declared.error.BindError.{BindError}

abbrev pub Checks : {A : Type 0} → Bool → BindError → Result A BindError → Type 0
Checks test e (Ok a) = test ≡ true
Checks test e (Err f) = (test ≡ false) × (f ≡ e)
