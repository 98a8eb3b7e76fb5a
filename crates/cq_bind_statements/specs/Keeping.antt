-- What a check of a state promises, which lets the state stand.
use Rattle.std.specs.Prelude.{Result, Ok, Err}
use Rattle.cq_reading.specs.declared.error.BindError.{BindError}
use Rattle.cq_reading.specs.Steps.{Reading}
use Rattle.cq_reading.specs.Outcomes.{Judges}

abbrev pub Keeps : {S : Type 0} → Reading S → S → Result Unit BindError → Type 0
Keeps r s (Ok u) = Judges r (Ok s)
Keeps r s (Err e) = Judges r (Err e)
