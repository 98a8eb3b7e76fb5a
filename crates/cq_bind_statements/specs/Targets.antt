-- What is promised of the table of a write, and of the refusal of a value.
use Rattle.std.specs.Prelude.{◌≡◌, ◌≢◌, ◌+◌, ℕ, Result, Ok, Err}
use Rattle.std.proofs.Common.{Bor}
use Rattle.cq_catalog.specs.declared.info.TableInfo.{TableInfo}
use Rattle.cq_reading.specs.declared.error.BindError.{BindError}
use Rattle.cq_reading.specs.declared.error.BindError.TheVariants as error
use Rattle.cq_reading.specs.Steps.{Reading}
use Rattle.cq_reading.specs.Outcomes.{Judges}
use Rattle.cq_reading.specs.Statements.{Target}

abbrev pub Targets : Reading Target → Result (ℕ × Bor TableInfo) BindError → Type 0
Targets r (Ok p) = Judges r (Ok (p.0, p.1.now))
Targets r (Err e) = Judges r (Err e)

abbrev pub RefusesValue : ℕ → ℕ → BindError → Type 0
RefusesValue row i e = e ≢ error.Memory → e ≡ error.Value row (i + 1)
