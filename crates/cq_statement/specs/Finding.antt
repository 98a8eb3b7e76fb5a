-- What a step of reading ensures.
use Rattle.std.specs.Prelude.{◌≡◌, ⊤, Result, Ok, Err}
use Rattle.cq_answer.specs.declared.fault.Fault.{Fault}
use Rattle.cq_answer.specs.declared.fault.Fault.TheVariants as fault

-- what a text is read as, unless memory fails
abbrev pub Reads : {A : Type 0} → Result A Fault → Result A Fault → Type 0
Reads read (Ok a) = read ≡ Ok a
Reads read (Err fault.Memory) = ⊤
Reads read (Err f) = read ≡ Err f
