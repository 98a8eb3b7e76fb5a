-- The operands of sums and products behind the first.
use Rattle.cq_reading.specs.declared.bound.Bound.{Bound}
use Rattle.cq_reading.specs.Steps.{Reading, ◌then◌}
use Rattle.cq_reading.specs.Scopes.{Context}
use Rattle.cq_reading.specs.Parts.{Part}
use Rattle.cq_reading.specs.Expressions.{reads}

-- what stands before a sign, with what its operand is read as
abbrev pub Joins : Type 0
Joins = Bound → Bound → Reading Bound

-- the same with the operand, which is read first
abbrev pub with_operand : {A : Type 0} → (A → Part) → (A → Joins) → Context → Bound → A → Reading Bound
with_operand part joined cx a x = reads (part x) cx then joined x a
