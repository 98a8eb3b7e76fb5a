-- Two readings, the one after the other.

use Rattle.cq_reading.specs.Steps.{Reading, give, ◌then◌}

abbrev pub both : {A B : Type 0} → Reading A → Reading B → Reading (A × B)
both r s = r then (λ a. s then (λ b. give (a, b)))
