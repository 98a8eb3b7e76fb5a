-- A table as it was before a commit, which catches up with it.
use Rattle.std.specs.Prelude.{◌≡◌, List, ⊤, MatchOption, Option}
use Rattle.cq_value.specs.Tables.{Table}
use Rattle.cq_value.specs.Changes.{Fit, applied}
use Rattle.cq_value.specs.declared.change.Change.{Change}
use Rattle.cq_store.specs.declared.mem.Former.{Former}

-- a table is made of another by changes that fit it
abbrev pub IsMade : Table → List Change → Table → Type 0
IsMade before changes after = (after ≡ applied before changes) × Fit before changes

-- the rows are made of the former table, if it is there
abbrev pub IsCaughtUp : Table → Option Former → Type 0
IsCaughtUp rows former = MatchOption former ⊤ (λ f. IsMade f.rows f.changes rows)
