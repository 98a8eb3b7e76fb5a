-- The subplans of a plan, as a list.
use Rattle.std.specs.Prelude.{ℕ, ◌+◌, List, [], ◌∷◌, ◌++◌, map, codes, decimal, slice_index_or}
use Rattle.cq_catalog.specs.Contents.{Contents}
use Rattle.cq_outline.specs.Tasking.{Touch}
use Rattle.cq_outline.specs.Texts.{line, subplans_in, lines_from}
use Rattle.cq_one_plan.specs.declared.plan.Plan.{Plan}
use Rattle.cq_one_plan.specs.Reading.{outline_in}

-- the node of each group
abbrev pub nodes_by : List ℕ → ℕ → ℕ
nodes_by nodes g = slice_index_or nodes g 0

-- the tables alone
abbrev pub tables_in : List Touch → List ℕ
tables_in touches = map (λ (t : Touch). t.0) touches

-- these plans, with those in them
abbrev pub count_of : List Plan → ℕ
count_of [] = 0
count_of (p ∷ ps) = (1 + subplans_in (outline_in p)) + count_of ps

-- the lines of subplans, the first of which has this number
abbrev pub lines_of : Contents → (ℕ → ℕ) → ℕ → ℕ → List Plan → List (List ℕ)
lines_of c nodes depth number [] = []
lines_of c nodes depth number (p ∷ ps) =
    line depth (codes "->  Distributed Subplan " ++ decimal number)
    ∷ (lines_from c nodes (depth + 6) (number + 1) (outline_in p) ++ lines_of c nodes depth ((number + 1) + subplans_in (outline_in p)) ps)
