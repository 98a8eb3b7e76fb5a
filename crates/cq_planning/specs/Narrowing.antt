-- The value sets of the columns of a FROM: LEFT JOINs narrow their right sides, and a FROM narrows its pushable subqueries.
use Rattle.std.specs.Prelude.{ℕ, ◌+◌, List, [], ◌∷◌, fold, Bool, false, if◌then◌else◌, nat_eq, nat_lt, Option, None, Some}
use Rattle.cq_value.specs.declared.value.Value.{Value}
use Rattle.cq_tree.specs.declared.expression.Cond.{Cond}
use Rattle.cq_tree.specs.declared.query.FromTree.{FromTree, Table, Sub', Result, Cross', Inner', Left', end_of-FromTree, more_of-FromTree, end_of-Query, more_of-Query}
use Rattle.cq_meaning.specs.Queries.{columns_in}
use Rattle.cq_catalog.specs.Contents.{Contents}
use Rattle.cq_catalog.specs.Placement.{place_at}
use Rattle.cq_planning.specs.Conjuncts.{conjuncts, equalities}
use Rattle.cq_planning.specs.ValueSets.{ValueSet, meet}
use Rattle.cq_planning.specs.Relations.{Distribution, distribution_at, partner_of}
use Rattle.cq_planning.specs.Pushable.{Pushable, pushable, distribution_by}

-- ---- LEFT JOINs

-- the distribution column of one relation, whose first column has the number `start`
abbrev pub distribution_in : Contents → FromTree → ℕ → Option Distribution
distribution_in c (Table t n) start = distribution_at start (place_at c t)
distribution_in c (Sub' p (more_of-Query q end_of-Query)) start = distribution_by start (pushable c q)
distribution_in c _ start = None

-- whether that is the column y
abbrev pub is_at : Option Distribution → ℕ → Bool
is_at (Some d) y = nat_eq d.column y
is_at None y = false

-- a set, met with that of a column of the left side where there is one
abbrev pub met_with : (ℕ → ValueSet) → Option ℕ → ValueSet → ValueSet
met_with left (Some x) s = meet s (left x)
met_with left None s = s

-- the set of y, met with that of x for each `x = y` whose x is a column of the left side
abbrev pub narrowed_by : (ℕ → ValueSet) → ℕ → ℕ → ℕ → ValueSet → List (ℕ × ℕ) → ValueSet
narrowed_by left low high y s pairs = fold (λ s e. met_with left (partner_of low high y e) s) s pairs

-- the sets for the right side of a LEFT JOIN: that of its distribution column is narrowed by the sets of the left side
abbrev pub right_sets : (ℕ → ValueSet) → (ℕ → ValueSet) → Option Distribution → ℕ → ℕ → Cond → ℕ → ValueSet
right_sets sets left distribution low high on y = if is_at distribution y then narrowed_by left low high y (sets y) (equalities (conjuncts on)) else sets y

-- the value set of a column of a FROM whose first column has the number `start`, where its class has these sets
abbrev pub sets_in : Contents → (ℕ → ValueSet) → FromTree → ℕ → ℕ → ValueSet
sets_in c sets (Table t n) start x = sets x
sets_in c sets (Sub' p q) start x = sets x
sets_in c sets (Result i n) start x = sets x
sets_in c sets (Cross' p (more_of-FromTree a end_of-FromTree) q (more_of-FromTree b end_of-FromTree)) start x =
    if nat_lt x (start + columns_in a) then sets_in c sets a start x else sets_in c sets b (start + columns_in a) x
sets_in c sets (Inner' p (more_of-FromTree a end_of-FromTree) q (more_of-FromTree b end_of-FromTree) on) start x =
    if nat_lt x (start + columns_in a) then sets_in c sets a start x else sets_in c sets b (start + columns_in a) x
sets_in c sets (Left' p (more_of-FromTree a end_of-FromTree) q (more_of-FromTree b end_of-FromTree) on) start x =
    if nat_lt x (start + columns_in a) then sets_in c sets a start x
    else right_sets sets (sets_in c sets a start) (distribution_in c b (start + columns_in a)) start (start + columns_in a) on x

-- ---- subqueries

-- a set for one column
abbrev pub given : ℕ → ValueSet → List (ℕ × List Value)
given at (Some vs) = (at, vs) ∷ []
given at None = []

-- what a subquery is given from outside: the set of its distribution column, where it is pushable
abbrev pub given_to : (ℕ → ValueSet) → ℕ → Option Pushable → List (ℕ × List Value)
given_to sets start (Some p) = given p.column (sets (start + p.output))
given_to sets start None = []
