-- The relations of a FROM from left to right, each with the value set of its distribution column: what a LEFT JOIN further on looks up.
use Rattle.std.specs.Prelude.{ℕ, ◌+◌, List, [], ◌∷◌, ◌++◌, fold, if◌then◌else◌, nat_le, Option, None, Some}
use Rattle.cq_tree.specs.declared.query.FromTree.{FromTree, Table, Sub', Result, Cross', Inner', Left', end_of-FromTree, more_of-FromTree}
use Rattle.cq_meaning.specs.Queries.{columns_in}
use Rattle.cq_catalog.specs.Contents.{Contents}
use Rattle.cq_planning.specs.Relations.{Distribution}
use Rattle.cq_planning.specs.ValueSets.{ValueSet, class_set}
use Rattle.cq_planning.specs.Narrowing.{distribution_in, is_at, right_sets, sets_in, narrowed_by}
use Rattle.cq_value.specs.declared.value.Value.{Value}
use Rattle.cq_shape.specs.Labels.{label}
use Rattle.cq_plan.specs.declared.sets.Begun.{Begun}

-- the last relation that begins at a column or before it
abbrev pub begun_by : ℕ → Option Begun → Begun → Option Begun
begun_by x found r = if nat_le r.start x then Some r else found

abbrev pub set_there : (ℕ → ValueSet) → ℕ → Option Begun → ValueSet
set_there sets x None = sets x
set_there sets x (Some r) = if is_at r.distribution x then r.set else sets x

-- the value set of a column: that of its relation where it is its distribution column
abbrev pub set_at : (ℕ → ValueSet) → List Begun → ℕ → ValueSet
set_at sets relations x = set_there sets x (fold (begun_by x) None relations)

-- the set of a distribution column, and all values where there is none
abbrev pub set_of : (ℕ → ValueSet) → Option Distribution → ValueSet
set_of sets None = None
set_of sets (Some d) = sets d.column

-- the sets for a right side that begins at `high`: that of its distribution column is narrowed by those of the left side
abbrev pub sets_under : (ℕ → ValueSet) → (ℕ → ValueSet) → ℕ → List (ℕ × ℕ) → Option Distribution → ℕ → ℕ → ValueSet
sets_under sets left low pairs d high y = if is_at d y then narrowed_by left low high y (sets y) pairs else sets y

abbrev pub one_begun : ℕ → Option Distribution → ValueSet → List Begun
one_begun start d set = record { start = start; distribution = d; set = set } ∷ []

-- those of a FROM whose first column has the number `start`. A right side is one of them, whatever it is
abbrev pub begun : Contents → (ℕ → ValueSet) → FromTree → ℕ → List Begun
begun c sets (Table t n) start = one_begun start (distribution_in c (Table t n) start) (set_of sets (distribution_in c (Table t n) start))
begun c sets (Sub' p q) start = one_begun start (distribution_in c (Sub' p q) start) (set_of sets (distribution_in c (Sub' p q) start))
begun c sets (Result i n) start = one_begun start None None
begun c sets (Cross' p (more_of-FromTree a end_of-FromTree) q (more_of-FromTree b end_of-FromTree)) start =
    begun c sets a start ++ begun c sets b (start + columns_in a)
begun c sets (Inner' p (more_of-FromTree a end_of-FromTree) q (more_of-FromTree b end_of-FromTree) on) start =
    begun c sets a start ++ begun c sets b (start + columns_in a)
begun c sets (Left' p (more_of-FromTree a end_of-FromTree) q (more_of-FromTree b end_of-FromTree) on) start =
    begun c sets a start
    ++ one_begun (start + columns_in a) (distribution_in c b (start + columns_in a))
    (set_of (right_sets sets (sets_in c sets a start) (distribution_in c b (start + columns_in a)) start (start + columns_in a) on) (distribution_in c b (start + columns_in a)))

-- the sets of a part of a FROM, under what its LEFT JOIN narrows
abbrev pub seen : Contents → List ℕ → List (ℕ × List Value) → List Begun → ℕ → List (ℕ × ℕ) → FromTree → ℕ → ℕ → ValueSet
seen c labels said relations low pairs f start =
    sets_under (class_set (label labels) said) (set_at (class_set (label labels) said) relations) low pairs (distribution_in c f start) start
