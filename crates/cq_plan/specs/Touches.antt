-- What an occurrence touches, and the parts of the walk over a query.
use Rattle.std.specs.Prelude.{ℕ, ◌+◌, Bool, true, ◌&&◌, nat_le, nat_lt, List, [], ◌∷◌, map, Option, None, Some}
use Rattle.cq_value.specs.declared.value.Value.{Value}
use Rattle.cq_tree.specs.declared.query.FromTree.{FromTree, Cross', Inner', Left'}
use Rattle.cq_tree.specs.declared.query.Query.{Query}
use Rattle.cq_catalog.specs.Contents.{Contents}
use Rattle.cq_planning.specs.ValueSets.{ValueSet}
use Rattle.cq_planning.specs.Pushable.{Pushable}
use Rattle.cq_planning.specs.Narrowing.{given}
use Rattle.cq_planning.specs.Occurrences.{Occurrence, occurrences_in}
use Rattle.cq_planning.specs.Touched.{in_order, groups_of}
use Rattle.cq_plan.specs.declared.sets.Begun.{Begun}
use Rattle.cq_plan.specs.Begun.{one_begun}

-- an occurrence's table, and the groups that it touches in ascending order
abbrev pub touches : Contents → Occurrence → ℕ × List ℕ
touches c o = (o.table, in_order c (groups_of c o))

-- what a subquery is given, by the set of its distribution column
abbrev pub given_by : Option Pushable → ValueSet → List (ℕ × List Value)
given_by (Some p) set = given p.column set
given_by None set = []

-- a right side is one relation
abbrev pub as_one : FromTree → ℕ → List Begun → List Begun
as_one (Cross' p a q b) start relations = one_begun start None None
as_one (Inner' p a q b on) start relations = one_begun start None None
as_one (Left' p a q b on) start relations = one_begun start None None
as_one _ start relations = relations

-- what the occurrences of a query touch, without its CTEs and IN subqueries
abbrev pub touched_alone : Contents → Query → List (ℕ × List ℕ)
touched_alone c q = map (touches c) (occurrences_in c q [])

-- whether groups ascend, each once, from a number on and below a bound
abbrev pub ascends : ℕ → List ℕ → ℕ → Bool
ascends bound [] low = true
ascends bound (g ∷ gs) low = nat_le low g && (nat_lt g bound && ascends bound gs (g + 1))
