-- The planner of a block by what code finds in it.
use Rattle.std.specs.Prelude.{ℕ, List, length, Bool, not, nat_lt, if◌then◌else◌}
use Rattle.cq_tree.specs.declared.plan.Planner.{Planner}
use Rattle.cq_tree.specs.declared.plan.Planner.TheVariants.{FastPath, Router, Pushdown, Repartition, Coordinator}
use Rattle.cq_tree.specs.declared.query.Query.{Query}
use Rattle.cq_catalog.specs.Contents.{Contents}
use Rattle.cq_planning.specs.Classes.{first_of_class}
use Rattle.cq_planning.specs.Relations.{Relation, distributions, is_plain, is_left_in_block}
use Rattle.cq_planning.specs.Joins.{are_one_component, equalities_of, relations_of}
use Rattle.cq_outline.specs.Tasking.{is_none_left}

-- that of a block of these relations that neither the fast path nor the router takes, by the first column of each class
abbrev pub planner_over : (ℕ → ℕ) → List Relation → Planner
planner_over first rels =
    if is_none_left (distributions (is_left_in_block rels) rels) then Coordinator else
    (if not (are_one_component first (distributions is_plain rels)) then Repartition else Pushdown)

-- that of such a query
abbrev pub planner_beyond : Contents → Query → Planner
planner_beyond c q = planner_over (first_of_class (equalities_of q)) (relations_of c q)

-- that of a table that is planned by itself, of which these groups are touched
abbrev pub planner_by : Bool → List ℕ → Planner
planner_by is_one groups = if is_one then FastPath else (if nat_lt (length groups) 2 then Router else Pushdown)
