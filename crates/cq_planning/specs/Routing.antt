-- Which queries are sent to one shard as they are: the fast path and the router, and the tasks that they have. CTEs and IN subqueries are
-- planned by themselves, so that what is asked here is asked of a query without them.
use Rattle.std.specs.Prelude.{ℕ, ◌-◌, List, [], ◌∷◌, filter, length, Bool, true, false, ◌&&◌, nat_eq, nat_lt, None, Some}
use Rattle.std.specs.List.{flat_map, list_any, list_all}
use Rattle.cq_tree.specs.declared.plan.Task.{Task}
use Rattle.cq_tree.specs.declared.query.FromTree.{FromTree, Table, Row_of-Query, end_of-Query, more_of-Query}
use Rattle.cq_tree.specs.declared.query.Query.{Query, Query'}
use Rattle.cq_catalog.specs.Contents.{Contents, colocation_of, first_group_in}
use Rattle.cq_catalog.specs.Placement.{place_at, colocation_at}
use Rattle.cq_catalog.specs.declared.info.Place.{Place}
use Rattle.cq_catalog.specs.declared.info.Place.TheVariants.{Distributed, Reference}
use Rattle.cq_planning.specs.Conjuncts.{conjuncts_of}
use Rattle.cq_planning.specs.ValueSets.{ValueSet, value_set}
use Rattle.cq_planning.specs.Occurrences.{Occurrence, key_values, occurrences_in}
use Rattle.cq_planning.specs.Touched.{in_order, groups_of}

-- ---- the fast path

-- exactly one value
abbrev pub is_one_value : ValueSet → Bool
is_one_value (Some (v ∷ [])) = true
is_one_value _ = false

-- one distributed table, whose distribution column has exactly one value
abbrev pub is_one_table : Contents → (ℕ → ValueSet) → FromTree → Bool
is_one_table c sets (Table t n) = is_one_value (key_values sets 0 (place_at c t))
is_one_table c sets _ = false

-- no query
abbrev pub is_none_of_them : {n : _} → Row_of-Query n → Bool
is_none_of_them end_of-Query = true
is_none_of_them (more_of-Query q more) = false

-- a query over one such table, without CTEs and subqueries
abbrev pub fits_fast_path : Contents → Query → Bool
fits_fast_path c (Query' cs ctes ss subs from filter_ grouped keys aggs having items shown distinct order limit offset names) =
    is_none_of_them ctes && (is_none_of_them subs && is_one_table c (value_set [] (conjuncts_of filter_ from)) from)

-- ---- the router

abbrev pub is_distributed_place : Place → Bool
is_distributed_place (Distributed at colocation first_shard) = true
is_distributed_place _ = false

abbrev pub is_reference_place : Place → Bool
is_reference_place (Reference group shard) = true
is_reference_place _ = false

-- the occurrences of distributed tables
abbrev pub distributed_of : Contents → List Occurrence → List Occurrence
distributed_of c os = filter (λ (o : Occurrence). is_distributed_place (place_at c o.table)) os

-- whether all tables are of the first one's co-location group
abbrev pub are_of_one_colocation : Contents → List Occurrence → Bool
are_of_one_colocation c [] = true
are_of_one_colocation c (o ∷ os) = list_all (λ (p : Occurrence). nat_eq (colocation_of (place_at c p.table)) (colocation_of (place_at c o.table))) os

-- the groups that these occurrences touch, in ascending order
abbrev pub groups_of_all : Contents → List Occurrence → List ℕ
groups_of_all c os = in_order c (flat_map (groups_of c) os)

-- some table, and of the distributed ones all of one co-location group, and together at most one group
abbrev pub are_routed : Contents → List Occurrence → Bool
are_routed c [] = false
are_routed c (o ∷ os) = are_of_one_colocation c (distributed_of c (o ∷ os)) && nat_lt (length (groups_of_all c (distributed_of c (o ∷ os)))) 2

-- a query, its FROM subqueries included
abbrev pub fits_router : Contents → Query → Bool
fits_router c q = are_routed c (occurrences_in c q [])

-- ---- tasks

-- the first group of the first table's co-location group
abbrev pub first_group_of : Contents → List Occurrence → ℕ
first_group_of c [] = 0
first_group_of c (o ∷ os) = first_group_in (colocation_at c o.table)

-- one task in the group that distributed tables touch, whose index is the group's number in its co-location group. Where they touch none,
-- there is one without a group if a reference table is read, and none if none is
abbrev pub tasks_in : ℕ → Bool → List ℕ → List Task
tasks_in first_group has_reference (g ∷ gs) = record { index = g - first_group; group = Some g } ∷ []
tasks_in first_group true [] = record { index = 0; group = None } ∷ []
tasks_in first_group false [] = []

-- those of these occurrences
abbrev pub tasks_over : Contents → List Occurrence → List Task
tasks_over c os =
    tasks_in (first_group_of c (distributed_of c os)) (list_any (λ (o : Occurrence). is_reference_place (place_at c o.table)) os) (groups_of_all c (distributed_of c os))

-- those of a query that fits the fast path or the router
abbrev pub tasks_of : Contents → Query → List Task
tasks_of c q = tasks_over c (occurrences_in c q [])

-- the groups that such a query touches, in ascending order, its CTEs and IN subqueries left out
abbrev pub touched_in_block : Contents → Query → List ℕ
touched_in_block c q = groups_of_all c (occurrences_in c q [])
