-- What the occurrences of a query touch, as code holds it: each one's table, and the groups that it touches in ascending order.
use Rattle.std.specs.Prelude.{ℕ, List, [], ◌∷◌, filter, length, Bool, true, false, ◌&&◌, nat_eq, nat_lt}
use Rattle.std.specs.List.{flat_map, list_any, list_all}
use Rattle.cq_tree.specs.declared.plan.Task.{Task}
use Rattle.cq_catalog.specs.Contents.{Contents, colocation_of, first_group_in}
use Rattle.cq_catalog.specs.Placement.{place_at, colocation_at}
use Rattle.cq_planning.specs.Touched.{in_order}
use Rattle.cq_planning.specs.Routing.{is_distributed_place, is_reference_place, tasks_in}

abbrev pub is_of_distributed : Contents → ℕ × List ℕ → Bool
is_of_distributed c t = is_distributed_place (place_at c t.0)

abbrev pub is_of_reference : Contents → ℕ × List ℕ → Bool
is_of_reference c t = is_reference_place (place_at c t.0)

-- those of distributed tables
abbrev pub distributed_among : Contents → List (ℕ × List ℕ) → List (ℕ × List ℕ)
distributed_among c ts = filter (is_of_distributed c) ts

abbrev pub groups_in_each : List (ℕ × List ℕ) → List ℕ
groups_in_each ts = flat_map (λ (t : ℕ × List ℕ). t.1) ts

-- the groups that they touch, in ascending order
abbrev pub groups_among : Contents → List (ℕ × List ℕ) → List ℕ
groups_among c ts = in_order c (groups_in_each ts)

-- the number of the co-location group of a table
abbrev pub colocation_number : Contents → ℕ → ℕ
colocation_number c table = colocation_of (place_at c table)

-- whether a table that is distributed is of this co-location group
abbrev pub agrees : Contents → ℕ → ℕ × List ℕ → Bool
agrees c number t = nat_eq (colocation_number c t.0) number

abbrev pub first_number : Contents → List (ℕ × List ℕ) → ℕ
first_number c [] = 0
first_number c (t ∷ ts) = colocation_number c t.0

-- whether all are of the first one's co-location group
abbrev pub are_of_one : Contents → List (ℕ × List ℕ) → Bool
are_of_one c ts = list_all (agrees c (first_number c ts)) ts

abbrev pub first_group_among : Contents → List (ℕ × List ℕ) → ℕ
first_group_among c [] = 0
first_group_among c (t ∷ ts) = first_group_in (colocation_at c t.0)

abbrev pub tasks_among : Contents → List (ℕ × List ℕ) → List Task
tasks_among c ts = tasks_in (first_group_among c (distributed_among c ts)) (list_any (is_of_reference c) ts) (groups_among c (distributed_among c ts))

abbrev pub is_some_list : List (ℕ × List ℕ) → Bool
is_some_list [] = false
is_some_list (t ∷ ts) = true

abbrev pub are_routed_among : Contents → List (ℕ × List ℕ) → Bool
are_routed_among c ts = is_some_list ts && (are_of_one c (distributed_among c ts) && nat_lt (length (groups_among c (distributed_among c ts))) 2)
