-- The shard groups that a statement touches.
use Rattle.std.specs.Prelude.{ℕ, zero, suc, ◌+◌, List, [], ◌∷◌, map, filter, Bool, nat_eq, None, Some}
use Rattle.std.specs.List.{flat_map, list_any}
use Rattle.cq_tree.specs.declared.expression.Cond.{Cond}
use Rattle.cq_tree.specs.declared.query.Query.{Query}
use Rattle.cq_tree.specs.declared.write.ShardOp.{ShardOp}
use Rattle.cq_tree.specs.declared.write.ShardOp.TheVariants.{Insert, Update, Remove}
use Rattle.cq_tree.specs.declared.statement.Statement.{Statement}
use Rattle.cq_tree.specs.declared.statement.Statement.TheVariants as statement
use Rattle.cq_meaning.specs.Values.{Row, column}
use Rattle.cq_catalog.specs.Contents.{Contents, first_group_in, count_in}
use Rattle.cq_catalog.specs.Placement.{place_at, colocation_at, group_of}
use Rattle.cq_catalog.specs.declared.info.Place.{Place}
use Rattle.cq_catalog.specs.declared.info.Place.TheVariants.{Local, Distributed, Reference}
use Rattle.cq_planning.specs.Conjuncts.{conjuncts}
use Rattle.cq_planning.specs.ValueSets.{ValueSet, value_set}
use Rattle.cq_planning.specs.Occurrences.{Occurrence, occurrence_of, occurrences_of}

-- ---- lists of groups

-- so many numbers from this one on
abbrev pub numbers : ℕ → ℕ → List ℕ
numbers n zero = []
numbers n (suc more) = n ∷ numbers (n + 1) more

-- whether a group is one of these
abbrev pub among : ℕ → List ℕ → Bool
among g groups = list_any (nat_eq g) groups

-- groups in ascending order, each once
abbrev pub in_order : Contents → List ℕ → List ℕ
in_order c groups = filter (λ g. among g groups) (numbers 0 c.groups)

-- ---- of an occurrence

-- the groups of a distributed table whose ranges hold the tokens of these values, and all its groups, where the set is all values
abbrev pub groups_with : Contents → ℕ → ValueSet → List ℕ
groups_with c table (Some vs) = map (group_of c table) vs
groups_with c table None = numbers (first_group_in (colocation_at c table)) (count_in (colocation_at c table))

-- a reference table has one group, and a local table none
abbrev pub groups_at : Contents → ℕ → Place → ValueSet → List ℕ
groups_at c table Local vs = []
groups_at c table (Distributed at colocation first_shard) vs = groups_with c table vs
groups_at c table (Reference group shard) vs = group ∷ []

-- the groups that an occurrence touches
abbrev pub groups_of : Contents → Occurrence → List ℕ
groups_of c o = groups_at c o.table (place_at c o.table) o.values

-- ---- of a statement

-- those that each occurrence of a query touches
abbrev pub touched_by_each : Contents → Query → List (List ℕ)
touched_by_each c q = map (λ o. in_order c (groups_of c o)) (occurrences_of c q)

-- all of these together
abbrev pub touched_by_query : Contents → Query → List ℕ
touched_by_query c q = flat_map (groups_of c) (occurrences_of c q)

-- those of rows, by the place of their table
abbrev pub row_groups : Contents → ℕ → Place → List Row → List ℕ
row_groups c table Local rows = []
row_groups c table (Distributed at colocation first_shard) rows = map (λ (row : Row). group_of c table (column row at)) rows
row_groups c table (Reference group shard) rows = map (λ (row : Row). group) rows

-- those that an UPDATE or a DELETE touches by its WHERE
abbrev pub touched_by_where : Contents → ℕ → Cond → List ℕ
touched_by_where c table filter_ = groups_of c (occurrence_of c (value_set [] (conjuncts filter_)) 0 table)

-- an INSERT touches the groups of its rows
abbrev pub touched_by_write : Contents → ShardOp → List ℕ
touched_by_write c (Insert table rows) = row_groups c table (place_at c table) rows
touched_by_write c (Update table filter_ sets) = touched_by_where c table filter_
touched_by_write c (Remove table filter_) = touched_by_where c table filter_

-- of the other statements none touches a group
abbrev pub touched_by : Contents → Statement → List ℕ
touched_by c (statement.Select q) = touched_by_query c q
touched_by c (statement.Write op) = touched_by_write c op
touched_by c s = []

-- the groups that a statement touches, in ascending order
abbrev pub touched : Contents → Statement → List ℕ
touched c s = in_order c (touched_by c s)
