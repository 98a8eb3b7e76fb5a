-- The rows of the tasks of a block.
use Rattle.std.specs.Prelude.{ℕ, List, [], ◌++◌, map, slice_index_or, Bool}
use Rattle.std.specs.List.{list_any}
use Rattle.cq_tree.specs.declared.plan.Combine.{Combine}
use Rattle.cq_tree.specs.declared.query.Query.{Query}
use Rattle.cq_meaning.specs.Values.{Row, Results, Tables}
use Rattle.cq_meaning.specs.Limits.{is_large}
use Rattle.cq_meaning.specs.Queries.{meaning}
use Rattle.cq_task_laws.specs.Partial.{partial}

-- what each task reads: the tables beside all, and its own
abbrev pub reads_by : Tables → List Tables → List Tables
reads_by beside parts = map (λ own. beside ++ own) parts

-- the parts at these places
abbrev pub parts_at : List Tables → List ℕ → List Tables
parts_at parts places = map (λ i. slice_index_or parts i []) places

-- what each task reads, whose own tables are the part at its place
abbrev pub reads_at : Tables → List Tables → List ℕ → List Tables
reads_at beside parts places = reads_by beside (parts_at parts places)

-- what each task gives, over the tables that it reads
abbrev pub task_rows : Combine → Query → Results → List Tables → List (List Row)
task_rows kind q results dbs = map (λ db. meaning (partial kind q) db results) dbs

-- whether a task has a group that is too large
abbrev pub has_large_task : Combine → Query → Results → List Tables → Bool
has_large_task kind q results dbs = list_any (λ db. is_large (partial kind q) db results) dbs
