-- What the coordinator computes over the rows of a block's tasks, besides what it makes of them: how many rows each group has. And what it
-- needs of these rows.
use Rattle.std.specs.Prelude.{◌≡◌, ◌+◌, List, [], ◌∷◌, length, true, false, None}
use Rattle.cq_tree.specs.declared.expression.Expr.{Column}
use Rattle.cq_tree.specs.declared.expression.Cond.{Always}
use Rattle.cq_tree.specs.declared.plan.Combine.{Combine}
use Rattle.cq_tree.specs.declared.plan.Combine.TheVariants.{Nothing, RowsOnly, Groups}
use Rattle.cq_tree.specs.declared.query.Agg.TheVariants as agg
use Rattle.cq_tree.specs.declared.query.FromTree.{Table}
use Rattle.cq_tree.specs.declared.query.Query.{Query, out-Query, roll-Query}
use Rattle.cq_meaning.specs.Values.{Row, Results}
use Rattle.cq_meaning.specs.Safety.{IsSafeQuery}
use Rattle.cq_task_laws.specs.Partial.{columns_from, group_columns}
use Rattle.cq_task_laws.specs.Merging.{merging, joined, as_table, has_large_together}

-- the number of rows of each group over all tasks, by the counts that the tasks' rows carry
abbrev pub counting : Query → Query
counting q = let p = out-Query q in roll-Query (record {
  ctes = [];
  subs = [];
  from = Table 0 (group_columns q);
  filter = Always;
  grouped = true;
  keys = columns_from 0 (length p.keys);
  aggs = agg.Sum (Column (length p.keys + length p.aggs)) ∷ [];
  having = Always;
  items = Column (length p.keys) ∷ [];
  shown = 1;
  distinct = false;
  order = [];
  limit = None;
  offset = 0;
  names = [];
})

-- what the coordinator needs of the tasks' rows: under `Nothing` one task; else that its queries over the rows have their columns and fit 128 bits
abbrev pub CanMerge : Combine → Query → Results → List (List Row) → Type 0
CanMerge Nothing q results parts = length parts ≡ 1
CanMerge RowsOnly q results parts = IsSafeQuery (merging RowsOnly q) (as_table (joined parts)) results
CanMerge Groups q results parts =
    ((out-Query q).grouped ≡ true → IsSafeQuery (counting q) (as_table (joined parts)) results)
    × (has_large_together Groups q results parts ≡ false → IsSafeQuery (merging Groups q) (as_table (joined parts)) results)
