-- The law on repartition.
use Rattle.std.specs.Prelude.{◌≡◌, ℕ, ℤ, List, [], length, true}
use Rattle.std.specs.List.{range_with_len}
use Rattle.cq_tree.specs.declared.query.Query.{Query, out-Query}
use Rattle.cq_meaning.specs.Values.{Tables}
use Rattle.cq_task_laws.specs.Tasks.{TasksServe}
use Rattle.cq_catalog.specs.Ranges.{IsPart}
use Rattle.cq_demands.specs.JoinDemands.{AreWide}
use Rattle.cq_outline.specs.Tasking.{shares_rows, combine_by}
use Rattle.cq_repartition_laws.specs.Keys.{keys_of, is_parted}
use Rattle.cq_repartition_laws.specs.Tasks.{bucket_tables, side_of}

-- over any tables whose rows have as many columns as in its FROM, the tasks of a query that is parted by a class, one for each of these ranges, serve
-- for it: their rows are grouped again unless a key, or with DISTINCT an output, is of the class
abbrev pub RepartitionServes : Type 0
RepartitionServes = (class : ℕ) (q : Query) (ends : List ℤ) (db : Tables) → is_parted class q ≡ true → IsPart ends → AreWide (out-Query q).from db →
    TasksServe (side_of (keys_of class q) ends) (combine_by (length ends) (shares_rows class q)) q db (bucket_tables (keys_of class q) ends db) [] (range_with_len 0 (length ends))
