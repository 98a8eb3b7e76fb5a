-- How the tasks of a repartition compute a query over buckets.
use Rattle.std.specs.Prelude.{ℕ, ◌&&◌, if◌then◌else◌, Bool, nat_le, Option, None, Some, option_map}
use Rattle.cq_tree.specs.declared.plan.Planner.{Planner}
use Rattle.cq_tree.specs.declared.plan.Planner.TheVariants.{FastPath, Router, Pushdown, Repartition as Parting, Coordinator}
use Rattle.cq_tree.specs.declared.query.Query.{Query}
use Rattle.cq_catalog.specs.Contents.{Contents}
use Rattle.cq_outline.specs.declared.joining.Joined.{Joined}
use Rattle.cq_outline.specs.Joining.{joined_in}
use Rattle.cq_outline.specs.Tasking.{planner_of, shares_rows, combine_by}
use Rattle.cq_repartition.specs.Parted.{keys_if_parted}
use Rattle.cq_repartition.specs.declared.repartition.Repartition.{Repartition}

-- whether these are several buckets, and no more than a table can have shards
abbrev pub are_buckets : ℕ → Bool
are_buckets count = nat_le 2 count && nat_le count 128

-- by a join of its components: the tables are split by the class of its last step, into as many buckets as that has ranges
abbrev pub repartition_over : Query → Joined → Option Repartition
repartition_over q j =
    if are_buckets j.count
    then option_map (λ keys. record { keys = keys; count = j.count; kind = combine_by j.count (shares_rows j.class q) }) (keys_if_parted j.class q)
    else None

-- the same, where repartition takes the query
abbrev pub over_planner : Contents → Query → Planner → Option Repartition
over_planner c q Parting = repartition_over q (joined_in c q)
over_planner c q FastPath = None
over_planner c q Router = None
over_planner c q Pushdown = None
over_planner c q Coordinator = None

-- of a query, as its plan has it
abbrev pub repartition_by : Contents → Query → Option Repartition
repartition_by c q = over_planner c q (planner_of c q)
