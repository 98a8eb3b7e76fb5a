-- The parts of the walk over a query, as code has them.
use Rattle.std.specs.Prelude.{◌≡◌, ℕ, ◌+◌, List, [], ◌∷◌, ◌++◌, Bool, if◌then◌else◌, Option, is_some}
use Rattle.cq_value.specs.declared.value.Value.{Value}
use Rattle.cq_tree.specs.declared.query.FromTree.{FromTree, Sub}
use Rattle.cq_tree.specs.declared.query.Query.{Query}
use Rattle.cq_meaning.specs.Queries.{outputs_of, columns_in}
use Rattle.cq_meaning.specs.Results.{ins_in, ins_in_from}
use Rattle.cq_catalog.specs.Contents.{Contents}
use Rattle.cq_catalog.specs.Placement.{place_at}
use Rattle.cq_planning.specs.ValueSets.{ValueSet}
use Rattle.cq_planning.specs.Relations.{OuterJoin, Relation}
use Rattle.cq_planning.specs.Pushable.{Pushable, pushable, distribution_by}
use Rattle.cq_planning.specs.Occurrences.{occurrences_in}
use Rattle.cq_planning.specs.Routing.{is_one_value}
use Rattle.cq_plan.specs.declared.sets.Begun.{Begun}
use Rattle.cq_plan.specs.Begun.{begun}
use Rattle.cq_outline.specs.declared.outline.Leaving.{Leaving}
use Rattle.cq_outline.specs.Leaving.{leaves, leaves_subquery, inside}
use Rattle.cq_outline.specs.Tasking.{groups_in, leaving_by}
use Rattle.cq_outline.specs.Outlines.{subquery_planner}
use Rattle.cq_strategies.specs.Planners.{planner_by}
use Rattle.cq_one_plan.specs.declared.plan.Plan.{Plan}
use Rattle.cq_one_plan.specs.declared.plan.Part.{Part}
use Rattle.cq_one_plan.specs.declared.plan.Part.TheVariants.{Stays, Leaves}
use Rattle.cq_one_plan.specs.Stays.{from_staying, query_staying, result_if, lone_query, leaves_in, leaves_of}
use Rattle.cq_one_plan.specs.Plans.{lone_plan, key_of, output_of, plan_of, parts_inside, parts_from}
use Rattle.cq_planner.specs.declared.counting.Numbers.{Numbers}
use Rattle.cq_planner.specs.declared.joins.Walked.{Walked}
use Rattle.cq_planner.specs.declared.tables.Start.{Start}

-- where what stands behind a part of a FROM begins
abbrev pub behind : Start → FromTree → Start
behind s f = record { column = s.column + columns_in f; ins = s.ins + ins_in_from f; relations = s.relations + leaves_in f }

-- a part of a FROM is walked over: its relations are found, what stays of it is made, and its parts stand last
pub record IsWalked (c : Contents) (leaving : Leaving) (rels : List Relation) (sets : ℕ → ValueSet) (f : FromTree) (start : Start) (outer : Option OuterJoin) (w : Walked) (before after : List Part) : Type 0 where
  pub found : w.relations ≡ begun c sets f start.column
  pub stays : w.from ≡ from_staying c leaving rels f start.column outer start.relations
  pub parted : after ≡ before ++ parts_from c leaving rels sets f start.column outer start.ins start.relations

-- ---- tables

-- a table that is planned by itself, of which these groups are touched
abbrev pub lone_touch : Contents → FromTree → ℕ → List ℕ → ValueSet → ℕ → Plan
lone_touch c f table groups set l =
    lone_plan c l (planner_by (is_one_value set) (groups_in c ((table, groups) ∷ []))) (Stays table groups ∷ []) (lone_query f (key_of (place_at c table)) set)

abbrev pub part_of_touch : Contents → Leaving → List Relation → Relation → FromTree → ℕ → List ℕ → ValueSet → ℕ → Part
part_of_touch c leaving rels r f table groups set l = if leaves leaving rels r then Leaves (lone_touch c f table groups set l) else Stays table groups

-- ---- subqueries

module _ (c : Contents) (q : Query) (l : ℕ) (next : Numbers) where
  -- a pushable subquery that is planned by itself as a right side, whose output y has a value of the set
  abbrev pub lone_subquery : ℕ → List (ℕ × List Value) → ValueSet → Plan
  lone_subquery y given set =
      let planner = subquery_planner c (occurrences_in c q given) in
      lone_plan c l planner (parts_inside c (leaving_by planner) q given next.ins next.relations) (lone_query (Sub (query_staying c (leaving_by planner) q next.relations)) y set)

  -- a subquery that is planned by itself
  abbrev pub alone : Option Pushable → List (ℕ × List Value) → ValueSet → Plan
  alone way given set = if is_some way then lone_subquery (output_of way) given set else plan_of c l next.ins next.ins next.relations q

-- the numbers behind that of a relation
abbrev pub next_in : Start → Numbers
next_in start = record { ins = start.ins; relations = start.relations + 1 }

module _ (c : Contents) (leaving : Leaving) (rels : List Relation) (q : Query) (start : Start) (outer : Option OuterJoin) where
  -- whether a subquery of a FROM is planned by itself
  abbrev pub leaves_query : Bool
  leaves_query = leaves_subquery leaving rels (record { start = start.column; distribution = distribution_by start.column (pushable c q); outer = outer })

  abbrev pub parts_of_query : List (ℕ × List Value) → ValueSet → List Part
  parts_of_query given set =
      if leaves_query then Leaves (alone c q start.relations (next_in start) (pushable c q) given set) ∷ [] else parts_inside c (inside leaving) q given start.ins (start.relations + 1)

  -- what stays of it
  abbrev pub query_in_place : FromTree
  query_in_place = result_if leaves_query start.relations (outputs_of q) (Sub (query_staying c (inside leaving) q (start.relations + 1)))

-- ---- queries in lists

abbrev pub cte_plan_list : Contents → ℕ → ℕ → ℕ → List Query → List Plan
cte_plan_list c i k l [] = []
cte_plan_list c i k l (q ∷ qs) = plan_of c i k k l q ∷ cte_plan_list c (i + 1) (k + ins_in q) (l + leaves_of q) qs

abbrev pub in_plan_list : Contents → ℕ → ℕ → List Query → List Plan
in_plan_list c k l [] = []
in_plan_list c k l (q ∷ qs) = plan_of c k (k + 1) (k + 1) l q ∷ in_plan_list c (k + 1 + ins_in q) (l + leaves_of q) qs
