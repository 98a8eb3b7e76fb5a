-- The laws on the blocks of a statement's plan.
use Rattle.std.specs.Prelude.{◌≡◌, ℕ, List, [], length, true, false, map, Option, is_some}
use Rattle.cq_value.specs.declared.value.Value.{Value}
use Rattle.cq_tree.specs.declared.plan.Planner.TheVariants.{Pushdown}
use Rattle.cq_tree.specs.declared.query.FromTree.{FromTree}
use Rattle.cq_tree.specs.declared.query.Query.{Query}
use Rattle.cq_catalog.specs.Contents.{Contents}
use Rattle.cq_catalog.specs.Placement.{place_at, colocation_at, IsDistributed, HasShard}
use Rattle.cq_catalog.specs.declared.info.Place.TheVariants.{Reference}
use Rattle.cq_planning.specs.Joins.{has_loose_join}
use Rattle.cq_planning.specs.Occurrences.{occurrences_in}
use Rattle.cq_planning.specs.Pushable.{pushable, relations}
use Rattle.cq_planning.specs.Routing.{touched_in_block}
use Rattle.cq_planning.specs.Touched.{among}
use Rattle.cq_planning.specs.Relations.{OuterJoin, Relation}
use Rattle.cq_outline.specs.declared.outline.Leaving.{Leaving}
use Rattle.cq_outline.specs.declared.outline.Leaving.TheVariants.{Alone}
use Rattle.cq_outline.specs.Tasking.{touch_of, planner_of, leaving_by, tasks_by, shown_planner, parting_by, shares_rows, combine_by}
use Rattle.cq_pushdown_laws.specs.Pushed.{is_pushed}
use Rattle.cq_one_plan.specs.Plans.{stays_in, parts_inside}
use Rattle.cq_one_plan.specs.Stays.{from_staying, query_staying}
use Rattle.cq_block_plans.specs.Firm.{settled, IsFirm, IsFirmFrom}
use Rattle.cq_block_plans.specs.Taken.{Reaches, IsTaken}

-- the relations of a block's FROM are those of the original, where what left is a result
abbrev pub RelationsStay : Type 0
RelationsStay = (c : Contents) (leaving : Leaving) (rels : List Relation) (f : FromTree) (start : ℕ) (outer : Option OuterJoin) (l : ℕ) → IsFirmFrom c f →
    relations c (from_staying c leaving rels f start outer l) start outer ≡ map (settled leaving rels) (relations c f start outer)

-- pushdown makes tasks of what stays: of a pushable subquery, and of a block that pushdown takes and that isn't refused
abbrev pub StaysArePushed : Type 0
StaysArePushed = (c : Contents) (q : Query) (l : ℕ) → IsFirm c q →
    (is_some (pushable c q) ≡ true → is_pushed c (query_staying c Alone q l) ≡ true)
    × (planner_of c q ≡ Pushdown → has_loose_join c q ≡ false → is_pushed c (query_staying c Alone q l) ≡ true)

-- the tables that stay in a block touch the groups that they touch in the query that stays
abbrev pub StaysTouch : Type 0
StaysTouch = (c : Contents) (leaving : Leaving) (q : Query) (outer : List (ℕ × List Value)) (k l : ℕ) → IsFirm c q →
    stays_in (parts_inside c leaving q outer k l) ≡ map (touch_of c) (occurrences_in c (query_staying c leaving q l) outer)

-- the block of a firm query that isn't loosely joined, as its plan has it
abbrev pub BlocksAreTaken : Type 0
BlocksAreTaken = (c : Contents) (q : Query) (k l : ℕ) → IsFirm c q → has_loose_join c q ≡ false →
    let planner = planner_of c q in
    let parting = parting_by c planner q in
    let touches = stays_in (parts_inside c (leaving_by planner) q [] k l) in
    let tasks = tasks_by c planner parting.count touches in
    IsTaken c (shown_planner c planner touches) parting (combine_by (length tasks) (shares_rows parting.class q)) tasks (query_staying c (leaving_by planner) q l) touches

-- no reference table's group has a shard of a distributed table
abbrev pub AreGroupsApart : Contents → Type 0
AreGroupsApart c = (t u group shard : ℕ) → place_at c t ≡ Reference group shard → IsDistributed (place_at c u) → HasShard (colocation_at c u) (place_at c u) group → ⊥

-- so a block's tasks cover what its query touches, reference tables included, as `IsBlock` asks
abbrev pub ReachesCover : Type 0
ReachesCover = (c : Contents) (q : Query) (groups : List ℕ) → AreGroupsApart c → Reaches c q groups →
    (g table : ℕ) → IsDistributed (place_at c table) → HasShard (colocation_at c table) (place_at c table) g → among g (touched_in_block c q) ≡ true → among g groups ≡ true
