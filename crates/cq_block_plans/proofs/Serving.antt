-- The tasks of a block that has the shape that they need serve for it.
use Rattle.std.proofs.Common.{◌≡◌, ◌≤◌, ℕ, List, [], ◌∷◌, map, length, Some, refl, ap, ◌∙◌, arith}
use Rattle.std.specs.List.{flat_map}
use Rattle.cq_tree.specs.declared.plan.Combine.{Combine}
use Rattle.cq_tree.specs.declared.plan.Planner.{Planner}
use Rattle.cq_tree.specs.declared.plan.Planner.TheVariants.{FastPath, Router, Pushdown, Repartition, Coordinator}
use Rattle.cq_tree.specs.declared.plan.Task.{Task}
use Rattle.cq_tree.specs.declared.query.Query.{Query}
use Rattle.cq_meaning.specs.Values.{Results}
use Rattle.cq_catalog.specs.Contents.{Contents}
use Rattle.cq_planning.specs.Database.{Held}
use Rattle.cq_planning.specs.Touched.{among}
use Rattle.cq_planning_laws.proofs.GroupLists.{ascends}
use Rattle.cq_outline.specs.declared.joining.Joined.{Joined}
use Rattle.cq_outline.specs.Tasking.{Touch, distributed_in, groups_in}
use Rattle.cq_pushdown_laws.specs.Tables.{task_tables}
use Rattle.cq_one_plan.specs.Yields.{read_by, reads_of}
use Rattle.cq_plan_laws.specs.Blocks.{IsBlock, groups_for}
use Rattle.cq_plan_laws.specs.Yielding.{ServesBy, IsPushedBlock, IsLoneBlock}
use Rattle.cq_plan_laws.proofs.Yielding.{blocks_serve}
use Rattle.cq_block_plans.specs.Taken.{Reaches, IsAlone, IsTaken}
use Rattle.cq_block_plans.specs.Serving.{IsReady, IsSimplyTasked, TakenServe}
use Rattle.cq_block_plans.proofs.Apart.{reaches_cover}

module _ (c : Contents) (held : Held) where
  by_groups : (tasks : List Task) → reads_of c held tasks ≡ map (read_by c held) (map (λ (t : Task). t.group) tasks)
  by_groups [] = refl
  by_groups (t ∷ tasks) = ap (λ us. read_by c held t.group ∷ us) (by_groups tasks)

  by_tables : (gs : List ℕ) → map (read_by c held) (map Some gs) ≡ map (task_tables c held) gs
  by_tables [] = refl
  by_tables (g ∷ gs) = ap (λ us. task_tables c held g ∷ us) (by_tables gs)

some_group : (t : Task) (tasks : List Task) (gs : List ℕ) → map (λ (t : Task). t.group) (t ∷ tasks) ≡ map Some gs → 1 ≤ length gs
some_group t tasks [] e = cc
some_group t tasks (g ∷ gs) e = omega arith

module _ (c : Contents) (widths : ℕ → ℕ) (held : Held) (rs : Results) (parting : Joined) (kind : Combine) (q : Query) (touches : List Touch) (ready : IsReady c widths q held rs) where
  block_of : (groups : List ℕ) → Reaches c q groups → IsBlock c widths q held rs groups
  block_of groups reach = record { catalog = ready.catalog; laid = ready.laid; wide = ready.wide; can = ready.can; own = ready.own; covers = reaches_cover c q groups ready.apart reach }

  idle : (planner : Planner) → IsAlone c kind [] q → ServesBy c held rs planner parting kind [] q touches
  idle planner h = (blocks_serve c widths held rs parting kind q touches).0 planner (record { block = block_of [] h.1; none = h.0 })

  lone : (t : Task) → IsAlone c kind (t ∷ []) q → IsLoneBlock c widths held rs kind t q
  lone t h = record { block = block_of (groups_for t.group) h.1; kind_is = h.0 }

  pushed : (t : Task) (tasks : List Task) → IsTaken c Pushdown parting kind (t ∷ tasks) q touches → IsPushedBlock c widths held rs kind (t ∷ tasks) q
  pushed t tasks h = record {
    groups = groups_in c touches;
    block = block_of (groups_in c touches) h.3;
    pushed = h.0;
    ascending = ascends (λ g. among g (flat_map (λ (t : Touch). t.1) (distributed_in c touches))) 0 0 c.groups (omega arith);
    some = some_group t tasks (groups_in c touches) h.1;
    kind_is = h.2;
    reads = by_groups c held (t ∷ tasks) ∙ ap (map (read_by c held)) h.1 ∙ by_tables c held (groups_in c touches);
  }

  by_planner : (planner : Planner) (tasks : List Task) → IsTaken c planner parting kind tasks q touches → IsSimplyTasked planner tasks → ServesBy c held rs planner parting kind tasks q touches
  by_planner FastPath [] h s = idle FastPath h
  by_planner FastPath (t ∷ []) h s = ((blocks_serve c widths held rs parting kind q touches).1 t (lone t h)).0
  by_planner FastPath (t ∷ (u ∷ tasks)) h s = absurd h
  by_planner Router [] h s = idle Router h
  by_planner Router (t ∷ []) h s = ((blocks_serve c widths held rs parting kind q touches).1 t (lone t h)).1
  by_planner Router (t ∷ (u ∷ tasks)) h s = absurd h
  by_planner Coordinator [] h s = idle Coordinator h
  by_planner Coordinator (t ∷ []) h s = ((blocks_serve c widths held rs parting kind q touches).1 t (lone t h)).2
  by_planner Coordinator (t ∷ (u ∷ tasks)) h s = absurd h
  by_planner Pushdown [] h s = absurd s
  by_planner Pushdown (t ∷ tasks) h s = (blocks_serve c widths held rs parting kind q touches).2 t tasks (pushed t tasks h)
  by_planner Repartition tasks h s = absurd s

pub taken_serve : TakenServe
taken_serve c widths held rs planner parting kind tasks q touches ready h s = by_planner c widths held rs parting kind q touches ready planner tasks h s
