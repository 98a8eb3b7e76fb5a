-- What is read off a plan: EXPLAIN's lines, its blocks in the order in which they are computed, and what it touches.
use Rattle.std.specs.Prelude.{ℕ, List, [], ◌∷◌, ◌++◌, map}
use Rattle.std.specs.List.{flat_map}
use Rattle.cq_catalog.specs.Contents.{Contents}
use Rattle.cq_planning.specs.Touched.{in_order}
use Rattle.cq_outline.specs.declared.outline.Outline.{Outline, roll-Outline}
use Rattle.cq_outline.specs.Tasking.{Touch}
use Rattle.cq_outline.specs.Texts.{lines_from}
use Rattle.cq_one_plan.specs.declared.plan.Plan.{Plan, Plan', Row_of-Plan, end_of-Plan, more_of-Plan}

-- ---- EXPLAIN

abbrev mutual
  -- what EXPLAIN shows of a plan
  pub outline_in : Plan → Outline
  outline_in (Plan' number n subplans planner parting combine tasks q touches grounds) = roll-Outline (record {
    subplans = outlines_in subplans;
    planner = planner;
    steps = parting.steps;
    combine = combine;
    tasks = tasks;
    tables = map (λ (t : Touch). t.0) touches;
  })

  pub outlines_in : {n : _} → Row_of-Plan n → List Outline
  outlines_in end_of-Plan = []
  outlines_in (more_of-Plan p more) = outline_in p ∷ outlines_in more

-- the lines, where the groups are on these nodes
abbrev pub explained_by : Contents → (ℕ → ℕ) → Plan → List (List ℕ)
explained_by c nodes p = lines_from c nodes 0 1 (outline_in p)

-- ---- execution

abbrev mutual
  -- a plan and those in it, each behind what it reads
  pub blocks_in_order : Plan → List Plan
  blocks_in_order (Plan' number n subplans planner parting combine tasks q touches grounds) =
      blocks_of_all subplans ++ (Plan' number n subplans planner parting combine tasks q touches grounds) ∷ []

  pub blocks_of_all : {n : _} → Row_of-Plan n → List Plan
  blocks_of_all end_of-Plan = []
  blocks_of_all (more_of-Plan p more) = blocks_in_order p ++ blocks_of_all more

-- ---- what is touched

abbrev mutual
  -- the tables that stay in a plan's blocks, each with the groups that it touches
  pub touches_in : Plan → List Touch
  touches_in (Plan' number n subplans planner parting combine tasks q touches grounds) = touches_of_all subplans ++ touches

  pub touches_of_all : {n : _} → Row_of-Plan n → List Touch
  touches_of_all end_of-Plan = []
  touches_of_all (more_of-Plan p more) = touches_in p ++ touches_of_all more

-- the groups that a plan touches, in ascending order
abbrev pub groups_touched : Contents → Plan → List ℕ
groups_touched c p = in_order c (flat_map (λ (t : Touch). t.1) (touches_in p))

-- the tables that it reads, as often as they stand there
abbrev pub tables_touched : Plan → List ℕ
tables_touched p = map (λ (t : Touch). t.0) (touches_in p)
