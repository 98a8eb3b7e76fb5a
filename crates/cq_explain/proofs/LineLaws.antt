-- The text of a plan, as code sees it.
use Rattle.std.proofs.Common.{◌≡◌, ℕ, zero, suc, ◌+◌, ◌<◌, List, [], ◌∷◌, ◌++◌, map, replicate, length, get_or, drop, None, Some, slice_get, refl, sym, ap, ◌∙◌, append_assoc, arith}
use Rattle.std.specs.Prelude.{codes, decimal}
use Rattle.std.proofs.lemmas.Grind.{common_steps}
use Rattle.std.proofs.lemmas.List.{drop_more}
use Rattle.std.proofs.lemmas.Option.{same_Some}
use Rattle.cq_tree.specs.declared.plan.Planner.{Planner}
use Rattle.cq_tree.specs.declared.plan.Task.{Task}
use Rattle.cq_tree.specs.declared.plan.Step.{Step}
use Rattle.std.specs.List.{repeat}
use denote.Hole.Carrier.{hidden}
use Rattle.cq_catalog.specs.Contents.{Contents}
use Rattle.cq_outline.specs.declared.outline.Outline.{Outline, roll-Outline, Row_of-Outline, end_of-Outline, more_of-Outline, items-the_row-Outline, items_hidden-the_row-Outline-0}
use Rattle.cq_outline.specs.declared.outline.Outline.TheBlock.{hidden-the_row-Outline-0}
use Rattle.cq_outline.specs.declared.outline.Outline.TheOpen.{Outline-F}
use Rattle.cq_one_plan.specs.declared.plan.Plan.{Plan, out-Plan, roll-Plan, roll-out-Plan, Row_of-Plan, end_of-Plan, more_of-Plan, items-the_row-Plan, items_hidden-the_row-Plan-0}
use Rattle.cq_one_plan.specs.declared.plan.Plan.TheBlock.{hidden-the_row-Plan-0}
use Rattle.cq_one_plan.specs.declared.plan.Plan.TheOpen.{Plan-F}
use Rattle.cq_one_plan.specs.Reading.{outline_in, outlines_in}
use Rattle.cq_outline.specs.Texts.{line, planner_words, step_words, combine_words, shown_words, node_by, shard_lines, task_lines, subplans_in, plans_among, lines_from, subplan_lines}
use Rattle.cq_explain.specs.Subplans.{count_of, lines_of, tables_in}

pub blanks : (n : ℕ) → repeat {A = ℕ} n (32 ∷ []) ≡ replicate n 32
blanks zero = refl
blanks (suc n) = ap (λ (rest : List ℕ). 32 ∷ rest) (blanks n)

-- what is put last, one after the other
in_turn : {A : Type 0} (ls : List A) (a b : A) (s u : List A) (k : A) (t : List A) → (((((ls ++ a ∷ []) ++ b ∷ []) ++ s) ++ u) ++ k ∷ []) ++ t ≡ ls ++ (a ∷ (b ∷ (s ++ (u ++ (k ∷ t)))))
in_turn ls a b s u k t =
    append_assoc ((((ls ++ a ∷ []) ++ b ∷ []) ++ s) ++ u) (k ∷ []) t
    ∙ (append_assoc (((ls ++ a ∷ []) ++ b ∷ []) ++ s) u (k ∷ t)
    ∙ (append_assoc ((ls ++ a ∷ []) ++ b ∷ []) s (u ++ (k ∷ t))
    ∙ (append_assoc (ls ++ a ∷ []) (b ∷ []) (s ++ (u ++ (k ∷ t)))
    ∙ append_assoc ls (a ∷ []) (b ∷ (s ++ (u ++ (k ∷ t)))))))

-- ---- a plan as EXPLAIN shows it

outlines_row : {n : _} (ps : Row_of-Plan n) → outlines_in ps ≡ map outline_in (items-the_row-Plan _ ps)
outlines_row end_of-Plan = refl
outlines_row (more_of-Plan p more) = ap (λ (rest : List Outline). outline_in p ∷ rest) (outlines_row more)

outlines_hidden : (ps : List Plan) → outlines_in (hidden-the_row-Plan-0 ps) ≡ map outline_in ps
outlines_hidden ps = outlines_row (hidden-the_row-Plan-0 ps) ∙ ap (map outline_in) (items_hidden-the_row-Plan-0 ps)

-- the parts of what is shown
abbrev shown_of : Plan-F Plan → List Outline → Outline-F Outline
shown_of x subplans = record {
  subplans = subplans;
  planner = x.planner;
  steps = x.parting.steps;
  combine = x.combine;
  tasks = x.tasks;
  tables = tables_in x.touches;
}

outline_rolled : (x : Plan-F Plan) → outline_in (roll-Plan x) ≡ roll-Outline (shown_of x (map outline_in x.subplans))
unfolding roll-Plan denote.Hole.Carrier.roll
outline_rolled x = ap (λ (subplans : List Outline). roll-Outline (shown_of x subplans)) (outlines_hidden x.subplans)

outline_is : (p : Plan) → outline_in p ≡ roll-Outline (shown_of (out-Plan p) (map outline_in (out-Plan p).subplans))
outline_is p = ap outline_in (sym (roll-out-Plan p)) ∙ outline_rolled (out-Plan p)

-- ---- counts

count_row : {n : _} (ps : Row_of-Outline n) (qs : List Plan) → items-the_row-Outline _ ps ≡ map outline_in qs → plans_among ps ≡ count_of qs
count_row end_of-Outline [] e = refl
count_row end_of-Outline (q ∷ qs) e = cc
count_row (more_of-Outline p more) [] e = cc
count_row (more_of-Outline p more) (q ∷ qs) e = (λ i. (1 + subplans_in (first_same e i)) + count_row more qs (rest_same e) i)
  where
    first_same : p ∷ items-the_row-Outline _ more ≡ outline_in q ∷ map outline_in qs → p ≡ outline_in q
    first_same e = cc

    rest_same : p ∷ items-the_row-Outline _ more ≡ outline_in q ∷ map outline_in qs → items-the_row-Outline _ more ≡ map outline_in qs
    rest_same e = cc

count_rolled : (x : Plan-F Plan) → subplans_in (roll-Outline (shown_of x (map outline_in x.subplans))) ≡ count_of x.subplans
unfolding roll-Outline denote.Hole.Carrier.roll
count_rolled x = count_row (hidden-the_row-Outline-0 (map outline_in x.subplans)) x.subplans (items_hidden-the_row-Outline-0 (map outline_in x.subplans))

pub count_is : (p : Plan) → subplans_in (outline_in p) ≡ count_of (out-Plan p).subplans
count_is p = ap subplans_in (outline_is p) ∙ count_rolled (out-Plan p)

module _ (c : Contents) (nodes : ℕ → ℕ) where
  lines_row : {n : _} (depth number : ℕ) (ps : Row_of-Outline n) (qs : List Plan) → items-the_row-Outline _ ps ≡ map outline_in qs → subplan_lines c nodes depth number ps ≡ lines_of c nodes depth number qs
  lines_row depth number end_of-Outline [] e = refl
  lines_row depth number end_of-Outline (q ∷ qs) e = cc
  lines_row depth number (more_of-Outline p more) [] e = cc
  lines_row depth number (more_of-Outline p more) (q ∷ qs) e =
      (λ i. line depth (codes "->  Distributed Subplan " ++ decimal number) ∷ (lines_from c nodes (depth + 6) (number + 1) (first_same e i) ++ subplan_lines c nodes depth ((number + 1) + subplans_in (first_same e i)) more))
      ∙ ap (λ (rest : List (List ℕ)). line depth (codes "->  Distributed Subplan " ++ decimal number) ∷ (lines_from c nodes (depth + 6) (number + 1) (outline_in q) ++ rest))
      (lines_row depth ((number + 1) + subplans_in (outline_in q)) more qs (rest_same e))
    where
      first_same : p ∷ items-the_row-Outline _ more ≡ outline_in q ∷ map outline_in qs → p ≡ outline_in q
      first_same e = cc

      rest_same : p ∷ items-the_row-Outline _ more ≡ outline_in q ∷ map outline_in qs → items-the_row-Outline _ more ≡ map outline_in qs
      rest_same e = cc

  -- the lines of a plan of these parts
  abbrev pub lines_by : ℕ → ℕ → Plan-F Plan → List (List ℕ)
  lines_by depth number x =
      line depth (codes "Custom Scan (Citus Adaptive)")
      ∷ (line (depth + 2) (planner_words x.planner)
      ∷ (map (λ s. line (depth + 2) (step_words s)) x.parting.steps
      ++ (lines_of c nodes (depth + 2) number x.subplans
      ++ (line (depth + 2) (combine_words x.combine)
      ∷ task_lines c nodes x.planner (tables_in x.touches) (depth + 2) x.tasks))))

  lines_rolled : (depth number : ℕ) (x : Plan-F Plan) → lines_from c nodes depth number (roll-Outline (shown_of x (map outline_in x.subplans))) ≡ lines_by depth number x
  unfolding roll-Outline denote.Hole.Carrier.roll
  lines_rolled depth number x =
      ap (λ (inner : List (List ℕ)). line depth (codes "Custom Scan (Citus Adaptive)")
      ∷ (line (depth + 2) (planner_words x.planner)
      ∷ (map (λ s. line (depth + 2) (step_words s)) x.parting.steps
      ++ (inner ++ (line (depth + 2) (combine_words x.combine) ∷ task_lines c nodes x.planner (tables_in x.touches) (depth + 2) x.tasks)))))
      (lines_row (depth + 2) number (hidden-the_row-Outline-0 (map outline_in x.subplans)) x.subplans (items_hidden-the_row-Outline-0 (map outline_in x.subplans)))

  pub lines_is : (depth number : ℕ) (p : Plan) → lines_from c nodes depth number (outline_in p) ≡ lines_by depth number (out-Plan p)
  lines_is depth number p = ap (lines_from c nodes depth number) (outline_is p) ∙ lines_rolled depth number (out-Plan p)

  -- what is put last one after the other is these lines
  pub plan_lines : (depth inner number : ℕ) (p : Plan) (of_planner of_combine : List ℕ) (steps : List Step) (subplans : List Plan) (ls₀ ls₁ ls₂ ls₃ ls₄ ls₅ ls₆ : List (List ℕ)) → inner ≡ depth + 2 →
      of_planner ≡ planner_words (out-Plan p).planner → of_combine ≡ combine_words (out-Plan p).combine → steps ≡ (out-Plan p).parting.steps → subplans ≡ (out-Plan p).subplans →
      ls₁ ≡ ls₀ ++ line depth (codes "Custom Scan (Citus Adaptive)") ∷ [] → ls₂ ≡ ls₁ ++ line inner of_planner ∷ [] → ls₃ ≡ ls₂ ++ map (λ s. line inner (step_words s)) steps →
      ls₄ ≡ ls₃ ++ lines_of c nodes inner number subplans → ls₅ ≡ ls₄ ++ line inner of_combine ∷ [] →
      ls₆ ≡ ls₅ ++ task_lines c nodes (out-Plan p).planner (tables_in (out-Plan p).touches) inner (out-Plan p).tasks → ls₆ ≡ ls₀ ++ lines_from c nodes depth number (outline_in p)
  plan_lines depth inner number p of_planner of_combine steps subplans ls₀ ls₁ ls₂ ls₃ ls₄ ls₅ ls₆ e planner combine same all a b d f g h =
      h
      ∙ (ap (λ (ls : List (List ℕ)). ls ++ task_lines c nodes (out-Plan p).planner (tables_in (out-Plan p).touches) inner (out-Plan p).tasks)
      (g ∙ ap (λ (ls : List (List ℕ)). ls ++ line inner of_combine ∷ []) (f ∙ ap (λ (ls : List (List ℕ)). ls ++ lines_of c nodes inner number subplans)
      (d ∙ ap (λ (ls : List (List ℕ)). ls ++ map (λ s. line inner (step_words s)) steps) (b ∙ ap (λ (ls : List (List ℕ)). ls ++ line inner of_planner ∷ []) a))))
      ∙ (in_turn ls₀ (line depth (codes "Custom Scan (Citus Adaptive)")) (line inner of_planner) (map (λ s. line inner (step_words s)) steps) (lines_of c nodes inner number subplans) (line inner of_combine)
      (task_lines c nodes (out-Plan p).planner (tables_in (out-Plan p).touches) inner (out-Plan p).tasks)
      ∙ ((λ i. ls₀ ++ (line depth (codes "Custom Scan (Citus Adaptive)") ∷ (line (e i) (planner i) ∷ (map (λ s. line (e i) (step_words s)) (same i) ++ (lines_of c nodes (e i) number (all i) ++ (line (e i) (combine i)
      ∷ task_lines c nodes (out-Plan p).planner (tables_in (out-Plan p).touches) (e i) (out-Plan p).tasks))))))
      ∙ ap (λ (ls : List (List ℕ)). ls₀ ++ ls) (sym (lines_is depth number p)))))

  -- ---- tasks

  no_task : (planner : Planner) (tables : List ℕ) (depth : ℕ) (ts : List Task) → None ≡ slice_get ts 0 →
      task_lines c nodes planner tables depth ts ≡ line depth (codes "Task Count: " ++ decimal (length ts)) ∷ []
  no_task planner tables depth [] e = refl
  no_task planner tables depth (t ∷ ts) e = absurd (grind (arith, common_steps, e))

  a_task : (planner : Planner) (tables : List ℕ) (depth : ℕ) (ts : List Task) (t : Task) → Some t ≡ slice_get ts 0 →
      task_lines c nodes planner tables depth ts ≡ line depth (codes "Task Count: " ++ decimal (length ts)) ∷ (line depth (shown_words (length ts)) ∷ (line depth (codes "->  Task")
      ∷ (line (depth + 6) (codes "Node: " ++ decimal (node_by nodes t.group)) ∷ shard_lines c planner tables (depth + 6) t.group)))
  a_task planner tables depth [] t e = absurd (grind (arith, common_steps, e))
  a_task planner tables depth (u ∷ us) t e = ap (λ (v : Task). task_lines c nodes planner tables depth (u ∷ us)) (same_Some t u e)
      ∙ ap (λ (v : Task). line depth (codes "Task Count: " ++ decimal (length (u ∷ us))) ∷ (line depth (shown_words (length (u ∷ us))) ∷ (line depth (codes "->  Task")
      ∷ (line (depth + 6) (codes "Node: " ++ decimal (node_by nodes v.group)) ∷ shard_lines c planner tables (depth + 6) v.group)))) (sym (same_Some t u e))

  -- no task's lines
  pub none_put : (planner : Planner) (tables : List ℕ) (depth : ℕ) (ts : List Task) (n : ℕ) (ls₀ ls₁ : List (List ℕ)) → None ≡ slice_get ts 0 → n ≡ length ts →
      ls₁ ≡ ls₀ ++ line depth (codes "Task Count: " ++ decimal n) ∷ [] → ls₁ ≡ ls₀ ++ task_lines c nodes planner tables depth ts
  none_put planner tables depth ts n ls₀ ls₁ none e a =
      a ∙ (ap (λ k. ls₀ ++ line depth (codes "Task Count: " ++ decimal k) ∷ []) e ∙ ap (λ (ls : List (List ℕ)). ls₀ ++ ls) (sym (no_task planner tables depth ts none)))

  -- the first task's lines
  pub first_put : (planner : Planner) (tables : List ℕ) (depth : ℕ) (ts : List Task) (t : Task) (n : ℕ) (ls₀ ls₁ ls₂ : List (List ℕ)) → Some t ≡ slice_get ts 0 → n ≡ length ts →
      ls₁ ≡ ls₀ ++ line depth (codes "Task Count: " ++ decimal n) ∷ [] → ls₂ ≡ ls₁ ++ line depth (shown_words n) ∷ [] →
      ls₂ ++ (line depth (codes "->  Task") ∷ (line (depth + 6) (codes "Node: " ++ decimal (node_by nodes t.group)) ∷ shard_lines c planner tables (depth + 6) t.group))
      ≡ ls₀ ++ task_lines c nodes planner tables depth ts
  first_put planner tables depth ts t n ls₀ ls₁ ls₂ first e a b =
      let shown : List (List ℕ) = line depth (codes "->  Task") ∷ (line (depth + 6) (codes "Node: " ++ decimal (node_by nodes t.group)) ∷ shard_lines c planner tables (depth + 6) t.group) in
      ap (λ (ls : List (List ℕ)). ls ++ shown) (b ∙ ap (λ (ls : List (List ℕ)). ls ++ line depth (shown_words n) ∷ []) a)
      ∙ (append_assoc (ls₀ ++ line depth (codes "Task Count: " ++ decimal n) ∷ []) (line depth (shown_words n) ∷ []) shown
      ∙ (append_assoc ls₀ (line depth (codes "Task Count: " ++ decimal n) ∷ []) (line depth (shown_words n) ∷ shown)
      ∙ (ap (λ k. ls₀ ++ (line depth (codes "Task Count: " ++ decimal k) ∷ (line depth (shown_words k) ∷ shown))) e
      ∙ ap (λ (ls : List (List ℕ)). ls₀ ++ ls) (sym (a_task planner tables depth ts t first)))))

  -- ---- subplans

  -- the lines of one subplan are those of the first that is left
  pub one_more : (depth inner : ℕ) (ps : List Plan) (i : ℕ) (p : Plan) (n n' : ℕ) (ls₀ ls₁ ls₂ whole : List (List ℕ)) → i < length ps → p ≡ get_or ps i p → inner ≡ depth + 6 →
      ls₁ ≡ ls₀ ++ line depth (codes "->  Distributed Subplan " ++ decimal n) ∷ [] → ls₂ ≡ ls₁ ++ lines_from c nodes inner (n + 1) (outline_in p) → n' ≡ (n + 1) + subplans_in (outline_in p) →
      ls₀ ++ lines_of c nodes depth n (drop i ps) ≡ whole → ls₂ ++ lines_of c nodes depth n' (drop (i + 1) ps) ≡ whole
  one_more depth inner ps i p n n' ls₀ ls₁ ls₂ whole h is e a b d w =
      let rest : List (List ℕ) = lines_of c nodes depth ((n + 1) + subplans_in (outline_in p)) (drop (i + 1) ps) in
      let head : List ℕ = line depth (codes "->  Distributed Subplan " ++ decimal n) in
      let body : List (List ℕ) = lines_from c nodes (depth + 6) (n + 1) (outline_in p) in
      let left : drop i ps ≡ p ∷ drop (i + 1) ps = drop_more ps i p h ∙ ap (λ (q : Plan). q ∷ drop (i + 1) ps) (sym is) in
      let made : ls₂ ≡ (ls₀ ++ head ∷ []) ++ body = b ∙ (ap (λ k. ls₁ ++ lines_from c nodes k (n + 1) (outline_in p)) e ∙ ap (λ (ls : List (List ℕ)). ls ++ body) a) in
      ap (λ (ls : List (List ℕ)). ls ++ lines_of c nodes depth n' (drop (i + 1) ps)) made
      ∙ (ap (λ k. ((ls₀ ++ head ∷ []) ++ body) ++ lines_of c nodes depth k (drop (i + 1) ps)) d
      ∙ (append_assoc (ls₀ ++ head ∷ []) body rest
      ∙ (append_assoc ls₀ (head ∷ []) (body ++ rest)
      ∙ (ap (λ (qs : List Plan). ls₀ ++ lines_of c nodes depth n qs) (sym left) ∙ w))))

pub count_more : (ps : List Plan) (i : ℕ) (p : Plan) (n n' total : ℕ) → i < length ps → p ≡ get_or ps i p → n' ≡ (n + 1) + subplans_in (outline_in p) →
    n + count_of (drop i ps) ≡ total → n' + count_of (drop (i + 1) ps) ≡ total
count_more ps i p n n' total h is d w =
    let left : drop i ps ≡ p ∷ drop (i + 1) ps = drop_more ps i p h ∙ ap (λ (q : Plan). q ∷ drop (i + 1) ps) (sym is) in
    let counted : count_of (drop i ps) ≡ (1 + subplans_in (outline_in p)) + count_of (drop (i + 1) ps) = ap count_of left in
    omega (arith, d, w, counted)
