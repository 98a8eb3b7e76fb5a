-- EXPLAIN's lines are those of the plan.
use Rattle.std.proofs.Common.{◌≡◌, ℕ, ◌+◌, List, [], ◌∷◌, ◌++◌, map, filter_map, length, Bool, true, false, cond, Option, None, Some, refl, ap, ◌∙◌}
use Rattle.std.specs.Prelude.{is_some}
use Rattle.cq_value.specs.declared.value.Value.{Value}
use Rattle.cq_tree.specs.declared.plan.Planner.{Planner}
use Rattle.cq_tree.specs.declared.query.FromTree.{FromTree, Table, Sub', Result, Cross', Inner', Left', end_of-FromTree, more_of-FromTree, end_of-Query, more_of-Query}
use Rattle.cq_tree.specs.declared.query.Query.{Query, Query', Row_of-Query}
use Rattle.cq_tree.specs.declared.query.Query as query
use Rattle.cq_meaning.specs.Queries.{columns_in}
use Rattle.cq_meaning.specs.Results.{ins_in, ins_in_from}
use Rattle.cq_catalog.specs.Contents.{Contents}
use Rattle.cq_catalog.specs.Placement.{place_at}
use Rattle.cq_planning.specs.Conjuncts.{conjuncts, conjuncts_of, equalities}
use Rattle.cq_planning.specs.ValueSets.{ValueSet, value_set}
use Rattle.cq_planning.specs.Relations.{OuterJoin, Relation, distribution_at}
use Rattle.cq_planning.specs.Pushable.{pushable, relations, distribution_by}
use Rattle.cq_planning.specs.Narrowing.{distribution_in, right_sets, sets_in, given_to}
use Rattle.cq_planning.specs.Occurrences.{Occurrence, occurrence_of, occurrences_in}
use Rattle.cq_outline.specs.declared.joining.Joined.{Joined}
use Rattle.cq_outline.specs.Joining.{nothing_joined}
use Rattle.cq_outline.specs.declared.outline.Leaving.{Leaving}
use Rattle.cq_outline.specs.Leaving.{leaves, leaves_subquery, inside}
use Rattle.cq_outline.specs.declared.outline.Outline.{Outline, roll-Outline}
use Rattle.cq_outline.specs.declared.outline.Piece.{Piece}
use Rattle.cq_outline.specs.declared.outline.Piece.TheVariants as piece
use Rattle.cq_outline.specs.Tasking.{Touch, touch_of, planner_of, leaving_by, parting_by, shares_rows, shown_planner, tasks_by, combine_by}
use Rattle.cq_outline.specs.Outlines as shown
use Rattle.cq_outline.specs.Outlines.{block_by, outline_of, outlines, pieces_inside, pieces_from, piece_of_table, pieces_of_subquery, lone_by, table_planner, subquery_planner}
use Rattle.cq_outline.specs.Texts.{lines_from}
use Rattle.cq_one_plan.specs.declared.plan.Grounds.{Grounds}
use Rattle.cq_one_plan.specs.declared.plan.Plan.{Plan, roll-Plan, Row_of-Plan, end_of-Plan, more_of-Plan, items-the_row-Plan, items_hidden-the_row-Plan-0}
use Rattle.cq_one_plan.specs.declared.plan.Plan.TheBlock.{hidden-the_row-Plan-0}
use Rattle.cq_one_plan.specs.declared.plan.Plan.TheOpen.{Plan-F}
use Rattle.cq_one_plan.specs.declared.plan.Part.{Part}
use Rattle.cq_one_plan.specs.declared.plan.Part.TheVariants.{Stays, Leaves, Asks}
use Rattle.cq_one_plan.specs.Stays.{leaves_in, leaves_of, leaves_of_all, from_staying, query_staying, lone_query}
use Rattle.cq_one_plan.specs.Plans.{no_grounds, grounds_of, stays_in, planned_in, leaving, asking, plan_with, lone_plan, part_of_table, key_of, output_of, output_set, plan_of, cte_plans, in_plans, parts_inside, parts_from, whole_plan, first_free, ctes_of, first_in}
use Rattle.cq_one_plan.specs.Reading.{outline_in, outlines_in}
use Rattle.cq_plan_laws.specs.Laws.{PlansExplain}

-- ---- subplans as lists

outlines_row : {n : _} (ps : Row_of-Plan n) → outlines_in ps ≡ map outline_in (items-the_row-Plan _ ps)
outlines_row end_of-Plan = refl
outlines_row (more_of-Plan p more) = ap (λ (rest : List Outline). outline_in p ∷ rest) (outlines_row more)

outlines_hidden : (ps : List Plan) → outlines_in (hidden-the_row-Plan-0 ps) ≡ map outline_in ps
outlines_hidden ps = outlines_row (hidden-the_row-Plan-0 ps) ∙ ap (map outline_in) (items_hidden-the_row-Plan-0 ps)

abbrev outline_with : Plan-F Plan → List Outline → Outline
outline_with x subplans = roll-Outline (record {
  subplans = subplans;
  planner = x.planner;
  steps = x.parting.steps;
  combine = x.combine;
  tasks = x.tasks;
  tables = map (λ (t : Touch). t.0) x.touches;
})

outline_rolled : (x : Plan-F Plan) → outline_in (roll-Plan x) ≡ outline_with x (map outline_in x.subplans)
unfolding roll-Plan denote.Hole.Carrier.roll
outline_rolled x = ap (outline_with x) (outlines_hidden x.subplans)

-- ---- parts and pieces

abbrev piece_of : Part → Piece
piece_of (Stays table groups) = piece.Stays table groups
piece_of (Leaves p) = piece.Leaves (outline_in p)
piece_of (Asks p) = piece.Asks (outline_in p)

map_append : {X Y : Type 0} (f : X → Y) (xs ys : List X) → map f (xs ++ ys) ≡ map f xs ++ map f ys
map_append f [] ys = refl
map_append f (x ∷ xs) ys = ap (λ (rest : List _). f x ∷ rest) (map_append f xs ys)

stays_are : (parts : List Part) → stays_in parts ≡ shown.stays_in (map piece_of parts)
stays_are [] = refl
stays_are (Stays table groups ∷ parts) = ap (λ (rest : List Touch). (table, groups) ∷ rest) (stays_are parts)
stays_are (Leaves p ∷ parts) = stays_are parts
stays_are (Asks p ∷ parts) = stays_are parts

leaving_are : (parts : List Part) → map outline_in (filter_map leaving parts) ≡ filter_map shown.leaving (map piece_of parts)
leaving_are [] = refl
leaving_are (Stays table groups ∷ parts) = leaving_are parts
leaving_are (Leaves p ∷ parts) = ap (λ (rest : List Outline). outline_in p ∷ rest) (leaving_are parts)
leaving_are (Asks p ∷ parts) = leaving_are parts

asking_are : (parts : List Part) → map outline_in (filter_map asking parts) ≡ filter_map shown.asking (map piece_of parts)
asking_are [] = refl
asking_are (Stays table groups ∷ parts) = asking_are parts
asking_are (Leaves p ∷ parts) = asking_are parts
asking_are (Asks p ∷ parts) = ap (λ (rest : List Outline). outline_in p ∷ rest) (asking_are parts)

planned_are : (parts : List Part) → map outline_in (planned_in parts) ≡ shown.planned_in (map piece_of parts)
planned_are parts = map_append outline_in (filter_map leaving parts) (filter_map asking parts) ∙ (λ i. leaving_are parts i ++ asking_are parts i)

asks_are : (ps : List Plan) → map piece_of (map Asks ps) ≡ map piece.Asks (map outline_in ps)
asks_are [] = refl
asks_are (p ∷ ps) = ap (λ (rest : List Piece). piece.Asks (outline_in p) ∷ rest) (asks_are ps)

-- ---- a block

module _ (c : Contents) where
  block_is : (number : ℕ) (planner : Planner) (parting : Joined) (shares : Bool) (grounds : Grounds) (ctes : List Plan) (parts : List Part) (q : Query) (os : List Outline) (pieces : List Piece) →
      map outline_in ctes ≡ os → map piece_of parts ≡ pieces → outline_in (plan_with c number planner parting shares grounds ctes parts q) ≡ block_by c planner parting shares os pieces
  block_is number planner parting shares grounds ctes parts q os pieces e f =
      outline_rolled _
      ∙ (λ i. made (subplans_are i) (touches_are i))
    where
      made : List Outline → List Touch → Outline
      made subplans touches = roll-Outline (record {
        subplans = subplans;
        planner = shown_planner c planner touches;
        steps = parting.steps;
        combine = combine_by (length (tasks_by c planner parting.count touches)) shares;
        tasks = tasks_by c planner parting.count touches;
        tables = map (λ (t : Touch). t.0) touches;
      })

      subplans_are : map outline_in (ctes ++ planned_in parts) ≡ os ++ shown.planned_in pieces
      subplans_are = map_append outline_in ctes (planned_in parts) ∙ (λ i. e i ++ (planned_are parts ∙ ap shown.planned_in f) i)

      touches_are : stays_in parts ≡ shown.stays_in pieces
      touches_are = stays_are parts ∙ ap shown.stays_in f

  -- ---- a FROM

  table_is : (leaving : Leaving) (rels : List Relation) (r : Relation) (o : Occurrence) (f : FromTree) (l : ℕ) → piece_of (part_of_table c leaving rels r o f l) ≡ piece_of_table c leaving rels r o o.values
  table_is leaving rels r o f l = by_cases (leaves leaving rels r)
    where
      lone : Plan
      lone = lone_plan c l (table_planner c (touch_of c o) o.values) (Stays o.table (touch_of c o).1 ∷ []) (lone_query f (key_of (place_at c o.table)) o.values)

      by_cases : (b : Bool) → piece_of (cond b (Leaves lone) (Stays o.table (touch_of c o).1)) ≡ cond b (piece.Leaves (shown.lone_table c (touch_of c o) o.values)) (piece.Stays o.table (touch_of c o).1)
      by_cases true = ap piece.Leaves (block_is l (table_planner c (touch_of c o) o.values) nothing_joined false no_grounds [] (Stays o.table (touch_of c o).1 ∷ []) (lone_query f (key_of (place_at c o.table)) o.values) [] (piece.Stays o.table (touch_of c o).1 ∷ []) refl refl)
      by_cases false = refl

  sub_is : (b pushed : Bool) (whole lone : Plan) (parts : List Part) (out_whole out_lone : Outline) (pieces : List Piece) → outline_in whole ≡ out_whole → outline_in lone ≡ out_lone → map piece_of parts ≡ pieces →
      map piece_of (cond b (Leaves (cond pushed lone whole) ∷ []) parts) ≡ cond b (piece.Leaves (cond pushed out_lone out_whole) ∷ []) pieces
  sub_is true true whole lone parts out_whole out_lone pieces e f g = ap (λ (o : Outline). piece.Leaves o ∷ []) f
  sub_is true false whole lone parts out_whole out_lone pieces e f g = ap (λ (o : Outline). piece.Leaves o ∷ []) e
  sub_is false pushed whole lone parts out_whole out_lone pieces e f g = g

  both : (xs ys : List Part) (us vs : List Piece) → map piece_of xs ≡ us → map piece_of ys ≡ vs → map piece_of (xs ++ ys) ≡ us ++ vs
  both xs ys us vs e f = map_append piece_of xs ys ∙ (λ i. e i ++ f i)

  mutual
    plan_is : (number kc k l : ℕ) (q : Query) → outline_in (plan_of c number kc k l q) ≡ outline_of c q
    plan_is number kc k l (Query' cs ctes ss subs from filter_ grouped keys aggs having items shown_ distinct order limit offset names) =
        let q : Query = Query' cs ctes ss subs from filter_ grouped keys aggs having items shown_ distinct order limit offset names in
        let planner : Planner = planner_of c q in
        let parting : Joined = parting_by c planner q in
        let lf : ℕ = l + leaves_of_all ctes in
        let xs : List Part = parts_from c (leaving_by planner) (relations c from 0 None) (value_set [] (conjuncts_of filter_ from)) from 0 None k lf in
        let ys : List Part = map Asks (in_plans c (k + ins_in_from from) (lf + leaves_in from) subs) in
        block_is number planner parting (shares_rows parting.class q) (grounds_of c q) (cte_plans c 0 kc l ctes) (xs ++ ys)
        (Query' cs ctes ss subs (from_staying c (leaving_by planner) (relations c from 0 None) from 0 None lf) filter_ grouped keys aggs having items shown_ distinct order limit offset names)
        (outlines c ctes) (pieces_from c (leaving_by planner) (relations c from 0 None) (value_set [] (conjuncts_of filter_ from)) from 0 None ++ map piece.Asks (outlines c subs))
        (ctes_are 0 kc l ctes)
        (both xs ys (pieces_from c (leaving_by planner) (relations c from 0 None) (value_set [] (conjuncts_of filter_ from)) from 0 None) (map piece.Asks (outlines c subs))
        (from_are (leaving_by planner) (relations c from 0 None) (value_set [] (conjuncts_of filter_ from)) from 0 None k lf)
        (asks_are (in_plans c (k + ins_in_from from) (lf + leaves_in from) subs) ∙ ap (map piece.Asks) (ins_are (k + ins_in_from from) (lf + leaves_in from) subs)))

    ctes_are : (i k l : ℕ) {n : _} (qs : Row_of-Query n) → map outline_in (cte_plans c i k l qs) ≡ outlines c qs
    ctes_are i k l query.end_of-Query = refl
    ctes_are i k l (query.more_of-Query q more) = (λ j. plan_is i k k l q j ∷ ctes_are (i + 1) (k + ins_in q) (l + leaves_of q) more j)

    ins_are : (k l : ℕ) {n : _} (qs : Row_of-Query n) → map outline_in (in_plans c k l qs) ≡ outlines c qs
    ins_are k l query.end_of-Query = refl
    ins_are k l (query.more_of-Query q more) = (λ j. plan_is k (k + 1) (k + 1) l q j ∷ ins_are (k + 1 + ins_in q) (l + leaves_of q) more j)

    inside_are : (leaving : Leaving) (q : Query) (outer : List (ℕ × List Value)) (k l : ℕ) → map piece_of (parts_inside c leaving q outer k l) ≡ pieces_inside c leaving q outer
    inside_are leaving (Query' cs ctes ss subs from filter_ grouped keys aggs having items shown_ distinct order limit offset names) outer k l =
        let lf : ℕ = l + leaves_of_all ctes in
        both (parts_from c leaving (relations c from 0 None) (value_set outer (conjuncts_of filter_ from)) from 0 None k lf) (map Asks (in_plans c (k + ins_in_from from) (lf + leaves_in from) subs))
        (pieces_from c leaving (relations c from 0 None) (value_set outer (conjuncts_of filter_ from)) from 0 None) (map piece.Asks (outlines c subs))
        (from_are leaving (relations c from 0 None) (value_set outer (conjuncts_of filter_ from)) from 0 None k lf)
        (asks_are (in_plans c (k + ins_in_from from) (lf + leaves_in from) subs) ∙ ap (map piece.Asks) (ins_are (k + ins_in_from from) (lf + leaves_in from) subs))

    from_are : (leaving : Leaving) (rels : List Relation) (sets : ℕ → ValueSet) (f : FromTree) (start : ℕ) (outer : Option OuterJoin) (k l : ℕ) →
        map piece_of (parts_from c leaving rels sets f start outer k l) ≡ pieces_from c leaving rels sets f start outer
    from_are leaving rels sets (Table t n) start outer k l =
        ap (λ (p : Piece). p ∷ []) (table_is leaving rels (record { start = start; distribution = distribution_at start (place_at c t); outer = outer }) (occurrence_of c sets start t) (Table t n) l)
    from_are leaving rels sets (Sub' p (more_of-Query q end_of-Query)) start outer k l =
        let given : List (ℕ × List Value) = given_to sets start (pushable c q) in
        let planner : Planner = subquery_planner c (occurrences_in c q given) in
        sub_is (leaves_subquery leaving rels (record { start = start; distribution = distribution_by start (pushable c q); outer = outer })) (is_some (pushable c q))
        (plan_of c l k k (l + 1) q)
        (lone_plan c l planner (parts_inside c (leaving_by planner) q given k (l + 1))
        (lone_query (Sub' p (more_of-Query (query_staying c (leaving_by planner) q (l + 1)) end_of-Query)) (output_of (pushable c q)) (output_set sets start (pushable c q))))
        (parts_inside c (inside leaving) q given k (l + 1))
        (outline_of c q) (lone_by c planner (pieces_inside c (leaving_by planner) q given)) (pieces_inside c (inside leaving) q given)
        (plan_is l k k (l + 1) q)
        (block_is l planner nothing_joined false no_grounds [] (parts_inside c (leaving_by planner) q given k (l + 1))
        (lone_query (Sub' p (more_of-Query (query_staying c (leaving_by planner) q (l + 1)) end_of-Query)) (output_of (pushable c q)) (output_set sets start (pushable c q)))
        [] (pieces_inside c (leaving_by planner) q given) refl (inside_are (leaving_by planner) q given k (l + 1)))
        (inside_are (inside leaving) q given k (l + 1))
    from_are leaving rels sets (Result i n) start outer k l = refl
    from_are leaving rels sets (Cross' p (more_of-FromTree a end_of-FromTree) q (more_of-FromTree b end_of-FromTree)) start outer k l =
        both (parts_from c leaving rels sets a start None k l) (parts_from c leaving rels sets b (start + columns_in a) None (k + ins_in_from a) (l + leaves_in a))
        (pieces_from c leaving rels sets a start None) (pieces_from c leaving rels sets b (start + columns_in a) None)
        (from_are leaving rels sets a start None k l) (from_are leaving rels sets b (start + columns_in a) None (k + ins_in_from a) (l + leaves_in a))
    from_are leaving rels sets (Inner' p (more_of-FromTree a end_of-FromTree) q (more_of-FromTree b end_of-FromTree) on) start outer k l =
        both (parts_from c leaving rels sets a start None k l) (parts_from c leaving rels sets b (start + columns_in a) None (k + ins_in_from a) (l + leaves_in a))
        (pieces_from c leaving rels sets a start None) (pieces_from c leaving rels sets b (start + columns_in a) None)
        (from_are leaving rels sets a start None k l) (from_are leaving rels sets b (start + columns_in a) None (k + ins_in_from a) (l + leaves_in a))
    from_are leaving rels sets (Left' p (more_of-FromTree a end_of-FromTree) q (more_of-FromTree b end_of-FromTree) on) start outer k l =
        let sb : ℕ → ValueSet = right_sets sets (sets_in c sets a start) (distribution_in c b (start + columns_in a)) start (start + columns_in a) on in
        let o : Option OuterJoin = Some (record { left = start; equalities = equalities (conjuncts on) }) in
        both (parts_from c leaving rels sets a start None k l) (parts_from c leaving rels sb b (start + columns_in a) o (k + ins_in_from a) (l + leaves_in a))
        (pieces_from c leaving rels sets a start None) (pieces_from c leaving rels sb b (start + columns_in a) o)
        (from_are leaving rels sets a start None k l) (from_are leaving rels sb b (start + columns_in a) o (k + ins_in_from a) (l + leaves_in a))

pub plans_explain : PlansExplain
plans_explain c nodes q =
    let e : outline_in (whole_plan c q) ≡ outline_of c q = plan_is c (first_free q + leaves_of q) (ctes_of q) (first_in q) (first_free q) q in
    (e, ap (lines_from c nodes 0 1) e)
