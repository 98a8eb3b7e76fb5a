-- The definitions of plans at the nodes of a query, as code sees them.
use Rattle.std.proofs.Common.{◌≡◌, ℕ, ◌+◌, List, [], ◌∷◌, ◌++◌, map, Option, None, Some, refl, sym, ap, ◌∙◌}
use denote.Hole.Carrier.{hidden}
use Rattle.cq_value.specs.declared.value.Value.{Value}
use Rattle.cq_tree.specs.declared.expression.Cond.{Cond}
use Rattle.cq_tree.specs.declared.query.FromTree.{FromTree, Sub, Cross, Inner, Left}
use Rattle.cq_tree.specs.declared.query.FromTree.TheBlock.{hidden-the_row-FromTree-1, hidden-the_row-Query-0, hidden-the_row-Query-2}
use Rattle.cq_tree.specs.declared.query.FromTree.TheOpen.{Query-F}
use Rattle.cq_tree.specs.declared.query.Query.{Query, out-Query, roll-Query, roll-out-Query, Row_of-Query, end_of-Query, more_of-Query, items-the_row-Query, items_hidden-the_row-Query-2}
use Rattle.cq_meaning.specs.Queries.{columns_in}
use Rattle.cq_meaning.specs.Results.{ins_in, ins_in_from}
use Rattle.cq_catalog.specs.Contents.{Contents}
use Rattle.cq_planning.specs.Conjuncts.{conjuncts, conjuncts_of, equalities}
use Rattle.cq_planning.specs.ValueSets.{ValueSet, value_set}
use Rattle.cq_planning.specs.Relations.{OuterJoin, Relation}
use Rattle.cq_planning.specs.Pushable.{pushable, relations}
use Rattle.cq_planning.specs.Narrowing.{distribution_in, right_sets, sets_in, given_to}
use Rattle.cq_outline.specs.declared.outline.Leaving.{Leaving}
use Rattle.cq_outline.specs.Tasking.{planner_of, leaving_by}
use Rattle.cq_one_plan.specs.declared.plan.Plan.{Plan}
use Rattle.cq_one_plan.specs.declared.plan.Part.{Part}
use Rattle.cq_one_plan.specs.declared.plan.Part.TheVariants.{Asks}
use Rattle.cq_one_plan.specs.Stays.{leaves_in, leaves_of, leaves_of_all, from_staying, query_staying}
use Rattle.cq_one_plan.specs.Plans.{output_set, plan_of, cte_plans, in_plans, parts_inside, parts_from}
use Rattle.cq_planner.specs.declared.tables.Start.{Start}
use Rattle.cq_planner.specs.Counting.{leaves_each}
use Rattle.cq_planner.specs.Made.{with_from}
use Rattle.cq_planner.specs.Strategies.{strategy_of, plan_by}
use Rattle.cq_planner.specs.Walks.{behind, cte_plan_list, in_plan_list, parts_of_query, query_in_place}
use Rattle.cq_planner.proofs.CountLaws.{leaves_hidden}

-- ---- lists of queries

module _ (c : Contents) where
  cte_row : {n : _} (qs : Row_of-Query n) (i k l : ℕ) → cte_plans c i k l qs ≡ cte_plan_list c i k l (items-the_row-Query _ qs)
  cte_row end_of-Query i k l = refl
  cte_row (more_of-Query q more) i k l = ap (λ (rest : List Plan). plan_of c i k k l q ∷ rest) (cte_row more (i + 1) (k + ins_in q) (l + leaves_of q))

  in_row : {n : _} (qs : Row_of-Query n) (k l : ℕ) → in_plans c k l qs ≡ in_plan_list c k l (items-the_row-Query _ qs)
  in_row end_of-Query k l = refl
  in_row (more_of-Query q more) k l = ap (λ (rest : List Plan). plan_of c k (k + 1) (k + 1) l q ∷ rest) (in_row more (k + 1 + ins_in q) (l + leaves_of q))

  cte_hidden : (qs : List Query) (i k l : ℕ) → cte_plans c i k l (hidden-the_row-Query-2 qs) ≡ cte_plan_list c i k l qs
  cte_hidden qs i k l = cte_row (hidden-the_row-Query-2 qs) i k l ∙ ap (cte_plan_list c i k l) (items_hidden-the_row-Query-2 qs)

  in_hidden : (qs : List Query) (k l : ℕ) → in_plans c k l (hidden-the_row-Query-2 qs) ≡ in_plan_list c k l qs
  in_hidden qs k l = in_row (hidden-the_row-Query-2 qs) k l ∙ ap (in_plan_list c k l) (items_hidden-the_row-Query-2 qs)

  -- ---- queries

  module _ (number kc k l : ℕ) where
    -- a query, by the plans of its CTEs
    abbrev made : Query → List Plan → Plan
    made q ctes = plan_by c number (strategy_of c q) ctes (parts_inside c (leaving_by (planner_of c q)) q [] k l) (query_staying c (leaving_by (planner_of c q)) q l)

    plan_rolled : (x : Query-F FromTree Query) → plan_of c number kc k l (roll-Query x) ≡ made (roll-Query x) (cte_plan_list c 0 kc l x.ctes)
    unfolding roll-Query denote.Hole.Carrier.roll
    plan_rolled x = ap (made (roll-Query x)) (cte_hidden x.ctes 0 kc l)

    pub plan_is : (q : Query) → plan_of c number kc k l q ≡ made q (cte_plan_list c 0 kc l (out-Query q).ctes)
    plan_is q = ap (plan_of c number kc k l) (sym (roll-out-Query q)) ∙ (plan_rolled (out-Query q)
        ∙ ap (λ (r : Query). made r (cte_plan_list c 0 kc l (out-Query q).ctes)) (roll-out-Query q))

  module _ (leaving : Leaving) (outer : List (ℕ × List Value)) (k l : ℕ) where
    -- the parts of a query of this FROM, where this is said in its conditions, and where its FROM has results from lf on
    abbrev parts_over : Query-F FromTree Query → ℕ → List Part
    parts_over x lf =
        parts_from c leaving (relations c x.from 0 None) (value_set outer (conjuncts_of x.filter x.from)) x.from 0 None k lf
        ++ map Asks (in_plan_list c (k + ins_in_from x.from) (lf + leaves_in x.from) x.subs)

    inside_rolled : (x : Query-F FromTree Query) → parts_inside c leaving (roll-Query x) outer k l ≡ parts_over x (l + leaves_each x.ctes)
    unfolding roll-Query denote.Hole.Carrier.roll
    inside_rolled x =
        ap (λ ps. parts_from c leaving (relations c x.from 0 None) (value_set outer (conjuncts_of x.filter x.from)) x.from 0 None k (l + leaves_of_all (hidden-the_row-Query-2 x.ctes)) ++ map Asks ps)
        (in_hidden x.subs (k + ins_in_from x.from) (l + leaves_of_all (hidden-the_row-Query-2 x.ctes) + leaves_in x.from))
        ∙ ap (λ n. parts_over x (l + n)) (leaves_hidden x.ctes)

    pub inside_is : (q : Query) → parts_inside c leaving q outer k l ≡ parts_over (out-Query q) (l + leaves_each (out-Query q).ctes)
    inside_is q = ap (λ (r : Query). parts_inside c leaving r outer k l) (sym (roll-out-Query q)) ∙ inside_rolled (out-Query q)

  module _ (leaving : Leaving) (l : ℕ) where
    staying_rolled : (x : Query-F FromTree Query) → query_staying c leaving (roll-Query x) l ≡ roll-Query (record x { from = from_staying c leaving (relations c x.from 0 None) x.from 0 None (l + leaves_each x.ctes) })
    unfolding roll-Query denote.Hole.Carrier.roll
    staying_rolled x = ap (λ n. roll-Query (record x { from = from_staying c leaving (relations c x.from 0 None) x.from 0 None (l + n) })) (leaves_hidden x.ctes)

    pub staying_is : (q : Query) → query_staying c leaving q l ≡ with_from q (from_staying c leaving (relations c (out-Query q).from 0 None) (out-Query q).from 0 None (l + leaves_each (out-Query q).ctes))
    staying_is q = ap (λ (r : Query). query_staying c leaving r l) (sym (roll-out-Query q)) ∙ staying_rolled (out-Query q)

-- ---- nodes of a FROM

module _ (c : Contents) (leaving : Leaving) (rels : List Relation) (start : Start) (outer : Option OuterJoin) where
  abbrev pub Parts : (ℕ → ValueSet) → FromTree → Start → Option OuterJoin → List Part
  Parts sets f s o = parts_from c leaving rels sets f s.column o s.ins s.relations

  abbrev pub Stays : FromTree → Start → Option OuterJoin → FromTree
  Stays f s o = from_staying c leaving rels f s.column o s.relations

  pub stays_sub : (q : Query) → Stays (Sub q) start outer ≡ query_in_place c leaving rels q start outer
  unfolding hidden-the_row-Query-0 hidden
  stays_sub q = refl

  pub stays_cross : (a b : FromTree) → Stays (Cross a b) start outer ≡ Cross (Stays a start None) (Stays b (behind start a) None)
  unfolding hidden-the_row-FromTree-1 hidden
  stays_cross a b = refl

  pub stays_inner : (a b : FromTree) (on : Cond) → Stays (Inner a b on) start outer ≡ Inner (Stays a start None) (Stays b (behind start a) None) on
  unfolding hidden-the_row-FromTree-1 hidden
  stays_inner a b on = refl

  pub stays_left : (a b : FromTree) (on : Cond) → Stays (Left a b on) start outer
      ≡ Left (Stays a start None) (Stays b (behind start a) (Some (record { left = start.column; equalities = equalities (conjuncts on) }))) on
  unfolding hidden-the_row-FromTree-1 hidden
  stays_left a b on = refl

  module _ (sets : ℕ → ValueSet) where
    pub parts_sub : (q : Query) → Parts sets (Sub q) start outer
        ≡ parts_of_query c leaving rels q start outer (given_to sets start.column (pushable c q)) (output_set sets start.column (pushable c q))
    unfolding hidden-the_row-Query-0 hidden
    parts_sub q = refl

    pub parts_cross : (a b : FromTree) → Parts sets (Cross a b) start outer ≡ Parts sets a start None ++ Parts sets b (behind start a) None
    unfolding hidden-the_row-FromTree-1 hidden
    parts_cross a b = refl

    pub parts_inner : (a b : FromTree) (on : Cond) → Parts sets (Inner a b on) start outer ≡ Parts sets a start None ++ Parts sets b (behind start a) None
    unfolding hidden-the_row-FromTree-1 hidden
    parts_inner a b on = refl

    pub parts_left : (a b : FromTree) (on : Cond) → Parts sets (Left a b on) start outer ≡ Parts sets a start None
        ++ Parts (right_sets sets (sets_in c sets a start.column) (distribution_in c b (start.column + columns_in a)) start.column (start.column + columns_in a) on) b (behind start a)
        (Some (record { left = start.column; equalities = equalities (conjuncts on) }))
    unfolding hidden-the_row-FromTree-1 hidden
    parts_left a b on = refl
