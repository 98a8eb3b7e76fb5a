-- What stays of a query names what it sees from outside, and results of the plans that its block is computed over.
use denote.Hole.Carrier.{hidden}
use Rattle.std.proofs.Common.{◌+◌, ◌-◌, ◌/◌, ℕ, zero, suc, length, take, drop, List, [], ◌∷◌, ◌++◌, map, Bool, true, false, cond, Option, None, Some, sym, subst, ◌⊎◌, inl, inr}
use Rattle.std.specs.Prelude.{is_some}
use Rattle.std.specs.List.{AllByRecursion}
use Rattle.std.proofs.lemmas.List.{take-append-drop}
use Rattle.cq_value.proofs.Lists.{all_left, all_right}
use Rattle.cq_value.specs.declared.value.Value.{Value}
use Rattle.cq_tree.specs.declared.plan.Planner.{Planner}
use Rattle.cq_tree.specs.declared.expression.Op.TheVariants.{Eq}
use Rattle.cq_tree.specs.declared.expression.Expr.{Literal, Column}
use Rattle.cq_tree.specs.declared.expression.Cond.{Cond, Compare, Or}
use Rattle.cq_tree.specs.declared.expression.Cond.TheBlock.{hidden-the_row-Cond-0}
use Rattle.cq_tree.specs.declared.query.FromTree.{FromTree, Table, Sub', Result, Cross', Inner', Left', end_of-FromTree, more_of-FromTree, end_of-Query, more_of-Query}
use Rattle.cq_tree.specs.declared.query.Query.{Query, Query', Row_of-Query, roll-Query}
use Rattle.cq_tree.specs.declared.query.Query as query
use Rattle.cq_meaning.specs.Chains.{halves}
use Rattle.cq_meaning.specs.Lists.{Has}
use Rattle.cq_meaning.specs.Queries.{columns_in, outputs_of}
use Rattle.cq_meaning.specs.Results.{ins_in, ins_in_from}
use Rattle.cq_meaning.proofs.RowLaws.{has_left, has_right}
use Rattle.cq_catalog.specs.Contents.{Contents}
use Rattle.cq_catalog.specs.Placement.{place_at}
use Rattle.cq_planning.specs.Conjuncts.{conjuncts, conjuncts_of, equalities}
use Rattle.cq_planning.specs.ValueSets.{ValueSet, value_set}
use Rattle.cq_planning.specs.Relations.{OuterJoin, Relation, distribution_at}
use Rattle.cq_planning.specs.Pushable.{pushable, relations, distribution_by}
use Rattle.cq_planning.specs.Narrowing.{distribution_in, right_sets, sets_in, given_to}
use Rattle.cq_planning.specs.Occurrences.{Occurrence, occurrence_of, occurrences_in}
use Rattle.cq_outline.specs.declared.outline.Leaving.{Leaving}
use Rattle.cq_outline.specs.Leaving.{leaves, leaves_subquery, inside}
use Rattle.cq_outline.specs.Tasking.{touch_of, leaving_by}
use Rattle.cq_outline.specs.Outlines.{table_planner, subquery_planner}
use Rattle.cq_one_plan.specs.declared.plan.Plan.{Plan}
use Rattle.cq_one_plan.specs.declared.plan.Part.{Part}
use Rattle.cq_one_plan.specs.declared.plan.Part.TheVariants.{Stays, Leaves, Asks}
use Rattle.cq_one_plan.specs.Stays.{leaves_in, leaves_of, leaves_of_all, result_if, set_filter, from_staying, query_staying, lone_query}
use Rattle.cq_one_plan.specs.Plans.{lone_plan, key_of, output_of, output_set, plan_of, in_plans, parts_inside, parts_from}
use Rattle.cq_plan_laws.specs.Scoping.{CondNames, FromNames, QueryNames}
use Rattle.cq_plan_laws.specs.Nested.{numbers_from, FromIsNested, IsNestedBehind}
use Rattle.cq_exec_laws.specs.Ordering.{set_by}
use Rattle.cq_exec_laws.proofs.Growing.{cond_grows, clauses_grow}
use Rattle.cq_exec_laws.proofs.Naming.{columns_name}
use Rattle.cq_exec_laws.proofs.Nested.{behind, sees}
use Rattle.cq_exec_laws.proofs.Apart.{set_in, set_left, set_right, plans_in, plans_append, asked_plans, rolled_number}

parts_left : (xs ys : List Part) (i : ℕ) → Has (set_in (plans_in xs)) i → Has (set_in (plans_in (xs ++ ys))) i
parts_left xs ys i h = subst (λ (ps : List Plan). Has (set_in ps) i) (sym (plans_append xs ys)) (set_left (plans_in xs) (plans_in ys) i h)

parts_right : (xs ys : List Part) (i : ℕ) → Has (set_in (plans_in ys)) i → Has (set_in (plans_in (xs ++ ys))) i
parts_right xs ys i h = subst (λ (ps : List Plan). Has (set_in ps) i) (sym (plans_append xs ys)) (set_right (plans_in xs) (plans_in ys) i h)

-- ---- a relation alone

module _ (S : ℕ → Type 0) where
  or_names : (a b : Cond) → CondNames S a → CondNames S b → CondNames S (Or a b)
  unfolding hidden-the_row-Cond-0 hidden
  or_names a b h g = (h, g)

  halves_name : (most : ℕ) (cs : List Cond) → AllByRecursion (CondNames S) cs → CondNames S (halves most true cs)
  halves_name most [] h = tt
  halves_name most (c ∷ []) h = h.0
  halves_name zero (c ∷ d ∷ more) h = tt
  halves_name (suc most) (c ∷ d ∷ more) h =
      let cs : List Cond = c ∷ d ∷ more in
      let m : ℕ = length cs - length cs / 2 in
      let both : AllByRecursion (CondNames S) (take m cs ++ drop m cs) = subst (AllByRecursion (CondNames S)) (sym (take-append-drop m cs)) h in
      or_names (halves most true (take m cs)) (halves most true (drop m cs)) (halves_name most (take m cs) (all_left (CondNames S) (take m cs) (drop m cs) both)) (halves_name most (drop m cs) (all_right (CondNames S) (take m cs) (drop m cs) both))

  equals_name : (y : ℕ) (vs : List Value) → AllByRecursion (CondNames S) (map (λ w. Compare Eq (Column y) (Literal w)) vs)
  equals_name y [] = tt
  equals_name y (v ∷ vs) = ((tt, tt), equals_name y vs)

  filter_names : (y : ℕ) (set : ValueSet) → CondNames S (set_filter y set)
  filter_names y None = tt
  filter_names y (Some []) = (tt, tt)
  filter_names y (Some (v ∷ vs)) =
      let cs : List Cond = map (λ w. Compare Eq (Column y) (Literal w)) (v ∷ vs) in
      halves_name (length cs) cs (equals_name y (v ∷ vs))

  pub lone_names : (f : FromTree) (y : ℕ) (set : ValueSet) → FromNames S f → QueryNames S (lone_query f y set)
  unfolding roll-Query denote.Hole.Carrier.roll
  lone_names f y set h = (h, filter_names y set, tt, tt, tt, columns_name S 0 (columns_in f))

-- ---- what stays of a query

module _ (c : Contents) where
  pub plan_number : (number kc k l : ℕ) (q : Query) → Has (set_by (plan_of c number kc k l q)) number
  plan_number number kc k l (Query' cs ctes ss subs from filter_ grouped keys aggs having items shown distinct order limit offset names) = rolled_number _

  -- the plans of IN subqueries set their results
  in_numbers : (k l : ℕ) {n : _} (qs : Row_of-Query n) (i : ℕ) → Has (numbers_from k qs) i → Has (set_in (in_plans c k l qs)) i
  in_numbers k l query.end_of-Query i h = h
  in_numbers k l (query.more_of-Query q more) i (inl e) =
      has_left (set_by (plan_of c k (k + 1) (k + 1) l q)) (set_in (in_plans c (k + 1 + ins_in q) (l + leaves_of q) more)) i (subst (λ j. Has (set_by (plan_of c k (k + 1) (k + 1) l q)) j) e (plan_number k (k + 1) (k + 1) l q))
  in_numbers k l (query.more_of-Query q more) i (inr h) =
      has_right (set_by (plan_of c k (k + 1) (k + 1) l q)) (set_in (in_plans c (k + 1 + ins_in q) (l + leaves_of q) more)) i (in_numbers (k + 1 + ins_in q) (l + leaves_of q) more i h)

  module _ (P R : ℕ → Type 0) (outside : (i : ℕ) → P i → R i) where
    table_named : (b : Bool) (plan : Plan) (table : ℕ) (groups : List ℕ) (l n : ℕ) → Has (set_by plan) l → ((i : ℕ) → Has (set_in (plans_in (cond b (Leaves plan) (Stays table groups) ∷ []))) i → R i) → FromNames R (result_if b l n (Table table n))
    table_named true plan table groups l n own named = named l (has_left (set_by plan) [] l own)
    table_named false plan table groups l n own named = tt

    sub_named : (b pushed : Bool) (whole lone : Plan) (parts : List Part) (l n : ℕ) (f : FromTree) → Has (set_by whole) l → Has (set_by lone) l → ((i : ℕ) → Has (set_in (plans_in (cond b (Leaves (cond pushed lone whole) ∷ []) parts))) i → R i) →
        (((i : ℕ) → Has (set_in (plans_in parts)) i → R i) → FromNames R f) → FromNames R (result_if b l n f)
    sub_named true true whole lone parts l n f w o named stays = named l (has_left (set_by lone) [] l o)
    sub_named true false whole lone parts l n f w o named stays = named l (has_left (set_by whole) [] l w)
    sub_named false pushed whole lone parts l n f w o named stays = stays named

    mutual
      pub inside_named : (leaving : Leaving) (q : Query) (outer : List (ℕ × List Value)) (k l : ℕ) → IsNestedBehind P k q → ((i : ℕ) → Has (set_in (plans_in (parts_inside c leaving q outer k l))) i → R i) → QueryNames R (query_staying c leaving q l)
      inside_named leaving (Query' cs ctes ss subs from filter_ grouped keys aggs having items shown distinct order limit offset names) outer k l h named =
          let lf : ℕ = l + leaves_of_all ctes in
          let own : List ℕ = numbers_from (k + ins_in_from from) subs in
          let xs : List Part = parts_from c leaving (relations c from 0 None) (value_set outer (conjuncts_of filter_ from)) from 0 None k lf in
          let asked : List Plan = in_plans c (k + ins_in_from from) (lf + leaves_in from) subs in
          let known : (i : ℕ) → Has own i → R i = λ i g. named i (parts_right xs (map Asks asked) i (subst (λ (ps : List Plan). Has (set_in ps) i) (sym (asked_plans asked)) (in_numbers (k + ins_in_from from) (lf + leaves_in from) subs i g))) in
          clauses_grow (λ i. P i ⊎ Has own i) R (sees P R outside own known) (from_staying c leaving (relations c from 0 None) from 0 None lf) filter_ keys aggs having items
          (from_named leaving (relations c from 0 None) (value_set outer (conjuncts_of filter_ from)) from 0 None k lf own known h.0 (λ i g. named i (parts_left xs (map Asks asked) i g))) h.2 h.3 h.4 h.5 h.6

      from_named : (leaving : Leaving) (rels : List Relation) (sets : ℕ → ValueSet) (f : FromTree) (start : ℕ) (outer : Option OuterJoin) (k l : ℕ) (own : List ℕ) → ((i : ℕ) → Has own i → R i) →
          FromIsNested P (λ i. P i ⊎ Has own i) k f → ((i : ℕ) → Has (set_in (plans_in (parts_from c leaving rels sets f start outer k l))) i → R i) → FromNames R (from_staying c leaving rels f start outer l)
      from_named leaving rels sets (Table t n) start outer k l own known h named =
          let o : Occurrence = occurrence_of c sets start t in
          table_named (leaves leaving rels (record { start = start; distribution = distribution_at start (place_at c t); outer = outer }))
          (lone_plan c l (table_planner c (touch_of c o) o.values) (Stays t (touch_of c o).1 ∷ []) (lone_query (Table t n) (key_of (place_at c t)) o.values)) t (touch_of c o).1 l n (rolled_number _) named
      from_named leaving rels sets (Sub' p (more_of-Query q end_of-Query)) start outer k l own known h named =
          let given : List (ℕ × List Value) = given_to sets start (pushable c q) in
          let planner : Planner = subquery_planner c (occurrences_in c q given) in
          sub_named (leaves_subquery leaving rels (record { start = start; distribution = distribution_by start (pushable c q); outer = outer })) (is_some (pushable c q))
          (plan_of c l k k (l + 1) q)
          (lone_plan c l planner (parts_inside c (leaving_by planner) q given k (l + 1))
          (lone_query (Sub' p (more_of-Query (query_staying c (leaving_by planner) q (l + 1)) end_of-Query)) (output_of (pushable c q)) (output_set sets start (pushable c q))))
          (parts_inside c (inside leaving) q given k (l + 1)) l (outputs_of q) (Sub' p (more_of-Query (query_staying c (inside leaving) q (l + 1)) end_of-Query))
          (plan_number l k k (l + 1) q) (rolled_number _) named (λ stays. inside_named (inside leaving) q given k (l + 1) (behind P k q h) stays)
      from_named leaving rels sets (Result i n) start outer k l own known h named = outside i h
      from_named leaving rels sets (Cross' p (more_of-FromTree a end_of-FromTree) q (more_of-FromTree b end_of-FromTree)) start outer k l own known h named =
          let xs : List Part = parts_from c leaving rels sets a start None k l in
          let ys : List Part = parts_from c leaving rels sets b (start + columns_in a) None (k + ins_in_from a) (l + leaves_in a) in (
            from_named leaving rels sets a start None k l own known h.0 (λ i g. named i (parts_left xs ys i g)),
            from_named leaving rels sets b (start + columns_in a) None (k + ins_in_from a) (l + leaves_in a) own known h.1 (λ i g. named i (parts_right xs ys i g)),
          )
      from_named leaving rels sets (Inner' p (more_of-FromTree a end_of-FromTree) q (more_of-FromTree b end_of-FromTree) on) start outer k l own known h named =
          let xs : List Part = parts_from c leaving rels sets a start None k l in
          let ys : List Part = parts_from c leaving rels sets b (start + columns_in a) None (k + ins_in_from a) (l + leaves_in a) in (
            from_named leaving rels sets a start None k l own known h.0 (λ i g. named i (parts_left xs ys i g)),
            from_named leaving rels sets b (start + columns_in a) None (k + ins_in_from a) (l + leaves_in a) own known h.1 (λ i g. named i (parts_right xs ys i g)),
            cond_grows (λ i. P i ⊎ Has own i) R (sees P R outside own known) on h.2,
          )
      from_named leaving rels sets (Left' p (more_of-FromTree a end_of-FromTree) q (more_of-FromTree b end_of-FromTree) on) start outer k l own known h named =
          let sb : ℕ → ValueSet = right_sets sets (sets_in c sets a start) (distribution_in c b (start + columns_in a)) start (start + columns_in a) on in
          let o : Option OuterJoin = Some (record { left = start; equalities = equalities (conjuncts on) }) in
          let xs : List Part = parts_from c leaving rels sets a start None k l in
          let ys : List Part = parts_from c leaving rels sb b (start + columns_in a) o (k + ins_in_from a) (l + leaves_in a) in (
            from_named leaving rels sets a start None k l own known h.0 (λ i g. named i (parts_left xs ys i g)),
            from_named leaving rels sb b (start + columns_in a) o (k + ins_in_from a) (l + leaves_in a) own known h.1 (λ i g. named i (parts_right xs ys i g)),
            cond_grows (λ i. P i ⊎ Has own i) R (sees P R outside own known) on h.2,
          )
