-- What each arm of the walk over a query puts together.
use Rattle.std.proofs.Common.{◌≡◌, ℕ, ◌+◌, List, [], ◌∷◌, ◌++◌, map, Bool, true, false, if◌then◌else◌, Option, None, Some, refl, sym, ap, subst, ◌∙◌, append_assoc, append-nil}
use Rattle.cq_value.specs.declared.value.Value.{Value}
use Rattle.cq_tree.specs.declared.expression.Cond.{Cond}
use Rattle.cq_tree.specs.declared.query.FromTree.{FromTree, Sub, Result, Cross, Inner, Left}
use Rattle.cq_tree.specs.declared.query.Query.{Query, Query', out-Query}
use Rattle.cq_tree.specs.declared.plan.Planner.{Planner}
use Rattle.cq_meaning.specs.Queries.{columns_in, outputs_of}
use Rattle.cq_catalog.specs.Contents.{Contents}
use Rattle.cq_planning.specs.Conjuncts.{conjuncts, conjuncts_of, equalities}
use Rattle.cq_planning.specs.Classes.{first_of_class}
use Rattle.cq_planning.specs.Relations.{OuterJoin, Relation}
use Rattle.cq_planning.specs.ValueSets.{ValueSet, class_set, value_set, sets_said}
use Rattle.cq_planning.specs.Pushable.{Pushable, pushable, distribution_by, relations}
use Rattle.cq_planning.specs.Narrowing.{distribution_in, right_sets, sets_in, given_to}
use Rattle.cq_planning.specs.Occurrences.{occurrences_in}
use Rattle.cq_shape.specs.Labels.{label}
use Rattle.cq_plan.specs.declared.sets.Begun.{Begun}
use Rattle.cq_plan.specs.Begun.{set_at, set_of, sets_under, one_begun, begun, seen}
use Rattle.cq_plan.specs.Touches.{as_one}
use Rattle.cq_plan.proofs.BegunLaws.{left_found}
use Rattle.cq_plan.proofs.FromNodes.{distribution_sub, begun_sub, begun_cross, begun_inner, begun_left}
use Rattle.cq_plan.proofs.WalkLaws.{free, under_is, as_one_is}
use Rattle.cq_outline.specs.declared.outline.Leaving.{Leaving}
use Rattle.cq_outline.specs.Leaving.{inside}
use Rattle.cq_outline.specs.Tasking.{planner_of, leaving_by}
use Rattle.cq_outline.specs.Outlines.{subquery_planner}
use Rattle.cq_planner.specs.Sides.{first_set}
use Rattle.cq_one_plan.specs.declared.plan.Plan.{Plan}
use Rattle.cq_one_plan.specs.declared.plan.Part.{Part}
use Rattle.cq_one_plan.specs.declared.plan.Part.TheVariants.{Leaves, Asks}
use Rattle.cq_one_plan.specs.Stays.{query_staying, result_if, lone_query}
use Rattle.cq_one_plan.specs.Plans.{output_set, lone_plan, plan_of, parts_inside}
use Rattle.cq_planner.specs.declared.counting.Numbers.{Numbers}
use Rattle.cq_planner.specs.declared.joins.Walked.{Walked}
use Rattle.cq_planner.specs.declared.strategy.Strategy.{Strategy}
use Rattle.cq_planner.specs.declared.tables.Start.{Start}
use Rattle.cq_planner.specs.Counting.{counts_among}
use Rattle.cq_planner.specs.Made.{with_from}
use Rattle.cq_planner.specs.Strategies.{strategy_of, plan_by}
use Rattle.cq_planner.specs.Walks.{behind, IsWalked, lone_subquery, alone, leaves_query, next_in, parts_of_query, query_in_place, cte_plan_list, in_plan_list}
use Rattle.cq_planner.proofs.PlanNodes.{plan_is, inside_is, staying_is, Parts, Stays, stays_sub, stays_cross, stays_inner, stays_left, parts_sub, parts_cross, parts_inner, parts_left}

-- ---- a FROM

-- the LEFT JOIN of a left side that begins here
abbrev pub join_by : ℕ → List (ℕ × ℕ) → Option OuterJoin
join_by low pairs = Some (record { left = low; equalities = pairs })

abbrev walked : List Begun → FromTree → Walked
walked relations f = record { relations = relations; from = f }

module _ (c : Contents) (leaving : Leaving) (rels : List Relation) where
  abbrev pub Is : (ℕ → ValueSet) → FromTree → Start → Option OuterJoin → Walked → List Part → List Part → Type 0
  Is = IsWalked c leaving rels

  -- the parts of two sides, one after the other
  both_parts : (xs ys f0 f1 f2 : List Part) → f1 ≡ f0 ++ xs → f2 ≡ f1 ++ ys → f2 ≡ f0 ++ (xs ++ ys)
  both_parts xs ys f0 f1 f2 p q = q ∙ (ap (λ (us : List Part). us ++ ys) p ∙ append_assoc f0 xs ys)

  cross_here : (B : ℕ → ValueSet) (a b : FromTree) (start : Start) (outer : Option OuterJoin) (near far : Walked) (f0 f1 f2 : List Part) →
      Is B a start None near f0 f1 → Is B b (behind start a) None far f1 f2 → Is B (Cross a b) start outer (walked (near.relations ++ far.relations) (Cross near.from far.from)) f0 f2
  cross_here B a b start outer near far f0 f1 f2 p q = record {
    found = (λ i. p.found i ++ q.found i) ∙ sym (begun_cross c B start.column a b);
    stays = (λ i. Cross (p.stays i) (q.stays i)) ∙ sym (stays_cross c leaving rels start outer a b);
    parted = both_parts (Parts c leaving rels start outer B a start None) (Parts c leaving rels start outer B b (behind start a) None) f0 f1 f2 p.parted q.parted
        ∙ ap (λ (us : List Part). f0 ++ us) (sym (parts_cross c leaving rels start outer B a b));
  }

  pub cross_arm : (B Sa Sb S : ℕ → ValueSet) (a b : FromTree) (start end : Start) (outer : Option OuterJoin) (near far w : Walked) (f0 f1 f2 : List Part) →
      S ≡ B → Sa ≡ B → Sb ≡ B → end ≡ behind start a → Is Sa a start None near f0 f1 → Is Sb b end None far f1 f2 →
      w ≡ record { relations = near.relations ++ far.relations; from = Cross near.from far.from } → Is S (Cross a b) start outer w f0 f2
  cross_arm B Sa Sb S a b start end outer near far w f0 f1 f2 s sa sb e p q is =
      let p' : Is B a start None near f0 f1 = subst (λ X. Is X a start None near f0 f1) sa p in
      let q' : Is B b (behind start a) None far f1 f2 = subst (λ n. Is B b n None far f1 f2) e (subst (λ X. Is X b end None far f1 f2) sb q) in
      subst (λ x. Is S (Cross a b) start outer x f0 f2) (sym is) (subst (λ X. Is X (Cross a b) start outer (walked (near.relations ++ far.relations) (Cross near.from far.from)) f0 f2) (sym s)
      (cross_here B a b start outer near far f0 f1 f2 p' q'))

  inner_here : (B : ℕ → ValueSet) (a b : FromTree) (on : Cond) (start : Start) (outer : Option OuterJoin) (near far : Walked) (f0 f1 f2 : List Part) →
      Is B a start None near f0 f1 → Is B b (behind start a) None far f1 f2 → Is B (Inner a b on) start outer (walked (near.relations ++ far.relations) (Inner near.from far.from on)) f0 f2
  inner_here B a b on start outer near far f0 f1 f2 p q = record {
    found = (λ i. p.found i ++ q.found i) ∙ sym (begun_inner c B start.column a b on);
    stays = (λ i. Inner (p.stays i) (q.stays i) on) ∙ sym (stays_inner c leaving rels start outer a b on);
    parted = both_parts (Parts c leaving rels start outer B a start None) (Parts c leaving rels start outer B b (behind start a) None) f0 f1 f2 p.parted q.parted
        ∙ ap (λ (us : List Part). f0 ++ us) (sym (parts_inner c leaving rels start outer B a b on));
  }

  pub inner_arm : (B Sa Sb S : ℕ → ValueSet) (a b : FromTree) (on : Cond) (start end : Start) (outer : Option OuterJoin) (near far w : Walked) (f0 f1 f2 : List Part) →
      S ≡ B → Sa ≡ B → Sb ≡ B → end ≡ behind start a → Is Sa a start None near f0 f1 → Is Sb b end None far f1 f2 →
      w ≡ record { relations = near.relations ++ far.relations; from = Inner near.from far.from on } → Is S (Inner a b on) start outer w f0 f2
  inner_arm B Sa Sb S a b on start end outer near far w f0 f1 f2 s sa sb e p q is =
      let p' : Is B a start None near f0 f1 = subst (λ X. Is X a start None near f0 f1) sa p in
      let q' : Is B b (behind start a) None far f1 f2 = subst (λ n. Is B b n None far f1 f2) e (subst (λ X. Is X b end None far f1 f2) sb q) in
      subst (λ x. Is S (Inner a b on) start outer x f0 f2) (sym is) (subst (λ X. Is X (Inner a b on) start outer (walked (near.relations ++ far.relations) (Inner near.from far.from on)) f0 f2) (sym s)
      (inner_here B a b on start outer near far f0 f1 f2 p' q'))

  -- the sets of a right side
  abbrev under : (ℕ → ValueSet) → FromTree → FromTree → Cond → ℕ → ℕ → ValueSet
  under B a b on start = right_sets B (sets_in c B a start) (distribution_in c b (start + columns_in a)) start (start + columns_in a) on

  left_here : (B : ℕ → ValueSet) (a b : FromTree) (on : Cond) (start : Start) (outer : Option OuterJoin) (near far : Walked) (f0 f1 f2 : List Part) →
      Is B a start None near f0 f1 → Is (under B a b on start.column) b (behind start a) (join_by start.column (equalities (conjuncts on))) far f1 f2 →
      Is B (Left a b on) start outer (walked (near.relations ++ as_one b (start.column + columns_in a) far.relations) (Left near.from far.from on)) f0 f2
  left_here B a b on start outer near far f0 f1 f2 p q = record {
    found = (λ i. p.found i ++ (ap (as_one b (start.column + columns_in a)) q.found ∙ as_one_is c (under B a b on start.column) b (start.column + columns_in a)) i) ∙ sym (begun_left c B start.column a b on);
    stays = (λ i. Left (p.stays i) (q.stays i) on) ∙ sym (stays_left c leaving rels start outer a b on);
    parted = both_parts (Parts c leaving rels start outer B a start None) (Parts c leaving rels start outer (under B a b on start.column) b (behind start a) (join_by start.column (equalities (conjuncts on)))) f0 f1 f2 p.parted q.parted
        ∙ ap (λ (us : List Part). f0 ++ us) (sym (parts_left c leaving rels start outer B a b on));
  }

  pub left_arm : (B Sa Sb S : ℕ → ValueSet) (a b : FromTree) (on : Cond) (start end : Start) (outer : Option OuterJoin) (near far w : Walked) (pairs : List (ℕ × ℕ)) (f0 f1 f2 : List Part) →
      S ≡ B → Sa ≡ B → end ≡ behind start a → Is Sa a start None near f0 f1 → pairs ≡ equalities (conjuncts on) →
      Sb ≡ sets_under B (set_at B near.relations) start.column pairs (distribution_in c b end.column) end.column → Is Sb b end (join_by start.column pairs) far f1 f2 →
      w ≡ record { relations = near.relations ++ as_one b end.column far.relations; from = Left near.from far.from on } → Is S (Left a b on) start outer w f0 f2
  left_arm B Sa Sb S a b on start end outer near far w pairs f0 f1 f2 s sa e p ps sb q is =
      let p' : Is B a start None near f0 f1 = subst (λ X. Is X a start None near f0 f1) sa p in
      let high : ℕ = start.column + columns_in a in
      let narrowed : Sb ≡ under B a b on start.column =
      sb ∙ ((λ i. sets_under B (set_at B (p'.found i)) start.column (ps i) (distribution_in c b (e i).column) (e i).column)
      ∙ (ap (λ L. sets_under B L start.column (equalities (conjuncts on)) (distribution_in c b high) high) (left_found c B a start.column)
      ∙ under_is c B (sets_in c B a start.column) (distribution_in c b high) start.column high on)) in
      let q' : Is (under B a b on start.column) b (behind start a) (join_by start.column (equalities (conjuncts on))) far f1 f2 =
      subst (λ n. Is (under B a b on start.column) b n (join_by start.column (equalities (conjuncts on))) far f1 f2) e
      (subst (λ es. Is (under B a b on start.column) b end (join_by start.column es) far f1 f2) ps (subst (λ X. Is X b end (join_by start.column pairs) far f1 f2) narrowed q)) in
      subst (λ x. Is S (Left a b on) start outer x f0 f2) (sym (is ∙ ap (λ (n : Start). walked (near.relations ++ as_one b n.column far.relations) (Left near.from far.from on)) e))
      (subst (λ X. Is X (Left a b on) start outer (walked (near.relations ++ as_one b high far.relations) (Left near.from far.from on)) f0 f2) (sym s)
      (left_here B a b on start outer near far f0 f1 f2 p' q'))

  pub result_arm : (sets : ℕ → ValueSet) (number columns : ℕ) (start : Start) (outer : Option OuterJoin) (list : List Begun) (f0 : List Part) →
      list ≡ one_begun start.column None None → Is sets (Result number columns) start outer (walked list (Result number columns)) f0 f0
  result_arm sets number columns start outer list f0 l = record { found = l; stays = refl; parted = sym (append-nil f0) }

  -- the set of a subquery's distribution column
  set_is : (sets : ℕ → ValueSet) (start : ℕ) (way : Option Pushable) → set_of sets (distribution_by start way) ≡ output_set sets start way
  set_is sets start None i = None
  set_is sets start (Some p) i = sets (start + p.output)

  pub sub_arm : (B L : ℕ → ValueSet) (low : ℕ) (pairs : List (ℕ × ℕ)) (q : Query) (start : Start) (outer : Option OuterJoin) (given : List (ℕ × List Value)) (list : List Begun) (stays : FromTree) (f0 f1 : List Part) →
      given ≡ given_to (sets_under B L low pairs (distribution_by start.column (pushable c q)) start.column) start.column (pushable c q) →
      list ≡ one_begun start.column (distribution_by start.column (pushable c q)) (set_of (sets_under B L low pairs (distribution_by start.column (pushable c q)) start.column) (distribution_by start.column (pushable c q))) →
      stays ≡ query_in_place c leaving rels q start outer → f1 ≡ f0 ++ parts_of_query c leaving rels q start outer given (first_set list) →
      Is (sets_under B L low pairs (distribution_in c (Sub q) start.column) start.column) (Sub q) start outer (walked list stays) f0 f1
  sub_arm B L low pairs q start outer given list stays f0 f1 g l s f =
      let S : ℕ → ValueSet = sets_under B L low pairs (distribution_by start.column (pushable c q)) start.column in
      subst (λ d. Is (sets_under B L low pairs d start.column) (Sub q) start outer (walked list stays) f0 f1) (sym (distribution_sub c start.column q)) (record {
        found = l ∙ sym (begun_sub c S start.column q);
        stays = s ∙ sym (stays_sub c leaving rels start outer q);
        parted = f ∙ ap (λ (ps : List Part). f0 ++ ps) ((λ i. parts_of_query c leaving rels q start outer (g i) ((ap first_set l ∙ set_is S start.column (pushable c q)) i)) ∙ sym (parts_sub c leaving rels start outer S q));
      })

-- ---- subqueries

shown_is : (q : Query) → outputs_of q ≡ (out-Query q).shown
unfolding out-Query denote.Hole.Carrier.out
shown_is (Query' cs ctes ss subs from filter_ grouped keys aggs having items shown distinct order limit offset names) i = shown

module _ (c : Contents) (leaving : Leaving) (rels : List Relation) (q : Query) (start : Start) (outer : Option OuterJoin) (given : List (ℕ × List Value)) (set : ValueSet) where
  -- what is done where it leaves, or not
  abbrev placed : Bool → FromTree
  placed b = result_if b start.relations (outputs_of q) (Sub (query_staying c (inside leaving) q (start.relations + 1)))

  abbrev parted_if : Bool → List Part
  parted_if b = if b then Leaves (alone c q start.relations (next_in start) (pushable c q) given set) ∷ [] else parts_inside c (inside leaving) q given start.ins (start.relations + 1)

  module _ (b : Bool) (is : b ≡ leaves_query c leaving rels q start outer) where
    pub alone_place : b ≡ true → Result start.relations (out-Query q).shown ≡ query_in_place c leaving rels q start outer
    alone_place t = ap (λ (k : ℕ). Result start.relations k) (sym (shown_is q)) ∙ ap placed (sym t ∙ is)

    pub alone_parts : b ≡ true → Leaves (alone c q start.relations (next_in start) (pushable c q) given set) ∷ [] ≡ parts_of_query c leaving rels q start outer given set
    alone_parts t = ap parted_if (sym t ∙ is)

    pub within_place : b ≡ false → Sub (query_staying c (inside leaving) q (start.relations + 1)) ≡ query_in_place c leaving rels q start outer
    within_place t = ap placed (sym t ∙ is)

    pub within_parts : b ≡ false → parts_inside c (inside leaving) q given start.ins (start.relations + 1) ≡ parts_of_query c leaving rels q start outer given set
    within_parts t = ap parted_if (sym t ∙ is)

-- a subquery that is planned by itself as a right side, by what code finds
pub lone_arm : (c : Contents) (q : Query) (number : ℕ) (next : Numbers) (y : ℕ) (given said : List (ℕ × List Value)) (set set' : ValueSet) (planner : Planner) (leaving : Leaving) (column : ℕ) (parts : List Part) (stays query : Query) (f : FromTree) →
    said ≡ given → planner ≡ subquery_planner c (occurrences_in c q said) → set ≡ set' → column ≡ y → leaving ≡ leaving_by planner → stays ≡ query_staying c leaving q next.relations →
    parts ≡ parts_inside c leaving q given next.ins next.relations → f ≡ Sub stays → query ≡ lone_query f column set → lone_plan c number planner parts query ≡ lone_subquery c q number next y given set'
lone_arm c q number next y given said set set' planner leaving column parts stays query f es ep et ec el ey er ef eq =
    let p : planner ≡ subquery_planner c (occurrences_in c q given) = ep ∙ ap (λ x. subquery_planner c (occurrences_in c q x)) es in
    let l : leaving ≡ leaving_by (subquery_planner c (occurrences_in c q given)) = el ∙ ap leaving_by p in
    let made : query ≡ lone_query (Sub (query_staying c (leaving_by (subquery_planner c (occurrences_in c q given))) q next.relations)) y set' =
    eq ∙ (λ i. lone_query ((ef ∙ ap Sub (ey ∙ ap (λ x. query_staying c x q next.relations) l)) i) (ec i) (et i)) in
    λ i. lone_plan c number (p i) ((er ∙ ap (λ x. parts_inside c x q given next.ins next.relations) l) i) (made i)

-- ---- queries

module _ (c : Contents) where
  pub plan_arm : (q : Query) (number kc : ℕ) (next : Numbers) (s : Strategy) (leaving : Leaving) (ctes : List Plan) (parts : List Part) (r : Query) →
      s ≡ strategy_of c q → ctes ≡ cte_plan_list c 0 kc next.relations (out-Query q).ctes → leaving ≡ leaving_by s.planner →
      parts ≡ parts_inside c leaving q [] next.ins next.relations → r ≡ query_staying c leaving q next.relations → plan_by c number s ctes parts r ≡ plan_of c number kc next.ins next.relations q
  plan_arm q number kc next s leaving ctes parts r e o l i y =
      let l' : leaving ≡ leaving_by (planner_of c q) = l ∙ ap (λ (x : Strategy). leaving_by x.planner) e in
      (λ j. plan_by c number (e j) (o j) ((i ∙ ap (λ x. parts_inside c x q [] next.ins next.relations) l') j) ((y ∙ ap (λ x. query_staying c x q next.relations) l') j))
      ∙ sym (plan_is c number kc next.ins next.relations q)

  pub inside_arm : (leaving : Leaving) (q : Query) (rels : List Relation) (labels : List ℕ) (outside said : List (ℕ × List Value)) (begun_ones : List Begun) (low : ℕ) (pairs : List (ℕ × ℕ))
      (ctes next : Numbers) (start end : Start) (w : Walked) (r : Query) (f0 f1 f2 : List Part) →
      rels ≡ relations c (out-Query q).from 0 None → label labels ≡ first_of_class (equalities (conjuncts_of (out-Query q).filter (out-Query q).from)) →
      said ≡ outside ++ sets_said (conjuncts_of (out-Query q).filter (out-Query q).from) → pairs ≡ [] → ctes ≡ counts_among (out-Query q).ctes →
      start ≡ record { column = 0; ins = next.ins; relations = next.relations + ctes.relations } → end ≡ behind start (out-Query q).from →
      IsWalked c leaving rels (seen c labels said begun_ones low pairs (out-Query q).from start.column) (out-Query q).from start None w f0 f1 →
      f2 ≡ f1 ++ map Asks (in_plan_list c end.ins end.relations (out-Query q).subs) → r ≡ with_from q w.from →
      (r ≡ query_staying c leaving q next.relations) × (f2 ≡ f0 ++ parts_inside c leaving q outside next.ins next.relations)
  inside_arm leaving q rels labels outside said begun_ones low pairs ctes next start end w r f0 f1 f2 er el es ep ec et ee walked_it put is =
      let f : FromTree = (out-Query q).from in
      let here : Start = record { column = 0; ins = next.ins; relations = next.relations + (counts_among (out-Query q).ctes).relations } in
      let at : start ≡ here = et ∙ ap (λ (n : Numbers). begins next.ins (next.relations + n.relations)) ec in
      let sets : seen c labels said begun_ones low pairs f 0 ≡ value_set outside (conjuncts_of (out-Query q).filter f) =
      free (class_set (label labels) said) (set_at (class_set (label labels) said) begun_ones) low pairs (distribution_in c f 0) 0 ep
      ∙ (ap (λ first. class_set first said) el ∙ ap (class_set (first_of_class (equalities (conjuncts_of (out-Query q).filter f)))) es) in
      let seen_here : IsWalked c leaving rels (seen c labels said begun_ones low pairs f 0) f here None w f0 f1 =
      subst (λ (s : Start). IsWalked c leaving rels (seen c labels said begun_ones low pairs f s.column) f s None w f0 f1) at walked_it in
      let done : IsWalked c leaving (relations c f 0 None) (value_set outside (conjuncts_of (out-Query q).filter f)) f here None w f0 f1 =
      subst (λ rs. IsWalked c leaving rs (value_set outside (conjuncts_of (out-Query q).filter f)) f here None w f0 f1) er (subst (λ S. IsWalked c leaving rels S f here None w f0 f1) sets seen_here) in
      let at_end : end ≡ behind here f = ee ∙ ap (λ s. behind s f) at in (
        is ∙ (ap (with_from q) done.stays ∙ sym (staying_is c leaving next.relations q)),
        put ∙ ((λ i. done.parted i ++ map Asks (in_plan_list c (at_end i).ins (at_end i).relations (out-Query q).subs))
            ∙ (append_assoc f0 _ (map Asks (in_plan_list c (behind here f).ins (behind here f).relations (out-Query q).subs))
            ∙ ap (λ (ps : List Part). f0 ++ ps) (sym (inside_is c leaving outside next.ins next.relations q)))),
      )
    where
      begins : ℕ → ℕ → Start
      begins ins relations = record { column = 0; ins = ins; relations = relations }
