-- The planner of a block by what code finds in it.
use Rattle.std.proofs.Common.{◌≡◌, ℕ, Bool, true, false, if◌then◌else◌, List, Option, None, Some, is_some, map, refl, sym, ap, ◌∙◌}
use Rattle.cq_value.specs.declared.value.Value.{Value}
use Rattle.cq_tree.specs.declared.plan.Planner.{Planner}
use Rattle.cq_tree.specs.declared.plan.Planner.TheVariants.{FastPath, Router, Pushdown}
use Rattle.cq_tree.specs.declared.query.Query.{Query, Query', out-Query}
use Rattle.cq_catalog.specs.Contents.{Contents}
use Rattle.cq_planning.specs.Conjuncts.{conjuncts_of, equalities}
use Rattle.cq_planning.specs.Classes.{first_of_class}
use Rattle.cq_planning.specs.Relations.{Relation}
use Rattle.cq_planning.specs.Pushable.{relations}
use Rattle.cq_planning.specs.Occurrences.{occurrences_in}
use Rattle.cq_planning.specs.Joins.{equalities_of, relations_of}
use Rattle.cq_planning.specs.Routing.{are_routed, fits_fast_path, fits_router}
use Rattle.cq_shape.specs.Labels.{label}
use Rattle.cq_plan.specs.Touches.{touches}
use Rattle.cq_router.specs.declared.planners.Routed.{Routed}
use Rattle.cq_router.specs.Planned.{fast_path_of, router_of}
use Rattle.cq_router.specs.Reads.{are_routed_among}
use Rattle.cq_router.proofs.ReadLaws.{routed_same}
use Rattle.cq_outline.specs.Tasking.{planner_of}
use Rattle.cq_outline.specs.Outlines.{subquery_planner}
use Rattle.cq_strategies.specs.Planners.{planner_over, planner_beyond}

some_if : {X : Type 0} (b : Bool) (x : X) → is_some (if b then Some x else None) ≡ b
some_if true x = refl
some_if false x = refl

fits_by : {X : Type 0} (b y : Bool) (x : X) (r : Option X) → r ≡ (if b then Some x else None) → is_some r ≡ y → b ≡ y
fits_by b y x r e is = sym (some_if b x) ∙ (sym (ap is_some e) ∙ is)

-- the three choices
abbrev chosen : Bool → Bool → Planner → Planner
chosen fast routed p = if fast then FastPath else (if routed then Router else p)

pub taken_fast : (c : Contents) (q : Query) (r : Option Routed) → r ≡ fast_path_of c q → is_some r ≡ true → FastPath ≡ planner_of c q
taken_fast c q r e y = ap (λ b. chosen b (fits_router c q) (planner_beyond c q)) (sym (fits_by (fits_fast_path c q) true _ r e y))

pub taken_routed : (c : Contents) (q : Query) (r s : Option Routed) → r ≡ fast_path_of c q → is_some r ≡ false → s ≡ router_of c q → is_some s ≡ true → Router ≡ planner_of c q
taken_routed c q r s e n f y = λ i. chosen (sym (fits_by (fits_fast_path c q) false _ r e n) i) (sym (fits_by (fits_router c q) true _ s f y) i) (planner_beyond c q)

pub taken_beyond : (c : Contents) (q : Query) (r s : Option Routed) (p : Planner) → r ≡ fast_path_of c q → is_some r ≡ false → s ≡ router_of c q → is_some s ≡ false → p ≡ planner_beyond c q → p ≡ planner_of c q
taken_beyond c q r s p e n f m is = is ∙ (λ i. chosen (sym (fits_by (fits_fast_path c q) false _ r e n) i) (sym (fits_by (fits_router c q) false _ s f m) i) (planner_beyond c q))

-- ---- of a query that isn't taken whole

equalities_is : (q : Query) → equalities_of q ≡ equalities (conjuncts_of (out-Query q).filter (out-Query q).from)
unfolding out-Query denote.Hole.Carrier.out
equalities_is (Query' cs ctes ss subs from where_ grouped keys aggs having items shown distinct order limit offset names) = refl

relations_is : (c : Contents) (q : Query) → relations_of c q ≡ relations c (out-Query q).from 0 None
unfolding out-Query denote.Hole.Carrier.out
relations_is c (Query' cs ctes ss subs from where_ grouped keys aggs having items shown distinct order limit offset names) = refl

pub beyond_found : (c : Contents) (q : Query) (labels : List ℕ) (rels : List Relation) (p : Planner) → label labels ≡ first_of_class (equalities (conjuncts_of (out-Query q).filter (out-Query q).from)) →
    rels ≡ relations c (out-Query q).from 0 None → p ≡ planner_over (label labels) rels → p ≡ planner_beyond c q
beyond_found c q labels rels p l r is = is ∙ (λ i. planner_over ((l ∙ ap first_of_class (sym (equalities_is q))) i) ((r ∙ sym (relations_is c q)) i))

-- ---- of a subquery

routed_is : (c : Contents) (q : Query) (outside : List (ℕ × List Value)) (reads : List (ℕ × List ℕ)) (b : Bool) → reads ≡ map (touches c) (occurrences_in c q outside) → b ≡ are_routed_among c reads →
    b ≡ are_routed c (occurrences_in c q outside)
routed_is c q outside reads b e f = f ∙ (ap (are_routed_among c) e ∙ routed_same c (occurrences_in c q outside))

pub subquery_routed : (c : Contents) (q : Query) (outside : List (ℕ × List Value)) (reads : List (ℕ × List ℕ)) (b : Bool) → reads ≡ map (touches c) (occurrences_in c q outside) → b ≡ are_routed_among c reads →
    b ≡ true → Router ≡ subquery_planner c (occurrences_in c q outside)
subquery_routed c q outside reads b e f y = ap (λ (a : Bool). if a then Router else Pushdown) (sym y ∙ routed_is c q outside reads b e f)

pub subquery_pushed : (c : Contents) (q : Query) (outside : List (ℕ × List Value)) (reads : List (ℕ × List ℕ)) (b : Bool) → reads ≡ map (touches c) (occurrences_in c q outside) → b ≡ are_routed_among c reads →
    b ≡ false → Pushdown ≡ subquery_planner c (occurrences_in c q outside)
subquery_pushed c q outside reads b e f n = ap (λ (a : Bool). if a then Router else Pushdown) (sym n ∙ routed_is c q outside reads b e f)
