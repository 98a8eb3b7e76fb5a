-- What is planned of what code holds is what the definitions plan of the query.
use Rattle.std.proofs.Common.{◌≡◌, ℕ, Bool, true, false, List, [], length, None, Some, refl, sym, ap, ◌∙◌, nat_eq, arith, ◌&&◌}
use denote.Hole.Carrier.{hidden}
use Rattle.cq_tree.specs.declared.plan.Planner.{Planner}
use Rattle.cq_tree.specs.declared.plan.Planner.TheVariants.{Router}
use Rattle.cq_tree.specs.declared.query.FromTree.{FromTree}
use Rattle.cq_tree.specs.declared.query.FromTree.TheBlock.{hidden-the_row-Query-2}
use Rattle.cq_tree.specs.declared.query.FromTree.TheOpen.{Query-F}
use Rattle.cq_tree.specs.declared.query.Query.{Query, out-Query, roll-Query, roll-out-Query, Row_of-Query, end_of-Query, more_of-Query, items-the_row-Query, items_hidden-the_row-Query-2}
use Rattle.cq_catalog.specs.Contents.{Contents}
use Rattle.cq_planning.specs.Conjuncts.{conjuncts_of}
use Rattle.cq_planning.specs.ValueSets.{value_set}
use Rattle.cq_planning.specs.Occurrences.{occurrences_in}
use Rattle.cq_planning.specs.Routing.{is_none_of_them, is_one_table, fits_fast_path, fits_router, tasks_of, touched_in_block}
use Rattle.cq_plan.specs.Touches.{touched_alone}
use Rattle.cq_router.specs.declared.planners.Routed.{Routed}
use Rattle.cq_router.specs.Planned.{routed_by, router_of, is_alone}
use Rattle.cq_router.specs.Reads.{groups_among, tasks_among, are_routed_among}
use Rattle.cq_router.proofs.ReadLaws.{groups_same, tasks_same, routed_same}

pub routed_query : (c : Contents) (planner : Planner) (q : Query) (reads : List (ℕ × List ℕ)) → reads ≡ touched_alone c q →
    routed_by planner (tasks_among c reads) (groups_among c reads) ≡ routed_by planner (tasks_of c q) (touched_in_block c q)
routed_query c planner q reads e =
    ap (λ (ts : List (ℕ × List ℕ)). routed_by planner (tasks_among c ts) (groups_among c ts)) e
    ∙ (λ i. routed_by planner (tasks_same c (occurrences_in c q []) i) (groups_same c (occurrences_in c q []) i))

pub taken : (c : Contents) (q : Query) (reads : List (ℕ × List ℕ)) → reads ≡ touched_alone c q → are_routed_among c reads ≡ fits_router c q
taken c q reads e = ap (are_routed_among c) e ∙ routed_same c (occurrences_in c q [])

pub routed_is : (c : Contents) (q : Query) (reads : List (ℕ × List ℕ)) (b : Bool) → reads ≡ touched_alone c q → b ≡ are_routed_among c reads → b ≡ fits_router c q
routed_is c q reads b e f = f ∙ taken c q reads e

pub router_taken : (c : Contents) (q : Query) (reads : List (ℕ × List ℕ)) (b : Bool) (r : Routed) → reads ≡ touched_alone c q → b ≡ are_routed_among c reads → b ≡ true →
    r ≡ routed_by Router (tasks_among c reads) (groups_among c reads) → Some r ≡ router_of c q
router_taken c q reads b r e f y g =
    let fits : fits_router c q ≡ true = sym (taken c q reads e) ∙ (sym f ∙ y) in
    rw fits (ap Some (g ∙ routed_query c Router q reads e))

pub router_left : (c : Contents) (q : Query) (reads : List (ℕ × List ℕ)) (b : Bool) → reads ≡ touched_alone c q → b ≡ are_routed_among c reads → b ≡ false → None ≡ router_of c q
router_left c q reads b e f n =
    let fits : fits_router c q ≡ false = sym (taken c q reads e) ∙ (sym f ∙ n) in
    rw fits refl

-- ---- the fast path

none_row : {n : _} (qs : Row_of-Query n) → is_none_of_them qs ≡ nat_eq (length (items-the_row-Query _ qs)) 0
none_row end_of-Query = refl
none_row (more_of-Query q more) = grind arith

none_hidden : (qs : List Query) → is_none_of_them (hidden-the_row-Query-2 qs) ≡ nat_eq (length qs) 0
none_hidden qs = none_row (hidden-the_row-Query-2 qs) ∙ ap (λ (us : List Query). nat_eq (length us) 0) (items_hidden-the_row-Query-2 qs)

fits_rolled : (c : Contents) (x : Query-F FromTree Query) → fits_fast_path c (roll-Query x) ≡ (nat_eq (length x.ctes) 0 && (nat_eq (length x.subs) 0 && is_one_table c (value_set [] (conjuncts_of x.filter x.from)) x.from))
unfolding roll-Query denote.Hole.Carrier.roll
fits_rolled c x = λ i. none_hidden x.ctes i && (none_hidden x.subs i && is_one_table c (value_set [] (conjuncts_of x.filter x.from)) x.from)

pub fits_is : (c : Contents) (q : Query) → fits_fast_path c q ≡ (nat_eq (length (out-Query q).ctes) 0 && (nat_eq (length (out-Query q).subs) 0 && is_one_table c (value_set [] (conjuncts_of (out-Query q).filter (out-Query q).from)) (out-Query q).from))
fits_is c q = ap (fits_fast_path c) (sym (roll-out-Query q)) ∙ fits_rolled c (out-Query q)

and_apart : (a b d : Bool) → (a && (b && d)) ≡ ((a && b) && d)
and_apart true b d = refl
and_apart false b d = refl

-- the FROM of a query that is alone
abbrev pub is_one_table_of : Contents → Query → Bool
is_one_table_of c q = is_one_table c (value_set [] (conjuncts_of (out-Query q).filter (out-Query q).from)) (out-Query q).from

fits_both : (c : Contents) (q : Query) → fits_fast_path c q ≡ (is_alone q && is_one_table_of c q)
fits_both c q = fits_is c q ∙ and_apart (nat_eq (length (out-Query q).ctes) 0) (nat_eq (length (out-Query q).subs) 0) (is_one_table_of c q)

pub fits_alone : (c : Contents) (q : Query) (b : Bool) → b ≡ is_alone q → b ≡ true → is_one_table_of c q ≡ fits_fast_path c q
fits_alone c q b e y = sym (fits_both c q ∙ ap (λ a. a && is_one_table_of c q) (sym e ∙ y))

pub fits_not : (c : Contents) (q : Query) (b : Bool) → b ≡ is_alone q → b ≡ false → false ≡ fits_fast_path c q
fits_not c q b e n = sym (fits_both c q ∙ ap (λ a. a && is_one_table_of c q) (sym e ∙ n))
