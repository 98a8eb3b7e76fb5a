-- The flaws of a block by what code finds in it.
use Rattle.std.proofs.Common.{◌≡◌, ℕ, Bool, true, false, ◌||◌, if◌then◌else◌, List, Option, None, Some, is_some, refl, sym, ap, ◌∙◌}
use Rattle.cq_tree.specs.declared.query.Query.{Query, Query', out-Query}
use Rattle.cq_meaning.specs.Queries.{columns_in}
use Rattle.cq_catalog.specs.Contents.{Contents}
use Rattle.cq_planning.specs.Conjuncts.{conjuncts_of, equalities}
use Rattle.cq_planning.specs.Relations.{Relation}
use Rattle.cq_planning.specs.Pushable.{relations}
use Rattle.cq_planning.specs.Routing.{fits_fast_path, fits_router}
use Rattle.cq_planning.specs.Blocks.{is_taken_whole}
use Rattle.cq_planning.specs.Joins.{equalities_of, relations_of, width_of}
use Rattle.cq_refusals.specs.declared.flaws.Flaws.{Flaws}
use Rattle.cq_refusals.specs.Flaws.{flaws_of, flaws_over, no_flaws}

-- ---- what is taken whole

pub taken_fast : (c : Contents) (q : Query) (b : Bool) → b ≡ fits_fast_path c q → b ≡ true → true ≡ is_taken_whole c q
taken_fast c q b e y = ap (λ (b : Bool). b || fits_router c q) (sym y ∙ e)

pub taken_otherwise : (c : Contents) (q : Query) (a b : Bool) → a ≡ fits_fast_path c q → a ≡ false → b ≡ fits_router c q → b ≡ is_taken_whole c q
taken_otherwise c q a b e n f = f ∙ ap (λ (b : Bool). b || fits_router c q) (sym n ∙ e)

-- ---- flaws

equalities_is : (q : Query) → equalities_of q ≡ equalities (conjuncts_of (out-Query q).filter (out-Query q).from)
unfolding out-Query denote.Hole.Carrier.out
equalities_is (Query' cs ctes ss subs from where_ grouped keys aggs having items shown distinct order limit offset names) = refl

relations_is : (c : Contents) (q : Query) → relations_of c q ≡ relations c (out-Query q).from 0 None
unfolding out-Query denote.Hole.Carrier.out
relations_is c (Query' cs ctes ss subs from where_ grouped keys aggs having items shown distinct order limit offset names) = refl

width_is : (q : Query) → width_of q ≡ columns_in (out-Query q).from
unfolding out-Query denote.Hole.Carrier.out
width_is (Query' cs ctes ss subs from where_ grouped keys aggs having items shown distinct order limit offset names) = refl

-- a block that is taken whole has none
pub whole_has_none : (repartition : Bool) (c : Contents) (q : Query) (b : Bool) → b ≡ is_taken_whole c q → b ≡ true → no_flaws ≡ flaws_of repartition c q
whole_has_none repartition c q b e y =
    let taken : is_taken_whole c q ≡ true = sym e ∙ y in
    rw taken refl

parted : (repartition : Bool) (c : Contents) (q : Query) → is_taken_whole c q ≡ false → flaws_of repartition c q ≡ flaws_over repartition (width_of q) (equalities_of q) (relations_of c q)
parted repartition c q left = rw left refl

pub flaws_found : (repartition : Bool) (c : Contents) (q : Query) (b : Bool) (width : ℕ) (pairs : List (ℕ × ℕ)) (rels : List Relation) (f : Flaws) →
    b ≡ is_taken_whole c q → b ≡ false → width ≡ columns_in (out-Query q).from → pairs ≡ equalities (conjuncts_of (out-Query q).filter (out-Query q).from) →
    rels ≡ relations c (out-Query q).from 0 None → f ≡ flaws_over repartition width pairs rels → f ≡ flaws_of repartition c q
flaws_found repartition c q b width pairs rels f e n w p r is =
    is ∙ ((λ i. flaws_over repartition ((w ∙ sym (width_is q)) i) ((p ∙ sym (equalities_is q)) i) ((r ∙ sym (relations_is c q)) i)) ∙ sym (parted repartition c q (sym e ∙ n)))
