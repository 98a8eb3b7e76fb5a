-- The definitions of planning at the nodes of a FROM, as code sees them.
use Rattle.std.proofs.Common.{◌≡◌, ℕ, ◌+◌, [], ◌∷◌, ◌++◌, Option, None, Some, refl}
use Rattle.std.specs.Prelude.{take}
use denote.Hole.Carrier.{hidden}
use Rattle.cq_tree.specs.declared.expression.Cond.{Cond}
use Rattle.cq_tree.specs.declared.query.FromTree.{FromTree, Sub, Cross, Inner, Left}
use Rattle.cq_tree.specs.declared.query.FromTree.TheBlock.{hidden-the_row-FromTree-1, hidden-the_row-Query-0}
use Rattle.cq_tree.specs.declared.query.Query.{Query, Query', out-Query}
use Rattle.cq_meaning.specs.Queries.{columns_in, outputs_of}
use Rattle.cq_catalog.specs.Contents.{Contents}
use Rattle.cq_planning.specs.Conjuncts.{conjuncts, conjuncts_of, equalities}
use Rattle.cq_planning.specs.Classes.{first_of_class}
use Rattle.cq_planning.specs.Relations.{OuterJoin, distributions, is_left_in_block, is_plain}
use Rattle.cq_planning.specs.Pushable.{relations, pushable, pushable_over, distribution_by}

pub outputs_is : (q : Query) → outputs_of q ≡ (out-Query q).shown
unfolding out-Query denote.Hole.Carrier.out
outputs_is (Query' cs ctes ss subs from where_ grouped keys aggs having items shown distinct order limit offset names) = refl

pub columns_sub : (q : Query) → columns_in (Sub q) ≡ (out-Query q).shown
unfolding hidden-the_row-Query-0 hidden
columns_sub q = outputs_is q

pub columns_cross : (a b : FromTree) → columns_in (Cross a b) ≡ columns_in a + columns_in b
unfolding hidden-the_row-FromTree-1 hidden
columns_cross a b = refl

pub columns_inner : (a b : FromTree) (on : Cond) → columns_in (Inner a b on) ≡ columns_in a + columns_in b
unfolding hidden-the_row-FromTree-1 hidden
columns_inner a b on = refl

pub columns_left : (a b : FromTree) (on : Cond) → columns_in (Left a b on) ≡ columns_in a + columns_in b
unfolding hidden-the_row-FromTree-1 hidden
columns_left a b on = refl

pub pushable_is : (c : Contents) (q : Query) → pushable c q ≡ pushable_over (first_of_class (equalities (conjuncts_of (out-Query q).filter (out-Query q).from)))
    (relations c (out-Query q).from 0 None)
    (distributions (is_left_in_block (relations c (out-Query q).from 0 None)) (relations c (out-Query q).from 0 None))
    (distributions is_plain (relations c (out-Query q).from 0 None))
    (out-Query q).grouped (out-Query q).keys (take (out-Query q).shown (out-Query q).items) (out-Query q).limit (out-Query q).offset
unfolding out-Query denote.Hole.Carrier.out
pushable_is c (Query' cs ctes ss subs from where_ grouped keys aggs having items shown distinct order limit offset names) = refl

module _ (c : Contents) (start : ℕ) (outer : Option OuterJoin) where
  pub relations_cross : (a b : FromTree) → relations c (Cross a b) start outer ≡ relations c a start None ++ relations c b (start + columns_in a) None
  unfolding hidden-the_row-FromTree-1 hidden
  relations_cross a b = refl

  pub relations_inner : (a b : FromTree) (on : Cond) → relations c (Inner a b on) start outer ≡ relations c a start None ++ relations c b (start + columns_in a) None
  unfolding hidden-the_row-FromTree-1 hidden
  relations_inner a b on = refl

  pub relations_left : (a b : FromTree) (on : Cond) → relations c (Left a b on) start outer ≡ relations c a start None ++ relations c b (start + columns_in a) (Some (record { left = start; equalities = equalities (conjuncts on) }))
  unfolding hidden-the_row-FromTree-1 hidden
  relations_left a b on = refl

  pub relations_sub : (q : Query) → relations c (Sub q) start outer ≡ record { start = start; distribution = distribution_by start (pushable c q); outer = outer } ∷ []
  unfolding hidden-the_row-Query-0 hidden
  relations_sub q = refl
