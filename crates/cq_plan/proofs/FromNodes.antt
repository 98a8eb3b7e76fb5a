-- The definitions of the walk at the nodes of a FROM, as code sees them.
use Rattle.std.proofs.Common.{◌≡◌, ℕ, ◌+◌, ◌++◌, None, List, refl}
use denote.Hole.Carrier.{hidden}
use Rattle.cq_value.specs.declared.value.Value.{Value}
use Rattle.cq_tree.specs.declared.expression.Cond.{Cond}
use Rattle.cq_tree.specs.declared.query.FromTree.{FromTree, Sub, Cross, Inner, Left}
use Rattle.cq_tree.specs.declared.query.FromTree.TheBlock.{hidden-the_row-FromTree-1, hidden-the_row-Query-0}
use Rattle.cq_tree.specs.declared.query.Query.{Query, Query', out-Query}
use Rattle.cq_meaning.specs.Queries.{columns_in}
use Rattle.cq_catalog.specs.Contents.{Contents}
use Rattle.cq_planning.specs.Conjuncts.{conjuncts_of}
use Rattle.cq_planning.specs.ValueSets.{ValueSet, value_set}
use Rattle.cq_planning.specs.Pushable.{pushable, distribution_by}
use Rattle.cq_planning.specs.Narrowing.{distribution_in, right_sets, sets_in, given_to}
use Rattle.cq_planning.specs.Occurrences.{occurrences_from, occurrences_in}
use Rattle.cq_plan.specs.Begun.{begun, one_begun, set_of}

pub occurrences_is : (c : Contents) (q : Query) (outer : List (ℕ × List Value)) → occurrences_in c q outer ≡ occurrences_from c (value_set outer (conjuncts_of (out-Query q).filter (out-Query q).from)) (out-Query q).from 0
unfolding out-Query denote.Hole.Carrier.out
occurrences_is c (Query' cs ctes ss subs from where_ grouped keys aggs having items shown distinct order limit offset names) outer = refl

module _ (c : Contents) (start : ℕ) where
  pub distribution_sub : (q : Query) → distribution_in c (Sub q) start ≡ distribution_by start (pushable c q)
  unfolding hidden-the_row-Query-0 hidden
  distribution_sub q = refl

  pub distribution_cross : (a b : FromTree) → distribution_in c (Cross a b) start ≡ None
  unfolding hidden-the_row-FromTree-1 hidden
  distribution_cross a b = refl

  pub distribution_inner : (a b : FromTree) (on : Cond) → distribution_in c (Inner a b on) start ≡ None
  unfolding hidden-the_row-FromTree-1 hidden
  distribution_inner a b on = refl

  pub distribution_left : (a b : FromTree) (on : Cond) → distribution_in c (Left a b on) start ≡ None
  unfolding hidden-the_row-FromTree-1 hidden
  distribution_left a b on = refl

module _ (c : Contents) (sets : ℕ → ValueSet) (start : ℕ) where
  pub begun_sub : (q : Query) → begun c sets (Sub q) start ≡ one_begun start (distribution_by start (pushable c q)) (set_of sets (distribution_by start (pushable c q)))
  unfolding hidden-the_row-Query-0 hidden
  begun_sub q = refl

  pub begun_cross : (a b : FromTree) → begun c sets (Cross a b) start ≡ begun c sets a start ++ begun c sets b (start + columns_in a)
  unfolding hidden-the_row-FromTree-1 hidden
  begun_cross a b = refl

  pub begun_inner : (a b : FromTree) (on : Cond) → begun c sets (Inner a b on) start ≡ begun c sets a start ++ begun c sets b (start + columns_in a)
  unfolding hidden-the_row-FromTree-1 hidden
  begun_inner a b on = refl

  pub begun_left : (a b : FromTree) (on : Cond) → begun c sets (Left a b on) start ≡ begun c sets a start ++ one_begun (start + columns_in a) (distribution_in c b (start + columns_in a))
      (set_of (right_sets sets (sets_in c sets a start) (distribution_in c b (start + columns_in a)) start (start + columns_in a) on) (distribution_in c b (start + columns_in a)))
  unfolding hidden-the_row-FromTree-1 hidden
  begun_left a b on = refl

  pub occurrences_sub : (q : Query) → occurrences_from c sets (Sub q) start ≡ occurrences_in c q (given_to sets start (pushable c q))
  unfolding hidden-the_row-Query-0 hidden
  occurrences_sub q = refl

  pub occurrences_cross : (a b : FromTree) → occurrences_from c sets (Cross a b) start ≡ occurrences_from c sets a start ++ occurrences_from c sets b (start + columns_in a)
  unfolding hidden-the_row-FromTree-1 hidden
  occurrences_cross a b = refl

  pub occurrences_inner : (a b : FromTree) (on : Cond) → occurrences_from c sets (Inner a b on) start ≡ occurrences_from c sets a start ++ occurrences_from c sets b (start + columns_in a)
  unfolding hidden-the_row-FromTree-1 hidden
  occurrences_inner a b on = refl

  pub occurrences_left : (a b : FromTree) (on : Cond) → occurrences_from c sets (Left a b on) start ≡ occurrences_from c sets a start
      ++ occurrences_from c (right_sets sets (sets_in c sets a start) (distribution_in c b (start + columns_in a)) start (start + columns_in a) on) b (start + columns_in a)
  unfolding hidden-the_row-FromTree-1 hidden
  occurrences_left a b on = refl
