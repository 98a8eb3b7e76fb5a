-- The definitions of planning at the nodes of a tree, as code sees them.
use Rattle.std.proofs.Common.{◌≡◌, ◌++◌, ℕ, List, refl, ap, ◌∙◌}
use Rattle.std.proofs.lemmas.List.Elements.{filter_map-append}
use denote.Hole.Carrier.{hidden}
use Rattle.cq_tree.specs.declared.expression.Cond.{Cond, And, Or}
use Rattle.cq_tree.specs.declared.query.FromTree.{FromTree, Cross, Inner, Left}
use Rattle.cq_tree.specs.declared.query.FromTree.TheBlock.{hidden-the_row-FromTree-1}
use Rattle.cq_value.specs.declared.value.Value.{Value}
use Rattle.cq_tree.proofs.Opened.{and_is, or_is}
use Rattle.cq_planning.specs.Conjuncts.{conjuncts, inner_conjuncts, conjuncts_of, equality, equalities, in_list, both_halves}
use Rattle.cq_planning.specs.ValueSets.{values_said, sets_said}

pub equalities_and : (a b : Cond) → equalities (conjuncts (And a b)) ≡ equalities (conjuncts a) ++ equalities (conjuncts b)
equalities_and a b = rw (and_is a b) (filter_map-append equality (conjuncts a) (conjuncts b))

pub said_and : (a b : Cond) → sets_said (conjuncts (And a b)) ≡ sets_said (conjuncts a) ++ sets_said (conjuncts b)
said_and a b = rw (and_is a b) (filter_map-append values_said (conjuncts a) (conjuncts b))

pub in_list_or : (a b : Cond) → in_list (Or a b) ≡ both_halves (in_list a) (in_list b)
in_list_or a b = rw (or_is a b)

module _ (a b : FromTree) where
  pub equalities_cross : equalities (inner_conjuncts (Cross a b)) ≡ equalities (inner_conjuncts a) ++ equalities (inner_conjuncts b)
  unfolding hidden-the_row-FromTree-1 hidden
  equalities_cross = filter_map-append equality (inner_conjuncts a) (inner_conjuncts b)

  pub equalities_inner : (on : Cond) → equalities (inner_conjuncts (Inner a b on)) ≡ (equalities (inner_conjuncts a) ++ equalities (inner_conjuncts b)) ++ equalities (conjuncts on)
  unfolding hidden-the_row-FromTree-1 hidden
  equalities_inner on = filter_map-append equality (inner_conjuncts a ++ inner_conjuncts b) (conjuncts on) ∙ ap (λ (ps : List (ℕ × ℕ)). ps ++ equalities (conjuncts on)) (filter_map-append equality (inner_conjuncts a) (inner_conjuncts b))

  pub equalities_left : (on : Cond) → equalities (inner_conjuncts (Left a b on)) ≡ equalities (inner_conjuncts a)
  unfolding hidden-the_row-FromTree-1 hidden
  equalities_left on = refl

  pub said_cross : sets_said (inner_conjuncts (Cross a b)) ≡ sets_said (inner_conjuncts a) ++ sets_said (inner_conjuncts b)
  unfolding hidden-the_row-FromTree-1 hidden
  said_cross = filter_map-append values_said (inner_conjuncts a) (inner_conjuncts b)

  pub said_inner : (on : Cond) → sets_said (inner_conjuncts (Inner a b on)) ≡ (sets_said (inner_conjuncts a) ++ sets_said (inner_conjuncts b)) ++ sets_said (conjuncts on)
  unfolding hidden-the_row-FromTree-1 hidden
  said_inner on = filter_map-append values_said (inner_conjuncts a ++ inner_conjuncts b) (conjuncts on) ∙ ap (λ (ps : List (ℕ × List Value)). ps ++ sets_said (conjuncts on)) (filter_map-append values_said (inner_conjuncts a) (inner_conjuncts b))

  pub said_left : (on : Cond) → sets_said (inner_conjuncts (Left a b on)) ≡ sets_said (inner_conjuncts a)
  unfolding hidden-the_row-FromTree-1 hidden
  said_left on = refl

module _ (filter_ : Cond) (from : FromTree) where
  pub equalities_whole : equalities (conjuncts_of filter_ from) ≡ equalities (conjuncts filter_) ++ equalities (inner_conjuncts from)
  equalities_whole = filter_map-append equality (conjuncts filter_) (inner_conjuncts from)

  pub said_whole : sets_said (conjuncts_of filter_ from) ≡ sets_said (conjuncts filter_) ++ sets_said (inner_conjuncts from)
  said_whole = filter_map-append values_said (conjuncts filter_) (inner_conjuncts from)
