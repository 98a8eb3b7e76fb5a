-- The rules of SELECT give written ones, where what may stand deeper is written; and so at any depth.
use Rattle.std.proofs.Common.{ℕ, zero, suc, Option, Some, None, is_some, ◌∙◌}
use Rattle.std.specs.List.{AllByRecursion}
use Rattle.cq_grammar.specs.declared.kind.Kind.{Kind}
use Rattle.cq_grammar.specs.declared.name.Name.{Name}
use Rattle.cq_grammar.specs.declared.rule.Rule.TheVariants.{Or as or_, And as and_, Not as not_, Term as term_, Unary as unary_}
use Rattle.cq_grammar.specs.declared.expr.Expr.{Expr}
use Rattle.cq_grammar.specs.Lang.{Lang}
use Rattle.cq_grammar.specs.Grammar as g
use Rattle.cq_grammar.specs.Grammar.{Deeper, expr, select, Tree, below, upto}
use Rattle.cq_grammar.specs.Nodes as node
use Rattle.cq_reading_laws.specs.Written.{written_expr, written_item, written_join, written_relation, written_from, written_group_by, written_having, written_order_key, written_select}
use Rattle.cq_reading_laws.proofs.WrittenPieces.{Gives, IfThere, Some-of-them, anything, weaker, both_gives, made_gives, either_gives, empty_gives, many_gives, optional_gives, behind_gives, commas_give, or_none_gives}
use Rattle.cq_reading_laws.proofs.WrittenTruths.{IsTrue, both_true, all_true, some_true, all_of_some, there_true}
use Rattle.cq_reading_laws.proofs.WrittenNodes.{
  is-All,
  is-AllOf,
  is-Value,
  is-Inner,
  is-Left,
  is-Cross,
  is-Table,
  is-TableAs,
  is-Subquery,
  is-From,
  is-GroupBy,
  is-Having,
  is-OrderKey,
  is-Select,
}
use Rattle.cq_reading_laws.proofs.WrittenExpressions.{IsExpr, IsTree, unary_gives, term_gives, negation_gives, and_chain_gives, or_chain_gives}

relation_is : (name : Name) (o : Option (Option ℕ × Name)) → IsTrue written_relation (node.relation_of name o)
relation_is name None = is-Table name
relation_is name (Some (word, alias)) = is-TableAs name (is_some word) alias

order_is : (key : Expr) (o : Option (Kind × ℕ)) → IsExpr key → IsTrue written_order_key (node.order_key (key, o))
order_is key None h = is-OrderKey key None ∙ h
order_is key (Some (word, at)) h = is-OrderKey key (Some (node.direction_of word)) ∙ h

-- ---- rules

module _ (lower : ℕ → (d : Deeper) → Lang (Tree d)) (m : (n : ℕ) (d : Deeper) → Gives (lower n d) (IsTree d)) where
  all_of_gives : Gives (g.all_of lower) (IsTrue written_item)
  unfolding g.all_of
  all_of_gives = made_gives (IsTrue written_item) _ anything (λ c h. is-AllOf c.0)

  output_gives : Gives (g.output lower) (IsTrue written_item)
  unfolding g.output
  output_gives = made_gives (IsTrue written_item) _ (both_gives (or_chain_gives lower m) anything) (λ c h. is-Value c.0 c.1 ∙ h.0)

  select_item_gives : Gives (g.select_item lower) (IsTrue written_item)
  unfolding g.select_item
  select_item_gives = either_gives (made_gives (IsTrue written_item) _ anything (λ at h. is-All at)) (either_gives all_of_gives output_gives)

  table_gives : Gives (g.table lower) (IsTrue written_relation)
  unfolding g.table
  table_gives = made_gives (IsTrue written_relation) _ anything (λ c h. relation_is c.0 c.1)

  subquery_gives : Gives (g.subquery lower) (IsTrue written_relation)
  unfolding g.subquery
  subquery_gives =
      made_gives (IsTrue written_relation) _ (both_gives anything (both_gives (m 1 select) anything))
      (λ c h. is-Subquery c.1.0 (is_some c.1.1.1.0) c.1.1.1.1 c.0 ∙ h.1.0)

  relation_gives : Gives (g.relation lower) (IsTrue written_relation)
  unfolding g.relation
  relation_gives = either_gives table_gives subquery_gives

  on_gives : Gives (g.on lower) IsExpr
  unfolding g.on
  on_gives = behind_gives (or_chain_gives lower m)

  inner_join_gives : Gives (g.inner_join lower) (IsTrue written_join)
  unfolding g.inner_join
  inner_join_gives =
      made_gives (IsTrue written_join) _ (both_gives anything (both_gives anything (both_gives relation_gives on_gives)))
      (λ c h. is-Inner (is_some c.0) c.1.1.0 c.1.1.1 (node.first_place c.0 c.1.0) ∙ both_true h.1.1.0 h.1.1.1)

  left_join_gives : Gives (g.left_join lower) (IsTrue written_join)
  unfolding g.left_join
  left_join_gives =
      made_gives (IsTrue written_join) _ (both_gives anything (both_gives anything (both_gives anything (both_gives relation_gives on_gives))))
      (λ c h. is-Left (is_some c.1.0) c.1.1.1.0 c.1.1.1.1 c.0 ∙ both_true h.1.1.1.0 h.1.1.1.1)

  cross_join_gives : Gives (g.cross_join lower) (IsTrue written_join)
  unfolding g.cross_join
  cross_join_gives = made_gives (IsTrue written_join) _ (both_gives anything (behind_gives relation_gives)) (λ c h. is-Cross c.1 c.0 ∙ h.1)

  join_gives : Gives (g.join lower) (IsTrue written_join)
  unfolding g.join
  join_gives = either_gives inner_join_gives (either_gives left_join_gives cross_join_gives)

  from_item_gives : Gives (g.from_item lower) (IsTrue written_from)
  unfolding g.from_item
  from_item_gives =
      made_gives (IsTrue written_from) _ (both_gives relation_gives (many_gives (λ i. join_gives) 0))
      (λ c h. is-From c.0 c.1 ∙ both_true h.0 (all_true written_join c.1 h.1))

  pub filter_gives : Gives (g.filter lower) (IfThere IsExpr)
  unfolding g.filter
  filter_gives = optional_gives (behind_gives (or_chain_gives lower m))

  group_by_gives : Gives (g.group_by lower) (IsTrue written_group_by)
  unfolding g.group_by
  group_by_gives =
      made_gives (IsTrue written_group_by) _ (both_gives anything (behind_gives (commas_give (λ i. or_chain_gives lower m))))
      (λ c h. is-GroupBy c.1 c.0 ∙ all_of_some written_expr c.1 h.1)

  having_gives : Gives (g.having lower) (IsTrue written_having)
  unfolding g.having
  having_gives = made_gives (IsTrue written_having) _ (both_gives anything (or_chain_gives lower m)) (λ c h. is-Having c.1 c.0 ∙ h.1)

  order_key_gives : Gives (g.order_key lower) (IsTrue written_order_key)
  unfolding g.order_key
  order_key_gives = made_gives (IsTrue written_order_key) node.order_key (both_gives (or_chain_gives lower m) anything) (λ c h. order_is c.0 c.1 h.0)

  order_by_gives : Gives (g.order_by lower) (AllByRecursion (IsTrue written_order_key))
  unfolding g.order_by
  order_by_gives = or_none_gives (behind_gives (behind_gives (commas_give (λ i. order_key_gives))))

  select_list_gives : Gives (g.select_list lower) (λ c. Some-of-them (IsTrue written_item) c.1.1)
  unfolding g.select_list
  select_list_gives = weaker _ (both_gives anything (both_gives anything (commas_give (λ i. select_item_gives)))) (λ c h. h.1.1)

  selection_gives : Gives (g.selection lower) (λ c. Some-of-them (IsTrue written_item) c.0.1.1 × (Some-of-them (IsTrue written_from) c.1.0 × IfThere IsExpr c.1.1))
  unfolding g.selection
  selection_gives = both_gives select_list_gives (both_gives (behind_gives (commas_give (λ i. from_item_gives))) filter_gives)

  grouping_gives : Gives (g.grouping lower) (λ c. IfThere (IsTrue written_group_by) c.0 × IfThere (IsTrue written_having) c.1)
  unfolding g.grouping
  grouping_gives = both_gives (optional_gives group_by_gives) (optional_gives having_gives)

  ordering_gives : Gives (g.ordering lower) (λ c. AllByRecursion (IsTrue written_order_key) c.0)
  unfolding g.ordering
  ordering_gives = weaker _ (both_gives order_by_gives anything) (λ c h. h.0)

  pub selected_gives : Gives (g.selected lower) (IsTrue written_select)
  unfolding g.selected
  selected_gives =
      made_gives (IsTrue written_select) _ (both_gives selection_gives (both_gives grouping_gives ordering_gives))
      (λ c h.
      is-Select (is_some c.0.0.1.0) c.0.0.1.1 c.0.1.0 c.0.1.1 c.1.0.0 c.1.0.1 c.1.1.0 c.1.1.1.0 c.1.1.1.1 c.0.0.0
      ∙ both_true (both_true (both_true (both_true (both_true (all_of_some written_item c.0.0.1.1 h.0.0) (some_true written_from c.0.1.0 h.0.1.0)) (there_true written_expr c.0.1.1 h.0.1.1))
      (there_true written_group_by c.1.0.0 h.1.0.0)) (there_true written_having c.1.0.1 h.1.0.1)) (all_true written_order_key c.1.1.0 h.1.1))

  phrase_gives : (d : Deeper) → Gives (g.phrase lower d) (IsTree d)
  phrase_gives (expr or_) = or_chain_gives lower m
  phrase_gives (expr and_) = and_chain_gives lower m
  phrase_gives (expr not_) = negation_gives lower m
  phrase_gives (expr term_) = term_gives lower m
  phrase_gives (expr unary_) = unary_gives lower m
  phrase_gives select = selected_gives

pub below_gives : (left n : ℕ) (d : Deeper) → Gives (below left n d) (IsTree d)
below_gives zero n d = empty_gives (IsTree d)
below_gives (suc left) zero d = empty_gives (IsTree d)
below_gives (suc left) (suc zero) d = phrase_gives (below left) (below_gives left) d
below_gives (suc left) (suc (suc n)) d = below_gives left (suc n) d

pub upto_gives : (height : ℕ) (d : Deeper) → Gives (upto height d) (IsTree d)
upto_gives zero d = empty_gives (IsTree d)
upto_gives (suc height) d = phrase_gives (λ n. upto height) (λ n. upto_gives height) d
