-- The rules of expressions give written ones, where what may stand deeper is written.
use Rattle.std.proofs.Common.{◌≡◌, ℕ, ◌+◌, List, [], ◌∷◌, true, Option, Some, None, is_some, ◌∙◌}
use Rattle.std.specs.List.{AllByRecursion}
use Rattle.cq_grammar.specs.declared.kind.Kind.{Kind}
use Rattle.cq_grammar.specs.declared.name.Name.{Name}
use Rattle.cq_grammar.specs.declared.expr.Expr.{Expr}
use Rattle.cq_grammar.specs.declared.expr.Test.{Test}
use Rattle.cq_grammar.specs.declared.expr.Chained.{Chained}
use Rattle.cq_grammar.specs.declared.expr.Added.{Added}
use Rattle.cq_grammar.specs.declared.expr.Multiplied.{Multiplied}
use Rattle.cq_grammar.specs.declared.expr.NullTest.{NullTest}
use Rattle.cq_grammar.specs.declared.expr.Expr.TheVariants as e
use Rattle.cq_grammar.specs.declared.expr.Aggregate.TheVariants as aggregates
use Rattle.cq_grammar.specs.Lang.{Lang}
use Rattle.cq_grammar.specs.Grammar as g
use Rattle.cq_grammar.specs.declared.rule.Rule.TheVariants.{Or as or_, And as and_, Not as not_, Term as term_, Unary as unary_}
use Rattle.cq_grammar.specs.Grammar.{Deeper, expr, select, Tree, digits}
use Rattle.cq_grammar.specs.Nodes as node
use Rattle.cq_reading_laws.specs.Written.{written_expr, written_test, written_added, written_arm, written_chained, written_multiplied, written_select}
use Rattle.cq_reading_laws.proofs.WrittenPieces.{Gives, IfThere, anything, weaker, both_gives, made_gives, either_gives, many_gives, optional_gives, behind_gives, several_gives, commas_give}
use Rattle.cq_reading_laws.proofs.WrittenNumbers.{number_gives}
use Rattle.cq_reading_laws.proofs.WrittenTruths.{IsTrue, both_true, all_true, some_true, all_of_some, there_true}
use Rattle.cq_reading_laws.proofs.WrittenNodes.{
  is-Or,
  is-And,
  is-Not,
  is-Is,
  is-Compare,
  is-Tested,
  is-Sum,
  is-Product,
  is-Signed,
  is-Number,
  is-Quoted,
  is-Null,
  is-Column,
  is-ColumnOf,
  is-Group,
  is-Case,
  is-Coalesce,
  is-CountAll,
  is-Aggregate,
  is-InSelect,
  is-InList,
  is-Between,
  is-Chained,
  is-Added,
  is-Multiplied,
  is-Arm,
}

abbrev pub IsExpr : Expr → Type 0
IsExpr = IsTrue written_expr

abbrev pub GivesExpr : Lang Expr → Type 0
GivesExpr P = Gives P IsExpr

-- what may stand deeper is written
abbrev pub IsTree : (d : Deeper) → Tree d → Type 0
IsTree (expr rule) = IsTrue written_expr
IsTree select = IsTrue written_select

-- ---- nodes

column_is : (name : Name) (more : Option Name) → IsExpr (node.column_of name more)
column_is name None = is-Column name
column_is name (Some c) = is-ColumnOf name c

count_is : (at : ℕ) (o : Option Expr) → IfThere IsExpr o → IsExpr (node.count_of_rows at o)
count_is at None h = is-CountAll at
count_is at (Some a) h = is-Aggregate aggregates.Count a at ∙ h

product_is : (first : Expr) (more : List Multiplied) → IsExpr first → AllByRecursion (IsTrue written_multiplied) more → IsExpr (node.product_of first more)
product_is first [] h k = h
product_is first (a ∷ more) h k = is-Product first (a ∷ more) ∙ both_true h (all_true written_multiplied (a ∷ more) k)

sum_is : (first : Expr) (more : List Added) → IsExpr first → AllByRecursion (IsTrue written_added) more → IsExpr (node.sum_of first more)
sum_is first [] h k = h
sum_is first (a ∷ more) h k = is-Sum first (a ∷ more) ∙ both_true h (all_true written_added (a ∷ more) k)

nulls_is : (first : Expr) (more : List NullTest) → IsExpr first → IsExpr (node.null_tests first more)
nulls_is first [] h = h
nulls_is first (a ∷ more) h = is-Is first (a ∷ more) ∙ h

and_is : (first : Expr) (more : List Chained) → IsExpr first → AllByRecursion (IsTrue written_chained) more → IsExpr (node.chain e.And first more)
and_is first [] h k = h
and_is first (a ∷ more) h k = is-And first (a ∷ more) ∙ both_true h (all_true written_chained (a ∷ more) k)

or_is : (first : Expr) (more : List Chained) → IsExpr first → AllByRecursion (IsTrue written_chained) more → IsExpr (node.chain e.Or first more)
or_is first [] h k = h
or_is first (a ∷ more) h k = is-Or first (a ∷ more) ∙ both_true h (all_true written_chained (a ∷ more) k)

abbrev IsAsked : Option ℕ × (ℕ × Test) → Type 0
IsAsked c = written_test c.1.1 ≡ true

tested_is : (operand : Expr) (o : Option (Option ℕ × (ℕ × Test))) → IsExpr operand → IfThere IsAsked o → IsExpr (node.tested operand o)
tested_is operand None h k = h
tested_is operand (Some (n, (at, test))) h k = is-Tested operand (is_some n) test (node.first_place n at) ∙ both_true h k

abbrev IsCompared : (Kind × ℕ) × Expr → Type 0
IsCompared c = IsExpr c.1

compared_is : (left : Expr) (o : Option ((Kind × ℕ) × Expr)) → IsExpr left → IfThere IsCompared o → IsExpr (node.compared left o)
compared_is left None h k = h
compared_is left (Some ((i, at), right)) h k = is-Compare left (node.comparison_operator i) right at ∙ both_true h k

-- ---- rules

module _ (lower : ℕ → (d : Deeper) → Lang (Tree d)) (m : (n : ℕ) (d : Deeper) → Gives (lower n d) (IsTree d)) where
  literal_gives : GivesExpr (g.literal lower)
  unfolding g.literal
  literal_gives =
      either_gives (made_gives IsExpr _ number_gives (λ n h. is-Number n.value n.at ∙ h))
      (either_gives (made_gives IsExpr _ anything (λ t h. is-Quoted t.text t.at)) (made_gives IsExpr _ anything (λ at h. is-Null at)))

  column_gives : GivesExpr (g.column lower)
  unfolding g.column
  column_gives = made_gives IsExpr _ anything (λ c h. column_is c.0 c.1)

  group_gives : GivesExpr (g.group lower)
  unfolding g.group
  group_gives = made_gives IsExpr _ (both_gives anything (both_gives (m 1 (expr or_)) anything)) (λ c h. is-Group c.1.0 c.0 ∙ h.1.0)

  arm_gives : Gives (g.arm lower) (IsTrue written_arm)
  unfolding g.arm
  arm_gives = made_gives (IsTrue written_arm) _ (both_gives (behind_gives (m 1 (expr or_))) (behind_gives (m 1 (expr or_)))) (λ c h. is-Arm c.0 c.1 ∙ both_true h.0 h.1)

  case_gives : GivesExpr (g.case lower)
  unfolding g.case g.otherwise
  case_gives =
      made_gives IsExpr _ (both_gives anything (both_gives (several_gives (λ i. arm_gives)) (both_gives (optional_gives (behind_gives (m 1 (expr or_)))) anything)))
      (λ c h. is-Case c.1.0 c.1.1.0 c.0 ∙ both_true (all_of_some written_arm c.1.0 h.1.0) (there_true written_expr c.1.1.0 h.1.1.0))

  coalesce_gives : GivesExpr (g.coalesce lower)
  unfolding g.coalesce
  coalesce_gives =
      made_gives IsExpr _ (both_gives anything (both_gives anything (both_gives (commas_give (λ i. m 1 (expr or_))) anything)))
      (λ c h. is-Coalesce c.1.1.0 c.0 ∙ some_true written_expr c.1.1.0 h.1.1.0)

  counted_gives : Gives (g.counted lower) (IfThere IsExpr)
  unfolding g.counted
  counted_gives = either_gives (made_gives (IfThere IsExpr) _ anything (λ a h. tt)) (made_gives (IfThere IsExpr) _ (m 1 (expr or_)) (λ a h. h))

  count_gives : GivesExpr (g.count lower)
  unfolding g.count
  count_gives = made_gives IsExpr _ (both_gives anything (both_gives anything (both_gives counted_gives anything))) (λ c h. count_is c.0 c.1.1.0 h.1.1.0)

  aggregate_gives : GivesExpr (g.aggregate lower)
  unfolding g.aggregate
  aggregate_gives =
      made_gives IsExpr _ (both_gives anything (both_gives anything (both_gives (m 1 (expr or_)) anything)))
      (λ c h. is-Aggregate (node.aggregate_function c.0.0) c.1.1.0 c.0.1 ∙ h.1.1.0)

  atom_gives : GivesExpr (g.atom lower)
  unfolding g.atom
  atom_gives =
      either_gives literal_gives (either_gives column_gives (either_gives group_gives (either_gives case_gives
      (either_gives coalesce_gives (either_gives count_gives aggregate_gives)))))

  -- ---- signs

  signed_gives : GivesExpr (g.signed lower)
  unfolding g.signed
  signed_gives = made_gives IsExpr _ (both_gives anything (m 1 (expr unary_))) (λ c h. is-Signed (node.add_operator c.0.0) c.1 c.0.1 ∙ h.1)

  pub unary_gives : GivesExpr (g.unary lower)
  unfolding g.unary
  unary_gives = either_gives signed_gives atom_gives

  multiplied_gives : (i : ℕ) → Gives (g.multiplied lower i) (IsTrue written_multiplied)
  unfolding g.multiplied
  multiplied_gives i =
      made_gives (IsTrue written_multiplied) _ (both_gives anything (m i (expr unary_))) (λ c h. is-Multiplied (node.multiply_operator c.0.0) c.1 c.0.1 ∙ h.1)

  pub term_gives : GivesExpr (g.term lower)
  unfolding g.term
  term_gives = made_gives IsExpr _ (both_gives unary_gives (many_gives multiplied_gives 1)) (λ c h. product_is c.0 c.1 h.0 h.1)

  added_gives : (i : ℕ) → Gives (g.added lower i) (IsTrue written_added)
  unfolding g.added
  added_gives i = made_gives (IsTrue written_added) _ (both_gives anything (m i (expr term_))) (λ c h. is-Added (node.add_operator c.0.0) c.1 c.0.1 ∙ h.1)

  sum_gives : GivesExpr (g.sum lower)
  unfolding g.sum
  sum_gives = made_gives IsExpr _ (both_gives term_gives (many_gives added_gives 1)) (λ c h. sum_is c.0 c.1 h.0 h.1)

  -- ---- conditions

  in_what_gives : Gives (g.in_what lower) (IsTrue written_test)
  unfolding g.in_what
  in_what_gives =
      either_gives (made_gives (IsTrue written_test) _ (m 1 select) (λ a h. is-InSelect a ∙ h))
      (made_gives (IsTrue written_test) _ (commas_give (λ i. m (1 + digits i) (expr or_))) (λ l h. is-InList l ∙ all_of_some written_expr l h))

  abbrev IsTestAt : ℕ × Test → Type 0
  IsTestAt c = written_test c.1 ≡ true

  in_test_gives : Gives (g.in_test lower) IsTestAt
  unfolding g.in_test
  in_test_gives = made_gives IsTestAt _ (both_gives anything (both_gives anything (both_gives in_what_gives anything))) (λ c h. h.1.1.0)

  between_test_gives : Gives (g.between_test lower) IsTestAt
  unfolding g.between_test
  between_test_gives = made_gives IsTestAt _ (both_gives anything (both_gives sum_gives (behind_gives sum_gives))) (λ c h. is-Between c.1.0 c.1.1 ∙ both_true h.1.0 h.1.1)

  test_gives : Gives (g.test lower) IsAsked
  unfolding g.test
  test_gives = weaker IsAsked (both_gives anything (either_gives in_test_gives between_test_gives)) (λ c h. h.1)

  tested_gives : GivesExpr (g.tested lower)
  unfolding g.tested
  tested_gives = made_gives IsExpr _ (both_gives sum_gives (optional_gives test_gives)) (λ c h. tested_is c.0 c.1 h.0 h.1)

  comparison_gives : GivesExpr (g.comparison lower)
  unfolding g.comparison
  comparison_gives =
      made_gives IsExpr _ (both_gives tested_gives (optional_gives (weaker IsCompared (both_gives anything tested_gives) (λ c h. h.1)))) (λ c h. compared_is c.0 c.1 h.0 h.1)

  is_gives : GivesExpr (g.is lower)
  unfolding g.is
  is_gives = made_gives IsExpr _ (both_gives comparison_gives anything) (λ c h. nulls_is c.0 c.1 h.0)

  pub negation_gives : GivesExpr (g.negation lower)
  unfolding g.negation
  negation_gives = either_gives (made_gives IsExpr _ (both_gives anything (m 1 (expr not_))) (λ c h. is-Not c.1 c.0 ∙ h.1)) is_gives

  and_part_gives : (i : ℕ) → Gives (g.and_part lower i) (IsTrue written_chained)
  unfolding g.and_part
  and_part_gives i = made_gives (IsTrue written_chained) _ (both_gives anything (m (digits i) (expr not_))) (λ c h. is-Chained c.1 c.0 ∙ h.1)

  pub and_chain_gives : GivesExpr (g.and_chain lower)
  unfolding g.and_chain
  and_chain_gives = made_gives IsExpr _ (both_gives negation_gives (many_gives and_part_gives 1)) (λ c h. and_is c.0 c.1 h.0 h.1)

  or_part_gives : (i : ℕ) → Gives (g.or_part lower i) (IsTrue written_chained)
  unfolding g.or_part
  or_part_gives i = made_gives (IsTrue written_chained) _ (both_gives anything (m (digits i) (expr and_))) (λ c h. is-Chained c.1 c.0 ∙ h.1)

  pub or_chain_gives : GivesExpr (g.or_chain lower)
  unfolding g.or_chain
  or_chain_gives = made_gives IsExpr _ (both_gives and_chain_gives (many_gives or_part_gives 1)) (λ c h. or_is c.0 c.1 h.0 h.1)
