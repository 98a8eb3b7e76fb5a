-- What a text spells is written.
use Rattle.std.proofs.Common.{◌≡◌, ℕ, List, [], ◌∷◌, true, Option, Some, None, refl}
use Rattle.std.specs.List.{AllByRecursion}
use Rattle.cq_token.specs.declared.token.Token.{Token}
use Rattle.cq_token.proofs.Made.{AllMade, tokens_made}
use Rattle.cq_grammar.specs.declared.rule.Rule.TheVariants.{Or as or_}
use Rattle.cq_grammar.specs.declared.expr.Expr.{Expr}
use Rattle.cq_grammar.specs.declared.query.CommonTable.{CommonTable}
use Rattle.cq_grammar.specs.declared.statement.Ast.{Ast}
use Rattle.cq_grammar.specs.declared.statement.SetClause.{SetClause}
use Rattle.cq_grammar.specs.Lang.{Lang}
use Rattle.cq_grammar.specs.Grammar.{Deeper, expr, select, Tree, below}
use Rattle.cq_grammar.specs.Statements as r
use Rattle.cq_grammar.specs.Statements.{Shallow, max_depth}
use Rattle.cq_grammar.specs.Verdicts.{Accepted}
use Rattle.cq_reading_laws.specs.Written.{written_expr, written_select}
use Rattle.cq_reading_laws.specs.WriteLaws.{written_filter}
use Rattle.cq_reading_laws.specs.WrittenLaws.{IsWrittenQuery, IsWrittenRow, IsWritten, TextsAreWritten}
use Rattle.cq_reading_laws.proofs.WrittenPieces.{Gives, IfThere, Some-of-them, anything, both_gives, made_gives, either_gives, behind_gives, commas_give, or_none_gives}
use Rattle.cq_reading_laws.proofs.WrittenTruths.{IsTrue, all_true, all_of_some}
use Rattle.cq_reading_laws.proofs.WrittenExpressions.{IsExpr, IsTree, or_chain_gives}
use Rattle.cq_reading_laws.proofs.WrittenSelects.{filter_gives, selected_gives, below_gives}

-- one or more are all so
each : {A : Type 0} (F : A → Type 0) (l : List A) → Some-of-them F l → AllByRecursion F l
each F [] h = absurd h
each F (a ∷ more) h = h

filter_is : (o : Option Expr) → IfThere IsExpr o → written_filter o ≡ true
filter_is None h = refl
filter_is (Some a) h = h

abbrev IsTable : CommonTable → Type 0
IsTable = IsTrue (λ (c : CommonTable). written_select c.select)

abbrev IsSet : SetClause → Type 0
IsSet = IsTrue (λ (s : SetClause). written_expr s.value)

module _ (lower : ℕ → (d : Deeper) → Lang (Tree d)) (m : (n : ℕ) (d : Deeper) → Gives (lower n d) (IsTree d)) where
  row_values_gives : Gives (r.row_values lower) IsWrittenRow
  unfolding r.row_values
  row_values_gives = made_gives IsWrittenRow _ (both_gives anything (both_gives (commas_give (λ i. m 1 (expr or_))) anything)) (λ c h. each IsExpr c.1.0 h.1.0)

  insert_gives : Gives (r.insert lower) IsWritten
  unfolding r.insert
  insert_gives =
      made_gives IsWritten _ (both_gives anything (both_gives anything (both_gives anything (behind_gives (commas_give (λ i. row_values_gives))))))
      (λ c h. each IsWrittenRow c.1.1.1 h.1.1.1)

  set_clause_gives : Gives (r.set_clause lower) IsSet
  unfolding r.set_clause
  set_clause_gives = made_gives IsSet _ (both_gives anything (behind_gives (or_chain_gives lower m))) (λ c h. h.1)

  update_gives : Gives (r.update lower) IsWritten
  unfolding r.update
  update_gives =
      made_gives IsWritten _ (both_gives anything (both_gives anything (both_gives (behind_gives (commas_give (λ i. set_clause_gives))) (filter_gives lower m))))
      (λ c h. (all_of_some (λ (s : SetClause). written_expr s.value) c.1.1.0 h.1.1.0, filter_is c.1.1.1 h.1.1.1))

  delete_gives : Gives (r.delete lower) IsWritten
  unfolding r.delete
  delete_gives = made_gives IsWritten _ (both_gives anything (both_gives anything (filter_gives lower m))) (λ c h. filter_is c.1.1 h.1.1)

  common_table_gives : Gives (r.common_table lower) IsTable
  unfolding r.common_table
  common_table_gives = made_gives IsTable _ (both_gives anything (both_gives anything (both_gives (m 1 select) anything))) (λ c h. h.1.1.0)

  common_tables_gives : Gives (r.common_tables lower) (AllByRecursion IsTable)
  unfolding r.common_tables
  common_tables_gives = or_none_gives (behind_gives (commas_give (λ i. common_table_gives)))

  query_gives : Gives (r.query lower) IsWrittenQuery
  unfolding r.query
  query_gives =
      made_gives IsWrittenQuery _ (both_gives common_tables_gives (selected_gives lower m))
      (λ c h. (all_true (λ (t : CommonTable). written_select t.select) c.0 h.0, h.1))

  explain_gives : Gives (r.explain lower) IsWritten
  unfolding r.explain
  explain_gives = made_gives IsWritten _ (both_gives anything query_gives) (λ c h. h.1)

  create_gives : Gives r.create IsWritten
  unfolding r.create
  create_gives = made_gives IsWritten _ anything (λ c h. tt)

  copy_gives : Gives r.copy IsWritten
  unfolding r.copy
  copy_gives = made_gives IsWritten _ anything (λ c h. tt)

  set_gives : Gives r.set IsWritten
  unfolding r.set
  set_gives = made_gives IsWritten _ anything (λ c h. tt)

  call_gives : Gives r.call IsWritten
  unfolding r.call
  call_gives = made_gives IsWritten _ anything (λ c h. tt)

  pub statement_gives : Gives (r.statement lower) IsWritten
  unfolding r.statement
  statement_gives =
      either_gives create_gives (either_gives insert_gives (either_gives update_gives (either_gives delete_gives (either_gives copy_gives (either_gives set_gives
      (either_gives explain_gives (either_gives call_gives (made_gives IsWritten _ query_gives (λ q h. h)))))))))

-- a statement that tokens of a text spell is written
pub accepted_written : (a : Ast) (ts : List Token) → AllMade ts → Accepted a ts → IsWritten a
accepted_written a ts made p = (statement_gives (below max_depth) (below_gives max_depth)).holds a ts made p.shallow

pub texts_written : TextsAreWritten
texts_written text ts a is p = accepted_written a ts (tokens_made text ts is) p
