-- What a text spells is a tree as the grammar gives it, as far as the engine relies on it.
use Rattle.std.specs.Prelude.{◌≡◌, ℕ, true, ⊤, List, Ok}
use Rattle.std.specs.List.{AllByRecursion}
use Rattle.cq_token.specs.declared.token.Token.{Token}
use Rattle.cq_token.specs.Tokens.{tokens}
use Rattle.cq_grammar.specs.declared.query.Query.{Query}
use Rattle.cq_grammar.specs.declared.statement.Ast.{Ast}
use Rattle.cq_grammar.specs.declared.statement.Ast.TheVariants as ast
use Rattle.cq_grammar.specs.declared.statement.RowValues.{RowValues}
use Rattle.cq_grammar.specs.Verdicts.{Accepted}
use Rattle.cq_reading_laws.specs.Written.{written_expr, written_select}
use Rattle.cq_reading_laws.specs.QueryLaws.{written_tables}
use Rattle.cq_reading_laws.specs.WriteLaws.{written_sets, written_filter}

abbrev pub IsWrittenQuery : Query → Type 0
IsWrittenQuery x = (written_tables x.tables ≡ true) × (written_select x.select ≡ true)

-- each value of the row is written
abbrev pub IsWrittenRow : RowValues → Type 0
IsWrittenRow row = AllByRecursion (λ x. written_expr x ≡ true) row.values

-- a statement whose trees are all written
abbrev pub IsWritten : Ast → Type 0
IsWritten (ast.Create name columns key at) = ⊤
IsWritten (ast.Insert table columns rows at) = AllByRecursion IsWrittenRow rows
IsWritten (ast.Update table sets filter at) = (written_sets sets ≡ true) × (written_filter filter ≡ true)
IsWritten (ast.Delete table filter at) = written_filter filter ≡ true
IsWritten (ast.Copy table columns spelled options at) = ⊤
IsWritten (ast.Set space name spelled value at) = ⊤
IsWritten (ast.Explain query at) = IsWrittenQuery query
IsWritten (ast.Call function arguments at) = ⊤
IsWritten (ast.Query query) = IsWrittenQuery query

-- what a text's tokens spell is written
abbrev pub TextsAreWritten : Type 0
TextsAreWritten = (text : List ℕ) (ts : List Token) (a : Ast) → tokens text ≡ Ok ts → Accepted a ts → IsWritten a
