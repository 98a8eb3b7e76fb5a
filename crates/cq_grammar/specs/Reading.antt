-- The reader of statements, a step for each rule.
use Rattle.std.specs.Prelude.{ℕ, List, [], ◌∷◌, Option, Result, Ok, Err}
use Rattle.cq_token.specs.declared.token.Token.{Token}
use Rattle.cq_grammar.specs.Types.{Kind, Name, CommonTable, Query, Ast, ColumnDef, RowValues, SetClause, CopyOption, SettingValue, Literal, Argument}
use Rattle.cq_grammar.specs.declared.kind.Kind.TheVariants as k
use Rattle.cq_grammar.specs.declared.statement.Ast.TheVariants as ast
use Rattle.cq_grammar.specs.declared.statement.CopyOption.TheVariants as copies
use Rattle.cq_grammar.specs.declared.statement.SettingValue.TheVariants as settings
use Rattle.cq_grammar.specs.declared.statement.Literal.TheVariants as literals
use Rattle.cq_grammar.specs.Words.{names}
use Rattle.cq_grammar.specs.Nodes as node
use Rattle.cq_grammar.specs.Grammar.{Deeper, expr, select, Tree, or_}
use Rattle.cq_grammar.specs.Statements.{max_depth}
use Rattle.cq_grammar.specs.Read.{Reader, Outcome, Fault, bad, made, choice, many, optional, behind, comma_item, sees, sees_two, sees_three, ◌then◌}
use Rattle.cq_grammar.specs.Descent.{the, some_of, named, a_number, a_quoted, list, or_chain, selected, filter, below}

unfoldable pub name_list : Reader (List Name)
name_list = made (λ (_, (names, _)). names) (the k.Open then list (λ _. named names) then the k.Close)

unfoldable pub optional_names : Reader (List Name)
optional_names = made node.or_none (optional (sees (k.Open ∷ [])) name_list)

-- ---- CREATE TABLE, COPY, SET and calls

unfoldable pub primary_words : Reader (ℕ × ℕ)
primary_words = the k.Primary then the k.Key

unfoldable pub column_def : Reader ColumnDef
column_def = made node.column_def (named names then some_of node.type_words then optional (sees (k.Primary ∷ [])) primary_words)

unfoldable pub key_list : Reader (List Name)
key_list = behind (the k.Comma) (behind (the k.Primary) (behind (the k.Key) name_list))

unfoldable pub primary_key : Reader (List Name)
primary_key = made node.or_none (optional (sees (k.Comma ∷ [])) key_list)

-- a comma is followed by a column where a name comes behind it
abbrev pub column_defs : Reader (List ColumnDef)
column_defs = made (λ (first, more). first ∷ more) (column_def then many (sees_two (k.Comma ∷ []) names) (comma_item (the k.Comma) (λ _. column_def)) 1)

unfoldable pub table_columns : Reader (List ColumnDef × List Name)
table_columns = column_defs then primary_key

unfoldable pub create : Reader Ast
create = made (λ (at, (name, (_, ((columns, key), _)))). ast.Create name columns key at)
    (the k.Create then behind (the k.Table) (named names) then the k.Open then table_columns then the k.Close)

unfoldable pub format_option : Reader CopyOption
format_option = made node.format_option (the k.Format then some_of node.format_words)

unfoldable pub copy_option : Reader CopyOption
copy_option = choice (sees (k.Format ∷ [])) format_option (made copies.Header (the k.Header))

unfoldable pub option_list : Reader (Option ℕ × List CopyOption)
option_list = made (λ (word, (_, (options, _))). (word, options))
    (optional (sees (k.With ∷ [])) (the k.With) then the k.Open then list (λ _. copy_option) then the k.Close)

unfoldable pub copy_options : Reader (Option (Option ℕ × List CopyOption))
copy_options = optional (sees (k.With ∷ k.Open ∷ [])) option_list

unfoldable pub copy : Reader Ast
copy = made (λ (at, (table, (columns, options))). ast.Copy table columns (node.is_spelled options) (node.options_of options) at)
    (the k.Copy then named names then optional_names then behind (the k.From) (behind (the k.Stdin) copy_options))

unfoldable pub setting_value : Reader SettingValue
setting_value = choice (sees (k.Number ∷ [])) (made (λ n. settings.Number n.value n.at) a_number)
    (choice (sees (k.On ∷ [])) (made settings.On (the k.On))
    (made settings.Off (the k.Off)))

unfoldable pub set : Reader Ast
set = made (λ (at, (space, (name, ((word, _), value)))). ast.Set space name (node.is_to word) value at)
    (the k.Set then named names then behind (the k.Dot) (named names) then some_of node.setting_words then setting_value)

unfoldable pub argument_value : Reader Literal
argument_value = choice (sees (k.Quoted ∷ [])) (made (λ t. literals.Quoted t.text t.at) a_quoted) (made (λ n. literals.Number n.value n.at) a_number)

unfoldable pub argument_name : Reader Name
argument_name = made (λ (name, _). name) (named names then the k.Arrow)

unfoldable pub argument : Reader Argument
argument = made (λ (name, value). record { name = name; value = value }) (optional (sees names) argument_name then argument_value)

abbrev pub argument_words : List Kind
argument_words = k.Quoted ∷ k.Number ∷ names

unfoldable pub arguments : Reader (Option (List Argument))
arguments = optional (sees argument_words) (list (λ _. argument))

unfoldable pub call : Reader Ast
call = made (λ (at, (name, (_, (arguments, _)))). ast.Call name (node.or_none arguments) at)
    (the k.Select then named (k.Call ∷ []) then the k.Open then arguments then the k.Close)

-- ---- statements with expressions

module _ (lower : ℕ → (d : Deeper) → Reader (Tree d)) where
  unfoldable pub row_values : Reader RowValues
  row_values = made (λ (at, (values, _)). record { values = values; at = at }) (the k.Open then list (λ _. lower 1 (expr or_)) then the k.Close)

  unfoldable pub insert : Reader Ast
  insert = made (λ (at, (table, (columns, rows))). ast.Insert table columns rows at)
      (the k.Insert then behind (the k.Into) (named names) then optional_names then behind (the k.Values) (list (λ _. row_values)))

  unfoldable pub set_clause : Reader SetClause
  set_clause = made (λ (column, value). record { column = column; value = value }) (named names then behind (the k.Equal) (or_chain lower))

  unfoldable pub update : Reader Ast
  update = made (λ (at, (table, (sets, kept))). ast.Update table sets kept at)
      (the k.Update then named names then behind (the k.Set) (list (λ _. set_clause)) then filter lower)

  unfoldable pub delete : Reader Ast
  delete = made (λ (at, (table, kept)). ast.Delete table kept at) (the k.Delete then behind (the k.From) (named names) then filter lower)

  unfoldable pub common_table : Reader CommonTable
  common_table = made (λ (name, (_, (inner, _))). record { name = name; select = inner })
      (named names then behind (the k.As) (the k.Open) then lower 1 select then the k.Close)

  unfoldable pub common_tables : Reader (List CommonTable)
  common_tables = made node.or_none (optional (sees (k.With ∷ [])) (behind (the k.With) (list (λ _. common_table))))

  unfoldable pub query : Reader Query
  query = made (λ (tables, body). record { tables = tables; select = body }) (common_tables then selected lower)

  unfoldable pub explain : Reader Ast
  explain = made (λ (at, asked). ast.Explain asked at) (the k.Explain then query)

  unfoldable pub statement : Reader Ast
  statement = choice (sees (k.Create ∷ [])) create
      (choice (sees (k.Insert ∷ [])) insert
      (choice (sees (k.Update ∷ [])) update
      (choice (sees (k.Delete ∷ [])) delete
      (choice (sees (k.Copy ∷ [])) copy
      (choice (sees (k.Set ∷ [])) set
      (choice (sees (k.Explain ∷ [])) explain
      (choice (sees_three (k.Select ∷ []) (k.Call ∷ []) (k.Open ∷ [])) call
      (made ast.Query query))))))))

-- ---- a whole text

abbrev pub ended : Ast → List Token → Result Ast Fault
ended a [] = Ok a
ended a (t ∷ ts) = Err (bad (t ∷ ts))

abbrev pub ended_by : Outcome Ast → Result Ast Fault
ended_by (Ok p) = ended p.0 p.1
ended_by (Err e) = Err e

-- the statement that the tokens spell, or why and where the grammar stops
unfoldable pub written : List Token → Result Ast Fault
written ts = ended_by (statement (below max_depth) ts)
