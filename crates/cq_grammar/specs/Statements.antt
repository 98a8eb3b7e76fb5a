-- The grammar of statements, a definition for each rule, and where a text that is none goes wrong.
use Rattle.std.specs.Prelude.{◌≡◌, ℕ, ◌+◌, ◌<◌, ◌≤◌, List, [], ◌∷◌, ◌++◌, length, take, Contains, Option}
use Rattle.cq_token.specs.declared.token.Token.{Token}
use Rattle.cq_grammar.specs.declared.kind.Kind.TheVariants as k
use Rattle.cq_grammar.specs.Types.{Name, CommonTable, Query, Ast, ColumnDef, RowValues, SetClause, CopyOption, SettingValue, Literal, Argument}
use Rattle.cq_grammar.specs.declared.statement.Ast.TheVariants as ast
use Rattle.cq_grammar.specs.declared.statement.CopyOption.TheVariants as copies
use Rattle.cq_grammar.specs.declared.statement.SettingValue.TheVariants as settings
use Rattle.cq_grammar.specs.declared.statement.Literal.TheVariants as literals
use Rattle.cq_grammar.specs.Lang.{Lang, One, Made, Optional, Behind, ◌then◌, ◌or◌}
use Rattle.cq_grammar.specs.Terminals.{The, Some-of, name_of, a_name, a_number, a_quoted, Commas}
use Rattle.cq_grammar.specs.Nodes as node
use Rattle.cq_grammar.specs.Grammar.{Deeper, expr, select, Tree, or_, or_chain, selected, filter, below, below_or, upto}

-- `( name, name .. )`
unfoldable pub name_list : Lang (List Name)
name_list = Made (λ (_, (names, _)). names) (The k.Open then Commas (λ _. a_name) then The k.Close)

-- the same, or nothing
unfoldable pub optional_names : Lang (List Name)
optional_names = Made node.or_none (Optional name_list)

-- ---- CREATE TABLE, COPY, SET and calls

unfoldable pub column_def : Lang ColumnDef
column_def = Made node.column_def (a_name then Some-of node.type_words then Optional (The k.Primary then The k.Key))

-- PRIMARY KEY and its columns behind a comma, or nothing
unfoldable pub primary_key : Lang (List Name)
primary_key = Made node.or_none (Optional (Behind (The k.Comma) (Behind (The k.Primary) (Behind (The k.Key) name_list))))

unfoldable pub table_columns : Lang (List ColumnDef × List Name)
table_columns = Commas (λ _. column_def) then primary_key

unfoldable pub create : Lang Ast
create = Made (λ (at, (name, (_, ((columns, key), _)))). ast.Create name columns key at)
    (The k.Create then Behind (The k.Table) a_name then The k.Open then table_columns then The k.Close)

unfoldable pub format_option : Lang CopyOption
format_option = Made node.format_option (The k.Format then Some-of node.format_words)

unfoldable pub copy_option : Lang CopyOption
copy_option = format_option or Made copies.Header (The k.Header)

unfoldable pub copy_options : Lang (Option (Option ℕ × List CopyOption))
copy_options = Optional (Made (λ (word, (_, (options, _))). (word, options)) (Optional (The k.With) then The k.Open then Commas (λ _. copy_option) then The k.Close))

unfoldable pub copy : Lang Ast
copy = Made (λ (at, (table, (columns, options))). ast.Copy table columns (node.is_spelled options) (node.options_of options) at)
    (The k.Copy then a_name then optional_names then Behind (The k.From) (Behind (The k.Stdin) copy_options))

unfoldable pub setting_value : Lang SettingValue
setting_value = Made (λ n. settings.Number n.value n.at) a_number or Made settings.On (The k.On) or Made settings.Off (The k.Off)

unfoldable pub set : Lang Ast
set = Made (λ (at, (space, (name, ((word, _), value)))). ast.Set space name (node.is_to word) value at)
    (The k.Set then a_name then Behind (The k.Dot) a_name then Some-of node.setting_words then setting_value)

unfoldable pub argument_value : Lang Literal
argument_value = Made (λ t. literals.Quoted t.text t.at) a_quoted or Made (λ n. literals.Number n.value n.at) a_number

unfoldable pub argument_name : Lang Name
argument_name = Made (λ (name, _). name) (a_name then The k.Arrow)

unfoldable pub argument : Lang Argument
argument = Made (λ (name, value). record { name = name; value = value }) (Optional argument_name then argument_value)

-- the name of a function that a statement may call
unfoldable pub function_name : Lang Name
function_name = Made name_of (One (k.Call ∷ []))

unfoldable pub call : Lang Ast
call = Made (λ (at, (name, (_, (arguments, _)))). ast.Call name (node.or_none arguments) at)
    (The k.Select then function_name then The k.Open then Optional (Commas (λ _. argument)) then The k.Close)

-- ---- statements with expressions

-- lower n d has the phrases of d where n of the depth is used
module _ (lower : ℕ → (d : Deeper) → Lang (Tree d)) where
  unfoldable pub row_values : Lang RowValues
  row_values = Made (λ (at, (values, _)). record { values = values; at = at }) (The k.Open then Commas (λ _. lower 1 (expr or_)) then The k.Close)

  unfoldable pub insert : Lang Ast
  insert = Made (λ (at, (table, (columns, rows))). ast.Insert table columns rows at)
      (The k.Insert then Behind (The k.Into) a_name then optional_names then Behind (The k.Values) (Commas (λ _. row_values)))

  unfoldable pub set_clause : Lang SetClause
  set_clause = Made (λ (column, value). record { column = column; value = value }) (a_name then Behind (The k.Equal) (or_chain lower))

  unfoldable pub update : Lang Ast
  update = Made (λ (at, (table, (sets, kept))). ast.Update table sets kept at)
      (The k.Update then a_name then Behind (The k.Set) (Commas (λ _. set_clause)) then filter lower)

  unfoldable pub delete : Lang Ast
  delete = Made (λ (at, (table, kept)). ast.Delete table kept at) (The k.Delete then Behind (The k.From) a_name then filter lower)

  unfoldable pub common_table : Lang CommonTable
  common_table = Made (λ (name, (_, (inner, _))). record { name = name; select = inner })
      (a_name then Behind (The k.As) (The k.Open) then lower 1 select then The k.Close)

  unfoldable pub common_tables : Lang (List CommonTable)
  common_tables = Made node.or_none (Optional (Behind (The k.With) (Commas (λ _. common_table))))

  unfoldable pub query : Lang Query
  query = Made (λ (tables, body). record { tables = tables; select = body }) (common_tables then selected lower)

  unfoldable pub explain : Lang Ast
  explain = Made (λ (at, asked). ast.Explain asked at) (The k.Explain then query)

  unfoldable pub statement : Lang Ast
  statement = create or insert or update or delete or copy or set or explain or call or Made ast.Query query

-- the greatest depth of a token
abbrev pub max_depth : ℕ
max_depth = 64

-- the statements of the grammar
abbrev pub Written : Lang Ast
Written a ts = (height : ℕ) × statement (λ _. upto height) a ts

-- those in which no depth is above the greatest
abbrev pub Shallow : Lang Ast
Shallow = statement (below max_depth)

-- ---- where a text goes wrong

-- some text of the language begins so
abbrev pub BeginsOne : Lang Ast → List Token → Type 0
BeginsOne P ts = (a : Ast) × (more : List Token) × P a (ts ++ more)

-- the text begins with one of these tokens
abbrev pub BeginsIn : List Token → List Token → Type 0
BeginsIn used [] = ⊥
BeginsIn used (t ∷ ts) = Contains used t

-- the phrases of at most this height that begin with none of these tokens
abbrev pub apart : List Token → ℕ → (d : Deeper) → Lang (Tree d)
apart used height d a ts = upto height d a ts × (BeginsIn used ts → ⊥)

-- the statements in which each phrase that is too deep begins with none of these tokens
abbrev pub Apart : List Token → ℕ → Lang Ast
Apart used height = statement (below_or (apart used height) max_depth)

-- some statement begins so, and none of these tokens is too deep: in it, whatever is too deep begins behind them
abbrev pub BeginsShallow : List Token → Type 0
BeginsShallow ts = (height : ℕ) × BeginsOne (Apart ts height) ts

-- the first n tokens begin a statement, and none of them is too deep; but no statement begins with these and the next, or ends where the tokens end
pub record GoesWrong (ts : List Token) (n : ℕ) : Type 0 where
  pub inside : n ≤ length ts
  pub fits : BeginsOne Written (take n ts)
  pub shallow : BeginsShallow (take n ts)
  pub next : n < length ts → BeginsOne Written (take (n + 1) ts) → ⊥
  pub end : n ≡ length ts → (a : Ast) → Written a ts → ⊥

-- the first token that is too deep; with it those before still begin a statement
pub record GoesDeep (ts : List Token) (n : ℕ) : Type 0 where
  pub inside : n < length ts
  pub fits : BeginsOne Written (take (n + 1) ts)
  pub before : BeginsShallow (take n ts)
  pub deep : BeginsShallow (take (n + 1) ts) → ⊥
