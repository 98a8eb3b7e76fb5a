-- What the rules of statements keep: a statement's tokens are its spelling, and other tokens that say the same spell the same
-- statement but for its places.
use Rattle.std.proofs.Common.{◌≡◌, ℕ, List, [], ◌∷◌, ◌++◌, codes, map, Bool, true, false, inl, inr, Option, Some, None, is_some, refl, sym, ap, subst}
use Rattle.cq_token.specs.declared.token.Token.{Token}
use Rattle.cq_token.specs.declared.token.TokenKind.{TokenKind}
use Rattle.cq_token.specs.declared.token.TokenKind.TheVariants as token
use Rattle.cq_token.specs.declared.sign.Sign.TheVariants as s
use Rattle.cq_grammar.specs.Types.{Kind, Name, Expr, CommonTable, Ast, CopyOption, Argument}
use Rattle.cq_grammar.specs.declared.kind.Kind.TheVariants as k
use Rattle.cq_grammar.specs.declared.rule.Rule.TheVariants.{Or as or_}
use Rattle.cq_grammar.specs.declared.statement.Ast.TheVariants as ast
use Rattle.cq_grammar.specs.declared.statement.CopyOption.TheVariants as copies
use Rattle.cq_grammar.specs.declared.statement.SettingValue.TheVariants as settings
use Rattle.cq_grammar.specs.declared.statement.Literal.TheVariants as literals
use Rattle.cq_grammar.specs.Words.{of, same_kind}
use Rattle.cq_grammar.specs.Lang.{Lang, Both, Made, Optional}
use Rattle.cq_grammar.specs.Terminals.{The, Some-of, Commas}
use Rattle.cq_grammar.specs.Grammar as g
use Rattle.cq_grammar.specs.Grammar.{Deeper, expr, select, Tree, below, upto}
use Rattle.cq_grammar.specs.Nodes as node
use Rattle.cq_grammar.specs.Statements as r
use Rattle.cq_grammar.specs.Statements.{max_depth, Written, Shallow}
use Rattle.cq_grammar.specs.Spelling.{Kinds, word, sign, named, commas, in_brackets, list_behind, type_word, expr_spelling, names_spelling, column_def_spelling, primary_key_spelling, row_values_spelling, set_clause_spelling, filter_spelling, copy_option_spelling, copy_options_spelling, to_spelling, setting_value_spelling, literal_spelling, argument_name_spelling, argument_spelling, common_table_spelling, query_spelling, spelling}
use Rattle.cq_grammar.specs.Bare.{bare_name, if_any, bare_expr, bare_column_def, bare_row_values, bare_set_clause, bare_copy_option, bare_setting_value, bare_literal, bare_argument, bare_common_table, bare_query, bare}
use Rattle.cq_grammar.proofs.Letters.{says_word, says_sign}
use Rattle.cq_grammar.proofs.Terms.{the_word, the_sign, some_keeps, name_keeps, a_name_keeps, number_keeps, quoted_keeps}
use Rattle.cq_grammar.proofs.Keeping.{kinds_of, Keeps, made_keeps, both_keeps, either_keeps, optional_keeps, behind_keeps, commas_keep, if_known}
use Rattle.cq_grammar.proofs.SpelledExpressions.{KeepsThe, comma, opening, closing, dot, written_known, no_place, still_some, spelling_of, bare_of, or_chain_keeps}
use Rattle.cq_grammar.proofs.SpelledSelects.{as_, select_, from_, on, IsSome, commas_some, behind_some, or_none_keeps, keeps_as, phrases_keep_as, filter_keeps, selected_keeps, below_keeps, upto_keeps}

create_ : KeepsThe k.Create (word (codes "create"))
unfolding of same_kind
create_ = the_word k.Create (codes "create") refl refl refl refl

table_ : KeepsThe k.Table (word (codes "table"))
unfolding of same_kind
table_ = the_word k.Table (codes "table") refl refl refl refl

insert_ : KeepsThe k.Insert (word (codes "insert"))
unfolding of same_kind
insert_ = the_word k.Insert (codes "insert") refl refl refl refl

into_ : KeepsThe k.Into (word (codes "into"))
unfolding of same_kind
into_ = the_word k.Into (codes "into") refl refl refl refl

values_ : KeepsThe k.Values (word (codes "values"))
unfolding of same_kind
values_ = the_word k.Values (codes "values") refl refl refl refl

update_ : KeepsThe k.Update (word (codes "update"))
unfolding of same_kind
update_ = the_word k.Update (codes "update") refl refl refl refl

set_ : KeepsThe k.Set (word (codes "set"))
unfolding of same_kind
set_ = the_word k.Set (codes "set") refl refl refl refl

delete_ : KeepsThe k.Delete (word (codes "delete"))
unfolding of same_kind
delete_ = the_word k.Delete (codes "delete") refl refl refl refl

copy_ : KeepsThe k.Copy (word (codes "copy"))
unfolding of same_kind
copy_ = the_word k.Copy (codes "copy") refl refl refl refl

stdin_ : KeepsThe k.Stdin (word (codes "stdin"))
unfolding of same_kind
stdin_ = the_word k.Stdin (codes "stdin") refl refl refl refl

with_ : KeepsThe k.With (word (codes "with"))
unfolding of same_kind
with_ = the_word k.With (codes "with") refl refl refl refl

primary_ : KeepsThe k.Primary (word (codes "primary"))
unfolding of same_kind
primary_ = the_word k.Primary (codes "primary") refl refl refl refl

key_ : KeepsThe k.Key (word (codes "key"))
unfolding of same_kind
key_ = the_word k.Key (codes "key") refl refl refl refl

explain_ : KeepsThe k.Explain (word (codes "explain"))
unfolding of same_kind
explain_ = the_word k.Explain (codes "explain") refl refl refl refl

off_ : KeepsThe k.Off (word (codes "off"))
unfolding of same_kind
off_ = the_word k.Off (codes "off") refl refl refl refl

to_ : KeepsThe k.To (word (codes "to"))
unfolding of same_kind
to_ = the_word k.To (codes "to") refl refl refl refl

header_ : KeepsThe k.Header (word (codes "header"))
unfolding of same_kind
header_ = the_word k.Header (codes "header") refl refl refl refl

format_ : KeepsThe k.Format (word (codes "format"))
unfolding of same_kind
format_ = the_word k.Format (codes "format") refl refl refl refl

equal_ : KeepsThe k.Equal (sign s.Equal)
equal_ = the_sign s.Equal

type_words : Keeps (λ c. word (type_word (node.type_of c.0))) (λ c. (c.0, 0)) (Some-of node.type_words)
unfolding of same_kind
type_words =
    some_keeps node.type_words (λ i. token.Name (type_word (node.type_of i))) (
      says_word k.Bigint (codes "bigint") refl refl refl refl,
      (
        says_word k.Integer (codes "integer") refl refl refl refl,
        (says_word k.Int (codes "int") refl refl refl refl, (says_word k.Text (codes "text") refl refl refl refl, tt)),
      ),
    )

-- ---- lists of names

abbrev pub bracketed : List Name → Kinds
bracketed l = sign s.Open ++ (commas (map named l) ++ sign s.Close)

name_list_keeps : Keeps bracketed (map bare_name) r.name_list
unfolding r.name_list
name_list_keeps =
    made_keeps bracketed (map bare_name) (λ (_, (names, _)). names) (both_keeps opening (both_keeps (commas_keep comma (λ i. a_name_keeps)) closing))
    (λ c. refl) (λ c. refl)

name_list_some : (l : List Name) (ts : List Token) → r.name_list l ts → IsSome l
unfolding r.name_list
name_list_some l ts p = subst (λ i. IsSome i) (sym p.is) (commas_some _ p.from.1.0 p.phrase.right.front p.phrase.right.left)

optional_names_keeps : Keeps names_spelling (map bare_name) r.optional_names
unfolding r.optional_names
optional_names_keeps = or_none_keeps names_spelling name_list_some refl (λ a more. refl) name_list_keeps

-- ---- CREATE TABLE

column_def_keeps : Keeps column_def_spelling bare_column_def r.column_def
unfolding r.column_def
column_def_keeps =
    made_keeps column_def_spelling bare_column_def node.column_def (both_keeps a_name_keeps (both_keeps type_words (optional_keeps (both_keeps primary_ key_))))
    (λ c. ap (λ i. named c.0 ++ (word (type_word (node.type_of c.1.0.0)) ++ i)) (written_known (word (codes "primary") ++ word (codes "key")) c.1.1))
    (λ c. ap (λ b. record { name = bare_name c.0; type_name = node.type_of c.1.0.0; primary = b }) (still_some (λ at. (0, 0)) c.1.1))

primary_key_keeps : Keeps primary_key_spelling (map bare_name) r.primary_key
unfolding r.primary_key
primary_key_keeps =
    or_none_keeps primary_key_spelling (behind_some _ _ (behind_some _ _ (behind_some _ _ name_list_some))) refl (λ a more. refl)
    (behind_keeps comma (behind_keeps primary_ (behind_keeps key_ name_list_keeps)))

abbrev AstKeeps : Lang Ast → Type 0
AstKeeps = Keeps spelling bare

create_keeps : AstKeeps r.create
unfolding r.create r.table_columns spelling bare
create_keeps =
    made_keeps spelling bare (λ (at, (name, (_, ((columns, key), _)))). ast.Create name columns key at)
    (both_keeps create_ (both_keeps (behind_keeps table_ a_name_keeps) (both_keeps opening (both_keeps (both_keeps (commas_keep comma (λ i. column_def_keeps)) primary_key_keeps) closing))))
    (λ c. refl) (λ c. refl)

-- ---- COPY

abbrev format_token : Kind → TokenKind
format_token k.Text = token.Name (codes "text")
format_token _ = token.Name (codes "csv")

abbrev Formatted : Kind → Type 0
Formatted i = (at place : ℕ) → word (codes "format") ++ (format_token i ∷ []) ≡ copy_option_spelling (node.format_option (at, (i, place)))

format_bare : (at place : ℕ) (i : Kind) → bare_copy_option (node.format_option (at, (i, place))) ≡ node.format_option (0, (i, 0))
format_bare at place k.Text = refl
format_bare at place _ = refl

format_spelled : (i : Kind) → Formatted i
format_spelled k.Text at place = refl
format_spelled _ at place = refl

format_words : Keeps (λ c. format_token c.0 ∷ []) (λ c. (c.0, 0)) (Some-of node.format_words)
unfolding of same_kind
format_words =
    some_keeps node.format_words format_token (says_word k.Csv (codes "csv") refl refl refl refl, (says_word k.Text (codes "text") refl refl refl refl, tt))

copy_option_keeps : Keeps copy_option_spelling bare_copy_option r.copy_option
unfolding r.copy_option r.format_option
copy_option_keeps =
    either_keeps
    (made_keeps copy_option_spelling bare_copy_option node.format_option (both_keeps format_ format_words)
    (λ c. format_spelled c.1.0 c.0 c.1.1) (λ c. format_bare c.0 c.1.1 c.1.0))
    (made_keeps copy_option_spelling bare_copy_option copies.Header header_ (λ at. refl) (λ at. refl))

abbrev Options : Type 0
Options = Option ℕ × List CopyOption

abbrev options_spelling : Options → Kinds
options_spelling c = if_known (λ at. word (codes "with")) c.0 ++ (sign s.Open ++ (commas (map copy_option_spelling c.1) ++ sign s.Close))

abbrev options_bare : Options → Options
options_bare c = (if_any no_place c.0, map bare_copy_option c.1)

abbrev asked_spelling : Option Options → Kinds
asked_spelling o = copy_options_spelling (node.is_spelled o) (node.options_of o)

options_spelled : (w : Option ℕ) (l : List CopyOption) → IsSome l → options_spelling (w, l) ≡ copy_options_spelling (is_some w) l
options_spelled w [] some = absurd some
options_spelled w (a ∷ more) some = ap (λ i. i ++ in_brackets (commas (map copy_option_spelling (a ∷ more)))) (written_known (word (codes "with")) w)

abbrev option_list : Lang Options
option_list = Made (λ (word, (_, (options, _))). (word, options)) (Both (Optional (The k.With)) (Both (The k.Open) (Both (Commas (λ i. r.copy_option)) (The k.Close))))

options_some : (c : Options) (ts : List Token) → option_list c ts → IsSome c.1
options_some c ts p = subst (λ (i : Options). IsSome i.1) (sym p.is) (commas_some _ p.from.1.1.0 p.phrase.right.right.front p.phrase.right.right.left)

copy_spelled : (o : Option Options) (ts : List Token) → r.copy_options o ts → if_known options_spelling o ≡ asked_spelling o
unfolding r.copy_options
copy_spelled None ts p = refl
copy_spelled (Some c) ts (inl p) = let e : c ≡ p.from = cc p.is in options_spelled c.0 c.1 (options_some c ts (subst (λ i. option_list i ts) (sym e) p.phrase))
copy_spelled (Some c) ts (inr p) = absurd (cc p.is)

option_list_keeps : Keeps options_spelling options_bare option_list
option_list_keeps =
    made_keeps options_spelling options_bare (λ (word, (_, (options, _))). (word, options))
    (both_keeps (optional_keeps with_) (both_keeps opening (both_keeps (commas_keep comma (λ i. copy_option_keeps)) closing))) (λ c. refl) (λ c. refl)

copy_options_keeps : Keeps asked_spelling (if_any options_bare) r.copy_options
unfolding r.copy_options
copy_options_keeps = phrases_keep_as asked_spelling copy_spelled (optional_keeps option_list_keeps)

copy_bare : (at : ℕ) (table : Name) (columns : List Name) (o : Option Options)
    → bare (ast.Copy table columns (node.is_spelled o) (node.options_of o) at) ≡ ast.Copy (bare_name table) (map bare_name columns) (node.is_spelled (if_any options_bare o)) (node.options_of (if_any options_bare o)) 0
unfolding bare
copy_bare at table columns None = refl
copy_bare at table columns (Some (None, l)) = refl
copy_bare at table columns (Some (Some w, l)) = refl

copy_keeps : AstKeeps r.copy
unfolding r.copy spelling
copy_keeps =
    made_keeps spelling bare (λ (at, (table, (columns, options))). ast.Copy table columns (node.is_spelled options) (node.options_of options) at)
    (both_keeps copy_ (both_keeps a_name_keeps (both_keeps optional_names_keeps (behind_keeps from_ (behind_keeps stdin_ copy_options_keeps)))))
    (λ c. refl) (λ c. copy_bare c.0 c.1.0 c.1.1.0 c.1.1.1)

-- ---- SET and calls

setting_value_keeps : Keeps setting_value_spelling bare_setting_value r.setting_value
unfolding r.setting_value
setting_value_keeps =
    either_keeps (made_keeps setting_value_spelling bare_setting_value (λ n. settings.Number n.value n.at) number_keeps (λ n. refl) (λ n. refl))
    (either_keeps (made_keeps setting_value_spelling bare_setting_value settings.On on (λ at. refl) (λ at. refl))
    (made_keeps setting_value_spelling bare_setting_value settings.Off off_ (λ at. refl) (λ at. refl)))

abbrev to_token : Bool → TokenKind
to_token true = token.Name (codes "to")
to_token false = token.Sign s.Equal

setting_words : Keeps (λ c. to_token (node.is_to c.0) ∷ []) (λ c. (c.0, 0)) (Some-of node.setting_words)
unfolding of same_kind
setting_words = some_keeps node.setting_words (λ i. to_token (node.is_to i)) (says_word k.To (codes "to") refl refl refl refl, (says_sign s.Equal, tt))

to_spelled : (b : Bool) → to_token b ∷ [] ≡ to_spelling b
to_spelled true = refl
to_spelled false = refl

set_keeps : AstKeeps r.set
unfolding r.set spelling bare
set_keeps =
    made_keeps spelling bare (λ (at, (space, (name, ((word, _), value)))). ast.Set space name (node.is_to word) value at)
    (both_keeps set_ (both_keeps a_name_keeps (both_keeps (behind_keeps dot a_name_keeps) (both_keeps setting_words setting_value_keeps))))
    (λ c. ap (λ i. word (codes "set") ++ (named c.1.0 ++ ((sign s.Dot ++ named c.1.1.0) ++ (i ++ setting_value_spelling c.1.1.1.1)))) (to_spelled (node.is_to c.1.1.1.0.0)))
    (λ c. refl)

argument_value_keeps : Keeps literal_spelling bare_literal r.argument_value
unfolding r.argument_value
argument_value_keeps =
    either_keeps (made_keeps literal_spelling bare_literal (λ t. literals.Quoted t.text t.at) quoted_keeps (λ t. refl) (λ t. refl))
    (made_keeps literal_spelling bare_literal (λ n. literals.Number n.value n.at) number_keeps (λ n. refl) (λ n. refl))

argument_name_keeps : Keeps (λ n. named n ++ sign s.Arrow) bare_name r.argument_name
unfolding r.argument_name
argument_name_keeps = made_keeps (λ n. named n ++ sign s.Arrow) bare_name (λ (name, _). name) (both_keeps a_name_keeps (the_sign s.Arrow)) (λ c. refl) (λ c. refl)

argument_named : (o : Option Name) → if_known (λ n. named n ++ sign s.Arrow) o ≡ argument_name_spelling o
argument_named None = refl
argument_named (Some n) = refl

argument_keeps : Keeps argument_spelling bare_argument r.argument
unfolding r.argument
argument_keeps =
    made_keeps argument_spelling bare_argument (λ (name, value). record { name = name; value = value })
    (both_keeps (keeps_as argument_name_spelling argument_named (optional_keeps argument_name_keeps)) argument_value_keeps) (λ c. refl) (λ c. refl)

abbrev arguments_spelling : Option (List Argument) → Kinds
arguments_spelling o = commas (map argument_spelling (node.or_none o))

arguments_known : (o : Option (List Argument)) → if_known (λ l. commas (map argument_spelling l)) o ≡ arguments_spelling o
arguments_known None = refl
arguments_known (Some l) = refl

call_bare : (at : ℕ) (name : Name) (o : Option (List Argument))
    → bare (ast.Call name (node.or_none o) at) ≡ ast.Call (bare_name name) (node.or_none (if_any (map bare_argument) o)) 0
unfolding bare
call_bare at name None = refl
call_bare at name (Some l) = refl

function_keeps : Keeps named bare_name r.function_name
unfolding r.function_name of same_kind
function_keeps = name_keeps (k.Call ∷ []) refl

call_keeps : AstKeeps r.call
unfolding r.call spelling
call_keeps =
    made_keeps spelling bare (λ (at, (name, (_, (arguments, _)))). ast.Call name (node.or_none arguments) at)
    (both_keeps select_ (both_keeps function_keeps (both_keeps opening (both_keeps (keeps_as arguments_spelling arguments_known (optional_keeps (commas_keep comma (λ i. argument_keeps)))) closing))))
    (λ c. refl) (λ c. call_bare c.0 c.1.0 c.1.1.1.0)

-- ---- statements with expressions

pub filter_known : (o : Option Expr) → if_known (λ a. word (codes "where") ++ expr_spelling a) o ≡ filter_spelling o
filter_known None = refl
filter_known (Some a) = refl

module _ (lower : ℕ → (d : Deeper) → Lang (Tree d)) (m : (n : ℕ) (d : Deeper) → Keeps (spelling_of d) (bare_of d) (lower n d)) where
  row_values_keeps : Keeps row_values_spelling bare_row_values (r.row_values lower)
  unfolding r.row_values
  row_values_keeps =
      made_keeps row_values_spelling bare_row_values (λ (at, (values, _)). record { values = values; at = at })
      (both_keeps opening (both_keeps (commas_keep comma (λ i. m 1 (expr or_))) closing)) (λ c. refl) (λ c. refl)

  insert_keeps : AstKeeps (r.insert lower)
  unfolding r.insert spelling bare
  insert_keeps =
      made_keeps spelling bare (λ (at, (table, (columns, rows))). ast.Insert table columns rows at)
      (both_keeps insert_ (both_keeps (behind_keeps into_ a_name_keeps) (both_keeps optional_names_keeps (behind_keeps values_ (commas_keep comma (λ i. row_values_keeps))))))
      (λ c. refl) (λ c. refl)

  set_clause_keeps : Keeps set_clause_spelling bare_set_clause (r.set_clause lower)
  unfolding r.set_clause
  set_clause_keeps =
      made_keeps set_clause_spelling bare_set_clause (λ (column, value). record { column = column; value = value })
      (both_keeps a_name_keeps (behind_keeps equal_ (or_chain_keeps lower m))) (λ c. refl) (λ c. refl)

  where_keeps : Keeps filter_spelling (if_any bare_expr) (g.filter lower)
  where_keeps = keeps_as filter_spelling filter_known (filter_keeps lower m)

  update_keeps : AstKeeps (r.update lower)
  unfolding r.update spelling bare
  update_keeps =
      made_keeps spelling bare (λ (at, (table, (sets, kept))). ast.Update table sets kept at)
      (both_keeps update_ (both_keeps a_name_keeps (both_keeps (behind_keeps set_ (commas_keep comma (λ i. set_clause_keeps))) where_keeps))) (λ c. refl) (λ c. refl)

  delete_keeps : AstKeeps (r.delete lower)
  unfolding r.delete spelling bare
  delete_keeps =
      made_keeps spelling bare (λ (at, (table, kept)). ast.Delete table kept at) (both_keeps delete_ (both_keeps (behind_keeps from_ a_name_keeps) where_keeps))
      (λ c. refl) (λ c. refl)

  common_table_keeps : Keeps common_table_spelling bare_common_table (r.common_table lower)
  unfolding r.common_table
  common_table_keeps =
      made_keeps common_table_spelling bare_common_table (λ (name, (_, (inner, _))). record { name = name; select = inner })
      (both_keeps a_name_keeps (both_keeps (behind_keeps as_ opening) (both_keeps (m 1 select) closing))) (λ c. refl) (λ c. refl)

  abbrev tables_spelling : List CommonTable → Kinds
  tables_spelling l = list_behind (word (codes "with")) (map common_table_spelling l)

  common_tables_keeps : Keeps tables_spelling (map bare_common_table) (r.common_tables lower)
  unfolding r.common_tables
  common_tables_keeps =
      or_none_keeps tables_spelling (behind_some _ _ (commas_some _)) refl (λ a more. refl) (behind_keeps with_ (commas_keep comma (λ i. common_table_keeps)))

  query_keeps : Keeps query_spelling bare_query (r.query lower)
  unfolding r.query
  query_keeps =
      made_keeps query_spelling bare_query (λ (tables, body). record { tables = tables; select = body }) (both_keeps common_tables_keeps (selected_keeps lower m))
      (λ c. refl) (λ c. refl)

  pub statement_keeps : AstKeeps (r.statement lower)
  unfolding r.statement r.explain spelling bare
  statement_keeps =
      either_keeps create_keeps (either_keeps insert_keeps (either_keeps update_keeps (either_keeps delete_keeps (either_keeps copy_keeps (either_keeps set_keeps
      (either_keeps (made_keeps spelling bare (λ (at, asked). ast.Explain asked at) (both_keeps explain_ query_keeps) (λ c. refl) (λ c. refl))
      (either_keeps call_keeps (made_keeps spelling bare ast.Query query_keeps (λ c. refl) (λ c. refl)))))))))

pub shallow_keeps : AstKeeps Shallow
shallow_keeps = statement_keeps (below max_depth) (below_keeps max_depth)

-- a statement's tokens are its spelling, at any depth
pub written_spelled : (a : Ast) (ts : List Token) → Written a ts → kinds_of ts ≡ spelling a
written_spelled a ts p = (statement_keeps (λ n. upto p.0) (λ n. upto_keeps p.0)).spells a ts p.1
