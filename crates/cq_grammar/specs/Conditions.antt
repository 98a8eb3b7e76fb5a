-- What a statement keeps beside the grammar: which words stand once, and which arguments a call takes.
use Rattle.std.specs.Prelude.{ℕ, List, [], ◌∷◌, length, Bool, true, false, not, ◌&&◌, ◌||◌, nat_le, if◌then◌else◌, Option, Some, None, codes, bytes_eq, is_none, filter}
use Rattle.std.specs.List.{list_any, list_all}
use Rattle.cq_token.specs.declared.token.Token.{Token}
use Rattle.cq_grammar.specs.declared.kind.Kind.{Kind}
use Rattle.cq_grammar.specs.declared.kind.Kind.TheVariants as k
use Rattle.cq_grammar.specs.declared.name.Name.{Name}
use Rattle.cq_grammar.specs.declared.statement.Ast.{Ast}
use Rattle.cq_grammar.specs.declared.statement.Ast.TheVariants as ast
use Rattle.cq_grammar.specs.declared.statement.Literal.{Literal}
use Rattle.cq_grammar.specs.declared.statement.Literal.TheVariants as literals
use Rattle.cq_grammar.specs.declared.statement.Argument.{Argument}
use Rattle.cq_grammar.specs.Words.{kind, same_kind}

-- ---- PRIMARY KEY once in a CREATE TABLE

-- the place of the second PRIMARY; `seen` says whether one stands before
abbrev pub second_primary : Bool → List Token → Option ℕ
second_primary seen [] = None
second_primary seen (t ∷ ts) =
    if same_kind (kind t) k.Primary then (if seen then Some t.start else second_primary true ts)
    else second_primary seen ts

-- ---- FORMAT and HEADER once in a COPY, and HEADER with CSV alone

-- what was seen of the options: whether FORMAT, which format, and where HEADER
pub record Options : Type 0 where
  pub format : Bool
  pub csv : Bool
  pub text : Bool
  pub header : Option ℕ

abbrev pub no_options : Options
no_options = record { format = false; csv = false; text = false; header = None }

-- the place that is refused at a token of this kind, after these options
abbrev pub refused_at : Kind → ℕ → Options → Option ℕ
refused_at k.Format at seen = if seen.format then Some at else None
refused_at k.Header at seen = if seen.text || not (is_none seen.header) then Some at else None
refused_at k.Text at seen = seen.header
refused_at k.Close at seen = if seen.csv then None else seen.header
refused_at _ at seen = None

abbrev pub seen_with : Kind → ℕ → Options → Options
seen_with k.Format at seen = record { format = true; csv = seen.csv; text = seen.text; header = seen.header }
seen_with k.Csv at seen = record { format = seen.format; csv = true; text = seen.text; header = seen.header }
seen_with k.Text at seen = record { format = seen.format; csv = seen.csv; text = true; header = seen.header }
seen_with k.Header at seen = record { format = seen.format; csv = seen.csv; text = seen.text; header = Some at }
seen_with _ at seen = seen

-- the first place that is refused in the words behind FROM
abbrev pub refused_option : Options → List Token → Option ℕ
refused_option seen [] = None
refused_option seen (t ∷ ts) = or_later (refused_at (kind t) t.start seen) (refused_option (seen_with (kind t) t.start seen) ts)
  where
    or_later : Option ℕ → Option ℕ → Option ℕ
    or_later None later = later
    or_later (Some at) later = Some at

abbrev pub behind_from : List Token → List Token
behind_from [] = []
behind_from (t ∷ ts) = if same_kind (kind t) k.From then ts else behind_from ts

-- The place of a word that the first tokens of a statement may not have: a second PRIMARY, FORMAT or HEADER at its own
-- place, and HEADER without CSV at HEADER, as soon as TEXT or the closing bracket settles it.
unfoldable pub misplaced : List Token → Option ℕ
misplaced [] = None
misplaced (t ∷ ts) =
    if same_kind (kind t) k.Create then second_primary false ts
    else (if same_kind (kind t) k.Copy then refused_option no_options (behind_from ts) else None)

-- ---- the arguments of calls

-- the form of an argument's value
pub data Form : Type 0 where
  text : Form
  number : Form

abbrev pub has_form : Form → Literal → Bool
has_form text (literals.Quoted content at) = true
has_form number (literals.Number value at) = true
has_form _ _ = false

-- the forms that come first, each by its place, and those that come by name
pub record Signature : Type 0 where
  pub function : List ℕ
  pub placed : List Form
  pub named : List (List ℕ × Form)

-- the functions that a statement may call (Citus documentation, "Citus Utility Functions")
abbrev pub signatures : List Signature
signatures =
    record { function = codes "create_distributed_table"; placed = text ∷ text ∷ []; named = (codes "colocate_with", text) ∷ (codes "shard_count", number) ∷ [] } ∷
    record { function = codes "create_reference_table"; placed = text ∷ []; named = [] } ∷
    record { function = codes "citus_move_shard_placement"; placed = number ∷ number ∷ number ∷ []; named = [] } ∷
    record { function = codes "rebalance_table_shards"; placed = []; named = (codes "rebalance_strategy", text) ∷ [] } ∷
    record { function = codes "get_rebalance_table_shards_plan"; placed = []; named = (codes "rebalance_strategy", text) ∷ [] } ∷ []

abbrev pub is_named : List ℕ → Argument → Bool
is_named name a = names_it a.name
  where
    names_it : Option Name → Bool
    names_it None = false
    names_it (Some n) = bytes_eq n.text name

-- the arguments by place come first, as many as there are forms, each of its form; behind them each has a name
abbrev pub fits_places : List Form → List Argument → Bool
fits_places [] arguments = list_all (λ a. not (is_none a.name)) arguments
fits_places (form ∷ forms) [] = false
fits_places (form ∷ forms) (a ∷ arguments) = is_none a.name && (has_form form a.value && fits_places forms arguments)

-- a name of the signature stands at most once, with a value of its form. A name that isn't the signature's isn't judged here
abbrev pub fits_name : List Argument → List ℕ × Form → Bool
fits_name arguments (name, form) =
    list_all (λ a. not (is_named name a) || has_form form a.value) arguments && nat_le (length (filter (is_named name) arguments)) 1

abbrev pub fits : List Argument → Signature → Bool
fits arguments s = fits_places s.placed arguments && list_all (fits_name arguments) s.named

-- whether a function of this name takes these arguments
unfoldable pub takes : List ℕ → List Argument → Bool
takes function arguments = list_any (λ (s : Signature). bytes_eq s.function function && fits arguments s) signatures

-- the place of a call's name, where its arguments have the wrong number or form
abbrev pub miscalled : Ast → Option ℕ
miscalled (ast.Call function arguments at) = if takes function.text arguments then None else Some function.at
miscalled _ = None
