-- What a token is to the grammar.
use Rattle.std.specs.Prelude.{ℕ, Bool, false, ◌||◌, List, [], ◌∷◌, codes, bytes_eq, if◌then◌else◌}
use denote.Enum.Bare.{sameb}
use Rattle.cq_token.specs.declared.token.Token.{Token}
use Rattle.cq_token.specs.declared.token.TokenKind.{TokenKind}
use Rattle.cq_token.specs.declared.token.TokenKind.TheVariants as token
use Rattle.cq_token.specs.declared.sign.Sign.{Sign}
use Rattle.cq_token.specs.declared.sign.Sign.TheVariants as s
use Rattle.cq_grammar.specs.declared.kind.Kind.{Kind}
use Rattle.cq_grammar.specs.declared.kind.Kind.TheVariants as k
use Rattle.cq_grammar.specs.contracts.kind.Kind.{the_type}

-- the reserved words (the project's own list, after PostgreSQL documentation, "SQL Key Words")
abbrev pub reserved_words : List (List ℕ × Kind)
reserved_words =
    (codes "all", k.All) ∷ (codes "and", k.And) ∷ (codes "as", k.As) ∷ (codes "asc", k.Asc) ∷ (codes "between", k.Between) ∷ (codes "by", k.By) ∷
    (codes "case", k.Case) ∷ (codes "coalesce", k.Coalesce) ∷ (codes "copy", k.Copy) ∷ (codes "count", k.Count) ∷ (codes "create", k.Create) ∷
    (codes "cross", k.Cross) ∷ (codes "delete", k.Delete) ∷ (codes "desc", k.Desc) ∷ (codes "distinct", k.Distinct) ∷ (codes "else", k.Else) ∷
    (codes "end", k.End) ∷ (codes "explain", k.Explain) ∷ (codes "from", k.From) ∷ (codes "group", k.Group) ∷ (codes "having", k.Having) ∷
    (codes "in", k.In) ∷ (codes "inner", k.Inner) ∷ (codes "insert", k.Insert) ∷ (codes "into", k.Into) ∷ (codes "is", k.Is) ∷ (codes "join", k.Join) ∷
    (codes "key", k.Key) ∷ (codes "left", k.Left) ∷ (codes "limit", k.Limit) ∷ (codes "max", k.Max) ∷ (codes "min", k.Min) ∷ (codes "not", k.Not) ∷
    (codes "null", k.Null) ∷ (codes "offset", k.Offset) ∷ (codes "on", k.On) ∷ (codes "or", k.Or) ∷ (codes "order", k.Order) ∷ (codes "outer", k.Outer) ∷
    (codes "primary", k.Primary) ∷ (codes "select", k.Select) ∷ (codes "set", k.Set) ∷ (codes "sum", k.Sum) ∷ (codes "table", k.Table) ∷
    (codes "then", k.Then) ∷ (codes "to", k.To) ∷ (codes "update", k.Update) ∷ (codes "values", k.Values) ∷ (codes "when", k.When) ∷
    (codes "where", k.Where) ∷ (codes "with", k.With) ∷ []

-- the words that mean something in their places, and are names everywhere else
abbrev pub other_words : List (List ℕ × Kind)
other_words =
    (codes "bigint", k.Bigint) ∷ (codes "csv", k.Csv) ∷ (codes "format", k.Format) ∷ (codes "header", k.Header) ∷ (codes "int", k.Int) ∷
    (codes "integer", k.Integer) ∷ (codes "off", k.Off) ∷ (codes "stdin", k.Stdin) ∷ (codes "text", k.Text) ∷
    (codes "create_distributed_table", k.Call) ∷ (codes "create_reference_table", k.Call) ∷ (codes "citus_move_shard_placement", k.Call) ∷
    (codes "rebalance_table_shards", k.Call) ∷ (codes "get_rebalance_table_shards_plan", k.Call) ∷ []

-- the kind that a list gives a word, or else this one
abbrev pub found_in : List (List ℕ × Kind) → Kind → List ℕ → Kind
found_in [] otherwise word = otherwise
found_in (w ∷ ws) otherwise word = if bytes_eq w.0 word then w.1 else found_in ws otherwise word

unfoldable pub kind_of_word : List ℕ → Kind
kind_of_word word = found_in reserved_words (found_in other_words k.Name word) word

abbrev pub kind_of_sign : Sign → Kind
kind_of_sign s.Open = k.Open
kind_of_sign s.Close = k.Close
kind_of_sign s.Comma = k.Comma
kind_of_sign s.Dot = k.Dot
kind_of_sign s.Semicolon = k.Semicolon
kind_of_sign s.Star = k.Star
kind_of_sign s.Slash = k.Slash
kind_of_sign s.Percent = k.Percent
kind_of_sign s.Plus = k.Plus
kind_of_sign s.Minus = k.Minus
kind_of_sign s.Equal = k.Equal
kind_of_sign s.NotEqual = k.NotEqual
kind_of_sign s.Less = k.Less
kind_of_sign s.LessOrEqual = k.LessOrEqual
kind_of_sign s.Greater = k.Greater
kind_of_sign s.GreaterOrEqual = k.GreaterOrEqual
kind_of_sign s.Arrow = k.Arrow

-- a reserved word is a token of its own kind, and so is a word that means something in its place
unfoldable pub kind_of : TokenKind → Kind
kind_of (token.Name word) = kind_of_word word
kind_of (token.Number n) = k.Number
kind_of (token.Text content) = k.Quoted
kind_of (token.Sign sign) = kind_of_sign sign

abbrev pub kind : Token → Kind
kind t = kind_of t.kind

-- ---- sets of kinds

abbrev pub Kinds : Type 0
Kinds = Kind → Bool

unfoldable pub same_kind : Kind → Kind → Bool
same_kind = sameb the_type

unfoldable pub of : List Kind → Kinds
of [] k = false
of (j ∷ js) k = same_kind k j || of js k

-- whether the text goes on with one of these
abbrev pub starts : Kinds → List Token → Bool
starts f [] = false
starts f (t ∷ ts) = f (kind t)

-- the words that may name a table or a column: all that aren't reserved
abbrev pub names : List Kind
names = k.Name ∷ k.Bigint ∷ k.Csv ∷ k.Format ∷ k.Header ∷ k.Int ∷ k.Integer ∷ k.Off ∷ k.Stdin ∷ k.Text ∷ k.Call ∷ []

-- after a dot or AS a column may have these names too
abbrev pub column_names : List Kind
column_names = k.Count ∷ k.Sum ∷ k.Min ∷ k.Max ∷ k.Key ∷ k.End ∷ names

-- ---- what a token says

-- the letters of a name, and the content of a text
abbrev pub text_of : Token → List ℕ
text_of t = text_in t.kind
  where
    text_in : TokenKind → List ℕ
    text_in (token.Name word) = word
    text_in (token.Text content) = content
    text_in _ = []

abbrev pub number_of : Token → ℕ
number_of t = number_in t.kind
  where
    number_in : TokenKind → ℕ
    number_in (token.Number n) = n
    number_in _ = 0
