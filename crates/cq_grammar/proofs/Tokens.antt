-- A token of each kind.
use Rattle.std.proofs.Common.{◌≡◌, refl}
use Rattle.std.specs.Prelude.{codes}
use Rattle.cq_token.specs.declared.token.Token.{Token}
use Rattle.cq_token.specs.declared.token.TokenKind.{TokenKind}
use Rattle.cq_token.specs.declared.token.TokenKind.TheVariants as token
use Rattle.cq_token.specs.declared.sign.Sign.TheVariants as s
use Rattle.cq_grammar.specs.declared.kind.Kind.{Kind}
use Rattle.cq_grammar.specs.declared.kind.Kind.TheVariants as k
use Rattle.cq_grammar.specs.Words.{kind, kind_of, kind_of_word}

-- what is written for a kind
abbrev pub spelled : Kind → TokenKind
spelled k.Number = token.Number 0
spelled k.Quoted = token.Text (codes "")
spelled k.Open = token.Sign s.Open
spelled k.Close = token.Sign s.Close
spelled k.Comma = token.Sign s.Comma
spelled k.Dot = token.Sign s.Dot
spelled k.Semicolon = token.Sign s.Semicolon
spelled k.Star = token.Sign s.Star
spelled k.Slash = token.Sign s.Slash
spelled k.Percent = token.Sign s.Percent
spelled k.Plus = token.Sign s.Plus
spelled k.Minus = token.Sign s.Minus
spelled k.Equal = token.Sign s.Equal
spelled k.NotEqual = token.Sign s.NotEqual
spelled k.Less = token.Sign s.Less
spelled k.LessOrEqual = token.Sign s.LessOrEqual
spelled k.Greater = token.Sign s.Greater
spelled k.GreaterOrEqual = token.Sign s.GreaterOrEqual
spelled k.Arrow = token.Sign s.Arrow
spelled k.All = token.Name (codes "all")
spelled k.And = token.Name (codes "and")
spelled k.As = token.Name (codes "as")
spelled k.Asc = token.Name (codes "asc")
spelled k.Between = token.Name (codes "between")
spelled k.By = token.Name (codes "by")
spelled k.Case = token.Name (codes "case")
spelled k.Coalesce = token.Name (codes "coalesce")
spelled k.Copy = token.Name (codes "copy")
spelled k.Count = token.Name (codes "count")
spelled k.Create = token.Name (codes "create")
spelled k.Cross = token.Name (codes "cross")
spelled k.Delete = token.Name (codes "delete")
spelled k.Desc = token.Name (codes "desc")
spelled k.Distinct = token.Name (codes "distinct")
spelled k.Else = token.Name (codes "else")
spelled k.End = token.Name (codes "end")
spelled k.Explain = token.Name (codes "explain")
spelled k.From = token.Name (codes "from")
spelled k.Group = token.Name (codes "group")
spelled k.Having = token.Name (codes "having")
spelled k.In = token.Name (codes "in")
spelled k.Inner = token.Name (codes "inner")
spelled k.Insert = token.Name (codes "insert")
spelled k.Into = token.Name (codes "into")
spelled k.Is = token.Name (codes "is")
spelled k.Join = token.Name (codes "join")
spelled k.Key = token.Name (codes "key")
spelled k.Left = token.Name (codes "left")
spelled k.Limit = token.Name (codes "limit")
spelled k.Max = token.Name (codes "max")
spelled k.Min = token.Name (codes "min")
spelled k.Not = token.Name (codes "not")
spelled k.Null = token.Name (codes "null")
spelled k.Offset = token.Name (codes "offset")
spelled k.On = token.Name (codes "on")
spelled k.Or = token.Name (codes "or")
spelled k.Order = token.Name (codes "order")
spelled k.Outer = token.Name (codes "outer")
spelled k.Primary = token.Name (codes "primary")
spelled k.Select = token.Name (codes "select")
spelled k.Set = token.Name (codes "set")
spelled k.Sum = token.Name (codes "sum")
spelled k.Table = token.Name (codes "table")
spelled k.Then = token.Name (codes "then")
spelled k.To = token.Name (codes "to")
spelled k.Update = token.Name (codes "update")
spelled k.Values = token.Name (codes "values")
spelled k.When = token.Name (codes "when")
spelled k.Where = token.Name (codes "where")
spelled k.With = token.Name (codes "with")
spelled k.Bigint = token.Name (codes "bigint")
spelled k.Csv = token.Name (codes "csv")
spelled k.Format = token.Name (codes "format")
spelled k.Header = token.Name (codes "header")
spelled k.Int = token.Name (codes "int")
spelled k.Integer = token.Name (codes "integer")
spelled k.Off = token.Name (codes "off")
spelled k.Stdin = token.Name (codes "stdin")
spelled k.Text = token.Name (codes "text")
spelled k.Call = token.Name (codes "create_distributed_table")
spelled k.Name = token.Name (codes "")

abbrev pub token_of : Kind → Token
token_of k = record { kind = spelled k; start = 0; end = 0 }

pub kind_spelled : (k : Kind) → kind (token_of k) ≡ k
unfolding kind_of kind_of_word
kind_spelled k.Number = refl
kind_spelled k.Quoted = refl
kind_spelled k.Open = refl
kind_spelled k.Close = refl
kind_spelled k.Comma = refl
kind_spelled k.Dot = refl
kind_spelled k.Semicolon = refl
kind_spelled k.Star = refl
kind_spelled k.Slash = refl
kind_spelled k.Percent = refl
kind_spelled k.Plus = refl
kind_spelled k.Minus = refl
kind_spelled k.Equal = refl
kind_spelled k.NotEqual = refl
kind_spelled k.Less = refl
kind_spelled k.LessOrEqual = refl
kind_spelled k.Greater = refl
kind_spelled k.GreaterOrEqual = refl
kind_spelled k.Arrow = refl
kind_spelled k.All = refl
kind_spelled k.And = refl
kind_spelled k.As = refl
kind_spelled k.Asc = refl
kind_spelled k.Between = refl
kind_spelled k.By = refl
kind_spelled k.Case = refl
kind_spelled k.Coalesce = refl
kind_spelled k.Copy = refl
kind_spelled k.Count = refl
kind_spelled k.Create = refl
kind_spelled k.Cross = refl
kind_spelled k.Delete = refl
kind_spelled k.Desc = refl
kind_spelled k.Distinct = refl
kind_spelled k.Else = refl
kind_spelled k.End = refl
kind_spelled k.Explain = refl
kind_spelled k.From = refl
kind_spelled k.Group = refl
kind_spelled k.Having = refl
kind_spelled k.In = refl
kind_spelled k.Inner = refl
kind_spelled k.Insert = refl
kind_spelled k.Into = refl
kind_spelled k.Is = refl
kind_spelled k.Join = refl
kind_spelled k.Key = refl
kind_spelled k.Left = refl
kind_spelled k.Limit = refl
kind_spelled k.Max = refl
kind_spelled k.Min = refl
kind_spelled k.Not = refl
kind_spelled k.Null = refl
kind_spelled k.Offset = refl
kind_spelled k.On = refl
kind_spelled k.Or = refl
kind_spelled k.Order = refl
kind_spelled k.Outer = refl
kind_spelled k.Primary = refl
kind_spelled k.Select = refl
kind_spelled k.Set = refl
kind_spelled k.Sum = refl
kind_spelled k.Table = refl
kind_spelled k.Then = refl
kind_spelled k.To = refl
kind_spelled k.Update = refl
kind_spelled k.Values = refl
kind_spelled k.When = refl
kind_spelled k.Where = refl
kind_spelled k.With = refl
kind_spelled k.Bigint = refl
kind_spelled k.Csv = refl
kind_spelled k.Format = refl
kind_spelled k.Header = refl
kind_spelled k.Int = refl
kind_spelled k.Integer = refl
kind_spelled k.Off = refl
kind_spelled k.Stdin = refl
kind_spelled k.Text = refl
kind_spelled k.Call = refl
kind_spelled k.Name = refl
