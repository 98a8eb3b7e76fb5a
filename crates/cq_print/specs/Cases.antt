-- How a tree's tokens are written: reserved words in upper case, and names as they are.
use Rattle.std.specs.Prelude.{List, ℕ, Bool, false, map, bytes_eq}
use Rattle.std.specs.List.{list_any}
use Rattle.cq_token.specs.declared.token.TokenKind.{TokenKind}
use Rattle.cq_token.specs.declared.token.TokenKind.TheVariants as token
use Rattle.cq_token.specs.declared.printer.Word.{Word}
use Rattle.cq_grammar.specs.Words.{reserved_words}

unfoldable pub is_reserved : List ℕ → Bool
is_reserved name = list_any (λ w. bytes_eq w.0 name) reserved_words

abbrev pub word_of : TokenKind → Word
word_of (token.Name name) = record { kind = token.Name name; upper = is_reserved name }
word_of (token.Number n) = record { kind = token.Number n; upper = false }
word_of (token.Text content) = record { kind = token.Text content; upper = false }
word_of (token.Sign sign) = record { kind = token.Sign sign; upper = false }
