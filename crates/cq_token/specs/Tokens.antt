-- The tokens of a text.
use Rattle.std.specs.Prelude.{◌≡◌, ◌≢◌, ◌≤◌, ℕ, zero, suc, ◌+◌, ◌-◌, ◌*◌, Bool, false, ◌&&◌, if◌then◌else◌, ◌==◌, nat_le, List, [], ◌∷◌, ◌++◌, map, fold, take, Option, Some, None, Result, Ok, Err}
use Rattle.std.specs.List.{prefix_len}
use Rattle.std.specs.Char.{is_ascii_digit, to_ascii_lowercase}
use Rattle.std.specs.Str.{is_utf8}
use Rattle.cq_token.specs.declared.token.Token.{Token}
use Rattle.cq_token.specs.declared.token.TokenKind.TheVariants as kind
use Rattle.cq_token.specs.declared.token.Piece.{Piece}
use Rattle.cq_token.specs.declared.token.Piece.TheVariants.{Skip, Token as Found}
use Rattle.cq_token.specs.declared.error.LexError.{LexError}
use Rattle.cq_token.specs.declared.error.LexError.TheVariants.{OpenQuote, BadCharacter, TooLarge, Memory}
use Rattle.cq_token.specs.declared.sign.Sign.{Sign}
use Rattle.cq_token.specs.Bytes.{is_blank, begins_name, is_in_name, is_in_line}
use Rattle.cq_token.specs.Signs.{sign_of, pair_of}

-- ---- what stands at the front of a text

-- a name is folded to lower case
unfoldable pub name_at : ℕ → List ℕ → Result Piece LexError
name_at b rest =
    let more = prefix_len is_in_name rest in
    Ok (Found (kind.Name (map to_ascii_lowercase (take (1 + more) (b ∷ rest)))) more)

abbrev pub with_digit : ℕ → ℕ → ℕ
with_digit n digit = 10 * n + (digit - 48)

abbrev pub greatest_number : ℕ
greatest_number = 9223372036854775807

-- the number that digits write, if it isn't too large
abbrev pub value_of : List ℕ → Option ℕ
value_of digits = let n = fold with_digit 0 digits in if nat_le n greatest_number then Some n else None

abbrev pub number_of : ℕ → ℕ → Option ℕ → Result Piece LexError
number_of at more (Some n) = Ok (Found (kind.Number n) more)
number_of at more None = Err (TooLarge at)

unfoldable pub number_at : ℕ → ℕ → List ℕ → Result Piece LexError
number_at at b rest =
    let more = prefix_len is_ascii_digit rest in
    number_of at more (value_of (take (1 + more) (b ∷ rest)))

-- so many bytes that give this content stand before it
abbrev pub behind : List ℕ → ℕ → Option (List ℕ × ℕ) → Option (List ℕ × ℕ)
behind content n None = None
behind content n (Some found) = Some (content ++ found.0, n + found.1)

-- behind an opening quote, 39: the text's content, and how many bytes it takes with its closing quote; a doubled quote is one of the content
unfoldable pub quoted : List ℕ → Option (List ℕ × ℕ)
quoted [] = None
quoted (b ∷ []) = if b == 39 then Some ([], 1) else None
quoted (b ∷ c ∷ rest) =
    if b == 39 then (if c == 39 then behind (39 ∷ []) 2 (quoted rest) else Some ([], 1))
    else behind (b ∷ []) 1 (quoted (c ∷ rest))

-- the content of a text is UTF-8
abbrev pub text_of : ℕ → Option (List ℕ × ℕ) → Result Piece LexError
text_of at None = Err (OpenQuote at)
text_of at (Some found) = if is_utf8 found.0 then Ok (Found (kind.Text found.0) found.1) else Err (BadCharacter at)

abbrev pub one_sign : ℕ → Option Sign → Result Piece LexError
one_sign at (Some sign) = Ok (Found (kind.Sign sign) 0)
one_sign at None = Err (BadCharacter at)

-- a sign of two bytes goes before a sign of one
abbrev pub pair_or_one : ℕ → ℕ → Option Sign → Result Piece LexError
pair_or_one at b (Some sign) = Ok (Found (kind.Sign sign) 1)
pair_or_one at b None = one_sign at (sign_of b)

unfoldable pub sign_at : ℕ → ℕ → List ℕ → Result Piece LexError
sign_at at b [] = one_sign at (sign_of b)
sign_at at b (c ∷ rest) = pair_or_one at b (pair_of b c)

-- two dashes, 45
abbrev pub begins_comment : ℕ → List ℕ → Bool
begins_comment b [] = false
begins_comment b (c ∷ rest) = b == 45 && c == 45

-- what begins with the byte b at a place, before the rest of the text
unfoldable pub piece_at : ℕ → ℕ → List ℕ → Result Piece LexError
piece_at at b rest =
    if is_blank b then Ok (Skip 0)
    else (if begins_comment b rest then Ok (Skip (prefix_len is_in_line rest))
    else (if begins_name b then name_at b rest
    else (if is_ascii_digit b then number_at at b rest
    else (if b == 39 then text_of at (quoted rest)
    else sign_at at b rest))))

-- ---- the whole text

abbrev pub put_first : Token → Result (List Token) LexError → Result (List Token) LexError
put_first t (Ok ts) = Ok (t ∷ ts)
put_first t (Err e) = Err e

-- what the piece at a place gives, and what is read behind it where so many more of its bytes are left
abbrev pub with_piece : ℕ → Result Piece LexError → (ℕ → Result (List Token) LexError) → Result (List Token) LexError
with_piece at (Ok (Skip more)) after = after more
with_piece at (Ok (Found kind more)) after = put_first (record { kind = kind; start = at; end = at + 1 + more }) (after more)
with_piece at (Err e) after = Err e

-- the tokens from a place on, where so many bytes are left of the piece before
unfoldable pub tokens_from : ℕ → ℕ → List ℕ → Result (List Token) LexError
tokens_from left at [] = Ok []
tokens_from (suc left) at (b ∷ rest) = tokens_from left (at + 1) rest
tokens_from zero at (b ∷ rest) = with_piece at (piece_at at b rest) (λ left. tokens_from left (at + 1) rest)

-- the text's tokens, or the first refusal that it shows
abbrev pub tokens : List ℕ → Result (List Token) LexError
tokens text = tokens_from 0 0 text

-- ---- what the lexer answers

-- the definition's answer, unless memory fails
abbrev pub Gives : {A : Type 0} → Result A LexError → Result A LexError → Type 0
Gives (Ok found) defined = defined ≡ Ok found
Gives (Err e) defined = e ≢ Memory → defined ≡ Err e

-- of so many bytes behind the first the piece has no more
abbrev pub IsWithin : ℕ → Result Piece LexError → Type 0
IsWithin most (Ok (Skip more)) = more ≤ most
IsWithin most (Ok (Found kind more)) = more ≤ most
IsWithin most (Err e) = Unit {0}
