-- The lexer's definition never names want of memory.
use Rattle.std.proofs.Common.{◌≡◌, ℕ, zero, suc, ◌+◌, ◌==◌, List, [], ◌∷◌, take, Bool, true, false, if◌then◌else◌, Option, Some, None, Result, Ok, Err, subst}
use Rattle.std.specs.Prelude.{⊤}
use Rattle.std.specs.List.{prefix_len}
use Rattle.std.specs.Char.{is_ascii_digit}
use Rattle.std.specs.Str.{is_utf8}
use Rattle.cq_token.specs.declared.token.Token.{Token}
use Rattle.cq_token.specs.declared.token.TokenKind.TheVariants as kind
use Rattle.cq_token.specs.declared.token.Piece.{Piece}
use Rattle.cq_token.specs.declared.token.Piece.TheVariants.{Skip, Token as Found}
use Rattle.cq_token.specs.declared.error.LexError.{LexError}
use Rattle.cq_token.specs.declared.error.LexError.TheVariants.{OpenQuote, BadCharacter, TooLarge, Memory}
use Rattle.cq_token.specs.declared.sign.Sign.{Sign}
use Rattle.cq_token.specs.Bytes.{is_blank, begins_name, is_in_line}
use Rattle.cq_token.specs.Signs.{sign_of, pair_of}
use Rattle.cq_token.specs.Tokens.{name_at, value_of, number_of, number_at, quoted, text_of, one_sign, pair_or_one, sign_at, begins_comment, piece_at, put_first, with_piece, tokens_from, tokens}

-- no want of memory
abbrev IsNamed : {A : Type 0} → Result A LexError → Type 0
IsNamed (Err Memory) = ⊥
IsNamed r = ⊤

either_named : (b : Bool) (x y : Result Piece LexError) → IsNamed x → IsNamed y → IsNamed (if b then x else y)
either_named true x y p q = p
either_named false x y p q = q

number_of_named : (at more : ℕ) (n : Option ℕ) → IsNamed (number_of at more n)
number_of_named at more (Some n) = tt
number_of_named at more None = tt

text_named : (at : ℕ) (found : Option (List ℕ × ℕ)) → IsNamed (text_of at found)
text_named at None = tt
text_named at (Some found) = either_named (is_utf8 found.0) (Ok (Found (kind.Text found.0) found.1)) (Err (BadCharacter at)) tt tt

one_named : (at : ℕ) (sign : Option Sign) → IsNamed (one_sign at sign)
one_named at (Some sign) = tt
one_named at None = tt

pair_named : (at b : ℕ) (sign : Option Sign) → IsNamed (pair_or_one at b sign)
pair_named at b (Some sign) = tt
pair_named at b None = one_named at (sign_of b)

sign_named : (at b : ℕ) (rest : List ℕ) → IsNamed (sign_at at b rest)
unfolding sign_at
sign_named at b [] = one_named at (sign_of b)
sign_named at b (c ∷ rest) = pair_named at b (pair_of b c)

name_named : (b : ℕ) (rest : List ℕ) → IsNamed (name_at b rest)
unfolding name_at
name_named b rest = tt

number_named : (at b : ℕ) (rest : List ℕ) → IsNamed (number_at at b rest)
unfolding number_at
number_named at b rest = let more = prefix_len is_ascii_digit rest in number_of_named at more (value_of (take (1 + more) (b ∷ rest)))

quote_or_sign_named : (at b : ℕ) (rest : List ℕ) → IsNamed (if b == 39 then text_of at (quoted rest) else sign_at at b rest)
quote_or_sign_named at b rest = either_named (b == 39) (text_of at (quoted rest)) (sign_at at b rest) (text_named at (quoted rest)) (sign_named at b rest)

number_or_less_named : (at b : ℕ) (rest : List ℕ) → IsNamed (if is_ascii_digit b then number_at at b rest else (if b == 39 then text_of at (quoted rest) else sign_at at b rest))
number_or_less_named at b rest =
    either_named (is_ascii_digit b) (number_at at b rest) (if b == 39 then text_of at (quoted rest) else sign_at at b rest) (number_named at b rest) (quote_or_sign_named at b rest)

piece_named : (at b : ℕ) (rest : List ℕ) → IsNamed (piece_at at b rest)
unfolding piece_at
piece_named at b rest =
    let number = if is_ascii_digit b then number_at at b rest else (if b == 39 then text_of at (quoted rest) else sign_at at b rest) in
    let name = if begins_name b then name_at b rest else number in
    let comment = if begins_comment b rest then Ok (Skip (prefix_len is_in_line rest)) else name in
    either_named (is_blank b) (Ok (Skip 0)) comment tt
    (either_named (begins_comment b rest) (Ok (Skip (prefix_len is_in_line rest))) name tt
    (either_named (begins_name b) (name_at b rest) number (name_named b rest) (number_or_less_named at b rest)))

first_named : (t : Token) (r : Result (List Token) LexError) → IsNamed r → IsNamed (put_first t r)
first_named t (Ok ts) named = tt
first_named t (Err (OpenQuote at)) named = tt
first_named t (Err (BadCharacter at)) named = tt
first_named t (Err (TooLarge at)) named = tt
first_named t (Err Memory) named = named

with_piece_named : (at : ℕ) (p : Result Piece LexError) (after : ℕ → Result (List Token) LexError) → IsNamed p → ((left : ℕ) → IsNamed (after left)) → IsNamed (with_piece at p after)
with_piece_named at (Ok (Skip more)) after named rest = rest more
with_piece_named at (Ok (Found kind more)) after named rest = first_named (record { kind = kind; start = at; end = at + 1 + more }) (after more) (rest more)
with_piece_named at (Err (OpenQuote place)) after named rest = tt
with_piece_named at (Err (BadCharacter place)) after named rest = tt
with_piece_named at (Err (TooLarge place)) after named rest = tt
with_piece_named at (Err Memory) after named rest = named

tokens_named : (left at : ℕ) (text : List ℕ) → IsNamed (tokens_from left at text)
unfolding tokens_from
tokens_named left at [] = tt
tokens_named (suc left) at (b ∷ rest) = tokens_named left (at + 1) rest
tokens_named zero at (b ∷ rest) = with_piece_named at (piece_at at b rest) (λ left. tokens_from left (at + 1) rest) (piece_named at b rest) (λ left. tokens_named left (at + 1) rest)

-- a text is refused for what it is
pub never_memory : (text : List ℕ) → tokens text ≡ Err Memory → ⊥
never_memory text e = subst (λ (r : Result (List Token) LexError). IsNamed r) e (tokens_named 0 0 text)
