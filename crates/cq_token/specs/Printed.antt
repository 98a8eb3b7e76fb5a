-- How tokens are written, so that they are read again.
use Rattle.std.specs.Prelude.{◌≡◌, ◌≤◌, ℕ, ◌+◌, Bool, true, ◌==◌, ⊤, if◌then◌else◌, List, [], ◌∷◌, ◌++◌, map, flat_map, length, codes, decimal, Result, Ok, Err}
use Rattle.std.specs.List.{AllByRecursion, join_by}
use Rattle.std.specs.Char.{to_ascii_lowercase, to_ascii_uppercase}
use Rattle.std.specs.Str.{is_utf8}
use Rattle.cq_token.specs.declared.token.Token.{Token}
use Rattle.cq_token.specs.declared.token.TokenKind.{TokenKind}
use Rattle.cq_token.specs.declared.token.TokenKind.TheVariants as kind
use Rattle.cq_token.specs.declared.printer.Word.{Word}
use Rattle.cq_token.specs.declared.error.LexError.{LexError}
use Rattle.cq_token.specs.declared.sign.Sign.{Sign}
use Rattle.cq_token.specs.declared.sign.Sign.TheVariants as s
use Rattle.cq_token.specs.Bytes.{is_blank, begins_name, is_in_name}
use Rattle.cq_token.specs.Tokens.{tokens_from, put_first, greatest_number}

-- ---- what a token may be

-- a name in lower case
abbrev pub IsName : List ℕ → Type 0
IsName [] = ⊥
IsName (b ∷ bs) = (begins_name b ≡ true) × AllByRecursion (λ c. is_in_name c ≡ true) bs × (map to_ascii_lowercase (b ∷ bs) ≡ b ∷ bs)

abbrev pub IsKind : TokenKind → Type 0
IsKind (kind.Name name) = IsName name
IsKind (kind.Number n) = n ≤ greatest_number
IsKind (kind.Text content) = is_utf8 content ≡ true
IsKind (kind.Sign sign) = ⊤

-- ---- how it is written

abbrev pub sign_bytes : Sign → List ℕ
sign_bytes s.Open = codes "("
sign_bytes s.Close = codes ")"
sign_bytes s.Comma = codes ","
sign_bytes s.Dot = codes "."
sign_bytes s.Semicolon = codes ";"
sign_bytes s.Star = codes "*"
sign_bytes s.Slash = codes "/"
sign_bytes s.Percent = codes "%"
sign_bytes s.Plus = codes "+"
sign_bytes s.Minus = codes "-"
sign_bytes s.Equal = codes "="
sign_bytes s.NotEqual = codes "<>"
sign_bytes s.Less = codes "<"
sign_bytes s.LessOrEqual = codes "<="
sign_bytes s.Greater = codes ">"
sign_bytes s.GreaterOrEqual = codes ">="
sign_bytes s.Arrow = codes "=>"

-- a quote is doubled
abbrev pub doubled : ℕ → List ℕ
doubled b = if b == 39 then 39 ∷ 39 ∷ [] else b ∷ []

abbrev pub kind_bytes : Bool → TokenKind → List ℕ
kind_bytes upper (kind.Name name) = if upper then map to_ascii_uppercase name else name
kind_bytes upper (kind.Number n) = decimal n
kind_bytes upper (kind.Text content) = 39 ∷ (flat_map doubled content ++ 39 ∷ [])
kind_bytes upper (kind.Sign sign) = sign_bytes sign

abbrev pub spelled : Word → List ℕ
spelled word = kind_bytes word.upper word.kind

-- one blank between the words
abbrev pub printed : List Word → List ℕ
printed words = join_by spelled (32 ∷ []) words

-- ---- that it is read again

-- a blank or the text's end
abbrev pub Parted : List ℕ → Type 0
Parted [] = ⊤
Parted (b ∷ bs) = is_blank b ≡ true

-- before a blank or the end, the bytes are read as this token
abbrev pub ReadAs : TokenKind → List ℕ → Type 0
ReadAs k bytes = (at : ℕ) (rest : List ℕ) → Parted rest
    → tokens_from 0 at (bytes ++ rest) ≡ put_first (record { kind = k; start = at; end = at + length bytes }) (tokens_from 0 (at + length bytes) rest)

abbrev pub kinds : Result (List Token) LexError → Result (List TokenKind) LexError
kinds (Ok ts) = Ok (map (λ t. t.kind) ts)
kinds (Err e) = Err e
