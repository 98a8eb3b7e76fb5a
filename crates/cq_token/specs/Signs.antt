-- The signs that bytes make.
use Rattle.std.specs.Prelude.{ℕ, ◌&&◌, ◌||◌, if◌then◌else◌, ◌==◌, Option, Some, None}
use Rattle.cq_token.specs.declared.sign.Sign.{Sign}
use Rattle.cq_token.specs.declared.sign.Sign.TheVariants as s

-- <> and != are one sign; <= >= =>
abbrev pub pair_of : ℕ → ℕ → Option Sign
pair_of b c =
    if b == 60 && c == 62 || b == 33 && c == 61 then Some s.NotEqual
    else (if b == 60 && c == 61 then Some s.LessOrEqual
    else (if b == 62 && c == 61 then Some s.GreaterOrEqual
    else (if b == 61 && c == 62 then Some s.Arrow
    else None)))

-- ( ) , . ; * / % + - = < >
abbrev pub sign_of : ℕ → Option Sign
sign_of b =
    if b == 40 then Some s.Open
    else (if b == 41 then Some s.Close
    else (if b == 44 then Some s.Comma
    else (if b == 46 then Some s.Dot
    else (if b == 59 then Some s.Semicolon
    else (if b == 42 then Some s.Star
    else (if b == 47 then Some s.Slash
    else (if b == 37 then Some s.Percent
    else (if b == 43 then Some s.Plus
    else (if b == 45 then Some s.Minus
    else (if b == 61 then Some s.Equal
    else (if b == 60 then Some s.Less
    else (if b == 62 then Some s.Greater
    else None))))))))))))
