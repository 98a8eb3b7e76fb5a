-- A text of ASCII in lower case is a text.
use Rattle.std.specs.Prelude.{ℕ, List, map, IsUtf8}
use Rattle.std.specs.Char.{to_ascii_lowercase}
use Rattle.std.specs.Str.{IsAscii}
use Rattle.std.proofs.Common.{arith}
use Rattle.std.proofs.lemmas.Str.{IsUtf8-from_ascii}
use Rattle.std.proofs.lemmas.Str.Ascii.{IsAscii-map}

pub folded_utf8 : (bs : List ℕ) → IsAscii bs → IsUtf8 (map to_ascii_lowercase bs)
folded_utf8 bs ascii = IsUtf8-from_ascii _ (IsAscii-map to_ascii_lowercase bs (λ b low. grind arith) ascii)
