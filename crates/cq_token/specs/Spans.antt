-- Where the tokens of a text stand: the text is made of them, with blanks and comments between.
use Rattle.std.specs.Prelude.{◌≡◌, ◌<◌, ◌≤◌, ℕ, ◌+◌, Bool, true, false, not, ◌&&◌, ◌||◌, if◌then◌else◌, ◌==◌, List, [], ◌∷◌, ◌++◌, length}
use Rattle.cq_token.specs.declared.token.Token.{Token}
use Rattle.cq_token.specs.Bytes.{is_blank, is_in_line}

-- whether bytes are blanks and comments, which go on to the end of their line; `inside`: they begin in a comment, `last`: they may end in one
abbrev pub is_gap : Bool → List ℕ → Bool → Bool
is_gap inside [] last = last || not inside
is_gap true (b ∷ rest) last = is_gap (is_in_line b) rest last
is_gap false (b ∷ []) last = is_blank b
is_gap false (b ∷ c ∷ rest) last = if b == 45 && c == 45 then is_gap true rest last else is_blank b && is_gap false (c ∷ rest) last

-- a token's bytes, behind a gap and before the rest of the text
pub record Parts (inside : Bool) (at : ℕ) (t : Token) (text : List ℕ) : Type 0 where
  pub gap : List ℕ
  pub word : List ℕ
  pub rest : List ℕ
  pub whole : text ≡ gap ++ (word ++ rest)
  pub apart : is_gap inside gap false ≡ true
  pub start : t.start ≡ at + length gap
  pub end : t.end ≡ t.start + length word
  pub some : 0 < length word

-- the text from a place on is cut into these tokens
abbrev pub Cut : Bool → ℕ → List Token → List ℕ → Type 0
Cut inside at [] text = is_gap inside text true ≡ true
Cut inside at (t ∷ ts) text = (parts : Parts inside at t text) × Cut false t.end ts parts.rest

-- from a place on and up to the end, one behind another
abbrev pub InOrder : ℕ → List Token → ℕ → Type 0
InOrder from [] end = from ≤ end
InOrder from (t ∷ ts) end = (from ≤ t.start) × (t.start < t.end) × InOrder t.end ts end
