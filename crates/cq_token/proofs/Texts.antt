-- A text's content is UTF-8.
use Rattle.std.proofs.Common.{◌≡◌, ℕ, List, Bool, true, false, Some, Result, Ok, Err, refl, sym, ap, if◌then◌else◌}
use Rattle.std.specs.Result.{MatchResult, IsOk}
use Rattle.std.specs.Str.{IsUtf8, is_utf8}
use Rattle.std.proofs.lemmas.Str.{IsUtf8-from_is_utf8, is_utf8-from_IsUtf8}
use Rattle.cq_token.specs.declared.token.TokenKind.TheVariants as kind
use Rattle.cq_token.specs.declared.token.Piece.{Piece}
use Rattle.cq_token.specs.declared.token.Piece.TheVariants.{Token as Found}
use Rattle.cq_token.specs.declared.error.LexError.{LexError}
use Rattle.cq_token.specs.declared.error.LexError.TheVariants.{BadCharacter}
use Rattle.cq_token.specs.Tokens.{text_of}

abbrev pub answer : ℕ → List ℕ → ℕ → Bool → Result Piece LexError
answer at content more b = if b then Ok (Found (kind.Text content) more) else Err (BadCharacter at)

-- a test that what it tests refutes
off : (b : Bool) → (b ≡ true → false ≡ true) → b ≡ false
off true h = sym (h refl)
off false h = refl

pub good_text : (at more : ℕ) (content : List ℕ) → IsUtf8 content → answer at content more true ≡ text_of at (Some (content, more))
good_text at more content h = ap (answer at content more) (sym (is_utf8-from_IsUtf8 content h))

pub bad_text : (at more : ℕ) (content : List ℕ) → (IsUtf8 content → false ≡ true) → answer at content more false ≡ text_of at (Some (content, more))
bad_text at more content h = ap (answer at content more) (sym (off (is_utf8 content) (λ e. h (IsUtf8-from_is_utf8 content e))))

pub ok_where : {A E : Type 0} (U : Type 0) (P : A → Type 0) (Q : E → Type 0) (r : Result A E) → MatchResult r P (λ e. ¬ U × Q e) → U → IsOk r
ok_where U P Q (Ok x) h u = refl
ok_where U P Q (Err e) h u = absurd (h.0 u)
