-- Numbers are small where each token is one that a text can have.
use Rattle.std.proofs.Common.{◌≡◌, ◌^◌, ◌≤◌, ℕ, nat_lt, true, refl, sym, subst, arith}
use Rattle.std.proofs.lemmas.Bool.Decides.{nat_tests}
use Rattle.cq_token.specs.declared.token.Token.{Token}
use Rattle.cq_token.specs.declared.token.TokenKind.{TokenKind}
use Rattle.cq_token.specs.declared.token.TokenKind.TheVariants as token
use Rattle.cq_token.specs.Tokens.{greatest_number}
use Rattle.cq_token.specs.Printed.{IsKind}
use Rattle.cq_token.proofs.Made.{AllMade}
use Rattle.cq_grammar.specs.declared.query.Count.{Count}
use Rattle.cq_grammar.specs.Words.{number_of}
use Rattle.cq_grammar.specs.Terminals.{a_number}
use Rattle.cq_reading_laws.proofs.WrittenPieces.{Gives}

abbrev token_of : TokenKind → Token
token_of j = record { kind = j; start = 0; end = 0 }

small : (n : ℕ) → n ≤ greatest_number → nat_lt n (2 ^ 64) ≡ true
small n h = grind (arith, nat_tests)

small_kind : (j : TokenKind) → IsKind j → nat_lt (number_of (token_of j)) (2 ^ 64) ≡ true
small_kind (token.Name letters) h = refl
small_kind (token.Number n) h = small n h
small_kind (token.Text content) h = refl
small_kind (token.Sign sign) h = refl

abbrev pub IsSmall : Count → Type 0
IsSmall n = nat_lt n.value (2 ^ 64) ≡ true

pub number_gives : Gives a_number IsSmall
number_gives = record { holds = λ n ts m p. subst IsSmall (sym p.is) (small_kind p.from.kind (subst AllMade p.phrase.alone m).0) }
