-- The tokens, a piece at a time.
use Rattle.std.proofs.Common.{◌≡◌, ◌≢◌, ℕ, zero, suc, ◌+◌, ◌-◌, ◌<◌, ◌≤◌, List, [], ◌∷◌, ◌++◌, append_assoc, length, get_or, drop, take, Result, Ok, Err, refl, sym, ◌∙◌, ap, arith, length-drop}
use Rattle.std.proofs.lemmas.List.{drop_more, drop_all, drop-drop, append-nil, take_all}
use Rattle.cq_token.specs.declared.token.Token.{Token}
use Rattle.cq_token.specs.declared.error.LexError.{LexError}
use Rattle.cq_token.specs.declared.error.LexError.TheVariants.{Memory}
use Rattle.std.specs.Result.{IsErr, IsErrAnd}
use Rattle.cq_token.specs.declared.token.TokenKind.{TokenKind}
use Rattle.cq_token.specs.declared.token.Piece.{Piece}
use Rattle.cq_token.specs.declared.token.Piece.TheVariants.{Skip, Token as Found}
use Rattle.cq_token.specs.Tokens.{tokens_from, with_piece, piece_at, put_first, Gives}

-- these stand before those
abbrev pub put_all : List Token → Result (List Token) LexError → Result (List Token) LexError
put_all front (Ok ts) = Ok (front ++ ts)
put_all front (Err e) = Err e

pub skip : (n at : ℕ) (z : List ℕ) → n ≤ length z → tokens_from n at z ≡ tokens_from 0 (at + n) (drop n z)
unfolding tokens_from
skip zero at z le = let e : at ≡ at + 0 = omega arith in ap (λ i. tokens_from 0 i z) e
skip (suc n) at [] le = absurd (omega arith)
skip (suc n) at (b ∷ z) le = let e : at + 1 + n ≡ at + suc n = omega arith in skip n (at + 1) z (omega arith) ∙ ap (λ i. tokens_from 0 i (drop n z)) e

one_piece : (at : ℕ) (text : List ℕ) → at < length text
    → tokens_from 0 at (drop at text) ≡ with_piece at (piece_at at (get_or text at 0) (drop (at + 1) text)) (λ left. tokens_from left (at + 1) (drop (at + 1) text))
unfolding tokens_from
one_piece at text lt = ap (tokens_from 0 at) (drop_more text at 0 lt)

behind_piece : (at more : ℕ) (text : List ℕ) → at + (1 + more) ≤ length text
    → tokens_from more (at + 1) (drop (at + 1) text) ≡ tokens_from 0 (at + (1 + more)) (drop (at + (1 + more)) text)
behind_piece at more text le =
    let place : at + 1 + more ≡ at + (1 + more) = omega arith in
    skip more (at + 1) (drop (at + 1) text) (omega (arith, length-drop (at + 1) text))
    ∙ ap (λ z. tokens_from 0 (at + 1 + more) z) (drop-drop more (at + 1) text)
    ∙ ap (λ i. tokens_from 0 i (drop i text)) place

-- the definition's piece at the place is this one
abbrev pub IsPiece : ℕ → List ℕ → Result Piece LexError → Type 0
IsPiece at bytes p = (b : ℕ) (rest : List ℕ) → bytes ≡ b ∷ rest → piece_at at b rest ≡ p

pub rest_of : (at : ℕ) (text : List ℕ) → take (length text - at) (drop at text) ≡ drop at text
rest_of at text = take_all (length text - at) (drop at text) (omega (arith, length-drop at text))

pub turn : (at : ℕ) (text : List ℕ) (p : Result Piece LexError) → at < length text → IsPiece at (take (length text - at) (drop at text)) p
    → tokens_from 0 at (drop at text) ≡ with_piece at p (λ left. tokens_from left (at + 1) (drop (at + 1) text))
turn at text p lt is =
    one_piece at text lt
    ∙ ap (λ q. with_piece at q (λ left. tokens_from left (at + 1) (drop (at + 1) text))) (is (get_or text at 0) (drop (at + 1) text) (rest_of at text ∙ drop_more text at 0 lt))

pub in_text : (at more : ℕ) (text : List ℕ) → at < length text → more ≤ length (take (length text - at) (drop at text)) - 1 → at + (1 + more) ≤ length text
in_text at more text lt le = omega (arith, ap length (rest_of at text), length-drop at text)

pub past_skip : (at more : ℕ) (text : List ℕ) → at < length text → at + (1 + more) ≤ length text → IsPiece at (take (length text - at) (drop at text)) (Ok (Skip more))
    → tokens_from 0 at (drop at text) ≡ tokens_from 0 (at + (1 + more)) (drop (at + (1 + more)) text)
past_skip at more text lt le is = turn at text (Ok (Skip more)) lt is ∙ behind_piece at more text le

pub past_token : (at more : ℕ) (k : TokenKind) (text : List ℕ) → at < length text → at + (1 + more) ≤ length text → IsPiece at (take (length text - at) (drop at text)) (Ok (Found k more))
    → tokens_from 0 at (drop at text) ≡ put_first (record { kind = k; start = at; end = at + 1 + more }) (tokens_from 0 (at + (1 + more)) (drop (at + (1 + more)) text))
past_token at more k text lt le is =
    turn at text (Ok (Found k more)) lt is ∙ ap (put_first (record { kind = k; start = at; end = at + 1 + more })) (behind_piece at more text le)

abbrev lexed : List Token → Result (List Token) LexError
lexed ts = Ok ts

pub put_one : (front : List Token) (t : Token) (o : Result (List Token) LexError) → put_all front (put_first t o) ≡ put_all (front ++ t ∷ []) o
put_one front t (Ok ts) = ap lexed (simp append_assoc)
put_one front t (Err e) = refl

pub put_none : (o : Result (List Token) LexError) → o ≡ put_all [] o
put_none (Ok ts) = refl
put_none (Err e) = refl

pub at_end : (front : List Token) (at : ℕ) (text : List ℕ) → length text ≤ at → put_all front (tokens_from 0 at (drop at text)) ≡ lexed front
unfolding tokens_from
at_end front at text le = ap (λ z. put_all front (tokens_from 0 at z)) (drop_all at text le) ∙ ap lexed (append-nil front)

-- an answer that hands on an error of the definition
pub stops : (r d : Result (List Token) LexError) (e : LexError) → IsErr r → IsErrAnd r (λ x. x ≡ e) → (e ≢ Memory → d ≡ Err e) → Gives r d
stops (Ok ts) d e h k m = absurd (cc h)
stops (Err x) d e h k m = λ ne. m (λ q. ne (k ∙ q)) ∙ ap (λ y. Err y) (sym k)
