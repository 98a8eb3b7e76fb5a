-- What a token of a text may be.
use Rattle.std.proofs.Common.{◌≡◌, ℕ, zero, suc, ◌+◌, ◌==◌, List, [], ◌∷◌, take, map, fold, Bool, true, false, cond, if◌then◌else◌, nat_le, Option, Some, None, Result, Ok, Err, refl, ap, subst, arith}
use Rattle.std.proofs.lemmas.Bool.Decides.{nat_tests}
use Rattle.std.specs.List.{prefix_len, AllByRecursion}
use Rattle.std.specs.Char.{is_ascii_digit, to_ascii_lowercase}
use Rattle.std.specs.Str.{is_utf8}
use Rattle.cq_token.specs.declared.token.Token.{Token}
use Rattle.cq_token.specs.declared.token.Piece.{Piece}
use Rattle.cq_token.specs.declared.token.Piece.TheVariants.{Skip, Token as Found}
use Rattle.cq_token.specs.declared.error.LexError.{LexError}
use Rattle.cq_token.specs.declared.sign.Sign.{Sign}
use Rattle.cq_token.specs.Bytes.{is_blank, begins_name, is_in_name}
use Rattle.cq_token.specs.Signs.{sign_of, pair_of}
use Rattle.cq_token.specs.Tokens.{tokens, tokens_from, piece_at, with_piece, name_at, number_at, number_of, with_digit, greatest_number, text_of, quoted, sign_at, one_sign, pair_or_one, begins_comment}
use Rattle.cq_token.specs.Printed.{IsKind}
use Rattle.cq_token.proofs.Pieces.{by_if}
use Rattle.cq_token.proofs.Laws.{first_of, one_more}

-- the token of a piece is one that a text can have
abbrev Made : Result Piece LexError → Type 0
Made (Ok (Skip more)) = Unit {0}
Made (Ok (Found k more)) = IsKind k
Made (Err e) = Unit {0}

-- ---- names

lower_begins : (b : ℕ) → begins_name b ≡ true → begins_name (to_ascii_lowercase b) ≡ true
lower_begins b h = grind (arith, nat_tests)

lower_in : (b : ℕ) → is_in_name b ≡ true → is_in_name (to_ascii_lowercase b) ≡ true
lower_in b h = grind (arith, nat_tests)

lower_twice : (b : ℕ) → to_ascii_lowercase (to_ascii_lowercase b) ≡ to_ascii_lowercase b
lower_twice b = grind (arith, nat_tests)

all_twice : (bs : List ℕ) → map to_ascii_lowercase (map to_ascii_lowercase bs) ≡ map to_ascii_lowercase bs
all_twice [] = refl
all_twice (b ∷ bs) = rw (lower_twice b) (ap (λ l. to_ascii_lowercase b ∷ l) (all_twice bs))

by_test : (n b : ℕ) (bs : List ℕ) (t : Bool) → is_in_name b ≡ t → AllByRecursion (λ c. is_in_name c ≡ true) (map to_ascii_lowercase (take n bs))
    → AllByRecursion (λ c. is_in_name c ≡ true) (map to_ascii_lowercase (take (cond t (1 + n) 0) (b ∷ bs)))
by_test n b bs true e h = rw (one_more n b bs) (lower_in b e, h)
by_test n b bs false e h = tt

run_in : (bs : List ℕ) → AllByRecursion (λ c. is_in_name c ≡ true) (map to_ascii_lowercase (take (prefix_len is_in_name bs) bs))
run_in [] = tt
run_in (b ∷ bs) = by_test (prefix_len is_in_name bs) b bs (is_in_name b) refl (run_in bs)

made_name : (b : ℕ) (rest : List ℕ) → begins_name b ≡ true → Made (name_at b rest)
unfolding name_at
made_name b rest h =
    let more = prefix_len is_in_name rest in
    rw (one_more more b rest) (lower_begins b h, run_in rest, all_twice (b ∷ take more rest))

-- ---- the others

made_value : (at more n : ℕ) (t : Bool) → nat_le n greatest_number ≡ t → Made (number_of at more (if t then Some n else None))
made_value at more n true h = grind (arith, nat_tests)
made_value at more n false h = tt

made_number : (at b : ℕ) (rest : List ℕ) → Made (number_at at b rest)
unfolding number_at
made_number at b rest =
    let more = prefix_len is_ascii_digit rest in
    let n = fold with_digit 0 (take (1 + more) (b ∷ rest)) in
    made_value at more n (nat_le n greatest_number) refl

made_text : (at : ℕ) (o : Option (List ℕ × ℕ)) → Made (text_of at o)
made_text at None = tt
made_text at (Some found) = by_if Made (is_utf8 found.0) _ _ (λ h. h) (λ _. tt)

made_one : (at : ℕ) (o : Option Sign) → Made (one_sign at o)
made_one at (Some sign) = tt
made_one at None = tt

made_pair : (at b : ℕ) (o : Option Sign) → Made (pair_or_one at b o)
made_pair at b (Some sign) = tt
made_pair at b None = made_one at (sign_of b)

made_sign : (at b : ℕ) (rest : List ℕ) → Made (sign_at at b rest)
unfolding sign_at
made_sign at b [] = made_one at (sign_of b)
made_sign at b (c ∷ rest) = made_pair at b (pair_of b c)

made : (at b : ℕ) (rest : List ℕ) → Made (piece_at at b rest)
unfolding piece_at
made at b rest =
    by_if Made (is_blank b) _ _ (λ _. tt) (λ _.
    by_if Made (begins_comment b rest) _ _ (λ _. tt) (λ _.
    by_if Made (begins_name b) _ _ (λ h. made_name b rest h) (λ _.
    by_if Made (is_ascii_digit b) _ _ (λ _. made_number at b rest) (λ _.
    by_if Made (b == 39) _ _ (λ _. made_text at (quoted rest)) (λ _. made_sign at b rest)))))

-- ---- the whole text

abbrev pub AllMade : List Token → Type 0
AllMade ts = AllByRecursion (λ t. IsKind t.kind) ts

abbrev Hyp : List ℕ → Type 0
Hyp rest = (left at : ℕ) (ts : List Token) → tokens_from left at rest ≡ Ok ts → AllMade ts

by_piece : (at : ℕ) (rest : List ℕ) (ts : List Token) (p : Result Piece LexError) → Made p → Hyp rest → with_piece at p (λ left. tokens_from left (at + 1) rest) ≡ Ok ts → AllMade ts
by_piece at rest ts (Ok (Skip more)) m ih h = ih more (at + 1) ts h
by_piece at rest ts (Ok (Found k more)) m ih h =
    let found = first_of (record { kind = k; start = at; end = at + 1 + more }) (tokens_from more (at + 1) rest) ts h in
    subst AllMade found.1.1 (m, ih more (at + 1) found.0 found.1.0)
by_piece at rest ts (Err e) m ih h = absurd (cc h)

all_made : (z : List ℕ) → Hyp z
unfolding tokens_from
all_made [] zero at ts h = let none : [] ≡ ts = cc h in subst AllMade none tt
all_made [] (suc left) at ts h = let none : [] ≡ ts = cc h in subst AllMade none tt
all_made (b ∷ rest) (suc left) at ts h = all_made rest left (at + 1) ts h
all_made (b ∷ rest) zero at ts h = by_piece at rest ts (piece_at at b rest) (made at b rest) (all_made rest) h

pub tokens_made : (text : List ℕ) (ts : List Token) → tokens text ≡ Ok ts → AllMade ts
tokens_made text ts h = all_made text 0 0 ts h
