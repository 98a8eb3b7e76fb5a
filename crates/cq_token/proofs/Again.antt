-- What is written is read again.
use Rattle.std.proofs.Common.{◌≡◌, ◌≢◌, ℕ, suc, ◌+◌, ◌-◌, ◌*◌, ◌/◌, ◌%◌, ◌<◌, ◌≤◌, ◌^◌, ◌==◌, ◌||◌, List, [], ◌∷◌, ◌++◌, append_assoc, length, length-append, take, map, fold, flat_map, decimal, Bool, true, false, if◌then◌else◌, nat_le, Some, None, Result, Ok, Err, refl, sym, ◌∙◌, ap, subst, eq-eqb, arith}
use Rattle.std.proofs.lemmas.Bool.{le-leb}
use Rattle.std.proofs.lemmas.Bool.Decides.{nat_tests}
use Rattle.std.proofs.Math.Seq.{drop-append_seam, take-append_seam}
use Rattle.std.proofs.lemmas.Fmt.{decimal_by_steps, decimal_nonempty}
use Rattle.std.specs.List.{prefix_len, AllByRecursion}
use Rattle.std.specs.Char.{is_ascii_digit, to_ascii_lowercase, to_ascii_uppercase}
use Rattle.std.specs.Str.{is_utf8}
use Rattle.cq_token.specs.declared.token.Token.{Token}
use Rattle.cq_token.specs.declared.token.TokenKind.{TokenKind}
use Rattle.cq_token.specs.declared.token.TokenKind.TheVariants as kind
use Rattle.cq_token.specs.declared.token.Piece.TheVariants.{Token as Found}
use Rattle.cq_token.specs.declared.error.LexError.{LexError}
use Rattle.cq_token.specs.declared.error.LexError.TheVariants.{BadCharacter}
use Rattle.cq_token.specs.declared.printer.Word.{Word}
use Rattle.cq_token.specs.declared.sign.Sign.{Sign}
use Rattle.cq_token.specs.declared.sign.Sign.TheVariants as s
use Rattle.cq_token.specs.Bytes.{is_blank, begins_name, is_in_name}
use Rattle.cq_token.specs.Tokens.{tokens, tokens_from, piece_at, with_piece, put_first, name_at, number_at, number_of, value_of, with_digit, greatest_number, text_of, quoted, behind, sign_at, begins_comment}
use Rattle.cq_token.specs.Printed.{IsName, IsKind, kind_bytes, sign_bytes, doubled, spelled, printed, Parted, ReadAs, kinds}
use Rattle.cq_token.proofs.Steps.{skip}
use Rattle.cq_token.proofs.Quotes.{no_quote, two_quotes, last_quote, one_quote}

-- a piece of this kind, and what stands behind it
piece_read : (k : TokenKind) (b : ℕ) (bs : List ℕ) → ((at : ℕ) (rest : List ℕ) → Parted rest → piece_at at b (bs ++ rest) ≡ Ok (Found k (length bs))) → ReadAs k (b ∷ bs)
unfolding tokens_from
piece_read k b bs is at rest parted =
    let more = length bs in
    let all : more ≤ length (bs ++ rest) = omega (arith, length-append bs rest) in
    let place : at + 1 + more ≡ at + length (b ∷ bs) = omega arith in
    let token = λ (end : ℕ). put_first (record { kind = k; start = at; end = end }) (tokens_from 0 end rest) in
    ap (λ p. with_piece at p (λ left. tokens_from left (at + 1) (bs ++ rest))) (is at rest parted)
    ∙ ap (put_first (record { kind = k; start = at; end = at + 1 + more })) (skip more (at + 1) (bs ++ rest) all ∙ ap (tokens_from 0 (at + 1 + more)) (drop-append_seam bs rest))
    ∙ ap token place

-- ---- runs that end at a blank

by_stop : (p : ℕ → Bool) → ((b : ℕ) → is_blank b ≡ true → p b ≡ false) → (rest : List ℕ) → Parted rest → prefix_len p rest ≡ 0
by_stop p stops [] parted = refl
by_stop p stops (b ∷ rest) parted = rw (stops b parted) refl

run : (p : ℕ → Bool) → ((b : ℕ) → is_blank b ≡ true → p b ≡ false) → (bs rest : List ℕ) → AllByRecursion (λ b. p b ≡ true) bs → Parted rest → prefix_len p (bs ++ rest) ≡ length bs
run p stops [] rest all parted = by_stop p stops rest parted
run p stops (b ∷ bs) rest all parted = rw all.0 (let h = run p stops bs rest all.1 parted in omega (arith, h))

front : (b : ℕ) (bs rest : List ℕ) → take (1 + length bs) (b ∷ (bs ++ rest)) ≡ b ∷ bs
front b bs rest = let e : 1 + length bs ≡ suc (length bs) = omega arith in rw e (ap (λ l. b ∷ l) (take-append_seam bs rest))

-- ---- names

name_stops : (b : ℕ) → is_blank b ≡ true → is_in_name b ≡ false
name_stops b h = grind (arith, nat_tests)

name_not_blank : (b : ℕ) → begins_name b ≡ true → is_blank b ≡ false
name_not_blank b h = grind (arith, nat_tests)

name_no_comment : (b : ℕ) (rest : List ℕ) → begins_name b ≡ true → begins_comment b rest ≡ false
name_no_comment b [] h = refl
name_no_comment b (c ∷ rest) h = grind (arith, nat_tests)

name_piece : (at b : ℕ) (bs rest : List ℕ) → begins_name b ≡ true → AllByRecursion (λ c. is_in_name c ≡ true) bs → Parted rest
    → piece_at at b (bs ++ rest) ≡ Ok (Found (kind.Name (map to_ascii_lowercase (b ∷ bs))) (length bs))
unfolding piece_at name_at
name_piece at b bs rest h all parted =
    rw (name_not_blank b h, name_no_comment b (bs ++ rest) h, h)
    (rw (run is_in_name name_stops bs rest all parted) (ap (λ w. Ok (Found (kind.Name (map to_ascii_lowercase w)) (length bs))) (front b bs rest)))

-- a name in any case is read in lower case
name_again : (b : ℕ) (bs : List ℕ) → begins_name b ≡ true → AllByRecursion (λ c. is_in_name c ≡ true) bs → ReadAs (kind.Name (map to_ascii_lowercase (b ∷ bs))) (b ∷ bs)
name_again b bs h all = piece_read (kind.Name (map to_ascii_lowercase (b ∷ bs))) b bs (λ at rest parted. name_piece at b bs rest h all parted)

upper_begins : (b : ℕ) → begins_name b ≡ true → begins_name (to_ascii_uppercase b) ≡ true
upper_begins b h = grind (arith, nat_tests)

upper_in : (b : ℕ) → is_in_name b ≡ true → is_in_name (to_ascii_uppercase b) ≡ true
upper_in b h = grind (arith, nat_tests)

all_upper_in : (bs : List ℕ) → AllByRecursion (λ c. is_in_name c ≡ true) bs → AllByRecursion (λ c. is_in_name c ≡ true) (map to_ascii_uppercase bs)
all_upper_in [] all = tt
all_upper_in (b ∷ bs) all = (upper_in b all.0, all_upper_in bs all.1)

back : (b : ℕ) → to_ascii_lowercase (to_ascii_uppercase b) ≡ to_ascii_lowercase b
back b = grind (arith, nat_tests)

all_back : (bs : List ℕ) → map to_ascii_lowercase (map to_ascii_uppercase bs) ≡ map to_ascii_lowercase bs
all_back [] = refl
all_back (b ∷ bs) = rw (back b) (ap (λ l. to_ascii_lowercase b ∷ l) (all_back bs))

name_read : (upper : Bool) (name : List ℕ) → IsName name → ReadAs (kind.Name name) (kind_bytes upper (kind.Name name))
name_read upper [] h = absurd h
name_read false (b ∷ bs) h = subst (λ (n : List ℕ). ReadAs (kind.Name n) (b ∷ bs)) h.2 (name_again b bs h.0 h.1)
name_read true (b ∷ bs) h =
    subst (λ (n : List ℕ). ReadAs (kind.Name n) (map to_ascii_uppercase (b ∷ bs))) (all_back (b ∷ bs) ∙ h.2)
    (name_again (to_ascii_uppercase b) (map to_ascii_uppercase bs) (upper_begins b h.0) (all_upper_in bs h.1))

-- ---- numbers

digit_stops : (b : ℕ) → is_blank b ≡ true → is_ascii_digit b ≡ false
digit_stops b h = grind (arith, nat_tests)

digit_not_blank : (b : ℕ) → is_ascii_digit b ≡ true → is_blank b ≡ false
digit_not_blank b h = grind (arith, nat_tests)

digit_no_name : (b : ℕ) → is_ascii_digit b ≡ true → begins_name b ≡ false
digit_no_name b h = grind (arith, nat_tests)

digit_no_comment : (b : ℕ) (rest : List ℕ) → is_ascii_digit b ≡ true → begins_comment b rest ≡ false
digit_no_comment b [] h = refl
digit_no_comment b (c ∷ rest) h = grind (arith, nat_tests)

-- digits that write this number
abbrev Writes : ℕ → List ℕ → Type 0
Writes n ds = AllByRecursion (λ b. is_ascii_digit b ≡ true) ds × (fold with_digit 0 ds ≡ n)

is_digit : (d : ℕ) → d < 10 → is_ascii_digit (48 + d) ≡ true
is_digit d h = grind (arith, nat_tests)

digits_and : (ds : List ℕ) (b : ℕ) → AllByRecursion (λ b. is_ascii_digit b ≡ true) ds → is_ascii_digit b ≡ true → AllByRecursion (λ b. is_ascii_digit b ≡ true) (ds ++ b ∷ [])
digits_and [] b all h = (h, tt)
digits_and (d ∷ ds) b all h = (all.0, digits_and ds b all.1 h)

fold_and : (n : ℕ) (ds : List ℕ) (b : ℕ) → fold with_digit n (ds ++ b ∷ []) ≡ 10 * fold with_digit n ds + (b - 48)
fold_and n [] b = refl
fold_and n (d ∷ ds) b = fold_and (10 * n + (d - 48)) ds b

one_writes : (n : ℕ) → n < 10 → Writes n ((48 + n) ∷ [])
one_writes n h = ((is_digit n h, tt), omega arith)

more_writes : (n : ℕ) (ds : List ℕ) → 10 ≤ n → Writes (n / 10) ds → Writes n (ds ++ ((48 + n % 10) ∷ []))
more_writes n ds h w = (digits_and ds (48 + n % 10) w.0 (is_digit (n % 10) (omega arith)), omega (arith, fold_and 0 ds (48 + n % 10), w.1))

decimal_writes : (n : ℕ) → n < 2 ^ 64 → Writes n (decimal n)
decimal_writes n h = decimal_by_steps Writes one_writes more_writes n h

number_piece : (at n b : ℕ) (bs rest : List ℕ) → n ≤ greatest_number → Writes n (b ∷ bs) → Parted rest → piece_at at b (bs ++ rest) ≡ Ok (Found (kind.Number n) (length bs))
unfolding piece_at number_at
number_piece at n b bs rest small w parted =
    let h = w.0.0 in
    rw (digit_not_blank b h, digit_no_comment b (bs ++ rest) h, digit_no_name b h, h)
    (rw (run is_ascii_digit digit_stops bs rest w.0.1 parted)
    (ap (λ ds. number_of at (length bs) (value_of ds)) (front b bs rest)
    ∙ ap (λ v. number_of at (length bs) (if nat_le v greatest_number then Some v else None)) w.1
    ∙ ap (λ t. number_of at (length bs) (if t then Some n else None)) (le-leb n greatest_number small)))

digits_read : (n : ℕ) (ds : List ℕ) → n ≤ greatest_number → 0 < length ds → Writes n ds → ReadAs (kind.Number n) ds
digits_read n [] small some w = absurd (omega arith)
digits_read n (b ∷ bs) small some w = piece_read (kind.Number n) b bs (λ at rest parted. number_piece at n b bs rest small w parted)

number_read : (n : ℕ) → n ≤ greatest_number → ReadAs (kind.Number n) (decimal n)
number_read n small = let fits : n < 2 ^ 64 = omega arith in digits_read n (decimal n) small (decimal_nonempty n fits) (decimal_writes n fits)

-- ---- texts

not_quote : (b : ℕ) → is_blank b ≡ true → b ≢ 39
not_quote b h = λ e. let f : false ≡ true = subst (λ (c : ℕ). is_blank c ≡ true) e h in cc

closing : (rest : List ℕ) → Parted rest → quoted (39 ∷ rest) ≡ Some ([], 1)
closing [] parted = last_quote 39 refl
closing (c ∷ rest) parted = one_quote 39 c rest refl (not_quote c parted)

is_quote : (b : ℕ) → (b == 39) ≡ true → b ≡ 39
is_quote b h = grind (arith, nat_tests)

isnt_quote : (b : ℕ) → (b == 39) ≡ false → b ≢ 39
isnt_quote b h = λ e. let f : true ≡ false = sym (eq-eqb b 39 e) ∙ h in cc

quoted_byte : (t : Bool) (b : ℕ) (bs ds rest : List ℕ) → (b == 39) ≡ t → quoted (ds ++ 39 ∷ rest) ≡ Some (bs, length ds + 1)
    → quoted (((if t then 39 ∷ 39 ∷ [] else b ∷ []) ++ ds) ++ 39 ∷ rest) ≡ Some (b ∷ bs, length ((if t then 39 ∷ 39 ∷ [] else b ∷ []) ++ ds) + 1)
quoted_byte true b bs ds rest e h =
    let place : 2 + (length ds + 1) ≡ length (39 ∷ 39 ∷ ds) + 1 = omega arith in
    two_quotes 39 39 (ds ++ 39 ∷ rest) refl refl ∙ ap (behind (39 ∷ []) 2) h
    ∙ ap (λ n. Some (39 ∷ bs, n)) place ∙ ap (λ c. Some (c ∷ bs, length (39 ∷ 39 ∷ ds) + 1)) (sym (is_quote b e))
quoted_byte false b bs ds rest e h =
    let place : 1 + (length ds + 1) ≡ length (b ∷ ds) + 1 = omega arith in
    no_quote b (ds ++ 39 ∷ rest) (isnt_quote b e) ∙ ap (behind (b ∷ []) 1) h ∙ ap (λ n. Some (b ∷ bs, n)) place

quoted_content : (content rest : List ℕ) → Parted rest → quoted (flat_map doubled content ++ 39 ∷ rest) ≡ Some (content, length (flat_map doubled content) + 1)
quoted_content [] rest parted = closing rest parted
quoted_content (b ∷ bs) rest parted = quoted_byte (b == 39) b bs (flat_map doubled bs) rest refl (quoted_content bs rest parted)

quote_no_comment : (z : List ℕ) → begins_comment 39 z ≡ false
quote_no_comment [] = refl
quote_no_comment (c ∷ z) = refl

text_piece : (at : ℕ) (content rest : List ℕ) → is_utf8 content ≡ true → Parted rest
    → piece_at at 39 ((flat_map doubled content ++ 39 ∷ []) ++ rest) ≡ Ok (Found (kind.Text content) (length (flat_map doubled content ++ 39 ∷ [])))
unfolding piece_at
text_piece at content rest utf8 parted =
    let ds = flat_map doubled content in
    let place : length ds + 1 ≡ length (ds ++ 39 ∷ []) = omega (arith, length-append ds (39 ∷ [])) in
    rw (quote_no_comment ((ds ++ 39 ∷ []) ++ rest))
    (ap (text_of at) (ap quoted (append_assoc ds (39 ∷ []) rest) ∙ quoted_content content rest parted)
    ∙ ap (λ t. if t then Ok (Found (kind.Text content) (length ds + 1)) else Err (BadCharacter at)) utf8
    ∙ ap (λ n. Ok (Found (kind.Text content) n)) place)

text_read : (content : List ℕ) → is_utf8 content ≡ true → ReadAs (kind.Text content) (39 ∷ (flat_map doubled content ++ 39 ∷ []))
text_read content utf8 = piece_read (kind.Text content) 39 (flat_map doubled content ++ 39 ∷ []) (λ at rest parted. text_piece at content rest utf8 parted)

-- ---- signs

same : (c n : ℕ) → (c == n) ≡ true → c ≡ n
same c n h = grind (arith, nat_tests)

either : (x y : Bool) (Q : Type 0) → (x || y) ≡ true → (x ≡ true → Q) → (y ≡ true → Q) → Q
either true y Q h f g = f refl
either false y Q h f g = g h

by_blank : (P : ℕ → Type 0) → P 32 → P 9 → P 13 → P 10 → (c : ℕ) → is_blank c ≡ true → P c
by_blank P space tab cr newline c h =
    either (c == 32 || c == 9 || c == 13) (c == 10) (P c) h
    (λ h. either (c == 32 || c == 9) (c == 13) (P c) h
    (λ h. either (c == 32) (c == 9) (P c) h (λ e. subst P (sym (same c 32 e)) space) (λ e. subst P (sym (same c 9 e)) tab))
    (λ e. subst P (sym (same c 13 e)) cr))
    (λ e. subst P (sym (same c 10 e)) newline)

abbrev IsLone : Sign → ℕ → List ℕ → Type 0
IsLone sign b rest = (at : ℕ) → piece_at at b rest ≡ Ok (Found (kind.Sign sign) 0)

lone_piece : (sign : Sign) (b : ℕ) → IsLone sign b [] → ((z : List ℕ) → IsLone sign b (32 ∷ z)) → ((z : List ℕ) → IsLone sign b (9 ∷ z)) → ((z : List ℕ) → IsLone sign b (13 ∷ z)) → ((z : List ℕ) → IsLone sign b (10 ∷ z))
    → (rest : List ℕ) → Parted rest → IsLone sign b rest
lone_piece sign b end space tab cr newline [] parted = end
lone_piece sign b end space tab cr newline (c ∷ z) parted = by_blank (λ d. IsLone sign b (d ∷ z)) (space z) (tab z) (cr z) (newline z) c parted

lone : (sign : Sign) (b : ℕ) → IsLone sign b [] → ((z : List ℕ) → IsLone sign b (32 ∷ z)) → ((z : List ℕ) → IsLone sign b (9 ∷ z)) → ((z : List ℕ) → IsLone sign b (13 ∷ z)) → ((z : List ℕ) → IsLone sign b (10 ∷ z))
    → ReadAs (kind.Sign sign) (b ∷ [])
lone sign b end space tab cr newline = piece_read (kind.Sign sign) b [] (λ at rest parted. lone_piece sign b end space tab cr newline rest parted at)

pair : (sign : Sign) (b c : ℕ) → ((at : ℕ) (rest : List ℕ) → piece_at at b (c ∷ rest) ≡ Ok (Found (kind.Sign sign) 1)) → ReadAs (kind.Sign sign) (b ∷ c ∷ [])
pair sign b c is = piece_read (kind.Sign sign) b (c ∷ []) (λ at rest parted. is at rest)

sign_read : (sign : Sign) → ReadAs (kind.Sign sign) (sign_bytes sign)
unfolding piece_at sign_at
sign_read s.Open = lone s.Open 40 (λ at. refl) (λ z at. refl) (λ z at. refl) (λ z at. refl) (λ z at. refl)
sign_read s.Close = lone s.Close 41 (λ at. refl) (λ z at. refl) (λ z at. refl) (λ z at. refl) (λ z at. refl)
sign_read s.Comma = lone s.Comma 44 (λ at. refl) (λ z at. refl) (λ z at. refl) (λ z at. refl) (λ z at. refl)
sign_read s.Dot = lone s.Dot 46 (λ at. refl) (λ z at. refl) (λ z at. refl) (λ z at. refl) (λ z at. refl)
sign_read s.Semicolon = lone s.Semicolon 59 (λ at. refl) (λ z at. refl) (λ z at. refl) (λ z at. refl) (λ z at. refl)
sign_read s.Star = lone s.Star 42 (λ at. refl) (λ z at. refl) (λ z at. refl) (λ z at. refl) (λ z at. refl)
sign_read s.Slash = lone s.Slash 47 (λ at. refl) (λ z at. refl) (λ z at. refl) (λ z at. refl) (λ z at. refl)
sign_read s.Percent = lone s.Percent 37 (λ at. refl) (λ z at. refl) (λ z at. refl) (λ z at. refl) (λ z at. refl)
sign_read s.Plus = lone s.Plus 43 (λ at. refl) (λ z at. refl) (λ z at. refl) (λ z at. refl) (λ z at. refl)
sign_read s.Minus = lone s.Minus 45 (λ at. refl) (λ z at. refl) (λ z at. refl) (λ z at. refl) (λ z at. refl)
sign_read s.Equal = lone s.Equal 61 (λ at. refl) (λ z at. refl) (λ z at. refl) (λ z at. refl) (λ z at. refl)
sign_read s.NotEqual = pair s.NotEqual 60 62 (λ at rest. refl)
sign_read s.Less = lone s.Less 60 (λ at. refl) (λ z at. refl) (λ z at. refl) (λ z at. refl) (λ z at. refl)
sign_read s.LessOrEqual = pair s.LessOrEqual 60 61 (λ at rest. refl)
sign_read s.Greater = lone s.Greater 62 (λ at. refl) (λ z at. refl) (λ z at. refl) (λ z at. refl) (λ z at. refl)
sign_read s.GreaterOrEqual = pair s.GreaterOrEqual 62 61 (λ at rest. refl)
sign_read s.Arrow = pair s.Arrow 61 62 (λ at rest. refl)

-- ---- words

pub read : (upper : Bool) (k : TokenKind) → IsKind k → ReadAs k (kind_bytes upper k)
read upper (kind.Name name) h = name_read upper name h
read upper (kind.Number n) h = number_read n h
read upper (kind.Text content) h = text_read content h
read upper (kind.Sign sign) h = sign_read sign

put_kind : (t : Token) (o : Result (List Token) LexError) (ks : List TokenKind) → kinds o ≡ Ok ks → kinds (put_first t o) ≡ Ok (t.kind ∷ ks)
put_kind t (Ok ts) ks h = let e : map (λ u. u.kind) ts ≡ ks = cc h in ap (λ l. Ok (t.kind ∷ l)) e
put_kind t (Err e) ks h = absurd (cc h)

abbrev behind_blanks : List Word → List ℕ
behind_blanks ws = flat_map (λ w. (32 ∷ []) ++ spelled w) ws

parted : (ws : List Word) → Parted (behind_blanks ws)
parted [] = tt
parted (w ∷ ws) = refl

word_kinds : (at : ℕ) (w : Word) (ws : List Word) → IsKind w.kind → ((at : ℕ) → kinds (tokens_from 0 at (behind_blanks ws)) ≡ Ok (map (λ w. w.kind) ws))
    → kinds (tokens_from 0 at (spelled w ++ behind_blanks ws)) ≡ Ok (w.kind ∷ map (λ w. w.kind) ws)
word_kinds at w ws h ih =
    let end = at + length (spelled w) in
    ap kinds (read w.upper w.kind h at (behind_blanks ws) (parted ws))
    ∙ put_kind (record { kind = w.kind; start = at; end = end }) (tokens_from 0 end (behind_blanks ws)) (map (λ w. w.kind) ws) (ih end)

more_kinds : (ws : List Word) → AllByRecursion (λ w. IsKind w.kind) ws → (at : ℕ) → kinds (tokens_from 0 at (behind_blanks ws)) ≡ Ok (map (λ w. w.kind) ws)
unfolding tokens_from piece_at
more_kinds [] all at = refl
more_kinds (w ∷ ws) all at = word_kinds (at + 1) w ws all.0 (more_kinds ws all.1)

pub printed_kinds : (ws : List Word) → AllByRecursion (λ w. IsKind w.kind) ws → kinds (tokens (printed ws)) ≡ Ok (map (λ w. w.kind) ws)
unfolding tokens_from
printed_kinds [] all = refl
printed_kinds (w ∷ ws) all = word_kinds 0 w ws all.0 (more_kinds ws all.1)
