-- A text is cut into its tokens, with blanks and comments between.
use Rattle.std.proofs.Common.{◌≡◌, ℕ, zero, suc, ◌+◌, ◌≤◌, List, [], ◌∷◌, ◌++◌, append_assoc, length, drop, take, Bool, true, false, ◌&&◌, ◌==◌, if◌then◌else◌, Result, Ok, Err, refl, sym, ◌∙◌, ap, subst, arith, length-append, length-drop, cond}
use Rattle.std.proofs.lemmas.List.{take-append-drop, length-take-le}
use Rattle.std.proofs.lemmas.List.Sums.{prefix_len-le-length}
use Rattle.std.proofs.lemmas.Bool.Decides.{nat_tests}
use Rattle.std.specs.List.{prefix_len}
use Rattle.cq_token.specs.declared.token.Token.{Token}
use Rattle.cq_token.specs.declared.token.TokenKind.{TokenKind}
use Rattle.cq_token.specs.declared.token.Piece.{Piece}
use Rattle.cq_token.specs.declared.token.Piece.TheVariants.{Skip, Token as Found}
use Rattle.cq_token.specs.declared.error.LexError.{LexError}
use Rattle.cq_token.specs.Bytes.{is_blank, is_in_line}
use Rattle.cq_token.specs.Tokens.{piece_at, tokens, tokens_from, with_piece, put_first, begins_comment}
use Rattle.cq_token.specs.Spans.{is_gap, Cut, InOrder}
use Rattle.cq_token.proofs.Pieces.{blank, comment, Sound, sound}
use Rattle.cq_token.proofs.Steps.{skip}

-- ---- gaps

-- whether these bytes may go on behind a comment that is open: its line is at its end
abbrev Ends : Bool → List ℕ → Type 0
Ends false z = Unit {0}
Ends true [] = Unit {0}
Ends true (b ∷ z) = is_in_line b ≡ false

no_dash : (b : ℕ) → is_blank b ≡ true → (b == 45) ≡ false
no_dash b h = grind (arith, nat_tests)

newline_blank : (b : ℕ) → is_in_line b ≡ false → is_blank b ≡ true
newline_blank b h = grind (arith, nat_tests)

dash_in_line : (b c : ℕ) → (b == 45 && c == 45) ≡ true → is_in_line c ≡ true
dash_in_line b c h = grind (arith, nat_tests)

blank_first : (b : ℕ) (z : List ℕ) (last : Bool) → is_blank b ≡ true → is_gap false (b ∷ z) last ≡ is_gap false z last
blank_first b [] true h = h
blank_first b [] false h = h
blank_first b (c ∷ z) last h = rw (no_dash b h, h) refl

closes : (b : ℕ) (z : List ℕ) (last : Bool) → is_in_line b ≡ false → is_gap true (b ∷ z) last ≡ is_gap false z last
closes b z last h = ap (λ o. is_gap o z last) h

pub one_more : (n b : ℕ) (z : List ℕ) → take (1 + n) (b ∷ z) ≡ b ∷ take n z
one_more n b z = let e : 1 + n ≡ suc n = omega arith in rw e refl

one_less : (n b : ℕ) (z : List ℕ) → drop (1 + n) (b ∷ z) ≡ drop n z
one_less n b z = let e : 1 + n ≡ suc n = omega arith in rw e refl

by_line : (n b : ℕ) (z y : List ℕ) (last t : Bool) → is_in_line b ≡ t → is_gap true (take n z ++ y) last ≡ is_gap true y last
    → is_gap true (take (cond t (1 + n) 0) (b ∷ z) ++ y) last ≡ is_gap true y last
by_line n b z y last true e h = ap (λ w. is_gap true (w ++ y) last) (one_more n b z) ∙ ap (λ o. is_gap o (take n z ++ y) last) e ∙ h
by_line n b z y last false e h = refl

line_first : (z y : List ℕ) (last : Bool) → is_gap true (take (prefix_len is_in_line z) z ++ y) last ≡ is_gap true y last
line_first [] y last = refl
line_first (b ∷ z) y last = by_line (prefix_len is_in_line z) b z y last (is_in_line b) refl (line_first z y last)

comment_first : (b : ℕ) (rest y : List ℕ) (last : Bool) → begins_comment b rest ≡ true → is_gap false (b ∷ (take (prefix_len is_in_line rest) rest ++ y)) last ≡ is_gap true y last
comment_first b [] y last h = absurd (cc h)
comment_first b (c ∷ z) y last h =
    let in_line = dash_in_line b c h in
    ap (λ t. is_gap false (b ∷ (take (cond t (1 + prefix_len is_in_line z) 0) (c ∷ z) ++ y)) last) in_line
    ∙ ap (λ w. is_gap false (b ∷ (w ++ y)) last) (one_more (prefix_len is_in_line z) c z)
    ∙ ap (λ t. if t then is_gap true (take (prefix_len is_in_line z) z ++ y) last else is_blank b && is_gap false (c ∷ (take (prefix_len is_in_line z) z ++ y)) last) h
    ∙ line_first z y last

by_end : (n b : ℕ) (z : List ℕ) (t : Bool) → is_in_line b ≡ t → Ends true (drop n z) → Ends true (drop (cond t (1 + n) 0) (b ∷ z))
by_end n b z true e h = subst (Ends true) (sym (one_less n b z)) h
by_end n b z false e h = e

line_ends : (z : List ℕ) → Ends true (drop (prefix_len is_in_line z) z)
line_ends [] = tt
line_ends (b ∷ z) = by_end (prefix_len is_in_line z) b z (is_in_line b) refl (line_ends z)

-- ---- the tokens

-- a gap goes on with these bytes before it
prepend : (i j : Bool) (at k : ℕ) (pre z : List ℕ) (ts : List Token) → k ≡ at + length pre → ((y : List ℕ) (last : Bool) → is_gap i (pre ++ y) last ≡ is_gap j y last) → Cut j k ts z → Cut i at ts (pre ++ z)
prepend i j at k pre z [] e same cut = same z true ∙ cut
prepend i j at k pre z (t ∷ ts) e same cut = (
  record {
    gap = pre ++ cut.0.gap;
    word = cut.0.word;
    rest = cut.0.rest;
    whole = ap (λ w. pre ++ w) cut.0.whole ∙ sym (append_assoc pre cut.0.gap (cut.0.word ++ cut.0.rest));
    apart = same cut.0.gap false ∙ cut.0.apart;
    start = omega (arith, cut.0.start, length-append pre cut.0.gap);
    end = cut.0.end;
    some = cut.0.some;
  },
  cut.1,
)

split : (b more : ℕ) (rest : List ℕ) → b ∷ (take more rest ++ drop more rest) ≡ b ∷ rest
split b more rest = ap (λ z. b ∷ z) (take-append-drop more rest)

abbrev IH : ℕ → Type 0
IH m = (i : Bool) (at : ℕ) (z : List ℕ) (ts : List Token) → length z ≤ m → Ends i z → tokens_from 0 at z ≡ Ok ts → Cut i at ts z

left_of : (more m : ℕ) (rest : List ℕ) → length rest ≤ m → length (drop more rest) ≤ m
left_of more m rest h = omega (arith, length-drop more rest)

blank_step : (m : ℕ) (i : Bool) (at b : ℕ) (rest : List ℕ) (ts : List Token) → IH m → length rest ≤ m → ((y : List ℕ) (last : Bool) → is_gap i (b ∷ y) last ≡ is_gap false y last)
    → tokens_from 0 (at + 1) rest ≡ Ok ts → Cut i at ts (b ∷ rest)
blank_step m i at b rest ts ih le same h = prepend i false at (at + 1) (b ∷ []) rest ts (omega arith) same (ih false (at + 1) rest ts le tt h)

comment_step : (m : ℕ) (at b : ℕ) (rest : List ℕ) (ts : List Token) → IH m → length rest ≤ m → begins_comment b rest ≡ true
    → tokens_from (prefix_len is_in_line rest) (at + 1) rest ≡ Ok ts → Cut false at ts (b ∷ rest)
comment_step m at b rest ts ih le is h =
    let more = prefix_len is_in_line rest in
    let within = prefix_len-le-length is_in_line rest in
    let place : at + 1 + more ≡ at + length (b ∷ take more rest) = omega (arith, length-take-le more rest within) in
    subst (Cut false at ts) (split b more rest)
    (prepend false true at (at + 1 + more) (b ∷ take more rest) (drop more rest) ts place (λ y last. comment_first b rest y last is)
    (ih true (at + 1 + more) (drop more rest) ts (left_of more m rest le) (line_ends rest) (sym (skip more (at + 1) rest within) ∙ h)))

pub first_of : (t : Token) (o : Result (List Token) LexError) (ts : List Token) → put_first t o ≡ Ok ts → (us : List Token) × ((o ≡ Ok us) × (t ∷ us ≡ ts))
first_of t (Ok us) ts h = (us, (refl, cc h))
first_of t (Err e) ts h = absurd (cc h)

token_step : (m : ℕ) (at b more : ℕ) (k : TokenKind) (rest : List ℕ) (us : List Token) → IH m → length rest ≤ m → more ≤ length rest
    → tokens_from more (at + 1) rest ≡ Ok us → Cut false at (record { kind = k; start = at; end = at + 1 + more } ∷ us) (b ∷ rest)
token_step m at b more k rest us ih le within h = (
  record {
    gap = [];
    word = b ∷ take more rest;
    rest = drop more rest;
    whole = sym (split b more rest);
    apart = refl;
    start = omega arith;
    end = omega (arith, length-take-le more rest within);
    some = omega arith;
  },
  ih false (at + 1 + more) (drop more rest) us (left_of more m rest le) tt (sym (skip more (at + 1) rest within) ∙ h),
)

by_piece : (m : ℕ) (at b : ℕ) (rest : List ℕ) (ts : List Token) (p : Result Piece LexError) → IH m → length rest ≤ m → Sound b rest p
    → with_piece at p (λ left. tokens_from left (at + 1) rest) ≡ Ok ts → Cut false at ts (b ∷ rest)
by_piece m at b rest ts (Ok (Skip more)) ih le (blank is none) h =
    blank_step m false at b rest ts ih le (λ y last. blank_first b y last is) (ap (λ n. tokens_from n (at + 1) rest) (sym none) ∙ h)
by_piece m at b rest ts (Ok (Skip more)) ih le (comment is len) h =
    comment_step m at b rest ts ih le is (ap (λ n. tokens_from n (at + 1) rest) (sym len) ∙ h)
by_piece m at b rest ts (Ok (Found k more)) ih le within h =
    let found = first_of (record { kind = k; start = at; end = at + 1 + more }) (tokens_from more (at + 1) rest) ts h in
    subst (λ (us : List Token). Cut false at us (b ∷ rest)) found.1.1 (token_step m at b more k rest found.0 ih le within found.1.0)
by_piece m at b rest ts (Err e) ih le s h = absurd (cc h)

blank_piece : (at b : ℕ) (rest : List ℕ) → is_blank b ≡ true → piece_at at b rest ≡ Ok (Skip 0)
unfolding piece_at
blank_piece at b rest h = rw h refl

cut : (n : ℕ) → IH n
unfolding tokens_from
cut n i at [] ts le e h = let none : [] ≡ ts = cc h in subst (λ (us : List Token). Cut i at us []) none refl
cut zero i at (b ∷ rest) ts le e h = absurd (omega arith)
cut (suc m) true at (b ∷ rest) ts le e h =
    blank_step m true at b rest ts (cut m) (omega arith) (λ y last. closes b y last e)
    (ap (λ p. with_piece at p (λ left. tokens_from left (at + 1) rest)) (sym (blank_piece at b rest (newline_blank b e))) ∙ h)
cut (suc m) false at (b ∷ rest) ts le e h = by_piece m at b rest ts (piece_at at b rest) (cut m) (omega arith) (sound at b rest) h

pub tokens_cut : (text : List ℕ) (ts : List Token) → tokens text ≡ Ok ts → Cut false 0 ts text
tokens_cut text ts h = cut (length text) false 0 text ts (omega arith) tt h

pub in_order : (i : Bool) (at : ℕ) (text : List ℕ) (ts : List Token) → Cut i at ts text → InOrder at ts (at + length text)
in_order i at text [] h = omega arith
in_order i at text (t ∷ ts) h =
    let sizes : length text ≡ length h.0.gap + (length h.0.word + length h.0.rest) = ap length h.0.whole ∙ length-append h.0.gap (h.0.word ++ h.0.rest) ∙ ap (λ n. length h.0.gap + n) (length-append h.0.word h.0.rest) in
    let place : t.end + length h.0.rest ≡ at + length text = omega (arith, sizes, h.0.start, h.0.end) in
    (omega (arith, h.0.start), omega (arith, h.0.end, h.0.some), subst (InOrder t.end ts) place (in_order false t.end h.0.rest ts h.1))
