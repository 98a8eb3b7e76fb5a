-- What stands between quotes.
use Rattle.std.proofs.Common.{◌≡◌, ◌≢◌, ℕ, suc, ◌+◌, ◌<◌, ◌≤◌, ◌==◌, List, [], ◌∷◌, ◌++◌, append_assoc, length, get_or, take, drop, ◌-◌, Bool, true, false, cond, Option, Some, None, refl, sym, ◌∙◌, ap, arith, eq-eqb}
use Rattle.std.proofs.lemmas.List.{drop_more, drop_all, drop-drop, append-nil}
use Rattle.std.specs.List.{prefix_len}
use Rattle.cq_token.specs.Bytes.{is_plain}
use Rattle.std.proofs.lemmas.Bool.Decides.{nat_tests}
use Rattle.cq_token.specs.Tokens.{quoted, behind}
use Rattle.cq_token.proofs.Steps.{rest_of}

pub behind_both : (a b : List ℕ) (m n : ℕ) (o : Option (List ℕ × ℕ)) → behind a m (behind b n o) ≡ behind (a ++ b) (m + n) o
behind_both a b m n None = refl
behind_both a b m n (Some found) =
    let content : a ++ (b ++ found.0) ≡ (a ++ b) ++ found.0 = simp append_assoc in
    let place : m + (n + found.1) ≡ m + n + found.1 = omega arith in
    ap (λ c. Some (c, m + (n + found.1))) content ∙ ap (λ k. Some ((a ++ b) ++ found.0, k)) place

pub behind_none : (o : Option (List ℕ × ℕ)) → behind [] 0 o ≡ o
behind_none None = refl
behind_none (Some found) = let e : 0 + found.1 ≡ found.1 = omega arith in ap (λ k. Some (found.0, k)) e

isnt : (b n : ℕ) → b ≢ n → (b == n) ≡ false
isnt b n ne = grind (arith, nat_tests)

pub no_quote : (b : ℕ) (bs : List ℕ) → b ≢ 39 → quoted (b ∷ bs) ≡ behind (b ∷ []) 1 (quoted bs)
unfolding quoted
no_quote b [] ne = rw (isnt b 39 ne) refl
no_quote b (c ∷ bs) ne = rw (isnt b 39 ne) refl

pub two_quotes : (b c : ℕ) (bs : List ℕ) → b ≡ 39 → c ≡ 39 → quoted (b ∷ c ∷ bs) ≡ behind (39 ∷ []) 2 (quoted bs)
unfolding quoted
two_quotes b c bs e f = rw (eq-eqb b 39 e, eq-eqb c 39 f) refl

pub one_quote : (b c : ℕ) (bs : List ℕ) → b ≡ 39 → c ≢ 39 → quoted (b ∷ c ∷ bs) ≡ Some ([], 1)
unfolding quoted
one_quote b c bs e ne = rw (eq-eqb b 39 e, isnt c 39 ne) refl

pub last_quote : (b : ℕ) → b ≡ 39 → quoted (b ∷ []) ≡ Some ([], 1)
unfolding quoted
last_quote b e = rw (eq-eqb b 39 e) refl

-- ---- by the byte at a place

pub past_byte : (i : ℕ) (bs : List ℕ) → i < length bs → get_or bs i 0 ≢ 39 → quoted (drop i bs) ≡ behind (get_or bs i 0 ∷ []) 1 (quoted (drop (i + 1) bs))
past_byte i bs lt ne = ap quoted (drop_more bs i 0 lt) ∙ no_quote (get_or bs i 0) (drop (i + 1) bs) ne

two_ahead : (i : ℕ) (bs : List ℕ) → i + 1 < length bs → drop i bs ≡ get_or bs i 0 ∷ (get_or bs (i + 1) 0 ∷ drop (i + 2) bs)
two_ahead i bs lt =
    let two : i + 1 + 1 ≡ i + 2 = omega arith in
    drop_more bs i 0 (omega arith) ∙ ap (λ l. get_or bs i 0 ∷ l) (drop_more bs (i + 1) 0 lt ∙ ap (λ n. get_or bs (i + 1) 0 ∷ drop n bs) two)

pub past_quotes : (i : ℕ) (bs : List ℕ) → i + 1 < length bs → get_or bs i 0 ≡ 39 → get_or bs (i + 1) 0 ≡ 39
    → quoted (drop i bs) ≡ behind (get_or bs i 0 ∷ []) 2 (quoted (drop (i + 2) bs))
past_quotes i bs lt e f =
    ap quoted (two_ahead i bs lt) ∙ two_quotes (get_or bs i 0) (get_or bs (i + 1) 0) (drop (i + 2) bs) e f
    ∙ ap (λ b. behind (b ∷ []) 2 (quoted (drop (i + 2) bs))) (sym e)

pub at_quote : (i : ℕ) (bs : List ℕ) → i + 1 < length bs → get_or bs i 0 ≡ 39 → get_or bs (i + 1) 0 ≢ 39 → quoted (drop i bs) ≡ Some ([], 1)
at_quote i bs lt e ne = ap quoted (two_ahead i bs lt) ∙ one_quote (get_or bs i 0) (get_or bs (i + 1) 0) (drop (i + 2) bs) e ne

pub at_last_quote : (i : ℕ) (bs : List ℕ) → i < length bs → length bs ≤ i + 1 → get_or bs i 0 ≡ 39 → quoted (drop i bs) ≡ Some ([], 1)
at_last_quote i bs lt end e =
    let last : drop i bs ≡ get_or bs i 0 ∷ [] = drop_more bs i 0 lt ∙ ap (λ l. get_or bs i 0 ∷ l) (drop_all (i + 1) bs end) in
    ap quoted last ∙ last_quote (get_or bs i 0) e

-- ---- bytes that are no quote

plain : (b : ℕ) → is_plain b ≡ true → b ≢ 39
plain b h = grind (arith, nat_tests)

quote : (b : ℕ) → is_plain b ≡ false → b ≡ 39
quote b h = grind (arith, nat_tests)

past_run : (bs : List ℕ) → quoted bs ≡ behind (take (prefix_len is_plain bs) bs) (prefix_len is_plain bs) (quoted (drop (prefix_len is_plain bs) bs))
past_run [] = sym (behind_none (quoted []))
past_run (b ∷ bs) = by_test (is_plain b) refl (past_run bs)
  where
    by_test : (t : Bool) → is_plain b ≡ t → quoted bs ≡ behind (take (prefix_len is_plain bs) bs) (prefix_len is_plain bs) (quoted (drop (prefix_len is_plain bs) bs)) →
        quoted (b ∷ bs) ≡ behind (take (cond t (1 + prefix_len is_plain bs) 0) (b ∷ bs)) (cond t (1 + prefix_len is_plain bs) 0) (quoted (drop (cond t (1 + prefix_len is_plain bs) 0) (b ∷ bs)))
    by_test true h after =
        let n = prefix_len is_plain bs in
        let one_more : 1 + n ≡ suc n = omega arith in
        let all = behind_both (b ∷ []) (take n bs) 1 n (quoted (drop n bs)) in
        rw one_more (no_quote b bs (plain b h) ∙ ap (behind (b ∷ []) 1) after ∙ all ∙ ap (λ k. behind (b ∷ take n bs) k (quoted (drop n bs))) one_more)
    by_test false h after = sym (behind_none (quoted (b ∷ bs)))

pub past_plain : (i m : ℕ) (bs : List ℕ) → m ≡ prefix_len is_plain (take (length bs - i) (drop i bs)) → quoted (drop i bs) ≡ behind (take m (drop i bs)) m (quoted (drop (i + m) bs))
past_plain i m bs e =
    let n : m ≡ prefix_len is_plain (drop i bs) = e ∙ ap (prefix_len is_plain) (rest_of i bs) in
    past_run (drop i bs) ∙ ap (λ k. behind (take k (drop i bs)) k (quoted (drop k (drop i bs)))) (sym n) ∙ ap (λ l. behind (take m (drop i bs)) m (quoted l)) (drop-drop m i bs)

at_no_plain : (b : ℕ) (bs : List ℕ) (t : Bool) → is_plain b ≡ t → 0 ≡ cond t (1 + prefix_len is_plain bs) 0 → b ≡ 39
at_no_plain b bs true h e = absurd (omega (arith, e))
at_no_plain b bs false h e = quote b h

-- where no plain byte stands, there is a quote
pub no_plain : (i m : ℕ) (bs : List ℕ) → i < length bs → m ≡ prefix_len is_plain (take (length bs - i) (drop i bs)) → m ≡ 0 → get_or bs i 0 ≡ 39
no_plain i m bs lt e zero =
    at_no_plain (get_or bs i 0) (drop (i + 1) bs) (is_plain (get_or bs i 0)) refl (sym zero ∙ e ∙ ap (prefix_len is_plain) (rest_of i bs ∙ drop_more bs i 0 lt))

pub one_taken : (i : ℕ) (bs : List ℕ) → i < length bs → take 1 (drop i bs) ≡ get_or bs i 0 ∷ []
one_taken i bs lt = ap (take 1) (drop_more bs i 0 lt)

pub unclosed : (i : ℕ) (bs : List ℕ) → length bs ≤ i → quoted (drop i bs) ≡ None
unfolding quoted
unclosed i bs le = ap quoted (drop_all i bs le)

pub found : (c : List ℕ) (i : ℕ) → behind c i (Some ([], 1)) ≡ Some (c, i + 1)
found c i = ap (λ l. Some (l, i + 1)) (append-nil c)
