-- Bytes that are ASCII alone are UTF-8, and texts of digits alone are numbers.
use Rattle.std.proofs.Common.{◌≡◌, ℕ, zero, suc, ◌<◌, ◌+◌, List, [], ◌∷◌, length, take, drop, fold, cond, Bool, true, false, ◌&&◌, Some, None, IsAscii, arith, refl, sym, ◌∙◌, ap, le_refl, if◌then◌else◌}
use Rattle.std.specs.Prelude.{nat_lt, option_map, ◌==◌, ◌||◌}
use Rattle.std.specs.List.{list_all, prefix_len}
use Rattle.std.specs.Char.{is_ascii, is_ascii_digit}
use Rattle.std.specs.Str.{is_utf8, IsUtf8}
use Rattle.std.proofs.lemmas.List.{take_all, drop_all}
use Rattle.std.proofs.lemmas.Bool.{eqb-true}
use Rattle.cq_value.specs.declared.value.Value.TheVariants.{Int, Text}
use Rattle.cq_value.specs.declared.schema.Kind.TheVariants as kind
use Rattle.cq_value.proofs.Truths.{and_left, and_right, is_below}
use Rattle.cq_copy.specs.Values.{is_space, with_digit, magnitude, is_negative, unsigned, with_sign, signed, number, in_range, within, value_in}
use Rattle.std.proofs.lemmas.Str.{IsUtf8-from_ascii, is_utf8-from_IsUtf8}

each_below : (bs : List ℕ) → list_all is_ascii bs ≡ true → IsAscii bs
each_below [] e i = omega arith
each_below (b ∷ bs) e zero = is_below b 128 (and_left (is_ascii b) (list_all is_ascii bs) e)
each_below (b ∷ bs) e (suc i) = each_below bs (and_right (is_ascii b) (list_all is_ascii bs) e) i

pub ascii_text : (bs : List ℕ) → list_all is_ascii bs ≡ true → IsUtf8 bs
ascii_text bs e = IsUtf8-from_ascii bs (each_below bs e)

pub ascii_is_utf8 : (bs : List ℕ) → list_all is_ascii bs ≡ true → is_utf8 bs ≡ true
ascii_is_utf8 bs e = is_utf8-from_IsUtf8 bs (IsUtf8-from_ascii bs (each_below bs e))

pub ascii_value : (bs : List ℕ) → list_all is_ascii bs ≡ true → value_in kind.Text bs ≡ Some (Text bs)
unfolding value_in
ascii_value bs e = ap (λ t. if t then Some (Text bs) else None) (ascii_is_utf8 bs e)

-- ---- a number of digits alone

all_pass : (p : ℕ → Bool) (bs : List ℕ) → list_all p bs ≡ true → prefix_len p bs ≡ length bs
all_pass p [] e = refl
all_pass p (b ∷ bs) e = ap (λ t. cond t (1 + prefix_len p bs) 0) (and_left (p b) (list_all p bs) e) ∙ omega (arith, all_pass p bs (and_right (p b) (list_all p bs) e))

is_above : (n : ℕ) → 0 < n → nat_lt 0 n ≡ true
is_above n lt = grind arith

pub plain_magnitude : (bs : List ℕ) → 0 < length bs → list_all is_ascii_digit bs ≡ true → magnitude bs ≡ Some (fold with_digit 0 bs)
unfolding magnitude
plain_magnitude bs lt e =
    ap (λ k. if nat_lt 0 k && list_all is_space (drop k bs) then Some (fold with_digit 0 (take k bs)) else None) (all_pass is_ascii_digit bs e)
    ∙ ap (λ t. if t && list_all is_space (drop (length bs) bs) then Some (fold with_digit 0 (take (length bs) bs)) else None) (is_above (length bs) lt)
    ∙ ap (λ r. if true && list_all is_space r then Some (fold with_digit 0 (take (length bs) bs)) else None) (drop_all (length bs) bs (le_refl (length bs)))
    ∙ ap (λ r. Some (fold with_digit 0 r)) (take_all (length bs) bs (le_refl (length bs)))

-- ---- a number of a sign or none and digits

-- a digit isn't a space
digit_no_space : (b : ℕ) (more : Bool) → is_ascii_digit b && more ≡ true → is_space b ≡ false
digit_no_space b more e = grind (arith, and_left (is_ascii_digit b) more e)

sign_no_space : (b : ℕ) (m p : Bool) → (b == 45) ≡ m → (b == 43) ≡ p → m || p ≡ true → is_space b ≡ false
sign_no_space b true p em ep e = grind (arith, eqb-true b 45 em)
sign_no_space b false true em ep e = grind (arith, eqb-true b 43 ep)
sign_no_space b false false em ep e = absurd (let h : false ≡ true = e in cc)

no_space_by : (b : ℕ) (bs : List ℕ) (t : Bool) → b == 45 || b == 43 ≡ t → list_all is_ascii_digit (if t then bs else b ∷ bs) ≡ true → is_space b ≡ false
no_space_by b bs true h e = sign_no_space b (b == 45) (b == 43) refl refl h
no_space_by b bs false h e = digit_no_space b (list_all is_ascii_digit bs) e

no_space : (bs : List ℕ) → 0 < length (unsigned bs) → list_all is_ascii_digit (unsigned bs) ≡ true → prefix_len is_space bs ≡ 0
no_space [] lt e = refl
no_space (b ∷ bs) lt e = ap (λ t. cond t (1 + prefix_len is_space bs) 0) (no_space_by b bs (b == 45 || b == 43) refl e)

pub plain_number : (bs : List ℕ) → 0 < length (unsigned bs) → list_all is_ascii_digit (unsigned bs) ≡ true → number bs ≡ Some (with_sign (is_negative bs) (fold with_digit 0 (unsigned bs)))
plain_number bs lt e =
    ap (λ k. signed (drop k bs)) (no_space bs lt e)
    ∙ ap (option_map (with_sign (is_negative bs))) (plain_magnitude (unsigned bs) lt e)

in_range_by : (negative : Bool) (n limit : ℕ) → n < limit → in_range limit (with_sign negative n) ≡ true
in_range_by false n limit lt = grind arith
in_range_by true zero limit lt = grind arith
in_range_by true (suc n) limit lt = let less : n < limit = omega arith in grind arith

pub plain_within : (limit : ℕ) (bs : List ℕ) (n : ℕ) → 0 < length (unsigned bs) → list_all is_ascii_digit (unsigned bs) ≡ true → n ≡ fold with_digit 0 (unsigned bs) → n < limit
    → within limit (number bs) ≡ Some (Int (with_sign (is_negative bs) n))
plain_within limit bs n lt e same less =
    ap (within limit) (plain_number bs lt e ∙ ap (λ k. Some (with_sign (is_negative bs) k)) (sym same))
    ∙ ap (λ t. if t then Some (Int (with_sign (is_negative bs) n)) else None) (in_range_by (is_negative bs) n limit less)
