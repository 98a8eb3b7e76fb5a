-- Names and numbers.
use Rattle.std.proofs.Common.{◌≡◌, ℕ, suc, ◌+◌, ◌*◌, ◌-◌, ◌/◌, ◌<◌, ◌≤◌, List, [], ◌∷◌, length, get_or, drop, take, fold, Bool, true, false, cond, Some, None, refl, sym, ◌∙◌, ap, arith, if◌then◌else◌, nat_le}
use Rattle.std.proofs.lemmas.List.{drop_more, drop_all}
use Rattle.std.proofs.lemmas.Bool.{lt-leb, le-leb}
use Rattle.std.proofs.lemmas.Bool.Decides.{nat_tests}
use Rattle.std.proofs.lemmas.Str.Ascii.{IsAscii-cons, IsAscii-nil}
use Rattle.std.specs.List.{prefix_len}
use Rattle.std.specs.Str.{IsAscii}
use Rattle.cq_token.specs.Bytes.{begins_name, is_in_name}
use Rattle.cq_token.specs.Tokens.{with_digit, greatest_number, value_of}

-- ---- the bytes of a name are ASCII

low : (b : ℕ) → is_in_name b ≡ true → b < 128
low b h = grind (arith, nat_tests)

low_first : (b : ℕ) → begins_name b ≡ true → b < 128
low_first b h = grind (arith, nat_tests)

one_more : (b n : ℕ) (bs : List ℕ) → b < 128 → IsAscii (take n bs) → IsAscii (take (1 + n) (b ∷ bs))
one_more b n bs h k = let e : 1 + n ≡ suc n = omega arith in rw e (IsAscii-cons b (take n bs) h k)

by_test : (b : ℕ) (bs : List ℕ) (t : Bool) → is_in_name b ≡ t → IsAscii (take (prefix_len is_in_name bs) bs) → IsAscii (take (cond t (1 + prefix_len is_in_name bs) 0) (b ∷ bs))
by_test b bs true h k = one_more b (prefix_len is_in_name bs) bs (low b h) k
by_test b bs false h k = IsAscii-nil

run_ascii : (bs : List ℕ) → IsAscii (take (prefix_len is_in_name bs) bs)
run_ascii [] = IsAscii-nil
run_ascii (b ∷ bs) = by_test b bs (is_in_name b) refl (run_ascii bs)

pub name_ascii : (b : ℕ) (rest : List ℕ) → begins_name b ≡ true → IsAscii (take (1 + prefix_len is_in_name rest) (b ∷ rest))
name_ascii b rest h = one_more b (prefix_len is_in_name rest) rest (low_first b h) (run_ascii rest)

-- ---- the number of a row of digits

grows : (n : ℕ) (digits : List ℕ) → n ≤ fold with_digit n digits
grows n [] = omega arith
grows n (d ∷ ds) = omega (arith, grows (10 * n + (d - 48)) ds)

chosen : (n : ℕ) (b : Bool) → nat_le n greatest_number ≡ b → (if nat_le n greatest_number then Some n else None) ≡ (if b then Some n else None)
chosen n b e = ap (λ t. if t then Some n else None) e

pub too_large : (n i : ℕ) (ds : List ℕ) → fold with_digit n (drop i ds) ≡ fold with_digit 0 ds → i < length ds → greatest_number < 10 * n + (get_or ds i 0 - 48) → value_of ds ≡ None
too_large n i ds e lt big =
    let at = ap (fold with_digit n) (drop_more ds i 0 lt) in
    let past : greatest_number < fold with_digit 0 ds = omega (arith, at, e, grows (10 * n + (get_or ds i 0 - 48)) (drop (i + 1) ds)) in
    chosen (fold with_digit 0 ds) false (lt-leb (fold with_digit 0 ds) greatest_number past)

pub one_digit : (n i : ℕ) (ds : List ℕ) → i < length ds → fold with_digit n (drop i ds) ≡ fold with_digit (10 * n + (get_or ds i 0 - 48)) (drop (i + 1) ds)
one_digit n i ds lt = ap (fold with_digit n) (drop_more ds i 0 lt)

pub past_greatest : (v d : ℕ) → (greatest_number - d) / 10 < v → d ≤ 255 → greatest_number < 10 * v + d
past_greatest v d h k = omega arith

pub no_larger : (v i : ℕ) (ds : List ℕ) → fold with_digit v (drop i ds) ≡ fold with_digit 0 ds → length ds ≤ i → v ≤ greatest_number → value_of ds ≡ Some v
no_larger v i ds e le h =
    let last : v ≡ fold with_digit 0 ds = sym (ap (fold with_digit v) (drop_all i ds le)) ∙ e in
    chosen (fold with_digit 0 ds) true (le-leb (fold with_digit 0 ds) greatest_number (omega (arith, last))) ∙ ap (λ n. Some n) (sym last)
