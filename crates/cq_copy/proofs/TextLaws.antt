-- Lines, and the texts of fields.
use Rattle.std.proofs.Common.{◌≡◌, ℕ, zero, suc, ◌+◌, ◌<◌, ◌≤◌, List, [], ◌∷◌, ◌++◌, length, get_or, drop, take, Bool, true, false, not, ◌&&◌, ◌||◌, cond, eqb, Option, Some, None, refl, sym, ◌∙◌, ap, arith, append_assoc, append-nil, if◌then◌else◌}
use Rattle.std.specs.Prelude.{option_map, ◌==◌}
use Rattle.std.specs.List.{list_all, onto_first, position_or_len, prefix_len, slice_split}
use Rattle.cq_copy.specs.Texts.{is_newline, is_simple, lines, text_of, before, escaped, plain, stands}
use Rattle.std.specs.Char.{is_ascii}
use Rattle.std.proofs.lemmas.List.Sums.{prefix_len_is}
use Rattle.memchr.specs.Find.{Nowhere, NoneBefore, Passes, is_byte}

-- ---- the first place of a byte

pub not_yes : (t : Bool) → ¬ (t ≡ true) → not t ≡ true
not_yes true never = absurd (never refl)
not_yes false never = refl

pub found_at : (a : ℕ) (bs : List ℕ) (n : ℕ) → NoneBefore (Passes (is_byte a) bs) 0 (length bs) n → Passes (is_byte a) bs n → n ≡ prefix_len (λ (b : ℕ). not (b == a)) bs
found_at a bs n none here =
    sym (prefix_len_is (λ (b : ℕ). not (b == a)) bs n 0 (omega (arith, none.high)) (λ k lt. not_yes (get_or bs k 0 == a) (none.before k (omega arith) lt)) (λ lt. ap not here))

pub found_none : (a : ℕ) (bs : List ℕ) → Nowhere (Passes (is_byte a) bs) 0 (length bs) → length bs ≡ prefix_len (λ (b : ℕ). not (b == a)) bs
found_none a bs none =
    sym (prefix_len_is (λ (b : ℕ). not (b == a)) bs (length bs) 0 (omega arith) (λ k lt. not_yes (get_or bs k 0 == a) (none k (omega arith) lt)) (λ lt. absurd (omega arith)))

-- ---- lines

abbrev chosen : Bool → List (List ℕ) → ℕ → List (List ℕ)
chosen t more b = if t then [] ∷ more else onto_first b more

abbrev len : Bool → List ℕ → ℕ
len t bs = cond (not t) (1 + position_or_len is_newline bs) 0

ends_by : (b : ℕ) (bs : List ℕ) (t : Bool) → (position_or_len is_newline bs < length bs → lines bs ≡ take (position_or_len is_newline bs) bs ∷ lines (drop (position_or_len is_newline bs + 1) bs))
    → len t bs < length (b ∷ bs) → chosen t (lines bs) b ≡ take (len t bs) (b ∷ bs) ∷ lines (drop (len t bs + 1) (b ∷ bs))
ends_by b bs true more lt = refl
ends_by b bs false more lt =
    let one : 1 + position_or_len is_newline bs ≡ suc (position_or_len is_newline bs) = omega arith in
    let two : 1 + position_or_len is_newline bs + 1 ≡ suc (position_or_len is_newline bs + 1) = omega arith in
    rw (two, one) (ap (onto_first b) (more (omega arith)))

-- the first line ends before the data do
pub line_ends : (bs : List ℕ) → position_or_len is_newline bs < length bs → lines bs ≡ take (position_or_len is_newline bs) bs ∷ lines (drop (position_or_len is_newline bs + 1) bs)
unfolding lines
line_ends [] lt = absurd (omega arith)
line_ends (b ∷ bs) lt = ends_by b bs (is_newline b) (line_ends bs) lt

-- the lines of data without a newline
abbrev one_line : List ℕ → List (List ℕ)
one_line [] = []
one_line (b ∷ bs) = (b ∷ bs) ∷ []

onto_one : (b : ℕ) (bs : List ℕ) → onto_first b (one_line bs) ≡ (b ∷ bs) ∷ []
onto_one b [] = refl
onto_one b (c ∷ bs) = refl

last_by : (b : ℕ) (bs : List ℕ) (t : Bool) → (length bs ≤ position_or_len is_newline bs → lines bs ≡ one_line bs) → length (b ∷ bs) ≤ len t bs → chosen t (lines bs) b ≡ (b ∷ bs) ∷ []
last_by b bs true more le = absurd (omega arith)
last_by b bs false more le = ap (onto_first b) (more (omega arith)) ∙ onto_one b bs

no_newline : (bs : List ℕ) → length bs ≤ position_or_len is_newline bs → lines bs ≡ one_line bs
unfolding lines
no_newline [] le = refl
no_newline (b ∷ bs) le = last_by b bs (is_newline b) (no_newline bs) le

-- the first line ends with the data
pub last_line : (bs : List ℕ) → 0 < length bs → length bs ≤ position_or_len is_newline bs → lines bs ≡ bs ∷ lines []
unfolding lines
last_line [] lt le = absurd (omega arith)
last_line (b ∷ bs) lt le = no_newline (b ∷ bs) le

-- ---- parts of a list, as the fields of a line

abbrev part_by : Bool → List (List ℕ) → ℕ → List (List ℕ)
part_by t more b = cond t ([] ∷ more) (onto_first b more)

abbrev part_len : (ℕ → Bool) → Bool → List ℕ → ℕ
part_len p t bs = cond (not t) (1 + position_or_len p bs) 0

split_by : (p : ℕ → Bool) (b : ℕ) (bs : List ℕ) (t : Bool) → (position_or_len p bs < length bs → slice_split p bs ≡ take (position_or_len p bs) bs ∷ slice_split p (drop (position_or_len p bs + 1) bs))
    → part_len p t bs < length (b ∷ bs) → part_by t (slice_split p bs) b ≡ take (part_len p t bs) (b ∷ bs) ∷ slice_split p (drop (part_len p t bs + 1) (b ∷ bs))
split_by p b bs true more lt = refl
split_by p b bs false more lt =
    let one : 1 + position_or_len p bs ≡ suc (position_or_len p bs) = omega arith in
    let two : 1 + position_or_len p bs + 1 ≡ suc (position_or_len p bs + 1) = omega arith in
    rw (two, one) (ap (onto_first b) (more (omega arith)))

-- the first part ends before the list does
pub split_ends : (p : ℕ → Bool) (bs : List ℕ) → position_or_len p bs < length bs → slice_split p bs ≡ take (position_or_len p bs) bs ∷ slice_split p (drop (position_or_len p bs + 1) bs)
split_ends p [] lt = absurd (omega arith)
split_ends p (b ∷ bs) lt = split_by p b bs (p b) (split_ends p bs) lt

one_part_by : (p : ℕ → Bool) (b : ℕ) (bs : List ℕ) (t : Bool) → (length bs ≤ position_or_len p bs → slice_split p bs ≡ bs ∷ []) → length (b ∷ bs) ≤ part_len p t bs → part_by t (slice_split p bs) b ≡ (b ∷ bs) ∷ []
one_part_by p b bs true one le = absurd (omega arith)
one_part_by p b bs false one le = ap (onto_first b) (one (omega arith))

-- it is the whole list
pub one_part : (p : ℕ → Bool) (bs : List ℕ) → length bs ≤ position_or_len p bs → slice_split p bs ≡ bs ∷ []
one_part p [] le = refl
one_part p (b ∷ bs) le = one_part_by p b bs (p b) (one_part p bs) le

-- ---- the text of a field

pub text_escaped : (bs : List ℕ) → 1 ≤ length bs → text_of (92 ∷ bs) ≡ before (escaped (get_or bs 0 0)) (text_of (drop 1 bs))
unfolding text_of
text_escaped [] le = absurd (omega arith)
text_escaped (c ∷ bs) le = refl

pub text_last : (b : ℕ) (bs : List ℕ) → length bs < 1 → text_of (b ∷ bs) ≡ before (plain b) (text_of bs)
unfolding text_of
text_last b [] lt = refl
text_last b (c ∷ bs) lt = absurd (omega arith)

text_nil : text_of [] ≡ Some []
unfolding text_of
text_nil = refl

not_escaped : (b : ℕ) (t : Bool) (x y : Option (List ℕ)) → t ≡ false → (if t then x else y) ≡ y
not_escaped b true x y e = absurd (let h : true ≡ false = e in cc)
not_escaped b false x y e = refl

pub text_plain : (b : ℕ) (bs : List ℕ) → eqb b 92 ≡ false → text_of (b ∷ bs) ≡ before (plain b) (text_of bs)
unfolding text_of
text_plain b [] e = refl
text_plain b (c ∷ bs) e = not_escaped b (eqb b 92) _ _ e

plain_by : (b : ℕ) (r s : Bool) → not r && not s ≡ true → (if r || s then None else Some b) ≡ Some b
plain_by b true s e = absurd (let h : false ≡ true = e in cc)
plain_by b false true e = absurd (let h : false ≡ true = e in cc)
plain_by b false false e = refl

not_slash : (r s more : Bool) → (not r && not s) && more ≡ true → s ≡ false
not_slash true s more e = absurd (let h : false ≡ true = e in cc)
not_slash false true more e = absurd (let h : false ≡ true = e in cc)
not_slash false false more e = refl

first_and : (t more : Bool) → t && more ≡ true → t ≡ true
first_and true more e = refl
first_and false more e = absurd (let h : false ≡ true = e in cc)

rest_and : (t more : Bool) → t && more ≡ true → more ≡ true
rest_and true more e = e
rest_and false more e = absurd (let h : false ≡ true = e in cc)

pub both : (a b : Bool) → a ≡ true → b ≡ true → (a && b) ≡ true
both true b e h = h
both false b e h = absurd (let x : false ≡ true = e in cc)

-- a field whose bytes stand for themselves
pub text_stands : (bs : List ℕ) → list_all stands bs ≡ true → text_of bs ≡ Some bs
text_stands [] e = text_nil
text_stands (b ∷ bs) e =
    text_plain b bs (not_slash (eqb b 13) (eqb b 92) (list_all stands bs) e)
    ∙ ap (λ p. before p (text_of bs)) (plain_by b (eqb b 13) (eqb b 92) (first_and (stands b) (list_all stands bs) e))
    ∙ ap (before (Some b)) (text_stands bs (rest_and (stands b) (list_all stands bs) e))

-- one more byte of a text
pub one_more : (text : List ℕ) (b : ℕ) (more : Option (List ℕ)) → option_map (λ t. text ++ t) (before (Some b) more) ≡ option_map (λ t. (text ++ b ∷ []) ++ t) more
one_more text b None = refl
one_more text b (Some t) = ap (λ x. Some x) (sym (append_assoc text (b ∷ []) t))

-- no byte is left
pub text_done : (text left : List ℕ) → length left < 1 → option_map (λ t. text ++ t) (text_of left) ≡ Some text
unfolding text_of
text_done text [] lt = ap (λ x. Some x) (append-nil text)
text_done text (b ∷ bs) lt = absurd (omega arith)

pub no_lines : (bs : List ℕ) → length bs < 1 → lines bs ≡ []
unfolding lines
no_lines [] lt = refl
no_lines (b ∷ bs) lt = absurd (omega arith)

-- ---- simple bytes

pub simple_front : (n : ℕ) (bs : List ℕ) → list_all is_simple bs ≡ true → list_all is_simple (take n bs) ≡ true
simple_front zero bs e = refl
simple_front (suc n) [] e = refl
simple_front (suc n) (b ∷ bs) e = both (is_simple b) _ (first_and (is_simple b) (list_all is_simple bs) e) (simple_front n bs (rest_and (is_simple b) (list_all is_simple bs) e))

pub simple_back : (n : ℕ) (bs : List ℕ) → list_all is_simple bs ≡ true → list_all is_simple (drop n bs) ≡ true
simple_back zero bs e = e
simple_back (suc n) [] e = refl
simple_back (suc n) (b ∷ bs) e = simple_back n bs (rest_and (is_simple b) (list_all is_simple bs) e)

pub simple_ascii : (bs : List ℕ) → list_all is_simple bs ≡ true → list_all is_ascii bs ≡ true
simple_ascii [] e = refl
simple_ascii (b ∷ bs) e =
    both (is_ascii b) _ (first_and (is_ascii b) _ (first_and (is_ascii b && not (b == 13)) _ (first_and (is_simple b) (list_all is_simple bs) e))) (simple_ascii bs (rest_and (is_simple b) (list_all is_simple bs) e))

simple_stands_by : (a r s : Bool) → (a && not r) && not s ≡ true → not r && not s ≡ true
simple_stands_by true r s e = e
simple_stands_by false r s e = absurd (let h : false ≡ true = e in cc)

pub simple_stands : (bs : List ℕ) → list_all is_simple bs ≡ true → list_all stands bs ≡ true
simple_stands [] e = refl
simple_stands (b ∷ bs) e =
    both (stands b) _ (simple_stands_by (is_ascii b) (b == 13) (b == 92) (first_and (is_simple b) (list_all is_simple bs) e)) (simple_stands bs (rest_and (is_simple b) (list_all is_simple bs) e))
