-- A run of bytes cuts as its bytes do one by one.
use Rattle.std.proofs.Common.{Bool, true, false, not, ◌&&◌, cond, eqb, ◌≡◌, ◌+◌, ◌-◌, ◌≤◌, ℕ, zero, suc, None, List, [], ◌∷◌, ◌++◌, length, get_or, take, drop, min, refl, sym, ◌∙◌, ap, subst, arith, append_assoc, append-nil, if◌then◌else◌}
use Rattle.std.specs.Prelude.{◌==◌}
use Rattle.std.specs.List.{prefix_len, count_by}
use Rattle.std.proofs.lemmas.List.Sums.{sum_by-cons, prefix_len_is}
use Rattle.memchr.specs.Find.{Nowhere, NoneBefore, Passes, is_byte}
use Rattle.cq_token.specs.Bytes.{is_in_line}
use Rattle.cq_script.specs.Streams.{counted}
use Rattle.cq_script.specs.declared.scan.Scan.{Scan}
use Rattle.cq_script.specs.declared.scan.Scan.TheVariants.{Code, Dash, Comment, Quote}
use Rattle.cq_script.specs.declared.cutter.Line.{Line}
use Rattle.cq_script.specs.declared.cutter.Line.TheVariants.{Start, Slash, End, Within}
use Rattle.cq_script.specs.declared.cutter.Place.{Place}
use Rattle.cq_script.specs.declared.cutter.Place.TheVariants.{Gap, GapDash, GapComment, Text, Rest, Data, Directive, Out}
use Rattle.cq_script.specs.declared.cutter.Cutter.{Cutter}
use Rattle.cq_script.specs.Scripts.{Stepped, is_copy, next, ends, step, goes, statement, gives, cut}
use Rattle.cq_script.specs.Runs.{is_plain_code, is_plain_quoted, is_plain_data, is_line_end, run_len, data_line, number_behind, with_run}
use Rattle.cq_script.proofs.CuttingLaws.{cut_none}

-- ---- one byte

-- the cutter in this place, and with one more byte in its statement or its data
abbrev in_place : Place → Cutter → Cutter
in_place at c = record c { at = at }

abbrev goes_on : Place → Cutter → ℕ → Stepped
goes_on at c b = (None, with_run at (in_place at c) (b ∷ []))

-- the line behind a byte
abbrev on_line : Bool → Place → Cutter → Cutter
on_line n at c = record c { at = at; line = cond n (counted c.line) c.line }

code_by : (c : Cutter) (b : ℕ) (q d s n : Bool) → ((not q && not d) && not s) && not n ≡ true
    → goes_on (Text Code) c b ≡ (if s then (if is_copy c.text then goes Rest (on_line n (Text Code) c) else gives (statement (on_line n (Text Code) c)) (Gap false) (on_line n (Text Code) c))
    else goes (Text (if q then Quote else (if d then Dash else Code))) (record (on_line n (Text Code) c) { text = c.text ++ b ∷ [] }))
code_by c b true d s n e = absurd (let h : false ≡ true = e in cc)
code_by c b false true s n e = absurd (let h : false ≡ true = e in cc)
code_by c b false false true n e = absurd (let h : false ≡ true = e in cc)
code_by c b false false false true e = absurd (let h : false ≡ true = e in cc)
code_by c b false false false false e = refl

code_step : (c : Cutter) (b : ℕ) → is_plain_code b ≡ true → goes_on (Text Code) c b ≡ step (in_place (Text Code) c) b
unfolding step next ends
code_step c b e = code_by c b (eqb b 39) (eqb b 45) (eqb b 59) (eqb b 10) e

quoted_by : (c : Cutter) (b : ℕ) (q n : Bool) → not q && not n ≡ true
    → goes_on (Text Quote) c b ≡ goes (Text (if q then Code else Quote)) (record (on_line n (Text Quote) c) { text = c.text ++ b ∷ [] })
quoted_by c b true n e = absurd (let h : false ≡ true = e in cc)
quoted_by c b false true e = absurd (let h : false ≡ true = e in cc)
quoted_by c b false false e = refl

quoted_step : (c : Cutter) (b : ℕ) → is_plain_quoted b ≡ true → goes_on (Text Quote) c b ≡ step (in_place (Text Quote) c) b
unfolding step next ends
quoted_step c b e = quoted_by c b (eqb b 39) (eqb b 10) e

comment_by : (c : Cutter) (b : ℕ) (n : Bool) → not n ≡ true
    → goes_on (Text Comment) c b ≡ goes (Text (if n then Code else Comment)) (record (on_line n (Text Comment) c) { text = c.text ++ b ∷ [] })
comment_by c b true e = absurd (let h : false ≡ true = e in cc)
comment_by c b false e = refl

comment_step : (c : Cutter) (b : ℕ) → is_in_line b ≡ true → goes_on (Text Comment) c b ≡ step (in_place (Text Comment) c) b
unfolding step next ends
comment_step c b e = comment_by c b (eqb b 10) e

-- the line of data is at its start, or farther on
abbrev open_line : Bool → Line
open_line t = if t then Start else Within

data_by : (at : Place) (c : Cutter) (b : ℕ) (n : Bool)
    → (None, record c { at = Data (open_line n); line = (if n then counted c.line else c.line); copied = c.copied ++ b ∷ [] }) ≡ goes (Data (if n then Start else Within)) (record (on_line n at c) { copied = c.copied ++ [] ++ b ∷ [] })
data_by at c b true = ap (λ (t : List ℕ). let made : Stepped = (None, record c { at = Data Start; line = counted c.line; copied = t ++ b ∷ [] }) in made) (sym (append-nil c.copied))
data_by at c b false = ap (λ (t : List ℕ). let made : Stepped = (None, record c { at = Data Within; copied = t ++ b ∷ [] }) in made) (sym (append-nil c.copied))

unslashed : (s : Bool) (x y : Stepped) → not s ≡ true → y ≡ (if s then x else y)
unslashed true x y e = absurd (let h : false ≡ true = e in cc)
unslashed false x y e = refl

data_step : (t : Bool) (c : Cutter) (b : ℕ) → is_plain_data b ≡ true → goes_on (Data (open_line t)) c b ≡ step (in_place (Data (open_line t)) c) b
unfolding step
data_step true c b e = data_by (Data Start) c b (eqb b 10) ∙ unslashed (eqb b 92) _ _ e
data_step false c b e = data_by (Data Within) c b (eqb b 10)

-- ---- all bytes

-- a run cuts to what it joins
abbrev CutsTo : (Cutter → List ℕ → Cutter) → ℕ → Cutter → List ℕ → Type 0
CutsTo add n c bs = cut c bs ≡ cut (add c (take n bs)) (drop n bs)

cuts_none : (add : Cutter → List ℕ → Cutter) → ((c : Cutter) → add c [] ≡ c) → (c : Cutter) (bs : List ℕ) → CutsTo add 0 c bs
cuts_none add nil c bs = ap (λ (x : Cutter). cut x bs) (sym (nil c))

cuts_more : (add : Cutter → List ℕ → Cutter) → ((c : Cutter) → add c [] ≡ c) → ((c : Cutter) (xs ys : List ℕ) → add (add c xs) ys ≡ add c (xs ++ ys))
    → (n : ℕ) (c : Cutter) (b : ℕ) (bs : List ℕ) (t : Bool) → (t ≡ true → (None, add c (b ∷ [])) ≡ step c b) → CutsTo add n (add c (b ∷ [])) bs → CutsTo add (cond t (1 + n) 0) c (b ∷ bs)
cuts_more add nil more n c b bs false one rest = cuts_none add nil c (b ∷ bs)
cuts_more add nil more n c b bs true one rest =
    let is : 1 + n ≡ suc n = omega arith in
    rw is (cut_none c (add c (b ∷ [])) b bs (one refl) ∙ rest ∙ ap (λ (x : Cutter). cut x (drop n bs)) (more c (b ∷ []) (take n bs)))

cuts_all : (add : Cutter → List ℕ → Cutter) → ((c : Cutter) → add c [] ≡ c) → ((c : Cutter) (xs ys : List ℕ) → add (add c xs) ys ≡ add c (xs ++ ys))
    → (at : Place) → ((c : Cutter) (xs : List ℕ) → c.at ≡ at → (add c xs).at ≡ at) → (p : ℕ → Bool) → ((c : Cutter) (b : ℕ) → c.at ≡ at → p b ≡ true → (None, add c (b ∷ [])) ≡ step c b)
    → (c : Cutter) (bs : List ℕ) → c.at ≡ at → CutsTo add (prefix_len p bs) c bs
cuts_all add nil more at stays p one c [] is = cuts_none add nil c []
cuts_all add nil more at stays p one c (b ∷ bs) is =
    cuts_more add nil more (prefix_len p bs) c b bs (p b) (one c b is) (cuts_all add nil more at stays p one (add c (b ∷ [])) bs (stays c (b ∷ []) is))

-- bytes of a statement
abbrev with_text : Cutter → List ℕ → Cutter
with_text c xs = record c { text = c.text ++ xs }

text_nil : (c : Cutter) → with_text c [] ≡ c
text_nil c = ap (λ (t : List ℕ). let made : Cutter = record c { text = t } in made) (append-nil c.text)

text_more : (c : Cutter) (xs ys : List ℕ) → with_text (with_text c xs) ys ≡ with_text c (xs ++ ys)
text_more c xs ys = ap (λ (t : List ℕ). let made : Cutter = record c { text = t } in made) (append_assoc c.text xs ys)

-- what holds of the cutter in a place holds of one that stands there
there : (P : Cutter → Type 0) (at : Place) (c : Cutter) → c.at ≡ at → P (in_place at c) → P c
there P at c is h = subst (λ (x : Place). P (in_place x c)) (sym is) h

text_run : (scan : Scan) (p : ℕ → Bool) → ((c : Cutter) (b : ℕ) → p b ≡ true → goes_on (Text scan) c b ≡ step (in_place (Text scan) c) b) → (c : Cutter) (bs : List ℕ) → c.at ≡ Text scan
    → CutsTo with_text (prefix_len p bs) c bs
text_run scan p one = cuts_all with_text text_nil text_more (Text scan) (λ c xs is. is) p
    (λ c b is e. there (λ (x : Cutter). (None, with_text x (b ∷ [])) ≡ step x b) (Text scan) c is (one c b e))

-- ---- bytes of data

data_nil : (line : Line) (c : Cutter) → with_run (Data line) c [] ≡ in_place (Data line) c
data_nil line c = ap (λ (t : List ℕ). let made : Cutter = record c { at = Data line; copied = t } in made) (append-nil c.copied)

data_more : (line : Line) (c : Cutter) (b : ℕ) (bs : List ℕ) → with_run (Data (if b == 10 then Start else Within)) (with_run (Data line) c (b ∷ [])) bs ≡ with_run (Data line) c (b ∷ bs)
data_more line c b bs =
    ap (λ (t : List ℕ). let made : Cutter = record c { at = Data (data_line line (b ∷ bs)); line = number_behind c.line (b ∷ bs); copied = t } in made) (append_assoc c.copied (b ∷ []) bs)

abbrev DataCutsTo : Bool → ℕ → Cutter → List ℕ → Type 0
DataCutsTo t n c bs = cut (in_place (Data (open_line t)) c) bs ≡ cut (with_run (Data (open_line t)) c (take n bs)) (drop n bs)

data_none : (t : Bool) (c : Cutter) (bs : List ℕ) → DataCutsTo t 0 c bs
data_none t c bs = ap (λ (x : Cutter). cut x bs) (sym (data_nil (open_line t) c))

data_one_more : (t : Bool) (n : ℕ) (c : Cutter) (b : ℕ) (bs : List ℕ) (s : Bool) → (s ≡ true → goes_on (Data (open_line t)) c b ≡ step (in_place (Data (open_line t)) c) b)
    → DataCutsTo (b == 10) n (with_run (Data (open_line t)) c (b ∷ [])) bs → DataCutsTo t (cond s (1 + n) 0) c (b ∷ bs)
data_one_more t n c b bs false one rest = data_none t c (b ∷ bs)
data_one_more t n c b bs true one rest =
    let is : 1 + n ≡ suc n = omega arith in
    rw is (cut_none (in_place (Data (open_line t)) c) (with_run (Data (open_line t)) c (b ∷ [])) b bs (one refl) ∙ rest ∙ ap (λ (x : Cutter). cut x (drop n bs)) (data_more (open_line t) c b (take n bs)))

data_run : (t : Bool) (c : Cutter) (bs : List ℕ) → DataCutsTo t (prefix_len is_plain_data bs) c bs
data_run t c [] = data_none t c []
data_run t c (b ∷ bs) =
    data_one_more t (prefix_len is_plain_data bs) c b bs (is_plain_data b) (data_step t c b) (data_run (b == 10) (with_run (Data (open_line t)) c (b ∷ [])) bs)

cut_run_at : (at : Place) (c : Cutter) (bs : List ℕ) → c.at ≡ at → cut c bs ≡ cut (with_run at c (take (run_len at bs) bs)) (drop (run_len at bs) bs)
cut_run_at (Text Code) c bs is = text_run Code is_plain_code code_step c bs is
cut_run_at (Text Dash) c bs is = cuts_none with_text text_nil c bs
cut_run_at (Text Comment) c bs is = text_run Comment is_in_line comment_step c bs is
cut_run_at (Text Quote) c bs is = text_run Quote is_plain_quoted quoted_step c bs is
cut_run_at (Data Start) c bs is = there (λ (x : Cutter). cut x bs ≡ cut (with_run (Data Start) x (take (prefix_len is_plain_data bs) bs)) (drop (prefix_len is_plain_data bs) bs)) (Data Start) c is (data_run true c bs)
cut_run_at (Data Slash) c bs is = there (λ (x : Cutter). cut x bs ≡ cut (with_run (Data Slash) x []) bs) (Data Slash) c is (ap (λ (x : Cutter). cut x bs) (sym (data_nil Slash c)))
cut_run_at (Data End) c bs is = there (λ (x : Cutter). cut x bs ≡ cut (with_run (Data End) x []) bs) (Data End) c is (ap (λ (x : Cutter). cut x bs) (sym (data_nil End c)))
cut_run_at (Data Within) c bs is = there (λ (x : Cutter). cut x bs ≡ cut (with_run (Data Within) x (take (prefix_len is_plain_data bs) bs)) (drop (prefix_len is_plain_data bs) bs)) (Data Within) c is (data_run false c bs)
cut_run_at (Gap fresh) c bs is = refl
cut_run_at GapDash c bs is = refl
cut_run_at GapComment c bs is = refl
cut_run_at Rest c bs is = refl
cut_run_at Directive c bs is = refl
cut_run_at Out c bs is = refl

-- the run at the front, and then the bytes left
pub cut_run : (c : Cutter) (bs : List ℕ) → cut c bs ≡ cut (with_run c.at c (take (run_len c.at bs) bs)) (drop (run_len c.at bs) bs)
cut_run c bs = cut_run_at c.at c bs refl

-- ---- behind a run of data

line_by_last : (line : Line) (bs : List ℕ) (i : ℕ) → length bs ≡ suc i → data_line line bs ≡ open_line (get_or bs i 0 == 10)
line_by_last line [] i e = absurd (omega (arith, e))
line_by_last line (b ∷ []) zero e = refl
line_by_last line (b ∷ []) (suc i) e = absurd (omega (arith, e))
line_by_last line (b ∷ c ∷ bs) zero e = absurd (omega (arith, e))
line_by_last line (b ∷ c ∷ bs) (suc i) e = line_by_last (open_line (b == 10)) (c ∷ bs) i (omega (arith, e))

pub line_start : (line : Line) (bs : List ℕ) → 1 ≤ length bs → get_or bs (length bs - 1) 0 ≡ 10 → Start ≡ data_line line bs
line_start line bs le is = sym (line_by_last line bs (length bs - 1) (omega (arith, le)) ∙ ap (λ b. open_line (b == 10)) is)

pub line_within : (line : Line) (bs : List ℕ) → 1 ≤ length bs → eqb (get_or bs (length bs - 1) 0) 10 ≡ false → Within ≡ data_line line bs
line_within line bs le is = sym (line_by_last line bs (length bs - 1) (omega (arith, le)) ∙ ap open_line is)

next_number : (number : ℕ) (t : Bool) → number ≤ 18446744073709551615 → (if t then counted number else number) ≤ 18446744073709551615
next_number number true le = omega arith
next_number number false le = le

more_lines : (number : ℕ) (t : Bool) (n : ℕ) → number ≤ 18446744073709551615 → min ((if t then counted number else number) + n) 18446744073709551615 ≡ min (number + (cond t 1 0 + n)) 18446744073709551615
more_lines number true n le = omega arith
more_lines number false n le = let none : n ≡ 0 + n = omega arith in ap (λ k. min (number + k) 18446744073709551615) none

pub number_by : (number : ℕ) (bs : List ℕ) → number ≤ 18446744073709551615 → number_behind number bs ≡ min (number + count_by is_line_end bs) 18446744073709551615
number_by number [] le = omega arith
number_by number (b ∷ bs) le =
    number_by (if b == 10 then counted number else number) bs (next_number number (b == 10) le) ∙ more_lines number (b == 10) (count_by is_line_end bs) le
    ∙ ap (λ n. min (number + n) 18446744073709551615) (sym (sum_by-cons (λ (x : ℕ). cond (is_line_end x) 1 0) b bs))

-- ---- the first place of a byte

not_yes : (t : Bool) → ¬ (t ≡ true) → not t ≡ true
not_yes true never = absurd (never refl)
not_yes false never = refl

pub found_at : (a : ℕ) (bs : List ℕ) (n : ℕ) → NoneBefore (Passes (is_byte a) bs) 0 (length bs) n → Passes (is_byte a) bs n → n ≡ prefix_len (λ (b : ℕ). not (b == a)) bs
found_at a bs n none here =
    sym (prefix_len_is (λ (b : ℕ). not (b == a)) bs n 0 (omega (arith, none.high)) (λ k lt. not_yes (get_or bs k 0 == a) (none.before k (omega arith) lt)) (λ lt. ap not here))

pub found_none : (a : ℕ) (bs : List ℕ) → Nowhere (Passes (is_byte a) bs) 0 (length bs) → length bs ≡ prefix_len (λ (b : ℕ). not (b == a)) bs
found_none a bs none =
    sym (prefix_len_is (λ (b : ℕ). not (b == a)) bs (length bs) 0 (omega arith) (λ k lt. not_yes (get_or bs k 0 == a) (none k (omega arith) lt)) (λ lt. absurd (omega arith)))
