-- A script that comes in parts: what bytes end, and then what more bytes end.
use Rattle.std.specs.Prelude.{◌&&◌, ◌||◌, ◌==◌, codes, if◌then◌else◌}
use Rattle.std.proofs.Common.{Bool, true, false, cond, ◌≡◌, ◌≤◌, ◌+◌, ℕ, Some, None, List, [], ◌∷◌, ◌++◌, length, refl, sym, ◌∙◌, ap, arith, append_assoc, length-append}
use Rattle.cq_token.specs.Bytes.{is_blank}
use Rattle.cq_script.specs.declared.scan.Scan.{Scan}
use Rattle.cq_script.specs.declared.scan.Scan.TheVariants.{Code, Dash}
use Rattle.cq_script.specs.declared.cutter.Piece.{Piece}
use Rattle.cq_script.specs.declared.cutter.Line.{Line}
use Rattle.cq_script.specs.declared.cutter.Line.TheVariants.{Start, Slash, End, Within}
use Rattle.cq_script.specs.declared.cutter.Place.{Place}
use Rattle.cq_script.specs.declared.cutter.Place.TheVariants.{Gap, GapDash, GapComment, Text, Rest, Data, Directive, Out}
use Rattle.cq_script.specs.declared.cutter.Cutter.{Cutter}
use Rattle.cq_script.specs.Runs.{number_behind}
use Rattle.cq_script.specs.Scripts.{next, ends, is_copy, Cut, Stepped, first, goes, in_text, in_gap, keeps, in_data, step_at, line_behind, step, one, cut, pieces_in, pieces, last_at, last, Gives}

-- pieces, and then the pieces of another cut
abbrev pub behind : List Piece → Cut → Cut
behind before c = record { pieces = before ++ c.pieces; begun = c.begun }

behind_both : (before more : List Piece) (c : Cut) → behind before (behind more c) ≡ behind (before ++ more) c
behind_both before more c = ap (λ (found : List Piece). let both : Cut = record { pieces = found; begun = c.begun } in both) (sym (append_assoc before more c.pieces))

-- ---- bytes in parts

pub cut_append : (c : Cutter) (xs ys : List ℕ) → cut c (xs ++ ys) ≡ behind (cut c xs).pieces (cut (cut c xs).begun ys)
cut_append c [] ys = refl
cut_append c (b ∷ xs) ys =
    let s = step c b in
    let more = cut s.1 xs in
    ap (behind (one s.0)) (cut_append s.1 xs ys) ∙ behind_both (one s.0) more.pieces (cut more.begun ys)

pub pieces_in_append : (xs ys : List ℕ) → pieces_in (xs ++ ys) ≡ pieces_in xs ++ (cut (cut first xs).begun ys).pieces
unfolding pieces_in
pieces_in_append xs ys = ap (λ (c : Cut). c.pieces) (cut_append first xs ys)

-- ---- one byte

pub cut_none : (c new : Cutter) (b : ℕ) (bs : List ℕ) → (None, new) ≡ step c b → cut c (b ∷ bs) ≡ cut new bs
cut_none c new b bs is = ap (λ (s : Stepped). behind (one s.0) (cut s.1 bs)) (sym is)

pub cut_some : (c new : Cutter) (p : Piece) (b : ℕ) (bs : List ℕ) → (Some p, new) ≡ step c b → cut c (b ∷ bs) ≡ behind (p ∷ []) (cut new bs)
cut_some c new p b bs is = ap (λ (s : Stepped). behind (one s.0) (cut s.1 bs)) (sym is)

-- a piece is found behind bytes that end none
pub gives_at : (c now new : Cutter) (p : Piece) (b : ℕ) (bytes left : List ℕ) → cut c bytes ≡ cut now (b ∷ left) → length (b ∷ left) ≤ length bytes → (Some p, new) ≡ step now b
    → Gives c bytes p new left
gives_at c now new p b bytes left same within is = record {
  first = same ∙ cut_some now new p b left is;
  shorter = omega (arith, within);
}

-- ---- how many pieces there are

-- 1 where a piece is begun that the end of the script makes whole
abbrev pub begun_count : Place → ℕ
begun_count (Gap fresh) = 0
begun_count GapDash = 1
begun_count GapComment = 0
begun_count (Text scan) = 1
begun_count Rest = 1
begun_count (Data line) = 1
begun_count Directive = 1
begun_count Out = 0

-- a byte ends a piece or begins one
abbrev Counts : Stepped → Type 0
Counts s = length (one s.0) + begun_count s.1.at ≤ 1

begun_most : (at : Place) → begun_count at ≤ 1
begun_most (Gap fresh) = omega arith
begun_most GapDash = omega arith
begun_most GapComment = omega arith
begun_most (Text scan) = omega arith
begun_most Rest = omega arith
begun_most (Data line) = omega arith
begun_most Directive = omega arith
begun_most Out = omega arith

goes_counts : (at : Place) (c : Cutter) → Counts (goes at c)
goes_counts at c = omega (arith, begun_most at)

counts_by : (t : Bool) (x y : Stepped) → Counts x → Counts y → Counts (cond t x y)
counts_by true x y h k = h
counts_by false x y h k = k

text_counts : (scan : Scan) (c : Cutter) (b : ℕ) → Counts (in_text scan c b)
text_counts scan c b =
    counts_by (ends scan b) _ _ (counts_by (is_copy c.text) _ _ (goes_counts Rest c) (omega arith)) (goes_counts (Text (next scan b)) (record c { text = c.text ++ b ∷ [] }))

gap_counts : (fresh : Bool) (c : Cutter) (b : ℕ) → Counts (in_gap fresh c b)
gap_counts fresh c b =
    let d : Cutter = record c { begun = c.line } in
    counts_by (b == 10) _ _ (goes_counts (Gap true) c) (counts_by (is_blank b || b == 59) _ _ (goes_counts (Gap false) c) (counts_by (b == 45) _ _ (goes_counts GapDash d)
    (counts_by (b == 92 && fresh) _ _ (goes_counts Directive (record d { text = c.text ++ b ∷ [] })) (text_counts Code d b))))

keeps_counts : (held : List ℕ) (c : Cutter) (b : ℕ) → Counts (keeps held c b)
keeps_counts held c b = goes_counts (Data (if b == 10 then Start else Within)) (record c { copied = c.copied ++ held ++ b ∷ [] })

data_counts : (line : Line) (c : Cutter) (b : ℕ) → Counts (in_data line c b)
data_counts Start c b = counts_by (b == 92) _ _ (goes_counts (Data Slash) c) (keeps_counts [] c b)
data_counts Slash c b = counts_by (b == 46) _ _ (goes_counts (Data End) c) (keeps_counts (codes "\\") c b)
data_counts End c b = counts_by (b == 10) _ _ (omega arith) (keeps_counts (codes "\\.") c b)
data_counts Within c b = keeps_counts [] c b

place_counts : (at : Place) (c : Cutter) (b : ℕ) → Counts (step_at at c b)
place_counts (Gap fresh) c b = gap_counts fresh c b
place_counts GapDash c b = counts_by (b == 45) _ _ (goes_counts GapComment c) (text_counts Dash (record c { text = c.text ++ 45 ∷ [] }) b)
place_counts GapComment c b = counts_by (b == 10) _ _ (goes_counts (Gap true) c) (goes_counts GapComment c)
place_counts (Text scan) c b = text_counts scan c b
place_counts Rest c b = counts_by (b == 10) _ _ (goes_counts (Data Start) c) (counts_by (is_blank b) _ _ (goes_counts Rest c) (omega arith))
place_counts (Data line) c b = data_counts line c b
place_counts Directive c b = counts_by (b == 10) _ _ (omega arith) (goes_counts Directive (record c { text = c.text ++ b ∷ [] }))
place_counts Out c b = goes_counts Out c

step_counts : (c : Cutter) (b : ℕ) → Counts (step c b)
unfolding step
step_counts c b = place_counts c.at (record c { line = line_behind c.line b }) b

-- each piece takes a byte, also the one that is begun
pub pieces_within : (c : Cutter) (bytes : List ℕ) → length (cut c bytes).pieces + begun_count (cut c bytes).begun.at ≤ begun_count c.at + length bytes
pieces_within c [] = omega arith
pieces_within c (b ∷ bs) =
    let s = step c b in
    omega (arith, step_counts c b, pieces_within s.1 bs, length-append (one s.0) (cut s.1 bs).pieces)

last_counts : (at : Place) (c : Cutter) → length (one (last_at at c)) ≤ begun_count at
last_counts (Gap fresh) c = omega arith
last_counts GapDash c = omega arith
last_counts GapComment c = omega arith
last_counts (Text scan) c = omega arith
last_counts Rest c = omega arith
last_counts (Data Start) c = omega arith
last_counts (Data Slash) c = omega arith
last_counts (Data End) c = omega arith
last_counts (Data Within) c = omega arith
last_counts Directive c = omega arith
last_counts Out c = omega arith

-- a script has no more pieces than bytes
pub pieces_most : (bytes : List ℕ) → length (pieces bytes) ≤ length bytes
unfolding pieces pieces_in last
pieces_most bytes =
    let c = cut first bytes in
    omega (arith, pieces_within first bytes, last_counts c.begun.at c.begun, length-append c.pieces (one (last_at c.begun.at c.begun)))

-- ---- behind a crowded line

-- nothing follows
pub cut_out : (c : Cutter) (bytes : List ℕ) → cut (record c { at = Out }) bytes ≡ record { pieces = []; begun = record c { at = Out; line = number_behind c.line bytes } }
unfolding step
cut_out c [] = refl
cut_out c (b ∷ bs) = cut_out (record c { line = line_behind c.line b }) bs
