-- A script that is written from items is cut into these.
use Rattle.std.specs.Prelude.{◌≢◌, ◌&&◌, ◌||◌, ◌==◌, flat_map, codes, if◌then◌else◌}
use Rattle.std.specs.List.{AllByRecursion}
use Rattle.std.proofs.Common.{◌≡◌, ℕ, Bool, true, false, cond, Some, None, List, [], ◌∷◌, ◌++◌, refl, sym, ◌∙◌, ap, ap₂, subst, arith, append_assoc, append-nil}
use Rattle.std.proofs.lemmas.List.Sums.{fold-append}
use Rattle.std.proofs.lemmas.Bool.Decides.{nat_tests}
use Rattle.cq_token.specs.Bytes.{is_blank}
use Rattle.cq_script.specs.Streams.{counted}
use Rattle.cq_script.specs.declared.scan.Scan.{Scan}
use Rattle.cq_script.specs.declared.scan.Scan.TheVariants.{Code}
use Rattle.cq_script.specs.declared.cutter.Item.{Item}
use Rattle.cq_script.specs.declared.cutter.Piece.{Piece}
use Rattle.cq_script.specs.declared.cutter.Piece.TheVariants as piece
use Rattle.cq_script.specs.declared.cutter.Line.TheVariants.{Start, Slash, End, Within}
use Rattle.cq_script.specs.declared.cutter.Place.{Place}
use Rattle.cq_script.specs.declared.cutter.Place.TheVariants.{Gap, GapDash, Text, Rest, Data, Directive}
use Rattle.cq_script.specs.declared.cutter.Cutter.{Cutter}
use Rattle.cq_script.specs.Scripts.{next, ends, is_copy, Cut, Stepped, goes, statement, gives, in_text, begins, keeps, step, one, cut, pieces_in, pieces, last_at, last}
use Rattle.cq_script.specs.Runs.{number_behind}
use Rattle.cq_script.specs.Written.{NoEnd, scan_behind, IsText, IsLine, whole_line, IsData, IsItem, written, pieces_of}
use Rattle.cq_script.proofs.CuttingLaws.{behind, cut_append, cut_none, cut_some}

-- two numbers that the test takes for one
pub nat_same : (a b : ℕ) → (a == b) ≡ true → a ≡ b
nat_same a b e = grind (arith, nat_tests)

abbrev pub at : Place → ℕ → ℕ → List ℕ → List ℕ → Cutter
at place line begun text copied = record { at = place; line = line; begun = begun; text = text; copied = copied }

-- the bytes end these pieces
abbrev pub Ends : Cutter → List ℕ → List Piece → Cutter → Type 0
Ends c bytes found new = cut c bytes ≡ record { pieces = found; begun = new }

pub then_ends : (c mid new : Cutter) (xs ys : List ℕ) (found more : List Piece) → Ends c xs found mid → Ends mid ys more new → Ends c (xs ++ ys) (found ++ more) new
then_ends c mid new xs ys found more h k = cut_append c xs ys ∙ ap (λ (v : Cut). behind v.pieces (cut v.begun ys)) h ∙ ap (behind found) k

-- a byte that ends none
pub then_one : (c mid new : Cutter) (b : ℕ) (bs : List ℕ) (found : List Piece) → (None, mid) ≡ step c b → Ends mid bs found new → Ends c (b ∷ bs) found new
then_one c mid new b bs found is k = cut_none c mid b bs is ∙ k

-- ---- lines

pub number_append : (n : ℕ) (xs ys : List ℕ) → number_behind n (xs ++ ys) ≡ number_behind (number_behind n xs) ys
number_append n xs ys = fold-append (λ n b. if b == 10 then counted n else n) n xs ys

pub number_in_line : (n : ℕ) (bytes : List ℕ) → AllByRecursion (λ b. (b == 10) ≡ false) bytes → number_behind n bytes ≡ n
number_in_line n [] h = refl
number_in_line n (b ∷ bs) h = ap (λ (t : Bool). number_behind (if t then counted n else n) bs) h.0 ∙ number_in_line n bs h.1

-- ---- a statement's text

abbrev pub line_of : ℕ → ℕ → ℕ
line_of n b = if b == 10 then counted n else n

pub text_byte : (scan : Scan) (n m b : ℕ) (text copied : List ℕ) → ends scan b ≡ false → (None, at (Text (next scan b)) (line_of n b) m (text ++ b ∷ []) copied) ≡ step (at (Text scan) n m text copied) b
unfolding step
text_byte scan n m b text copied none =
    let c = at (Text scan) (line_of n b) m text copied in
    let ended : Stepped = cond (is_copy text) (goes Rest c) (gives (statement c) (Gap false) c) in
    let going : Stepped = (None, at (Text (next scan b)) (line_of n b) m (text ++ b ∷ []) copied) in
    ap (λ (t : Bool). cond t ended going) (sym none)

pub text_ends : (scan : Scan) (n m : ℕ) (text copied bs : List ℕ) → NoEnd scan bs → Ends (at (Text scan) n m text copied) bs [] (at (Text (scan_behind scan bs)) (number_behind n bs) m (text ++ bs) copied)
text_ends scan n m text copied [] h = ap (λ (t : List ℕ). let v : Cut = record { pieces = []; begun = at (Text scan) n m t copied } in v) (sym (append-nil text))
text_ends scan n m text copied (b ∷ bs) h =
    then_one (at (Text scan) n m text copied) _ _ b bs [] (text_byte scan n m b text copied h.0)
    (text_ends (next scan b) (line_of n b) m (text ++ b ∷ []) copied bs h.1
    ∙ ap (λ (t : List ℕ). let v : Cut = record { pieces = []; begun = at (Text (scan_behind (next scan b) bs)) (number_behind (line_of n b) bs) m t copied } in v) (append_assoc text (b ∷ []) bs))

-- the first byte
pub or_right : (s t : Bool) → (s || t) ≡ false → t ≡ false
or_right true t h = absurd (let e : true ≡ false = h in cc)
or_right false t h = h

pub or_left : (s t : Bool) → (s || t) ≡ false → s ≡ false
or_left true t h = absurd (let e : true ≡ false = h in cc)
or_left false t h = refl

pub no_newline : (b : ℕ) → (is_blank b || b == 59) ≡ false → (b == 10) ≡ false
no_newline b h = or_right (b == 32 || b == 9 || b == 13) (b == 10) (or_left (is_blank b) (b == 59) h)

-- what was begun begins in the line of its first byte
pub gap_byte : (f : Bool) (n m b : ℕ) → (is_blank b || b == 59) ≡ false → (b == 45) ≡ false → (b == 92 && f) ≡ false → ends Code b ≡ false
    → (None, at (Text (next Code b)) (line_of n b) n (b ∷ []) []) ≡ step (at (Gap f) n m [] []) b
unfolding step
gap_byte f n m b blank dash slash none =
    let c = at (Gap f) (line_of n b) m [] [] in
    let d = at (Gap f) (line_of n b) n [] [] in
    let text = in_text Code d b in
    let slashed : Stepped = cond (b == 92 && f) (goes Directive (record d { text = b ∷ [] })) text in
    let dashed : Stepped = cond (b == 45) (goes GapDash d) slashed in
    let blanked : Stepped = cond (is_blank b || b == 59) (goes (Gap false) c) dashed in
    text_byte Code n n b [] [] none ∙ ap (λ (t : Bool). cond t (goes Directive (record d { text = b ∷ [] })) text) (sym slash) ∙ ap (λ (t : Bool). cond t (goes GapDash d) slashed) (sym dash)
    ∙ ap (λ (t : Bool). cond t (goes (Gap false) c) dashed) (sym blank)
    ∙ ap (λ (t : Bool). cond t (goes (Gap true) c) (cond (is_blank b || b == 59) (goes (Gap false) c) (begins f (at (Gap f) (line_of n b) (cond t (counted n) n) [] []) b))) (sym (no_newline b blank))

-- a whole text, up to its semicolon
begin_ends : (n m : ℕ) (text : List ℕ) → IsText text → Ends (at (Gap true) n m [] []) text [] (at (Text (scan_behind Code text)) (number_behind n text) n text [])
begin_ends n m [] h = absurd h.begins
begin_ends n m (b ∷ bs) h =
    then_one (at (Gap true) n m [] []) _ _ b bs [] (gap_byte true n m b h.begins.0 h.begins.1 (ap (λ (t : Bool). t && true) h.begins.2) h.inside.0)
    (text_ends (next Code b) (line_of n b) n (b ∷ []) [] bs h.inside.1)

-- ---- the data of a COPY

pub keeps_at : (held : List ℕ) (place : Place) (n m b : ℕ) (text copied : List ℕ) → (b == 10) ≡ false → (None, at (Data Within) n m text (copied ++ held ++ b ∷ [])) ≡ keeps held (at place (line_of n b) m text copied) b
keeps_at held place n m b text copied e = ap (λ (t : Bool). let v : Stepped = (None, at (Data (cond t Start Within)) (cond t (counted n) n) m text (copied ++ held ++ b ∷ [])) in v) (sym e)

abbrev pub Started : ℕ → ℕ → List ℕ → List ℕ → Cut
Started n m text copied = record { pieces = []; begun = at (Data Start) n m text copied }

-- bytes that were held back, a byte, and the rest of its line
joined : (copied held bs : List ℕ) (b : ℕ) → (copied ++ held ++ b ∷ []) ++ (bs ++ 10 ∷ []) ≡ copied ++ (held ++ (b ∷ bs ++ 10 ∷ []))
joined copied held bs b = append_assoc (copied ++ held) (b ∷ []) (bs ++ 10 ∷ []) ∙ append_assoc copied held (b ∷ bs ++ 10 ∷ [])

within_ends : (n m : ℕ) (text copied bs : List ℕ) → AllByRecursion (λ b. (b == 10) ≡ false) bs → Ends (at (Data Within) n m text copied) (bs ++ 10 ∷ []) [] (at (Data Start) (counted n) m text (copied ++ (bs ++ 10 ∷ [])))
unfolding step
within_ends n m text copied [] h = ap (Started (counted n) m text) (append_assoc copied [] (10 ∷ []))
within_ends n m text copied (b ∷ bs) h =
    then_one (at (Data Within) n m text copied) (at (Data Within) n m text (copied ++ [] ++ b ∷ [])) _ b (bs ++ 10 ∷ []) [] (keeps_at [] (Data Within) n m b text copied h.0)
    (within_ends n m text (copied ++ [] ++ b ∷ []) bs h.1 ∙ ap (Started (counted n) m text) (joined copied [] bs b))

-- a byte that is kept, and the rest of its line
kept_ends : (held : List ℕ) (place : Place) (c : Cutter) (n m b : ℕ) (text copied bs : List ℕ) → keeps held (at place (line_of n b) m text copied) b ≡ step c b → (b == 10) ≡ false
    → AllByRecursion (λ b. (b == 10) ≡ false) bs → Ends c (b ∷ bs ++ 10 ∷ []) [] (at (Data Start) (counted n) m text (copied ++ (held ++ (b ∷ bs ++ 10 ∷ []))))
kept_ends held place c n m b text copied bs is e h =
    then_one c (at (Data Within) n m text (copied ++ held ++ b ∷ [])) _ b (bs ++ 10 ∷ []) [] (keeps_at held place n m b text copied e ∙ is)
    (within_ends n m text (copied ++ held ++ b ∷ []) bs h ∙ ap (Started (counted n) m text) (joined copied held bs b))

-- behind a backslash and a dot
end_ends : (n m : ℕ) (text copied bs : List ℕ) → AllByRecursion (λ b. (b == 10) ≡ false) bs → bs ≢ []
    → Ends (at (Data End) n m text copied) (bs ++ 10 ∷ []) [] (at (Data Start) (counted n) m text (copied ++ (92 ∷ 46 ∷ bs ++ 10 ∷ [])))
unfolding step
end_ends n m text copied [] h some = absurd (some refl)
end_ends n m text copied (b ∷ bs) h some =
    let c = at (Data End) (line_of n b) m text copied in
    kept_ends (codes "\\.") (Data End) (at (Data End) n m text copied) n m b text copied bs (ap (λ (t : Bool). cond t (gives (statement c) (Gap true) c) (keeps (codes "\\.") c b)) (sym h.0)) h.0 h.1

-- behind a backslash
slash_ends : (n m : ℕ) (text copied bs : List ℕ) → AllByRecursion (λ b. (b == 10) ≡ false) bs → bs ≢ 46 ∷ []
    → Ends (at (Data Slash) n m text copied) (bs ++ 10 ∷ []) [] (at (Data Start) (counted n) m text (copied ++ (92 ∷ bs ++ 10 ∷ [])))
unfolding step
slash_ends n m text copied [] h other = ap (Started (counted n) m text) (append_assoc copied (codes "\\") (10 ∷ []))
slash_ends n m text copied (b ∷ bs) h other = by_dot (b == 46) refl
  where
    by_dot : (t : Bool) → (b == 46) ≡ t → Ends (at (Data Slash) n m text copied) (b ∷ bs ++ 10 ∷ []) [] (at (Data Start) (counted n) m text (copied ++ (92 ∷ b ∷ bs ++ 10 ∷ [])))
    by_dot false e =
        let c = at (Data Slash) (line_of n b) m text copied in
        kept_ends (codes "\\") (Data Slash) (at (Data Slash) n m text copied) n m b text copied bs (ap (λ (t : Bool). cond t (goes (Data End) c) (keeps (codes "\\") c b)) (sym e)) h.0 h.1
    by_dot true e =
        let is : b ≡ 46 = nat_same b 46 e in
        subst (λ (d : ℕ). Ends (at (Data Slash) n m text copied) (d ∷ bs ++ 10 ∷ []) [] (at (Data Start) (counted n) m text (copied ++ (92 ∷ d ∷ bs ++ 10 ∷ [])))) (sym is)
        (then_one (at (Data Slash) n m text copied) (at (Data End) n m text copied) _ 46 (bs ++ 10 ∷ []) [] refl (end_ends n m text copied bs h.1 (λ none. other (ap (λ d. d ∷ bs) is ∙ ap (λ v. 46 ∷ v) none))))

line_ends : (n m : ℕ) (text copied line : List ℕ) → IsLine line → Ends (at (Data Start) n m text copied) (whole_line line) [] (at (Data Start) (counted n) m text (copied ++ whole_line line))
unfolding step
line_ends n m text copied [] h = ap (Started (counted n) m text) (append_assoc copied [] (10 ∷ []))
line_ends n m text copied (b ∷ bs) h = by_slash (b == 92) refl
  where
    by_slash : (t : Bool) → (b == 92) ≡ t → Ends (at (Data Start) n m text copied) (b ∷ bs ++ 10 ∷ []) [] (at (Data Start) (counted n) m text (copied ++ (b ∷ bs ++ 10 ∷ [])))
    by_slash false e =
        let c = at (Data Start) (line_of n b) m text copied in
        kept_ends [] (Data Start) (at (Data Start) n m text copied) n m b text copied bs (ap (λ (t : Bool). cond t (goes (Data Slash) c) (keeps [] c b)) (sym e)) h.one.0 h.one.1
    by_slash true e =
        let is : b ≡ 92 = nat_same b 92 e in
        subst (λ (d : ℕ). Ends (at (Data Start) n m text copied) (d ∷ bs ++ 10 ∷ []) [] (at (Data Start) (counted n) m text (copied ++ (d ∷ bs ++ 10 ∷ [])))) (sym is)
        (then_one (at (Data Start) n m text copied) (at (Data Slash) n m text copied) _ 92 (bs ++ 10 ∷ []) [] refl (slash_ends n m text copied bs h.one.1 (λ dot. h.goes_on (ap (λ d. d ∷ bs) is ∙ ap (λ v. 92 ∷ v) dot))))

lines_end : (n m : ℕ) (text copied : List ℕ) (lines : List (List ℕ)) → AllByRecursion IsLine lines
    → Ends (at (Data Start) n m text copied) (flat_map whole_line lines) [] (at (Data Start) (number_behind n (flat_map whole_line lines)) m text (copied ++ flat_map whole_line lines))
lines_end n m text copied [] h = ap (Started n m text) (sym (append-nil copied))
lines_end n m text copied (line ∷ lines) h =
    let rest = flat_map whole_line lines in
    let is : number_behind (counted n) rest ≡ number_behind n (whole_line line ++ rest) =
    sym (number_append n (whole_line line) rest ∙ ap (λ k. number_behind k rest) (number_append n line (10 ∷ []) ∙ ap counted (number_in_line n line h.0.one))) in
    then_ends (at (Data Start) n m text copied) (at (Data Start) (counted n) m text (copied ++ whole_line line)) _ (whole_line line) rest [] [] (line_ends n m text copied line h.0)
    (lines_end (counted n) m text (copied ++ whole_line line) lines h.1 ∙ ap₂ (λ (k : ℕ) (v : List ℕ). Started k m text v) is (append_assoc copied (whole_line line) rest))

pub data_ends : (n m : ℕ) (text copied : List ℕ) → IsData copied → Ends (at (Data Start) n m text []) copied [] (at (Data Start) (number_behind n copied) m text copied)
data_ends n m text copied h = subst (λ (d : List ℕ). Ends (at (Data Start) n m text []) d [] (at (Data Start) (number_behind n d) m text d)) (sym h.2) (lines_end n m text [] h.0 h.1)

-- ---- a semicolon

pub plain_step : (scan : Scan) (n m : ℕ) (text : List ℕ) → ends scan 59 ≡ true → is_copy text ≡ false
    → (Some (piece.Statement m (record { text = text; copied = [] })), at (Gap false) n m [] []) ≡ step (at (Text scan) n m text []) 59
unfolding step
plain_step scan n m text end plain =
    let c = at (Text scan) n m text [] in
    let whole = cond (is_copy text) (goes Rest c) (gives (statement c) (Gap false) c) in
    ap (λ (t : Bool). cond t (goes Rest c) (gives (statement c) (Gap false) c)) (sym plain) ∙ ap (λ (t : Bool). cond t whole (goes (Text (next scan 59)) (record c { text = text ++ 59 ∷ [] }))) (sym end)

pub copy_step : (scan : Scan) (n m : ℕ) (text : List ℕ) → ends scan 59 ≡ true → is_copy text ≡ true → (None, at Rest n m text []) ≡ step (at (Text scan) n m text []) 59
unfolding step
copy_step scan n m text end copy =
    let c = at (Text scan) n m text [] in
    let whole = cond (is_copy text) (goes Rest c) (gives (statement c) (Gap false) c) in
    ap (λ (t : Bool). cond t (goes Rest c) (gives (statement c) (Gap false) c)) (sym copy) ∙ ap (λ (t : Bool). cond t whole (goes (Text (next scan 59)) (record c { text = text ++ 59 ∷ [] }))) (sym end)

-- ---- items

-- behind a statement's text: its semicolon, and its data
plain_ends : (scan : Scan) (n m : ℕ) (text : List ℕ) → ends scan 59 ≡ true → is_copy text ≡ false
    → Ends (at (Text scan) n m text []) (codes ";\n") (piece.Statement m (record { text = text; copied = [] }) ∷ []) (at (Gap true) (counted n) m [] [])
unfolding step
plain_ends scan n m text end plain =
    cut_some (at (Text scan) n m text []) (at (Gap false) n m [] []) (piece.Statement m (record { text = text; copied = [] })) 59 (10 ∷ []) (plain_step scan n m text end plain)

copy_ends : (scan : Scan) (n m : ℕ) (text : List ℕ) → ends scan 59 ≡ true → is_copy text ≡ true → Ends (at (Text scan) n m text []) (codes ";\n") [] (at (Data Start) (counted n) m text [])
unfolding step
copy_ends scan n m text end copy = cut_none (at (Text scan) n m text []) (at Rest n m text []) 59 (10 ∷ []) (copy_step scan n m text end copy)

pub last_line_ends : (n m : ℕ) (text copied : List ℕ) → Ends (at (Data Start) n m text copied) (codes "\\.\n") (piece.Statement m (record { text = text; copied = copied }) ∷ []) (at (Gap true) (counted n) m [] [])
unfolding step
last_line_ends n m text copied = refl

abbrev tail : Item → Bool → List ℕ
tail item copy = codes ";\n" ++ (if copy then item.copied ++ codes "\\.\n" else [])

abbrev ItemEnds : ℕ → ℕ → Item → Bool → Type 0
ItemEnds n m item copy = Ends (at (Gap true) n m [] []) (item.text ++ tail item copy) (piece.Statement n item ∷ []) (at (Gap true) (number_behind n (item.text ++ tail item copy)) n [] [])

plain_item : (n m : ℕ) (item : Item) → IsItem item → is_copy item.text ≡ false → ItemEnds n m item false
plain_item n m item h plain =
    let k = number_behind n item.text in
    let whole = plain_ends (scan_behind Code item.text) k n item.text h.text.end plain in
    let is : counted k ≡ number_behind n (item.text ++ tail item false) = sym (number_append n item.text (tail item false)) in
    then_ends (at (Gap true) n m [] []) (at (Text (scan_behind Code item.text)) k n item.text []) _ item.text (tail item false) [] (piece.Statement n item ∷ []) (begin_ends n m item.text h.text)
    (whole ∙ ap₂ (λ (copied : List ℕ) (l : ℕ). let v : Cut = record { pieces = piece.Statement n (record { text = item.text; copied = copied }) ∷ []; begun = at (Gap true) l n [] [] } in v) (sym (h.none plain)) is)

copy_item : (n m : ℕ) (item : Item) → IsItem item → is_copy item.text ≡ true → ItemEnds n m item true
copy_item n m item h copy =
    let k = number_behind n item.text in
    let l = number_behind (counted k) item.copied in
    let c = at (Text (scan_behind Code item.text)) k n item.text [] in
    let begun = at (Data Start) (counted k) n item.text [] in
    let full = at (Data Start) l n item.text item.copied in
    let new = at (Gap true) (counted l) n [] [] in
    let found : List Piece = piece.Statement n item ∷ [] in
    let is : counted l ≡ number_behind n (item.text ++ tail item true) = sym (number_append n item.text (tail item true) ∙ number_append (counted k) item.copied (codes "\\.\n")) in
    then_ends (at (Gap true) n m [] []) c _ item.text (tail item true) [] found (begin_ends n m item.text h.text)
    (then_ends c begun new (codes ";\n") (item.copied ++ codes "\\.\n") [] found (copy_ends (scan_behind Code item.text) k n item.text h.text.end copy)
    (then_ends begun full new item.copied (codes "\\.\n") [] found (data_ends (counted k) n item.text item.copied (h.copied copy)) (last_line_ends l n item.text item.copied))
    ∙ ap (λ (i : ℕ). let v : Cut = record { pieces = found; begun = at (Gap true) i n [] [] } in v) is)

item_ends : (n m : ℕ) (item : Item) → IsItem item → ItemEnds n m item (is_copy item.text)
item_ends n m item h = by_copy (is_copy item.text) refl
  where
    by_copy : (t : Bool) → is_copy item.text ≡ t → ItemEnds n m item t
    by_copy false e = plain_item n m item h e
    by_copy true e = copy_item n m item h e

pub items_end : (n m : ℕ) (given : List Item) → AllByRecursion IsItem given → (k l : ℕ) × Ends (at (Gap true) n m [] []) (flat_map written given) (pieces_of n given) (at (Gap true) k l [] [])
items_end n m [] h = (n, m, refl)
items_end n m (item ∷ given) h =
    let i = number_behind n (written item) in
    let rest = items_end i n given h.1 in (
      rest.0,
      rest.1,
      then_ends (at (Gap true) n m [] []) (at (Gap true) i n [] []) (at (Gap true) rest.0 rest.1 [] []) (written item) (flat_map written given) (piece.Statement n item ∷ []) (pieces_of i given) (item_ends n m item h.0) rest.2,
    )

-- cutting gives the items back
pub pieces_written : (given : List Item) → AllByRecursion IsItem given → pieces (flat_map written given) ≡ pieces_of 1 given
unfolding pieces pieces_in last
pieces_written given h = let e = items_end 1 1 given h in ap (λ (c : Cut). c.pieces ++ one (last_at c.begun.at c.begun)) e.2 ∙ append-nil (pieces_of 1 given)
