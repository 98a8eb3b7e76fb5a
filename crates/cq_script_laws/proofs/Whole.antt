-- The bytes of each script are pieces, one after the other.
use Rattle.std.specs.Prelude.{◌≢◌, ◌&&◌, ◌||◌, ◌==◌, codes, flat_map}
use Rattle.std.specs.List.{AllByRecursion}
use Rattle.std.proofs.Common.{◌≡◌, ◌≤◌, ◌+◌, ◌⊎◌, inl, inr, ℕ, zero, suc, Bool, true, false, Option, None, List, [], ◌∷◌, ◌++◌, length, refl, sym, ◌∙◌, ap, subst, arith, append_assoc, length-append}
use Rattle.cq_value.proofs.Truths.{two_ways}
use Rattle.cq_token.specs.Bytes.{is_blank}
use Rattle.cq_token.specs.Tokens.{begins_comment}
use Rattle.cq_script.specs.declared.cutter.Piece.{Piece}
use Rattle.cq_script.specs.Pieces.{HasNo, BeginsText, IsText, AreBlank, IsCopyLine, IsGap, IsPiece, AreCut, IsLastData, IsLeft, IsScript, starts_line}
use Rattle.cq_script.specs.Scripts.{is_copy}
use Rattle.cq_script.specs.Written.{IsLine, IsData, whole_line}
use Rattle.cq_script.proofs.WrittenLaws.{nat_same}
use Rattle.cq_script_laws.proofs.Scans.{end_or, no_end}

-- ---- lines

-- bytes up to the end of their line, and those behind it
abbrev LineIn : List ℕ → Type 0
LineIn bytes = (line more : List ℕ) × (bytes ≡ line ++ 10 ∷ more) × HasNo 10 line

line_in : (bytes : List ℕ) → LineIn bytes ⊎ HasNo 10 bytes
line_in [] = inr tt
line_in (b ∷ bs) = by_end (b == 10) refl (line_in bs)
  where
    by_end : (t : Bool) → (b == 10) ≡ t → LineIn bs ⊎ HasNo 10 bs → LineIn (b ∷ bs) ⊎ HasNo 10 (b ∷ bs)
    by_end true e h = inl ([], bs, ap (λ c. c ∷ bs) (nat_same b 10 e), tt)
    by_end false e (inl h) = inl (b ∷ h.0, h.1, ap (λ v. b ∷ v) h.2, (e, h.3))
    by_end false e (inr h) = inr (e, h)

-- all lines, and what is behind the last
record Lines (bytes : List ℕ) : Type 0 where
  lines : List (List ℕ)
  line : List ℕ
  parts : bytes ≡ flat_map whole_line lines ++ line
  each : AllByRecursion (HasNo 10) lines
  rest : HasNo 10 line

-- one more byte in front
on_line : (b : ℕ) (bs : List ℕ) (lines : List (List ℕ)) (line : List ℕ) → (b == 10) ≡ false → bs ≡ flat_map whole_line lines ++ line → AllByRecursion (HasNo 10) lines → HasNo 10 line → Lines (b ∷ bs)
on_line b bs [] line e is each rest = record { lines = []; line = b ∷ line; parts = ap (λ v. b ∷ v) is; each = tt; rest = (e, rest) }
on_line b bs (l ∷ lines) line e is each rest = record { lines = (b ∷ l) ∷ lines; line = line; parts = ap (λ v. b ∷ v) is; each = ((e, each.0), each.1); rest = rest }

lines_in : (bytes : List ℕ) → Lines bytes
lines_in [] = record { lines = []; line = []; parts = refl; each = tt; rest = tt }
lines_in (b ∷ bs) = by_end (b == 10) refl (lines_in bs)
  where
    by_end : (t : Bool) → (b == 10) ≡ t → Lines bs → Lines (b ∷ bs)
    by_end true e h = record { lines = [] ∷ h.lines; line = h.line; parts = ap (λ c. c ∷ bs) (nat_same b 10 e) ∙ ap (λ v. 10 ∷ v) h.parts; each = (tt, h.each); rest = h.rest }
    by_end false e h = on_line b bs h.lines h.line e h.parts h.each h.rest

-- ---- data

is_end : (line : List ℕ) → (line ≡ codes "\\.") ⊎ (line ≢ codes "\\.")
is_end [] = inr (λ e. cc)
is_end (a ∷ []) = inr (λ e. cc)
is_end (a ∷ b ∷ c ∷ line) = inr (λ e. cc)
is_end (a ∷ b ∷ []) = by_bytes (a == 92) (b == 46) refl refl
  where
    by_bytes : (s t : Bool) → (a == 92) ≡ s → (b == 46) ≡ t → (a ∷ b ∷ [] ≡ codes "\\.") ⊎ (a ∷ b ∷ [] ≢ codes "\\.")
    by_bytes true true s t = inl (ap (λ x. x ∷ b ∷ []) (nat_same a 92 s) ∙ ap (λ x. 92 ∷ x ∷ []) (nat_same b 46 t))
    by_bytes false t s u = inr (λ e. let is : a ≡ 92 = cc in absurd (let h : true ≡ false = ap (λ x. x == 92) (sym is) ∙ s in cc))
    by_bytes true false s t = inr (λ e. let is : b ≡ 46 = cc in absurd (let h : true ≡ false = ap (λ x. x == 46) (sym is) ∙ t in cc))

-- the data behind a COPY's line: up to a whole line \., or to the end
abbrev DataIn : List ℕ → Type 0
DataIn bytes = ((copied more : List ℕ) × (bytes ≡ copied ++ (codes "\\.\n" ++ more)) × IsData copied) ⊎ ((copied : List ℕ) × IsLastData bytes copied)

more_lines : (line copied : List ℕ) → IsLine line → IsData copied → IsData (whole_line line ++ copied)
more_lines line copied h k = (line ∷ k.0, (h, k.1), ap (λ v. whole_line line ++ v) k.2)

more_last : {bytes copied : List ℕ} → IsLastData bytes copied → (line : List ℕ) → IsLine line → IsLastData (whole_line line ++ bytes) (whole_line line ++ copied)
more_last (IsLastData.ended copied h) line k = subst (λ v. IsLastData v (whole_line line ++ copied)) (append_assoc (whole_line line) copied (codes "\\.")) (IsLastData.ended (whole_line line ++ copied) (more_lines line copied k h))
more_last (IsLastData.broken lines rest h one other) line k =
    subst (λ v. IsLastData v v) (append_assoc (whole_line line) lines rest) (IsLastData.broken (whole_line line ++ lines) rest (more_lines line lines k h) one other)

no_data : IsData []
no_data = ([], tt, refl)

data_of : (lines : List (List ℕ)) (line : List ℕ) → AllByRecursion (HasNo 10) lines → HasNo 10 line → DataIn (flat_map whole_line lines ++ line)
data_of [] line h k = elim (is_end line) [
  | inl e ↦ inr ([], subst (λ v. IsLastData v []) (sym e) (IsLastData.ended [] no_data))
  | inr e ↦ inr (line, IsLastData.broken [] line no_data k e)
]
data_of (l ∷ lines) line h k = by_end (is_end l) (data_of lines line h.1 k)
  where
    rest : List ℕ
    rest = flat_map whole_line lines ++ line

    by_end : (l ≡ codes "\\.") ⊎ (l ≢ codes "\\.") → DataIn rest → DataIn (flat_map whole_line (l ∷ lines) ++ line)
    by_end (inl e) d = inl ([], rest, append_assoc (whole_line l) (flat_map whole_line lines) line ∙ ap (λ v. whole_line v ++ rest) e, no_data)
    by_end (inr e) (inl d) =
        inl (
          whole_line l ++ d.0,
          d.1,
          append_assoc (whole_line l) (flat_map whole_line lines) line ∙ ap (λ v. whole_line l ++ v) d.2 ∙ sym (append_assoc (whole_line l) d.0 (codes "\\.\n" ++ d.1)),
          more_lines l d.0 (record { one = h.0; goes_on = e }) d.3,
        )
    by_end (inr e) (inr d) = inr (whole_line l ++ d.0, subst (λ v. IsLastData v (whole_line l ++ d.0)) (sym (append_assoc (whole_line l) (flat_map whole_line lines) line)) (more_last d.1 l (record { one = h.0; goes_on = e })))

data_in : (bytes : List ℕ) → DataIn bytes
data_in bytes = let h = lines_in bytes in subst DataIn (sym h.parts) (data_of h.lines h.line h.each h.rest)

-- ---- behind a COPY's semicolon

data Behind (bytes : List ℕ) : Type 0 where
  all : AreBlank bytes → Behind bytes
  line : (blanks more : List ℕ) → bytes ≡ blanks ++ 10 ∷ more → AreBlank blanks → Behind bytes
  byte : (blanks : List ℕ) (b : ℕ) (more : List ℕ) → bytes ≡ blanks ++ b ∷ more → AreBlank blanks → is_blank b ≡ false → Behind bytes

behind : (bytes : List ℕ) → Behind bytes
behind [] = all (tt, tt)
behind (b ∷ bs) = by_blank (b == 10) (is_blank b) refl refl (behind bs)
  where
    by_blank : (n t : Bool) → (b == 10) ≡ n → is_blank b ≡ t → Behind bs → Behind (b ∷ bs)
    by_blank true t e is h = line [] bs (ap (λ c. c ∷ bs) (nat_same b 10 e)) (tt, tt)
    by_blank false false e is h = byte [] b bs refl (tt, tt) is
    by_blank false true e is (all k) = all ((is, k.0), (e, k.1))
    by_blank false true e is (line blanks more w k) = line (b ∷ blanks) more (ap (λ v. b ∷ v) w) ((is, k.0), (e, k.1))
    by_blank false true e is (byte blanks c more w k o) = byte (b ∷ blanks) c more (ap (λ v. b ∷ v) w) ((is, k.0), (e, k.1)) o

-- ---- what stands at the front

data Front (before bytes : List ℕ) : Type 0 where
  left : (p : Option Piece) → IsLeft before bytes p → Front before bytes
  gap : (some more : List ℕ) → bytes ≡ some ++ more → IsGap some → Front before bytes
  piece : (some more : List ℕ) (p : Piece) → bytes ≡ some ++ more → IsPiece before some p → Front before bytes

comment_front : (before bs : List ℕ) → Front before (45 ∷ 45 ∷ bs)
comment_front before bs = by_line (line_in bs)
  where
    by_line : LineIn bs ⊎ HasNo 10 bs → Front before (45 ∷ 45 ∷ bs)
    by_line (inl h) = gap (45 ∷ 45 ∷ h.0 ++ 10 ∷ []) h.1 (ap (λ v. 45 ∷ 45 ∷ v) (h.2 ∙ sym (append_assoc h.0 (10 ∷ []) h.1))) (IsGap.comment h.0 h.3)
    by_line (inr h) = left None (IsLeft.comment bs h)

begins_with : (b : ℕ) (bs : List ℕ) → begins_comment b bs ≡ true → (more : List ℕ) × (b ∷ bs ≡ 45 ∷ 45 ∷ more)
begins_with b [] h = absurd (let e : false ≡ true = h in cc)
begins_with b (c ∷ more) h = by_both (b == 45) (c == 45) refl refl h
  where
    by_both : (s t : Bool) → (b == 45) ≡ s → (c == 45) ≡ t → (s && t) ≡ true → (rest : List ℕ) × (b ∷ c ∷ more ≡ 45 ∷ 45 ∷ rest)
    by_both true true e f k = (more, ap (λ x. x ∷ c ∷ more) (nat_same b 45 e) ∙ ap (λ x. 45 ∷ x ∷ more) (nat_same c 45 f))
    by_both true false e f k = absurd (let g : false ≡ true = k in cc)
    by_both false t e f k = absurd (let g : false ≡ true = k in cc)

directive_front : (before bs : List ℕ) → starts_line before ≡ true → Front before (92 ∷ bs)
directive_front before bs fresh = by_line (line_in bs)
  where
    by_line : LineIn bs ⊎ HasNo 10 bs → Front before (92 ∷ bs)
    by_line (inl h) = piece (92 ∷ h.0 ++ 10 ∷ []) h.1 _ (ap (λ v. 92 ∷ v) (h.2 ∙ sym (append_assoc h.0 (10 ∷ []) h.1))) (IsPiece.directive h.0 fresh h.3)
    by_line (inr h) = left _ (IsLeft.directive bs fresh h)

-- ---- a statement at the front

begins_before : (before text more : List ℕ) → BeginsText before (text ++ 59 ∷ more) → BeginsText before text
begins_before before [] more h = absurd (let e : true ≡ false = h.0 in cc)
begins_before before (b ∷ []) more h = (h.0, refl, h.2)
begins_before before (b ∷ c ∷ text) more h = h

copy_front : (before text more : List ℕ) → IsText before text → is_copy text ≡ true → Front before (text ++ 59 ∷ more)
copy_front before text more h copy = by_line (behind more)
  where
    line_of : (blanks : List ℕ) → AreBlank blanks → IsCopyLine before text blanks
    line_of blanks k = record { begins = h; copy = copy; apart = k }

    -- what is in front of the bytes behind the semicolon is so with the text in front
    in_front : (some rest : List ℕ) → more ≡ some ++ rest → text ++ 59 ∷ more ≡ (text ++ 59 ∷ some) ++ rest
    in_front some rest e = ap (λ v. text ++ 59 ∷ v) e ∙ sym (append_assoc text (59 ∷ some) rest)

    by_data : (blanks rest : List ℕ) → more ≡ blanks ++ 10 ∷ rest → AreBlank blanks → DataIn rest → Front before (text ++ 59 ∷ more)
    by_data blanks rest w k (inl d) =
        let tail = codes "\\.\n" in
        piece (text ++ 59 ∷ (blanks ++ 10 ∷ (d.0 ++ tail))) d.1 _
        (in_front (blanks ++ 10 ∷ (d.0 ++ tail)) d.1 (w ∙ sym (append_assoc blanks (10 ∷ (d.0 ++ tail)) d.1 ∙ ap (λ v. blanks ++ 10 ∷ v) (append_assoc d.0 tail d.1 ∙ sym d.2))))
        (IsPiece.copy text blanks d.0 (line_of blanks k) d.3)
    by_data blanks rest w k (inr d) = subst (λ v. Front before (text ++ 59 ∷ v)) (sym w) (left _ (IsLeft.copy text blanks rest d.0 (line_of blanks k) d.1))

    by_line : Behind more → Front before (text ++ 59 ∷ more)
    by_line (all k) = left _ (IsLeft.copy_line text more (line_of more k))
    by_line (line blanks rest w k) = by_data blanks rest w k (data_in rest)
    by_line (byte blanks b rest w k o) =
        piece (text ++ 59 ∷ (blanks ++ b ∷ [])) rest _ (in_front (blanks ++ b ∷ []) rest (w ∙ sym (append_assoc blanks (b ∷ []) rest))) (IsPiece.crowded text blanks b (line_of blanks k) o)

ended_front : (before text more : List ℕ) → IsText before text → Front before (text ++ 59 ∷ more)
ended_front before text more h = elim (two_ways (is_copy text)) [
  | inl copy ↦ copy_front before text more h copy
  | inr plain ↦ piece (text ++ 59 ∷ []) more _ (sym (append_assoc text (59 ∷ []) more)) (IsPiece.statement text h plain)
]

text_front : (before bytes : List ℕ) → BeginsText before bytes → Front before bytes
text_front before bytes h = elim (end_or bytes) [
  | inl e ↦ subst (Front before) (sym e.2) (ended_front before e.0 e.1 (begins_before before e.0 e.1 (subst (BeginsText before) e.2 h), e.3))
  | inr k ↦ left _ (IsLeft.statement bytes h (no_end bytes k))
]

slash_front : (before : List ℕ) (b : ℕ) (bs : List ℕ) (s t : Bool) → (b == 92) ≡ s → starts_line before ≡ t → (s && t) ≡ true → Front before (b ∷ bs)
slash_front before b bs true true e fresh h = subst (λ x. Front before (x ∷ bs)) (sym (nat_same b 92 e)) (directive_front before bs fresh)
slash_front before b bs true false e fresh h = absurd (let g : false ≡ true = h in cc)
slash_front before b bs false t e fresh h = absurd (let g : false ≡ true = h in cc)

front : (before bytes : List ℕ) → Front before bytes
front before [] = left None IsLeft.nothing
front before (b ∷ bs) = by_byte (two_ways (is_blank b || b == 59)) (two_ways (begins_comment b bs)) (two_ways (b == 92 && starts_line before))
  where
    by_byte : ((is_blank b || b == 59) ≡ true) ⊎ ((is_blank b || b == 59) ≡ false) → (begins_comment b bs ≡ true) ⊎ (begins_comment b bs ≡ false)
        → ((b == 92 && starts_line before) ≡ true) ⊎ ((b == 92 && starts_line before) ≡ false) → Front before (b ∷ bs)
    by_byte (inl e) c s = gap (b ∷ []) bs refl (IsGap.blank b e)
    by_byte (inr e) (inl c) s = let w = begins_with b bs c in subst (Front before) (sym w.1) (comment_front before w.0)
    by_byte (inr e) (inr c) (inl s) = slash_front before b bs (b == 92) (starts_line before) refl refl s
    by_byte (inr e) (inr c) (inr s) = text_front before (b ∷ bs) (e, c, s)

-- ---- all of it

gap_some : {bytes : List ℕ} → IsGap bytes → 1 ≤ length bytes
gap_some (IsGap.blank b h) = omega arith
gap_some (IsGap.comment text h) = omega arith

text_some : (before text more : List ℕ) → BeginsText before text → 1 ≤ length (text ++ more)
text_some before [] more h = absurd h
text_some before (b ∷ text) more h = omega arith

piece_some : {before bytes : List ℕ} {p : Piece} → IsPiece before bytes p → 1 ≤ length bytes
piece_some {before} (IsPiece.statement text h plain) = text_some before text _ h.0
piece_some {before} (IsPiece.copy text blanks copied h k) = text_some before text _ h.begins.0
piece_some {before} (IsPiece.crowded text blanks b h o) = text_some before text _ h.begins.0
piece_some (IsPiece.directive text fresh h) = omega arith

abbrev pub Total : List ℕ → Type 0
Total bytes = (whole : List Piece) × (last : Option Piece) × IsScript bytes whole last

total : (n : ℕ) (before bytes : List ℕ) (whole : List Piece) → length bytes ≤ n → AreCut before whole → Total (before ++ bytes)
total zero before [] whole le c = (whole, None, record { before = before; left = []; parts = refl; cut = c; rest = IsLeft.nothing })
total zero before (b ∷ bs) whole le c = absurd (omega (arith, le))
total (suc n) before bytes whole le c = by_front (total n) (front before bytes)
  where
    shorter : (some more : List ℕ) → bytes ≡ some ++ more → 1 ≤ length some → length more ≤ n
    shorter some more e one = let is : length bytes ≡ length some + length more = ap length e ∙ length-append some more in omega (arith, le, is, one)

    again : (some more : List ℕ) → bytes ≡ some ++ more → (before ++ some) ++ more ≡ before ++ bytes
    again some more e = append_assoc before some more ∙ ap (λ v. before ++ v) (sym e)

    by_front : ((before bytes : List ℕ) (whole : List Piece) → length bytes ≤ n → AreCut before whole → Total (before ++ bytes)) → Front before bytes → Total (before ++ bytes)
    by_front more_of (left p h) = (whole, p, record { before = before; left = bytes; parts = refl; cut = c; rest = h })
    by_front more_of (gap some more e g) = subst Total (again some more e) (more_of (before ++ some) more whole (shorter some more e (gap_some g)) (AreCut.gap before some whole c g))
    by_front more_of (piece some more p e k) =
        subst Total (again some more e) (more_of (before ++ some) more (whole ++ p ∷ []) (shorter some more e (piece_some k)) (AreCut.piece before some whole p c k))

pub script_of : (bytes : List ℕ) → Total bytes
script_of bytes = total (length bytes) [] bytes [] (omega arith) AreCut.none
