-- What the cutter cuts is the script's pieces, up to the first crowded line.
use Rattle.std.proofs.Common.{◌≡◌, ℕ, Bool, true, false, Option, Some, None, List, [], ◌∷◌, ◌++◌, refl, sym, ◌∙◌, ap, ap₂, subst, append-nil}
use Rattle.cq_script.specs.Streams.{counted}
use Rattle.cq_script.specs.declared.cutter.Piece.{Piece}
use Rattle.cq_script.specs.declared.cutter.Piece.TheVariants.{Statement, Directive, Crowded}
use Rattle.cq_script.specs.declared.cutter.Line.TheVariants.{Start}
use Rattle.cq_script.specs.declared.cutter.Place.TheVariants.{Gap, Rest, Data, Out}
use Rattle.cq_script.specs.declared.cutter.Cutter.{Cutter}
use Rattle.cq_script.specs.Pieces.{IsGap, IsPiece, AreCut, IsScript, starts_line, line_at, with_last}
use Rattle.cq_script.specs.Runs.{number_behind}
use Rattle.cq_script.specs.Scripts.{Cut, first, step, one, cut, pieces_in, pieces, last}
use Rattle.cq_script.proofs.CuttingLaws.{behind, cut_append, cut_none, cut_out}
use Rattle.cq_script.proofs.WrittenLaws.{number_append, number_in_line, at, then_one, last_line_ends, data_ends}
use Rattle.cq_script_laws.proofs.Texts.{line_from, line_from_append, blank_step, comment_ends, cut_behind}
use Rattle.cq_script_laws.proofs.Ends.{statement_ends, line_begins, crowded_ends, directive_ends}
use Rattle.cq_script_laws.proofs.Left.{LeavesOver, leaves_over}

-- ---- lists of pieces

-- pieces up to the first crowded line
abbrev pub up_to_crowded : List Piece → List Piece
up_to_crowded [] = []
up_to_crowded (Statement line item ∷ more) = Statement line item ∷ up_to_crowded more
up_to_crowded (Directive line text ∷ more) = Directive line text ∷ up_to_crowded more
up_to_crowded (Crowded line ∷ more) = Crowded line ∷ []

abbrev pub has_crowded : List Piece → Bool
has_crowded [] = false
has_crowded (Statement line item ∷ more) = has_crowded more
has_crowded (Directive line text ∷ more) = has_crowded more
has_crowded (Crowded line ∷ more) = true

up_to_one : (p : Piece) → up_to_crowded (p ∷ []) ≡ p ∷ []
up_to_one (Statement line item) = refl
up_to_one (Directive line text) = refl
up_to_one (Crowded line) = refl

up_to_more : (whole : List Piece) (p : Piece) → has_crowded whole ≡ false → up_to_crowded (whole ++ p ∷ []) ≡ up_to_crowded whole ++ p ∷ []
up_to_more [] p h = up_to_one p
up_to_more (Statement line item ∷ whole) p h = ap (λ (v : List Piece). Statement line item ∷ v) (up_to_more whole p h)
up_to_more (Directive line text ∷ whole) p h = ap (λ (v : List Piece). Directive line text ∷ v) (up_to_more whole p h)
up_to_more (Crowded line ∷ whole) p h = absurd (let e : true ≡ false = h in cc)

up_to_same : (whole : List Piece) (p : Piece) → has_crowded whole ≡ true → up_to_crowded (whole ++ p ∷ []) ≡ up_to_crowded whole
up_to_same [] p h = absurd (let e : false ≡ true = h in cc)
up_to_same (Statement line item ∷ whole) p h = ap (λ (v : List Piece). Statement line item ∷ v) (up_to_same whole p h)
up_to_same (Directive line text ∷ whole) p h = ap (λ (v : List Piece). Directive line text ∷ v) (up_to_same whole p h)
up_to_same (Crowded line ∷ whole) p h = refl

crowded_more : (whole : List Piece) (p : Piece) → has_crowded whole ≡ false → has_crowded (whole ++ p ∷ []) ≡ has_crowded (p ∷ [])
crowded_more [] p h = refl
crowded_more (Statement line item ∷ whole) p h = crowded_more whole p h
crowded_more (Directive line text ∷ whole) p h = crowded_more whole p h
crowded_more (Crowded line ∷ whole) p h = absurd (let e : true ≡ false = h in cc)

crowded_same : (whole : List Piece) (p : Piece) → has_crowded whole ≡ true → has_crowded (whole ++ p ∷ []) ≡ true
crowded_same [] p h = absurd (let e : false ≡ true = h in cc)
crowded_same (Statement line item ∷ whole) p h = crowded_same whole p h
crowded_same (Directive line text ∷ whole) p h = crowded_same whole p h
crowded_same (Crowded line ∷ whole) p h = refl

-- ---- where the cutter stands

-- behind a crowded line, or between statements
abbrev pub Stands : Bool → List ℕ → Cutter → Type 0
Stands true before c = c.at ≡ Out
Stands false before c = (m : ℕ) × (c ≡ at (Gap (starts_line before)) (line_at before) m [] [])

abbrev from_gap : List ℕ → ℕ → List ℕ → Cut
from_gap before m bytes = cut (at (Gap (starts_line before)) (line_at before) m [] []) bytes

-- pieces are whole, and the script stands between statements
abbrev gapped : List Piece → ℕ → Bool → ℕ → Cut
gapped found m t n = record { pieces = found; begun = at (Gap t) n m [] [] }

-- ---- one gap or piece

gap_cut : {bytes : List ℕ} → IsGap bytes → (before : List ℕ) (m : ℕ) → (k : ℕ) × (from_gap before m bytes ≡ gapped [] k (starts_line (before ++ bytes)) (line_at (before ++ bytes)))
gap_cut (IsGap.blank b h) before m = (
  m,
  then_one (at (Gap (starts_line before)) (line_at before) m [] []) _ _ b [] [] (blank_step (starts_line before) (line_at before) m b h) refl
      ∙ ap₂ (gapped [] m) (sym (line_from_append true before (b ∷ []))) (sym (number_append 1 before (b ∷ []))),
)
gap_cut (IsGap.comment text h) before m =
    let bytes = 45 ∷ 45 ∷ text ++ 10 ∷ [] in
    let n = line_at before in (
      n,
      comment_ends (starts_line before) n m text h
          ∙ ap₂ (gapped [] n) (sym (line_from_append true before bytes ∙ line_from_append (line_from (starts_line before) (45 ∷ 45 ∷ [])) text (10 ∷ [])))
          (sym (number_append 1 before bytes ∙ number_append n text (10 ∷ []) ∙ ap counted (number_in_line n text h))),
    )

pub record CutsOne (before : List ℕ) (m : ℕ) (bytes : List ℕ) (p : Piece) : Type 0 where
  pub pieces : (from_gap before m bytes).pieces ≡ p ∷ []
  pub begun : Stands (has_crowded (p ∷ [])) (before ++ bytes) (from_gap before m bytes).begun

-- a piece, behind which the script stands between statements
cuts_piece : (before bytes : List ℕ) (m k n : ℕ) (p : Piece) (t : Bool) → has_crowded (p ∷ []) ≡ false → from_gap before m bytes ≡ gapped (p ∷ []) k t n
    → line_from (starts_line before) bytes ≡ t → number_behind (line_at before) bytes ≡ n → CutsOne before m bytes p
cuts_piece before bytes m k n p t whole is fresh number = record {
  pieces = ap (λ (c : Cut). c.pieces) is;
  begun =
      subst (λ (x : Bool). Stands x (before ++ bytes) (from_gap before m bytes).begun) (sym whole) (
        k,
        ap (λ (c : Cut). c.begun) is
            ∙ ap₂ (λ (s : Bool) (l : ℕ). at (Gap s) l k [] []) (sym (line_from_append true before bytes ∙ fresh)) (sym (number_append 1 before bytes ∙ number)),
      );
}

piece_cut : {before bytes : List ℕ} {p : Piece} → IsPiece before bytes p → (m : ℕ) → CutsOne before m bytes p
unfolding step
piece_cut {before} (IsPiece.statement text h plain) m =
    let n = line_at before in
    cuts_piece before (text ++ 59 ∷ []) m n (number_behind n text) (Statement n (record { text = text; copied = [] })) false refl (statement_ends before text n m h plain)
    (line_from_append (starts_line before) text (59 ∷ [])) (number_append n text (59 ∷ []))
piece_cut {before} (IsPiece.copy text blanks copied h k) m =
    let n = line_at before in
    let l = number_behind n text in
    let o = number_behind (counted l) copied in
    let tail = copied ++ 92 ∷ 46 ∷ 10 ∷ [] in
    cuts_piece before (text ++ 59 ∷ (blanks ++ 10 ∷ tail)) m n (counted o) (Statement n (record { text = text; copied = copied })) true refl
    (line_begins before text blanks (10 ∷ tail) n m h ∙ cut_none (at Rest l n text []) (at (Data Start) (counted l) n text []) 10 tail refl
    ∙ cut_behind (at (Data Start) (counted l) n text []) (at (Data Start) o n text copied) copied (92 ∷ 46 ∷ 10 ∷ []) (data_ends (counted l) n text copied k) ∙ last_line_ends o n text copied)
    (line_from_append (starts_line before) text (59 ∷ (blanks ++ 10 ∷ tail)) ∙ line_from_append false blanks (10 ∷ tail) ∙ line_from_append true copied (92 ∷ 46 ∷ 10 ∷ []))
    (number_append n text (59 ∷ (blanks ++ 10 ∷ tail)) ∙ number_append l blanks (10 ∷ tail) ∙ ap (λ x. number_behind x (10 ∷ tail)) (number_in_line l blanks h.apart.1)
    ∙ number_append (counted l) copied (92 ∷ 46 ∷ 10 ∷ []))
piece_cut {before} (IsPiece.crowded text blanks b h other) m =
    let n = line_at before in
    let l = number_behind n text in
    let is = line_begins before text blanks (b ∷ []) n m h ∙ crowded_ends l n b text other in
    record {
      pieces = ap (λ (c : Cut). c.pieces) is ∙ ap (λ (i : ℕ). let v : List Piece = Crowded i ∷ [] in v) (sym (number_append 1 before text));
      begun = ap (λ (c : Cut). c.begun.at) is;
    }
piece_cut {before} (IsPiece.directive text fresh h) m =
    let n = line_at before in
    let bytes = 92 ∷ text ++ 10 ∷ [] in
    cuts_piece before bytes m n (counted n) (Directive n (92 ∷ text)) true refl (ap (λ (t : Bool). cut (at (Gap t) n m [] []) bytes) fresh ∙ directive_ends n m text h)
    (line_from_append (line_from (starts_line before) (92 ∷ [])) text (10 ∷ [])) (number_append n text (10 ∷ []) ∙ ap counted (number_in_line n text h))

-- ---- all of them

pub record Cuts (before : List ℕ) (whole : List Piece) : Type 0 where
  pub pieces : (cut first before).pieces ≡ up_to_crowded whole
  pub begun : Stands (has_crowded whole) before (cut first before).begun

-- more bytes
more_bytes : (before bytes : List ℕ) (c : Cutter) (v : Cut) → (cut first before).begun ≡ c → cut c bytes ≡ v → cut first (before ++ bytes) ≡ behind (cut first before).pieces v
more_bytes before bytes c v is e =
    cut_append first before bytes ∙ ap (λ (x : Cutter). behind (cut first before).pieces (cut x bytes)) is ∙ ap (behind (cut first before).pieces) e

-- behind a crowded line nothing is cut
out_cut : (c : Cutter) (bytes : List ℕ) → c.at ≡ Out → (new : Cutter) × (cut c bytes ≡ record { pieces = []; begun = new }) × (new.at ≡ Out)
out_cut c bytes h =
    subst (λ place. (new : Cutter) × (cut (record c { at = place }) bytes ≡ record { pieces = []; begun = new }) × (new.at ≡ Out)) (sym h)
    (record c { at = Out; line = number_behind c.line bytes }, cut_out c bytes, refl)

more_out : (before bytes : List ℕ) → (cut first before).begun.at ≡ Out → (new : Cutter) × (cut first (before ++ bytes) ≡ record { pieces = (cut first before).pieces; begun = new }) × (new.at ≡ Out)
more_out before bytes h =
    let c = (cut first before).begun in
    let o = out_cut c bytes h in (
      o.0,
      more_bytes before bytes c (record { pieces = []; begun = o.0 }) refl o.1
          ∙ ap (λ (v : List Piece). let x : Cut = record { pieces = v; begun = o.0 } in x) (append-nil (cut first before).pieces),
      o.2,
    )

-- the script stands so behind pieces, if so
abbrev StandsSo : List ℕ → Bool → Type 0
StandsSo before t = Stands t before (cut first before).begun

gap_more : (before bytes : List ℕ) (whole : List Piece) (t : Bool) → has_crowded whole ≡ t → Cuts before whole → IsGap bytes → Cuts (before ++ bytes) whole
gap_more before bytes whole false e c g =
    let s = subst (StandsSo before) e c.begun in
    let k = gap_cut g before s.0 in
    let is = more_bytes before bytes _ _ s.1 k.1 in
    record {
      pieces = ap (λ (v : Cut). v.pieces) is ∙ append-nil (cut first before).pieces ∙ c.pieces;
      begun = subst (StandsSo (before ++ bytes)) (sym e) (k.0, ap (λ (v : Cut). v.begun) is);
    }
gap_more before bytes whole true e c g =
    let o = more_out before bytes (subst (StandsSo before) e c.begun) in
    record {
      pieces = ap (λ (v : Cut). v.pieces) o.1 ∙ c.pieces;
      begun = subst (StandsSo (before ++ bytes)) (sym e) (ap (λ (v : Cut). v.begun.at) o.1 ∙ o.2);
    }

piece_more : (before bytes : List ℕ) (whole : List Piece) (p : Piece) (t : Bool) → has_crowded whole ≡ t → Cuts before whole → ((m : ℕ) → CutsOne before m bytes p) → Cuts (before ++ bytes) (whole ++ p ∷ [])
piece_more before bytes whole p false e c k =
    let s = subst (StandsSo before) e c.begun in
    let one = k s.0 in
    let is = more_bytes before bytes _ (from_gap before s.0 bytes) s.1 refl in
    record {
      pieces = ap (λ (v : Cut). v.pieces) is ∙ ap₂ (λ (a b : List Piece). a ++ b) c.pieces one.pieces ∙ sym (up_to_more whole p e);
      begun =
          subst (StandsSo (before ++ bytes)) (sym (crowded_more whole p e))
          (subst (λ (v : Cutter). Stands (has_crowded (p ∷ [])) (before ++ bytes) v) (sym (ap (λ (v : Cut). v.begun) is)) one.begun);
    }
piece_more before bytes whole p true e c k =
    let o = more_out before bytes (subst (StandsSo before) e c.begun) in
    record {
      pieces = ap (λ (v : Cut). v.pieces) o.1 ∙ c.pieces ∙ sym (up_to_same whole p e);
      begun = subst (StandsSo (before ++ bytes)) (sym (crowded_same whole p e)) (ap (λ (v : Cut). v.begun.at) o.1 ∙ o.2);
    }

pub cuts : {before : List ℕ} {whole : List Piece} → AreCut before whole → Cuts before whole
cuts AreCut.none = record { pieces = refl; begun = (1, refl) }
cuts (AreCut.gap before bytes whole d g) = gap_more before bytes whole (has_crowded whole) refl (cuts d) g
cuts (AreCut.piece before bytes whole p d k) = piece_more before bytes whole p (has_crowded whole) refl (cuts d) (piece_cut k)

-- ---- a script

-- what is cut of its bytes so far, and of all of them
pub record IsCutAs (bytes : List ℕ) (whole : List Piece) (p : Option Piece) : Type 0 where
  pub so_far : pieces_in bytes ≡ up_to_crowded whole
  pub all : pieces bytes ≡ up_to_crowded (with_last whole p)

last_more : (whole : List Piece) (p : Option Piece) → has_crowded whole ≡ false → up_to_crowded whole ++ one p ≡ up_to_crowded (with_last whole p)
last_more whole None e = append-nil (up_to_crowded whole)
last_more whole (Some p) e = sym (up_to_more whole p e)

last_same : (whole : List Piece) (p : Option Piece) → has_crowded whole ≡ true → up_to_crowded whole ≡ up_to_crowded (with_last whole p)
last_same whole None e = refl
last_same whole (Some p) e = sym (up_to_same whole p e)

out_last : (c : Cutter) → c.at ≡ Out → last c ≡ None
unfolding last
out_last c h = subst (λ place. last (record c { at = place }) ≡ None) (sym h) refl

script_at : (before left : List ℕ) (whole : List Piece) (p : Option Piece) (t : Bool) → has_crowded whole ≡ t → Cuts before whole → ((m : ℕ) → LeavesOver (from_gap before m left) p) → IsCutAs (before ++ left) whole p
unfolding pieces pieces_in
script_at before left whole p false e c l =
    let s = subst (StandsSo before) e c.begun in
    let over = l s.0 in
    let is = more_bytes before left _ (from_gap before s.0 left) s.1 refl in
    let found = ap (λ (v : Cut). v.pieces) is ∙ ap₂ (λ (a b : List Piece). a ++ b) c.pieces over.pieces ∙ append-nil (up_to_crowded whole) in
    record { so_far = found; all = ap₂ (λ (a : List Piece) (b : Option Piece). a ++ one b) found (ap (λ (v : Cut). last v.begun) is ∙ over.last) ∙ last_more whole p e }
script_at before left whole p true e c l =
    let o = more_out before left (subst (StandsSo before) e c.begun) in
    let found = ap (λ (v : Cut). v.pieces) o.1 ∙ c.pieces in
    record {
      so_far = found;
      all =
          ap₂ (λ (a : List Piece) (b : Option Piece). a ++ one b) found (ap (λ (v : Cut). last v.begun) o.1 ∙ out_last o.0 o.2) ∙ append-nil (up_to_crowded whole)
          ∙ last_same whole p e;
    }

pub script_cut : (bytes : List ℕ) (whole : List Piece) (p : Option Piece) → IsScript bytes whole p → IsCutAs bytes whole p
script_cut bytes whole p h = subst (λ (v : List ℕ). IsCutAs v whole p) (sym h.parts) (script_at h.before h.left whole p (has_crowded whole) refl (cuts h.cut) (leaves_over h.rest))
