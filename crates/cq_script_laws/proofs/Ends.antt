-- The cutter behind each piece.
use Rattle.std.specs.Prelude.{◌||◌, ◌==◌}
use Rattle.std.proofs.Common.{◌≡◌, ℕ, Bool, true, false, cond, Some, None, List, [], ◌∷◌, ◌++◌, refl, sym, ◌∙◌, ap, ap₂, append_assoc, append-nil}
use Rattle.cq_token.specs.Bytes.{is_blank}
use Rattle.cq_script.specs.Streams.{counted}
use Rattle.cq_script.specs.declared.scan.Scan.TheVariants.{Code}
use Rattle.cq_script.specs.declared.cutter.Piece.TheVariants as piece
use Rattle.cq_script.specs.declared.cutter.Line.TheVariants.{Start}
use Rattle.cq_script.specs.declared.cutter.Place.TheVariants.{Gap, Text, Rest, Data, Directive, Out}
use Rattle.cq_script.specs.Pieces.{HasNo, AreBlank, IsText, IsCopyLine, starts_line}
use Rattle.cq_script.specs.Runs.{number_behind}
use Rattle.cq_script.specs.Scripts.{is_copy, Cut, Stepped, goes, gives, step, cut}
use Rattle.cq_script.specs.Written.{scan_behind}
use Rattle.cq_script.proofs.CuttingLaws.{cut_none, cut_some}
use Rattle.cq_script.proofs.WrittenLaws.{or_right, at, Ends, then_ends, then_one, plain_step, copy_step}
use Rattle.cq_script_laws.proofs.Scans.{code_scans}
use Rattle.cq_script_laws.proofs.Texts.{text_begins, cut_behind}

-- ---- a semicolon

pub statement_ends : (before text : List ℕ) (n m : ℕ) → IsText before text → is_copy text ≡ false
    → Ends (at (Gap (starts_line before)) n m [] []) (text ++ 59 ∷ []) (piece.Statement n (record { text = text; copied = [] }) ∷ []) (at (Gap false) (number_behind n text) n [] [])
statement_ends before text n m h plain =
    let scans = code_scans h.1 Code tt in
    text_begins before text n m 59 [] h.0 scans.0 refl
    ∙ cut_some (at (Text (scan_behind Code text)) (number_behind n text) n text []) (at (Gap false) (number_behind n text) n [] []) (piece.Statement n (record { text = text; copied = [] })) 59 []
    (plain_step (scan_behind Code text) (number_behind n text) n text scans.1 plain)

-- ---- behind the semicolon of a COPY

-- a byte there, which ends the line, is blank or is neither
abbrev in_line : ℕ → ℕ → List ℕ → Bool → Bool → Stepped
in_line n m text t u =
    let c = at Rest (cond t (counted n) n) m text [] in
    cond t (goes (Data Start) c) (cond u (goes Rest c) (Some (piece.Crowded c.line), record c { at = Out }))

blank_rest : (n m b : ℕ) (text : List ℕ) → is_blank b ≡ true → (b == 10) ≡ false → (None, at Rest n m text []) ≡ step (at Rest n m text []) b
unfolding step
blank_rest n m b text h e = ap₂ (in_line n m text) (sym e) (sym h)

pub blanks_end : (n m : ℕ) (text blanks : List ℕ) → AreBlank blanks → Ends (at Rest n m text []) blanks [] (at Rest n m text [])
blanks_end n m text [] h = refl
blanks_end n m text (b ∷ bs) h =
    then_one (at Rest n m text []) (at Rest n m text []) (at Rest n m text []) b bs [] (blank_rest n m b text h.0.0 h.1.0) (blanks_end n m text bs (h.0.1, h.1.1))

-- the line of a COPY, up to its semicolon and the blanks behind it
pub line_begins : (before text blanks more : List ℕ) (n m : ℕ) → IsCopyLine before text blanks
    → cut (at (Gap (starts_line before)) n m [] []) (text ++ 59 ∷ (blanks ++ more)) ≡ cut (at Rest (number_behind n text) n text []) more
line_begins before text blanks more n m h =
    let scans = code_scans h.begins.1 Code tt in
    text_begins before text n m 59 (blanks ++ more) h.begins.0 scans.0 refl
    ∙ cut_none (at (Text (scan_behind Code text)) (number_behind n text) n text []) (at Rest (number_behind n text) n text []) 59 (blanks ++ more)
    (copy_step (scan_behind Code text) (number_behind n text) n text scans.1 h.copy)
    ∙ cut_behind (at Rest (number_behind n text) n text []) (at Rest (number_behind n text) n text []) blanks more (blanks_end (number_behind n text) n text blanks h.apart)

pub crowded_ends : (n m b : ℕ) (text : List ℕ) → is_blank b ≡ false → Ends (at Rest n m text []) (b ∷ []) (piece.Crowded n ∷ []) (at Out n m text [])
unfolding step
crowded_ends n m b text h =
    cut_some (at Rest n m text []) (at Out n m text []) (piece.Crowded n) b [] (ap₂ (in_line n m text) (sym (or_right (b == 32 || b == 9 || b == 13) (b == 10) h)) (sym h))

-- ---- a directive

-- bytes of its line
in_directive : (n m : ℕ) (begun text : List ℕ) → HasNo 10 text → Ends (at Directive n m begun []) text [] (at Directive n m (begun ++ text) [])
unfolding step
in_directive n m begun [] h = ap (λ (t : List ℕ). let v : Cut = record { pieces = []; begun = at Directive n m t [] } in v) (sym (append-nil begun))
in_directive n m begun (b ∷ bs) h =
    then_one (at Directive n m begun []) (at Directive n m (begun ++ b ∷ []) []) (at Directive n m (begun ++ b ∷ bs) []) b bs []
    (ap (λ (t : Bool). let c = at Directive (cond t (counted n) n) m begun [] in cond t (gives (piece.Directive m begun) (Gap true) c) (goes Directive (record c { text = begun ++ b ∷ [] }))) (sym h.0))
    (in_directive n m (begun ++ b ∷ []) bs h.1 ∙ ap (λ (t : List ℕ). let v : Cut = record { pieces = []; begun = at Directive n m t [] } in v) (append_assoc begun (b ∷ []) bs))

pub directive_begins : (n m : ℕ) (text : List ℕ) → HasNo 10 text → Ends (at (Gap true) n m [] []) (92 ∷ text) [] (at Directive n n (92 ∷ text) [])
unfolding step
directive_begins n m text h = then_one (at (Gap true) n m [] []) (at Directive n n (92 ∷ []) []) (at Directive n n (92 ∷ text) []) 92 text [] refl (in_directive n n (92 ∷ []) text h)

pub directive_ends : (n m : ℕ) (text : List ℕ) → HasNo 10 text → Ends (at (Gap true) n m [] []) (92 ∷ text ++ 10 ∷ []) (piece.Directive n (92 ∷ text) ∷ []) (at (Gap true) (counted n) n [] [])
unfolding step
directive_ends n m text h =
    then_ends (at (Gap true) n m [] []) (at Directive n n (92 ∷ text) []) (at (Gap true) (counted n) n [] []) (92 ∷ text) (10 ∷ []) [] (piece.Directive n (92 ∷ text) ∷ []) (directive_begins n m text h) refl
