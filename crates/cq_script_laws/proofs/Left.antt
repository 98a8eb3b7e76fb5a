-- The cutter behind what is left of a script.
use Rattle.std.specs.Prelude.{◌≢◌, ◌==◌, codes}
use Rattle.std.proofs.Common.{◌≡◌, inl, inr, ℕ, Bool, true, false, cond, Option, Some, None, List, [], ◌∷◌, ◌++◌, refl, sym, ◌∙◌, ap, subst, append_assoc, append-nil}
use Rattle.cq_script.specs.Streams.{counted}
use Rattle.cq_script.specs.declared.scan.Scan.{Scan}
use Rattle.cq_script.specs.declared.scan.Scan.TheVariants.{Code, Dash}
use Rattle.cq_script.specs.declared.cutter.Piece.{Piece}
use Rattle.cq_script.specs.declared.cutter.Piece.TheVariants as piece
use Rattle.cq_script.specs.declared.cutter.Line.TheVariants.{Start, Slash, End, Within}
use Rattle.cq_script.specs.declared.cutter.Place.{Place}
use Rattle.cq_script.specs.declared.cutter.Place.TheVariants.{Gap, GapDash, GapComment, Text, Rest, Data, Directive}
use Rattle.cq_script.specs.declared.cutter.Cutter.{Cutter}
use Rattle.cq_script.specs.Pieces.{HasNo, BeginsText, IsLastData, IsLeft, starts_line, line_at}
use Rattle.cq_script.specs.Runs.{number_behind}
use Rattle.cq_script.specs.Scripts.{next, Cut, goes, statement, gives, keeps, step, cut, last}
use Rattle.cq_script.specs.Written.{NoEnd, scan_behind}
use Rattle.cq_script.proofs.CuttingLaws.{cut_none}
use Rattle.cq_script.proofs.WrittenLaws.{nat_same, at, Ends, then_one, line_of, text_ends, gap_byte, keeps_at, data_ends}
use Rattle.cq_script_laws.proofs.Scans.{end_or}
use Rattle.cq_script_laws.proofs.Texts.{cut_behind, dash_cut, in_comment}
use Rattle.cq_script_laws.proofs.Ends.{line_begins, directive_begins}

-- nothing is whole in the bytes, and the end of the script makes this of them
pub record LeavesOver (c : Cut) (p : Option Piece) : Type 0 where
  pub pieces : c.pieces ≡ []
  pub last : last c.begun ≡ p

abbrev Over : Cutter → Cut
Over c = record { pieces = []; begun = c }

-- a statement that begins in this line
abbrev says : ℕ → List ℕ → List ℕ → Option Piece
says n text copied = Some (piece.Statement n (record { text = text; copied = copied }))

leaves : (c : Cut) (new : Cutter) (p : Option Piece) → c ≡ Over new → LeavesOver (Over new) p → LeavesOver c p
leaves c new p is h = subst (λ (v : Cut). LeavesOver v p) (sym is) h

-- ---- a statement

text_over : (scan : Scan) (n m : ℕ) (text : List ℕ) → LeavesOver (Over (at (Text scan) n m text [])) (says m text [])
unfolding last
text_over scan n m text = record { pieces = refl; last = refl }

dash_left : (f : Bool) (n m : ℕ) (bs : List ℕ) → BeginsText [] (45 ∷ bs) → NoEnd Dash bs → LeavesOver (cut (at (Gap f) n m [] []) (45 ∷ bs)) (says n (45 ∷ bs) [])
unfolding step last
dash_left f n m [] h k = record { pieces = refl; last = refl }
dash_left f n m (b ∷ bs) h k =
    let new = at (Text (scan_behind Dash (b ∷ bs))) (number_behind n (b ∷ bs)) n (45 ∷ b ∷ bs) [] in
    leaves (cut (at (Gap f) n m [] []) (45 ∷ b ∷ bs)) new (says n (45 ∷ b ∷ bs) [])
    (cut_none (at (Gap f) n m [] []) (at GapDash n n [] []) 45 (b ∷ bs) refl ∙ dash_cut n n b bs h.1 ∙ text_ends Dash n n (45 ∷ []) [] (b ∷ bs) k)
    (text_over (scan_behind Dash (b ∷ bs)) (number_behind n (b ∷ bs)) n (45 ∷ b ∷ bs))

pub text_left : (before text : List ℕ) (n m : ℕ) → BeginsText before text → NoEnd Code text → LeavesOver (cut (at (Gap (starts_line before)) n m [] []) text) (says n text [])
unfolding next
text_left before [] n m h k = absurd h
text_left before (b ∷ bs) n m h k = by_dash (b == 45) refl
  where
    Leaves : ℕ → Type 0
    Leaves x = LeavesOver (cut (at (Gap (starts_line before)) n m [] []) (x ∷ bs)) (says n (x ∷ bs) [])

    by_dash : (t : Bool) → (b == 45) ≡ t → Leaves b
    by_dash true d = subst (λ x. BeginsText before (x ∷ bs) → NoEnd Code (x ∷ bs) → Leaves x) (sym (nat_same b 45 d)) (λ g e. dash_left (starts_line before) n m bs (refl, g.1, refl) e.1) h k
    by_dash false d =
        leaves (cut (at (Gap (starts_line before)) n m [] []) (b ∷ bs)) (at (Text (scan_behind Code (b ∷ bs))) (number_behind n (b ∷ bs)) n (b ∷ bs) []) (says n (b ∷ bs) [])
        (cut_none (at (Gap (starts_line before)) n m [] []) (at (Text (next Code b)) (line_of n b) n (b ∷ []) []) b bs (gap_byte (starts_line before) n m b h.0 d h.2 k.0)
        ∙ text_ends (next Code b) (line_of n b) n (b ∷ []) [] bs k.1)
        (text_over (scan_behind Code (b ∷ bs)) (number_behind n (b ∷ bs)) n (b ∷ bs))

-- ---- data

-- bytes that were held back, a byte, and those behind it
joined : (copied held bs : List ℕ) (b : ℕ) → (copied ++ held ++ b ∷ []) ++ bs ≡ copied ++ (held ++ b ∷ bs)
joined copied held bs b = append_assoc (copied ++ held) (b ∷ []) bs ∙ append_assoc copied held (b ∷ bs)

-- bytes behind the first of a line
within_left : (n m : ℕ) (text copied bs : List ℕ) → HasNo 10 bs → Ends (at (Data Within) n m text copied) bs [] (at (Data Within) n m text (copied ++ bs))
unfolding step
within_left n m text copied [] h = ap (λ (t : List ℕ). Over (at (Data Within) n m text t)) (sym (append-nil copied))
within_left n m text copied (b ∷ bs) h =
    then_one (at (Data Within) n m text copied) (at (Data Within) n m text (copied ++ [] ++ b ∷ [])) (at (Data Within) n m text (copied ++ b ∷ bs)) b bs [] (keeps_at [] (Data Within) n m b text copied h.0)
    (within_left n m text (copied ++ [] ++ b ∷ []) bs h.1 ∙ ap (λ (t : List ℕ). Over (at (Data Within) n m text t)) (joined copied [] bs b))

within_over : (n m : ℕ) (text copied : List ℕ) → LeavesOver (Over (at (Data Within) n m text copied)) (says m text copied)
unfolding last
within_over n m text copied = record { pieces = refl; last = refl }

-- a byte that is kept, and the rest of its line
kept_left : (held : List ℕ) (place : Place) (c : Cutter) (n m b : ℕ) (text copied bs : List ℕ) → keeps held (at place (line_of n b) m text copied) b ≡ step c b → (b == 10) ≡ false → HasNo 10 bs
    → LeavesOver (cut c (b ∷ bs)) (says m text (copied ++ (held ++ b ∷ bs)))
kept_left held place c n m b text copied bs is e h =
    leaves (cut c (b ∷ bs)) (at (Data Within) n m text (copied ++ (held ++ b ∷ bs))) (says m text (copied ++ (held ++ b ∷ bs)))
    (cut_none c (at (Data Within) n m text (copied ++ held ++ b ∷ [])) b bs (keeps_at held place n m b text copied e ∙ is) ∙ within_left n m text (copied ++ held ++ b ∷ []) bs h
    ∙ ap (λ (t : List ℕ). Over (at (Data Within) n m text t)) (joined copied held bs b))
    (within_over n m text (copied ++ (held ++ b ∷ bs)))

end_left : (n m b : ℕ) (text copied bs : List ℕ) → (b == 10) ≡ false → HasNo 10 bs
    → LeavesOver (cut (at (Data End) n m text copied) (b ∷ bs)) (says m text (copied ++ 92 ∷ 46 ∷ b ∷ bs))
unfolding step
end_left n m b text copied bs e h =
    let c = at (Data End) (line_of n b) m text copied in
    kept_left (codes "\\.") (Data End) (at (Data End) n m text copied) n m b text copied bs (ap (λ (t : Bool). cond t (gives (statement c) (Gap true) c) (keeps (codes "\\.") c b)) (sym e)) e h

slash_left : (n m : ℕ) (text copied bs : List ℕ) → HasNo 10 bs → bs ≢ 46 ∷ []
    → LeavesOver (cut (at (Data Slash) n m text copied) bs) (says m text (copied ++ 92 ∷ bs))
unfolding step last
slash_left n m text copied [] h other = record { pieces = refl; last = refl }
slash_left n m text copied (b ∷ bs) h other = by_dot (b == 46) refl
  where
    Leaves : ℕ → Type 0
    Leaves x = LeavesOver (cut (at (Data Slash) n m text copied) (x ∷ bs)) (says m text (copied ++ 92 ∷ x ∷ bs))

    behind_dot : (more : List ℕ) → HasNo 10 more → more ≢ [] → LeavesOver (cut (at (Data Slash) n m text copied) (46 ∷ more)) (says m text (copied ++ 92 ∷ 46 ∷ more))
    behind_dot [] h some = absurd (some refl)
    behind_dot (d ∷ more) h some =
        subst (λ (v : Cut). LeavesOver v (says m text (copied ++ 92 ∷ 46 ∷ d ∷ more)))
        (sym (cut_none (at (Data Slash) n m text copied) (at (Data End) n m text copied) 46 (d ∷ more) refl)) (end_left n m d text copied more h.0 h.1)

    by_dot : (t : Bool) → (b == 46) ≡ t → Leaves b
    by_dot false e =
        let c = at (Data Slash) (line_of n b) m text copied in
        kept_left (codes "\\") (Data Slash) (at (Data Slash) n m text copied) n m b text copied bs (ap (λ (t : Bool). cond t (goes (Data End) c) (keeps (codes "\\") c b)) (sym e)) h.0 h.1
    by_dot true e =
        let is : b ≡ 46 = nat_same b 46 e in
        subst Leaves (sym is) (behind_dot bs h.1 (λ none. other (ap (λ d. d ∷ bs) is ∙ ap (λ v. 46 ∷ v) none)))

line_left : (n m : ℕ) (text copied line : List ℕ) → HasNo 10 line → line ≢ codes "\\."
    → LeavesOver (cut (at (Data Start) n m text copied) line) (says m text (copied ++ line))
unfolding step last
line_left n m text copied [] h other = record { pieces = refl; last = ap (λ (t : List ℕ). says m text t) (sym (append-nil copied)) }
line_left n m text copied (b ∷ bs) h other = by_slash (b == 92) refl
  where
    Leaves : ℕ → Type 0
    Leaves x = LeavesOver (cut (at (Data Start) n m text copied) (x ∷ bs)) (says m text (copied ++ x ∷ bs))

    by_slash : (t : Bool) → (b == 92) ≡ t → Leaves b
    by_slash false e =
        let c = at (Data Start) (line_of n b) m text copied in
        kept_left [] (Data Start) (at (Data Start) n m text copied) n m b text copied bs (ap (λ (t : Bool). cond t (goes (Data Slash) c) (keeps [] c b)) (sym e)) h.0 h.1
    by_slash true e =
        let is : b ≡ 92 = nat_same b 92 e in
        subst Leaves (sym is)
        (subst (λ (v : Cut). LeavesOver v (says m text (copied ++ 92 ∷ bs)))
        (sym (cut_none (at (Data Start) n m text copied) (at (Data Slash) n m text copied) 92 bs refl))
        (slash_left n m text copied bs h.1 (λ dot. other (ap (λ d. d ∷ bs) is ∙ ap (λ v. 92 ∷ v) dot))))

data_left : (n m : ℕ) (text bytes copied : List ℕ) → IsLastData bytes copied → LeavesOver (cut (at (Data Start) n m text []) bytes) (says m text copied)
unfolding step last
data_left n m text bytes given (IsLastData.ended copied h) =
    leaves (cut (at (Data Start) n m text []) (copied ++ 92 ∷ 46 ∷ [])) (at (Data End) (number_behind n copied) m text copied) (says m text copied)
    (cut_behind (at (Data Start) n m text []) (at (Data Start) (number_behind n copied) m text copied) copied (92 ∷ 46 ∷ []) (data_ends n m text copied h)) (record { pieces = refl; last = refl })
data_left n m text bytes given (IsLastData.broken lines line h one other) =
    subst (λ (v : Cut). LeavesOver v (says m text (lines ++ line)))
    (sym (cut_behind (at (Data Start) n m text []) (at (Data Start) (number_behind n lines) m text lines) lines line (data_ends n m text lines h))) (line_left (number_behind n lines) m text lines line one other)

-- ---- all of these

pub leaves_over : {before bytes : List ℕ} {p : Option Piece} → IsLeft before bytes p → (m : ℕ) → LeavesOver (cut (at (Gap (starts_line before)) (line_at before) m [] []) bytes) p
unfolding step last
leaves_over IsLeft.nothing m = record { pieces = refl; last = refl }
leaves_over {before} (IsLeft.comment text h) m =
    let n = line_at before in
    let new = at GapComment n n [] [] in
    leaves (cut (at (Gap (starts_line before)) n m [] []) (45 ∷ 45 ∷ text)) new None
    (then_one (at (Gap (starts_line before)) n m [] []) (at GapDash n n [] []) new 45 (45 ∷ text) [] refl (then_one (at GapDash n n [] []) new new 45 text [] refl (in_comment n n text h)))
    (record { pieces = refl; last = refl })
leaves_over {before} (IsLeft.statement text h none) m = elim (end_or text) [ inl e ↦ absurd (none e) | inr k ↦ text_left before text (line_at before) m h k ]
leaves_over {before} (IsLeft.copy_line text blanks h) m =
    let n = line_at before in
    let c = at (Gap (starts_line before)) n m [] [] in
    leaves (cut c (text ++ 59 ∷ blanks)) (at Rest (number_behind n text) n text []) (says n text [])
    (ap (λ (v : List ℕ). cut c (text ++ 59 ∷ v)) (sym (append-nil blanks)) ∙ line_begins before text blanks [] n m h) (record { pieces = refl; last = refl })
leaves_over {before} (IsLeft.copy text blanks bytes copied h k) m =
    let n = line_at before in
    let l = number_behind n text in
    subst (λ (v : Cut). LeavesOver v (says n text copied))
    (sym (line_begins before text blanks (10 ∷ bytes) n m h ∙ cut_none (at Rest l n text []) (at (Data Start) (counted l) n text []) 10 bytes refl)) (data_left (counted l) n text bytes copied k)
leaves_over {before} (IsLeft.directive text fresh h) m =
    let n = line_at before in
    let p : Option Piece = Some (piece.Directive n (92 ∷ text)) in
    subst (λ (t : Bool). LeavesOver (cut (at (Gap t) n m [] []) (92 ∷ text)) p) (sym fresh)
    (leaves (cut (at (Gap true) n m [] []) (92 ∷ text)) (at Directive n n (92 ∷ text) []) p (directive_begins n m text h) (record { pieces = refl; last = refl }))
