-- From the front of a statement to its end.
use Rattle.std.specs.Prelude.{◌||◌, ◌==◌, fold}
use Rattle.std.proofs.Common.{◌≡◌, ℕ, Bool, true, false, cond, None, List, [], ◌∷◌, ◌++◌, refl, sym, ◌∙◌, ap, subst}
use Rattle.std.proofs.lemmas.List.Sums.{fold-append}
use Rattle.cq_token.specs.Bytes.{is_blank}
use Rattle.cq_token.specs.Tokens.{begins_comment}
use Rattle.cq_script.specs.Streams.{counted}
use Rattle.cq_script.specs.declared.scan.Scan.TheVariants.{Code, Dash}
use Rattle.cq_script.specs.declared.cutter.Place.TheVariants.{Gap, GapDash, GapComment, Text}
use Rattle.cq_script.specs.declared.cutter.Cutter.{Cutter}
use Rattle.cq_script.specs.Pieces.{HasNo, BeginsText, starts_line}
use Rattle.cq_script.specs.Runs.{number_behind}
use Rattle.cq_script.specs.Scripts.{next, Cut, Stepped, goes, in_text, begins, step, one, cut}
use Rattle.cq_script.specs.Written.{NoEnd, scan_behind}
use Rattle.cq_script.proofs.CuttingLaws.{behind, cut_append, cut_none}
use Rattle.cq_script.proofs.WrittenLaws.{nat_same, at, Ends, then_ends, then_one, line_of, text_ends, gap_byte}

-- ---- lines

-- whether a line begins behind bytes
abbrev pub line_from : Bool → List ℕ → Bool
line_from t bytes = fold (λ (s : Bool) b. b == 10) t bytes

pub line_from_append : (t : Bool) (xs ys : List ℕ) → line_from t (xs ++ ys) ≡ line_from (line_from t xs) ys
line_from_append t xs ys = fold-append (λ (s : Bool) b. b == 10) t xs ys

-- ---- gaps

pub blank_step : (f : Bool) (n m b : ℕ) → (is_blank b || b == 59) ≡ true → (None, at (Gap (b == 10)) (line_of n b) m [] []) ≡ step (at (Gap f) n m [] []) b
unfolding step
blank_step f n m b h = by_line (b == 10)
  where
    c : Cutter
    c = at (Gap f) (line_of n b) m [] []

    more : Stepped
    more = begins f (record c { begun = c.line }) b

    by_line : (t : Bool) → (None, at (Gap t) (line_of n b) m [] []) ≡ cond t (goes (Gap true) c) (cond (is_blank b || b == 59) (goes (Gap false) c) more)
    by_line true = refl
    by_line false = ap (λ (u : Bool). cond u (goes (Gap false) c) more) (sym h)

pub in_comment : (n m : ℕ) (text : List ℕ) → HasNo 10 text → Ends (at GapComment n m [] []) text [] (at GapComment n m [] [])
unfolding step
in_comment n m [] h = refl
in_comment n m (b ∷ bs) h =
    then_one (at GapComment n m [] []) (at GapComment n m [] []) (at GapComment n m [] []) b bs []
    (ap (λ (t : Bool). let v : Stepped = cond t (None, at (Gap true) (cond t (counted n) n) m [] []) (None, at GapComment (cond t (counted n) n) m [] []) in v) (sym h.0)) (in_comment n m bs h.1)

-- a comment up to its line's end
pub comment_ends : (f : Bool) (n m : ℕ) (text : List ℕ) → HasNo 10 text → Ends (at (Gap f) n m [] []) (45 ∷ 45 ∷ text ++ 10 ∷ []) [] (at (Gap true) (counted n) n [] [])
unfolding step
comment_ends f n m text h =
    then_one (at (Gap f) n m [] []) (at GapDash n n [] []) (at (Gap true) (counted n) n [] []) 45 (45 ∷ text ++ 10 ∷ []) [] refl
    (then_one (at GapDash n n [] []) (at GapComment n n [] []) (at (Gap true) (counted n) n [] []) 45 (text ++ 10 ∷ []) [] refl
    (then_ends (at GapComment n n [] []) (at GapComment n n [] []) (at (Gap true) (counted n) n [] []) text (10 ∷ []) [] [] (in_comment n n text h) refl))

-- ---- the front of a statement

-- behind one dash between statements the script stands as behind the dash that begins one
dash_step : (n m b : ℕ) → (b == 45) ≡ false → step (at GapDash n m [] []) b ≡ step (at (Text Dash) n m (45 ∷ []) []) b
unfolding step
dash_step n m b e = ap (λ (t : Bool). cond t (goes GapComment (at GapDash (line_of n b) m [] [])) (in_text Dash (at (Text Dash) (line_of n b) m (45 ∷ []) []) b)) e

pub dash_cut : (n m b : ℕ) (bs : List ℕ) → (b == 45) ≡ false → cut (at GapDash n m [] []) (b ∷ bs) ≡ cut (at (Text Dash) n m (45 ∷ []) []) (b ∷ bs)
dash_cut n m b bs e = ap (λ (s : Stepped). behind (one s.0) (cut s.1 bs)) (dash_step n m b e)

pub cut_behind : (c mid : Cutter) (xs ys : List ℕ) → Ends c xs [] mid → cut c (xs ++ ys) ≡ cut mid ys
cut_behind c mid xs ys h = cut_append c xs ys ∙ ap (λ (v : Cut). behind v.pieces (cut v.begun ys)) h

dash_more : (n m c : ℕ) (bs more : List ℕ) → begins_comment 45 bs ≡ false → (c == 45) ≡ false → cut (at GapDash n m [] []) (bs ++ c ∷ more) ≡ cut (at (Text Dash) n m (45 ∷ []) []) (bs ++ c ∷ more)
dash_more n m c [] more h e = dash_cut n m c more e
dash_more n m c (b ∷ bs) more h e = dash_cut n m b (bs ++ c ∷ more) h

dash_begins : (f : Bool) (n m c : ℕ) (bs more : List ℕ) → begins_comment 45 bs ≡ false → NoEnd Dash bs → (c == 45) ≡ false
    → cut (at (Gap f) n m [] []) (45 ∷ bs ++ c ∷ more) ≡ cut (at (Text (scan_behind Dash bs)) (number_behind n bs) n (45 ∷ bs) []) (c ∷ more)
unfolding step
dash_begins f n m c bs more h k e =
    cut_none (at (Gap f) n m [] []) (at GapDash n n [] []) 45 (bs ++ c ∷ more) refl ∙ dash_more n n c bs more h e
    ∙ cut_behind (at (Text Dash) n n (45 ∷ []) []) (at (Text (scan_behind Dash bs)) (number_behind n bs) n (45 ∷ bs) []) bs (c ∷ more) (text_ends Dash n n (45 ∷ []) [] bs k)

-- a statement's bytes, before a byte that isn't a dash
pub text_begins : (before text : List ℕ) (n m c : ℕ) (more : List ℕ) → BeginsText before text → NoEnd Code text → (c == 45) ≡ false
    → cut (at (Gap (starts_line before)) n m [] []) (text ++ c ∷ more) ≡ cut (at (Text (scan_behind Code text)) (number_behind n text) n text []) (c ∷ more)
unfolding next
text_begins before [] n m c more h k e = absurd h
text_begins before (b ∷ bs) n m c more h k e = by_dash (b == 45) refl
  where
    Begins : ℕ → Type 0
    Begins x = cut (at (Gap (starts_line before)) n m [] []) (x ∷ bs ++ c ∷ more) ≡ cut (at (Text (scan_behind Code (x ∷ bs))) (number_behind n (x ∷ bs)) n (x ∷ bs) []) (c ∷ more)

    by_dash : (t : Bool) → (b == 45) ≡ t → Begins b
    by_dash true d =
        subst (λ x. BeginsText before (x ∷ bs) → NoEnd Code (x ∷ bs) → Begins x) (sym (nat_same b 45 d)) (λ g l. dash_begins (starts_line before) n m c bs more g.1 l.1 e) h k
    by_dash false d =
        cut_none (at (Gap (starts_line before)) n m [] []) (at (Text (next Code b)) (line_of n b) n (b ∷ []) []) b (bs ++ c ∷ more) (gap_byte (starts_line before) n m b h.0 d h.2 k.0)
        ∙ cut_behind (at (Text (next Code b)) (line_of n b) n (b ∷ []) []) (at (Text (scan_behind (next Code b) bs)) (number_behind (line_of n b) bs) n (b ∷ bs) []) bs (c ∷ more)
        (text_ends (next Code b) (line_of n b) n (b ∷ []) [] bs k.1)
