-- A text with its quotes doubled.
use Rattle.std.proofs.Common.{◌≡◌, ◌≢◌, ℕ, suc, ◌+◌, ◌<◌, ◌==◌, List, [], ◌∷◌, ◌++◌, append_assoc, length, get_or, false, Result, Ok, Err, flat_map, drop, subst, length-append, refl, sym, ◌∙◌, ap, arith}
use Rattle.std.proofs.lemmas.Grind.{flat_map-append}
use Rattle.std.proofs.lemmas.Bool.Decides.{nat_tests}
use Rattle.std.proofs.lemmas.List.{drop_more}
use Rattle.std.proofs.Math.Seq.{drop-append_seam}
use Rattle.std.proofs.lemmas.Str.{IsUtf8-drop, IsCharBoundary-after_ascii}
use Rattle.std.specs.Str.{IsUtf8}
use Rattle.std.specs.Result.{OnOk}
use Rattle.cq_token.specs.Printed.{doubled}

isnt : (b n : ℕ) → b ≢ n → (b == n) ≡ false
isnt b n ne = grind (arith, nat_tests)

pub plain : (bs : List ℕ) → ((i : ℕ) → i < length bs → get_or bs i 0 ≢ 39) → flat_map doubled bs ≡ bs
plain [] none = refl
plain (b ∷ bs) none =
    rw (isnt b 39 (none 0 (omega arith))) (ap (λ l. b ∷ l) (plain bs (λ i lt. none (suc i) (omega (arith, lt)))))

pub one_quote : (before after : List ℕ) → ((i : ℕ) → i < length before → get_or before i 0 ≢ 39)
    → flat_map doubled (before ++ 39 ∷ after) ≡ before ++ (39 ∷ 39 ∷ flat_map doubled after)
one_quote before after none = flat_map-append doubled before (39 ∷ after) ∙ ap (λ l. l ++ (39 ∷ 39 ∷ flat_map doubled after)) (plain before none)

pub pushed : (out first second before after rest : List ℕ) → first ≡ out ++ before → second ≡ first ++ 39 ∷ 39 ∷ [] → rest ≡ before ++ 39 ∷ after
    → ((i : ℕ) → i < length before → get_or before i 0 ≢ 39) → second ++ flat_map doubled after ≡ out ++ flat_map doubled rest
pushed out first second before after rest e f g none =
    ap (λ l. l ++ flat_map doubled after) (f ∙ ap (λ l. l ++ 39 ∷ 39 ∷ []) e)
    ∙ append_assoc (out ++ before) (39 ∷ 39 ∷ []) (flat_map doubled after)
    ∙ append_assoc out before (39 ∷ 39 ∷ flat_map doubled after)
    ∙ ap (λ l. out ++ l) (sym (ap (flat_map doubled) g ∙ one_quote before after none))

pub utf8_after : (before after rest : List ℕ) → IsUtf8 rest → rest ≡ before ++ 39 ∷ after → IsUtf8 after
utf8_after before after rest u e =
    let n = length before in
    let lt : n < length rest = omega (arith, ap length e, length-append before (39 ∷ after)) in
    let seam : drop n rest ≡ 39 ∷ after = ap (drop n) e ∙ drop-append_seam before (39 ∷ after) in
    let more = sym (drop_more rest n 0 lt) ∙ seam in
    let quote : get_or rest n 0 ≡ 39 = cc more in
    let same : drop (n + 1) rest ≡ after = cc more in
    subst IsUtf8 same (IsUtf8-drop rest (n + 1) u (IsCharBoundary-after_ascii rest n u lt (omega (arith, quote))))

pub on_ok : {A E : Type 0} (r : Result A E) (P Q : Type 0) → (P → Q) → OnOk r P → OnOk r Q
on_ok (Ok x) P Q f h = f h
on_ok (Err e) P Q f h = h
