-- Where a statement's text ends: the scan of its bytes stands outside quotes and comments behind code, and there alone.
use Rattle.std.specs.Prelude.{◌&&◌, ◌||◌, ◌==◌, if◌then◌else◌}
use Rattle.std.proofs.Common.{◌≡◌, ◌⊎◌, inl, inr, ℕ, Bool, true, false, List, [], ◌∷◌, ◌++◌, refl, sym, ◌∙◌, ap, subst}
use Rattle.cq_token.specs.Tokens.{begins_comment}
use Rattle.cq_value.proofs.Truths.{two_ways}
use Rattle.cq_script.specs.declared.scan.Scan.{Scan}
use Rattle.cq_script.specs.declared.scan.Scan.TheVariants.{Code, Dash, Comment, Quote}
use Rattle.cq_script.specs.Pieces.{HasNo, IsCode, HasEnd}
use Rattle.cq_script.specs.Scripts.{next, ends}
use Rattle.cq_script.specs.Written.{NoEnd, scan_behind}
use Rattle.cq_script.proofs.WrittenLaws.{nat_same, or_left, or_right}

-- ---- code is scanned to its end

-- no byte ends a statement, and behind the last a semicolon does
abbrev pub Scans : Scan → List ℕ → Type 0
Scans scan bytes = NoEnd scan bytes × (ends (scan_behind scan bytes) 59 ≡ true)

scans_more : (scan new : Scan) (b : ℕ) (bs : List ℕ) → ends scan b ≡ false → next scan b ≡ new → Scans new bs → Scans scan (b ∷ bs)
scans_more scan new b bs none is h = ((none, subst (λ (s : Scan). NoEnd s bs) (sym is) h.0), subst (λ (s : Scan). ends (scan_behind s bs) 59 ≡ true) (sym is) h.1)

scans_quote : (text more : List ℕ) → HasNo 39 text → Scans Code more → Scans Quote (text ++ 39 ∷ more)
unfolding next ends
scans_quote [] more h k = scans_more Quote Code 39 more refl refl k
scans_quote (b ∷ bs) more h k = scans_more Quote Quote b (bs ++ 39 ∷ more) refl (ap (λ (t : Bool). if t then Code else Quote) h.0) (scans_quote bs more h.1 k)

scans_comment : (text more : List ℕ) → HasNo 10 text → Scans Code more → Scans Comment (text ++ 10 ∷ more)
unfolding next ends
scans_comment [] more h k = scans_more Comment Code 10 more refl refl k
scans_comment (b ∷ bs) more h k = scans_more Comment Comment b (bs ++ 10 ∷ more) refl (ap (λ (t : Bool). if t then Code else Comment) h.0) (scans_comment bs more h.1 k)

-- the scan may stand so at the front of code: behind a dash there is no second one
abbrev MayBegin : Scan → List ℕ → Type 0
MayBegin Code bytes = Unit {0}
MayBegin Dash bytes = begins_comment 45 bytes ≡ false
MayBegin Comment bytes = ⊥
MayBegin Quote bytes = ⊥

-- a byte that begins no comment, and is neither a quote nor a semicolon
abbrev after : ℕ → Scan
after b = if b == 45 then Dash else Code

after_other : (b : ℕ) → (b == 39 || b == 59) ≡ false → next Code b ≡ after b
unfolding next
after_other b h = ap (λ (t : Bool). if t then Quote else after b) (or_left (b == 39) (b == 59) h)

may_follow : (b : ℕ) (more : List ℕ) → begins_comment b more ≡ false → (t : Bool) → (b == 45) ≡ t → MayBegin (if t then Dash else Code) more
may_follow b [] h true e = refl
may_follow b (c ∷ more) h true e = subst (λ (t : Bool). (t && c == 45) ≡ false) e h
may_follow b more h false e = tt

pub code_scans : {bytes : List ℕ} → IsCode bytes → (scan : Scan) → MayBegin scan bytes → Scans scan bytes
unfolding next ends
code_scans IsCode.none Code ok = (tt, refl)
code_scans IsCode.none Dash ok = (tt, refl)
code_scans IsCode.none Comment ok = absurd ok
code_scans IsCode.none Quote ok = absurd ok
code_scans (IsCode.quoted text more h k) Code ok = scans_more Code Quote 39 (text ++ 39 ∷ more) refl refl (scans_quote text more h (code_scans k Code tt))
code_scans (IsCode.quoted text more h k) Dash ok = scans_more Dash Quote 39 (text ++ 39 ∷ more) refl refl (scans_quote text more h (code_scans k Code tt))
code_scans (IsCode.quoted text more h k) Comment ok = absurd ok
code_scans (IsCode.quoted text more h k) Quote ok = absurd ok
code_scans (IsCode.comment text more h k) Code ok =
    scans_more Code Dash 45 (45 ∷ text ++ 10 ∷ more) refl refl (scans_more Dash Comment 45 (text ++ 10 ∷ more) refl refl (scans_comment text more h (code_scans k Code tt)))
code_scans (IsCode.comment text more h k) Dash ok = absurd (let e : true ≡ false = ok in cc)
code_scans (IsCode.comment text more h k) Comment ok = absurd ok
code_scans (IsCode.comment text more h k) Quote ok = absurd ok
code_scans (IsCode.other b more h d k) Code ok =
    scans_more Code (after b) b more (or_right (b == 39) (b == 59) h) (after_other b h) (code_scans k (after b) (may_follow b more d (b == 45) refl))
code_scans (IsCode.other b more h d k) Dash ok =
    let is : next Dash b ≡ Code = ap (λ (t : Bool). if t then Comment else (if b == 39 then Quote else (if t then Dash else Code))) ok ∙ ap (λ (t : Bool). if t then Quote else Code) (or_left (b == 39) (b == 59) h) in
    scans_more Dash Code b more (or_right (b == 39) (b == 59) h) is (code_scans k Code tt)
code_scans (IsCode.other b more h d k) Comment ok = absurd ok
code_scans (IsCode.other b more h d k) Quote ok = absurd ok

-- ---- the first semicolon

-- behind where the scan stands, the text is code
abbrev CodeFrom : Scan → List ℕ → Type 0
CodeFrom Code text = IsCode text
CodeFrom Dash text = IsCode (45 ∷ text)
CodeFrom Comment text = (line more : List ℕ) × (text ≡ line ++ 10 ∷ more) × HasNo 10 line × IsCode more
CodeFrom Quote text = (inside more : List ℕ) × (text ≡ inside ++ 39 ∷ more) × HasNo 39 inside × IsCode more

no_comment : (b : ℕ) (more : List ℕ) → (b == 45) ≡ false → begins_comment b more ≡ false
no_comment b [] e = refl
no_comment b (c ∷ more) e = ap (λ (t : Bool). t && c == 45) e

plain_code : (b : ℕ) (text : List ℕ) → (b == 39) ≡ false → (b == 59) ≡ false → (b == 45) ≡ false → IsCode text → IsCode (b ∷ text)
plain_code b text q s d h = IsCode.other b text (ap (λ (t : Bool). t || b == 59) q ∙ s) (no_comment b text d) h

code_step : (scan : Scan) (b : ℕ) (text : List ℕ) → ends scan b ≡ false → CodeFrom (next scan b) text → CodeFrom scan (b ∷ text)
unfolding next ends
code_step Code b text none h = by_byte (b == 39) (b == 45) refl refl h
  where
    by_byte : (q d : Bool) → (b == 39) ≡ q → (b == 45) ≡ d → CodeFrom (if q then Quote else (if d then Dash else Code)) text → IsCode (b ∷ text)
    by_byte true d q e h = subst (λ c. IsCode (c ∷ text)) (sym (nat_same b 39 q)) (subst (λ v. IsCode (39 ∷ v)) (sym h.2) (IsCode.quoted h.0 h.1 h.3 h.4))
    by_byte false true q e h = subst (λ c. IsCode (c ∷ text)) (sym (nat_same b 45 e)) h
    by_byte false false q e h = plain_code b text q none e h
code_step Dash b text none h = by_byte (b == 39) (b == 45) refl refl h
  where
    by_byte : (q d : Bool) → (b == 39) ≡ q → (b == 45) ≡ d → CodeFrom (if d then Comment else (if q then Quote else (if d then Dash else Code))) text → IsCode (45 ∷ b ∷ text)
    by_byte q true f e h = subst (λ c. IsCode (45 ∷ c ∷ text)) (sym (nat_same b 45 e)) (subst (λ v. IsCode (45 ∷ 45 ∷ v)) (sym h.2) (IsCode.comment h.0 h.1 h.3 h.4))
    by_byte true false f e h =
        subst (λ c. IsCode (45 ∷ c ∷ text)) (sym (nat_same b 39 f)) (IsCode.other 45 (39 ∷ text) refl refl (subst (λ v. IsCode (39 ∷ v)) (sym h.2) (IsCode.quoted h.0 h.1 h.3 h.4)))
    by_byte false false f e h = IsCode.other 45 (b ∷ text) refl e (plain_code b text f none e h)
code_step Comment b text none h = by_byte (b == 10) refl h
  where
    by_byte : (t : Bool) → (b == 10) ≡ t → CodeFrom (if t then Code else Comment) text → CodeFrom Comment (b ∷ text)
    by_byte true e h = ([], text, ap (λ c. c ∷ text) (nat_same b 10 e), tt, h)
    by_byte false e h = (b ∷ h.0, h.1, ap (λ v. b ∷ v) h.2, (e, h.3), h.4)
code_step Quote b text none h = by_byte (b == 39) refl h
  where
    by_byte : (t : Bool) → (b == 39) ≡ t → CodeFrom (if t then Code else Quote) text → CodeFrom Quote (b ∷ text)
    by_byte true e h = ([], text, ap (λ c. c ∷ text) (nat_same b 39 e), tt, h)
    by_byte false e h = (b ∷ h.0, h.1, ap (λ v. b ∷ v) h.2, (e, h.3), h.4)

-- up to a semicolon that ends a statement
abbrev EndFrom : Scan → List ℕ → Type 0
EndFrom scan bytes = (text more : List ℕ) × (bytes ≡ text ++ 59 ∷ more) × CodeFrom scan text

end_here : (scan : Scan) (b : ℕ) (bs : List ℕ) → ends scan b ≡ true → EndFrom scan (b ∷ bs)
unfolding ends
end_here Code b bs e = ([], bs, ap (λ c. c ∷ bs) (nat_same b 59 e), IsCode.none)
end_here Dash b bs e = ([], bs, ap (λ c. c ∷ bs) (nat_same b 59 e), IsCode.other 45 [] refl refl IsCode.none)
end_here Comment b bs e = absurd (let h : false ≡ true = e in cc)
end_here Quote b bs e = absurd (let h : false ≡ true = e in cc)

end_from : (scan : Scan) (bytes : List ℕ) → EndFrom scan bytes ⊎ NoEnd scan bytes
end_from scan [] = inr tt
end_from scan (b ∷ bs) = elim (two_ways (ends scan b)) [ inl e ↦ inl (end_here scan b bs e) | inr e ↦ later e (end_from (next scan b) bs) ]
  where
    later : ends scan b ≡ false → EndFrom (next scan b) bs ⊎ NoEnd (next scan b) bs → EndFrom scan (b ∷ bs) ⊎ NoEnd scan (b ∷ bs)
    later e (inl h) = inl (b ∷ h.0, h.1, ap (λ v. b ∷ v) h.2, code_step scan b h.0 e h.3)
    later e (inr h) = inr (e, h)

no_end_at : (scan : Scan) (text more : List ℕ) → NoEnd scan (text ++ 59 ∷ more) → ends (scan_behind scan text) 59 ≡ false
no_end_at scan [] more h = h.0
no_end_at scan (b ∷ bs) more h = no_end_at (next scan b) bs more h.1

-- where no byte ends a statement there is no end
pub no_end : (bytes : List ℕ) → NoEnd Code bytes → ¬ HasEnd bytes
no_end bytes h e =
    let whole = code_scans e.3 Code tt in
    absurd (let t : true ≡ false = sym whole.1 ∙ no_end_at Code e.0 e.1 (subst (λ (v : List ℕ). NoEnd Code v) e.2 h) in cc)

-- a statement ends in the bytes, or it doesn't and no byte ends it
pub end_or : (bytes : List ℕ) → HasEnd bytes ⊎ NoEnd Code bytes
end_or bytes = end_from Code bytes
