-- A loop goes through a list as a reading does.
use Rattle.std.proofs.Common.{◌≡◌, ◌<◌, ℕ, suc, ◌+◌, List, [], ◌∷◌, ◌++◌, Result, Ok, Err, IsErrAnd, length, drop, get_or, refl, sym, ap, ◌∙◌, add-one, drop-cons}
use Rattle.cq_reading.specs.declared.bound.Found.{Found}
use Rattle.cq_reading.specs.declared.error.BindError.{BindError}
use Rattle.cq_reading.specs.Outcomes.{Judges}
use Rattle.cq_reading.specs.Steps.{Reading, give, ◌then◌, through}
use Rattle.cq_bind_statements.proofs.JudgeLaws.{then_err}

-- what is left to do behind the first i items comes to the same as the whole
abbrev pub StandsAt : {S A : Type 0} → (S → A → Reading S) → List A → S → ℕ → S → Type 0
StandsAt r items first i s = (found : Found) → through r items first found ≡ through r (drop i items) s found

front : {A : Type 0} (xs : List A) (i : ℕ) (x : A) → i < length xs → x ≡ get_or xs i x → drop i xs ≡ x ∷ drop (i + 1) xs
front xs i x l p = rw (add-one) (drop-cons xs i x l ∙ ap (λ z. z ∷ drop (suc i) xs) (sym p))

one : {S A : Type 0} (r : S → A → Reading S) (a : A) (more : List A) (s t : S) (found : Found)
    → r s a found ≡ Ok (t, found) → through r (a ∷ more) s found ≡ through r more t found
one r a more s t found h = rw h refl

pub next_ok : {S A : Type 0} (r : S → A → Reading S) (items : List A) (first s t : S) (i : ℕ) (a : A)
    → i < length items → a ≡ get_or items i a → StandsAt r items first i s → Judges (r s a) (Ok t) → StandsAt r items first (i + 1) t
next_ok r items first s t i a l p inv h found =
    let d : drop i items ≡ a ∷ drop (i + 1) items = front items i a l p in
    inv found ∙ rw d (one r a (drop (i + 1) items) s t found (h found))

same_reading : {A : Type 0} (r s : Reading A) (o : Result A BindError) → ((found : Found) → r found ≡ s found) → Judges s o → Judges r o
same_reading r s (Ok a) e h = λ found. e found ∙ h found
same_reading r s (Err x) e h = λ found n. e found ∙ h found n

pub next_err : {S A : Type 0} (r : S → A → Reading S) (items : List A) (first s : S) (i : ℕ) (a : A) (e : BindError) (o : Result S BindError)
    → i < length items → a ≡ get_or items i a → StandsAt r items first i s → Judges (r s a) (Err e) → IsErrAnd o (λ y. y ≡ e)
    → Judges (through r items first) o
next_err r items first s i a e o l p inv h k =
    let d : drop i items ≡ a ∷ drop (i + 1) items = front items i a l p in
    same_reading (through r items first) (through r (drop i items) s) o inv
    (rw d (then_err (r s a) (λ t. through r (drop (i + 1) items) t) e o h k))

-- what is read puts one more item behind the others
pub put_ok : {A B : Type 0} (r : A → Reading B) (before after : List B) (a : A) (b : B)
    → Judges (r a) (Ok b) → after ≡ before ++ b ∷ [] → Judges (r a then (λ x. give (before ++ x ∷ []))) (Ok after)
put_ok r before after a b h p = λ found. rw (h found, p) refl

pub put_err : {A B : Type 0} (r : A → Reading B) (before : List B) (a : A) (e : BindError)
    → Judges (r a) (Err e) → Judges (r a then (λ x. give (before ++ x ∷ []))) (Err e)
put_err r before a e h = λ found n. rw (h found n) refl
