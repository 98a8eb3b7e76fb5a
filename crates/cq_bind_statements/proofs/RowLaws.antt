-- The columns of a row in turn, and its values.
use Rattle.std.proofs.Common.{◌≡◌, ◌<◌, ◌≤◌, ℕ, zero, suc, ◌+◌, ◌-◌, List, [], ◌∷◌, ◌++◌, Result, Ok, Err, IsErrAnd, refl, sym, ap, ◌∙◌, arith, length, drop, get_or, length-append, add-one}
use Rattle.std.specs.Prelude.{slice_set}
use Rattle.cq_value.specs.declared.value.Value.{Value}
use Rattle.cq_bind_statements.specs.Keeping.{Keeps}
use Rattle.cq_reading.specs.declared.bound.Found.{Found}
use Rattle.cq_reading.specs.declared.error.BindError.{BindError}
use Rattle.cq_reading.specs.Outcomes.{Judges}
use Rattle.cq_reading.specs.Steps.{Reading, through}
use Rattle.cq_reading.specs.Statements.{count_from, put_values}

-- what is left to do from the i-th of n on comes to the same as the whole
abbrev pub StandsFrom : {S : Type 0} → (S → ℕ → Reading S) → ℕ → S → ℕ → Type 0
StandsFrom r n s i = (found : Found) → through r (count_from 0 n) s found ≡ through r (count_from i (n - i)) s found

pub from_ok : {S : Type 0} (r : S → ℕ → Reading S) (n i : ℕ) (s : S) → i < n → StandsFrom r n s i → Judges (r s i) (Ok s) → StandsFrom r n s (i + 1)
from_ok r n i s l inv h found =
    let m : n - i ≡ suc (n - (i + 1)) = omega arith in
    inv found ∙ rw (m, h found) refl

pub from_err : {S : Type 0} (r : S → ℕ → Reading S) (n i : ℕ) (s : S) (e : BindError) → i < n → StandsFrom r n s i → Judges (r s i) (Err e)
    → Judges (through r (count_from 0 n) s) (Err e)
from_err r n i s e l inv h found k =
    let m : n - i ≡ suc (n - (i + 1)) = omega arith in
    inv found ∙ rw (m, h found k) refl

pub from_end : {S : Type 0} (r : S → ℕ → Reading S) (n i : ℕ) (s : S) → n ≤ i → StandsFrom r n s i → Judges (through r (count_from 0 n) s) (Ok s)
from_end r n i s l inv found =
    let m : n - i ≡ 0 = omega arith in
    inv found ∙ rw m refl

pub kept_err : {S : Type 0} (r : Reading S) (s : S) (e : BindError) (o : Result Unit BindError) → Judges r (Err e) → IsErrAnd o (λ y. y ≡ e) → Keeps r s o
kept_err r s e (Ok u) h k = absurd k
kept_err r s e (Err x) h k = λ found n. h found (λ p. n (k ∙ p)) ∙ ap Err (sym k)

put_more : (row : List Value) (columns : List ℕ) (vs ws : List Value) → put_values (put_values row columns vs) (drop (length vs) columns) ws ≡ put_values row columns (vs ++ ws)
put_more row [] [] ws = refl
put_more row [] (v ∷ vs) ws = refl
put_more row (i ∷ is) [] ws = refl
put_more row (i ∷ is) (v ∷ vs) ws = put_more (slice_set row i v) is vs ws

pub put_none : (row : List Value) (columns : List ℕ) → row ≡ put_values row columns []
put_none row [] = refl
put_none row (i ∷ is) = refl

pub put_next : (row at next : List Value) (columns places : List ℕ) (vs : List Value) (v : Value)
    → at ≡ put_values row columns vs → places ≡ drop (length vs) columns → next ≡ put_values at places (v ∷ []) → next ≡ put_values row columns (vs ++ v ∷ [])
put_next row at next columns places vs v p q h = rw (h, p, q) (put_more row columns vs (v ∷ []))

drop_one : {X : Type 0} (n : ℕ) (xs : List X) → drop 1 (drop n xs) ≡ drop (suc n) xs
drop_one zero xs = refl
drop_one (suc n) [] = refl
drop_one (suc n) (x ∷ xs) = drop_one n xs

pub places_next : {X : Type 0} (columns places next : List ℕ) (vs : List X) (v : X)
    → places ≡ drop (length vs) columns → next ≡ drop 1 places → next ≡ drop (length (vs ++ v ∷ [])) columns
places_next columns places next vs v p h = let l : length (vs ++ v ∷ []) ≡ suc (length vs) = length-append vs (v ∷ []) ∙ add-one (length vs) in rw (h, p, l) (drop_one (length vs) columns)

pub put_first : (row next : List Value) (columns : List ℕ) (v : Value) → 0 < length columns → next ≡ slice_set row (get_or columns 0 0) v
    → next ≡ put_values row columns (v ∷ [])
put_first row next [] v l h = absurd (omega arith)
put_first row next (i ∷ is) v l h = h ∙ put_none (slice_set row i v) is
