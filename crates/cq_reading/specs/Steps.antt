-- Readings: what the walk over a part of a statement gives, after what it has found so far. It gives what the part stands for and
-- what is found by then, or the first refusal.
use Rattle.std.specs.Prelude.{List, [], ◌∷◌, ◌++◌, Bool, true, false, Result, Ok, Err}
use Rattle.cq_reading.specs.declared.bound.Found.{Found}
use Rattle.cq_reading.specs.declared.error.BindError.{BindError}

abbrev pub Reading : Type 0 → Type 0
Reading A = Found → Result (A × Found) BindError

abbrev pub give : {A : Type 0} → A → Reading A
give a found = Ok (a, found)

abbrev pub refuse : {A : Type 0} → BindError → Reading A
refuse e found = Err e

abbrev pub follow : {A B : Type 0} → Result (A × Found) BindError → (A → Reading B) → Result (B × Found) BindError
follow (Ok p) f = f p.0 p.1
follow (Err e) f = Err e

-- the one, and then the other over what it stands for
infixr 10 ◌then◌
abbrev pub ◌then◌ : {A B : Type 0} → Reading A → (A → Reading B) → Reading B
(r then f) found = follow (r found) f

-- refused where the test fails
abbrev pub provided : {A : Type 0} → Bool → BindError → Reading A → Reading A
provided true e r = r
provided false e r = refuse e

-- through all items in turn, from a first value on, each with what stands by then
abbrev pub through : {S A : Type 0} → (S → A → Reading S) → List A → S → Reading S
through r [] s = give s
through r (a ∷ more) s = r s a then through r more

-- one more behind those before it
abbrev pub with_next : {A B : Type 0} → (A → Reading B) → List B → A → Reading (List B)
with_next r before a = r a then (λ b. give (before ++ b ∷ []))

-- each in turn
abbrev pub each : {A B : Type 0} → (A → Reading B) → List A → Reading (List B)
each r items = through (with_next r) items []
