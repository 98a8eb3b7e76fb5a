-- When several things are so at once.
use Rattle.std.proofs.Common.{◌≡◌, List, [], ◌∷◌, map, Bool, true, ◌&&◌, Option, Some, None, refl, ap₂}
use Rattle.std.specs.List.{AllByRecursion}
use Rattle.cq_reading_laws.specs.Written.{all, is_some}
use Rattle.cq_reading_laws.proofs.WrittenPieces.{IfThere, Some-of-them}
use Rattle.cq_reading_laws.proofs.WrittenNodes.{if_there}

abbrev pub IsTrue : {A : Type 0} → (A → Bool) → A → Type 0
IsTrue f a = f a ≡ true

pub both_true : {a b : Bool} → a ≡ true → b ≡ true → (a && b) ≡ true
both_true h k = ap₂ (λ i j. i && j) h k

module _ {A : Type 0} (f : A → Bool) where
  pub all_true : (l : List A) → AllByRecursion (IsTrue f) l → all (map f l) ≡ true
  all_true [] h = refl
  all_true (a ∷ l) h = both_true h.0 (all_true l h.1)

  pub some_true : (l : List A) → Some-of-them (IsTrue f) l → (is_some (map f l) && all (map f l)) ≡ true
  some_true [] h = absurd h
  some_true (a ∷ l) h = both_true h.0 (all_true l h.1)

  pub all_of_some : (l : List A) → Some-of-them (IsTrue f) l → all (map f l) ≡ true
  all_of_some [] h = absurd h
  all_of_some (a ∷ l) h = both_true h.0 (all_true l h.1)

  pub there_true : (o : Option A) → IfThere (IsTrue f) o → if_there f o ≡ true
  there_true None h = refl
  there_true (Some a) h = h
