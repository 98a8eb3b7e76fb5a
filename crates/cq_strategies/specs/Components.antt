-- The components of a block as code holds them, and the marks by which it finds the classes that they share.
use Rattle.std.specs.Prelude.{◌≡◌, ◌<◌, ℕ, List, [], ◌∷◌, ◌++◌, fold, length, Bool, false, ◌||◌, nat_eq, if◌then◌else◌, Option, None, Some, min, slice_index_or, refl, ⊤}
use Rattle.std.specs.Coded.{Coded, code_by, coded×, coded_ℕ, coded_list}
use Rattle.cq_catalog.specs.Contents.{Contents}
use Rattle.cq_planning.specs.Relations.{Distribution}
use Rattle.cq_planning.specs.Touched.{among}
use Rattle.cq_relations.specs.Codes.{distribution_code}
use Rattle.cq_outline.specs.Joining.{Component}

-- how a component is stored
abbrev pub component_code : Coded Component
component_code = code_by (Distribution × List ℕ) (coded× distribution_code (coded_list coded_ℕ)) (λ p. (p.home, p.columns)) (λ p. record { home = p.0; columns = p.1 }) (λ _. refl)

-- a component with the columns of another
abbrev pub united : Component → Component → Component
united q p = record { home = q.home; columns = q.columns ++ p.columns }

-- the co-location group of a component is one of the catalogue's
abbrev pub IsThere : Contents → Component → Type 0
IsThere c p = p.home.colocation < length c.colocations

abbrev pub AreThere : Contents → List Component → Type 0
AreThere c [] = ⊤
AreThere c (p ∷ ps) = IsThere c p × AreThere c ps

-- whether a number has a mark
abbrev pub mark_at : List Bool → ℕ → Bool
mark_at marks k = slice_index_or marks k false

-- two lists of marks say the same
abbrev pub AreSame : List Bool → List Bool → Type 0
AreSame old new = (k : ℕ) → mark_at new k ≡ mark_at old k

-- marks with one number more
abbrev pub IsMarked : List Bool → ℕ → List Bool → Type 0
IsMarked old n new = (k : ℕ) → mark_at new k ≡ (mark_at old k || nat_eq k n)

-- marks are on these numbers
abbrev pub AreOn : List ℕ → List Bool → Type 0
AreOn classes marks = (k : ℕ) → mark_at marks k ≡ among k classes

-- the lesser of two, where there is one
abbrev pub least_of : Option ℕ → ℕ → Option ℕ
least_of None x = Some x
least_of (Some y) x = Some (min y x)

-- the least marked class so far, with that of a column
abbrev pub with_class : (ℕ → ℕ) → List Bool → Option ℕ → ℕ → Option ℕ
with_class first marks least x = if mark_at marks (first x) then least_of least (first x) else least

-- the least marked class of columns
abbrev pub least_marked : (ℕ → ℕ) → List Bool → List ℕ → Option ℕ
least_marked first marks columns = fold (with_class first marks) None columns
