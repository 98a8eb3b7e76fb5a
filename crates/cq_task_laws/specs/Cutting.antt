-- A FROM whose relations are whole or cut: where its rows stand, and what the FROMs of tasks give.
use Rattle.std.specs.Prelude.{◌≡◌, ℕ, ◌+◌, List, [], ◌∷◌, ◌++◌, length, filter, take, drop, replicate, ⊤, Bool, true, not, ◌&&◌, ◌||◌, ◌⊎◌, nat_eq}
use Rattle.std.specs.List.Sorted.{IsPermutation}
use Rattle.cq_value.specs.declared.value.Value.TheVariants.{Null}
use Rattle.cq_meaning.specs.Lists.{Has}
use Rattle.cq_meaning.specs.Values.{Row}
use Rattle.cq_meaning.specs.Joins.{product, left_join}

-- a relation of a FROM
pub record Relation : Type 0 where
  pub width : ℕ
  pub rows : List Row  -- all its rows
  pub at : ℕ → List Row  -- those that a task of an index reads
  pub cut : Bool  -- whether tasks of different indices read different rows
  pub home : Row → ℕ  -- the index at which a row stands, where it is cut

-- relations that are joined. A product is a join whose condition is true of all rows
pub data Joins : Type 0 where
  only : Relation → Joins
  inner : (Row → Bool) → Joins → Joins → Joins
  left : (Row → Bool) → Joins → Relation → Joins

abbrev pub width_of : Joins → ℕ
width_of (only r) = r.width
width_of (inner on a b) = width_of a + width_of b
width_of (left on a r) = width_of a + r.width

-- the joined rows
abbrev pub all_rows : Joins → List Row
all_rows (only r) = r.rows
all_rows (inner on a b) = filter on (product (all_rows a) (all_rows b))
all_rows (left on a r) = left_join on r.width (all_rows a) r.rows

-- those of a task of an index
abbrev pub rows_at : Joins → ℕ → List Row
rows_at (only r) i = r.at i
rows_at (inner on a b) i = filter on (product (rows_at a i) (rows_at b i))
rows_at (left on a r) i = left_join on r.width (rows_at a i) (r.at i)

-- whether a row stands at an index: a whole relation's rows stand at each
abbrev pub is_here : Relation → ℕ → Row → Bool
is_here r i x = not r.cut || nat_eq (r.home x) i

-- a task of an index reads the rows that stand there
abbrev pub Fits : Relation → List ℕ → Type 0
Fits r indices = ((x : Row) → Has r.rows x → length x ≡ r.width) × ((i : ℕ) → Has indices i → IsPermutation (r.at i) (filter (is_here r i) r.rows))

abbrev pub AllFit : Joins → List ℕ → Type 0
AllFit (only r) indices = Fits r indices
AllFit (inner on a b) indices = AllFit a indices × AllFit b indices
AllFit (left on a r) indices = AllFit a indices × Fits r indices

-- a candidate: a row of each relation, or NULLs for the right side of a LEFT JOIN, that meet the ONs
abbrev pub IsChoice : Joins → Row → Type 0
IsChoice (only r) x = Has r.rows x
IsChoice (inner on a b) x = (l : Row) × (y : Row) × IsChoice a l × IsChoice b y × (on (l ++ y) ≡ true) × (x ≡ l ++ y)
IsChoice (left on a r) x = (l : Row) × (y : Row) × IsChoice a l × ((y ≡ replicate r.width Null) ⊎ (Has r.rows y × (on (l ++ y) ≡ true))) × (x ≡ l ++ y)

-- whether the rows from relations that aren't right sides stand at an index
abbrev pub stands : Joins → ℕ → Row → Bool
stands (only r) i x = is_here r i x
stands (inner on a b) i x = stands a i (take (width_of a) x) && stands b i (drop (width_of a) x)
stands (left on a r) i x = stands a i (take (width_of a) x)

-- all rows of cut right sides that meet their ON with the left rows stand at an index
abbrev pub RightsStand : Joins → ℕ → Row → Type 0
RightsStand (only r) i x = ⊤
RightsStand (inner on a b) i x = RightsStand a i (take (width_of a) x) × RightsStand b i (drop (width_of a) x)
RightsStand (left on a r) i x =
    RightsStand a i (take (width_of a) x)
    × (r.cut ≡ true → (y : Row) → Has r.rows y → on (take (width_of a) x ++ y) ≡ true → r.home y ≡ i)

-- each candidate that is kept stands at one of the indices and at no other, with all that its LEFT JOINs match
abbrev pub Located : Joins → (Row → Bool) → List ℕ → Type 0
Located f keep indices = (x : Row) → IsChoice f x → keep x ≡ true →
    (i : ℕ) × Has indices i × ((j : ℕ) → Has indices j → stands f j x ≡ nat_eq j i) × RightsStand f i x

abbrev pub AreDistinct : List ℕ → Type 0
AreDistinct [] = ⊤
AreDistinct (i ∷ more) = (Has more i → ⊥) × AreDistinct more
