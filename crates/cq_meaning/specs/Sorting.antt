-- ORDER BY, LIMIT and OFFSET (PostgreSQL, "Sorting Rows", "LIMIT and OFFSET"): NULL is greater than every other value.
use Rattle.std.specs.Prelude.{ℕ, List, [], ◌∷◌, map, take, drop, Bool, true, false, if◌then◌else◌, Option, None, Some}
use Rattle.std.specs.declared.cmp.Ordering.{Ordering}
use Rattle.std.specs.declared.cmp.Ordering.TheVariants.{Equal}
use Rattle.std.specs.Ordering.{then_cmp, flip_args, on, is_lt}
use Rattle.cq_value.specs.Order.{value_cmp}
use Rattle.cq_tree.specs.declared.query.Key.{Key}
use Rattle.cq_meaning.specs.Values.{Row, column}

-- the order, or its reverse
abbrev pub directed : {X : Type 0} → Bool → (X → X → Ordering) → X → X → Ordering
directed false cmp = cmp
directed true cmp = flip_args cmp

-- rows by the item of a key
abbrev pub key_cmp : Key → Row → Row → Ordering
key_cmp k = directed k.descending (on (λ row. column row k.item) value_cmp)

-- rows by the first key, then by the second, and so on
abbrev pub keys_cmp : List Key → Row → Row → Ordering
keys_cmp [] = λ x y. Equal
keys_cmp (k ∷ ks) = then_cmp (key_cmp k) (keys_cmp ks)

-- before all that aren't below it
abbrev pub placed : {X : Type 0} → (X → X → Bool) → X → List X → List X
placed lt x [] = x ∷ []
placed lt x (y ∷ ys) = if lt y x then y ∷ placed lt x ys else x ∷ (y ∷ ys)

-- the stable sort
abbrev pub sorted_by : {X : Type 0} → (X → X → Bool) → List X → List X
sorted_by lt [] = []
sorted_by lt (x ∷ xs) = placed lt x (sorted_by lt xs)

abbrev pub sorted : {X : Type 0} → (X → X → Ordering) → List X → List X
sorted cmp xs = sorted_by (λ x y. is_lt (cmp x y)) xs

abbrev pub limited : Option ℕ → List Row → List Row
limited None rows = rows
limited (Some n) rows = take n rows

-- what OFFSET and then LIMIT leave, without the items that only ORDER BY has
abbrev pub cut : ℕ → Option ℕ → ℕ → List Row → List Row
cut shown limit offset rows = map (λ row. take shown row) (limited limit (drop offset rows))
