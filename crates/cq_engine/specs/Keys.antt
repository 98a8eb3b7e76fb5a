-- The order of rows by a key, and what repeats one.
use Rattle.std.specs.Prelude.{ℕ, ◌+◌, ◌*◌, ◌%◌, ◌^◌, List, [], ◌∷◌, fold, Bool, false, ◌||◌}
use Rattle.std.specs.List.{list_any}
use Rattle.std.specs.Int.{w32, cast_unsigned}
use Rattle.std.specs.declared.cmp.Ordering.{Ordering}
use Rattle.std.specs.declared.cmp.Ordering.TheVariants.{Equal}
use Rattle.std.specs.Ordering.{is_eq, nat_cmp, then_cmp, on}
use Rattle.cq_value.specs.declared.value.Value.{Value}
use Rattle.cq_value.specs.Order.{value_cmp}
use Rattle.cq_value.specs.Placement.{token_of}
use Rattle.cq_meaning.specs.Values.{Row, column}
use Rattle.cq_meaning.specs.Effects.{same_key}

-- rows by the first column of a key, then by the second, and so on
abbrev pub key_order : List ℕ → Row → Row → Ordering
key_order [] = λ x y. Equal
key_order (place ∷ key) = then_cmp (on (λ row. column row place) value_cmp) (key_order key)

-- the number of the values up to one, from the number of those before it
abbrev pub mixed : ℕ → Value → ℕ
mixed number value = (1000003 * number + cast_unsigned w32 (token_of value)) % 2 ^ 32

-- the number that a row's values in a key's columns make, which rows of one key have in common
abbrev pub key_number : List ℕ → Row → ℕ
key_number key row = fold (λ number place. mixed number (column row place)) 0 key

-- a row with its number
abbrev pub Numbered : Type 0
Numbered = ℕ × Row

abbrev pub numbered : List ℕ → Row → Numbered
numbered key row = (key_number key row, row)

-- numbered rows by their numbers, then by the key
abbrev pub number_order : List ℕ → Numbered → Numbered → Ordering
number_order key = then_cmp (on (λ (x : Numbered). x.0) nat_cmp) (on (λ (x : Numbered). x.1) (key_order key))

-- whether it ties them
abbrev pub are_tied : List ℕ → Numbered → Numbered → Bool
are_tied key x y = is_eq (number_order key x y)

-- whether an element is the same as one after it
abbrev pub has_twins : {X : Type 0} → (X → X → Bool) → List X → Bool
has_twins same [] = false
has_twins same (x ∷ xs) = list_any (same x) xs || has_twins same xs

-- whether one of the rows has the key of a row that is there
abbrev pub meets : List ℕ → List Row → List Row → Bool
meets key there rows = list_any (λ row. list_any (same_key key row) there) rows
