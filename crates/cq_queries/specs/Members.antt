-- IN over values, and what of it a set of the values tells.
use Rattle.std.specs.Prelude.{◌≡◌, List, [], ◌∷◌, map, Bool, true, false}
use Rattle.std.specs.List.{list_any}
use Rattle.std.specs.HashSet.{HashSet, contains}
use Rattle.cq_value.specs.declared.value.Value.{Value}
use Rattle.cq_value.specs.declared.value.Value.TheVariants.{Null, Int, Text}
use Rattle.cq_value.specs.declared.value.Truth.{Truth}
use Rattle.cq_value.specs.declared.value.Truth.TheVariants.{Yes, No, Unknown}
use Rattle.cq_meaning.specs.Logic.{or_of, equals, is_yes}
use Rattle.cq_meaning.specs.Values.{Row, column, same_value}
use Rattle.cq_queries.specs.declared.operand.Operand.{Operand}
use Rattle.cq_queries.specs.Operands.{owned, same_operand}

-- the values of the first column
abbrev pub first_column : List Row → List Value
first_column rows = map (λ row. column row 0) rows

-- `x = y` for one of the values
abbrev pub among_values : Value → List Value → Truth
among_values x [] = No
among_values x (y ∷ ys) = or_of (equals x y) (among_values x ys)

abbrev pub is_number : Value → Bool
is_number Null = false
is_number (Int x) = true
is_number (Text t) = false

abbrev pub is_text : Value → Bool
is_text Null = false
is_text (Int x) = false
is_text (Text t) = true

abbrev pub is_unknown : Truth → Bool
is_unknown Yes = false
is_unknown No = false
is_unknown Unknown = true

-- whether it is true of one of them
abbrev pub are_found : Value → List Value → Bool
are_found x ys = list_any (λ y. is_yes (equals x y)) ys

-- whether it is unknown of one of them: x or it is NULL, or they are of two sorts
abbrev pub are_unsure : Value → List Value → Bool
are_unsure x ys = list_any (λ y. is_unknown (equals x y)) ys

-- the set has the values, and no others
abbrev pub AreMembers : {S : Type 0} → List Value → HashSet Operand S → Type 0
AreMembers values set = (q : Operand) → contains same_operand set q ≡ list_any (same_value (owned q)) values

-- true where it is of one of the values, and else unknown where it is of one of them
abbrev pub verdict : Bool → Bool → Truth
verdict true unsure = Yes
verdict false true = Unknown
verdict false false = No
