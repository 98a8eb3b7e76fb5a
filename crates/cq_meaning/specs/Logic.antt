-- SQL's three-valued logic (PostgreSQL, "Logical Operators", "Comparison Functions and Operators").
use Rattle.std.specs.Prelude.{List, [], ◌∷◌, Bool, true, false, Option, None, Some}
use Rattle.std.specs.declared.cmp.Ordering.{Ordering}
use Rattle.std.specs.declared.cmp.Ordering.TheVariants.{Less, Equal, Greater}
use Rattle.cq_value.specs.Order.{compared}
use Rattle.cq_value.specs.declared.value.Value.{Value}
use Rattle.cq_value.specs.declared.value.Value.TheVariants.{Null, Int, Text}
use Rattle.cq_value.specs.declared.value.Truth.{Truth}
use Rattle.cq_value.specs.declared.value.Truth.TheVariants.{Yes, No, Unknown}
use Rattle.cq_tree.specs.declared.expression.Op.{Op}
use Rattle.cq_tree.specs.declared.expression.Op.TheVariants.{Eq, Ne, Lt, Le, Gt, Ge}
use Rattle.cq_meaning.specs.Values.{Row, column}

abbrev pub and_of : Truth → Truth → Truth
and_of Yes b = b
and_of No b = No
and_of Unknown Yes = Unknown
and_of Unknown No = No
and_of Unknown Unknown = Unknown

abbrev pub or_of : Truth → Truth → Truth
or_of Yes b = Yes
or_of No b = b
or_of Unknown Yes = Yes
or_of Unknown No = Unknown
or_of Unknown Unknown = Unknown

abbrev pub not_of : Truth → Truth
not_of Yes = No
not_of No = Yes
not_of Unknown = Unknown

-- what WHERE, ON and HAVING keep
abbrev pub is_yes : Truth → Bool
is_yes Yes = true
is_yes No = false
is_yes Unknown = false

-- whether two values in this order meet the sign
abbrev pub meets : Op → Ordering → Truth
meets Eq Equal = Yes
meets Eq _ = No
meets Ne Equal = No
meets Ne _ = Yes
meets Lt Less = Yes
meets Lt _ = No
meets Le Greater = No
meets Le _ = Yes
meets Gt Greater = Yes
meets Gt _ = No
meets Ge Less = No
meets Ge _ = Yes

-- the same of values that may have no order, because one is NULL
abbrev pub met : Op → Option Ordering → Truth
met op None = Unknown
met op (Some o) = meets op o

-- IS NULL, which is never unknown
abbrev pub null_test : Value → Truth
null_test Null = Yes
null_test (Int x) = No
null_test (Text t) = No

-- `x = y`
abbrev pub equals : Value → Value → Truth
equals x y = met Eq (compared x y)

-- IN: `x = y` for one of the rows, each of one column (PostgreSQL, "Subquery Expressions"). So it is unknown where none
-- equals x, but x or one of them is NULL
abbrev pub among : Value → List Row → Truth
among x [] = No
among x (row ∷ rows) = or_of (equals x (column row 0)) (among x rows)
