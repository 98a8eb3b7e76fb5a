-- Types and widths of values. A value of width w lies from -2^(w-1) to 2^(w-1), and no width is above 127.
use Rattle.std.specs.Prelude.{ℕ, ◌+◌, ◌-◌, max, nat_le, Bool, true, false, List, [], ◌∷◌, Option, None, Some}
use Rattle.cq_value.specs.declared.value.Value.TheVariants as value
use Rattle.cq_value.specs.declared.schema.Kind.{Kind}
use Rattle.cq_value.specs.declared.schema.Kind.TheVariants as kind
use Rattle.cq_tree.specs.declared.expression.Expr.{Expr, Literal}
use Rattle.cq_tree.specs.declared.expression.Cond.{Cond, Always}
use Rattle.cq_meaning.specs.Widths.{digits_in}
use Rattle.cq_reading.specs.declared.bound.Type as declared
use Rattle.cq_reading.specs.declared.bound.Type.TheVariants as type
use Rattle.cq_reading.specs.declared.bound.Bound.{Bound}
use Rattle.cq_reading.specs.declared.bound.Bound.TheVariants.{Value, Truth}

abbrev pub ValueType : Type 0
ValueType = declared.Type

abbrev pub null_expr : Expr
null_expr = Literal value.Null

abbrev pub expr_of : Bound → Expr
expr_of (Value e t w) = e
expr_of (Truth c) = null_expr

abbrev pub type_of : Bound → ValueType
type_of (Value e t w) = t
type_of (Truth c) = type.Null

abbrev pub width_of : Bound → ℕ
width_of (Value e t w) = w
width_of (Truth c) = 0

abbrev pub cond_of : Bound → Cond
cond_of (Value e t w) = Always
cond_of (Truth c) = c

abbrev pub is_truth : Bound → Bool
is_truth (Value e t w) = false
is_truth (Truth c) = true

abbrev pub is_value : Bound → Bool
is_value (Value e t w) = true
is_value (Truth c) = false

-- NULL fits where a number is taken
abbrev pub is_number_type : ValueType → Bool
is_number_type type.Number = true
is_number_type type.Null = true
is_number_type type.Text = false

abbrev pub is_number : Bound → Bool
is_number (Value e t w) = is_number_type t
is_number (Truth c) = false

-- the type of values of these two, if they can be compared
abbrev pub common : ValueType → ValueType → Option ValueType
common type.Null t = Some t
common t type.Null = Some t
common type.Number type.Number = Some type.Number
common type.Text type.Text = Some type.Text
common _ _ = None

abbrev pub common_with : Option ValueType → Bound → Option ValueType
common_with (Some t) (Value e u w) = common t u
common_with _ _ = None

-- the type of all of these, if they have one
abbrev pub common_from : Option ValueType → List Bound → Option ValueType
common_from t [] = t
common_from t (b ∷ bs) = common_from (common_with t b) bs

abbrev pub common_of : List Bound → Option ValueType
common_of bs = common_from (Some type.Null) bs

abbrev pub is_some : {A : Type 0} → Option A → Bool
is_some None = false
is_some (Some a) = true

-- whether all of these can be compared with each other
abbrev pub agree : List Bound → Bool
agree bs = is_some (common_of bs)

abbrev pub are_alike : Bound → Bound → Bool
are_alike a b = agree (a ∷ b ∷ [])

-- the least w for which n is at most 2^(w-1) - 1
abbrev pub literal_width : ℕ → ℕ
literal_width n = digits_in 64 n + 1

abbrev pub null_width : ℕ
null_width = 1

abbrev pub kind_type : Kind → ValueType
kind_type kind.Bigint = type.Number
kind_type kind.Integer = type.Number
kind_type kind.Text = type.Text

abbrev pub kind_width : Kind → ℕ
kind_width kind.Bigint = 64
kind_width kind.Integer = 32
kind_width kind.Text = 0

abbrev pub count_width : ℕ
count_width = 32

abbrev pub sum_width : ℕ → ℕ → ℕ
sum_width v w = max v w + 1

abbrev pub product_width : ℕ → ℕ → ℕ
product_width v w = v + w - 1

-- of a sum over at most 2^31 values
abbrev pub total_width : ℕ → ℕ
total_width w = w + 31

abbrev pub greatest_width : List Bound → ℕ
greatest_width [] = 0
greatest_width (b ∷ bs) = max (width_of b) (greatest_width bs)

abbrev pub fits_width : ℕ → Bool
fits_width w = nat_le w 127
