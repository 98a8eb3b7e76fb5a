-- The value for which a text stands in a column of a type (PostgreSQL, "Numeric Types").
use Rattle.std.specs.Prelude.{ℕ, ℤ, pos, negsuc, neg_ℤ, ◌+◌, ◌*◌, ◌-◌, ◌^◌, Bool, false, ◌&&◌, ◌||◌, ◌==◌, nat_lt, if◌then◌else◌, List, [], ◌∷◌, take, drop, fold, Option, Some, None, option_map}
use Rattle.std.specs.List.{prefix_len, list_all}
use Rattle.std.specs.Char.{is_ascii_digit}
use Rattle.std.specs.Str.{is_utf8}
use Rattle.cq_value.specs.declared.value.Value.{Value}
use Rattle.cq_value.specs.declared.value.Value.TheVariants.{Int, Text}
use Rattle.cq_value.specs.declared.schema.Kind.{Kind}
use Rattle.cq_value.specs.declared.schema.Kind.TheVariants as kind

abbrev pub is_space : ℕ → Bool
is_space b = b == 32

abbrev pub with_digit : ℕ → ℕ → ℕ
with_digit n digit = 10 * n + (digit - 48)

-- one digit or more, and then nothing but spaces
unfoldable pub magnitude : List ℕ → Option ℕ
magnitude text =
    let digits = prefix_len is_ascii_digit text in
    if nat_lt 0 digits && list_all is_space (drop digits text) then Some (fold with_digit 0 (take digits text)) else None

-- whether a minus, 45, is the first byte
abbrev pub is_negative : List ℕ → Bool
is_negative [] = false
is_negative (b ∷ bs) = b == 45

-- what stands behind a minus or a plus, 43, if one is there
abbrev pub unsigned : List ℕ → List ℕ
unsigned [] = []
unsigned (b ∷ bs) = if b == 45 || b == 43 then bs else b ∷ bs

abbrev pub with_sign : Bool → ℕ → ℤ
with_sign negative n = if negative then neg_ℤ (pos n) else pos n

abbrev pub signed : List ℕ → Option ℤ
signed text = option_map (with_sign (is_negative text)) (magnitude (unsigned text))

-- a number: spaces, a sign or none, digits, and spaces
abbrev pub number : List ℕ → Option ℤ
number text = signed (drop (prefix_len is_space text) text)

-- whether a number lies from -limit to limit - 1
abbrev pub in_range : ℕ → ℤ → Bool
in_range limit (pos n) = nat_lt n limit
in_range limit (negsuc n) = nat_lt n limit

-- the number, where it lies in that range
abbrev pub within : ℕ → Option ℤ → Option Value
within limit None = None
within limit (Some x) = if in_range limit x then Some (Int x) else None

-- the value of a text in a column of this type, if it has one
unfoldable pub value_in : Kind → List ℕ → Option Value
value_in kind.Bigint text = within (2 ^ 63) (number text)
value_in kind.Integer text = within (2 ^ 31) (number text)
value_in kind.Text text = if is_utf8 text then Some (Text text) else None
