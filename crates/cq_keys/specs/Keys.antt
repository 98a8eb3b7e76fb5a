-- What the hash of a row is made of.
use Rattle.std.specs.Prelude.{◌-◌, ◌^◌, List, bit_and}
use Rattle.std.specs.Int.{w128, cast_unsigned}
use Rattle.std.specs.List.{flat_map}
use Rattle.std.specs.Hash.{HashWrites, u8, u64, str}
use Rattle.cq_value.specs.declared.value.Value.{Value}
use Rattle.cq_value.specs.declared.value.Value.TheVariants.{Null, Int, Text}

-- of a number the lower 64 bits alone
abbrev pub value_writes : Value → HashWrites
value_writes Null = u8 0
value_writes (Int x) = u64 (bit_and (cast_unsigned w128 x) (2 ^ 64 - 1))
value_writes (Text t) = str t

abbrev pub row_writes : List Value → HashWrites
row_writes row = flat_map value_writes row
