-- Where the bytes of a text lie.
use Rattle.std.specs.Prelude.{List, ℕ, string_bytes}
use Rattle.cq_value.specs.declared.text.Bytes.{Bytes}
use Rattle.cq_value.specs.declared.text.Bytes.TheVariants.{Short, Long}

abbrev pub bytes_in : Bytes → List ℕ
bytes_in (Short bytes) = bytes
bytes_in (Long string) = string_bytes string
