-- Places in lists of later parts, over the trees themselves.
use Rattle.std.specs.Prelude.{ℕ, List, ◌/◌, length, slice_get, Option, None, Some}
use Rattle.cq_grammar.specs.declared.expr.Chained.{Chained, out-Chained}

abbrev pub word_of : Option Chained → ℕ
word_of None = 0
word_of (Some c) = (out-Chained c).at

-- the word in the middle of a chain's later parts
abbrev pub word_amid : List Chained → ℕ
word_amid rest = word_of (slice_get rest (length rest / 2))
