-- An operand is the value that it borrows.
use Rattle.std.specs.Prelude.{Bool}
use Rattle.cq_value.specs.declared.value.Value.{Value}
use Rattle.cq_value.specs.declared.value.Value.TheVariants.{Null, Int, Text}
use Rattle.cq_meaning.specs.Values.{same_value}
use Rattle.cq_queries.specs.declared.operand.Operand.{Operand}
use Rattle.cq_queries.specs.declared.operand.Operand.TheVariants as operand

abbrev pub owned : Operand → Value
owned operand.Null = Null
owned (operand.Int n) = Int n
owned (operand.Text t) = Text t.now

abbrev pub same_operand : Operand → Operand → Bool
same_operand a b = same_value (owned a) (owned b)
