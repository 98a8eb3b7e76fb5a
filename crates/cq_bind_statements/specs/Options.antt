-- Parts of calls.
use Rattle.std.specs.Prelude.{pos, ◌^◌, nat_lt, Some}
use Rattle.cq_grammar.specs.declared.statement.Literal.{Literal}
use Rattle.cq_reading.specs.declared.bound.Options.{Options}
use Rattle.cq_reading.specs.declared.error.BindError.TheVariants as error
use Rattle.cq_reading.specs.Steps.{Reading, give, provided}
use Rattle.cq_reading.specs.Statements.{number_in}

abbrev pub with_count : Options → Literal → Reading Options
with_count o v = provided (nat_lt (number_in v) (2 ^ 32)) (error.OutOfRange (pos (number_in v)) (pos 1) (pos 128)) (give (record { count = Some (number_in v); with = o.with }))
