-- What a sign before an expression looks like.
use Rattle.cq_grammar.specs.declared.expr.AddOperator.{AddOperator}
use Rattle.cq_reading.specs.Titles as title
use Rattle.cq_reading.specs.Titles.{Form}

abbrev pub signed_form : AddOperator → Form → Form
signed_form sign (title.Number n) = title.Signed sign n
signed_form sign _ = title.Other
