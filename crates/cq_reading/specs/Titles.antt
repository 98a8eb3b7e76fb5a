-- What an expression looks like, as far as that has a meaning of its own: a literal, a number, a bare name, and the name of the
-- output that it makes.
use Rattle.std.specs.Prelude.{ℕ, ℤ, pos, List, codes, bytes_eq, if◌then◌else◌, Option, None, Some}
use Rattle.cq_grammar.specs.declared.expr.AddOperator.{AddOperator}
use Rattle.cq_grammar.specs.declared.expr.Aggregate.{Aggregate}
use Rattle.cq_grammar.specs.declared.expr.Aggregate.TheVariants as aggregate
use Rattle.cq_reading.specs.Rules.{signed_int}

pub data Form : Type 0 where
  Number : ℕ → Form
  Signed : AddOperator → ℕ → Form
  Name : List ℕ → Form
  Other : Form

-- a number with at most one sign before it
abbrev pub literal_of : Form → Option ℤ
literal_of (Number n) = Some (pos n)
literal_of (Signed sign n) = Some (signed_int sign n)
literal_of (Name name) = None
literal_of Other = None

-- the name of an output that has no AS: the column's, the aggregate's, `coalesce`, or `?column?`
abbrev pub no_title : List ℕ
no_title = codes "?column?"

abbrev pub coalesce_title : List ℕ
coalesce_title = codes "coalesce"

abbrev pub count_title : List ℕ
count_title = codes "count"

abbrev pub aggregate_title : Aggregate → List ℕ
aggregate_title aggregate.Count = codes "count"
aggregate_title aggregate.Sum = codes "sum"
aggregate_title aggregate.Min = codes "min"
aggregate_title aggregate.Max = codes "max"

-- a CASE has the name that its ELSE gives, and `case` where that is none
abbrev pub case_title : Option (List ℕ) → List ℕ
case_title None = codes "case"
case_title (Some title) = if bytes_eq title no_title then codes "case" else title
