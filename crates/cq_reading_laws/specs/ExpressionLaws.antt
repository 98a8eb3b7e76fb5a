-- What makes sure that no expression overflows: what the walk lets through is what the engine asks for.
use Rattle.std.specs.Prelude.{◌≡◌, ℕ, ◌≤◌, true, false, List, Ok}
use Rattle.cq_grammar.specs.declared.expr.Expr.{Expr}
use Rattle.cq_reading.specs.declared.bound.Found.{Found}
use Rattle.cq_reading.specs.declared.bound.Bound.{Bound}
use Rattle.cq_reading.specs.Scopes.{Context}
use Rattle.cq_reading.specs.Expressions.{reads}
use Rattle.cq_reading.specs.Walk.{part_of}
use Rattle.cq_reading_laws.specs.Bounds.{Stands, HaveBits, MayStand, Onward, bits_in}
use Rattle.cq_reading_laws.specs.Written.{written_expr}

-- the walk over an expression only adds results, and none where no SELECT may stand
abbrev pub ResultsGrow : Type 0
ResultsGrow = (cx : Context) (x : Expr) (found new : Found) (b : Bound) → reads (part_of x) cx found ≡ Ok (b, new) →
    (found.results ≤ new.results) × (cx.may_select ≡ false → new.results ≡ found.results)

-- an expression that is read without grouping stands over the columns in reach and all results that there are then
abbrev pub ExpressionsBound : Type 0
ExpressionsBound = (ks : List ℕ) (cx : Context) (x : Expr) (found new : Found) (b : Bound) (n : ℕ) →
    written_expr x ≡ true → HaveBits ks cx → cx.grouped ≡ false → cx.may_aggregate ≡ false → reads (part_of x) cx found ≡ Ok (b, new) → new.results ≤ n → Stands ks n b

-- in a query that groups, over its keys and its aggregates, whatever is found later
abbrev pub GroupedBound : Type 0
GroupedBound = (ks : List ℕ) (cx : Context) (x : Expr) (found new : Found) (b : Bound) →
    written_expr x ≡ true → HaveBits ks cx → MayStand cx (part_of x).aggregates → reads (part_of x) cx found ≡ Ok (b, new) →
    Onward ks found new × ((later : Found) → Onward ks new later → Stands (bits_in ks cx later.aggs) later.results b)
