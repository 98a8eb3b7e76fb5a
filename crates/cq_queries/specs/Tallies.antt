-- Aggregates over the rows so far, and one row more.
use Rattle.std.specs.Prelude.{pos, ◌+ℤ◌, List, if◌then◌else◌}
use Rattle.cq_value.specs.declared.value.Value.{Value}
use Rattle.cq_value.specs.declared.value.Value.TheVariants.{Null, Int, Text}
use Rattle.cq_tree.specs.declared.query.Agg.{Agg}
use Rattle.cq_tree.specs.declared.query.Agg.TheVariants as agg
use Rattle.cq_meaning.specs.Values.{Row, Results}
use Rattle.cq_meaning.specs.Expressions.{value_of}
use Rattle.cq_meaning.specs.Groups.{is_known, added, lesser_of, greater_of, aggregate}
use Rattle.cq_meaning.specs.Safety.{Fits, IsSafe}

-- an aggregate, and what it comes to
abbrev pub Tally : Type 0
Tally = Agg × Value

abbrev pub tally_over : Results → List Row → Agg → Tally
tally_over results rows a = (a, aggregate results rows a)

abbrev pub one_more : Value → Value
one_more (Int n) = Int (n +ℤ pos 1)
one_more Null = Null
one_more (Text t) = Null

-- one more, where a value isn't NULL
abbrev pub counted : Value → Value → Value
counted n v = if is_known v then one_more n else n

-- what an aggregate comes to with one row more
abbrev pub with_row : Results → Row → Agg → Value → Value
with_row results row agg.CountAll v = one_more v
with_row results row (agg.Count e) v = counted v (value_of e row results)
with_row results row (agg.Sum e) v = added v (value_of e row results)
with_row results row (agg.Min e) v = lesser_of v (value_of e row results)
with_row results row (agg.Max e) v = greater_of v (value_of e row results)

abbrev pub tally_with : Results → Row → Tally → Tally
tally_with results row t = (t.0, with_row results row t.0 t.1)

-- what that needs: a count and a sum fit
abbrev pub CanTake : Results → Row → Agg → Value → Type 0
CanTake results row agg.CountAll v = Fits (one_more v)
CanTake results row (agg.Count e) v = IsSafe e row results × Fits (one_more v)
CanTake results row (agg.Sum e) v = IsSafe e row results × Fits (added v (value_of e row results))
CanTake results row (agg.Min e) v = IsSafe e row results
CanTake results row (agg.Max e) v = IsSafe e row results

abbrev pub CanTally : Results → Row → Tally → Type 0
CanTally results row t = CanTake results row t.0 t.1
