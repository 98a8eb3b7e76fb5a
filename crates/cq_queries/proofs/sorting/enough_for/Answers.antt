use Rattle.std.proofs.Common.{◌≡◌, ℕ, ◌+◌, ◌<◌, ◌^◌, List, take, drop}
use Rattle.std.specs.Prelude.{Option, Some, None, IfSome}
use Rattle.std.specs.Option.{SomeIff}
use Rattle.cq_meaning.specs.Values.{Row}
use Rattle.cq_meaning.specs.Sorting.{limited}
use Rattle.cq_queries.proofs.FirstLaws.{enough}
use Rattle.cq_queries.proofs.sorting.enough_for.Goals as goal

pub returns : goal.returns
returns c = within c.checked_add.result c.checked_add.ensures
  where
    within : (r : Option ℕ) → SomeIff r (c.args.offset + c.in_ok-limit.field-0 < 2 ^ 64) (c.args.offset + c.in_ok-limit.field-0) →
        IfSome r (λ most. (rows : List Row) → limited c.args.limit (drop c.args.offset (take most rows)) ≡ limited c.args.limit (drop c.args.offset rows))
    within None h = tt
    within (Some most) h = enough c.args.limit c.in_ok-limit.field-0 c.args.offset most c.in_ok-limit.was h.1
