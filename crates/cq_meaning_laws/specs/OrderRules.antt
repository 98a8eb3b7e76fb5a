-- What ORDER BY leaves open, and what it doesn't.
use Rattle.std.specs.Prelude.{◌≡◌, ◌↔◌, ℕ, List}
use Rattle.std.specs.declared.cmp.Ordering.TheVariants.{Equal}
use Rattle.std.specs.List.Sorted.{IsPermutation}
use Rattle.std.specs.Cmp.{IsTotalOrder}
use Rattle.cq_tree.specs.declared.query.Key.{Key}
use Rattle.cq_tree.specs.declared.query.Query.{Query}
use Rattle.cq_meaning.specs.Values.{Row, Results, Tables, table_rows, row_cmp}
use Rattle.cq_meaning.specs.Sorting.{keys_cmp}
use Rattle.cq_meaning.specs.Queries.{meaning, AnswersWith}
use Rattle.cq_meaning.specs.Results.{Answers}
use Rattle.cq_meaning_laws.specs.Settled.{AllSettled}

-- the rows in the order of a stable sort are an answer
abbrev pub StableSortAnswers : Type 0
StableSortAnswers = (q : Query) (db : Tables) (results : Results) → AnswersWith q db results (meaning q db results)

-- the order of rows finds two rows equal exactly where they are one row
abbrev pub SameRows : Type 0
SameRows = (x y : Row) → (row_cmp x y ≡ Equal) ↔ (x ≡ y)

-- the order by keys is total
abbrev pub KeysOrder : Type 0
KeysOrder = (keys : List Key) → IsTotalOrder (keys_cmp keys)

-- where no subquery is cut without an order over all its outputs, a statement's answers don't depend on the order of rows in tables
abbrev pub OrderFree : Type 0
OrderFree = (q : Query) → AllSettled q → (db dc : Tables) → ((t : ℕ) → IsPermutation (table_rows db t) (table_rows dc t)) →
    (rows : List Row) → Answers q dc rows → Answers q db rows
