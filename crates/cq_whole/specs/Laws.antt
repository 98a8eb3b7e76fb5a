-- The laws on whole statements.
use Rattle.std.specs.Prelude.{◌≡◌, List, true}
use Rattle.std.specs.List.{AllByRecursion}
use Rattle.cq_tree.specs.declared.query.Query.{Query}
use Rattle.cq_meaning.specs.Values.{Row, Tables, table_rows}
use Rattle.cq_meaning.specs.Results.{results_of, Answers}
use Rattle.cq_meaning.specs.Limits.{is_large}
use Rattle.cq_meaning_laws.specs.WholeRules.{steps_of, no_results, has_large_step}
use Rattle.cq_whole.specs.Tables.{tables_of_statement}

-- a statement's results, its answers and its large groups depend on the rows of the tables that it reads alone
abbrev pub TablesSuffice : Type 0
TablesSuffice = (q : Query) (db dc : Tables) → AllByRecursion (λ t. table_rows db t ≡ table_rows dc t) (tables_of_statement q) →
    (results_of q db ≡ results_of q dc)
    × ((rows : List Row) → Answers q dc rows → Answers q db rows)
    × (has_large_step dc (no_results q) (steps_of q) ≡ true → has_large_step db (no_results q) (steps_of q) ≡ true)
    × (is_large q dc (results_of q dc) ≡ true → is_large q db (results_of q db) ≡ true)
