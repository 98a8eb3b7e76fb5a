-- Subplans: the CTEs and IN subqueries of a statement, each computed by a plan of its own (Citus, "Query Processing").
use Rattle.std.specs.Prelude.{◌≡◌, List, [], ◌∷◌, slice_set, true, ◌⊎◌}
use Rattle.cq_meaning.specs.Values.{Row, Results, Tables}
use Rattle.cq_meaning.specs.Queries.{AnswersWith}
use Rattle.cq_meaning.specs.Limits.{is_large}
use Rattle.cq_meaning_laws.specs.WholeRules.{Step}

-- the results after steps, each of which gave rows that are an answer of it over the results before it
abbrev pub AreAnswered : Tables → Results → List Step → Results → Type 0
AreAnswered db results [] all = all ≡ results
AreAnswered db results (s ∷ more) all = (rows : List Row) × AnswersWith s.query db results rows × AreAnswered db (slice_set results s.number rows) more all

-- one of the steps has a group that is too large, over such results of the steps before it
abbrev pub HasLarge : Tables → Results → List Step → Type 0
HasLarge db results [] = ⊥
HasLarge db results (s ∷ more) = (is_large s.query db results ≡ true) ⊎ ((rows : List Row) × AnswersWith s.query db results rows × HasLarge db (slice_set results s.number rows) more)
