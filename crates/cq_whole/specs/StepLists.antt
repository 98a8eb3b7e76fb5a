-- The steps of the queries that stand in a tree, as lists, as code sees them.
use Rattle.std.specs.Prelude.{ℕ, ◌+◌, List, [], ◌∷◌, ◌++◌}
use Rattle.cq_tree.specs.declared.query.Query.{Query}
use Rattle.cq_meaning.specs.Results.{ins_in}
use Rattle.cq_meaning_laws.specs.WholeRules.{Step, steps_in}

abbrev pub ins_in_list : List Query → ℕ
ins_in_list [] = 0
ins_in_list (q ∷ more) = 1 + ins_in q + ins_in_list more

abbrev pub steps_in_list : ℕ → List Query → List Step
steps_in_list k [] = []
steps_in_list k (q ∷ more) = steps_in (k + 1) q ++ (record { number = k; query = q } ∷ steps_in_list (k + 1 + ins_in q) more)

abbrev pub ins_in_cte_list : List Query → ℕ
ins_in_cte_list [] = 0
ins_in_cte_list (q ∷ more) = ins_in q + ins_in_cte_list more

abbrev pub steps_in_cte_list : ℕ → ℕ → List Query → List Step
steps_in_cte_list i k [] = []
steps_in_cte_list i k (q ∷ more) = steps_in k q ++ (record { number = i; query = q } ∷ steps_in_cte_list (i + 1) (k + ins_in q) more)
