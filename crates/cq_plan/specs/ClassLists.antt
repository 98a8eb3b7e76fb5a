-- The classes of a query's columns, as lists.
use Rattle.std.specs.Prelude.{ℕ, List, map, filter, nat_eq}
use Rattle.cq_tree.specs.declared.query.Query.{Query, Query'}
use Rattle.cq_meaning.specs.Queries.{columns_in}
use Rattle.cq_planning.specs.Conjuncts.{conjuncts_of, equalities}
use Rattle.cq_planning.specs.Classes.{first_of_class}
use Rattle.cq_shape.specs.Labels.{up_to}

-- the columns, among so many, of the class of a first column
abbrev pub members : (ℕ → ℕ) → ℕ → ℕ → List ℕ
members first count x = filter (λ y. nat_eq (first y) x) (up_to count)

-- the classes of so many columns, each ascending, in the order of their first columns
abbrev pub classes_by : (ℕ → ℕ) → ℕ → List (List ℕ)
classes_by first count = map (members first count) (filter (λ x. nat_eq (first x) x) (up_to count))

-- those of the columns of a query's FROM
abbrev pub classes_of : Query → List (List ℕ)
classes_of (Query' cs ctes ss subs from filter_ grouped keys aggs having items shown distinct order limit offset names) =
    classes_by (first_of_class (equalities (conjuncts_of filter_ from))) (columns_in from)
