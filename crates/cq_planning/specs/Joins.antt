-- Which joins of a block there is no plan for: those of several components, and LEFT JOINs that aren't co-located.
use Rattle.std.specs.Prelude.{ℕ, ◌-◌, List, [], ◌∷◌, ◌++◌, map, Bool, true, not, ◌&&◌, if◌then◌else◌, None}
use Rattle.std.specs.List.{list_any, list_all}
use Rattle.cq_tree.specs.declared.query.Query.{Query, Query'}
use Rattle.cq_meaning.specs.Queries.{columns_in}
use Rattle.cq_catalog.specs.Contents.{Contents}
use Rattle.cq_planning.specs.Conjuncts.{conjuncts_of, equalities}
use Rattle.cq_planning.specs.Classes.{first_of_class}
use Rattle.cq_planning.specs.Relations.{Distribution, Relation, distribution_of, distributions, is_plain}
use Rattle.cq_planning.specs.Components.{is_one_class, is_one_component, is_loose}
use Rattle.cq_planning.specs.Pushable.{relations}
use Rattle.cq_planning.specs.Touched.{numbers}
use Rattle.cq_planning.specs.Blocks.{is_taken_whole}

-- ---- components

-- the columns `x = y` that a query's conjuncts say are equal
abbrev pub equalities_of : Query → List (ℕ × ℕ)
equalities_of (Query' cs ctes ss subs from filter_ grouped keys aggs having items shown distinct order limit offset names) = equalities (conjuncts_of filter_ from)

-- the relations of its FROM
abbrev pub relations_of : Contents → Query → List Relation
relations_of c (Query' cs ctes ss subs from filter_ grouped keys aggs having items shown distinct order limit offset names) = relations c from 0 None

-- how many columns its FROM has
abbrev pub width_of : Query → ℕ
width_of (Query' cs ctes ss subs from filter_ grouped keys aggs having items shown distinct order limit offset names) = columns_in from

-- the distribution columns of the distributed relations that aren't right sides, which form the components
abbrev pub plain_in : Contents → Query → List Distribution
plain_in c q = distributions is_plain (relations_of c q)

-- whether all of them are in one component with the first
abbrev pub are_one_component : (ℕ → ℕ) → List Distribution → Bool
are_one_component first [] = true
are_one_component first (d ∷ ds) = list_all (is_one_component first d) ds

abbrev pub has_several_components : Contents → Query → Bool
has_several_components c q = not (are_one_component (first_of_class (equalities_of q)) (plain_in c q))

-- ---- shared classes

-- where the next relation begins, or the FROM ends
abbrev pub next_start : ℕ → List Relation → ℕ
next_start width [] = width
next_start width (r ∷ rs) = r.start

-- a relation's distribution column with each of its columns, which end where the next relation begins
abbrev pub own_pairs : Relation → ℕ → List (ℕ × ℕ)
own_pairs r end = if is_plain r then map (λ x. ((distribution_of r).column, x)) (numbers r.start (end - r.start)) else []

-- those of each relation that is in a component
abbrev pub pairs_of_each : ℕ → List Relation → List (ℕ × ℕ)
pairs_of_each width [] = []
pairs_of_each width (r ∷ rs) = own_pairs r (next_start width rs) ++ pairs_of_each width rs

-- whether all these columns are of one class with the first
abbrev pub are_one_class : (ℕ → ℕ) → List Distribution → Bool
are_one_class first [] = true
are_one_class first (d ∷ ds) = list_all (λ (e : Distribution). is_one_class first d.column e.column) ds

-- whether shared classes connect the components. Relations of one component share the class of their distribution columns, so that relations
-- can stand for components; and they are connected where all their columns are of one class, once the columns of each are taken as equal
abbrev pub are_connected : Contents → Query → Bool
are_connected c q = are_one_class (first_of_class (equalities_of q ++ pairs_of_each (width_of q) (relations_of c q))) (plain_in c q)

-- ---- blocks

-- a block that isn't taken whole has several components, shared classes connect them all, and repartition is off (U1)
abbrev pub needs_repartition : Bool → Contents → Query → Bool
needs_repartition repartition c q = not (is_taken_whole c q) && (has_several_components c q && (are_connected c q && not repartition))

-- such a block has several components that shared classes don't connect (U2)
abbrev pub lacks_equality : Contents → Query → Bool
lacks_equality c q = not (is_taken_whole c q) && (has_several_components c q && not (are_connected c q))

-- such a block has a LEFT JOIN with distributed relations on both sides that isn't co-located (U3)
abbrev pub has_loose_join : Contents → Query → Bool
has_loose_join c q = not (is_taken_whole c q) && list_any (is_loose (first_of_class (equalities_of q)) (relations_of c q)) (relations_of c q)
