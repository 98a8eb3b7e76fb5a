-- The steps in which repartition joins the components of a block.
use Rattle.std.specs.Prelude.{ℕ, zero, suc, ◌-◌, List, [], ◌∷◌, ◌++◌, map, filter, fold, length, min, Bool, if◌then◌else◌, Option, None, Some, slice_get}
use Rattle.std.specs.List.{list_any}
use Rattle.cq_tree.specs.declared.plan.Step.TheVariants.{Single, Dual}
use Rattle.cq_tree.specs.declared.query.Query.{Query}
use Rattle.cq_catalog.specs.Contents.{Contents, count_in}
use Rattle.cq_planning.specs.Classes.{first_of_class}
use Rattle.cq_planning.specs.Relations.{Distribution, Relation, distribution_of, is_plain}
use Rattle.cq_planning.specs.Components.{is_one_class, is_one_component}
use Rattle.cq_planning.specs.Joins.{equalities_of, relations_of, width_of, next_start}
use Rattle.cq_planning.specs.Touched.{numbers}
use Rattle.cq_outline.specs.declared.joining.Joined.{Joined}

-- ---- components

-- distributed relations that are co-located: the distribution column of the first, and the columns of all
pub record Component : Type 0 where
  pub home : Distribution
  pub columns : List ℕ

-- one relation, whose columns end where the next begins
abbrev pub alone : Relation → ℕ → Component
alone r end = record { home = distribution_of r; columns = numbers r.start (end - r.start) }

module _ (first : ℕ → ℕ) where
  -- a relation put to its component, or last
  abbrev pub put_component : List Component → Component → List Component
  put_component [] p = p ∷ []
  put_component (q ∷ qs) p = if is_one_component first q.home p.home then record { home = q.home; columns = q.columns ++ p.columns } ∷ qs else q ∷ put_component qs p

  -- the components so far, with those of these relations
  abbrev pub components_with : ℕ → List Component → List Relation → List Component
  components_with width found [] = found
  components_with width found (r ∷ rs) = components_with width (if is_plain r then put_component found (alone r (next_start width rs)) else found) rs

  -- ---- classes

  -- whether the class of a column has one of these
  abbrev pub has_class : ℕ → List ℕ → Bool
  has_class x columns = list_any (is_one_class first x) columns

  -- the lesser of two, where there is one
  abbrev pub lesser : Option ℕ → ℕ → Option ℕ
  lesser None x = Some x
  lesser (Some y) x = Some (min y x)

  -- the class that has columns of both, by its first column: of several the one whose first column is least
  abbrev pub shared_class : List ℕ → List ℕ → Option ℕ
  shared_class xs ys = fold lesser None (map first (filter (λ x. has_class x ys) xs))

-- ---- steps

-- how many ranges a co-location group has
abbrev pub ranges_of : Contents → Distribution → ℕ
ranges_of c d = count_in (slice_get c.colocations d.colocation)

abbrev pub started : Contents → Component → Joined
started c p = record { columns = p.columns; class = p.home.column; count = ranges_of c p.home; steps = [] }

-- joined with one more component, where this is the first class that both share: its side alone is split into the present ranges, or what is joined
-- into the component's, or both into as many buckets as there are ranges
abbrev pub joined_with : (ℕ → ℕ) → Contents → Joined → Component → ℕ → Joined
joined_with first c j p shared =
    if has_class first j.class p.columns then record { columns = j.columns ++ p.columns; class = j.class; count = j.count; steps = j.steps ++ Single ∷ [] } else
    (if has_class first p.home.column j.columns then record { columns = j.columns ++ p.columns; class = p.home.column; count = ranges_of c p.home; steps = j.steps ++ Single ∷ [] } else
    record { columns = j.columns ++ p.columns; class = shared; count = j.count; steps = j.steps ++ Dual ∷ [] })

-- the first component that shares a class with what is joined, the first such class, and the other components
pub record Next : Type 0 where
  pub component : Component
  pub class : ℕ
  pub others : List Component

-- with one more component before the others
abbrev pub behind : Component → Option Next → Option Next
behind p (Some n) = Some (record { component = n.component; class = n.class; others = p ∷ n.others })
behind p None = None

abbrev pub next_if : Component → List Component → Option Next → Option ℕ → Option Next
next_if p ps later (Some class) = Some (record { component = p; class = class; others = ps })
next_if p ps later None = behind p later

abbrev pub next_of : (ℕ → ℕ) → List ℕ → List Component → Option Next
next_of first columns [] = None
next_of first columns (p ∷ ps) = next_if p ps (next_of first columns ps) (shared_class first columns p.columns)

abbrev pub if_next : Option Next → (Next → Joined) → Joined → Joined
if_next (Some n) go stay = go n
if_next None go stay = stay

-- so many components joined, one after the other, as long as one shares a class
abbrev pub join_all : (ℕ → ℕ) → Contents → ℕ → Joined → List Component → Joined
join_all first c zero j ps = j
join_all first c (suc more) j ps = if_next (next_of first j.columns ps) (λ n. join_all first c more (joined_with first c j n.component n.class) n.others) j

-- nothing is joined
abbrev pub nothing_joined : Joined
nothing_joined = record { columns = []; class = 0; count = 0; steps = [] }

-- the join of these components begins with the first
abbrev pub join_of : (ℕ → ℕ) → Contents → List Component → Joined
join_of first c [] = nothing_joined
join_of first c (p ∷ ps) = join_all first c (length ps) (started c p) ps

-- the join of a block's components, in the order of its FROM
abbrev pub joined_in : Contents → Query → Joined
joined_in c q = let first = first_of_class (equalities_of q) in join_of first c (components_with first (width_of q) [] (relations_of c q))
