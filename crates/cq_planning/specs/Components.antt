-- Components, and co-located LEFT JOINs, by the first column of each class.
use Rattle.std.specs.Prelude.{ℕ, List, [], ◌∷◌, ◌++◌, fold, Bool, false, not, ◌&&◌, ◌||◌, if◌then◌else◌, nat_eq, Option, None, Some}
use Rattle.std.specs.List.{list_any}
use Rattle.cq_planning.specs.Relations.{Distribution, Relation, distribution_of, distributions, is_distributed, is_right, is_plain, is_left_in_block, partners}

module _ (first : ℕ → ℕ) where
  -- whether two columns are of one class
  abbrev pub is_one_class : ℕ → ℕ → Bool
  is_one_class x y = nat_eq (first x) (first y)

  -- whether there is a column, and it is of the class of `at`
  abbrev pub is_of_class : ℕ → Option ℕ → Bool
  is_of_class at (Some x) = is_one_class x at
  is_of_class at None = false

  -- whether two distributed relations are in one component
  abbrev pub is_one_component : Distribution → Distribution → Bool
  is_one_component a b = nat_eq a.colocation b.colocation && is_one_class a.column b.column

  -- whether a column of a left side is located there: it is in the class of the distribution column of a relation that isn't a right side,
  -- or the distribution column of an earlier co-located right side, in this co-location group
  abbrev pub is_located : List Relation → List Distribution → ℕ → ℕ → Bool
  is_located rels earlier colocation x =
      list_any (λ (d : Distribution). nat_eq d.colocation colocation && is_one_class d.column x) (distributions is_plain rels)
      || list_any (λ (d : Distribution). nat_eq d.colocation colocation && nat_eq d.column x) earlier

  -- the co-located right sides so far, and this relation where it is one
  abbrev pub with_colocated : List Relation → List Distribution → Relation → List Distribution
  with_colocated rels earlier r =
      if is_distributed r && list_any (is_located rels earlier (distribution_of r).colocation) (partners r r.outer) then earlier ++ distribution_of r ∷ [] else earlier

  -- the right sides of co-located LEFT JOINs, from left to right
  abbrev pub colocated : List Relation → List Distribution
  colocated rels = fold (with_colocated rels) [] rels

  -- a right side that stays in its block and whose LEFT JOIN isn't co-located
  abbrev pub is_loose : List Relation → Relation → Bool
  is_loose rels r = is_left_in_block rels r && (is_right r && not (list_any (λ (d : Distribution). nat_eq d.column (distribution_of r).column) (colocated rels)))
