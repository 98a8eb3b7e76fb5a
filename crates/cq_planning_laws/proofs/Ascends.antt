-- The value set of each occurrence of a table is in ascending order.
use Rattle.std.proofs.Common.{◌≡◌, ◌+◌, inl, inr, ℕ, Bool, true, false, List, [], ◌∷◌, ◌++◌, filter, filter_map, fold, option_map, nat_eq, nat_lt, if◌then◌else◌, Option, None, Some}
use Rattle.std.specs.List.{AllByRecursion, cons_option, list_any, flat_map}
use Rattle.std.specs.declared.cmp.Ordering.TheVariants.{Less}
use Rattle.cq_value.proofs.Lists.{all_append, all_filtered}
use Rattle.cq_value.proofs.Truths.{two_ways}
use Rattle.cq_value.specs.declared.value.Value.{Value}
use Rattle.cq_value.specs.Order.{value_cmp}
use Rattle.cq_meaning.specs.Groups.{is_known}
use Rattle.cq_meaning.specs.Queries.{columns_in}
use Rattle.cq_meaning.specs.Values.{same_value}
use Rattle.cq_tree.specs.declared.expression.Cond.{Cond}
use Rattle.cq_tree.specs.declared.query.FromTree.{FromTree, Table, Sub', Result, Cross', Inner', Left', end_of-FromTree, more_of-FromTree, end_of-Query, more_of-Query}
use Rattle.cq_tree.specs.declared.query.Query.{Query, Query'}
use Rattle.cq_catalog.specs.Contents.{Contents}
use Rattle.cq_catalog.specs.Placement.{place_at}
use Rattle.cq_catalog.specs.declared.info.Place.{Place}
use Rattle.cq_catalog.specs.declared.info.Place.TheVariants.{Local, Distributed, Reference}
use Rattle.cq_planning.specs.Conjuncts.{conjuncts, conjuncts_of, equalities, in_list, turned_equality}
use Rattle.cq_planning.specs.Classes.{first_of_class}
use Rattle.cq_planning.specs.ValueSets.{known_values, or_else, values_said, sets_said, ValueSet, meet, met_by, value_set, IsAscending, IsAscendingSet}
use Rattle.cq_planning.specs.Relations.{Distribution, partner_of}
use Rattle.cq_planning.specs.Pushable.{Pushable, pushable}
use Rattle.cq_planning.specs.Narrowing.{distribution_in, is_at, met_with, narrowed_by, right_sets, sets_in, given, given_to}
use Rattle.cq_planning.specs.Occurrences.{Occurrence, key_values, occurrences_from, occurrences_in, blocks_of}
use Rattle.cq_planning.proofs.Ascending.{ascends}
use Rattle.cq_planning_laws.specs.Laws.{SetsAscend}

-- a set for one column
abbrev IsFine : ℕ × List Value → Type 0
IsFine k = IsAscending k.1

-- ---- conjuncts

filtered_ascends : (p : Value → Bool) (vs : List Value) → IsAscending vs → IsAscending (filter p vs)
filtered_ascends p [] h = tt
filtered_ascends p (v ∷ vs) h = elim (two_ways (p v)) [
  | inl y ↦ rw y (all_filtered (λ w. value_cmp v w ≡ Less) p vs h.0, filtered_ascends p vs h.1)
  | inr n ↦ rw n (filtered_ascends p vs h.1)
]

meet_ascends : (s t : ValueSet) → IsAscendingSet s → IsAscendingSet t → IsAscendingSet (meet s t)
meet_ascends None t a b = b
meet_ascends (Some vs) None a b = a
meet_ascends (Some vs) (Some ws) a b = filtered_ascends (λ v. list_any (same_value v) ws) vs a

said_ascends : (cs : List Cond) → AllByRecursion IsFine (sets_said cs)
said_ascends [] = tt
said_ascends (c ∷ cs) = with_option (or_else (in_list c) (turned_equality c)) (said_ascends cs)
  where
    with_option : (o : Option (ℕ × List Value)) → AllByRecursion IsFine (filter_map values_said cs) → AllByRecursion IsFine (cons_option (option_map known_values o) (filter_map values_said cs))
    with_option None rest = rest
    with_option (Some p) rest = (ascends (filter is_known p.1), rest)

met_ascends : (first : ℕ → ℕ) (x : ℕ) (sets : List (ℕ × List Value)) (s : ValueSet) → AllByRecursion IsFine sets → IsAscendingSet s → IsAscendingSet (fold (met_by first x) s sets)
met_ascends first x [] s all h = h
met_ascends first x (k ∷ sets) s all h = met_ascends first x sets (met_by first x s k) all.1 (step (nat_eq (first k.0) (first x)))
  where
    step : (b : Bool) → IsAscendingSet (if b then meet s (Some k.1) else s)
    step true = meet_ascends s (Some k.1) h all.0
    step false = h

value_set_ascends : (outer : List (ℕ × List Value)) (cs : List Cond) → AllByRecursion IsFine outer → (x : ℕ) → IsAscendingSet (value_set outer cs x)
value_set_ascends outer cs all x = met_ascends (first_of_class (equalities cs)) x (outer ++ sets_said cs) None (all_append IsFine outer (sets_said cs) all (said_ascends cs)) tt

-- ---- narrowing

abbrev AllAscend : (ℕ → ValueSet) → Type 0
AllAscend sets = (x : ℕ) → IsAscendingSet (sets x)

narrowed_ascends : (left : ℕ → ValueSet) (low high y : ℕ) (pairs : List (ℕ × ℕ)) (s : ValueSet) → AllAscend left → IsAscendingSet s → IsAscendingSet (narrowed_by left low high y s pairs)
narrowed_ascends left low high y [] s all h = h
narrowed_ascends left low high y (e ∷ pairs) s all h = narrowed_ascends left low high y pairs (met_with left (partner_of low high y e) s) all (step (partner_of low high y e))
  where
    step : (o : Option ℕ) → IsAscendingSet (met_with left o s)
    step (Some x) = meet_ascends s (left x) h (all x)
    step None = h

right_ascends : (sets left : ℕ → ValueSet) (d : Option Distribution) (low high : ℕ) (on : Cond) → AllAscend sets → AllAscend left → AllAscend (right_sets sets left d low high on)
right_ascends sets left d low high on all sides y = elim (two_ways (is_at d y)) [
  | inl t ↦ rw t (narrowed_ascends left low high y (equalities (conjuncts on)) (sets y) sides (all y))
  | inr f ↦ rw f (all y)
]

sides_ascend : (a b : ℕ → ValueSet) (mid : ℕ) → AllAscend a → AllAscend b → AllAscend (λ x. if nat_lt x mid then a x else b x)
sides_ascend a b mid f g x = elim (two_ways (nat_lt x mid)) [ inl y ↦ rw y (f x) | inr n ↦ rw n (g x) ]

in_ascends : (c : Contents) (sets : ℕ → ValueSet) (f : FromTree) (start : ℕ) → AllAscend sets → AllAscend (sets_in c sets f start)
in_ascends c sets (Table t n) start h = h
in_ascends c sets (Sub' p q) start h = h
in_ascends c sets (Result i n) start h = h
in_ascends c sets (Cross' p (more_of-FromTree a end_of-FromTree) q (more_of-FromTree b end_of-FromTree)) start h =
    sides_ascend (sets_in c sets a start) (sets_in c sets b (start + columns_in a)) (start + columns_in a) (in_ascends c sets a start h) (in_ascends c sets b (start + columns_in a) h)
in_ascends c sets (Inner' p (more_of-FromTree a end_of-FromTree) q (more_of-FromTree b end_of-FromTree) on) start h =
    sides_ascend (sets_in c sets a start) (sets_in c sets b (start + columns_in a)) (start + columns_in a) (in_ascends c sets a start h) (in_ascends c sets b (start + columns_in a) h)
in_ascends c sets (Left' p (more_of-FromTree a end_of-FromTree) q (more_of-FromTree b end_of-FromTree) on) start h =
    sides_ascend (sets_in c sets a start) (right_sets sets (sets_in c sets a start) (distribution_in c b (start + columns_in a)) start (start + columns_in a) on) (start + columns_in a)
    (in_ascends c sets a start h) (right_ascends sets (sets_in c sets a start) (distribution_in c b (start + columns_in a)) start (start + columns_in a) on h (in_ascends c sets a start h))

given_ascends : (at : ℕ) (s : ValueSet) → IsAscendingSet s → AllByRecursion IsFine (given at s)
given_ascends at None h = tt
given_ascends at (Some vs) h = (h, tt)

given_to_ascends : (sets : ℕ → ValueSet) (start : ℕ) (p : Option Pushable) → AllAscend sets → AllByRecursion IsFine (given_to sets start p)
given_to_ascends sets start None h = tt
given_to_ascends sets start (Some p) h = given_ascends p.column (sets (start + p.output)) (h (start + p.output))

-- ---- occurrences

abbrev HasAscending : Occurrence → Type 0
HasAscending o = IsAscendingSet o.values

key_ascends : (sets : ℕ → ValueSet) (start : ℕ) (p : Place) → AllAscend sets → IsAscendingSet (key_values sets start p)
key_ascends sets start Local h = tt
key_ascends sets start (Distributed at colocation first_shard) h = h (start + at)
key_ascends sets start (Reference group shard) h = tt

module _ (c : Contents) where
  mutual
    from_ascends : (f : FromTree) (sets : ℕ → ValueSet) (start : ℕ) → AllAscend sets → AllByRecursion HasAscending (occurrences_from c sets f start)
    from_ascends (Table t n) sets start h = (key_ascends sets start (place_at c t) h, tt)
    from_ascends (Sub' p (more_of-Query q end_of-Query)) sets start h = query_ascends q (given_to sets start (pushable c q)) (given_to_ascends sets start (pushable c q) h)
    from_ascends (Result i n) sets start h = tt
    from_ascends (Cross' p (more_of-FromTree a end_of-FromTree) q (more_of-FromTree b end_of-FromTree)) sets start h =
        all_append HasAscending (occurrences_from c sets a start) (occurrences_from c sets b (start + columns_in a)) (from_ascends a sets start h) (from_ascends b sets (start + columns_in a) h)
    from_ascends (Inner' p (more_of-FromTree a end_of-FromTree) q (more_of-FromTree b end_of-FromTree) on) sets start h =
        all_append HasAscending (occurrences_from c sets a start) (occurrences_from c sets b (start + columns_in a)) (from_ascends a sets start h) (from_ascends b sets (start + columns_in a) h)
    from_ascends (Left' p (more_of-FromTree a end_of-FromTree) q (more_of-FromTree b end_of-FromTree) on) sets start h =
        let right : ℕ → ValueSet = right_sets sets (sets_in c sets a start) (distribution_in c b (start + columns_in a)) start (start + columns_in a) on in
        all_append HasAscending (occurrences_from c sets a start) (occurrences_from c right b (start + columns_in a)) (from_ascends a sets start h)
        (from_ascends b right (start + columns_in a) (right_ascends sets (sets_in c sets a start) (distribution_in c b (start + columns_in a)) start (start + columns_in a) on h (in_ascends c sets a start h)))

    query_ascends : (q : Query) (outer : List (ℕ × List Value)) → AllByRecursion IsFine outer → AllByRecursion HasAscending (occurrences_in c q outer)
    query_ascends (Query' cs ctes ss subs from filter_ grouped keys aggs having items shown distinct order limit offset names) outer h =
        from_ascends from (value_set outer (conjuncts_of filter_ from)) 0 (value_set_ascends outer (conjuncts_of filter_ from) h)

  blocks_ascend : (blocks : List Query) → AllByRecursion HasAscending (flat_map (λ block. occurrences_in c block []) blocks)
  blocks_ascend [] = tt
  blocks_ascend (q ∷ blocks) = all_append HasAscending (occurrences_in c q []) (flat_map (λ block. occurrences_in c block []) blocks) (query_ascends q [] tt) (blocks_ascend blocks)

pub sets_ascend : SetsAscend
sets_ascend c q = blocks_ascend c (blocks_of q)
