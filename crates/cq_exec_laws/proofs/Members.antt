-- The values of value sets are literals of conditions: what is so of all these literals is so of all values of the sets.
use Rattle.std.proofs.Common.{◌+◌, inl, inr, ℕ, Bool, true, false, List, [], ◌∷◌, ◌++◌, filter, filter_map, fold, option_map, nat_eq, nat_lt, if◌then◌else◌, Option, None, Some}
use Rattle.std.specs.Prelude.{⊤}
use Rattle.std.specs.List.{AllByRecursion, cons_option, list_any}
use Rattle.std.specs.Ordering.{is_lt}
use Rattle.cq_value.proofs.Lists.{all_append, all_filtered}
use Rattle.cq_value.proofs.Truths.{two_ways}
use Rattle.cq_value.specs.declared.value.Value.{Value}
use Rattle.cq_value.specs.Order.{value_cmp}
use Rattle.cq_meaning.specs.Groups.{is_known}
use Rattle.cq_meaning.specs.Queries.{columns_in}
use Rattle.cq_meaning.specs.Values.{same_value}
use Rattle.cq_tree.specs.declared.expression.Cond.{Cond}
use Rattle.cq_tree.specs.declared.query.FromTree.{FromTree, Table, Sub', Result, Cross', Inner', Left', end_of-FromTree, more_of-FromTree}
use Rattle.cq_catalog.specs.Contents.{Contents}
use Rattle.cq_catalog.specs.declared.info.Place.{Place}
use Rattle.cq_catalog.specs.declared.info.Place.TheVariants.{Local, Distributed, Reference}
use Rattle.cq_planning.specs.Conjuncts.{conjuncts, equalities, in_list, turned_equality}
use Rattle.cq_planning.specs.Classes.{first_of_class}
use Rattle.cq_planning.specs.ValueSets.{put_value, ascending, known_values, or_else, values_said, sets_said, ValueSet, meet, met_by, value_set}
use Rattle.cq_planning.specs.Relations.{Distribution, partner_of}
use Rattle.cq_planning.specs.Pushable.{Pushable}
use Rattle.cq_planning.specs.Narrowing.{distribution_in, is_at, met_with, narrowed_by, right_sets, sets_in, given, given_to}
use Rattle.cq_planning.specs.Occurrences.{key_values}
use Rattle.cq_one_plan.specs.Plans.{output_set}

module _ (P : Value → Type 0) where
  -- a set for one column
  abbrev pub AllIn : ℕ × List Value → Type 0
  AllIn k = AllByRecursion P k.1

  abbrev pub InIf : Option (ℕ × List Value) → Type 0
  InIf None = ⊤
  InIf (Some k) = AllIn k

  -- the values that a condition says of a column
  abbrev pub Says : Cond → Type 0
  Says c = InIf (in_list c) × InIf (turned_equality c)

  abbrev pub InSet : ValueSet → Type 0
  InSet None = ⊤
  InSet (Some vs) = AllByRecursion P vs

  abbrev pub InSets : (ℕ → ValueSet) → Type 0
  InSets sets = (x : ℕ) → InSet (sets x)

  -- ---- conjuncts

  put_in : (v : Value) (vs : List Value) → P v → AllByRecursion P vs → AllByRecursion P (put_value v vs)
  put_in v [] p h = (p, tt)
  put_in v (w ∷ ws) p h = elim (two_ways (same_value v w)) [
    | inl s ↦ rw s h
    | inr d ↦ rw d (elim (two_ways (is_lt (value_cmp v w))) [ inl l ↦ rw l (p, h) | inr g ↦ rw g (h.0, put_in v ws p h.1) ])
  ]

  ascending_in : (vs : List Value) → AllByRecursion P vs → AllByRecursion P (ascending vs)
  ascending_in [] h = tt
  ascending_in (v ∷ vs) h = put_in v (ascending vs) h.0 (ascending_in vs h.1)

  said_in : (cs : List Cond) → AllByRecursion Says cs → AllByRecursion AllIn (sets_said cs)
  said_in [] h = tt
  said_in (c ∷ cs) h = said (in_list c) (turned_equality c) h.0.0 h.0.1 (said_in cs h.1)
    where
      said : (o t : Option (ℕ × List Value)) → InIf o → InIf t → AllByRecursion AllIn (filter_map values_said cs) → AllByRecursion AllIn (cons_option (option_map known_values (or_else o t)) (filter_map values_said cs))
      said (Some k) t h g rest = (ascending_in (filter is_known k.1) (all_filtered P is_known k.1 h), rest)
      said None (Some k) h g rest = (ascending_in (filter is_known k.1) (all_filtered P is_known k.1 g), rest)
      said None None h g rest = rest

  meet_in : (s t : ValueSet) → InSet s → InSet t → InSet (meet s t)
  meet_in None t a b = b
  meet_in (Some vs) None a b = a
  meet_in (Some vs) (Some ws) a b = all_filtered P (λ v. list_any (same_value v) ws) vs a

  met_in : (first : ℕ → ℕ) (x : ℕ) (sets : List (ℕ × List Value)) (s : ValueSet) → AllByRecursion AllIn sets → InSet s → InSet (fold (met_by first x) s sets)
  met_in first x [] s all h = h
  met_in first x (k ∷ sets) s all h = met_in first x sets (met_by first x s k) all.1 (step (nat_eq (first k.0) (first x)))
    where
      step : (b : Bool) → InSet (if b then meet s (Some k.1) else s)
      step true = meet_in s (Some k.1) h all.0
      step false = h

  pub value_set_in : (outer : List (ℕ × List Value)) (cs : List Cond) → AllByRecursion AllIn outer → AllByRecursion Says cs → InSets (value_set outer cs)
  value_set_in outer cs all says x = met_in (first_of_class (equalities cs)) x (outer ++ sets_said cs) None (all_append AllIn outer (sets_said cs) all (said_in cs says)) tt

  -- ---- narrowing

  narrowed_in : (left : ℕ → ValueSet) (low high y : ℕ) (pairs : List (ℕ × ℕ)) (s : ValueSet) → InSets left → InSet s → InSet (narrowed_by left low high y s pairs)
  narrowed_in left low high y [] s all h = h
  narrowed_in left low high y (e ∷ pairs) s all h = narrowed_in left low high y pairs (met_with left (partner_of low high y e) s) all (step (partner_of low high y e))
    where
      step : (o : Option ℕ) → InSet (met_with left o s)
      step (Some x) = meet_in s (left x) h (all x)
      step None = h

  pub right_in : (sets left : ℕ → ValueSet) (d : Option Distribution) (low high : ℕ) (on : Cond) → InSets sets → InSets left → InSets (right_sets sets left d low high on)
  right_in sets left d low high on all sides y = elim (two_ways (is_at d y)) [
    | inl t ↦ rw t (narrowed_in left low high y (equalities (conjuncts on)) (sets y) sides (all y))
    | inr f ↦ rw f (all y)
  ]

  sides_in : (a b : ℕ → ValueSet) (mid : ℕ) → InSets a → InSets b → InSets (λ x. if nat_lt x mid then a x else b x)
  sides_in a b mid f g x = elim (two_ways (nat_lt x mid)) [ inl y ↦ rw y (f x) | inr n ↦ rw n (g x) ]

  pub from_in : (c : Contents) (sets : ℕ → ValueSet) (f : FromTree) (start : ℕ) → InSets sets → InSets (sets_in c sets f start)
  from_in c sets (Table t n) start h = h
  from_in c sets (Sub' p q) start h = h
  from_in c sets (Result i n) start h = h
  from_in c sets (Cross' p (more_of-FromTree a end_of-FromTree) q (more_of-FromTree b end_of-FromTree)) start h =
      sides_in (sets_in c sets a start) (sets_in c sets b (start + columns_in a)) (start + columns_in a) (from_in c sets a start h) (from_in c sets b (start + columns_in a) h)
  from_in c sets (Inner' p (more_of-FromTree a end_of-FromTree) q (more_of-FromTree b end_of-FromTree) on) start h =
      sides_in (sets_in c sets a start) (sets_in c sets b (start + columns_in a)) (start + columns_in a) (from_in c sets a start h) (from_in c sets b (start + columns_in a) h)
  from_in c sets (Left' p (more_of-FromTree a end_of-FromTree) q (more_of-FromTree b end_of-FromTree) on) start h =
      sides_in (sets_in c sets a start) (right_sets sets (sets_in c sets a start) (distribution_in c b (start + columns_in a)) start (start + columns_in a) on) (start + columns_in a)
      (from_in c sets a start h) (right_in sets (sets_in c sets a start) (distribution_in c b (start + columns_in a)) start (start + columns_in a) on h (from_in c sets a start h))

  -- ---- relations

  pub given_in : (sets : ℕ → ValueSet) (start : ℕ) (o : Option Pushable) → InSets sets → AllByRecursion AllIn (given_to sets start o)
  given_in sets start None h = tt
  given_in sets start (Some p) h = one (sets (start + p.output)) (h (start + p.output))
    where
      one : (s : ValueSet) → InSet s → AllByRecursion AllIn (given p.column s)
      one None h = tt
      one (Some vs) h = (h, tt)

  pub key_in : (sets : ℕ → ValueSet) (start : ℕ) (p : Place) → InSets sets → InSet (key_values sets start p)
  key_in sets start Local h = tt
  key_in sets start (Distributed at colocation first_shard) h = h (start + at)
  key_in sets start (Reference group shard) h = tt

  pub output_in : (sets : ℕ → ValueSet) (start : ℕ) (o : Option Pushable) → InSets sets → InSet (output_set sets start o)
  output_in sets start None h = tt
  output_in sets start (Some p) h = h (start + p.output)
