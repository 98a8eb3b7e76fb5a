-- The value set of a class of columns: the values that its columns can have in a row that is kept.
use Rattle.std.specs.Prelude.{◌≡◌, ⊤, ℕ, List, [], ◌∷◌, ◌++◌, filter, filter_map, fold, Bool, true, false, if◌then◌else◌, nat_eq, Option, None, Some, option_map}
use Rattle.std.specs.List.{list_any, AllByRecursion}
use Rattle.std.specs.declared.cmp.Ordering.TheVariants.{Less}
use Rattle.std.specs.Ordering.{is_lt}
use Rattle.cq_value.specs.declared.value.Value.{Value}
use Rattle.cq_value.specs.declared.value.Value.TheVariants.{Null, Int, Text}
use Rattle.cq_value.specs.Order.{value_cmp}
use Rattle.cq_meaning.specs.Values.{same_value}
use Rattle.cq_meaning.specs.Groups.{is_known}
use Rattle.cq_tree.specs.declared.expression.Cond.{Cond}
use Rattle.cq_planning.specs.Conjuncts.{equalities, in_list, turned_equality}
use Rattle.cq_planning.specs.Classes.{first_of_class}

-- ---- what conjuncts say

-- a value at its place among ascending ones, unless it is there
abbrev pub put_value : Value → List Value → List Value
put_value v [] = v ∷ []
put_value v (w ∷ ws) = if same_value v w then w ∷ ws else (if is_lt (value_cmp v w) then v ∷ (w ∷ ws) else w ∷ put_value v ws)

-- values in ascending order, each once
abbrev pub ascending : List Value → List Value
ascending [] = []
ascending (v ∷ vs) = put_value v (ascending vs)

-- ascending values, each once
abbrev pub IsAscending : List Value → Type 0
IsAscending [] = ⊤
IsAscending (v ∷ vs) = AllByRecursion (λ w. value_cmp v w ≡ Less) vs × IsAscending vs

-- NULL is left out
abbrev pub known_values : ℕ × List Value → ℕ × List Value
known_values p = (p.0, ascending (filter is_known p.1))

-- the first, or the second where there is no first
abbrev pub or_else : {X : Type 0} → Option X → Option X → Option X
or_else (Some x) o = Some x
or_else None o = o

-- the column and the values of `x = literal`, `literal = x` and `x IN (literals)`
abbrev pub values_said : Cond → Option (ℕ × List Value)
values_said c = option_map known_values (or_else (in_list c) (turned_equality c))

-- those of all conjuncts that are such
abbrev pub sets_said : List Cond → List (ℕ × List Value)
sets_said cs = filter_map values_said cs

-- ---- sets

-- ascending values, or None for all values
abbrev pub ValueSet : Type 0
ValueSet = Option (List Value)

-- all values, or ascending ones
abbrev pub IsAscendingSet : ValueSet → Type 0
IsAscendingSet None = ⊤
IsAscendingSet (Some vs) = IsAscending vs

-- what two sets have in common
abbrev pub meet : ValueSet → ValueSet → ValueSet
meet None t = t
meet (Some vs) None = Some vs
meet (Some vs) (Some ws) = Some (filter (λ v. list_any (same_value v) ws) vs)

-- the set of a column's class, met with a set that is said of another column, where that is of the class
abbrev pub met_by : (ℕ → ℕ) → ℕ → ValueSet → ℕ × List Value → ValueSet
met_by first x s k = if nat_eq (first k.0) (first x) then meet s (Some k.1) else s

-- what all sets that are said of columns of its class have in common
abbrev pub class_set : (ℕ → ℕ) → List (ℕ × List Value) → ℕ → ValueSet
class_set first sets x = fold (met_by first x) None sets

-- the value set of the class of a column, by the sets that are given from outside and by conjuncts
abbrev pub value_set : List (ℕ × List Value) → List Cond → ℕ → ValueSet
value_set outer cs = class_set (first_of_class (equalities cs)) (outer ++ sets_said cs)

-- whether a value is in a set. NULL is in no set but that of all values
abbrev pub has_value : ValueSet → Value → Bool
has_value None v = true
has_value (Some vs) Null = false
has_value (Some vs) (Int n) = list_any (same_value (Int n)) vs
has_value (Some vs) (Text t) = list_any (same_value (Text t)) vs
