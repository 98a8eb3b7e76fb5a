-- What a claim of a column says of its value set.
use Rattle.std.proofs.Common.{◌≡◌, ℕ, true, false, cond, List, [], ◌∷◌, fold, Some, None, nat_eq, refl, sym, ap, ◌∙◌, arith}
use Rattle.cq_value.specs.declared.value.Value.{Value}
use Rattle.cq_tree.specs.declared.expression.Cond.{Cond}
use Rattle.cq_planning.specs.Conjuncts.{equalities}
use Rattle.cq_planning.specs.Classes.{first_of_class, itself}
use Rattle.cq_planning.specs.ValueSets.{ValueSet, meet, met_by, class_set, sets_said, value_set}
use Rattle.cq_plan.specs.Claims.{said_of, Says}

-- where no columns are equal, only the sets that are said of the column count
own_alone : (x : ℕ) (s : ValueSet) (sets : List (ℕ × List Value)) → fold (met_by itself x) s sets ≡ fold (met_by itself x) s (said_of x sets)
own_alone x s [] = refl
own_alone x s (k ∷ ks) = elim (nat_eq k.0 x) as (λ b. nat_eq k.0 x ≡ b → fold (met_by itself x) (cond b (meet s (Some k.1)) s) ks ≡ fold (met_by itself x) s (cond b (k ∷ said_of x ks) (said_of x ks))) [
  | true ↦ (λ e. own_alone x (meet s (Some k.1)) ks ∙ ap (λ b. fold (met_by itself x) (cond b (meet s (Some k.1)) s) (said_of x ks)) (sym e))
  | false ↦ (λ e. own_alone x s ks)
] refl

itself_equal : (x : ℕ) → nat_eq x x ≡ true
itself_equal x = grind arith

one_set : (x : ℕ) (v : Value) → fold (met_by itself x) None ((x, v ∷ []) ∷ []) ≡ Some (v ∷ [])
one_set x v = rw (itself_equal x) refl

pub one_value : (x : ℕ) (cs : List Cond) (v : Value) → Says x (equalities cs) (sets_said cs) ((x, v ∷ []) ∷ []) → value_set [] cs x ≡ Some (v ∷ [])
one_value x cs v says =
    ap (λ pairs. class_set (first_of_class pairs) (sets_said cs) x) says.plain
    ∙ (own_alone x None (sets_said cs) ∙ (ap (λ (sets : List (ℕ × List Value)). fold (met_by itself x) None sets) says.alone ∙ one_set x v))
