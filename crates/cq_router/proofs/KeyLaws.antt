-- The value set of a column, by what code makes of conjuncts.
use Rattle.std.proofs.Common.{◌≡◌, ℕ, List, [], ◌++◌, ap, ◌∙◌}
use Rattle.cq_value.specs.declared.value.Value.{Value}
use Rattle.cq_tree.specs.declared.expression.Cond.{Cond}
use Rattle.cq_planning.specs.Conjuncts.{equalities}
use Rattle.cq_planning.specs.Classes.{first_of_class}
use Rattle.cq_planning.specs.ValueSets.{class_set, sets_said, value_set}

pub set_is : (first : ℕ → ℕ) (said : List (ℕ × List Value)) (cs : List Cond) (x : ℕ) → first ≡ first_of_class (equalities cs) → said ≡ [] ++ sets_said cs → class_set first said x ≡ value_set [] cs x
set_is first said cs x e f = ap (λ (k : ℕ → ℕ). class_set k said x) e ∙ ap (λ (s : List (ℕ × List Value)). class_set (first_of_class (equalities cs)) s x) f
