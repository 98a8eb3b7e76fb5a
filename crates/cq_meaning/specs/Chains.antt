-- Conditions that AND or OR joins, as trees of halves: the first n - n / 2 of n and the last n / 2, again and again.
use Rattle.std.specs.Prelude.{ℕ, zero, suc, ◌-◌, ◌/◌, Bool, true, false, List, [], ◌∷◌, length, take, drop}
use Rattle.cq_tree.specs.declared.expression.Cond.{Cond, And, Or, Always}

abbrev pub joined_by : Bool → Cond → Cond → Cond
joined_by true c d = Or c d
joined_by false c d = And c d

-- at most so many times
abbrev pub halves : ℕ → Bool → List Cond → Cond
halves most any [] = Always
halves most any (c ∷ []) = c
halves zero any (c ∷ d ∷ more) = Always
halves (suc most) any (c ∷ d ∷ more) =
    let cs = c ∷ d ∷ more in let n = length cs in
    joined_by any (halves most any (take (n - n / 2) cs)) (halves most any (drop (n - n / 2) cs))

abbrev pub halved : Bool → List Cond → Cond
halved any cs = halves (length cs) any cs
