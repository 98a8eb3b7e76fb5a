-- The first column of each column's class, as a list.
use Rattle.std.specs.Prelude.{ℕ, zero, suc, ◌+◌, min, max, List, [], ◌∷◌, ◌++◌, map, fold, slice_index_or, if◌then◌else◌, nat_eq}

-- the numbers below a number
abbrev pub up_to : ℕ → List ℕ
up_to zero = []
up_to (suc n) = up_to n ++ n ∷ []

-- the first column of a column's class: a column past the end is alone in its class
abbrev pub label : List ℕ → ℕ → ℕ
label labels column = slice_index_or labels column column

-- how many columns the equalities reach over
abbrev pub columns_of : List (ℕ × ℕ) → ℕ
columns_of pairs = fold (λ n e. max n (max e.0 e.1 + 1)) 0 pairs

abbrev pub relabelled : ℕ → ℕ → ℕ → ℕ
relabelled high low first = if nat_eq first high then low else first

-- labels after an equality: the lesser of two labels stands for both
abbrev pub merged_labels : List ℕ → ℕ × ℕ → List ℕ
merged_labels labels e =
    let a = label labels e.0 in
    let b = label labels e.1 in
    map (relabelled (max a b) (min a b)) labels
