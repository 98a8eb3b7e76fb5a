-- What conjuncts claim of one column, where they make no two columns equal: by their equalities, and by the sets that they say.
use Rattle.std.specs.Prelude.{◌≡◌, ⊤, ℕ, List, [], ◌∷◌, filter, nat_eq}
use Rattle.cq_value.specs.declared.value.Value.{Value}
use Rattle.cq_plan.specs.declared.claims.Claim.{Claim}
use Rattle.cq_plan.specs.declared.claims.Claim.TheVariants.{Nothing, One, Unclear}

-- the sets that are said of a column
abbrev pub said_of : ℕ → List (ℕ × List Value) → List (ℕ × List Value)
said_of column sets = filter (λ (p : ℕ × List Value). nat_eq p.0 column) sets

-- no two columns are equal, and these sets are said of the column
pub record Says (column : ℕ) (pairs : List (ℕ × ℕ)) (sets own : List (ℕ × List Value)) : Type 0 where
  pub plain : pairs ≡ []
  pub alone : said_of column sets ≡ own

-- what a claim promises
abbrev pub Promises : ℕ → List (ℕ × ℕ) → List (ℕ × List Value) → Claim → Type 0
Promises column pairs sets Nothing = Says column pairs sets []
Promises column pairs sets (One value) = Says column pairs sets ((column, value.now ∷ []) ∷ [])
Promises column pairs sets Unclear = ⊤
