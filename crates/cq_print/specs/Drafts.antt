-- What a draft has, and what a call writes into it.
use Rattle.std.specs.Prelude.{Bool, true, false, ◌≡◌, ◌⊎◌, ◌++◌}
use Rattle.cq_grammar.specs.Spelling.{Kinds}

-- the tokens that are written, unless some are missing for want of memory
pub record Written : Type 0 where
  pub failed : Bool
  pub kinds : Kinds

-- these tokens were written behind the others
abbrev pub Wrote : Written → Kinds → Written → Type 0
Wrote old more new = (new.failed ≡ true) ⊎ ((old.failed ≡ false) × (new.kinds ≡ old.kinds ++ more))

-- of the tokens that are to be written, these are left
abbrev pub Left : Written → Kinds → Written → Kinds → Type 0
Left old all new left = (new.failed ≡ true) ⊎ ((old.failed ≡ false) × (old.kinds ++ all ≡ new.kinds ++ left))
