-- Why a call of the catalogue is refused.
use Rattle.std.specs.Prelude.{◌≡◌, ◌⊎◌, List, [], ◌∷◌, Option, Some, None}
use Rattle.cq_catalog.specs.declared.error.CatalogError.{CatalogError}
use Rattle.cq_catalog.specs.declared.error.CatalogError.TheVariants.{Memory}

-- the first that there is, of several in their order
abbrev pub first_of : {X : Type 0} → List (Option X) → Option X
first_of [] = None
first_of (None ∷ rest) = first_of rest
first_of (Some x ∷ rest) = Some x

-- the error is this refusal, or want of memory, which may come at any call that takes memory
abbrev pub IsCause : CatalogError → Option CatalogError → Type 0
IsCause e refusal = (e ≡ Memory) ⊎ (refusal ≡ Some e)
