-- Of no rows none is met.
use Rattle.std.proofs.Common.{◌≡◌, ℕ, List, [], ◌∷◌, length, false, refl, sym, arith}
use Rattle.std.proofs.lemmas.List.Folds.{list_any_none}
use Rattle.cq_value.specs.declared.value.Value.{Value}
use Rattle.cq_value.specs.Tables.{Pair}
use Rattle.cq_store.specs.Stores.{meets_one, meets_any}

pub none_met : (pairs : List Pair) (key : List ℕ) (rows : List (List Value)) → length pairs ≡ 0 → false ≡ meets_any pairs key rows
none_met [] key rows none = sym (list_any_none (meets_one [] key) rows (λ k d below. refl))
none_met (pair ∷ pairs) key rows none = absurd (omega (arith, none))
