-- Facts on truth values.
use Rattle.std.proofs.Common.{◌≡◌, Bool, true, false, ◌&&◌, refl, arith}

pub no_truth : false ≡ true → ⊥
no_truth e = grind arith
