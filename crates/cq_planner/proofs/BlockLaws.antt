-- The parts of a block, one after another.
use Rattle.std.proofs.Common.{◌≡◌, List, [], ◌∷◌, ◌++◌, filter_map, Option, arith}
use Rattle.std.specs.Option.{option_to_list}
use Rattle.std.proofs.lemmas.Grind.{common_steps}
use Rattle.std.proofs.lemmas.List.Elements.{filter_map-append}
use Rattle.cq_one_plan.specs.declared.plan.Part.{Part}

pub filter_push : {B : Type 0} (f : Part → Option B) (xs : List Part) (x : Part) (ys zs : List B) → ys ≡ filter_map f xs → zs ≡ ys ++ option_to_list (f x) → zs ≡ filter_map f (xs ++ x ∷ [])
filter_push f xs x ys zs h e = grind (arith, common_steps, filter_map-append)
