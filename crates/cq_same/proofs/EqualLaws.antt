-- Lists of two lengths aren't equal.
use Rattle.std.proofs.Common.{◌≡◌, ◌≢◌, Bool, true, false, ◌&&◌, List, [], ◌∷◌, map, length, refl, ap, suc}
use Rattle.cq_tree.specs.Equal.{equal_each}

and_false : (b : Bool) → (b && false) ≡ false
and_false true = refl
and_false false = refl

pub each_false : {A : Type 0} (f : A → A → Bool) (xs ys : List A) → length xs ≢ length ys → equal_each (map f xs) ys ≡ false
each_false f [] [] h = absurd (h refl)
each_false f [] (y ∷ ys) h = refl
each_false f (x ∷ xs) [] h = refl
each_false f (x ∷ xs) (y ∷ ys) h = rw (each_false f xs ys (λ p. h (ap suc p))) (and_false (f x y))
