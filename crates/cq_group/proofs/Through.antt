-- A list whose elements are changed one after another.
use Rattle.std.proofs.Common.{◌≡◌, ℕ, zero, suc, ◌+◌, ◌<◌, List, [], ◌∷◌, length, get_or, sym, subst, add-one, arith}
use Rattle.std.proofs.Math.ListN.{set}
use Rattle.std.specs.List.{AllZip}
use Rattle.cq_group.specs.Calls.{IsThrough}
use Rattle.cq_group.proofs.Zips.{zip_refl}

through_suc : {X : Type 0} (R : X → X → Type 0) (n : ℕ) (xs ys : List X) (y z : X) → IsThrough R n xs ys → n < length ys → y ≡ get_or ys n y → R y z →
    IsThrough R (suc n) xs (set ys n z)
through_suc R n xs [] y z h low is r = absurd (omega arith)
through_suc R zero [] (w ∷ ys) y z h low is r = absurd (cc (h.rest))
through_suc R zero (x ∷ xs) (w ∷ ys) y z h low is r =
    let same : w ∷ ys ≡ x ∷ xs = h.rest in
    record { done = (subst (λ v. R v z) (let e : y ≡ x = cc in e) r, tt); rest = let e : ys ≡ xs = cc in e }
through_suc R (suc n) [] (w ∷ ys) y z h low is r = absurd (h.done)
through_suc R (suc n) (x ∷ xs) (w ∷ ys) y z h low is r =
    let k = through_suc R n xs ys y z (record { done = h.done.1; rest = h.rest }) (omega arith) is r in
    record { done = (h.done.0, k.done); rest = k.rest }

pub through_more : {X : Type 0} (R : X → X → Type 0) (n : ℕ) (xs ys : List X) (y z : X) → IsThrough R n xs ys → n < length ys → y ≡ get_or ys n y → R y z →
    IsThrough R (n + 1) xs (set ys n z)
through_more R n xs ys y z h low is r = rw add-one (through_suc R n xs ys y z h low is r)

-- all elements are related where those that are still to come are related to themselves
pub through_both : {X : Type 0} (R S : X → X → Type 0) → ((x y : X) → R x y → S x y) → ((x : X) → S x x) → (n : ℕ) (xs ys : List X) → IsThrough R n xs ys → AllZip S xs ys
through_both R S f r zero xs ys k = subst (λ zs. AllZip S xs zs) (let e : xs ≡ ys = sym k.rest in e) (zip_refl S r xs)
through_both R S f r (suc n) [] [] k = tt
through_both R S f r (suc n) [] (y ∷ ys) k = absurd (k.done)
through_both R S f r (suc n) (x ∷ xs) [] k = absurd (k.done)
through_both R S f r (suc n) (x ∷ xs) (y ∷ ys) k = (f x y k.done.0, through_both R S f r n xs ys (record { done = k.done.1; rest = k.rest }))
