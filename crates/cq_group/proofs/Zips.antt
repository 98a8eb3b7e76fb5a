-- Two lists whose elements are related place by place.
use Rattle.std.proofs.Common.{◌≡◌, inl, inr, ℕ, zero, suc, ◌<◌, List, [], ◌∷◌, ◌++◌, length, map, get_or, Result, Ok, Err, IfOk, OnOk, OnErr, refl, ap, subst, arith}
use Rattle.std.proofs.Math.ListN.{set}
use Rattle.std.specs.List.{AllZip, AllByRecursion, flat_map}
use Rattle.cq_group.specs.Calls.{SomeZip}

pub zip_refl : {X : Type 0} (R : X → X → Type 0) → ((x : X) → R x x) → (xs : List X) → AllZip R xs xs
zip_refl R r [] = tt
zip_refl R r (x ∷ xs) = (r x, zip_refl R r xs)

pub zip_weaker : {X : Type 0} (R S : X → X → Type 0) → ((x y : X) → R x y → S x y) → (xs ys : List X) → AllZip R xs ys → AllZip S xs ys
zip_weaker R S f [] [] h = tt
zip_weaker R S f [] (y ∷ ys) h = absurd h
zip_weaker R S f (x ∷ xs) [] h = absurd h
zip_weaker R S f (x ∷ xs) (y ∷ ys) h = (f x y h.0, zip_weaker R S f xs ys h.1)

pub zip_trans : {X : Type 0} (R S T : X → X → Type 0) → ((x y z : X) → R x y → S y z → T x z) → (xs ys zs : List X) → AllZip R xs ys → AllZip S ys zs → AllZip T xs zs
zip_trans R S T f [] [] [] h k = tt
zip_trans R S T f [] [] (z ∷ zs) h k = absurd k
zip_trans R S T f [] (y ∷ ys) zs h k = absurd h
zip_trans R S T f (x ∷ xs) [] zs h k = absurd h
zip_trans R S T f (x ∷ xs) (y ∷ ys) [] h k = absurd k
zip_trans R S T f (x ∷ xs) (y ∷ ys) (z ∷ zs) h k = (f x y z h.0 k.0, zip_trans R S T f xs ys zs h.1 k.1)

-- one element is replaced
pub zip_set : {X : Type 0} (R : X → X → Type 0) → ((x : X) → R x x) → (xs : List X) (n : ℕ) (x y : X) → n < length xs → x ≡ get_or xs n x → R x y → AllZip R xs (set xs n y)
zip_set R r [] n x y low is k = absurd (omega arith)
zip_set R r (w ∷ xs) zero x y low is k = (subst (λ v. R v y) is k, zip_refl R r xs)
zip_set R r (w ∷ xs) (suc n) x y low is k = (r w, zip_set R r xs n x y (omega arith) is k)

pub zip_append : {X : Type 0} (R : X → X → Type 0) (xs ys us vs : List X) → AllZip R xs ys → AllZip R us vs → AllZip R (xs ++ us) (ys ++ vs)
zip_append R [] [] us vs h k = k
zip_append R [] (y ∷ ys) us vs h k = absurd h
zip_append R (x ∷ xs) [] us vs h k = absurd h
zip_append R (x ∷ xs) (y ∷ ys) us vs h k = (h.0, zip_append R xs ys us vs h.1 k)

-- lists of related lists, joined
pub zip_flat : {X Y : Type 0} (R : Y → Y → Type 0) (f : X → List Y) (xs ys : List X) → AllZip (λ x y. AllZip R (f x) (f y)) xs ys → AllZip R (flat_map f xs) (flat_map f ys)
zip_flat R f [] [] h = tt
zip_flat R f [] (y ∷ ys) h = absurd h
zip_flat R f (x ∷ xs) [] h = absurd h
zip_flat R f (x ∷ xs) (y ∷ ys) h = zip_append R (f x) (f y) (flat_map f xs) (flat_map f ys) h.0 (zip_flat R f xs ys h.1)

-- what holds of each element goes along
pub all_along : {X : Type 0} (P : X → Type 0) (R : X → X → Type 0) (Q : X → Type 0) → ((x y : X) → P x → R x y → Q y) → (xs ys : List X) → AllByRecursion P xs → AllZip R xs ys → AllByRecursion Q ys
all_along P R Q f [] [] h k = tt
all_along P R Q f [] (y ∷ ys) h k = absurd k
all_along P R Q f (x ∷ xs) [] h k = absurd k
all_along P R Q f (x ∷ xs) (y ∷ ys) h k = (f x y h.0 k.0, all_along P R Q f xs ys h.1 k.1)

pub some_set : {X : Type 0} (R : X → X → Type 0) (xs : List X) (n : ℕ) (x y : X) → n < length xs → x ≡ get_or xs n x → R x y → SomeZip R xs (set xs n y)
some_set R [] n x y low is k = absurd (omega arith)
some_set R (w ∷ xs) zero x y low is k = inl (subst (λ v. R v y) is k)
some_set R (w ∷ xs) (suc n) x y low is k = inr (some_set R xs n x y (omega arith) is k)

pub some_before : {X : Type 0} (R S T : X → X → Type 0) → ((x y z : X) → R x y → S y z → T x z) → (xs ys zs : List X) → AllZip R xs ys → SomeZip S ys zs → SomeZip T xs zs
some_before R S T f [] [] zs h k = absurd k
some_before R S T f [] (y ∷ ys) zs h k = absurd h
some_before R S T f (x ∷ xs) [] zs h k = absurd h
some_before R S T f (x ∷ xs) (y ∷ ys) [] h k = absurd k
some_before R S T f (x ∷ xs) (y ∷ ys) (z ∷ zs) h (inl k) = inl (f x y z h.0 k)
some_before R S T f (x ∷ xs) (y ∷ ys) (z ∷ zs) h (inr k) = inr (some_before R S T f xs ys zs h.1 k)

pub some_after : {X : Type 0} (R S T : X → X → Type 0) → ((x y z : X) → R x y → S y z → T x z) → (xs ys zs : List X) → SomeZip R xs ys → AllZip S ys zs → SomeZip T xs zs
some_after R S T f [] ys zs h k = absurd h
some_after R S T f (x ∷ xs) [] zs h k = absurd h
some_after R S T f (x ∷ xs) (y ∷ ys) [] h k = absurd k
some_after R S T f (x ∷ xs) (y ∷ ys) (z ∷ zs) (inl h) k = inl (f x y z h k.0)
some_after R S T f (x ∷ xs) (y ∷ ys) (z ∷ zs) (inr h) k = inr (some_after R S T f xs ys zs h k.1)

some_left : {X : Type 0} (R : X → X → Type 0) (xs ys us vs : List X) → SomeZip R xs ys → SomeZip R (xs ++ us) (ys ++ vs)
some_left R [] ys us vs h = absurd h
some_left R (x ∷ xs) [] us vs h = absurd h
some_left R (x ∷ xs) (y ∷ ys) us vs (inl h) = inl h
some_left R (x ∷ xs) (y ∷ ys) us vs (inr h) = inr (some_left R xs ys us vs h)

some_right : {X : Type 0} (S R : X → X → Type 0) (xs ys us vs : List X) → AllZip S xs ys → SomeZip R us vs → SomeZip R (xs ++ us) (ys ++ vs)
some_right S R [] [] us vs h k = k
some_right S R [] (y ∷ ys) us vs h k = absurd h
some_right S R (x ∷ xs) [] us vs h k = absurd h
some_right S R (x ∷ xs) (y ∷ ys) us vs h k = inr (some_right S R xs ys us vs h.1 k)

-- one of the joined lists has related elements
pub some_flat : {X Y : Type 0} (S R : Y → Y → Type 0) (f : X → List Y) (xs ys : List X) → AllZip (λ x y. AllZip S (f x) (f y)) xs ys → SomeZip (λ x y. SomeZip R (f x) (f y)) xs ys →
    SomeZip R (flat_map f xs) (flat_map f ys)
some_flat S R f [] ys h k = absurd k
some_flat S R f (x ∷ xs) [] h k = absurd k
some_flat S R f (x ∷ xs) (y ∷ ys) h (inl k) = some_left R (f x) (f y) (flat_map f xs) (flat_map f ys) k
some_flat S R f (x ∷ xs) (y ∷ ys) h (inr k) = some_right S R (f x) (f y) (flat_map f xs) (flat_map f ys) h.0 (some_flat S R f xs ys h.1 k)

-- no element that P holds of is related
pub some_not : {X : Type 0} (P : X → Type 0) (R : X → X → Type 0) → ((x y : X) → P x → R x y → ⊥) → (xs ys : List X) → AllByRecursion P xs → SomeZip R xs ys → ⊥
some_not P R f [] ys h k = k
some_not P R f (x ∷ xs) [] h k = k
some_not P R f (x ∷ xs) (y ∷ ys) h (inl k) = f x y h.0 k
some_not P R f (x ∷ xs) (y ∷ ys) h (inr k) = some_not P R f xs ys h.1 k

pub all_set : {X : Type 0} (P : X → Type 0) (xs : List X) (n : ℕ) (y : X) → AllByRecursion P xs → P y → AllByRecursion P (set xs n y)
all_set P [] n y h p = tt
all_set P (x ∷ xs) zero y h p = (p, h.1)
all_set P (x ∷ xs) (suc n) y h p = (h.0, all_set P xs n y h.1 p)

pub on_err : {T E : Type 0} (r : Result T E) (P Q : Type 0) → (P → Q) → OnErr r P → OnErr r Q
on_err (Ok x) P Q f h = tt
on_err (Err e) P Q f h = f h

pub if_ok_both : {T E : Type 0} (r : Result T E) (P : T → Type 0) (Q : Type 0) (R : T → Type 0) → ((x : T) → P x → Q → R x) → IfOk r P → OnOk r Q → IfOk r R
if_ok_both (Ok x) P Q R f h k = f x h k
if_ok_both (Err e) P Q R f h k = tt

pub if_ok_three : {T E : Type 0} (r : Result T E) (P : T → Type 0) (Q U : Type 0) (R : T → Type 0) → ((x : T) → P x → Q → U → R x) → IfOk r P → OnOk r Q → OnOk r U → IfOk r R
if_ok_three (Ok x) P Q U R f h k l = f x h k l
if_ok_three (Err e) P Q U R f h k l = tt

pub map_same : {X : Type 0} (xs : List X) → xs ≡ map (λ (x : X). x) xs
map_same [] = refl
map_same (x ∷ xs) = ap (λ ys. x ∷ ys) (map_same xs)

pub all_weaker : {Y : Type 0} (P Q : Y → Type 0) → ((y : Y) → P y → Q y) → (ys : List Y) → AllByRecursion P ys → AllByRecursion Q ys
all_weaker P Q f [] h = tt
all_weaker P Q f (y ∷ ys) h = (f y h.0, all_weaker P Q f ys h.1)

pub all_push : {Y : Type 0} (P : Y → Type 0) (ys : List Y) (y : Y) → AllByRecursion P ys → P y → AllByRecursion P (ys ++ y ∷ [])
all_push P [] y h p = (p, tt)
all_push P (z ∷ zs) y h p = (h.0, all_push P zs y h.1 p)

pub all_append : {Y : Type 0} (P : Y → Type 0) (xs ys : List Y) → AllByRecursion P xs → AllByRecursion P ys → AllByRecursion P (xs ++ ys)
all_append P [] ys h k = k
all_append P (x ∷ xs) ys h k = (h.0, all_append P xs ys h.1 k)
