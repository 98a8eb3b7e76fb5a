-- Lists that are read beside each other, by places.
use Rattle.std.proofs.Common.{◌≡◌, ◌≤◌, ℕ, zero, suc, List, [], ◌∷◌, length, map, refl, sym, ◌∙◌, ap, subst, arith, Some, None}
use Rattle.std.specs.Prelude.{slice_get, slice_index_or}
use Rattle.std.specs.List.{AllZip}
use Rattle.cq_cell.specs.Lists.{AllThree}
use Rattle.cq_shared.specs.Writes.{Has}

module _ {A B : Type 0} where
  pub zip_got : (R : A → B → Type 0) (xs : List A) (ys : List B) (i : ℕ) (x : A) → AllZip R xs ys → slice_get xs i ≡ Some x → Has ys i (R x)
  zip_got R [] ys i x h e = absurd (cc e)
  zip_got R (a ∷ xs) [] i x h e = absurd h
  zip_got R (a ∷ xs) (b ∷ ys) zero x h e = record { item = b; there = refl; holds = (let s : a ≡ x = cc in subst (λ v. R v b) s h.0) }
  zip_got R (a ∷ xs) (b ∷ ys) (suc i) x h e = (let t = zip_got R xs ys i x h.1 e in record { item = t.item; there = t.there; holds = t.holds })

  pub map_got : (f : A → B) (xs : List A) (i : ℕ) (y : B) → slice_get (map f xs) i ≡ Some y → (x : A) × (slice_get xs i ≡ Some x) × (f x ≡ y)
  map_got f [] i y e = absurd (cc e)
  map_got f (x ∷ xs) zero y e = (x, refl, (let s : f x ≡ y = cc in s))
  map_got f (x ∷ xs) (suc i) y e = map_got f xs i y e

  pub got_map : (f : A → B) (xs : List A) (i : ℕ) (x : A) → slice_get xs i ≡ Some x → slice_get (map f xs) i ≡ Some (f x)
  got_map f [] i x e = absurd (cc e)
  got_map f (y ∷ xs) zero x e = (let s : y ≡ x = cc in ap (λ v. Some (f v)) s)
  got_map f (y ∷ xs) (suc i) x e = got_map f xs i x e

pub same_there : {A : Type 0} (xs : List A) (i : ℕ) (x y : A) → slice_get xs i ≡ Some x → slice_get xs i ≡ Some y → x ≡ y
same_there xs i x y e f = (let s : Some x ≡ Some y = sym e ∙ f in cc)

-- a fact of the items at a place of two lists
pub record HasTwo {B D : Type 0} (ys : List B) (zs : List D) (i : ℕ) (P : B → D → Type 0) : Type 0 where
  pub item : B
  pub beside : D
  pub there : slice_get ys i ≡ Some item
  pub is : slice_get zs i ≡ Some beside
  pub holds : P item beside

module _ {A B D : Type 0} where
  pub three_got : (R : A → B → D → Type 0) (xs : List A) (ys : List B) (zs : List D) (i : ℕ) (x : A) → AllThree R xs ys zs → slice_get xs i ≡ Some x → HasTwo ys zs i (R x)
  three_got R [] ys zs i x h e = absurd (cc e)
  three_got R (a ∷ xs) [] zs i x h e = absurd h
  three_got R (a ∷ xs) (b ∷ ys) [] i x h e = absurd h
  three_got R (a ∷ xs) (b ∷ ys) (d ∷ zs) zero x h e = record { item = b; beside = d; there = refl; is = refl; holds = (let s : a ≡ x = cc in subst (λ v. R v b d) s h.0) }
  three_got R (a ∷ xs) (b ∷ ys) (d ∷ zs) (suc i) x h e = (let t = three_got R xs ys zs i x h.1 e in record { item = t.item; beside = t.beside; there = t.there; is = t.is; holds = t.holds })

  pub three_weaker : (R Q : A → B → D → Type 0) → ((x : A) (y : B) (z : D) → R x y z → Q x y z) → (xs : List A) (ys : List B) (zs : List D) → AllThree R xs ys zs → AllThree Q xs ys zs
  three_weaker R Q f [] [] [] h = tt
  three_weaker R Q f [] [] (d ∷ zs) h = absurd h
  three_weaker R Q f [] (b ∷ ys) zs h = absurd h
  three_weaker R Q f (a ∷ xs) [] zs h = absurd h
  three_weaker R Q f (a ∷ xs) (b ∷ ys) [] h = absurd h
  three_weaker R Q f (a ∷ xs) (b ∷ ys) (d ∷ zs) h = (f a b d h.0, three_weaker R Q f xs ys zs h.1)

-- lists that are as long have items at the same places
pub got_as : {A B : Type 0} (xs : List A) (ys : List B) (i : ℕ) (x : A) → length xs ≡ length ys → slice_get xs i ≡ Some x → (y : B) × (slice_get ys i ≡ Some y)
got_as [] ys i x l e = absurd (cc e)
got_as (a ∷ xs) [] i x l e = absurd (omega (arith, l))
got_as (a ∷ xs) (b ∷ ys) zero x l e = (b, refl)
got_as (a ∷ xs) (b ∷ ys) (suc i) x l e = got_as xs ys i x (omega (arith, l)) e

pub index_got : {A : Type 0} (xs : List A) (i : ℕ) (x d : A) → slice_get xs i ≡ Some x → slice_index_or xs i d ≡ x
index_got [] i x d e = absurd (cc e)
index_got (y ∷ xs) zero x d e = cc
index_got (y ∷ xs) (suc i) x d e = index_got xs i x d e

pub index_map : {A B : Type 0} (f : A → B) (xs : List A) (i : ℕ) (x : A) (d : B) → slice_get xs i ≡ Some x → slice_index_or (map f xs) i d ≡ f x
index_map f [] i x d e = absurd (cc e)
index_map f (y ∷ xs) zero x d e = (let s : y ≡ x = cc in ap f s)
index_map f (y ∷ xs) (suc i) x d e = index_map f xs i x d e

pub zip_back : {A B : Type 0} (R : A → B → Type 0) (xs : List A) (ys : List B) (i : ℕ) (y : B) → AllZip R xs ys → slice_get ys i ≡ Some y → (x : A) × (slice_get xs i ≡ Some x) × R x y
zip_back R [] [] i y h e = absurd (cc e)
zip_back R [] (b ∷ ys) i y h e = absurd h
zip_back R (a ∷ xs) [] i y h e = absurd h
zip_back R (a ∷ xs) (b ∷ ys) zero y h e = (a, refl, (let s : b ≡ y = cc in subst (λ v. R a v) s h.0))
zip_back R (a ∷ xs) (b ∷ ys) (suc i) y h e = zip_back R xs ys i y h.1 e

-- beyond a list there is nothing
pub got_beyond : {A : Type 0} (xs : List A) (i : ℕ) → length xs ≤ i → slice_get xs i ≡ None
got_beyond [] i l = refl
got_beyond (x ∷ xs) zero l = absurd (omega (arith, l))
got_beyond (x ∷ xs) (suc i) l = got_beyond xs i (omega (arith, l))
