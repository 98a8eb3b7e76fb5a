-- Blocks that are computed one after the other.
use Rattle.std.proofs.Common.{◌≡◌, ◌<◌, ◌+◌, inl, inr, ℕ, suc, List, [], ◌∷◌, length, drop, get_or, Option, Some, None, refl, sym, ap, ◌∙◌, subst, add-one, drop-cons, arith}
use Rattle.std.specs.Prelude.{slice_set, nat_eq, nat_lt}
use Rattle.std.specs.List.{position, position_or_len, AllByRecursion}
use Rattle.cq_value.proofs.Truths.{two_ways}
use Rattle.cq_meaning.specs.Values.{Row, Results}
use Rattle.cq_one_plan.specs.declared.plan.Plan.{Plan, out-Plan}
use Rattle.cq_catalog.specs.Contents.{Contents}
use Rattle.cq_exec.specs.Executing.{place_in, places_in, Gives, IsLarge, CanGive, Leave, HaveLarge, CanLeave}
use Rattle.cq_exec.specs.declared.captures.Captures.{Captures}

-- ---- places

position_there : {X : Type 0} (p : X → _) (xs : List X) (i : ℕ) → position p xs ≡ Some i → i < length xs
position_there p xs i e = elim (two_ways (nat_lt (position_or_len p xs) (length xs))) [
  | inl y ↦ (let found : Some (position_or_len p xs) ≡ Some i = rw y at e in let same : position_or_len p xs ≡ i = cc in grind (arith, y, same))
  | inr n ↦ (let bad : None ≡ Some i = rw n at e in cc)
]

place_there : (groups : List ℕ) (g i : ℕ) → place_in groups g ≡ Some i → i < length groups
unfolding place_in
place_there groups g i e = position_there (λ h. nat_eq h g) groups i e

abbrev put_place : Option ℕ → List ℕ → List ℕ
put_place None is = is
put_place (Some i) is = i ∷ is

one_more : (groups : List ℕ) (n : ℕ) → length groups ≡ n → (o : Option ℕ) → ((i : ℕ) → o ≡ Some i → i < length groups) → (is : List ℕ) → AllByRecursion (λ i. i < n) is → AllByRecursion (λ i. i < n) (put_place o is)
one_more groups n e None h is all = all
one_more groups n e (Some i) h is all = (subst (λ m. i < m) e (h i refl), all)

pub places_there : (groups : List ℕ) (n : ℕ) → length groups ≡ n → (wanted : List ℕ) → AllByRecursion (λ i. i < n) (places_in groups wanted)
places_there groups n e [] = tt
places_there groups n e (g ∷ gs) = one_more groups n e (place_in groups g) (place_there groups g) (places_in groups gs) (places_there groups n e gs)

-- ---- steps

pub ahead_of : (blocks : List Plan) (i : ℕ) (p : Plan) → i < length blocks → p ≡ get_or blocks i p → drop i blocks ≡ p ∷ drop (i + 1) blocks
ahead_of blocks i p l is = rw (add-one) (drop-cons blocks i p l ∙ ap (λ z. z ∷ drop (suc i) blocks) (sym is))

module _ (c : Contents) (read : Captures) (rs : Results) (blocks more : List Plan) (p : Plan) (ahead : blocks ≡ p ∷ more) (can : CanLeave c read rs blocks) where
  abbrev can_first : CanLeave c read rs (p ∷ more)
  can_first = subst (CanLeave c read rs) ahead can

  pub fits : (out-Plan p).number < length rs
  fits = can_first.0

  pub can_give : CanGive c read rs p
  can_give = can_first.1

  pub too_large : IsLarge c read rs p → HaveLarge c read rs blocks
  too_large l = subst (HaveLarge c read rs) (sym ahead) (inl l)

  module _ (rows : List Row) (given : Gives c read rs p rows) where
    abbrev after : Results
    after = slice_set rs (out-Plan p).number rows

    pub can_more : CanLeave c read after more
    can_more = can_first.2 rows given

    pub left_more : (last : Results) → Leave c read after more last → Leave c read rs blocks last
    left_more last l = subst (λ (bs : List Plan). Leave c read rs bs last) (sym ahead) (rows, given, l)

    pub large_more : HaveLarge c read after more → HaveLarge c read rs blocks
    large_more l = subst (HaveLarge c read rs) (sym ahead) (inr (rows, given, l))
