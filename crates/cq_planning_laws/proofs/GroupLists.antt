-- Groups in ascending order, and the groups of a catalogue.
use Rattle.std.proofs.Common.{suc, zero, ◌≡◌, ◌+◌, ◌<◌, ◌≤◌, inl, inr, ℕ, Bool, true, List, [], ◌∷◌, ◌++◌, length, filter, refl, sym, ◌∙◌, ap, subst, arith, Some, None, Option, slice_get, FitsSigned}
use Rattle.std.specs.Prelude.{nat_eq, ◌%◌, ◌^◌, ◌*◌}
use Rattle.std.specs.Int.{w32}
use Rattle.std.proofs.lemmas.Bool.Decides.{eqb_tells}
use Rattle.std.proofs.lemmas.Int.{ints}
use Rattle.cq_value.proofs.Lists.{got}
use Rattle.cq_value.proofs.Truths.{two_ways}
use borrow.Author.Differences.{read_fits}
use Rattle.cq_value.specs.declared.value.Value.{Value}
use Rattle.cq_value.specs.declared.value.Value.TheVariants.{Null, Int, Text}
use Rattle.cq_value.specs.Placement.{token_of, number_token}
use Rattle.cq_catalog.specs.Contents.{Contents, place_in, colocation_of, first_group_in, count_in, ends_in}
use Rattle.cq_catalog.specs.Ranges.{index_in}
use Rattle.cq_catalog.specs.Placement.{place_at, colocation_at, group_of}
use Rattle.cq_catalog.specs.Whole.{IsWhole, IsCut, IsTable, IsPlaced}
use Rattle.cq_catalog.specs.declared.info.Place.TheVariants.{Distributed}
use Rattle.cq_catalog.specs.declared.info.TableInfo.{TableInfo}
use Rattle.cq_catalog.specs.declared.info.Colocation.{Colocation}
use Rattle.cq_catalog.proofs.RangeLaws.{index_below}
use Rattle.cq_catalog.proofs.GroupLaws.{cut_part, cut_length}
use Rattle.cq_planning.specs.Touched.{among, numbers, in_order}
use Rattle.cq_planning.specs.Reaching.{IsAscendingFrom}
use Rattle.cq_planning_laws.proofs.Lists.{among_more}

-- ---- lists of groups

pub ascends : (p : ℕ → Bool) (low k n : ℕ) → low ≤ k → IsAscendingFrom low (filter p (numbers k n))
ascends p low k zero h = tt
ascends p low k (suc n) h = elim (two_ways (p k)) [
  | inl y ↦ rw y (h, ascends p (k + 1) (k + 1) n (omega arith))
  | inr f ↦ rw f (ascends p low (k + 1) n (omega (arith, h)))
]

pub among_numbers : (k n g : ℕ) → k ≤ g → g < k + n → among g (numbers k n) ≡ true
among_numbers k zero g a b = absurd (omega (arith, a, b))
among_numbers k (suc n) g a b = elim (eqb_tells g k) [
  | inl y ↦ rw y.0 refl
  | inr f ↦ (let far = f.1 in among_more g k (numbers (k + 1) n) (among_numbers (k + 1) n g (omega (arith, a, far)) (omega (arith, b))))
]

pub numbers_only : (k n g : ℕ) → among g (numbers k n) ≡ true → (k ≤ g) × (g < k + n)
numbers_only k zero g h = cc
numbers_only k (suc n) g h = elim (eqb_tells g k) [
  | inl y ↦ (let e = y.1 in (omega (arith, e), omega (arith, e)))
  | inr f ↦ (let more : among g (numbers (k + 1) n) ≡ true = rw f.0 at h in let r = numbers_only (k + 1) n g more in let l = r.0 in let m = r.1 in (omega (arith, l), omega (arith, m)))
]

pub among_filter : (p : ℕ → Bool) (xs : List ℕ) (g : ℕ) → among g xs ≡ true → p g ≡ true → among g (filter p xs) ≡ true
among_filter p [] g h t = cc
among_filter p (x ∷ xs) g h t = elim (eqb_tells g x) [
  | inl y ↦ (let px : p x ≡ true = subst (λ z. p z ≡ true) y.1 t in rw px (rw y.0 refl))
  | inr f ↦ (let more : among g xs ≡ true = rw f.0 at h in elim (two_ways (p x)) [ inl y ↦ rw y (among_more g x (filter p xs) (among_filter p xs g more t)) | inr n ↦ rw n (among_filter p xs g more t) ])
]

pub among_filtered : (p : ℕ → Bool) (xs : List ℕ) (g : ℕ) → among g (filter p xs) ≡ true → p g ≡ true
among_filtered p [] g h = cc
among_filtered p (x ∷ xs) g h = elim (two_ways (p x)) [
  | inl y ↦ (let k : among g (x ∷ filter p xs) ≡ true = rw y at h in elim (eqb_tells g x) [
    | inl e ↦ subst (λ z. p z ≡ true) (sym e.1) y
    | inr f ↦ among_filtered p xs g (rw f.0 at k)
  ])
  | inr n ↦ among_filtered p xs g (rw n at h)
]

pub among_left : (g : ℕ) (xs ys : List ℕ) → among g xs ≡ true → among g (xs ++ ys) ≡ true
among_left g [] ys h = cc
among_left g (x ∷ xs) ys h = elim (two_ways (nat_eq g x)) [ inl y ↦ rw y refl | inr n ↦ (let k : among g xs ≡ true = rw n at h in rw n (among_left g xs ys k)) ]

pub among_right : (g : ℕ) (xs ys : List ℕ) → among g ys ≡ true → among g (xs ++ ys) ≡ true
among_right g [] ys h = h
among_right g (x ∷ xs) ys h = among_more g x (xs ++ ys) (among_right g xs ys h)

pub in_order_has : (c : Contents) (gs : List ℕ) (g : ℕ) → g < c.groups → among g gs ≡ true → among g (in_order c gs) ≡ true
in_order_has c gs g l h = among_filter (λ k. among k gs) (numbers 0 c.groups) g (among_numbers 0 c.groups g (omega arith) (omega (arith, l))) h

pub in_order_only : (c : Contents) (gs : List ℕ) (g : ℕ) → among g (in_order c gs) ≡ true → among g gs ≡ true
in_order_only c gs g h = among_filtered (λ k. among k gs) (numbers 0 c.groups) g h

-- ---- groups of a catalogue

number_fits : (n : ℕ) → FitsSigned w32 (number_token n)
number_fits n = let below : (n * 2654435761) % 2 ^ 32 < 2 ^ 32 = omega arith in omega (arith, ints, below, read_fits w32 ((n * 2654435761) % 2 ^ 32))

pub token_fits : (v : Value) → FitsSigned w32 (token_of v)
token_fits Null = omega (arith, ints)
token_fits (Int n) = number_fits _
token_fits (Text t) = number_fits _

placed_there : (c : Contents) (o : Option TableInfo) → IsWhole c → ((t : TableInfo) → o ≡ Some t → IsTable c t) → IsPlaced c (place_in o)
placed_there c None w h = tt
placed_there c (Some t) w h = (h t refl).placed

pub placed : (c : Contents) (table : ℕ) → IsWhole c → IsPlaced c (place_at c table)
placed c table w = placed_there c (slice_get c.tables table) w (λ t e. w.tables table t e)

pub record Cut (c : Contents) (table : ℕ) : Type 0 where
  pub colocation : Colocation
  pub there : colocation_at c table ≡ Some colocation
  pub cut : IsCut c.groups colocation

pub cut_there : (c : Contents) (table at colocation first_shard : ℕ) → IsWhole c → place_at c table ≡ Distributed at colocation first_shard → Cut c table
cut_there c table at colocation first_shard w e =
    let p : IsPlaced c (Distributed at colocation first_shard) = subst (IsPlaced c) e (placed c table w) in
    let g = got c.colocations colocation p.0 in
    record {
      colocation = g.0;
      there = ap (λ q. slice_get c.colocations (colocation_of q)) e ∙ g.1;
      cut = w.cut colocation g.0 g.1;
    }

module _ (c : Contents) (table : ℕ) (t : Cut c table) where
  pub first_is : first_group_in (colocation_at c table) ≡ t.colocation.first_group
  first_is = ap first_group_in t.there

  pub count_is : count_in (colocation_at c table) ≡ t.colocation.count
  count_is = ap count_in t.there

  pub group_range : (v : Value) → (first_group_in (colocation_at c table) ≤ group_of c table v) × (group_of c table v < first_group_in (colocation_at c table) + count_in (colocation_at c table))
  group_range v =
      let below : index_in t.colocation.ends (token_of v) < length t.colocation.ends = index_below (token_of v) t.colocation.ends (cut_part c.groups t.colocation t.cut) (token_fits v) in
      let long : length t.colocation.ends ≡ t.colocation.count = cut_length c.groups t.colocation t.cut in
      let same : index_in (ends_in (colocation_at c table)) (token_of v) ≡ index_in t.colocation.ends (token_of v) = ap (λ o. index_in (ends_in o) (token_of v)) t.there in
      (omega arith, omega (arith, below, long, same, count_is))

  pub groups_below : (g : ℕ) → g < first_group_in (colocation_at c table) + count_in (colocation_at c table) → g < c.groups
  groups_below g h = let within : t.colocation.first_group + t.colocation.count ≤ c.groups = t.cut.within in omega (arith, h, first_is, count_is, within)
