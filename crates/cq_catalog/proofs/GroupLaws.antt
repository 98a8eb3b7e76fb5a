-- The shard group of a value, and of a shard.
use Rattle.std.proofs.Common.{◌≡◌, ℕ, zero, suc, ◌+◌, ◌-◌, ◌≤◌, ℤ, negsuc, List, [], ◌∷◌, map, length, drop, Option, Some, slice_get, FitsSigned, sym, ap, subst, ◌∙◌, arith}
use Rattle.std.proofs.lemmas.Grind.{common_steps}
use Rattle.std.proofs.lemmas.Option.{same_Some}
use Rattle.std.specs.Int.{w32}
use Rattle.std.proofs.lemmas.Int.{ints}
use Rattle.cq_value.specs.Placement.{shard_index}
use Rattle.cq_catalog.specs.Contents.{first_group_in, count_in, ends_in}
use Rattle.cq_catalog.specs.Ranges.{index_in, IsPart, Holds}
use Rattle.cq_catalog.specs.Refusals.{first_of}
use Rattle.cq_catalog.specs.Whole.{IsCut}
use Rattle.cq_catalog.specs.declared.info.Colocation.{Colocation}
use Rattle.cq_catalog.proofs.RangeLaws.{is_part, holds}
use Rattle.cq_catalog.proofs.ShardLaws.{ends_from_length, index_is}

module _ (groups : ℕ) (g : Colocation) (cut : IsCut groups g) where
  pub cut_part : IsPart g.ends
  cut_part = let few : g.count ≤ 128 = cut.few in subst IsPart (sym cut.cut) (is_part g.count cut.some (omega arith))

  pub cut_length : length g.ends ≡ g.count
  cut_length = ap length cut.cut ∙ ends_from_length g.count 0 g.count

  module _ (t : ℤ) (fits : FitsSigned w32 t) (i : ℕ) (at : i ≡ index_in g.ends t) (o : Option Colocation) (there : o ≡ Some g) where
    pub group_holds : (first_group_in o ≤ g.first_group + i) × Holds (ends_in o) (g.first_group + i - first_group_in o) t
    group_holds =
        let e : g.first_group + i - g.first_group ≡ index_in g.ends t = omega arith in
        rw there (omega arith, rw e (holds (negsuc 2147483648) g.ends t cut_part (omega (arith, ints)) (omega (arith, ints))))

    pub group_index : g.first_group + i ≡ first_group_in o + shard_index (count_in o) t
    group_index =
        let few : g.count ≤ 128 = cut.few in
        let e : i ≡ shard_index g.count t = at ∙ ap (λ es. index_in es t) cut.cut ∙ index_is g.count t cut.some (omega arith) fits in
        rw there (ap (λ n. g.first_group + n) e)

pub scanned : {X Y : Type 0} (f : X → Option Y) (xs : List X) (n : ℕ) (x : X) → slice_get xs n ≡ Some x → first_of (map f (drop n xs)) ≡ first_of (f x ∷ map f (drop (suc n) xs))
scanned f [] zero x h = absurd (grind (arith, common_steps, h))
scanned f [] (suc n) x h = absurd (grind (arith, common_steps, h))
scanned f (y ∷ ys) zero x h = ap (λ z. first_of (f z ∷ map f ys)) (same_Some y x h)
scanned f (y ∷ ys) (suc n) x h = scanned f ys n x h
