-- Aggregates don't depend on the order of rows.
use Rattle.std.proofs.Common.{◌≡◌, ℕ, pos, suc, Bool, true, false, cond, List, ◌++◌, map, length, refl, sym, ap, ◌∙◌, Ordering, Less, Equal, Greater, nat_cmp}
use Rattle.std.specs.Prelude.{◌+ℤ◌}
use Rattle.std.specs.Ordering.{is_lt, ordering_then, ordering_reverse, then_cmp, on}
use Rattle.std.specs.Cmp.{IsStrictWeakOrder, IsTotalOrder}
use Rattle.std.proofs.lemmas.Cmp.{then_total, on_total, nat_cmp_total}
use Rattle.std.proofs.lemmas.List.Sorted.{ranks_by, IsStrictWeakOrder-flip}
use Rattle.cq_value.specs.declared.value.Value.{Value}
use Rattle.cq_value.specs.declared.value.Value.TheVariants.{Null, Int, Text}
use Rattle.cq_value.specs.Order.{value_cmp}
use Rattle.cq_value.proofs.OrderLaws.{value_cmp_total}
use Rattle.cq_tree.specs.declared.query.Agg.{Agg}
use Rattle.cq_tree.specs.declared.query.Agg.TheVariants as agg
use Rattle.cq_tree.specs.declared.expression.Expr.{Expr}
use Rattle.cq_meaning.specs.Values.{Row, same_row}
use Rattle.cq_meaning.specs.Expressions.{value_of}
use Rattle.cq_meaning.specs.Groups.{aggregate, group_row, groups_by, distinct, group_with, known_values, added, lesser_of, greater_of, is_known}
use Rattle.std.proofs.Math.IntN.{+ℤ_comm, +ℤ_assoc}
use Rattle.cq_value.proofs.Lists.{map_map}
use Rattle.cq_meaning.proofs.Reorder.{Reordered, none, kept, turned, then, filtered, mapped, folded}
use Rattle.cq_meaning.proofs.RowLaws.{value_exact, true_not_false, distinct_again}
use Rattle.cq_meaning.proofs.MapLaws.{map_same}

-- the greater of two, the first where they tie
module _ {X : Type 0} (lt : X → X → Bool) (o : IsStrictWeakOrder lt) (exact : (x y : X) → lt x y ≡ false → lt y x ≡ false → x ≡ y) where
  abbrev pub upper : X → X → X
  upper a x = cond (lt a x) x a

  upper_is : (a x : X) (b : Bool) → lt a x ≡ b → upper a x ≡ cond b x a
  upper_is a x b e = ap (λ c. cond c x a) e

  two : (x y : X) → upper x y ≡ upper y x
  two x y = go (lt x y) (lt y x) refl refl
    where
      go : (p q : Bool) → lt x y ≡ p → lt y x ≡ q → upper x y ≡ upper y x
      go true q d e = upper_is x y true d ∙ sym (upper_is y x false (o.one_way x y d))
      go false true d e = upper_is x y false d ∙ sym (upper_is y x true e)
      go false false d e = upper_is x y false d ∙ (exact x y d e ∙ sym (upper_is y x false e))

  pub upper_turned : (a x y : X) → upper (upper a x) y ≡ upper (upper a y) x
  upper_turned a x y = go (lt a x) (lt a y) refl refl
    where
      go : (p q : Bool) → lt a x ≡ p → lt a y ≡ q → upper (upper a x) y ≡ upper (upper a y) x
      go true true d e = ap (λ m. upper m y) (upper_is a x true d) ∙ (two x y ∙ ap (λ m. upper m x) (sym (upper_is a y true e)))
      go true false d e = ap (λ m. upper m y) (upper_is a x true d) ∙ (upper_is x y false (o.chain x a y (o.one_way a x d) e) ∙ (sym (upper_is a x true d) ∙ ap (λ m. upper m x) (sym (upper_is a y false e))))
      go false true d e = ap (λ m. upper m y) (upper_is a x false d) ∙ (upper_is a y true e ∙ (sym (upper_is y x false (o.chain y a x (o.one_way a y e) d)) ∙ ap (λ m. upper m x) (sym (upper_is a y true e))))
      go false false d e = ap (λ m. upper m y) (upper_is a x false d) ∙ (upper_is a y false e ∙ (sym (upper_is a x false d) ∙ ap (λ m. upper m x) (sym (upper_is a y false e))))

  pub upper_joined : (a b c : X) → upper (upper a b) c ≡ upper a (upper b c)
  upper_joined a b c = go (lt a b) (lt b c) refl refl
    where
      go : (p q : Bool) → lt a b ≡ p → lt b c ≡ q → upper (upper a b) c ≡ upper a (upper b c)
      go true true d e = ap (λ m. upper m c) (upper_is a b true d) ∙ (upper_is b c true e ∙ (sym (upper_is a c true (above (lt a c) refl)) ∙ ap (λ m. upper a m) (sym (upper_is b c true e))))
        where
          above : (t : Bool) → lt a c ≡ t → lt a c ≡ true
          above true f = f
          above false f = absurd (true_not_false (lt a b) d (o.chain a c b f (o.one_way b c e)))
      go true false d e = ap (λ m. upper m c) (upper_is a b true d) ∙ (upper_is b c false e ∙ (sym (upper_is a b true d) ∙ ap (λ m. upper a m) (sym (upper_is b c false e))))
      go false true d e = ap (λ m. upper m c) (upper_is a b false d) ∙ ap (λ m. upper a m) (sym (upper_is b c true e))
      go false false d e = ap (λ m. upper m c) (upper_is a b false d) ∙ (upper_is a c false (o.chain a b c d e) ∙ (sym (upper_is a b false d) ∙ ap (λ m. upper a m) (sym (upper_is b c false e))))

pub tie_from : {X : Type 0} {R : X → X → Ordering} → IsTotalOrder R → (x y : X) → is_lt (R x y) ≡ false → is_lt (R y x) ≡ false → R x y ≡ Equal
tie_from {X} {R} o x y p q = go (R x y) (R y x) (o.antisymm x y) p q
  where
    go : (a b : Ordering) → a ≡ ordering_reverse b → is_lt a ≡ false → is_lt b ≡ false → a ≡ Equal
    go Less b e p q = cc
    go Equal b e p q = refl
    go Greater Less e p q = cc
    go Greater Equal e p q = cc
    go Greater Greater e p q = cc

-- values with NULL before all
abbrev null_rank : Value → ℕ
null_rank Null = 0
null_rank (Int x) = 1
null_rank (Text t) = 1

abbrev first_null : Value → Value → Ordering
first_null = then_cmp (on null_rank nat_cmp) value_cmp

first_null_total : IsTotalOrder first_null
first_null_total = then_total (on_total null_rank nat_cmp_total) value_cmp_total

second_equal : (o p : Ordering) → ordering_then o p ≡ Equal → p ≡ Equal
second_equal Less p e = cc
second_equal Equal p e = e
second_equal Greater p e = cc

abbrev up : Value → Value → Bool
up x y = is_lt (first_null x y)

abbrev down : Value → Value → Bool
down x y = is_lt (value_cmp y x)

up_weak : IsStrictWeakOrder up
up_weak = ranks_by first_null_total (λ x. x)

up_exact : (x y : Value) → up x y ≡ false → up y x ≡ false → x ≡ y
up_exact x y p q = value_exact x y (second_equal (nat_cmp (null_rank x) (null_rank y)) (value_cmp x y) (tie_from first_null_total x y p q))

down_weak : IsStrictWeakOrder down
down_weak = IsStrictWeakOrder-flip (λ x y. is_lt (value_cmp x y)) (ranks_by value_cmp_total (λ x. x))

down_exact : (x y : Value) → down x y ≡ false → down y x ≡ false → x ≡ y
down_exact x y p q = value_exact x y (tie_from value_cmp_total x y q p)

greater_is : (x y : Value) → greater_of x y ≡ upper up up_weak up_exact x y
greater_is Null Null = refl
greater_is Null (Int y) = refl
greater_is Null (Text y) = refl
greater_is (Int x) Null = refl
greater_is (Int x) (Int y) = refl
greater_is (Int x) (Text y) = refl
greater_is (Text x) Null = refl
greater_is (Text x) (Int y) = refl
greater_is (Text x) (Text y) = refl

lesser_is : (x y : Value) → lesser_of x y ≡ upper down down_weak down_exact x y
lesser_is Null Null = refl
lesser_is Null (Int y) = refl
lesser_is Null (Text y) = refl
lesser_is (Int x) Null = refl
lesser_is (Int x) (Int y) = refl
lesser_is (Int x) (Text y) = refl
lesser_is (Text x) Null = refl
lesser_is (Text x) (Int y) = refl
lesser_is (Text x) (Text y) = refl

pub greater_turned : (a x y : Value) → greater_of (greater_of a x) y ≡ greater_of (greater_of a y) x
greater_turned a x y = simp greater_is (upper_turned up up_weak up_exact a x y)

pub lesser_turned : (a x y : Value) → lesser_of (lesser_of a x) y ≡ lesser_of (lesser_of a y) x
lesser_turned a x y = simp lesser_is (upper_turned down down_weak down_exact a x y)

pub greater_joined : (a x y : Value) → greater_of (greater_of a x) y ≡ greater_of a (greater_of x y)
greater_joined a x y = simp greater_is (upper_joined up up_weak up_exact a x y)

pub lesser_joined : (a x y : Value) → lesser_of (lesser_of a x) y ≡ lesser_of a (lesser_of x y)
lesser_joined a x y = simp lesser_is (upper_joined down down_weak down_exact a x y)

-- sums

pub added_turned : (a x y : Value) → added (added a x) y ≡ added (added a y) x
added_turned a Null y = refl
added_turned a (Text s) y = refl
added_turned a (Int x) Null = refl
added_turned a (Int x) (Text t) = refl
added_turned Null (Int x) (Int y) = ap Int (+ℤ_comm x y)
added_turned (Text s) (Int x) (Int y) = ap Int (+ℤ_comm x y)
added_turned (Int a) (Int x) (Int y) = ap Int (+ℤ_assoc a x y ∙ (ap (λ n. a +ℤ n) (+ℤ_comm x y) ∙ sym (+ℤ_assoc a y x)))

pub added_joined : (a x y : Value) → added (added a x) y ≡ added a (added x y)
added_joined a x Null = refl
added_joined a x (Text t) = refl
added_joined a Null (Int y) = refl
added_joined a (Text s) (Int y) = refl
added_joined Null (Int x) (Int y) = refl
added_joined (Text s) (Int x) (Int y) = refl
added_joined (Int a) (Int x) (Int y) = ap Int (+ℤ_assoc a x y)

-- aggregates of reordered rows

pub length_again : {X : Type 0} {xs ys : List X} → Reordered xs ys → length xs ≡ length ys
length_again none = refl
length_again (kept r) = ap suc (length_again r)
length_again turned = refl
length_again (then r s) = length_again r ∙ length_again s

module _ (rs : List (List Row)) where
  pub values_again : (e : Expr) {xs ys : List Row} → Reordered xs ys → Reordered (known_values e rs xs) (known_values e rs ys)
  values_again e r = filtered is_known (mapped (λ row. value_of e row rs) r)

  pub aggregate_again : (a : Agg) {xs ys : List Row} → Reordered xs ys → aggregate rs xs a ≡ aggregate rs ys a
  aggregate_again agg.CountAll r = ap (λ n. Int (pos n)) (length_again r)
  aggregate_again (agg.Count e) r = ap (λ n. Int (pos n)) (length_again (values_again e r))
  aggregate_again (agg.Sum e) r = folded added added_turned (values_again e r) Null
  aggregate_again (agg.Min e) r = folded lesser_of lesser_turned (values_again e r) Null
  aggregate_again (agg.Max e) r = folded greater_of greater_turned (values_again e r) Null

  pub group_row_again : (aggs : List Agg) (k : Row) {xs ys : List Row} → Reordered xs ys →
      group_row aggs rs (record { keys = k; rows = xs }) ≡ group_row aggs rs (record { keys = k; rows = ys })
  group_row_again aggs k {xs} {ys} r = ap (λ us. k ++ us) (map_same (aggregate rs xs) (aggregate rs ys) aggs (λ a h. aggregate_again a r))

  pub group_rows_again : (aggs : List Agg) (key : Row → Row) {xs ys : List Row} → Reordered xs ys →
      Reordered (map (group_row aggs rs) (groups_by key xs)) (map (group_row aggs rs) (groups_by key ys))
  group_rows_again aggs key {xs} {ys} r =
      rw (map_map (group_row aggs rs) (group_with key xs) (distinct (map key xs)), map_map (group_row aggs rs) (group_with key ys) (distinct (map key ys)))
      (rw (map_same (λ k. group_row aggs rs (group_with key xs k)) (λ k. group_row aggs rs (group_with key ys k)) (distinct (map key xs))
      (λ k h. group_row_again aggs k (filtered (λ s. same_row k (key s)) r)))
      (mapped (λ k. group_row aggs rs (group_with key ys k)) (distinct_again (mapped key r))))
