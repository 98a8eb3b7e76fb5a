-- What the keys of a FROM say of its tables.
use Rattle.std.proofs.Common.{◌≡◌, ℕ, ◌+◌, ◌<◌, inl, inr, Bool, true, false, not, List, [], ◌∷◌, filter_map, option_map, Option, None, Some, refl, ap}
use Rattle.std.specs.Prelude.{◌||◌, nat_eq, position}
use Rattle.std.proofs.lemmas.Bool.{eq-eqb}
use Rattle.std.proofs.lemmas.Bool.Decides.{eqb_tells}
use Rattle.cq_value.proofs.Truths.{two_ways, same_number}
use Rattle.cq_meaning.specs.Lists.{Has}
use Rattle.cq_meaning.proofs.RowLaws.{has_filtered}
use Rattle.cq_demands.specs.declared.joins.Leaf.{Leaf}
use Rattle.cq_planning.specs.Components.{is_one_class}
use Rattle.cq_planning.specs.Touched.{numbers}
use Rattle.cq_repart.specs.Splits.{key_of}
use Rattle.cq_repart.specs.declared.tables.Key.{Key}
use Rattle.cq_repartition_laws.specs.Keys.{is_number, place_of, key_at, is_of_each, keys_among}
use Rattle.cq_repartition_laws.proofs.Lists.{all_at, given, position_passes}

key_listed : (keys : List Key) (table k : ℕ) → key_of keys table ≡ Some k → Has keys (record { table = table; column = k })
key_listed [] table k e = cc
key_listed (x ∷ keys) table k e = elim (eqb_tells x.table table) [
  | inl y ↦ (let found : Some x.column ≡ Some k = rw y.0 at e in let same : x.column ≡ k = cc in let here : x.table ≡ table = y.1 in inl (λ i. record { table = here i; column = same i }))
  | inr n ↦ (let more : key_of keys table ≡ Some k = rw n.0 at e in inr (key_listed keys table k more))
]

number_is : (k : ℕ) (o : Option ℕ) → is_number k o ≡ true → o ≡ Some k
number_is k (Some n) h = ap Some (same_number n k h)
number_is k None h = cc

second_true : (a b : Bool) → a ≡ true → (not a || b) ≡ true → b ≡ true
second_true true b e h = h
second_true false b e h = cc

module _ (first : ℕ → ℕ) (class : ℕ) where
  -- of a table that is split, the column is the key wherever it stands
  abbrev pub IsSplitAlike : List Key → Leaf → Type 0
  IsSplitAlike keys l = (k : ℕ) → key_of keys l.table ≡ Some k → place_of first class l ≡ Some k

  pub split_alike : (leaves : List Leaf) (l : Leaf) → Has leaves l → IsSplitAlike (keys_among first class leaves) l
  split_alike leaves l h k e =
      let key : Key = record { table = l.table; column = k } in
      let kept = has_filtered (is_of_each first class leaves) (filter_map (key_at first class) leaves) key (key_listed (keys_among first class leaves) l.table k e) in
      number_is k (place_of first class l) (second_true (nat_eq l.table l.table) (is_number k (place_of first class l)) (eq-eqb l.table l.table refl) (all_at _ leaves kept.1 l h))

  -- such a place is that of a column of the class, and the table isn't the right side of a LEFT JOIN
  pub placed_of : (l : Leaf) (k : ℕ) → place_of first class l ≡ Some k → (l.padded ≡ false) × (k < l.columns) × (first class ≡ first (l.start + k))
  placed_of l k e = elim (two_ways l.padded) [
    | inl y ↦ (let bad : None ≡ Some k = rw y at e in cc)
    | inr n ↦ (
        let found : position (is_one_class first class) (numbers l.start l.columns) ≡ Some k = rw n at e in
        let u = position_passes (is_one_class first class) l.start l.columns k found in
        (n, u.0, same_number (first class) (first (l.start + k)) u.1)
        )
  ]

  -- a key is that of one of the tables
  pub key_leaf : (leaves : List Leaf) (key : Key) → Has (keys_among first class leaves) key → (l : Leaf) × Has leaves l × (l.table ≡ key.table) × (place_of first class l ≡ Some key.column)
  key_leaf leaves key h =
      let listed = has_filtered (is_of_each first class leaves) (filter_map (key_at first class) leaves) key h in
      let u : (l : Leaf) × Has leaves l × (key_at first class l ≡ Some key) = given (key_at first class) leaves key listed.0 in
      let v : (u.0.table ≡ key.table) × (place_of first class u.0 ≡ Some key.column) = of_place u.0.table (place_of first class u.0) u.2 in
      (u.0, u.1, v.0, v.1)
    where
      of_place : (table : ℕ) (o : Option ℕ) → option_map (λ column. record { table = table; column = column }) o ≡ Some key → (table ≡ key.table) × (o ≡ Some key.column)
      of_place table (Some column) e = let same : record { table = table; column = column } ≡ key = cc in (ap (λ (k : Key). k.table) same, ap (λ (k : Key). Some k.column) same)
      of_place table None e = cc
