-- The first class that two components share, by marks on the classes of the one.
use Rattle.std.proofs.Common.{◌≡◌, ◌⊎◌, inl, inr, ◌≤◌, ℕ, min, Bool, true, false, cond, ◌&&◌, ◌||◌, List, [], ◌∷◌, map, filter, fold, Option, None, Some, refl, sym, ap, ◌∙◌, arith, nat_eq, eq-eqb, if◌then◌else◌}
use Rattle.cq_value.proofs.Truths.{or_left, or_right, two_ways, same_number}
use Rattle.cq_planning.specs.Touched.{among}
use Rattle.cq_outline.specs.Joining.{has_class, lesser, shared_class}
use Rattle.cq_strategies.specs.Components.{AreOn, least_of, with_class, least_marked}

-- ---- the least of numbers

module _ (first : ℕ → ℕ) where
  from_one : (m : ℕ) (xs : List ℕ) → fold (lesser first) (Some m) xs ≡ Some (fold min m xs)
  from_one m [] = refl
  from_one m (x ∷ xs) = from_one (min m x) xs

under_start : (m : ℕ) (xs : List ℕ) → fold min m xs ≤ m
under_start m [] = omega arith
under_start m (x ∷ xs) = let h : fold min (min m x) xs ≤ min m x = under_start (min m x) xs in omega arith

under_each : (m : ℕ) (xs : List ℕ) (k : ℕ) → among k xs ≡ true → fold min m xs ≤ k
under_each m [] k e = cc
under_each m (x ∷ xs) k e = elim (two_ways (nat_eq k x)) [
  | inl y ↦ (let s : k ≡ x = same_number k x y in let h : fold min (min m x) xs ≤ min m x = under_start (min m x) xs in omega arith)
  | inr n ↦ under_each (min m x) xs k (ap (λ (b : Bool). b || among k xs) (sym n) ∙ e)
]

under_all : (m : ℕ) (xs : List ℕ) (k : ℕ) → among k (m ∷ xs) ≡ true → fold min m xs ≤ k
under_all m xs k e = elim (two_ways (nat_eq k m)) [
  | inl y ↦ (let s : k ≡ m = same_number k m y in let h : fold min m xs ≤ m = under_start m xs in omega arith)
  | inr n ↦ under_each m xs k (ap (λ (b : Bool). b || among k xs) (sym n) ∙ e)
]

lesser_is : (m x : ℕ) → (min m x ≡ m) ⊎ (min m x ≡ x)
lesser_is m x = elim (two_ways (nat_eq (min m x) m)) [ inl y ↦ inl (same_number (min m x) m y) | inr n ↦ inr (let d : (min m x ≡ m) → ⊥ = λ e. (let bad : true ≡ false = sym (eq-eqb (min m x) m e) ∙ n in cc) in omega (arith, d)) ]

either : (a b d : Bool) → (a || d) ≡ true → (a ≡ true → b ≡ true) → (b || d) ≡ true
either true b d e h = ap (λ (c : Bool). c || d) (h refl)
either false true d e h = refl
either false false d e h = e

swapped : (a b d : Bool) → (a || (b || d)) ≡ (b || (a || d))
swapped true true d = refl
swapped true false d = refl
swapped false true d = refl
swapped false false d = refl

-- it is one of them
is_one : (m : ℕ) (xs : List ℕ) → among (fold min m xs) (m ∷ xs) ≡ true
is_one m [] = or_left (nat_eq m m) false (eq-eqb m m refl)
is_one m (x ∷ xs) =
    let v : ℕ = fold min (min m x) xs in
    elim (two_ways (nat_eq v (min m x))) [
      | inl y ↦ (let s : v ≡ min m x = same_number v (min m x) y in elim (lesser_is m x) [
        | inl e ↦ or_left (nat_eq v m) (nat_eq v x || among v xs) (eq-eqb v m (s ∙ e))
        | inr e ↦ or_right (nat_eq v m) (nat_eq v x || among v xs) (or_left (nat_eq v x) (among v xs) (eq-eqb v x (s ∙ e)))
      ])
      | inr n ↦ or_right (nat_eq v m) (nat_eq v x || among v xs) (or_right (nat_eq v x) (among v xs) (ap (λ (b : Bool). b || among v xs) (sym n) ∙ is_one (min m x) xs))
    ]

-- lists of the same numbers have the same least one
module _ (first : ℕ → ℕ) where
  same_least : (xs ys : List ℕ) → ((k : ℕ) → among k xs ≡ among k ys) → fold (lesser first) None xs ≡ fold (lesser first) None ys
  same_least [] [] h = refl
  same_least [] (y ∷ ys) h = let bad : false ≡ true = h y ∙ or_left (nat_eq y y) (among y ys) (eq-eqb y y refl) in cc
  same_least (x ∷ xs) [] h = let bad : true ≡ false = sym (or_left (nat_eq x x) (among x xs) (eq-eqb x x refl)) ∙ h x in cc
  same_least (x ∷ xs) (y ∷ ys) h =
      let v : ℕ = fold min x xs in
      let w : ℕ = fold min y ys in
      let a : w ≤ v = under_all y ys v (sym (h v) ∙ is_one x xs) in
      let b : v ≤ w = under_all x xs w (h w ∙ is_one y ys) in
      let e : v ≡ w = omega arith in
      from_one first x xs ∙ (ap Some e ∙ sym (from_one first y ys))

  -- ---- classes that two lists of columns share

  has_class_is : (x : ℕ) (ys : List ℕ) → has_class first x ys ≡ among (first x) (map first ys)
  has_class_is x [] = refl
  has_class_is x (y ∷ ys) = ap (λ (b : Bool). nat_eq (first x) (first y) || b) (has_class_is x ys)

  kept : (h : Bool) (k x : ℕ) (xs : List ℕ) → among k (map first (cond h (x ∷ xs) xs)) ≡ ((h && nat_eq k (first x)) || among k (map first xs))
  kept true k x xs = refl
  kept false k x xs = refl

  both : (h e a b : Bool) → (e ≡ true → h ≡ b) → ((h && e) || (a && b)) ≡ ((e || a) && b)
  both h true true b s = ap (λ (g : Bool). (g && true) || b) (s refl) ∙ twice b
    where
      twice : (b : Bool) → ((b && true) || b) ≡ b
      twice true = refl
      twice false = refl
  both h true false b s = ap (λ (g : Bool). (g && true) || false) (s refl) ∙ once b
    where
      once : (b : Bool) → ((b && true) || false) ≡ b
      once true = refl
      once false = refl
  both true false a b s = refl
  both false false a b s = refl

  of_both : (k : ℕ) (xs ys : List ℕ) → among k (map first (filter (λ x. has_class first x ys) xs)) ≡ (among k (map first xs) && among k (map first ys))
  of_both k [] ys = refl
  of_both k (x ∷ xs) ys =
      kept (has_class first x ys) k x (filter (λ x. has_class first x ys) xs)
      ∙ (ap (λ (b : Bool). (has_class first x ys && nat_eq k (first x)) || b) (of_both k xs ys)
      ∙ both (has_class first x ys) (nat_eq k (first x)) (among k (map first xs)) (among k (map first ys)) (λ e. has_class_is x ys ∙ ap (λ (j : ℕ). among j (map first ys)) (sym (same_number k (first x) e))))

  turned_and : (a b : Bool) → (a && b) ≡ (b && a)
  turned_and true true = refl
  turned_and true false = refl
  turned_and false true = refl
  turned_and false false = refl

  shared_turned : (xs ys : List ℕ) → shared_class first ys xs ≡ shared_class first xs ys
  shared_turned xs ys =
      same_least (map first (filter (λ x. has_class first x xs) ys)) (map first (filter (λ x. has_class first x ys) xs))
      (λ k. of_both k ys xs ∙ (turned_and (among k (map first ys)) (among k (map first xs)) ∙ sym (of_both k xs ys)))

  -- ---- by marks

  module _ (xs : List ℕ) (marks : List Bool) (on : AreOn (map first xs) marks) where
    lesser_same : (o : Option ℕ) (x : ℕ) → least_of o x ≡ lesser first o x
    lesser_same None x = refl
    lesser_same (Some y) x = refl

    one_marked : (b : Bool) (o : Option ℕ) (y : ℕ) (ys rest : List ℕ) → ((o : Option ℕ) → fold (with_class first marks) o ys ≡ fold (lesser first) o (map first rest)) →
        fold (with_class first marks) (if b then least_of o (first y) else o) ys ≡ fold (lesser first) o (map first (cond b (y ∷ rest) rest))
    one_marked true o y ys rest h = h (least_of o (first y)) ∙ ap (λ (p : Option ℕ). fold (lesser first) p (map first rest)) (lesser_same o (first y))
    one_marked false o y ys rest h = h o

    all_marked : (ys : List ℕ) (o : Option ℕ) → fold (with_class first marks) o ys ≡ fold (lesser first) o (map first (filter (λ y. has_class first y xs) ys))
    all_marked [] o = refl
    all_marked (y ∷ ys) o =
        ap (λ (b : Bool). fold (with_class first marks) (if b then least_of o (first y) else o) ys) (on (first y) ∙ sym (has_class_is y xs))
        ∙ one_marked (has_class first y xs) o y ys (filter (λ y. has_class first y xs) ys) (all_marked ys)

    -- the least marked class is the first shared one
    pub marked_is : (ys : List ℕ) → least_marked first marks ys ≡ shared_class first xs ys
    marked_is ys = all_marked ys None ∙ shared_turned xs ys
