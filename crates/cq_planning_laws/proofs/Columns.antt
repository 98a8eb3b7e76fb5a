-- Columns of joined rows, rows whose columns are in sets, and joins of restricted lists.
use Rattle.std.proofs.Common.{suc, zero, ◌≡◌, ◌+◌, ◌<◌, ◌≤◌, inl, inr, ℕ, Bool, true, false, ◌&&◌, List, [], ◌∷◌, ◌++◌, length, map, filter, replicate, refl, sym, ◌∙◌, ap, subst, arith, ◌⊎◌, length-append, Some, None}
use Rattle.std.specs.Prelude.{nat_lt, nat_le}
use Rattle.std.specs.List.{AllByRecursion, list_all}
use Rattle.cq_value.proofs.Lists.{all_map, all_append}
use Rattle.cq_value.proofs.Truths.{below_or_not, two_ways, and_both}
use Rattle.cq_value.specs.declared.value.Value.{Value}
use Rattle.cq_value.specs.declared.value.Value.TheVariants.{Null}
use Rattle.cq_meaning.specs.Values.{Row, column}
use Rattle.cq_meaning.specs.Groups.{is_known}
use Rattle.cq_meaning.specs.Lists.{Has}
use Rattle.cq_tree.specs.declared.expression.Cond.{Cond}
use Rattle.cq_meaning.specs.Joins.{product, left_join, or_else}
use Rattle.cq_planning.specs.Touched.{numbers}
use Rattle.cq_planning.specs.ValueSets.{ValueSet, has_value}
use Rattle.cq_planning_laws.proofs.Rows.{Says}

-- ---- numbers

pub between : (low high x : ℕ) → (nat_le low x && nat_lt x high) ≡ true → (low ≤ x) × (x < high)
between low high x e = let b = and_both (nat_le low x) (nat_lt x high) e in let f = b.0 in let g = b.1 in (grind arith, grind arith)

-- ---- columns

-- a row behind NULLs
abbrev pub pad : ℕ → Row → Row
pad start row = replicate start Null ++ row

pub length_nulls : (n : ℕ) → length (replicate n Null) ≡ n
length_nulls zero = refl
length_nulls (suc n) = ap suc (length_nulls n)

pub append_assoc : (a b d : Row) → (a ++ b) ++ d ≡ a ++ (b ++ d)
append_assoc [] b d = refl
append_assoc (v ∷ a) b d = ap (λ u. v ∷ u) (append_assoc a b d)

pub column_left : (u r : Row) (x : ℕ) → x < length u → column (u ++ r) x ≡ column u x
column_left [] r x h = absurd (omega (arith, h))
column_left (v ∷ u) r zero h = refl
column_left (v ∷ u) r (suc x) h = column_left u r x (omega (arith, h))

pub column_known : (u r : Row) (x : ℕ) → is_known (column u x) ≡ true → column (u ++ r) x ≡ column u x
column_known [] r x h = cc
column_known (v ∷ u) r zero h = refl
column_known (v ∷ u) r (suc x) h = column_known u r x h

-- behind rows of one length
pub column_right : (n : ℕ) (u r : Row) (x : ℕ) → length u ≡ n → n ≤ x → column (u ++ r) x ≡ column (pad n r) x
column_right zero [] r x e h = refl
column_right zero (v ∷ u) r x e h = absurd (omega (arith, e))
column_right (suc n) [] r x e h = absurd (omega (arith, e))
column_right (suc n) (v ∷ u) r zero e h = absurd (omega (arith, h))
column_right (suc n) (v ∷ u) r (suc x) e h = column_right n u r x (omega (arith, e)) (omega (arith, h))

pub column_behind : (n : ℕ) (u r : Row) (x : ℕ) → length u ≡ n → is_known (column (pad n r) x) ≡ true → column (u ++ r) x ≡ column (pad n r) x
column_behind zero [] r x e h = refl
column_behind zero (v ∷ u) r x e h = absurd (omega (arith, e))
column_behind (suc n) [] r x e h = absurd (omega (arith, e))
column_behind (suc n) (v ∷ u) r zero e h = cc
column_behind (suc n) (v ∷ u) r (suc x) e h = column_behind n u r x (omega (arith, e)) h

pub column_pad : (n : ℕ) (r : Row) (x : ℕ) → column (pad n r) (n + x) ≡ column r x
column_pad zero r x = let e : 0 + x ≡ x = omega arith in ap (column r) e
column_pad (suc n) r x = let e : suc n + x ≡ suc (n + x) = omega arith in ap (column (Null ∷ pad n r)) e ∙ column_pad n r x

pub column_nulls : (m n x : ℕ) → column (pad m (replicate n Null)) x ≡ Null
column_nulls zero zero x = refl
column_nulls zero (suc n) zero = refl
column_nulls zero (suc n) (suc x) = column_nulls zero n x
column_nulls (suc m) n zero = refl
column_nulls (suc m) n (suc x) = column_nulls m n x

-- in a joined row
module _ (start : ℕ) (l r : Row) (w : ℕ) (long : length l ≡ w) where
  front_long : length (pad start l) ≡ start + w
  front_long = length-append (replicate start Null) l ∙ (let a = length_nulls start in omega (arith, a, long))

  joined_is : pad start (l ++ r) ≡ pad start l ++ r
  joined_is = sym (append_assoc (replicate start Null) l r)

  pub in_left : (x : ℕ) → x < start + w → column (pad start (l ++ r)) x ≡ column (pad start l) x
  in_left x h = ap (λ u. column u x) joined_is ∙ column_left (pad start l) r x (let a = front_long in omega (arith, h, a))

  pub in_right : (x : ℕ) → start + w ≤ x → column (pad start (l ++ r)) x ≡ column (pad (start + w) r) x
  in_right x h = ap (λ u. column u x) joined_is ∙ column_right (start + w) (pad start l) r x front_long h

  pub known_left : (x : ℕ) → is_known (column (pad start l) x) ≡ true → column (pad start (l ++ r)) x ≡ column (pad start l) x
  known_left x k = ap (λ u. column u x) joined_is ∙ column_known (pad start l) r x k

  pub known_right : (x : ℕ) → is_known (column (pad (start + w) r) x) ≡ true → column (pad start (l ++ r)) x ≡ column (pad (start + w) r) x
  known_right x k = ap (λ u. column u x) joined_is ∙ column_behind (start + w) (pad start l) r x front_long k

-- ---- rows whose columns are in sets

abbrev pub fits : (ℕ → ValueSet) → ℕ → ℕ → Row → Bool
fits sets start n row = list_all (λ x. has_value (sets x) (column (pad start row) x)) (numbers start n)

abbrev pub FitsEach : (ℕ → ValueSet) → ℕ → ℕ → Row → Type 0
FitsEach sets start n row = (x : ℕ) → start ≤ x → x < start + n → has_value (sets x) (column (pad start row) x) ≡ true

all_numbers : (p : ℕ → Bool) (k n : ℕ) → list_all p (numbers k n) ≡ true → (x : ℕ) → k ≤ x → x < k + n → p x ≡ true
all_numbers p k zero e x a b = absurd (omega (arith, a, b))
all_numbers p k (suc n) e x a b =
    let t = and_both (p k) (list_all p (numbers (k + 1) n)) e in
    elim (below_or_not k x) [
      | inl y ↦ (let h = y.1 in all_numbers p (k + 1) n t.1 x (omega (arith, h)) (omega (arith, b)))
      | inr m ↦ (let h = m.1 in let s : k ≡ x = omega (arith, h, a) in subst (λ z. p z ≡ true) s t.0)
    ]

numbers_all : (p : ℕ → Bool) (k n : ℕ) → ((x : ℕ) → k ≤ x → x < k + n → p x ≡ true) → list_all p (numbers k n) ≡ true
numbers_all p k zero h = refl
numbers_all p k (suc n) h = let first : p k ≡ true = h k (omega arith) (omega arith) in rw first (numbers_all p (k + 1) n (λ x a b. h x (omega (arith, a)) (omega (arith, b))))

pub fits_each : (sets : ℕ → ValueSet) (start n : ℕ) (row : Row) → fits sets start n row ≡ true → FitsEach sets start n row
fits_each sets start n row e = all_numbers (λ x. has_value (sets x) (column (pad start row) x)) start n e

pub each_fits : (sets : ℕ → ValueSet) (start n : ℕ) (row : Row) → FitsEach sets start n row → fits sets start n row ≡ true
each_fits sets start n row h = numbers_all (λ x. has_value (sets x) (column (pad start row) x)) start n h

pub null_in : (s : ValueSet) (v : Value) → has_value s Null ≡ true → has_value s v ≡ true
null_in None v h = refl
null_in (Some vs) v h = cc

module _ (sets : ℕ → ValueSet) (start : ℕ) (l r : Row) (w n : ℕ) (long : length l ≡ w) (all : FitsEach sets start (w + n) (l ++ r)) where
  pub left_fits : FitsEach sets start w l
  left_fits x a b = subst (λ v. has_value (sets x) v ≡ true) (in_left start l r w long x b) (all x a (omega (arith, b)))

  pub right_fits : FitsEach sets (start + w) n r
  right_fits x a b = subst (λ v. has_value (sets x) v ≡ true) (in_right start l r w long x a) (all x (omega (arith, a)) (omega (arith, b)))

-- ---- what a conjunct says stays as a row grows

says_on : (u v : Row) → ((x : ℕ) → is_known (column u x) ≡ true → column v x ≡ column u x) → (cs : List Cond) → AllByRecursion (Says u) cs → AllByRecursion (Says v) cs
says_on u v grows [] h = tt
says_on u v grows (c ∷ cs) h = (
  (
    λ p e. (let a = h.0.0 p e in let k : is_known (column u p.1) ≡ true = ap is_known (sym a.0) ∙ a.1 in
        (grows p.0 a.1 ∙ a.0 ∙ sym (grows p.1 k), ap is_known (grows p.0 a.1) ∙ a.1)),
    λ p e. (let a = h.0.1 p e in (subst (λ w. Has p.1 w) (sym (grows p.0 a.1)) a.0, ap is_known (grows p.0 a.1) ∙ a.1)),
  ),
  says_on u v grows cs h.1,
)

pub says_left : (start : ℕ) (l r : Row) (w : ℕ) → length l ≡ w → (cs : List Cond) → AllByRecursion (Says (pad start l)) cs → AllByRecursion (Says (pad start (l ++ r))) cs
says_left start l r w long cs h = says_on (pad start l) (pad start (l ++ r)) (known_left start l r w long) cs h

pub says_right : (start : ℕ) (l r : Row) (w : ℕ) → length l ≡ w → (cs : List Cond) → AllByRecursion (Says (pad (start + w) r)) cs → AllByRecursion (Says (pad start (l ++ r))) cs
says_right start l r w long cs h = says_on (pad (start + w) r) (pad start (l ++ r)) (known_right start l r w long) cs h

-- ---- facts of all rows of a join

module _ (L R P : Row → Type 0) where
  pub all_product : ((l r : Row) → L l → R r → P (l ++ r)) → (ls rs : List Row) → AllByRecursion L ls → AllByRecursion R rs → AllByRecursion P (product ls rs)
  all_product f [] rs h k = tt
  all_product f (l ∷ ls) rs h k = all_append P (map (λ r. l ++ r) rs) (product ls rs) (all_map R P (λ r. l ++ r) (λ r q. f l r h.0 q) rs k) (all_product f ls rs h.1 k)

  matched : (on : Row → Bool) (l : Row) → ((r : Row) → R r → on (l ++ r) ≡ true → P (l ++ r)) → (rs : List Row) → AllByRecursion R rs → AllByRecursion P (filter on (map (λ r. l ++ r) rs))
  matched on l f [] k = tt
  matched on l f (r ∷ rs) k = elim (two_ways (on (l ++ r))) [ inl y ↦ rw y (f r k.0 y, matched on l f rs k.1) | inr n ↦ rw n (matched on l f rs k.1) ]

  padded : (row : Row) (rows : List Row) → P row → AllByRecursion P rows → AllByRecursion P (or_else row rows)
  padded row [] p h = (p, tt)
  padded row (r ∷ rows) p h = h

  pub all_left_join : (on : Row → Bool) (width : ℕ) → ((l r : Row) → L l → R r → on (l ++ r) ≡ true → P (l ++ r)) → ((l : Row) → L l → P (l ++ replicate width Null)) →
      (ls rs : List Row) → AllByRecursion L ls → AllByRecursion R rs → AllByRecursion P (left_join on width ls rs)
  all_left_join on width f g [] rs h k = tt
  all_left_join on width f g (l ∷ ls) rs h k =
      all_append P (or_else (l ++ replicate width Null) (filter on (map (λ r. l ++ r) rs))) (left_join on width ls rs)
      (padded (l ++ replicate width Null) (filter on (map (λ r. l ++ r) rs)) (g l h.0) (matched on l (λ r q o. f l r h.0 q o) rs k))
      (all_left_join on width f g ls rs h.1 k)

pub all_passed : {P Q : Row → Type 0} (p : Row → Bool) → ((x : Row) → P x → p x ≡ true → Q x) → (xs : List Row) → AllByRecursion P xs → AllByRecursion Q (filter p xs)
all_passed p f [] h = tt
all_passed p f (x ∷ xs) h = elim (two_ways (p x)) [ inl y ↦ rw y (f x h.0 y, all_passed p f xs h.1) | inr n ↦ rw n (all_passed p f xs h.1) ]

pub filter_twice : (p on : Row → Bool) (xs : List Row) → filter p (filter on xs) ≡ filter (λ x. on x && p x) xs
filter_twice p on [] = refl
filter_twice p on (x ∷ xs) = elim (two_ways (on x)) [
  | inl y ↦ rw y (elim (two_ways (p x)) [ inl z ↦ rw z (ap (λ u. x ∷ u) (filter_twice p on xs)) | inr z ↦ rw z (filter_twice p on xs) ])
  | inr n ↦ rw n (filter_twice p on xs)
]

-- rows that no kept row needs may be left out
pub restricted : (p a : Row → Bool) (xs : List Row) → AllByRecursion (λ x. p x ≡ true → a x ≡ true) xs → filter p xs ≡ filter p (filter a xs)
restricted p a [] h = refl
restricted p a (x ∷ xs) h = elim (two_ways (a x)) [
  | inl y ↦ rw y (elim (two_ways (p x)) [ inl z ↦ rw z (ap (λ u. x ∷ u) (restricted p a xs h.1)) | inr z ↦ rw z (restricted p a xs h.1) ])
  | inr n ↦ rw n (elim (two_ways (p x)) [ inl z ↦ (let bad : false ≡ true = sym n ∙ h.0 z in cc) | inr z ↦ rw z (restricted p a xs h.1) ])
]
