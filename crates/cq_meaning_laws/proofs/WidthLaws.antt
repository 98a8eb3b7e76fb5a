-- Values within the widths of their columns give values within the widths of expressions.
use Rattle.std.proofs.Common.{◌≡◌, ℕ, zero, suc, ◌+◌, ◌*◌, ◌^◌, ◌≤◌, ℤ, ◌+ℤ◌, ◌-ℤ◌, ◌*ℤ◌, arith}
use Rattle.std.specs.Prelude.{neg_ℤ, int_div, int_rem, unsigned_abs, FitsSigned}
use Rattle.std.specs.Int.{w128}
use Rattle.std.proofs.Common.{List, [], ◌∷◌, length, refl, max, ap, subst, Option, None, Some}
use Rattle.std.specs.Prelude.{slice_index_or, ⊤, unwrap_or}
use Rattle.std.proofs.Math.Pow.{pow_mono}
use Rattle.std.proofs.lemmas.Nat.{pow-add}
use Rattle.std.proofs.Math.Nat.{mul-le-mul, mul-le-mul_right}
use Rattle.std.proofs.Common.{add-zero, zero-add}
use Rattle.std.specs.Prelude.{fold}
use Rattle.std.specs.List.{AllByRecursion}
use Rattle.cq_meaning.specs.Values.{Row, column}
use Rattle.cq_meaning.specs.Expressions.{value_of, truth_of, arm_value, first_known, of_number, of_numbers, known_or, if_yes}
use Rattle.cq_meaning.specs.Groups.{added, sum_of}
use Rattle.cq_meaning.specs.Safety.{Fits, IsSafe, AreSafeArms, AreSafe, IsSafeCondition}
use Rattle.cq_meaning.specs.Widths.{bits, bits_of_arms, bits_of_all, IsBelow, Within, IsBound, AreBoundArms, AreBound, IsBoundCondition}
use Rattle.cq_value.specs.declared.value.Value.{Value}
use Rattle.cq_value.specs.declared.value.Value.TheVariants.{Null, Int, Text}
use Rattle.cq_value.specs.declared.value.Truth.{Truth}
use Rattle.cq_value.specs.declared.value.Truth.TheVariants.{Yes, No, Unknown}
use Rattle.cq_tree.specs.declared.expression.Expr.{Expr, Literal, Column, Neg', Add', Sub', Mul', Div', Rem', Case', Coalesce', Row_of-Expr, end_of-Expr, more_of-Expr, Row_of-Arm, end_of-Arm, more_of-Arm}
use Rattle.cq_tree.specs.declared.expression.Cond.{Cond, Compare, IsNull, InResult, And', Or', Not', Always, end_of-Cond, more_of-Cond}

abs_neg : (x : ℤ) → unsigned_abs (neg_ℤ x) ≡ unsigned_abs x
abs_neg x = grind arith

pub abs_add : (x y : ℤ) → unsigned_abs (x +ℤ y) ≤ unsigned_abs x + unsigned_abs y
abs_add x y = grind arith

abs_sub : (x y : ℤ) → unsigned_abs (x -ℤ y) ≤ unsigned_abs x + unsigned_abs y
abs_sub x y = grind arith

abs_mul : (x y : ℤ) → unsigned_abs (x *ℤ y) ≡ unsigned_abs x * unsigned_abs y
abs_mul x y = grind arith

abs_div : (x c : ℤ) → unsigned_abs (int_div x c) ≤ unsigned_abs x
abs_div x c = grind arith

abs_rem : (x c : ℤ) → unsigned_abs (int_rem x c) ≤ unsigned_abs x
abs_rem x c = grind arith

fits : (x : ℤ) → unsigned_abs x ≤ 2 ^ 126 → FitsSigned w128 x
fits x h = grind arith

doubled : (k : ℕ) → 2 ^ (k + 1) ≡ 2 ^ k + 2 ^ k
doubled k = omega (arith, pow-add 2 k 1)

pub wider : (j k : ℕ) (v : Value) → j ≤ k → IsBelow j v → IsBelow k v
wider j k Null h b = tt
wider j k (Text t) h b = tt
wider j k (Int x) h b = let p : 2 ^ j ≤ 2 ^ k = pow_mono h in omega arith

pub fits_value : (k : ℕ) (v : Value) → k ≤ 126 → IsBelow k v → Fits v
fits_value k Null h b = tt
fits_value k (Text t) h b = tt
fits_value k (Int x) h b = let p : 2 ^ k ≤ 2 ^ 126 = pow_mono h in fits x (omega arith)

below_neg : (k : ℕ) (v : Value) → IsBelow k v → IsBelow (k + 1) (of_number neg_ℤ v)
below_neg k Null b = tt
below_neg k (Text t) b = tt
below_neg k (Int x) b = omega (arith, doubled k, abs_neg x)

sums : (f : ℤ → ℤ → ℤ) → ((x y : ℤ) → unsigned_abs (f x y) ≤ unsigned_abs x + unsigned_abs y) → (j k : ℕ) (v w : Value) → IsBelow j v → IsBelow k w → IsBelow (max j k + 1) (of_numbers f v w)
sums f h j k Null w b c = tt
sums f h j k (Text t) w b c = tt
sums f h j k (Int x) Null b c = tt
sums f h j k (Int x) (Text t) b c = tt
sums f h j k (Int x) (Int y) b c =
    let left : 2 ^ j ≤ 2 ^ (max j k) = pow_mono (omega arith) in
    let right : 2 ^ k ≤ 2 ^ (max j k) = pow_mono (omega arith) in
    omega (arith, doubled (max j k), h x y)

products : (j k : ℕ) (v w : Value) → IsBelow j v → IsBelow k w → IsBelow (j + k) (of_numbers ◌*ℤ◌ v w)
products j k Null w b c = tt
products j k (Text t) w b c = tt
products j k (Int x) Null b c = tt
products j k (Int x) (Text t) b c = tt
products j k (Int x) (Int y) b c = rw (abs_mul x y, pow-add 2 j k) (mul-le-mul b c)

below_div : (k : ℕ) (v : Value) (c : ℤ) → IsBelow k v → IsBelow k (of_number (λ x. int_div x c) v)
below_div k Null c b = tt
below_div k (Text t) c b = tt
below_div k (Int x) c b = omega (arith, abs_div x c)

below_rem : (k : ℕ) (v : Value) (c : ℤ) → IsBelow k v → IsBelow k (of_number (λ x. int_rem x c) v)
below_rem k Null c b = tt
below_rem k (Text t) c b = tt
below_rem k (Int x) c b = omega (arith, abs_rem x c)

below_column : (ks : List ℕ) (row : Row) (at : ℕ) → Within ks row → IsBelow (slice_index_or ks at 0) (column row at)
below_column [] [] at h = tt
below_column [] (v ∷ vs) at h = absurd h
below_column (k ∷ ks) [] at h = absurd h
below_column (k ∷ ks) (v ∷ vs) zero h = h.0
below_column (k ∷ ks) (v ∷ vs) (suc at) h = below_column ks vs at h.1

pub same_length : (ks : List ℕ) (row : Row) → Within ks row → length row ≡ length ks
same_length [] [] h = refl
same_length [] (v ∷ vs) h = absurd h
same_length (k ∷ ks) [] h = absurd h
same_length (k ∷ ks) (v ∷ vs) h = ap suc (same_length ks vs h.1)

below_first : (j k : ℕ) (v w : Value) → IsBelow j v → IsBelow k w → IsBelow (max j k) (known_or v w)
below_first j k Null w b c = wider k (max j k) w (omega arith) c
below_first j k (Int x) w b c = wider j (max j k) (Int x) (omega arith) b
below_first j k (Text t) w b c = tt

abbrev IsBelowIf : ℕ → Option Value → Type 0
IsBelowIf k None = ⊤
IsBelowIf k (Some v) = IsBelow k v

wider_if : (j k : ℕ) (o : Option Value) → j ≤ k → IsBelowIf j o → IsBelowIf k o
wider_if j k None h b = tt
wider_if j k (Some v) h b = wider j k v h b

below_picked : (j k : ℕ) (t : Truth) (v : Value) (o : Option Value) → IsBelow j v → IsBelowIf k o → IsBelowIf (max j k) (if_yes t v o)
below_picked j k Yes v o b c = wider j (max j k) v (omega arith) b
below_picked j k No v o b c = wider_if k (max j k) o (omega arith) c
below_picked j k Unknown v o b c = wider_if k (max j k) o (omega arith) c

below_or : (j k : ℕ) (o : Option Value) (v : Value) → IsBelowIf j o → IsBelow k v → IsBelow (max j k) (unwrap_or o v)
below_or j k None v b c = wider k (max j k) v (omega arith) c
below_or j k (Some w) v b c = wider j (max j k) w (omega arith) b

module _ (ks : List ℕ) (row : Row) (rs : List (List Row)) (within : Within ks row) where
  mutual
    pub below : (e : Expr) → IsBound ks (length rs) e → IsBelow (bits ks e) (value_of e row rs)
    below (Literal v) h = h
    below (Column at) h = below_column ks row at within
    below (Neg' p (more_of-Expr e end_of-Expr)) h = below_neg (bits ks e) (value_of e row rs) (below e h.0)
    below (Add' p (more_of-Expr a end_of-Expr) q (more_of-Expr b end_of-Expr)) h = sums ◌+ℤ◌ abs_add (bits ks a) (bits ks b) (value_of a row rs) (value_of b row rs) (below a h.0) (below b h.1)
    below (Sub' p (more_of-Expr a end_of-Expr) q (more_of-Expr b end_of-Expr)) h = sums ◌-ℤ◌ abs_sub (bits ks a) (bits ks b) (value_of a row rs) (value_of b row rs) (below a h.0) (below b h.1)
    below (Mul' p (more_of-Expr a end_of-Expr) q (more_of-Expr b end_of-Expr)) h = products (bits ks a) (bits ks b) (value_of a row rs) (value_of b row rs) (below a h.0) (below b h.1)
    below (Div' p (more_of-Expr a end_of-Expr) c) h = wider (bits ks a) (bits ks a + 1) (of_number (λ x. int_div x c) (value_of a row rs)) (omega arith) (below_div (bits ks a) (value_of a row rs) c (below a h.0))
    below (Rem' p (more_of-Expr a end_of-Expr) c) h = below_rem (bits ks a) (value_of a row rs) c (below a h.0)
    below (Case' s arms p (more_of-Expr other end_of-Expr)) h = below_or (bits_of_arms ks arms) (bits ks other) (arm_value arms row rs) (value_of other row rs) (below_arms arms h.0) (below other h.1)
    below (Coalesce' s es) h = below_all es h

    below_arms : {n : _} (k : Row_of-Arm n) → AreBoundArms ks (length rs) k → IsBelowIf (bits_of_arms ks k) (arm_value k row rs)
    below_arms end_of-Arm h = tt
    below_arms (more_of-Arm c e more) h = below_picked (bits ks e) (bits_of_arms ks more) (truth_of c row rs) (value_of e row rs) (arm_value more row rs) (below e h.1) (below_arms more h.2)

    below_all : {n : _} (k : Row_of-Expr n) → AreBound ks (length rs) k → IsBelow (bits_of_all ks k) (first_known k row rs)
    below_all end_of-Expr h = tt
    below_all (more_of-Expr e more) h = below_first (bits ks e) (bits_of_all ks more) (value_of e row rs) (first_known more row rs) (below e h.0) (below_all more h.1)

  mutual
    pub safe : (e : Expr) → IsBound ks (length rs) e → IsSafe e row rs
    safe (Literal v) h = tt
    safe (Column at) h = let e = same_length ks row within in omega arith
    safe (Neg' p (more_of-Expr e end_of-Expr)) h = (safe e h.0, fits_value (bits ks e + 1) (of_number neg_ℤ (value_of e row rs)) h.1 (below (Neg' p (more_of-Expr e end_of-Expr)) h))
    safe (Add' p (more_of-Expr a end_of-Expr) q (more_of-Expr b end_of-Expr)) h = (safe a h.0, safe b h.1, fits_value (max (bits ks a) (bits ks b) + 1) (of_numbers ◌+ℤ◌ (value_of a row rs) (value_of b row rs)) h.2 (below (Add' p (more_of-Expr a end_of-Expr) q (more_of-Expr b end_of-Expr)) h))
    safe (Sub' p (more_of-Expr a end_of-Expr) q (more_of-Expr b end_of-Expr)) h = (safe a h.0, safe b h.1, fits_value (max (bits ks a) (bits ks b) + 1) (of_numbers ◌-ℤ◌ (value_of a row rs) (value_of b row rs)) h.2 (below (Sub' p (more_of-Expr a end_of-Expr) q (more_of-Expr b end_of-Expr)) h))
    safe (Mul' p (more_of-Expr a end_of-Expr) q (more_of-Expr b end_of-Expr)) h = (safe a h.0, safe b h.1, fits_value (bits ks a + bits ks b) (of_numbers ◌*ℤ◌ (value_of a row rs) (value_of b row rs)) h.2 (below (Mul' p (more_of-Expr a end_of-Expr) q (more_of-Expr b end_of-Expr)) h))
    safe (Div' p (more_of-Expr a end_of-Expr) c) h = (safe a h.0, fits_value (bits ks a + 1) (of_number (λ x. int_div x c) (value_of a row rs)) h.1 (below (Div' p (more_of-Expr a end_of-Expr) c) h), h.2)
    safe (Rem' p (more_of-Expr a end_of-Expr) c) h = (safe a h.0, fits_value (bits ks a) (of_number (λ x. int_div x c) (value_of a row rs)) h.1 (below_div (bits ks a) (value_of a row rs) c (below a h.0)), h.2)
    safe (Case' s arms p (more_of-Expr other end_of-Expr)) h = (safe_arms arms h.0, safe other h.1)
    safe (Coalesce' s es) h = safe_all es h

    safe_arms : {n : _} (k : Row_of-Arm n) → AreBoundArms ks (length rs) k → AreSafeArms k row rs
    safe_arms end_of-Arm h = tt
    safe_arms (more_of-Arm c e more) h = (safe_condition c h.0, safe e h.1, safe_arms more h.2)

    safe_all : {n : _} (k : Row_of-Expr n) → AreBound ks (length rs) k → AreSafe k row rs
    safe_all end_of-Expr h = tt
    safe_all (more_of-Expr e more) h = (safe e h.0, safe_all more h.1)

    pub safe_condition : (c : Cond) → IsBoundCondition ks (length rs) c → IsSafeCondition c row rs
    safe_condition (Compare op a b) h = (safe a h.0, safe b h.1)
    safe_condition (IsNull e) h = safe e h
    safe_condition (InResult e i) h = (safe e h.0, h.1)
    safe_condition (And' p (more_of-Cond a end_of-Cond) q (more_of-Cond b end_of-Cond)) h = (safe_condition a h.0, safe_condition b h.1)
    safe_condition (Or' p (more_of-Cond a end_of-Cond) q (more_of-Cond b end_of-Cond)) h = (safe_condition a h.0, safe_condition b h.1)
    safe_condition (Not' p (more_of-Cond a end_of-Cond)) h = safe_condition a h
    safe_condition Always h = tt

-- a sum of n values of a width is below n times its bound
abbrev IsUnder : ℕ → ℕ → Value → Type 0
IsUnder m k Null = ⊤
IsUnder m k (Int x) = unsigned_abs x ≤ m * 2 ^ k
IsUnder m k (Text t) = ⊤

under_more : (m k : ℕ) (v : Value) → IsUnder m k v → IsUnder (m + 1) k v
under_more m k Null h = tt
under_more m k (Text t) h = tt
under_more m k (Int x) h = omega (arith, h)

under_added : (m k : ℕ) (sum v : Value) → IsUnder m k sum → IsBelow k v → IsUnder (m + 1) k (added sum v)
under_added m k sum Null h b = under_more m k sum h
under_added m k sum (Text t) h b = under_more m k sum h
under_added m k (Int x) (Int y) h b = omega (arith, h, b, abs_add x y)
under_added m k Null (Int y) h b = omega (arith, b)
under_added m k (Text s) (Int y) h b = omega (arith, b)

pub sum_under : (k m : ℕ) (sum : Value) (vs : List Value) → IsUnder m k sum → AllByRecursion (IsBelow k) vs → IsUnder (m + length vs) k (fold added sum vs)
sum_under k m sum [] h b = rw add-zero h
sum_under k m sum (v ∷ vs) h b =
    let e : (m + 1) + length vs ≡ m + suc (length vs) = omega arith in
    subst (λ n. IsUnder n k (fold added (added sum v) vs)) e (sum_under k (m + 1) (added sum v) vs (under_added m k sum v h b.0) b.1)

-- so a sum of at most 2^31 values of width k + 1 has width k + 32
pub sum_below : (k : ℕ) (vs : List Value) → length vs ≤ 2 ^ 31 → AllByRecursion (IsBelow k) vs → IsBelow (k + 31) (sum_of vs)
sum_below k vs few b = lower k (length vs) (sum_of vs) few (subst (λ n. IsUnder n k (sum_of vs)) (zero-add (length vs)) (sum_under k 0 Null vs tt b))
  where
    lower : (k n : ℕ) (v : Value) → n ≤ 2 ^ 31 → IsUnder n k v → IsBelow (k + 31) v
    lower k n Null few h = tt
    lower k n (Text t) few h = tt
    lower k n (Int x) few h = rw (pow-add 2 k 31) (let p : n * 2 ^ k ≤ 2 ^ 31 * 2 ^ k = mul-le-mul_right (2 ^ k) few in omega (arith, p, h))
