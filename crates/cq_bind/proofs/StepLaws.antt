-- The steps of the loops, and the digits of literals.
use Rattle.std.proofs.Common.{◌≡◌, ℕ, zero, suc, ◌+◌, ◌*◌, ◌/◌, ◌-◌, ◌^◌, ◌<◌, ◌≤◌, true, false, cond, min, max, List, [], ◌∷◌, drop, length, get_or, refl, sym, ap, ◌∙◌, subst, arith, add-one, drop-cons}
use Rattle.std.specs.Prelude.{nat_eq}
use Rattle.std.proofs.lemmas.Nat.{pow-add, leading_length}
use Rattle.std.proofs.lemmas.Bool.{ne_eqb}
use Rattle.std.specs.Int.Count.{count_leading_zeros}
use Rattle.cq_tree.specs.declared.expression.Expr.{Expr}
use Rattle.cq_tree.specs.declared.expression.Arm.{Arm}
use Rattle.cq_meaning.specs.Widths.{digits_in, bits}
use Rattle.cq_bind.specs.TreeLists.{bits_of_arms_in, bits_of_all_in}

pub all_more : {X : Type 0} (P : X → Type 0) (xs : List X) (i : ℕ) (x : X) → i < length xs → x ≡ get_or xs i x → ((k : ℕ) (d : X) → k < i → P (get_or xs k d)) → P x → (k : ℕ) (d : X) → k < i + 1 → P (get_or xs k d)
all_more P [] i x below is h p k d l = absurd (omega arith)
all_more P (y ∷ xs) zero x below is h p zero d l = subst P is p
all_more P (y ∷ xs) zero x below is h p (suc k) d l = absurd (omega arith)
all_more P (y ∷ xs) (suc i) x below is h p zero d l = h 0 d (omega arith)
all_more P (y ∷ xs) (suc i) x below is h p (suc k) d l = all_more P xs i x (omega arith) is (λ k d l. h (suc k) d (omega arith)) p k d (omega arith)

max_joined : (i j k : ℕ) → max (max i j) k ≡ max i (max j k)
max_joined i j k = omega arith

pub all_step : (ks : List ℕ) (es : List Expr) (i : ℕ) (e : Expr) (most k whole : ℕ) → i < length es → e ≡ get_or es i e → k ≡ bits ks e → max most (bits_of_all_in ks (drop i es)) ≡ whole → max (max most k) (bits_of_all_in ks (drop (i + 1) es)) ≡ whole
all_step ks es i e most k whole below is same h =
    let d : drop i es ≡ e ∷ drop (i + 1) es = rw (add-one, drop-cons es i e) (ap (λ w. w ∷ drop (suc i) es) (sym is)) in
    max_joined most k (bits_of_all_in ks (drop (i + 1) es)) ∙ (ap (λ j. max most (max j (bits_of_all_in ks (drop (i + 1) es)))) same ∙ (ap (λ us. max most (bits_of_all_in ks us)) (sym d) ∙ h))

pub arms_step : (ks : List ℕ) (arms : List Arm) (i : ℕ) (arm : Arm) (most k whole : ℕ) → i < length arms → arm ≡ get_or arms i arm → k ≡ bits ks arm.then → max most (bits_of_arms_in ks (drop i arms)) ≡ whole → max (max most k) (bits_of_arms_in ks (drop (i + 1) arms)) ≡ whole
arms_step ks arms i arm most k whole below is same h =
    let d : drop i arms ≡ arm ∷ drop (i + 1) arms = rw (add-one, drop-cons arms i arm) (ap (λ w. w ∷ drop (suc i) arms) (sym is)) in
    max_joined most k (bits_of_arms_in ks (drop (i + 1) arms)) ∙ (ap (λ j. max most (max j (bits_of_arms_in ks (drop (i + 1) arms)))) same ∙ (ap (λ us. max most (bits_of_arms_in ks us)) (sym d) ∙ h))

twice : (d : ℕ) → 2 ^ suc d ≡ 2 ^ d + 2 ^ d
twice d = subst (λ k. 2 ^ k ≡ 2 ^ d + 2 ^ d) (add-one d) (omega (arith, pow-add 2 d 1))

half_above : (n d : ℕ) → n / 2 < 2 ^ d → n < 2 ^ suc d
half_above n d h = omega (arith, h, twice d)

half_below : (n d : ℕ) → n < 2 ^ suc d → n / 2 < 2 ^ d
half_below n d h = omega (arith, h, twice d)

digits_above : (most n : ℕ) → n < 2 ^ most → n < 2 ^ digits_in most n
digits_above zero n h = h
digits_above (suc most) n h =
    elim (nat_eq n 0) as (λ b. nat_eq n 0 ≡ b → n < 2 ^ cond b 0 (suc (digits_in most (n / 2)))) [
      | true ↦ (λ e. grind (arith, e))
      | false ↦ (λ e. half_above n (digits_in most (n / 2)) (digits_above most (n / 2) (half_below n most h)))
    ] refl

pub digits_below : (n : ℕ) → n < 340282366920938463463374607431768211456 → n ≤ 2 ^ digits_in 128 n
digits_below n h = let k = digits_above 128 n h in omega (arith, k)

-- a number of m digits: 2 ^ (m - 1) or more, and below 2 ^ m
digits_of : (most n m : ℕ) → n < 2 ^ m → 2 ^ m ≤ 2 * n + 1 → min most m ≡ digits_in most n
digits_of zero n m below above = omega arith
digits_of (suc most) n zero below above = let none : n ≡ 0 = omega (arith, below) in rw none (omega arith)
digits_of (suc most) n (suc m) below above =
    let some : nat_eq n 0 ≡ false = ne_eqb n 0 (λ e. omega (arith, below, above, twice m, e)) in
    let rest = digits_of most (n / 2) m (half_below n m below) (omega (arith, above, twice m)) in
    rw some (omega (arith, rest))

-- as the processor counts them
pub digits_counted : (most n : ℕ) → n < 340282366920938463463374607431768211456 → min most (128 - count_leading_zeros 128 n) ≡ digits_in most n
digits_counted most n h =
    let (m, whole, below, above) = leading_length 128 n h in
    let same : 128 - count_leading_zeros 128 n ≡ m = omega (arith, whole) in
    rw same (digits_of most n m below above)
