-- The query of a right side that is planned by itself, as code makes it.
use Rattle.std.proofs.Common.{◌≡◌, ℕ, zero, suc, ◌+◌, ◌-◌, ◌/◌, ◌<◌, ◌≤◌, List, [], ◌∷◌, ◌++◌, map, length, take, drop, true, Some, refl, sym, ap, ◌∙◌, arith, add-one, add-zero, zero-add, length-drop}
use Rattle.std.proofs.lemmas.List.{length-take-le, take_all}
use Rattle.cq_value.specs.declared.value.Value.{Value}
use Rattle.cq_value.specs.declared.value.Value.TheVariants.{Null}
use Rattle.cq_tree.specs.declared.expression.Op.TheVariants.{Eq}
use Rattle.cq_tree.specs.declared.expression.Expr.{Literal, Column}
use Rattle.cq_tree.specs.declared.expression.Cond.{Cond, Compare, Or}
use Rattle.cq_meaning.specs.Chains.{halves}
use Rattle.cq_task_laws.specs.Partial.{columns_from}
use Rattle.cq_one_plan.specs.Stays.{set_filter}
use Rattle.cq_planner.specs.Made.{IsHalved}

-- ---- columns

further : (at n : ℕ) → suc at + n ≡ at + suc n
further at n = omega arith

columns_on : (at n : ℕ) → columns_from at (suc n) ≡ columns_from at n ++ Column (at + n) ∷ []
columns_on at zero = ap (λ k. Column k ∷ []) (sym (add-zero at))
columns_on at (suc n) = ap (λ es. Column at ∷ es) (columns_on (suc at) n ∙ ap (λ k. columns_from (suc at) n ++ Column k ∷ []) (further at n))

pub columns_push : (n : ℕ) → columns_from 0 (n + 1) ≡ columns_from 0 n ++ Column n ∷ []
columns_push n = ap (columns_from 0) (add-one n) ∙ (columns_on 0 n ∙ ap (λ k. columns_from 0 n ++ Column k ∷ []) (zero-add n))

-- ---- values

abbrev pub equality : ℕ → Value → Cond
equality y v = Compare Eq (Column y) (Literal v)

map_take : (f : Value → Cond) (n : ℕ) (xs : List Value) → take n (map f xs) ≡ map f (take n xs)
map_take f zero xs = refl
map_take f (suc n) [] = refl
map_take f (suc n) (x ∷ xs) = ap (λ us. f x ∷ us) (map_take f n xs)

map_drop : (f : Value → Cond) (n : ℕ) (xs : List Value) → drop n (map f xs) ≡ map f (drop n xs)
map_drop f zero xs = refl
map_drop f (suc n) [] = refl
map_drop f (suc n) (x ∷ xs) = map_drop f n xs

long : (f : Value → Cond) (xs : List Value) → length (map f xs) ≡ length xs
long f [] = refl
long f (x ∷ xs) = ap suc (long f xs)

abbrev half : List Cond → ℕ
half cs = length cs - length cs / 2

in_halves : (most : ℕ) (cs : List Cond) → 2 ≤ length cs → halves (suc most) true cs ≡ Or (halves most true (take (half cs) cs)) (halves most true (drop (half cs) cs))
in_halves most [] h = absurd (omega (arith, h))
in_halves most (c ∷ []) h = absurd (omega (arith, h))
in_halves most (c ∷ (d ∷ cs)) h = refl

pub two_halved : (y : ℕ) (values first second : List Value) (k : ℕ) (a b : Cond) → 2 ≤ length values → k ≡ length values - length values / 2 → first ≡ take k values → second ≡ drop k values →
    IsHalved y first a → IsHalved y second b → IsHalved y values (Or a b)
two_halved y values first second k a b many e f s l r = record { made = by_steps }
  where
    few_first : length first ≡ k
    few_first = rw f (length-take-le k values (omega (arith, e)))

    few_second : length second ≡ length values - k
    few_second = rw s (length-drop k values)

    by_steps : (most : ℕ) → length values ≤ suc most → Or a b ≡ halves most true (map (equality y) values)
    by_steps zero few = absurd (omega (arith, many, few))
    by_steps (suc most) few =
        let cs : List Cond = map (equality y) values in
        let count : length cs ≡ length values = long (equality y) values in
        let at : half cs ≡ k = (λ i. count i - count i / 2) ∙ sym e in
        let taken : take (half cs) cs ≡ map (equality y) first = ap (λ n. take n cs) at ∙ (map_take (equality y) k values ∙ ap (map (equality y)) (sym f)) in
        let left_out : drop (half cs) cs ≡ map (equality y) second = ap (λ n. drop n cs) at ∙ (map_drop (equality y) k values ∙ ap (map (equality y)) (sym s)) in
        let made_first : a ≡ halves most true (map (equality y) first) = l.made most (omega (arith, many, few, e, few_first)) in
        let made_second : b ≡ halves most true (map (equality y) second) = r.made most (omega (arith, many, few, e, few_second)) in
        (λ i. Or (made_first i) (made_second i))
        ∙ ((λ i. Or (halves most true (sym taken i)) (halves most true (sym left_out i)))
        ∙ sym (in_halves most cs (omega (arith, count, many))))

pub rest_taken : (k : ℕ) (values : List Value) → take (length values - k) (drop k values) ≡ drop k values
rest_taken k values = take_all (length values - k) (drop k values) (omega (arith, length-drop k values))

pub none_listed : (y : ℕ) (values : List Value) (c : Cond) → length values ≡ 0 → c ≡ equality y Null → c ≡ set_filter y (Some values)
none_listed y [] c n e = e
none_listed y (v ∷ vs) c n e = absurd (omega (arith, n))

pub some_listed : (y : ℕ) (values : List Value) (c : Cond) → 0 < length values → IsHalved y values c → c ≡ set_filter y (Some values)
some_listed y [] c n h = absurd (omega (arith, n))
some_listed y (v ∷ vs) c n h = h.made (length (map (equality y) (v ∷ vs))) (omega (arith, long (equality y) (v ∷ vs)))
