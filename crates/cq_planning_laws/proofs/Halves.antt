-- An IN of literals, as the binder makes it, is found.
use Rattle.std.proofs.Common.{◌≡◌, ℕ, zero, suc, ◌-◌, ◌/◌, ◌<◌, ◌≤◌, List, [], ◌∷◌, ◌++◌, map, length, take, drop, true, ◌||◌, nat_eq, Some, refl, ap, ◌∙◌, arith, length-drop}
use Rattle.std.proofs.lemmas.List.{take-append-drop, length-map, length-take-le}
use Rattle.cq_value.specs.declared.value.Value.{Value}
use Rattle.cq_tree.specs.declared.expression.Op.TheVariants.{Eq}
use Rattle.cq_tree.specs.declared.expression.Expr.{Literal, Column}
use Rattle.cq_tree.specs.declared.expression.Cond.{Cond, Compare, Or}
use Rattle.cq_tree.proofs.Opened.{or_is}
use Rattle.cq_meaning.specs.Chains.{halves, halved}
use Rattle.cq_planning.specs.Conjuncts.{in_list, both_halves}

in_list_or : (a b : Cond) → in_list (Or a b) ≡ both_halves (in_list a) (in_list b)
in_list_or a b = ap in_list (or_is a b)

abbrev pub equal_to : ℕ → Value → Cond
equal_to y v = Compare Eq (Column y) (Literal v)

map_take : (f : Value → Cond) (n : ℕ) (xs : List Value) → take n (map f xs) ≡ map f (take n xs)
map_take f zero xs = refl
map_take f (suc n) [] = refl
map_take f (suc n) (x ∷ xs) = ap (λ us. f x ∷ us) (map_take f n xs)

map_drop : (f : Value → Cond) (n : ℕ) (xs : List Value) → drop n (map f xs) ≡ map f (drop n xs)
map_drop f zero xs = refl
map_drop f (suc n) [] = refl
map_drop f (suc n) (x ∷ xs) = map_drop f n xs

even_parts : (n k : ℕ) → k ≡ n - n / 2 → (nat_eq k (n - k) || nat_eq k (suc (n - k))) ≡ true
even_parts n k e = grind arith

same_column : (y : ℕ) → nat_eq y y ≡ true
same_column y = grind arith

joined : (y : ℕ) (us vs : List Value) → (nat_eq (length us) (length vs) || nat_eq (length us) (suc (length vs))) ≡ true → both_halves (Some (y, us)) (Some (y, vs)) ≡ Some (y, us ++ vs)
joined y us vs e = rw (same_column y, e)

abbrev half : List Cond → ℕ
half cs = length cs - length cs / 2

pub in_list_halves : (fuel y : ℕ) (xs : List Value) → 0 < length xs → length xs ≤ suc fuel → in_list (halves fuel true (map (equal_to y) xs)) ≡ Some (y, xs)
in_list_halves fuel y [] some few = absurd (omega arith)
in_list_halves fuel y (v ∷ []) some few = refl
in_list_halves zero y (v ∷ (w ∷ ws)) some few = absurd (omega arith)
in_list_halves (suc fuel) y (v ∷ (w ∷ ws)) some few =
    step (v ∷ (w ∷ ws)) (half (map (equal_to y) (v ∷ (w ∷ ws)))) (ap (λ n. n - n / 2) (length-map (v ∷ (w ∷ ws)) (equal_to y)))
    (in_list_halves fuel y (take (half (map (equal_to y) (v ∷ (w ∷ ws)))) (v ∷ (w ∷ ws)))) (in_list_halves fuel y (drop (half (map (equal_to y) (v ∷ (w ∷ ws)))) (v ∷ (w ∷ ws)))) (omega arith) few
  where
    step : (xs : List Value) (k : ℕ) → k ≡ length xs - length xs / 2 →
        (0 < length (take k xs) → length (take k xs) ≤ suc fuel → in_list (halves fuel true (map (equal_to y) (take k xs))) ≡ Some (y, take k xs)) →
        (0 < length (drop k xs) → length (drop k xs) ≤ suc fuel → in_list (halves fuel true (map (equal_to y) (drop k xs))) ≡ Some (y, drop k xs)) →
        2 ≤ length xs → length xs ≤ suc (suc fuel) →
        in_list (Or (halves fuel true (take k (map (equal_to y) xs))) (halves fuel true (drop k (map (equal_to y) xs)))) ≡ Some (y, xs)
    step xs k e left right two few =
        let a : length (take k xs) ≡ k = length-take-le k xs (omega arith) in
        let b : length (drop k xs) ≡ length xs - k = length-drop k xs in
        let l : in_list (halves fuel true (map (equal_to y) (take k xs))) ≡ Some (y, take k xs) = left (omega arith) (omega arith) in
        let r : in_list (halves fuel true (map (equal_to y) (drop k xs))) ≡ Some (y, drop k xs) = right (omega arith) (omega arith) in
        let t : (nat_eq (length (take k xs)) (length (drop k xs)) || nat_eq (length (take k xs)) (suc (length (drop k xs)))) ≡ true = rw (a, b) (even_parts (length xs) k e) in
        in_list_or (halves fuel true (take k (map (equal_to y) xs))) (halves fuel true (drop k (map (equal_to y) xs)))
        ∙ (ap (λ p. both_halves (in_list (halves fuel true p)) (in_list (halves fuel true (drop k (map (equal_to y) xs))))) (map_take (equal_to y) k xs)
        ∙ (ap (λ p. both_halves (in_list (halves fuel true (map (equal_to y) (take k xs)))) (in_list (halves fuel true p))) (map_drop (equal_to y) k xs)
        ∙ (ap (λ m. both_halves m (in_list (halves fuel true (map (equal_to y) (drop k xs))))) l ∙ (ap (λ m. both_halves (Some (y, take k xs)) m) r
        ∙ (joined y (take k xs) (drop k xs) t ∙ ap (λ us. Some (y, us)) (take-append-drop k xs))))))

pub in_is_found : (y : ℕ) (v : Value) (vs : List Value) → in_list (halved true (map (equal_to y) (v ∷ vs))) ≡ Some (y, v ∷ vs)
in_is_found y v vs =
    let long : length (map (equal_to y) (v ∷ vs)) ≡ length (v ∷ vs) = length-map (v ∷ vs) (equal_to y) in
    in_list_halves (length (map (equal_to y) (v ∷ vs))) y (v ∷ vs) (omega arith) (omega (arith, long))
