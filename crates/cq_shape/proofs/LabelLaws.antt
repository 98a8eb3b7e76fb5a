-- Labels are the first columns of classes.
use Rattle.std.proofs.Common.{◌≡◌, ℕ, zero, suc, ◌+◌, ◌<◌, ◌≤◌, min, max, List, [], ◌∷◌, ◌++◌, fold, length, map, get_or, false, nat_eq, refl, sym, ◌∙◌, arith, length-append}
use Rattle.std.proofs.lemmas.List.{length-map, get_or-map, get_or_append_left, get_or_at}
use native.Mathlib.Decide.{dec_lt}
use Rattle.cq_planning.specs.Classes.{merged, itself}
use Rattle.cq_shape.specs.Labels.{up_to, label, columns_of, relabelled, merged_labels}

pub length_up_to : (n : ℕ) → length (up_to n) ≡ n
length_up_to zero = refl
length_up_to (suc n) = rw (length-append (up_to n) (n ∷ [])) (let e : length (up_to n) ≡ n = length_up_to n in omega arith)

past_end : {X : Type 0} (xs : List X) (k : ℕ) (d : X) → length xs ≤ k → get_or xs k d ≡ d
past_end [] k d h = refl
past_end (x ∷ xs) zero d h = absurd (omega arith)
past_end (x ∷ xs) (suc k) d h = past_end xs k d (omega arith)

at_up_to : (n c d : ℕ) → c < n → get_or (up_to n) c d ≡ c
at_up_to zero c d h = absurd (omega arith)
at_up_to (suc n) c d h = pick (at_up_to n c d) (dec_lt c n)
  where
    pick : (c < n → get_or (up_to n) c d ≡ c) → Dec (c < n) → get_or (up_to n ++ n ∷ []) c d ≡ c
    pick rest (yes k) = get_or_append_left (up_to n) (n ∷ []) d c (rw length_up_to k) ∙ rest k
    pick rest (no k) = let e : c ≡ n = omega arith in rw e (get_or_at (up_to n) n [] d n (length_up_to n))

label_up_to : (n x : ℕ) → label (up_to n) x ≡ x
label_up_to n x = pick (dec_lt x n)
  where
    pick : Dec (x < n) → label (up_to n) x ≡ x
    pick (yes h) = at_up_to n x x h
    pick (no h) = past_end (up_to n) x x (rw length_up_to (omega arith))

-- each column is its own label before the first equality
pub labels_alone : (n : ℕ) → label (up_to n) ≡ itself
labels_alone n = λ i x. label_up_to n x i

pub length_merged : (ls : List ℕ) (e : ℕ × ℕ) → length (merged_labels ls e) ≡ length ls
length_merged ls e = simp length-map

not_equal : (x y : ℕ) → y < x → nat_eq x y ≡ false
not_equal x y h = grind arith

-- an equality merges labels as it merges classes
label_merged : (ls : List ℕ) (e : ℕ × ℕ) → ((x : ℕ) → x < length ls → label ls x < length ls) → e.0 < length ls → e.1 < length ls → (x : ℕ) → label (merged_labels ls e) x ≡ merged (label ls) e x
label_merged ls e below p q x = pick (dec_lt x (length ls))
  where
    pick : Dec (x < length ls) → label (merged_labels ls e) x ≡ merged (label ls) e x
    pick (yes h) = get_or-map (relabelled (max (label ls e.0) (label ls e.1)) (min (label ls e.0) (label ls e.1))) ls x x x h
    pick (no h) =
        let a : label ls e.0 < length ls = below e.0 p in
        let b : label ls e.1 < length ls = below e.1 q in
        let far : get_or (merged_labels ls e) x x ≡ x = past_end (merged_labels ls e) x x (rw length_merged (omega arith)) in
        let own : label ls x ≡ x = past_end ls x x (omega arith) in
        let no : nat_eq x (max (label ls e.0) (label ls e.1)) ≡ false = not_equal x (max (label ls e.0) (label ls e.1)) (omega arith) in
        far ∙ sym (rw (own, no) refl)

pub labels_merged : (ls : List ℕ) (e : ℕ × ℕ) → ((x : ℕ) → x < length ls → label ls x < length ls) → e.0 < length ls → e.1 < length ls → label (merged_labels ls e) ≡ merged (label ls) e
labels_merged ls e below p q = λ i x. label_merged ls e below p q x i

lowered : (a b z n : ℕ) → a < n → b < n → z < n → relabelled (max a b) (min a b) z < n
lowered a b z n p q r = grind arith

pub merged_below : (ls : List ℕ) (e : ℕ × ℕ) → ((x : ℕ) → x < length ls → label ls x < length ls) → e.0 < length ls → e.1 < length ls → (x : ℕ) → x < length (merged_labels ls e) → label (merged_labels ls e) x < length (merged_labels ls e)
merged_below ls e below p q x h =
    let k : x < length ls = rw length_merged at h in
    rw (length_merged ls e, get_or-map (relabelled (max (label ls e.0) (label ls e.1)) (min (label ls e.0) (label ls e.1))) ls x x x k)
    (lowered (label ls e.0) (label ls e.1) (label ls x) (length ls) (below e.0 p) (below e.1 q) (below x k))

grown : (n : ℕ) (pairs : List (ℕ × ℕ)) → n ≤ fold (λ n e. max n (max e.0 e.1 + 1)) n pairs
grown n [] = omega arith
grown n (e ∷ es) = let h : max n (max e.0 e.1 + 1) ≤ fold (λ n e. max n (max e.0 e.1 + 1)) (max n (max e.0 e.1 + 1)) es = grown (max n (max e.0 e.1 + 1)) es in omega arith

reached : (n : ℕ) (pairs : List (ℕ × ℕ)) (k : ℕ) (d : ℕ × ℕ) → k < length pairs → ((get_or pairs k d).0 < fold (λ n e. max n (max e.0 e.1 + 1)) n pairs) × ((get_or pairs k d).1 < fold (λ n e. max n (max e.0 e.1 + 1)) n pairs)
reached n [] k d h = absurd (omega arith)
reached n (e ∷ es) zero d h = let g : max n (max e.0 e.1 + 1) ≤ fold (λ n e. max n (max e.0 e.1 + 1)) (max n (max e.0 e.1 + 1)) es = grown (max n (max e.0 e.1 + 1)) es in (omega arith, omega arith)
reached n (e ∷ es) (suc k) d h = reached (max n (max e.0 e.1 + 1)) es k d (omega arith)

-- the columns of each equality are reached over
pub within : (pairs : List (ℕ × ℕ)) (k : ℕ) (d : ℕ × ℕ) → k < length pairs → ((get_or pairs k d).0 < columns_of pairs) × ((get_or pairs k d).1 < columns_of pairs)
within pairs k d h = reached 0 pairs k d h

alike : (x : ℕ) (ls : List ℕ) → map (relabelled x x) ls ≡ ls
alike x [] = refl
alike x (y ∷ ls) = let e : relabelled x x y ≡ y = grind arith in rw (e, alike x ls)

-- an equality of two columns of one class changes nothing
pub merged_alike : (ls : List ℕ) (e : ℕ × ℕ) → label ls e.0 ≡ label ls e.1 → merged_labels ls e ≡ ls
merged_alike ls e h =
    let high : max (label ls e.0) (label ls e.1) ≡ label ls e.1 = omega arith in
    let low : min (label ls e.0) (label ls e.1) ≡ label ls e.1 = omega arith in
    rw (high, low) (alike (label ls e.1) ls)

pub below_alone : (n x : ℕ) → x < length (up_to n) → label (up_to n) x < length (up_to n)
below_alone n x h = let e : label (up_to n) x ≡ x = label_up_to n x in omega arith
