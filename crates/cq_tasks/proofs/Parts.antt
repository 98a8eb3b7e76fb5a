-- What tasks read, one after the other.
use Rattle.std.proofs.Common.{◌≡◌, ◌<◌, ◌≤◌, ◌+◌, ℕ, zero, suc, Bool, true, false, List, [], ◌∷◌, ◌++◌, map, length, take, drop, get_or, refl, sym, ◌∙◌, ap, subst, arith, append_assoc, add-one}
use Rattle.std.specs.Prelude.{◌||◌, slice_index_or}
use Rattle.std.specs.List.{list_any, range_with_len, AllByRecursion}
use Rattle.std.proofs.lemmas.List.{take_more}
use Rattle.cq_value.proofs.Lists.{length_map}
use Rattle.cq_meaning.specs.Values.{Tables}
use Rattle.cq_tasks.specs.Execution.{parts_at, reads_by}

split_at : {A : Type 0} (all : List A) (n : ℕ) (x : A) → n < length all → x ≡ get_or all n x → all ≡ take n all ++ (x ∷ drop (suc n) all)
split_at [] n x l e = absurd (omega (arith, l))
split_at (y ∷ all) zero x l e = ap (λ z. z ∷ all) (sym e)
split_at (y ∷ all) (suc n) x l e = ap (λ zs. y ∷ zs) (split_at all n x (omega (arith, l)) e)

-- ---- the parts at places

any_default : (parts : List Tables) (i : ℕ) (a b : Tables) → i < length parts → get_or parts i a ≡ get_or parts i b
any_default [] i a b l = absurd (omega (arith, l))
any_default (p ∷ parts) zero a b l = refl
any_default (p ∷ parts) (suc i) a b l = any_default parts i a b (omega (arith, l))

module _ (parts : List Tables) where
  pub count_parts : (places : List ℕ) → length (parts_at parts places) ≡ length places
  count_parts places = length_map (λ i. slice_index_or parts i []) places

  -- there is a part at each of the places
  pub place_below : (places : List ℕ) (k place : ℕ) → k < length places → place ≡ get_or places k place → AllByRecursion (λ i. i < length parts) places → place < length parts
  place_below [] k place l e all = absurd (omega (arith, l))
  place_below (p ∷ places) zero place l e all = let h = all.0 in omega (arith, e, h)
  place_below (p ∷ places) (suc k) place l e all = place_below places k place (omega (arith, l)) e all.1

  pub picked : (places : List ℕ) (k place : ℕ) (own : Tables) → k < length places → place ≡ get_or places k place → place < length parts → own ≡ get_or parts place own → own ≡ get_or (parts_at parts places) k own
  picked [] k place own l e w o = absurd (omega (arith, l))
  picked (p ∷ places) zero place own l e w o = o ∙ (any_default parts place own [] w ∙ ap (λ i. get_or parts i []) e)
  picked (p ∷ places) (suc k) place own l e w o = picked places k place own (omega (arith, l)) e w o

-- one part more
pub one_more : (parts : List Tables) (k : ℕ) (own : Tables) → k < length parts → own ≡ get_or parts k own → take (k + 1) parts ≡ take k parts ++ own ∷ []
one_more parts k own l e = take_more parts k own l ∙ ap (λ o. take k parts ++ o ∷ []) (sym e)

pub all_taken : (parts : List Tables) (k : ℕ) → length parts ≤ k → take k parts ≡ parts
all_taken [] zero l = refl
all_taken [] (suc k) l = refl
all_taken (p ∷ parts) zero l = absurd (omega (arith, l))
all_taken (p ∷ parts) (suc k) l = ap (λ ps. p ∷ ps) (all_taken parts k (omega (arith, l)))

range_end : (first n : ℕ) → range_with_len first (suc n) ≡ range_with_len first n ++ (first + n) ∷ []
range_end first zero = ap (λ k. k ∷ []) (omega arith)
range_end first (suc n) = ap (λ ks. first ∷ ks) (range_end (first + 1) n ∙ ap (λ k. range_with_len (first + 1) n ++ k ∷ []) (omega arith))

pub range_more : (n : ℕ) → range_with_len 0 (n + 1) ≡ range_with_len 0 n ++ n ∷ []
range_more n = rw add-one (range_end 0 n ∙ ap (λ k. range_with_len 0 n ++ k ∷ []) (omega arith))

-- at all places there are all parts
pub all_there : (first count n : ℕ) → first + count ≡ n → AllByRecursion (λ i. i < n) (range_with_len first count)
all_there first zero n e = tt
all_there first (suc count) n e = (omega (arith, e), all_there (first + 1) count n (omega (arith, e)))

read_from : (front parts : List Tables) → parts_at (front ++ parts) (range_with_len (length front) (length parts)) ≡ parts
read_from front [] = refl
read_from front (p ∷ parts) =
    let e : length (front ++ p ∷ []) ≡ length front + 1 = length_more front p in
    λ i. at_end front i ∷ (ap (λ all. parts_at all (range_with_len (length front + 1) (length parts))) (sym (append_assoc front (p ∷ []) parts))
    ∙ (ap (λ n. parts_at ((front ++ p ∷ []) ++ parts) (range_with_len n (length parts))) (sym e) ∙ read_from (front ++ p ∷ []) parts)) i
  where
    length_more : (xs : List Tables) (x : Tables) → length (xs ++ x ∷ []) ≡ length xs + 1
    length_more [] x = refl
    length_more (y ∷ xs) x = let e = length_more xs x in omega (arith, e)

    at_end : (xs : List Tables) → slice_index_or (xs ++ p ∷ parts) (length xs) [] ≡ p
    at_end [] = refl
    at_end (x ∷ xs) = at_end xs

pub all_read : (parts : List Tables) → parts_at parts (range_with_len 0 (length parts)) ≡ parts
all_read parts = read_from [] parts

pub at_default : (places : List ℕ) (k : ℕ) → k < length places → get_or places k 0 ≡ get_or places k (get_or places k 0)
at_default [] k l = absurd (omega (arith, l))
at_default (p ∷ places) zero l = refl
at_default (p ∷ places) (suc k) l = at_default places k (omega (arith, l))

-- ---- what they read

module _ (beside : Tables) where
  pub read_there : (P : Tables → Type 0) (parts done rest : List Tables) (own : Tables) → parts ≡ done ++ (own ∷ rest) → AllByRecursion P (reads_by beside parts) → P (beside ++ own)
  read_there P parts done rest own e all = in_list done (subst (λ ps. AllByRecursion P (reads_by beside ps)) e all)
    where
      in_list : (ds : List Tables) → AllByRecursion P (reads_by beside (ds ++ (own ∷ rest))) → P (beside ++ own)
      in_list [] h = h.0
      in_list (d ∷ ds) h = in_list ds h.1

  pub any_there : (p : Tables → Bool) (parts done rest : List Tables) (own : Tables) → parts ≡ done ++ (own ∷ rest) → p (beside ++ own) ≡ true → list_any p (reads_by beside parts) ≡ true
  any_there p parts done rest own e h = subst (λ ps. list_any p (reads_by beside ps) ≡ true) (sym e) (in_list done)
    where
      either : (a b : Bool) → b ≡ true → (a || b) ≡ true
      either true b h = refl
      either false b h = h

      in_list : (ds : List Tables) → list_any p (reads_by beside (ds ++ (own ∷ rest))) ≡ true
      in_list [] = ap (λ b. b || list_any p (reads_by beside rest)) h
      in_list (d ∷ ds) = either (p (beside ++ d)) (list_any p (reads_by beside (ds ++ (own ∷ rest)))) (in_list ds)

  -- the same at a place
  pub read_at : (P : Tables → Type 0) (parts : List Tables) (i : ℕ) (own : Tables) → i < length parts → own ≡ get_or parts i own → AllByRecursion P (reads_by beside parts) → P (beside ++ own)
  read_at P parts i own below is all = read_there P parts (take i parts) (drop (suc i) parts) own (split_at parts i own below is) all

  -- of one part more
  pub all_more : {X : Type 0} (f : Tables → X) (parts : List Tables) (k : ℕ) (own : Tables) → k < length parts → own ≡ get_or parts k own →
      map f (reads_by beside (take (k + 1) parts)) ≡ map f (reads_by beside (take k parts)) ++ f (beside ++ own) ∷ []
  all_more f parts k own l e = ap (λ ps. map f (reads_by beside ps)) (one_more parts k own l e) ∙ mapped (take k parts)
    where
      mapped : (ps : List Tables) → map f (reads_by beside (ps ++ own ∷ [])) ≡ map f (reads_by beside ps) ++ f (beside ++ own) ∷ []
      mapped [] = refl
      mapped (p ∷ ps) = ap (λ us. f (beside ++ p) ∷ us) (mapped ps)

  pub none_more : (p : Tables → Bool) (parts : List Tables) (k : ℕ) (own : Tables) → k < length parts → own ≡ get_or parts k own → list_any p (reads_by beside (take k parts)) ≡ false → p (beside ++ own) ≡ false →
      list_any p (reads_by beside (take (k + 1) parts)) ≡ false
  none_more p parts k own l e none here = ap (λ ps. list_any p (reads_by beside ps)) (one_more parts k own l e) ∙ (any_end (take k parts) ∙ (λ i. none i || (here i || false)))
    where
      or_assoc : (a b d : Bool) → (a || (b || d)) ≡ ((a || b) || d)
      or_assoc true b d = refl
      or_assoc false b d = refl

      any_end : (ps : List Tables) → list_any p (reads_by beside (ps ++ own ∷ [])) ≡ (list_any p (reads_by beside ps) || (p (beside ++ own) || false))
      any_end [] = refl
      any_end (q ∷ ps) = ap (λ b. p (beside ++ q) || b) (any_end ps) ∙ or_assoc (p (beside ++ q)) (list_any p (reads_by beside ps)) (p (beside ++ own) || false)

  pub any_at : (p : Tables → Bool) (parts : List Tables) (i : ℕ) (own : Tables) → i < length parts → own ≡ get_or parts i own → p (beside ++ own) ≡ true → list_any p (reads_by beside parts) ≡ true
  any_at p parts i own below is h = any_there p parts (take i parts) (drop (suc i) parts) own (split_at parts i own below is) h
