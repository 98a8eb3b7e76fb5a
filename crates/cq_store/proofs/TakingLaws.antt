-- The first spare stores are moved out of a list, one by one: what is out and what stays; and what holds of the parts.
use Rattle.std.proofs.Common.{◌≡◌, ◌⊎◌, inl, inr, Bool, not, cond, All, slice_index_or, vec_capacity, length, count_by, ℕ, zero, suc, ◌+◌, ◌<◌, ◌≤◌, true, false, List, [], ◌∷◌, ◌++◌, map, refl, sym, ap, ◌∙◌, arith, append_assoc, append-nil}
use Rattle.std.proofs.lemmas.Bool.{eqb-true}
use Rattle.std.proofs.lemmas.List.Elements.{All-from_recursion, recursion_from_All, All-map, All-filter, All-take, filter_passes}
use Rattle.std.specs.List.{AllByRecursion, prefix_len, remove}
use Rattle.cq_value.proofs.Truths.{two_ways}
use Rattle.std.proofs.lemmas.List.{map-append, length-map, length-take-le}
use Rattle.std.proofs.lemmas.List.Recursion.{is_count_by}
use Rattle.std.specs.declared.vec.Vec.{Vec}
use Rattle.cq_store.specs.Stores.{StoreState, IsSpare}
use Rattle.cq_store.specs.Workers.{keeps_no_shard, spares, taken, kept, room}

-- where the first spare store of a list stands
abbrev pub first_place : {B : Type 0} → (B → StoreState) → List B → ℕ
first_place view xs = prefix_len (λ x. not (keeps_no_shard (view x))) xs

-- what is taken and kept of a list whose first spare store is x, at the place k
record Steps {B : Type 0} (view : B → StoreState) (m : ℕ) (xs : List B) (k : ℕ) (x : B) : Type 0 where
  takes : taken (suc m) (map view xs) ≡ view x ∷ taken m (map view (remove xs k))
  keeps : kept (suc m) (map view xs) ≡ kept m (map view (remove xs k))

kept_past : (m : ℕ) (s : StoreState) (rest : List StoreState) → keeps_no_shard s ≡ false → kept m (s ∷ rest) ≡ s ∷ kept m rest
kept_past zero s rest f = refl
kept_past (suc m) s rest f = rw f refl

steps_at : {B : Type 0} (view : B → StoreState) (m : ℕ) (xs : List B) (x : B) (k : ℕ) → k ≡ first_place view xs → k < length xs → x ≡ slice_index_or xs k x → Steps view m xs k x
steps_at view m [] x k e h v = absurd (omega arith)
steps_at view m (y ∷ ys) x zero e h v = elim (two_ways (keeps_no_shard (view y))) [
  | inl t ↦ record { takes = rw t (λ i. view (sym v i) ∷ taken m (map view ys)); keeps = rw t refl }
  | inr f ↦ (let bad : 0 ≡ 1 + first_place view ys = (rw f at e) in absurd (omega arith))
]
steps_at view m (y ∷ ys) x (suc k) e h v = elim (two_ways (keeps_no_shard (view y))) [
  | inl t ↦ (let bad : suc k ≡ 0 = (rw t at e) in absurd (omega arith))
  | inr f ↦ (
      let next : suc k ≡ 1 + first_place view ys = (rw f at e) in
      let after : Steps view m ys k x = steps_at view m ys x k (omega arith) (omega arith) v in
      record { takes = rw f after.takes; keeps = rw f (ap (λ r. view y ∷ r) after.keeps ∙ sym (kept_past m (view y) (map view (remove ys k)) f)) })
]

-- where none is spare, none is taken and all are kept
none_spare : {B : Type 0} (view : B → StoreState) (m : ℕ) (xs : List B) → first_place view xs ≡ length xs → (taken m (map view xs) ≡ []) × (kept m (map view xs) ≡ map view xs)
none_spare view zero xs h = (refl, refl)
none_spare view (suc m) [] h = (refl, refl)
none_spare view (suc m) (x ∷ xs) h = elim (two_ways (keeps_no_shard (view x))) [
  | inl t ↦ (let bad : 0 ≡ suc (length xs) = (rw t at h) in absurd (omega arith))
  | inr f ↦ (
      let less : 1 + first_place view xs ≡ suc (length xs) = (rw f at h) in
      let after = none_spare view (suc m) xs (omega arith) in
      rw f (after.0, ap (λ r. view x ∷ r) after.1))
]

-- of all, whose first n spare ones are wanted, m are missing yet
pub record Parts {B : Type 0} (view : B → StoreState) (n : ℕ) (all out : List B) (m : ℕ) (rest : List B) : Type 0 where
  pub takes : taken n (map view all) ≡ map view out ++ taken m (map view rest)
  pub keeps : kept n (map view all) ≡ kept m (map view rest)

-- a list to which one more is put last, by what it is put before
put_last : {B : Type 0} (view : B → StoreState) (xs ys : List B) (x : B) (rest : List StoreState) → ys ≡ xs ++ x ∷ [] → map view xs ++ view x ∷ rest ≡ map view ys ++ rest
put_last view xs ys x rest e = rw (e, map-append view xs (x ∷ [])) (sym (append_assoc (map view xs) (view x ∷ []) rest))

pub parts_one : {B : Type 0} {view : B → StoreState} {n : ℕ} {all out : List B} {a : ℕ} {rest more left : List B} {x : B} (m k : ℕ)
    → Parts view n all out a rest → a ≡ suc m → k ≡ first_place view rest → k < length rest → x ≡ slice_index_or rest k x → more ≡ out ++ x ∷ [] → left ≡ remove rest k
    → Parts view n all more m left
parts_one {view = view} {out = out} {rest = rest} {more = more} {x = x} m k p a e h v o l =
    let here : Steps view m rest k x = steps_at view m rest x k e h v in
    rw l (record {
      takes = (rw a at p.takes) ∙ ap (λ r. map view out ++ r) here.takes ∙ put_last view out more x (taken m (map view (remove rest k))) o;
      keeps = (rw a at p.keeps) ∙ here.keeps;
    })

pub parts_end : {B : Type 0} {view : B → StoreState} {n : ℕ} {all out : List B} {m : ℕ} {rest : List B} → Parts view n all out m rest → (m ≡ 0) ⊎ (first_place view rest ≡ length rest)
    → (map view out ≡ taken n (map view all)) × (map view rest ≡ kept n (map view all))
parts_end {view = view} {out = out} {m = m} {rest = rest} p h =
    let none : (taken m (map view rest) ≡ []) × (kept m (map view rest) ≡ map view rest) = elim h [ inl e ↦ rw e (refl, refl) | inr e ↦ none_spare view m rest e ] in
    (sym (p.takes ∙ rw none.0 (append-nil (map view out))), sym (p.keeps ∙ none.1))

pub spares_counted : {B : Type 0} (view : B → StoreState) (xs : List B) → length (spares (map view xs)) ≡ count_by (λ x. keeps_no_shard (view x)) xs
spares_counted view xs = is_count_by (λ ys. length (spares (map view ys))) (λ y. keeps_no_shard (view y)) refl one_more xs
  where
    one_more : (y : _) (ys : List _) → length (spares (map view (y ∷ ys))) ≡ cond (keeps_no_shard (view y)) (1 + length (spares (map view ys))) (length (spares (map view ys)))
    one_more y ys = let rest = spares (map view ys) in
        elim (keeps_no_shard (view y)) as (λ b. length (cond b (view y ∷ rest) rest) ≡ cond b (1 + length rest) (length rest)) [ true ↦ omega arith | false ↦ refl ]

-- all are taken or kept
pub taken_or_kept : (n : ℕ) (stores : List StoreState) → length (taken n stores) + length (kept n stores) ≡ length stores
taken_or_kept zero stores = omega arith
taken_or_kept (suc n) [] = refl
taken_or_kept (suc n) (s ∷ stores) = by_first (keeps_no_shard s) refl (taken_or_kept n stores) (taken_or_kept (suc n) stores)
  where
    by_first : (b : Bool) → keeps_no_shard s ≡ b → length (taken n stores) + length (kept n stores) ≡ length stores
        → length (taken (suc n) stores) + length (kept (suc n) stores) ≡ length stores
        → length (taken (suc n) (s ∷ stores)) + length (kept (suc n) (s ∷ stores)) ≡ length (s ∷ stores)
    by_first true e p q = rw e (omega arith)
    by_first false e p q = rw e (omega arith)

-- where n are taken there is room for n more
pub room_risen : {B Z : Type 0} (view : B → StoreState) (n : ℕ) (old new : Vec B Z) → n ≤ length (spares (map view old.items)) → map view new.items ≡ kept n (map view old.items)
    → vec_capacity new ≡ vec_capacity old → room new ≡ room old + n
room_risen view n old new enough stays same =
    let all = taken_or_kept n (map view old.items) in
    let out = length-take-le n (spares (map view old.items)) enough in
    let left = ap length stays in
    let before = length-map old.items view in
    let after = length-map new.items view in
    omega (arith, old.ok.0, old.ok.1, new.ok.0)

kept_at : (P : StoreState → Type 0) (n : ℕ) (stores : List StoreState) → AllByRecursion P stores → AllByRecursion P (kept n stores)
kept_at P zero stores h = h
kept_at P (suc n) [] h = tt
kept_at P (suc n) (s ∷ stores) h =
    elim (keeps_no_shard s) as (λ b. AllByRecursion P (cond b (kept n stores) (s ∷ kept (suc n) stores))) [ true ↦ kept_at P n stores h.1 | false ↦ (h.0, kept_at P (suc n) stores h.1) ]

all_seen : {B : Type 0} (view : B → StoreState) (P : StoreState → Type 0) (xs : List B) → AllByRecursion P (map view xs) → AllByRecursion (λ x. P (view x)) xs
all_seen view P [] h = tt
all_seen view P (x ∷ xs) h = (h.0, all_seen view P xs h.1)

-- what holds of each store in a list holds of those that stay
pub kept_all : {B : Type 0} (view : B → StoreState) (P : StoreState → Type 0) (n : ℕ) (old left : List B) → All (λ b. P (view b)) old → map view left ≡ kept n (map view old)
    → All (λ b. P (view b)) left
kept_all view P n old left h e =
    All-from_recursion _ left (all_seen view P left (rw e (kept_at P n (map view old) (recursion_from_All P (map view old) (All-map P view old h)))))

-- where shard 0 means that a store is spare and empty, the stores that are taken are
pub taken_spare_all : {B : Type 0} (view : B → StoreState) (n : ℕ) (old out : List B) → All (λ b. (view b).shard ≡ 0 → IsSpare (view b)) old → map view out ≡ taken n (map view old)
    → All (λ b. IsSpare (view b)) out
taken_spare_all view n old out h e =
    let P : StoreState → Type 0 = λ s. s.shard ≡ 0 → IsSpare s in
    let all : All P (map view old) = All-map P view old h in
    let free : All (λ s. keeps_no_shard s ≡ true) (spares (map view old)) = filter_passes keeps_no_shard (map view old) in
    let both : All IsSpare (spares (map view old)) = λ k d l. All-filter keeps_no_shard P (map view old) all k d l (eqb-true (slice_index_or (spares (map view old)) k d).shard 0 (free k d l)) in
    All-from_recursion _ out (all_seen view IsSpare out (rw e (recursion_from_All IsSpare (taken n (map view old)) (All-take IsSpare n (spares (map view old)) both))))
