-- Ids of a chunk: what is read of them is what was written, and the loop that reads them; what is read behind them.
use Rattle.std.proofs.Common.{◌≡◌, ℕ, zero, suc, ◌+◌, ◌-◌, ◌^◌, ◌<◌, ◌≤◌, true, false, cond, ltb, List, [], ◌∷◌, ◌++◌, length, Option, Some, None, refl, sym, ap, subst, ◌∙◌, append_assoc, arith}
use Rattle.std.specs.Int.{w64, to_le_bytes}
use Rattle.std.proofs.lemmas.Bool.{ltb-false, le-ltb, lt-ltb}
use Rattle.std.proofs.lemmas.List.{append-nil}
use Rattle.cq_value.specs.declared.value.Value.{Value}
use Rattle.cq_value.specs.Tables.{Pair}
use Rattle.cq_columnar.specs.declared.fault.ReadError.{ReadError}
use Rattle.cq_columnar.specs.declared.fault.ReadError.TheVariants.{Memory, Malformed}
use Rattle.cq_columnar.specs.Chunks.{ids_bytes}
use Rattle.cq_columnar.specs.Reading.{◌>>=◌, Fails, number_at, ids_at, columns_at, paired, pairs_at, joined, columns_onto, bare}
use Rattle.cq_columnar.proofs.NumberLaws.{AreBytes, wide64}
use Rattle.cq_columnar.proofs.FieldLaws.{bind_some, passed, one_value, Takes, takes_both, number_takes, number_again}

-- ---- what is written

-- each is at least so great, above the one before, and one of 64 bits
abbrev pub Rises : ℕ → List ℕ → Type 0
Rises low [] = Unit {0}
Rises low (id ∷ ids) = (low ≤ id) × (id < 2 ^ 64) × Rises (id + 1) ids

pub ids_take : (count low : ℕ) (bytes : List ℕ) (x : List ℕ × List ℕ) → AreBytes bytes → ids_at count low bytes ≡ Some x → Takes bytes (ids_bytes x.0) x.1 × (length x.0 ≡ count) × Rises low x.0
unfolding ids_at
ids_take zero low bytes x small e =
    subst (λ (y : List ℕ × List ℕ). Takes bytes (ids_bytes y.0) y.1 × (length y.0 ≡ 0) × Rises low y.0) (one_value ([], bytes) x e) (record { parts = refl; small = small }, refl, tt)
ids_take (suc count) low bytes x small e =
    let a = bind_some (number_at w64 bytes) (λ id. cond (ltb id.0 low) None (ids_at count (id.0 + 1) id.1 >>= λ ids. Some (id.0 ∷ ids.0, ids.1))) x e in
    let g = passed (ltb a.0.0 low) (ids_at count (a.0.0 + 1) a.0.1 >>= λ ids. Some (a.0.0 ∷ ids.0, ids.1)) x a.2 in
    let b = bind_some (ids_at count (a.0.0 + 1) a.0.1) (λ ids. Some (a.0.0 ∷ ids.0, ids.1)) x g.1 in
    let t = number_takes w64 (2 ^ 64) wide64 bytes a.0 small a.1 in
    let ts = ids_take count (a.0.0 + 1) a.0.1 b.0 t.0.small b.1 in
    subst (λ (y : List ℕ × List ℕ). Takes bytes (ids_bytes y.0) y.1 × (length y.0 ≡ suc count) × Rises low y.0) (one_value (a.0.0 ∷ b.0.0, b.0.1) x b.2)
    (takes_both bytes (to_le_bytes w64 a.0.0) a.0.1 (ids_bytes b.0.0) b.0.1 t.0 ts.0, ap suc ts.1, (ltb-false _ _ g.0, t.1, ts.2))

pub ids_again : (ids : List ℕ) (low : ℕ) (rest : List ℕ) → Rises low ids → ids_at (length ids) low (ids_bytes ids ++ rest) ≡ Some (ids, rest)
unfolding ids_at
ids_again [] low rest rises = refl
ids_again (id ∷ ids) low rest rises =
    let above : ltb id low ≡ false = le-ltb _ _ rises.0 in
    ap (ids_at (suc (length ids)) low) (append_assoc (to_le_bytes w64 id) (ids_bytes ids) rest)
    ∙ rw (number_again w64 (2 ^ 64) wide64 id (ids_bytes ids ++ rest) rises.1, above, ids_again ids (id + 1) rest rises.2) refl

-- ---- id by id

pub ids_length : (count low : ℕ) (bytes : List ℕ) (x : List ℕ × List ℕ) → ids_at count low bytes ≡ Some x → length x.0 ≡ count
unfolding ids_at
ids_length zero low bytes x e = ap (λ (y : List ℕ × List ℕ). length y.0) (sym (one_value ([], bytes) x e))
ids_length (suc count) low bytes x e =
    let a = bind_some (number_at w64 bytes) (λ id. cond (ltb id.0 low) None (ids_at count (id.0 + 1) id.1 >>= λ ids. Some (id.0 ∷ ids.0, ids.1))) x e in
    let g = passed (ltb a.0.0 low) (ids_at count (a.0.0 + 1) a.0.1 >>= λ ids. Some (a.0.0 ∷ ids.0, ids.1)) x a.2 in
    let b = bind_some (ids_at count (a.0.0 + 1) a.0.1) (λ ids. Some (a.0.0 ∷ ids.0, ids.1)) x g.1 in
    ap (λ (y : List ℕ × List ℕ). length y.0) (sym (one_value (a.0.0 ∷ b.0.0, b.0.1) x b.2)) ∙ ap suc (ids_length count (a.0.0 + 1) a.0.1 b.0 b.1)

-- the ids so far, and those that are still read
abbrev pub ids_from : List ℕ → ℕ → ℕ → List ℕ → Option (List ℕ × List ℕ)
ids_from front count low bytes = ◌>>=◌ {B = List ℕ × List ℕ} (ids_at count low bytes) (λ x. Some (front ++ x.0, x.1))

front_both : (front : List ℕ) (id : ℕ) (read : Option (List ℕ × List ℕ)) →
    ◌≡◌ {A = Option (List ℕ × List ℕ)} (◌>>=◌ {B = List ℕ × List ℕ} (◌>>=◌ {B = List ℕ × List ℕ} read (λ x. Some (id ∷ x.0, x.1))) (λ x. Some (front ++ x.0, x.1))) (read >>= λ x. Some ((front ++ id ∷ []) ++ x.0, x.1))
front_both front id None = refl
front_both front id (Some x) = ap (λ (is : List ℕ). Some (is, x.1)) (sym (append_assoc front (id ∷ []) x.0))

pub id_more : (i count low : ℕ) (front : List ℕ) (bytes after : List ℕ) (id : ℕ) (total : Option (List ℕ × List ℕ)) → i < count → number_at w64 bytes ≡ Some (id, after) → low ≤ id →
    ids_from front (count - i) low bytes ≡ total → ids_from (front ++ id ∷ []) (count - (i + 1)) (id + 1) after ≡ total
unfolding ids_at
id_more i count low front bytes after id total lt one least so_far =
    let k : count - i ≡ suc (count - (i + 1)) = omega (arith, lt) in
    let above : ltb id low ≡ false = le-ltb _ _ least in
    let first : ids_from front (count - i) low bytes ≡ ids_from (front ++ id ∷ []) (count - (i + 1)) (id + 1) after = rw (k, one, above) (front_both front id (ids_at (count - (i + 1)) (id + 1) after)) in
    sym first ∙ so_far

pub id_fails : (e : ReadError) (i count low : ℕ) (front : List ℕ) (bytes : List ℕ) (total : Option (List ℕ × List ℕ)) → i < count → Fails e (number_at w64 bytes) → ids_from front (count - i) low bytes ≡ total → Fails e total
unfolding ids_at
id_fails Memory i count low front bytes total lt one so_far = tt
id_fails Malformed i count low front bytes total lt one so_far =
    let k : count - i ≡ suc (count - (i + 1)) = omega (arith, lt) in
    let none : ids_from front (count - i) low bytes ≡ None = rw (k, one) refl in
    sym so_far ∙ none

pub id_falls : (i count low : ℕ) (front : List ℕ) (bytes after : List ℕ) (id : ℕ) (total : Option (List ℕ × List ℕ)) → i < count → number_at w64 bytes ≡ Some (id, after) → id < low → ids_from front (count - i) low bytes ≡ total → total ≡ None
unfolding ids_at
id_falls i count low front bytes after id total lt one less so_far =
    let k : count - i ≡ suc (count - (i + 1)) = omega (arith, lt) in
    let below : ltb id low ≡ true = lt-ltb id low less in
    let none : ids_from front (count - i) low bytes ≡ None = rw (k, one, below) refl in
    sym so_far ∙ none

pub ids_done : (i count low : ℕ) (front : List ℕ) (bytes : List ℕ) (total : Option (List ℕ × List ℕ)) → count ≤ i → ids_from front (count - i) low bytes ≡ total → total ≡ Some (front, bytes)
unfolding ids_at
ids_done i count low front bytes total le so_far =
    let k : count - i ≡ 0 = omega (arith, le) in
    let done : ids_from front (count - i) low bytes ≡ Some (front, bytes) = rw k (ap (λ (is : List ℕ). Some (is, bytes)) (append-nil front)) in
    sym so_far ∙ done

-- ---- ids and columns

bare_length : (ids : List ℕ) → length (bare ids) ≡ length ids
bare_length [] = refl
bare_length (id ∷ ids) = ap suc (bare_length ids)

bare_joined : (ids : List ℕ) (rows : List (List Value)) → joined (bare ids) rows ≡ paired ids rows
bare_joined [] rows = refl
bare_joined (id ∷ ids) [] = refl
bare_joined (id ∷ ids) (row ∷ rows) = λ i. (id, row) ∷ bare_joined ids rows i

-- what is put behind drafts without values is what is read behind the ids
pub pairs_are : (count columns : ℕ) (bytes ids rest : List ℕ) → ids_at count 0 bytes ≡ Some (ids, rest) → pairs_at count columns bytes ≡ columns_onto (bare ids) columns rest
unfolding pairs_at columns_onto
pairs_are count columns bytes ids rest e =
    let len : length (bare ids) ≡ count = bare_length ids ∙ ids_length count 0 bytes (ids, rest) e in
    rw (e, len) (same (columns_at count columns rest))
  where
    same : (read : Option (List (List Value) × List ℕ)) →
        ◌≡◌ {A = Option (List Pair × List ℕ)} (read >>= λ rows. Some (paired ids rows.0, rows.1)) (read >>= λ rows. Some (joined (bare ids) rows.0, rows.1))
    same None = refl
    same (Some y) = ap (λ (ps : List Pair). Some (ps, y.1)) (sym (bare_joined ids y.0))

pub no_pairs : (count columns : ℕ) (bytes : List ℕ) (e : ReadError) → Fails e (ids_at count 0 bytes) → Fails e (pairs_at count columns bytes)
unfolding pairs_at
no_pairs count columns bytes Memory e = tt
no_pairs count columns bytes Malformed e = rw e refl
