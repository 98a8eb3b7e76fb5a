-- Columns of a chunk: what is read of them is what was written, and it is read again.
use Rattle.std.proofs.Common.{◌≡◌, ℕ, zero, suc, List, [], ◌∷◌, ◌++◌, map, length, replicate, Some, refl, sym, ap, subst, ◌∙◌, append_assoc, arith}
use Rattle.std.specs.List.{AllByRecursion}
use Rattle.cq_value.proofs.Lists.{length_map}
use Rattle.cq_value.specs.declared.value.Value.{Value}
use Rattle.cq_columnar.specs.Chunks.{first, others, column_bytes, columns_bytes}
use Rattle.cq_columnar.specs.Reading.{◌>>=◌, column_at, columns_at, with_column}
use Rattle.cq_columnar.proofs.NumberLaws.{AreBytes}
use Rattle.cq_columnar.proofs.FieldLaws.{bind_some, one_value, Takes, takes_both, column_takes, column_again, Keeps}

-- ---- rows with another column

firsts_with : (vs : List Value) (rows : List (List Value)) → length vs ≡ length rows → map first (with_column vs rows) ≡ vs
firsts_with [] [] len = refl
firsts_with [] (row ∷ rows) len = absurd (omega (arith, len))
firsts_with (v ∷ vs) [] len = absurd (omega (arith, len))
firsts_with (v ∷ vs) (row ∷ rows) len = ap (λ us. v ∷ us) (firsts_with vs rows (omega (arith, len)))

others_with : (vs : List Value) (rows : List (List Value)) → length vs ≡ length rows → map others (with_column vs rows) ≡ rows
others_with [] [] len = refl
others_with [] (row ∷ rows) len = absurd (omega (arith, len))
others_with (v ∷ vs) [] len = absurd (omega (arith, len))
others_with (v ∷ vs) (row ∷ rows) len = ap (λ rs. row ∷ rs) (others_with vs rows (omega (arith, len)))

length_with : (vs : List Value) (rows : List (List Value)) → length vs ≡ length rows → length (with_column vs rows) ≡ length rows
length_with [] [] len = refl
length_with [] (row ∷ rows) len = absurd (omega (arith, len))
length_with (v ∷ vs) [] len = absurd (omega (arith, len))
length_with (v ∷ vs) (row ∷ rows) len = ap suc (length_with vs rows (omega (arith, len)))

even_with : (vs : List Value) (rows : List (List Value)) (k : ℕ) → AllByRecursion (λ row. length row ≡ k) rows → AllByRecursion (λ row. length row ≡ suc k) (with_column vs rows)
even_with [] rows k even = tt
even_with (v ∷ vs) [] k even = tt
even_with (v ∷ vs) (row ∷ rows) k even = (ap suc even.0, even_with vs rows k even.1)

keep_with : (vs : List Value) (rows : List (List Value)) → AllByRecursion Keeps vs → AllByRecursion (λ row. AllByRecursion Keeps row) rows → AllByRecursion (λ row. AllByRecursion Keeps row) (with_column vs rows)
keep_with [] rows ks keep = tt
keep_with (v ∷ vs) [] ks keep = tt
keep_with (v ∷ vs) (row ∷ rows) ks keep = ((ks.0, keep.0), keep_with vs rows ks.1 keep.1)

parted : (rows : List (List Value)) (k : ℕ) → AllByRecursion (λ row. length row ≡ suc k) rows → with_column (map first rows) (map others rows) ≡ rows
parted [] k even = refl
parted ([] ∷ rows) k even = absurd (omega (arith, even.0))
parted ((v ∷ vs) ∷ rows) k even = ap (λ rs. (v ∷ vs) ∷ rs) (parted rows k even.1)

even_others : (rows : List (List Value)) (k : ℕ) → AllByRecursion (λ row. length row ≡ suc k) rows → AllByRecursion (λ row. length row ≡ k) (map others rows)
even_others [] k even = tt
even_others ([] ∷ rows) k even = absurd (omega (arith, even.0))
even_others ((v ∷ vs) ∷ rows) k even = (omega (arith, even.0), even_others rows k even.1)

keep_firsts : (rows : List (List Value)) (k : ℕ) → AllByRecursion (λ row. length row ≡ suc k) rows → AllByRecursion (λ row. AllByRecursion Keeps row) rows → AllByRecursion Keeps (map first rows)
keep_firsts [] k even keep = tt
keep_firsts ([] ∷ rows) k even keep = absurd (omega (arith, even.0))
keep_firsts ((v ∷ vs) ∷ rows) k even keep = (keep.0.0, keep_firsts rows k even.1 keep.1)

keep_others : (rows : List (List Value)) (k : ℕ) → AllByRecursion (λ row. length row ≡ suc k) rows → AllByRecursion (λ row. AllByRecursion Keeps row) rows → AllByRecursion (λ row. AllByRecursion Keeps row) (map others rows)
keep_others [] k even keep = tt
keep_others ([] ∷ rows) k even keep = absurd (omega (arith, even.0))
keep_others ((v ∷ vs) ∷ rows) k even keep = (keep.0.1, keep_others rows k even.1 keep.1)

-- ---- columns

length_none : (count : ℕ) → length (replicate {A = List Value} count []) ≡ count
length_none zero = refl
length_none (suc count) = ap suc (length_none count)

none_even : (count : ℕ) → AllByRecursion (λ (row : List Value). length row ≡ 0) (replicate count [])
none_even zero = tt
none_even (suc count) = (refl, none_even count)

none_keep : (count : ℕ) → AllByRecursion (λ row. AllByRecursion Keeps row) (replicate count [])
none_keep zero = tt
none_keep (suc count) = (tt, none_keep count)

all_none : (rows : List (List Value)) → AllByRecursion (λ row. length row ≡ 0) rows → replicate (length rows) [] ≡ rows
all_none [] even = refl
all_none ([] ∷ rows) even = ap (λ rs. [] ∷ rs) (all_none rows even.1)
all_none ((v ∷ vs) ∷ rows) even = absurd (omega (arith, even.0))

-- so many rows of so many values
pub record AreColumns (count columns : ℕ) (rows : List (List Value)) : Type 0 where
  pub len : length rows ≡ count
  pub even : AllByRecursion (λ row. length row ≡ columns) rows
  pub keep : AllByRecursion (λ row. AllByRecursion Keeps row) rows

pub columns_take : (count columns : ℕ) (bytes : List ℕ) (x : List (List Value) × List ℕ) → AreBytes bytes → columns_at count columns bytes ≡ Some x → Takes bytes (columns_bytes columns x.0) x.1 × AreColumns count columns x.0
unfolding columns_at
columns_take count zero bytes x small e =
    subst (λ (y : List (List Value) × List ℕ). Takes bytes (columns_bytes 0 y.0) y.1 × AreColumns count 0 y.0) (one_value (replicate count [], bytes) x e)
    (record { parts = refl; small = small }, record { len = length_none count; even = none_even count; keep = none_keep count })
columns_take count (suc columns) bytes x small e =
    let a = bind_some (column_at count bytes) (λ vs. columns_at count columns vs.1 >>= λ rows. Some (with_column vs.0 rows.0, rows.1)) x e in
    let b = bind_some (columns_at count columns a.0.1) (λ rows. Some (with_column a.0.0 rows.0, rows.1)) x a.2 in
    let t = column_takes count bytes a.0 small a.1 in
    let ts = columns_take count columns a.0.1 b.0 t.0.small b.1 in
    let len : length a.0.0 ≡ length b.0.0 = t.1 ∙ sym ts.1.len in
    let both = takes_both bytes (column_bytes a.0.0) a.0.1 (columns_bytes columns b.0.0) b.0.1 t.0 ts.0 in
    let text : column_bytes a.0.0 ++ columns_bytes columns b.0.0 ≡ columns_bytes (suc columns) (with_column a.0.0 b.0.0) = rw (firsts_with a.0.0 b.0.0 len, others_with a.0.0 b.0.0 len) refl in
    subst (λ (y : List (List Value) × List ℕ). Takes bytes (columns_bytes (suc columns) y.0) y.1 × AreColumns count (suc columns) y.0) (one_value (with_column a.0.0 b.0.0, b.0.1) x b.2) (
      subst (λ (text : List ℕ). Takes bytes text b.0.1) text both,
      record {
        len = length_with a.0.0 b.0.0 len ∙ ts.1.len;
        even = even_with a.0.0 b.0.0 columns ts.1.even;
        keep = keep_with a.0.0 b.0.0 t.2 ts.1.keep;
      },
    )

pub columns_again : (count columns : ℕ) (rows : List (List Value)) (rest : List ℕ) → AreColumns count columns rows → columns_at count columns (columns_bytes columns rows ++ rest) ≡ Some (rows, rest)
unfolding columns_at
columns_again count zero rows rest are = ap (λ (rs : List (List Value)). Some (rs, rest)) (ap (λ k. replicate k []) (sym are.len) ∙ all_none rows are.even)
columns_again count (suc columns) rows rest are =
    let more = columns_again count columns (map others rows) rest (record { len = length_map others rows ∙ are.len; even = even_others rows columns are.even; keep = keep_others rows columns are.even are.keep }) in
    ap (columns_at count (suc columns)) (append_assoc (column_bytes (map first rows)) (columns_bytes columns (map others rows)) rest)
    ∙ rw (column_again (map first rows) (columns_bytes columns (map others rows) ++ rest) count (length_map first rows ∙ are.len) (keep_firsts rows columns are.even are.keep), more, parted rows columns are.even) refl
