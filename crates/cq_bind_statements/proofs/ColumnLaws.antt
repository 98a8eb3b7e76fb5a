-- Columns that are named in turn, and all in order.
use Rattle.std.proofs.Common.{◌≡◌, ◌<◌, ℕ, suc, zero, ◌+◌, List, [], ◌∷◌, ◌++◌, Result, Ok, Err, length, refl, ap, subst, arith, add-one}
use Rattle.cq_value.specs.declared.schema.Column.{Column}
use Rattle.cq_grammar.specs.declared.name.Name.{Name}
use Rattle.cq_reading.specs.declared.error.BindError.{BindError}
use Rattle.cq_reading.specs.Outcomes.{Judges}
use Rattle.cq_reading.specs.Statements.{column_of, columns_from, columns_of, count_from}

count_last : (i n : ℕ) → count_from i (suc n) ≡ count_from i n ++ (i + n) ∷ []
count_last i zero = let e : i + 0 ≡ i = omega arith in rw e refl
count_last i (suc n) = let e : i + suc n ≡ i + 1 + n = omega arith in rw e (ap (λ z. i ∷ z) (count_last (i + 1) n))

pub count_next : (i : ℕ) (ps qs : List ℕ) → ps ≡ count_from 0 i → qs ≡ ps ++ i ∷ [] → qs ≡ count_from 0 (i + 1)
count_next i ps qs p q =
    let z : 0 + i ≡ i = omega arith in
    let c : count_from 0 (suc i) ≡ count_from 0 i ++ i ∷ [] = rw z at (count_last 0 i) in
    rw (add-one, c, q, p) refl

pub listed : (columns : List Column) (names : List Name) (o : Result (List ℕ) BindError) → 0 < length names
    → Judges (columns_from columns names) o → Judges (columns_of columns names) o
listed columns [] o l h = absurd (omega arith)
listed columns (n ∷ ns) o l h = h

pub beside_ok : (columns : List Column) (at before : List ℕ) (name : Name) (k : ℕ) → at ≡ before
    → Judges (column_of columns at name) (Ok k) → Judges (column_of columns before name) (Ok k)
beside_ok columns at before name k p h = subst (λ (z : List ℕ). Judges (column_of columns z name) (Ok k)) p h

pub beside_err : (columns : List Column) (at before : List ℕ) (name : Name) (e : BindError) → at ≡ before
    → Judges (column_of columns at name) (Err e) → Judges (column_of columns before name) (Err e)
beside_err columns at before name e p h = subst (λ (z : List ℕ). Judges (column_of columns z name) (Err e)) p h
