-- The columns, the key and the name of a new table.
use Rattle.std.proofs.Common.{◌≡◌, ℕ, Bool, true, false, not, List, ◌++◌, Result, Ok, Err, IsErrAnd, refl}
use Rattle.cq_value.specs.declared.schema.Column.{Column}
use Rattle.cq_grammar.specs.declared.name.Name.{Name}
use Rattle.cq_grammar.specs.declared.statement.ColumnDef.{ColumnDef}
use Rattle.cq_reading.specs.declared.error.BindError.{BindError}
use Rattle.cq_reading.specs.Outcomes.{Judges}
use Rattle.cq_reading.specs.Steps.{Reading, give, provided}
use Rattle.cq_reading.specs.Statements.{columns_from, key_of, primary_from}
use Rattle.cq_bind_statements.proofs.JudgeLaws.{then_ok, then_err}

pub key_err : (columns slice : List Column) (defs : List ColumnDef) (names : List Name) (e : BindError) (o : Result (List ℕ) BindError)
    → slice ≡ columns → Judges (columns_from slice names) (Err e) → IsErrAnd o (λ y. y ≡ e) → Judges (key_of columns defs names) o
key_err columns slice defs names e o p h k = rw (← p) (then_err (columns_from slice names) (λ is. give (primary_from 0 defs ++ is)) e o h k)

pub key_ok : (columns slice : List Column) (defs : List ColumnDef) (names : List Name) (is listed ps all : List ℕ)
    → slice ≡ columns → Judges (columns_from slice names) (Ok is) → ps ≡ primary_from 0 defs → listed ≡ is → all ≡ ps ++ listed
    → Judges (key_of columns defs names) (Ok all)
key_ok columns slice defs names is listed ps all p h q r s =
    rw (← p) (then_ok (columns_from slice names) (λ is. give (primary_from 0 defs ++ is)) is (Ok all) h (λ found. rw (s, q, r) refl))

pub free : {A : Type 0} (b : Bool) (e : BindError) (r : Reading A) (o : Result A BindError) → b ≡ false → Judges r o → Judges (provided (not b) e r) o
free true e r o p h = cc
free false e r o p h = h
