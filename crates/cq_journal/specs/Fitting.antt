-- Rows that fit their table: one value for each column, of the column's type.
use Rattle.std.specs.Prelude.{◌≡◌, ℕ, ⊤, IsTrue, List, [], ◌∷◌, Some, slice_get}
use Rattle.std.specs.List.{AllByRecursion}
use Rattle.cq_value.specs.declared.value.Value.{Value}
use Rattle.cq_value.specs.declared.value.Value.TheVariants.{Null, Int, Text}
use Rattle.cq_value.specs.declared.schema.Kind.{Kind}
use Rattle.cq_value.specs.declared.schema.Kind.TheVariants as kind
use Rattle.cq_value.specs.declared.schema.Shape.{Shape}
use Rattle.cq_tree.specs.declared.journal.Entry.{Entry}
use Rattle.cq_tree.specs.declared.journal.EntryKind.{EntryKind}
use Rattle.cq_tree.specs.declared.journal.EntryKind.TheVariants.{Read, Write, MoveStart, CatchUp, Cutover, MoveStop}
use Rattle.cq_tree.specs.declared.write.Set.{Set}
use Rattle.cq_tree.specs.declared.write.ShardOp.{ShardOp}
use Rattle.cq_tree.specs.declared.write.ShardOp.TheVariants.{Insert, Update, Remove}
use Rattle.cq_meaning.specs.Values.{Row}
use Rattle.cq_meaning.specs.Expressions.{value_of}
use Rattle.cq_meaning.specs.Effects.{fits_kind, inserts, table_of}

-- a column of numbers has numbers, a column of texts has texts, and each may have NULL
abbrev pub IsOfSort : Kind → Value → Type 0
IsOfSort k Null = ⊤
IsOfSort kind.Bigint (Int x) = ⊤
IsOfSort kind.Integer (Int x) = ⊤
IsOfSort kind.Text (Int x) = ⊥
IsOfSort kind.Bigint (Text t) = ⊥
IsOfSort kind.Integer (Text t) = ⊥
IsOfSort kind.Text (Text t) = ⊤

-- a value of a column's type: a number is in the type's range too (PostgreSQL, "Numeric Types")
abbrev pub IsOfKind : Kind → Value → Type 0
IsOfKind k v = IsOfSort k v × IsTrue (fits_kind k v)

abbrev pub AreOfKinds : List Kind → Row → Type 0
AreOfKinds [] [] = ⊤
AreOfKinds [] (v ∷ vs) = ⊥
AreOfKinds (k ∷ ks) [] = ⊥
AreOfKinds (k ∷ ks) (v ∷ vs) = IsOfKind k v × AreOfKinds ks vs

-- a row has one value for each column, of the column's type
abbrev pub Fits : Shape → Row → Type 0
Fits shape row = AreOfKinds shape.kinds row

-- the inserted rows of an entry fit
abbrev pub InsertFits : (ℕ → Shape) → EntryKind → Type 0
InsertFits shapes Read = ⊤
InsertFits shapes (Write op reply) = AllByRecursion (Fits (shapes (table_of op))) (inserts op)
InsertFits shapes (MoveStart node) = ⊤
InsertFits shapes CatchUp = ⊤
InsertFits shapes Cutover = ⊤
InsertFits shapes MoveStop = ⊤

abbrev pub InsertsFit : (ℕ → Shape) → List Entry → Type 0
InsertsFit shapes es = AllByRecursion (λ (e : Entry). InsertFits shapes e.kind) es

-- the value that is set over a row is of its column's sort. Its range is checked as the write is computed
abbrev pub SetsSort : List Kind → Row → Set → Type 0
SetsSort kinds row s = (k : Kind) → slice_get kinds s.column ≡ Some k → IsOfSort k (value_of s.value row [])

-- over rows that fit, a write sets values of its columns' sorts
abbrev pub WriteSetsSorts : Shape → ShardOp → Type 0
WriteSetsSorts shape (Insert table rows) = ⊤
WriteSetsSorts shape (Update table filter_ sets) = (row : Row) → Fits shape row → AllByRecursion (SetsSort shape.kinds row) sets
WriteSetsSorts shape (Remove table filter_) = ⊤

abbrev pub EntrySetsSorts : (ℕ → Shape) → EntryKind → Type 0
EntrySetsSorts shapes Read = ⊤
EntrySetsSorts shapes (Write op reply) = WriteSetsSorts (shapes (table_of op)) op
EntrySetsSorts shapes (MoveStart node) = ⊤
EntrySetsSorts shapes CatchUp = ⊤
EntrySetsSorts shapes Cutover = ⊤
EntrySetsSorts shapes MoveStop = ⊤

abbrev pub UpdatesSetSorts : (ℕ → Shape) → List Entry → Type 0
UpdatesSetSorts shapes es = AllByRecursion (λ (e : Entry). EntrySetsSorts shapes e.kind) es
