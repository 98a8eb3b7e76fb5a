-- The laws on replays.
use Rattle.std.specs.Prelude.{◌≡◌, ◌≢◌, ◌≤◌, ℕ, ⊤, List, [], ◌∷◌, ◌++◌, length, map}
use Rattle.std.specs.List.{AllByRecursion}
use Rattle.cq_value.specs.declared.schema.Shape.{Shape}
use Rattle.cq_value.specs.Tables.{Table, Pair, rows_of}
use Rattle.cq_tree.specs.declared.journal.Entry.{Entry}
use Rattle.cq_tree.specs.declared.journal.EntryKind.{EntryKind}
use Rattle.cq_tree.specs.declared.journal.EntryKind.TheVariants.{Read, Write, MoveStart, CatchUp, Cutover, MoveStop}
use Rattle.cq_tree.specs.declared.write.ShardOp.{ShardOp}
use Rattle.cq_meaning.specs.Values.{Row}
use Rattle.cq_meaning.specs.Effects.{effect, reply_of, row_changes, table_of}
use Rattle.cq_meaning.specs.Widths.{bits_of_kind, Within}
use Rattle.cq_journal.specs.Journals.{replay_from, replay, IsReplied, EachReplied}
use Rattle.cq_journal.specs.Replies.{IsRefusal, IsReplyTo}
use Rattle.cq_journal.specs.Fitting.{Fits, InsertsFit, UpdatesSetSorts}

-- more entries go on from the table that those before them leave; where it is one, that is the table with it entered
abbrev pub ReplayGoesOn : Type 0
ReplayGoesOn = (table : ℕ) (shape : Shape) (es more : List Entry) → replay table shape (es ++ more) ≡ replay_from table shape (replay table shape es) more

-- one more entry that is replied over the entries before it
abbrev pub RepliedGoesOn : Type 0
RepliedGoesOn = (shapes : ℕ → Shape) (es : List Entry) (e : Entry) → EachReplied shapes es → IsReplied shapes es e.kind → EachReplied shapes (es ++ e ∷ [])

-- a write's reply is one of those that its kind can have
abbrev pub RepliesAreKnown : Type 0
RepliesAreKnown = (op : ShardOp) (t : Table) (shape : Shape) → IsReplyTo op (reply_of op t shape)

-- a write that is refused leaves its table, and has no row changes
abbrev pub RefusedChangesNothing : Type 0
RefusedChangesNothing = (op : ShardOp) (t : Table) (shape : Shape) → IsRefusal (reply_of op t shape) → (effect op t shape ≡ t) × (row_changes op t shape ≡ [])

-- an entry is no write of the table
abbrev pub IsNoWriteOf : ℕ → EntryKind → Type 0
IsNoWriteOf table Read = ⊤
IsNoWriteOf table (Write op reply) = table_of op ≢ table
IsNoWriteOf table (MoveStart node) = ⊤
IsNoWriteOf table CatchUp = ⊤
IsNoWriteOf table Cutover = ⊤
IsNoWriteOf table MoveStop = ⊤

-- entries that are no writes of a table leave it
abbrev pub OthersChangeNothing : Type 0
OthersChangeNothing = (table : ℕ) (shape : Shape) (es more : List Entry) → AllByRecursion (λ (e : Entry). IsNoWriteOf table e.kind) more →
    replay table shape (es ++ more) ≡ replay table shape es

-- a table has no more rows than ids that were given
abbrev pub RowsHaveIds : Type 0
RowsHaveIds = (table : ℕ) (shape : Shape) (es : List Entry) → length (rows_of (replay table shape es)) ≤ (replay table shape es).next

abbrev pub NextNeverFalls : Type 0
NextNeverFalls = (table : ℕ) (shape : Shape) (es more : List Entry) → (replay table shape es).next ≤ (replay table shape (es ++ more)).next

-- where inserted rows fit and UPDATEs set values of their columns' sorts, each row that the entries leave fits
abbrev pub RowsFit : Type 0
RowsFit = (shapes : ℕ → Shape) (table : ℕ) (es : List Entry) → InsertsFit shapes es → UpdatesSetSorts shapes es →
    AllByRecursion (Fits (shapes table)) (rows_of (replay table (shapes table) es))

-- a row that fits is within the widths of its columns
abbrev pub FittingIsWithin : Type 0
FittingIsWithin = (shape : Shape) (row : Row) → Fits shape row → Within (map bits_of_kind shape.kinds) row

-- so a write and a query over a replay find rows within these widths
abbrev pub ReplayIsWithin : Type 0
ReplayIsWithin = (shapes : ℕ → Shape) (table : ℕ) (es : List Entry) → InsertsFit shapes es → UpdatesSetSorts shapes es →
    AllByRecursion (λ (p : Pair). Within (map bits_of_kind (shapes table).kinds) p.1) (replay table (shapes table) es).pairs
    × AllByRecursion (Within (map bits_of_kind (shapes table).kinds)) (rows_of (replay table (shapes table) es))
