-- What a write does to a numbered table, what it replies, and the row changes that it comes to.
use Rattle.std.specs.Prelude.{ℕ, ℤ, pos, negsuc, ◌+◌, ◌^◌, ◌<◌, ⊤, List, [], ◌∷◌, ◌++◌, map, filter, fold, length, slice_set, All, Bool, true, false, not, ◌&&◌, ◌||◌, if◌then◌else◌, nat_lt}
use Rattle.std.specs.List.{list_any, list_all}
use Rattle.cq_value.specs.declared.value.Value.{Value}
use Rattle.cq_value.specs.declared.value.Value.TheVariants.{Int}
use Rattle.cq_value.specs.declared.schema.Kind.{Kind}
use Rattle.cq_value.specs.declared.schema.Kind.TheVariants as kind
use Rattle.cq_value.specs.declared.schema.Shape.{Shape}
use Rattle.cq_value.specs.declared.change.Change.{Change}
use Rattle.cq_value.specs.declared.change.Change.TheVariants.{Add, Put, Drop}
use Rattle.cq_value.specs.Tables.{Table, Pair, rows_of}
use Rattle.cq_tree.specs.declared.expression.Cond.{Cond}
use Rattle.cq_tree.specs.declared.write.Set.{Set}
use Rattle.cq_tree.specs.declared.write.ShardOp.{ShardOp}
use Rattle.cq_tree.specs.declared.write.ShardOp.TheVariants.{Insert, Update, Remove}
use Rattle.cq_tree.specs.declared.write.Reply.{Reply}
use Rattle.cq_tree.specs.declared.write.Reply.TheVariants.{Count, Duplicate, OutOfRange}
use Rattle.cq_meaning.specs.Values.{Row, column, same_value}
use Rattle.cq_meaning.specs.Expressions.{value_of, keeps}
use Rattle.cq_meaning.specs.Safety.{IsSafe, IsSafeCondition}

-- the table that a write names
abbrev pub table_of : ShardOp → ℕ
table_of (Insert table rows) = table
table_of (Update table filter_ sets) = table
table_of (Remove table filter_) = table

-- the rows that a write inserts
abbrev pub inserts : ShardOp → List Row
inserts (Insert table rows) = rows
inserts (Update table filter_ sets) = []
inserts (Remove table filter_) = []

-- keys

-- whether two rows have the same values in the key's columns
abbrev pub same_key : List ℕ → Row → Row → Bool
same_key key x y = list_all (λ place. same_value (column x place) (column y place)) key

-- whether one of the rows has the row's primary key. A table without a primary key has none taken
abbrev pub is_taken : List ℕ → List Row → Row → Bool
is_taken [] rows row = false
is_taken (place ∷ key) rows row = list_any (same_key (place ∷ key) row) rows

-- whether an inserted row has the primary key of a row that is there, or of an inserted row before it
abbrev pub repeats : List ℕ → List Row → List Row → Bool
repeats key there [] = false
repeats key there (row ∷ rows) = is_taken key there row || repeats key (there ++ row ∷ []) rows

-- types

-- whether a number lies from -2^k to 2^k - 1
abbrev pub in_bits : ℕ → ℤ → Bool
in_bits k (pos n) = nat_lt n (2 ^ k)
in_bits k (negsuc n) = nat_lt n (2 ^ k)

-- whether a value is one of its column's type, NULL being one of each
abbrev pub fits_kind : Kind → Value → Bool
fits_kind kind.Bigint (Int x) = in_bits 63 x
fits_kind kind.Integer (Int x) = in_bits 31 x
fits_kind k v = true

abbrev pub fits_kinds : List Kind → Row → Bool
fits_kinds [] row = true
fits_kinds (k ∷ ks) [] = true
fits_kinds (k ∷ ks) (v ∷ vs) = fits_kind k v && fits_kinds ks vs

-- rows that UPDATE and DELETE change

abbrev pub is_kept : Cond → Pair → Bool
is_kept filter_ p = keeps filter_ [] p.1

-- a row with one new value, which is computed over the row as it was
abbrev pub with_set : Row → Row → Set → Row
with_set old new s = slice_set new s.column (value_of s.value old [])

-- a row after an UPDATE
abbrev pub updated : List Set → Row → Row
updated sets row = fold (with_set row) row sets

-- the rows that an UPDATE would store
abbrev pub updates : Cond → List Set → List Pair → List Row
updates filter_ sets pairs = map (λ p. updated sets p.1) (filter (is_kept filter_) pairs)

abbrev pub fit_kinds : List Kind → List Row → Bool
fit_kinds kinds rows = list_all (fits_kinds kinds) rows

-- the reply of a write over a table
abbrev pub reply_of : ShardOp → Table → Shape → Reply
reply_of (Insert table rows) t shape = if repeats shape.key (rows_of t) rows then Duplicate else Count (length rows)
reply_of (Update table filter_ sets) t shape =
    if fit_kinds shape.kinds (updates filter_ sets t.pairs) then Count (length (filter (is_kept filter_) t.pairs)) else OutOfRange
reply_of (Remove table filter_) t shape = Count (length (filter (is_kept filter_) t.pairs))

-- rows with the ids from n on
abbrev pub numbered : ℕ → List Row → List Pair
numbered n [] = []
numbered n (row ∷ rows) = (n, row) ∷ numbered (n + 1) rows

-- the table with the rows at its end, under the next ids
abbrev pub with_rows : Table → List Row → Table
with_rows t rows = record { next = t.next + length rows; pairs = t.pairs ++ numbered t.next rows }

-- a row that the filter keeps as it is after the UPDATE, under its id
abbrev pub renewed : Cond → List Set → Pair → Pair
renewed filter_ sets p = if is_kept filter_ p then (p.0, updated sets p.1) else p

-- the table after a write: as before where the write is refused
abbrev pub effect : ShardOp → Table → Shape → Table
effect (Insert table rows) t shape = if repeats shape.key (rows_of t) rows then t else with_rows t rows
effect (Update table filter_ sets) t shape =
    if fit_kinds shape.kinds (updates filter_ sets t.pairs) then record { next = t.next; pairs = map (renewed filter_ sets) t.pairs } else t
effect (Remove table filter_) t shape = record { next = t.next; pairs = filter (λ p. not (is_kept filter_ p)) t.pairs }

-- one Add for each inserted row
abbrev pub adds : ℕ → List Row → List Change
adds n rows = map (λ p. Add p.0 p.1) (numbered n rows)

-- one Put for each row that an UPDATE's filter keeps
abbrev pub puts : Cond → List Set → List Pair → List Change
puts filter_ sets pairs = map (λ p. Put p.0 (updated sets p.1)) (filter (is_kept filter_) pairs)

-- one Drop for each deleted row
abbrev pub drops : Cond → List Pair → List Change
drops filter_ pairs = map (λ p. Drop p.0) (filter (is_kept filter_) pairs)

-- the row changes of a write, and none where it is refused
abbrev pub row_changes : ShardOp → Table → Shape → List Change
row_changes (Insert table rows) t shape = if repeats shape.key (rows_of t) rows then [] else adds t.next rows
row_changes (Update table filter_ sets) t shape = if fit_kinds shape.kinds (updates filter_ sets t.pairs) then puts filter_ sets t.pairs else []
row_changes (Remove table filter_) t shape = drops filter_ t.pairs

-- what the computation of a write needs, over each row of its table
abbrev pub IsSafeWrite : ShardOp → List Pair → Type 0
IsSafeWrite (Insert table rows) pairs = ⊤
IsSafeWrite (Update table filter_ sets) pairs =
    All (λ p. IsSafeCondition filter_ p.1 []) pairs
    × All (λ p. All (λ s. IsSafe s.value p.1 []) sets) pairs
    × All (λ p. All (λ s. s.column < length p.1) sets) pairs
IsSafeWrite (Remove table filter_) pairs = All (λ p. IsSafeCondition filter_ p.1 []) pairs
